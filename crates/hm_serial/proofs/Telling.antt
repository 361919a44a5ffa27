-- In every legal journal the edits of an undo tell what they find.
use Rattle.std.proofs.Common.{◌≡◌, ℕ, List, [], ◌∷◌, true, false, cond, Option, Some, None, refl, ap, sym, ◌∙◌, subst, inl, inr}
use Rattle.std.proofs.lemmas.Bool.{cases_eq}
use Rattle.std.proofs.lemmas.Option.{none-some, same_Some}
use Rattle.hm_data.specs.declared.answer.Answer.{Answer}
use Rattle.hm_data.specs.declared.entry.Entry.TheVariants as entry_is
use Rattle.hm_model.specs.Answers.{last_answer}
use Rattle.hm_data.specs.declared.args.Args.{Args}
use Rattle.hm_data.specs.declared.catalog.CatKey.{CatKey}
use Rattle.hm_data.specs.declared.catalog.Edit.{Edit}
use Rattle.hm_model.specs.Catalog.{Catalog, cat, edited}
use Rattle.hm_model.specs.Keys.{same_key}
use Rattle.hm_model.specs.Reads.{covers}
use Rattle.hm_model.specs.Undoing.{undo_edits}
use Rattle.hm_model.specs.Journal.{Past}
use Rattle.hm_model.specs.Phase.{root_ended}
use Rattle.hm_model.specs.Rules.{IsLegal}
use Rattle.hm_model.specs.Tree.{Node, node_of, root_of}
use Rattle.hm_model.specs.Undo.{Undoable, stack}
use Rattle.hm_model.proofs.Trees.{does_of, down_rooted, grown_all, sheets_stay, start_none, step_of, still_there, submit_rooted}
use Rattle.hm_model.proofs.UndoMakes.{IsUndoOf}
use Rattle.hm_model.specs.GoingBack.{Tells}
use Rattle.hm_serial.specs.Theorem.{UndosTell}
use Rattle.hm_serial.proofs.Backs.{AllTell}
use Rattle.hm_serial.proofs.FallAll.{held_before, edits_are, falls_all, sick, stack_now, stack_off, step_aside, top, u, undo_aside, undo_back, undo_holds, undo_within}
use Rattle.hm_serial.proofs.Apart.{step_top}
use Rattle.hm_serial.proofs.Frame.{AllWithin, cover_guards}
use Rattle.hm_serial.proofs.Local.{Within, within_others}
use Rattle.hm_serial.proofs.FallStep.{own_aside, own_root, tells_now, within_now}
use Rattle.hm_serial.proofs.Fallen.{MayFall, may_on}
use Rattle.hm_model.proofs.Tops.{TopHolds, TopIs}
use Rattle.hm_serial.proofs.Standing.{holds_left, step_left, step_open}

abbrev IsTelling : Past → Type 0
IsTelling J = (r : ℕ) (node : Node) → TopHolds J r node → MayFall J r node → AllTell (stack J r) (cat J)

-- before its first step a root has nothing to undo
told_before : (J : Past) → IsLegal J → (R : ℕ) (own : Node) → TopIs J R own → root_ended J R ≡ false → IsTelling J → MayFall J R own → (o : Option Answer) → last_answer J R ≡ o → AllTell (stack J R) (cat J)
told_before J legal R own at open_at tells m None e = subst (λ l. AllTell l (cat J)) (sym ((falls_all J legal).falls.fresh R own at e).0) tt
told_before J legal R own at open_at tells m (Some answer) e = tells R own (at, (λ none. none-some answer (sym none ∙ e)), open_at) m

-- what steps tell, they tell of a catalog with the same rows where their edits are
same_edits : (args : Args) (edits : List Edit) → Within args edits → (a b : Catalog) → ((key : CatKey) → covers args key ≡ true → a key ≡ b key) → Tells edits a → Tells edits b
same_edits args [] within a b same told = tt
same_edits args (edit ∷ edits) within a b same told = (told.0 ∙ same edit.key within.0, same_edits args edits within.1 _ _ (λ key c. ap (cond (same_key key edit.key) edit.after) (same key c)) told.1)

same_within : (args : Args) (steps : List Undoable) → AllWithin args steps → (a b : Catalog) → ((key : CatKey) → covers args key ≡ true → a key ≡ b key) → AllTell steps a → AllTell steps b
same_within args [] within a b same all = tt
same_within args (latest ∷ below) within a b same all = (same_edits args (undo_edits latest.undo latest.edits) within.0 a b same all.0, same_within args below within.1 _ _ (λ key c. ap (edited (undo_edits latest.undo latest.edits) key) (same key c)) all.1)

tells_all : (J : Past) → IsLegal J → IsTelling J
tells_all [] legal r node h may = absurd (none-some node h.0.0)
tells_all (entry_is.Start sheets ∷ J) legal r node h may = absurd (none-some node (sym (start_none J legal.1.0.0 r) ∙ h.0.0))
tells_all (entry_is.Submit nonce request ∷ J) legal r node h may =
    let grown = grown_all J legal.0 in
    let held = held_before J (entry_is.Submit nonce request ∷ J) (submit_rooted nonce request J grown) grown r node refl refl refl h in
    tells_all J legal.0 r node held (may_on (entry_is.Submit nonce request ∷ J) J r node refl refl (sym (sheets_stay (entry_is.Submit nonce request) J legal r node held.0.0)) may)
tells_all (entry_is.Step pid pick out ∷ J) legal r node h may =
    let grown = grown_all J legal.0 in
    let a = falls_all J legal.0 in
    let step = step_of pid pick out J grown legal in
    let d = does_of pid pick out J grown step in
    let aside = step_aside pid pick out J legal a in
    let own = own_root pid pick out J grown a.falls step d aside in
    elim (cases_eq r step.node.root) [
      | inl mine ↦
          let one : node ≡ own.0 = same_Some node own.0 (sym h.0.0 ∙ still_there pid pick out J grown step d r own.0 (ap (node_of J) mine ∙ own.1.0)) in
          let before : MayFall J step.node.root own.0 → AllTell (stack J step.node.root) (cat J) = (λ m. told_before J legal.0 step.node.root own.0 own.1 (step_open pid pick out J grown step d) (λ k n hold can. tells_all J legal.0 k n hold can) m (last_answer J step.node.root) refl) in
          subst (λ k. AllTell (stack (entry_is.Step pid pick out ∷ J) k) (cat (entry_is.Step pid pick out ∷ J))) (sym mine)
          (tells_now pid pick out J grown a.falls step d aside before (subst (MayFall (entry_is.Step pid pick out ∷ J) step.node.root) one (subst (λ k. MayFall (entry_is.Step pid pick out ∷ J) k node) mine may)))
      | inr differs ↦
          let left = step_left pid pick out J grown step d r node (step_top pid pick out J step r node h.0) differs in
          let held = holds_left J (entry_is.Step pid pick out ∷ J) r node left h in
          subst (λ l. AllTell l (cat (entry_is.Step pid pick out ∷ J))) (sym left.stack_is)
          (same_within node.args (stack J r) (a.falls.tree r node held).1 (cat J) (cat (entry_is.Step pid pick out ∷ J))
          (λ key c. sym (within_others own.0.args out.edits (within_now pid pick out J grown a.falls step d aside) key ((own_aside pid pick out J grown a.falls step d aside r node held differs key).0 (cover_guards node.args key c)) (cat J key)))
          (tells_all J legal.0 r node held (may_on (entry_is.Step pid pick out ∷ J) J r node (sym left.cause_is) (sym left.last) refl may)))
    ]
tells_all (entry_is.Undo pid row out ∷ J) legal r node h may =
    let grown = grown_all J legal.0 in
    let a = falls_all J legal.0 in
    let held = undo_back pid row out J legal grown a.falls r node h in
    let could = may_on (entry_is.Undo pid row out ∷ J) J r node refl refl (sym (sheets_stay (entry_is.Undo pid row out) J legal r node held.0.0)) may in
    let is : IsUndoOf J (root_of J pid.0) out = u pid row out J legal grown a.falls in
    elim (cases_eq r (root_of J pid.0)) [
      | inl mine ↦
          let old : AllTell (is.latest ∷ is.below) (cat J) = subst (λ l. AllTell l (cat J)) (ap (stack J) mine ∙ is.stack_is) (tells_all J legal.0 r node held could) in
          subst (λ k. AllTell (stack (entry_is.Undo pid row out ∷ J) k) (cat (entry_is.Undo pid row out ∷ J))) (sym mine)
          (subst (λ l. AllTell l (cat (entry_is.Undo pid row out ∷ J))) (sym (stack_now pid row out J legal grown a.falls))
          (subst (λ e. AllTell is.below (λ key. edited e key (cat J key))) (sym (edits_are pid row out J legal grown a.falls)) old.1))
      | inr differs ↦
          subst (λ l. AllTell l (cat (entry_is.Undo pid row out ∷ J))) (sym (stack_off pid row out J legal grown a.falls r differs))
          (same_within node.args (stack J r) (a.falls.tree r node held).1 (cat J) (cat (entry_is.Undo pid row out ∷ J))
          (λ key c. sym (within_others (top pid row out J legal grown a.falls).args out.edits (undo_within pid row out J legal grown a.falls) key ((undo_aside pid row out J legal a r node held differs key).0 (cover_guards node.args key c)) (cat J key)))
          (tells_all J legal.0 r node held could))
    ]
tells_all (entry_is.Down server ∷ J) legal r node h may =
    let grown = grown_all J legal.0 in
    let held = held_before J (entry_is.Down server ∷ J) (down_rooted server J grown) grown r node refl refl refl h in
    tells_all J legal.0 r node held (may_on (entry_is.Down server ∷ J) J r node refl refl (sym (sheets_stay (entry_is.Down server) J legal r node held.0.0)) may)
tells_all (entry_is.Base part ∷ J) legal r node h may = absurd (none-some node h.0.0)
tells_all (entry ∷ J) legal r node h may = tells_all J legal.0 r node h may

pub undos_tell : UndosTell
undos_tell pid row out J legal =
    let grown = grown_all J legal.0 in
    let a = falls_all J legal.0 in
    let is : IsUndoOf J (root_of J pid.0) out = u pid row out J legal grown a.falls in
    let holds = undo_holds pid row out J legal grown a.falls in
    let all : AllTell (is.latest ∷ is.below) (cat J) = subst (λ l. AllTell l (cat J)) is.stack_is (tells_all J legal.0 (root_of J pid.0) (top pid row out J legal grown a.falls) holds (inr (inl (sick pid row out J legal grown a.falls)))) in
    subst (λ e. Tells e (cat J)) (sym (edits_are pid row out J legal grown a.falls)) all.0
