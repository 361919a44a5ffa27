-- A failure leaves no edit, in every legal journal of all kinds.
use Rattle.std.proofs.lemmas.Option.{none-some}
use Rattle.std.proofs.Common.{◌≡◌, ◌≢◌, ℕ, List, [], ◌∷◌, true, false, Option, Some, None, refl, ap, sym, ◌∙◌, inl, inr, ◌⊎◌}
use Rattle.std.proofs.lemmas.Bool.{and_parts, cases_eq, false≢true, true≢false}
use Rattle.std.proofs.lemmas.Option.{same_Some}
use Rattle.hm_data.specs.declared.answer.Cause.{Cause}
use Rattle.hm_data.specs.declared.args.Args.{Args}
use Rattle.hm_data.specs.declared.catalog.CatKey.{CatKey}
use Rattle.hm_data.specs.declared.catalog.Edit.{Edit}
use Rattle.hm_data.specs.declared.entry.Entry.{Entry}
use Rattle.hm_data.specs.declared.entry.Entry.TheVariants as entry_is
use Rattle.hm_model.specs.Answers.{done_with, last_answer}
use Rattle.hm_model.specs.Catalog.{cat, was}
use Rattle.hm_model.specs.Journal.{Past}
use Rattle.hm_model.specs.Reads.{covers}
use Rattle.hm_model.specs.Phase.{all_stopped, cause, root_ended, root_over, rolled_back}
use Rattle.hm_model.specs.Rules.{IsLegal}
use Rattle.hm_model.specs.Tree.{Node, node_of, root_in, root_of}
use Rattle.hm_model.specs.Undo.{Undoable, is_empty, stack}
use Rattle.hm_model.proofs.Trees.{Grown, IsRooted, does_of, down_rooted, grown_all, old_or_new, step_of, still, still_there, submit_rooted, undo_rooted}
use Rattle.hm_serial.specs.Theorem.{EditsAreCovered, FailureLeavesAll}
use Rattle.hm_serial.proofs.FallAll.{falls_all, step_aside, top, top_is, undo_holds, undo_unwinds, undo_within}
use Rattle.hm_serial.proofs.FallStep.{own_root, unwinds_now, within_now}
use Rattle.hm_model.specs.Apart.{tree_of}
use Rattle.hm_model.specs.TreeEdits.{HasKey, TreeEdits}
use Rattle.hm_model.proofs.Apart.{others_stay}
use Rattle.hm_model.proofs.Grown.{nodes_stay}
use Rattle.hm_serial.proofs.Apart.{step_top}
use Rattle.hm_serial.proofs.Stands.{ended_same}
use Rattle.hm_serial.proofs.Fallen.{Falls}
use Rattle.hm_serial.proofs.Frame.{unwound}
use Rattle.hm_serial.proofs.Local.{Within}
use Rattle.hm_model.proofs.Tops.{TopHolds, TopIs}

has_within : (args : Args) (edits : List Edit) (key : CatKey) → Within args edits → HasKey edits key → covers args key ≡ true
has_within args [] key within h = absurd h
has_within args (edit ∷ edits) key within h = elim h [ inl here ↦ ap (covers args) (sym here) ∙ within.0 | inr later ↦ has_within args edits key within.1 later ]

-- what a tree edits, its root covers
pub edits_covered : EditsAreCovered
edits_covered [] legal r key h = absurd h
edits_covered (entry_is.Submit nonce request ∷ J) legal r key h =
    let c = edits_covered J legal.0 r key h in
    let grown = grown_all J legal.0 in
    (c.0, still J (entry_is.Submit nonce request ∷ J) (submit_rooted nonce request J grown) grown r c.0 c.1, c.2)
edits_covered (entry_is.Step pid pick out ∷ J) legal r key h =
    let grown = grown_all J legal.0 in
    let a = falls_all J legal.0 in
    let step = step_of pid pick out J grown legal in
    let d = does_of pid pick out J grown step in
    let aside = step_aside pid pick out J legal a in
    elim h [
      | inl here ↦
          let own = own_root pid pick out J grown a.falls step d aside in
          let mine : step.node.root ≡ r = sym (ap root_in step.node_is) ∙ here.0 in
          (own.0, still_there pid pick out J grown step d r own.0 (ap (node_of J) (sym mine) ∙ own.1.0), has_within own.0.args out.edits key (within_now pid pick out J grown a.falls step d aside) here.1)
      | inr earlier ↦
          let c = edits_covered J legal.0 r key earlier in
          (c.0, still_there pid pick out J grown step d r c.0 c.1, c.2)
    ]
edits_covered (entry_is.Undo pid row out ∷ J) legal r key h =
    let grown = grown_all J legal.0 in
    let a = falls_all J legal.0 in
    let on = still J (entry_is.Undo pid row out ∷ J) (undo_rooted pid row out J grown) grown in
    elim h [
      | inl here ↦
          let at = top_is pid row out J legal grown a.falls in
          (top pid row out J legal grown a.falls, on r (top pid row out J legal grown a.falls) (ap (node_of J) (sym here.0) ∙ at.0), has_within (top pid row out J legal grown a.falls).args out.edits key (undo_within pid row out J legal grown a.falls) here.1)
      | inr earlier ↦
          let c = edits_covered J legal.0 r key earlier in
          (c.0, on r c.0 c.1, c.2)
    ]
edits_covered (entry_is.Down server ∷ J) legal r key h =
    let c = edits_covered J legal.0 r key h in
    let grown = grown_all J legal.0 in
    (c.0, still J (entry_is.Down server ∷ J) (down_rooted server J grown) grown r c.0 c.1, c.2)
edits_covered (entry_is.Base part ∷ J) legal r key h = elim h [ ]
edits_covered (entry ∷ J) legal r key h = edits_covered J legal.0 r key h

covered : (J : Past) → IsLegal J → (r : ℕ) (node : Node) → node_of J r ≡ Some node → (key : CatKey) → TreeEdits J r key ⊎ (covers node.args key ≡ true) → covers node.args key ≡ true
covered J legal r node is key h = elim h [
  | inl edits ↦ let c = edits_covered J legal r key edits in ap (λ n. covers n.args key) (same_Some node c.0 (sym is ∙ c.1)) ∙ c.2
  | inr covers ↦ covers
]

-- a failed root that has ended has nothing left to undo
pub nothing_left : (J : Past) (r : ℕ) → root_ended J r ≡ true → cause J r ≢ None → stack J r ≡ []
nothing_left J r ended sick = by (cause J r) refl
  where
    none : (l : List Undoable) → is_empty l ≡ true → l ≡ []
    none [] h = refl
    none (x ∷ more) h = absurd (false≢true h)

    by : (c : Option Cause) → cause J r ≡ c → stack J r ≡ []
    by None e = absurd (sick e)
    by (Some c) e = none (stack J r) (and_parts (all_stopped J r) (is_empty (stack J r)) (ap (λ k. root_over k (rolled_back J r) (done_with (last_answer J r))) (sym e) ∙ ended)).1

-- a failed root that is there holds where it hasn't ended
sick_holds : (J : Past) → Falls J → (r : ℕ) (node : Node) → TopIs J r node → root_ended J r ≡ false → cause J r ≢ None → TopHolds J r node
sick_holds J falls r node top was_open sick = (top, (λ none. sick (falls.fresh r node top none).1), was_open)

-- an entry that makes roots, and edits nothing
rooted_leaves : (J J' : Past) (rooted : IsRooted J J') (grown : Grown J) → Falls J → (r : ℕ) (node : Node) → TopIs J' r node → root_ended J r ≡ false → cause J r ≢ None → stack J r ≡ [] → (key : CatKey) → covers node.args key ≡ true → cat J key ≡ was J r key
rooted_leaves J J' rooted grown falls r node top was_open sick empty key c = elim (old_or_new J J' rooted grown r node top.0) [
  | inl old ↦ ap (λ l. unwound l key (cat J key)) (sym empty) ∙ (falls.tree r node (sick_holds J falls r node (old, top.1) was_open sick)).0 (inr (inl sick)) key c
  | inr new ↦ absurd (sick (falls.gone r (grown.numbered r new.4)).1)
]

-- an entry of another tree ends no root
other_open : (entry : Entry) (J : Past) → IsLegal (entry ∷ J) → (r : ℕ) (node : Node) → TopIs J r node → r ≢ tree_of J entry → root_ended J r ≡ false → root_ended (entry ∷ J) r ≡ true → ⊥
other_open entry J legal r node at differs was_open ended =
    true≢false (sym ended ∙ ended_same J (entry ∷ J) r node at ((grown_all J legal.0).tops r node at.0 at.1) (others_stay entry J legal r node at.0 at.1 differs) (nodes_stay entry J legal) ∙ was_open)

pub failure_leaves_all : FailureLeavesAll
failure_leaves_all (entry_is.Submit nonce request) J legal r node is at_top was_open ended sick key h =
    let grown = grown_all J legal.0 in
    rooted_leaves J (entry_is.Submit nonce request ∷ J) (submit_rooted nonce request J grown) grown (falls_all J legal.0).falls r node (is, at_top) was_open sick (nothing_left (entry_is.Submit nonce request ∷ J) r ended sick) key (covered (entry_is.Submit nonce request ∷ J) legal r node is key h)
failure_leaves_all (entry_is.Step pid pick out) J legal r node is at_top was_open ended sick key h =
    let grown = grown_all J legal.0 in
    let a = falls_all J legal.0 in
    let step = step_of pid pick out J grown legal in
    let d = does_of pid pick out J grown step in
    let aside = step_aside pid pick out J legal a in
    let c = covered (entry_is.Step pid pick out ∷ J) legal r node is key h in
    let empty = nothing_left (entry_is.Step pid pick out ∷ J) r ended sick in
    elim (cases_eq r step.node.root) [
      | inl same ↦
          let own = own_root pid pick out J grown a.falls step d aside in
          let one : own.0 ≡ node = same_Some own.0 node (sym (still_there pid pick out J grown step d r own.0 (ap (node_of J) same ∙ own.1.0)) ∙ is) in
          ap (λ l. unwound l key (cat (entry_is.Step pid pick out ∷ J) key)) (sym empty)
          ∙ ap (λ k. unwound (stack (entry_is.Step pid pick out ∷ J) k) key (cat (entry_is.Step pid pick out ∷ J) key)) same
          ∙ unwinds_now pid pick out J grown a.falls step d aside (inr (inl (λ none. sick (ap (cause (entry_is.Step pid pick out ∷ J)) same ∙ none)))) key (ap (λ n. covers n.args key) one ∙ c)
          ∙ ap (λ k. was (entry_is.Step pid pick out ∷ J) k key) (sym same)
      | inr differs ↦
          let at = step_top pid pick out J step r node (is, at_top) in
          absurd (other_open (entry_is.Step pid pick out) J legal r node at (λ e. differs (e ∙ ap root_in step.node_is)) was_open ended)
    ]
failure_leaves_all (entry_is.Undo pid row out) J legal r node is at_top was_open ended sick key h =
    let grown = grown_all J legal.0 in
    let a = falls_all J legal.0 in
    let rooted = undo_rooted pid row out J grown in
    let holds = undo_holds pid row out J legal grown a.falls in
    let c = covered (entry_is.Undo pid row out ∷ J) legal r node is key h in
    let empty = nothing_left (entry_is.Undo pid row out ∷ J) r ended sick in
    elim (old_or_new J (entry_is.Undo pid row out ∷ J) rooted grown r node is) [
      | inl old ↦ elim (cases_eq r (root_of J pid.0)) [
        | inr differs ↦ absurd (other_open (entry_is.Undo pid row out) J legal r node (old, at_top) differs was_open ended)
        | inl mine ↦
            let one : top pid row out J legal grown a.falls ≡ node = same_Some (top pid row out J legal grown a.falls) node (sym holds.0.0 ∙ ap (node_of J) (sym mine) ∙ old) in
            ap (λ l. unwound l key (cat (entry_is.Undo pid row out ∷ J) key)) (sym empty)
            ∙ ap (λ k. unwound (stack (entry_is.Undo pid row out ∷ J) k) key (cat (entry_is.Undo pid row out ∷ J) key)) mine
            ∙ undo_unwinds pid row out J legal grown a.falls (inr (inl (λ none. sick (ap (cause J) mine ∙ none)))) key (ap (λ n. covers n.args key) one ∙ c)
            ∙ ap (λ k. was J k key) (sym mine)
      ]
      | inr new ↦ absurd (sick (a.falls.gone r (grown.numbered r new.4)).1)
    ]
failure_leaves_all (entry_is.Down server) J legal r node is at_top was_open ended sick key h =
    let grown = grown_all J legal.0 in
    rooted_leaves J (entry_is.Down server ∷ J) (down_rooted server J grown) grown (falls_all J legal.0).falls r node (is, at_top) was_open sick (nothing_left (entry_is.Down server ∷ J) r ended sick) key (covered (entry_is.Down server ∷ J) legal r node is key h)
failure_leaves_all (entry_is.Base part) J legal r node is at_top was_open ended sick key h = absurd (none-some node is)
failure_leaves_all entry J legal r node is at_top was_open ended sick key h = absurd (true≢false (sym ended ∙ was_open))
