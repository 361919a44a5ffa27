-- While a root that asks for tables alone goes on, each row of their regions is none, that before its first step, or one
-- that a stage of its kind gives.
use Rattle.std.proofs.Common.{◌≡◌, ◌≢◌, ℕ, ◌-◌, ◌<◌, ◌==◌, ◌&&◌, List, [], ◌∷◌, Bool, true, false, Option, Some, None, is_some, is_none, refl, ap, sym, ◌∙◌, subst, inl, inr, ◌⊎◌}
use Rattle.std.proofs.lemmas.Bool.{and_from, and_left, and_right, cases_eq, cond-false, cond-true, eq-eqb, ne_eqb, true≢false}
use Rattle.std.proofs.lemmas.Option.{none-some, same_Some}
use Rattle.hm_names.specs.Server.{Server}
use Rattle.hm_names.specs.declared.pid.Pid.{Pid}
use Rattle.hm_data.specs.declared.act.Back.{Back}
use Rattle.hm_data.specs.declared.act.Back.TheVariants as back_is
use Rattle.hm_data.specs.declared.answer.Answer.{Answer}
use Rattle.hm_data.specs.declared.answer.Answer.TheVariants as answer_is
use Rattle.hm_data.specs.declared.args.Args.{Args}
use Rattle.hm_data.specs.declared.args.Args.TheVariants as args_are
use Rattle.hm_data.specs.declared.catalog.CatKey.{CatKey}
use Rattle.hm_data.specs.declared.catalog.CatKey.TheVariants as key_is
use Rattle.hm_data.specs.declared.catalog.CatRow.{CatRow}
use Rattle.hm_data.specs.declared.catalog.Edit.{Edit}
use Rattle.hm_data.specs.declared.entry.Entry.TheVariants as entry_is
use Rattle.hm_data.specs.declared.step.StepOut.{StepOut}
use Rattle.hm_model.specs.Answers.{failing, is_stopped, last_answer}
use Rattle.hm_model.specs.Apart.{IsSameTree}
use Rattle.hm_model.specs.Catalog.{Catalog, cat, edited, keys_of, row_at, rows_at, was}
use Rattle.hm_model.specs.Inputs.{step_input}
use Rattle.hm_model.specs.Journal.{Past}
use Rattle.hm_model.specs.Keys.{same_key}
use Rattle.hm_model.specs.Kinds.{kind_of}
use Rattle.hm_model.specs.Lists.{Line, exact_rows}
use Rattle.hm_model.specs.Phase.{cause, or_else}
use Rattle.hm_model.specs.Reads.{covers, reads}
use Rattle.hm_model.specs.Rules.{IsLegal}
use Rattle.hm_model.specs.Tree.{Node, is_top, made, node_of, root_in, root_of}
use Rattle.hm_model.specs.Undo.{Undoable, pushed, row_if_there, stack}
use Rattle.hm_model.specs.Undoing.{turned, turned_round, undo_edits}
use Rattle.hm_model.proofs.Apart.{others_stay}
use Rattle.hm_model.proofs.KeyTests.{cases_key}
use Rattle.hm_model.proofs.LegalSteps.{StepFacts, ready_stops}
use Rattle.hm_model.proofs.StepDoes.{Does}
use Rattle.hm_model.proofs.Trees.{Grown, IsRooted, IsWaiting, answer_now, does_of, down_rooted, grown_all, le_or_lt, new_child, node_same, old_or_new, other_answer, start_none, step_of, submit_rooted, undo_rooted, waiting_some}
use Rattle.hm_kinds.proofs.Roots.{Stage}
use Rattle.hm_kinds.proofs.Shares.{touches, value}
use Rattle.hm_kinds.proofs.Within.{edited-append, within_others}
use Rattle.hm_serial.proofs.Apart.{Aside, step_top}
use Rattle.hm_serial.proofs.FallAll.{All, held_before, edits_are, falls_all, stack_now, step_aside, top, u, undo_aside, undo_back, undo_within}
use Rattle.hm_serial.proofs.Fallen.{root_of_node}
use Rattle.hm_serial.proofs.FallStep.{belongs_here, kid_not_root, kid_of, kid_or_root, led_here, no_asks, own_args, own_aside, own_root, within_now}
use Rattle.hm_serial.proofs.Frame.{cover_guards}
use Rattle.hm_serial.proofs.Kinship.{editless, led_at}
use Rattle.hm_model.proofs.Tops.{TopHolds, TopIs}
use Rattle.hm_model.proofs.Small.{some_not}
use Rattle.hm_serial.proofs.Standing.{holds_left, live_child, quiet_tree, step_left, step_open, waiting_runs}
use Rattle.hm_serial.proofs.Stands.{At}
use Rattle.hm_serial.proofs.StandAll.{stands_all}
use Rattle.hm_serial.proofs.StandStep.{touches_rows}
use Rattle.hm_cover.proofs.Given.{Gives, RegionsRead, gives, read_or}
use Rattle.hm_cover.proofs.Local.{asks_regions}
use Rattle.hm_cover.proofs.Shapes.{Shape, is_region_key, shape_row}
use Rattle.hm_cover.proofs.Spared.{cause_now, stack_is}

-- the row that some stage of a root's kind gives a key
abbrev pub Staged : Args → Catalog → CatKey → Option CatRow → Type 0
Staged args base key row = (lines : List Line) × (then : List Edit) × Stage args base lines then × (row ≡ edited then key (base key))

abbrev pub IsMixed : Args → Catalog → CatKey → Option CatRow → Type 0
IsMixed args base key row = (row ≡ None) ⊎ ((row ≡ base key) ⊎ Staged args base key row)

-- of a region that the root covers
abbrev pub MixedAt : Args → Catalog → CatKey → Option CatRow → Type 0
MixedAt args base key row = is_region_key key ≡ true → covers args key ≡ true → IsMixed args base key row

-- undoing steps leaves it so
abbrev pub MixesOne : Args → Catalog → Undoable → Type 0
MixesOne args base x = (key : CatKey) (row : Option CatRow) → MixedAt args base key row → MixedAt args base key (edited (undo_edits x.undo x.edits) key row)

abbrev pub AllMix : Args → Catalog → List Undoable → Type 0
AllMix args base [] = Unit {0}
AllMix args base (latest ∷ below) = MixesOne args base latest × AllMix args base below

turned_mixed : (args : Args) (base there : Catalog) → ((key : CatKey) → MixedAt args base key (there key)) → (edits : List Edit) → RegionsRead edits there → (key : CatKey) (row : Option CatRow) → MixedAt args base key row → MixedAt args base key (edited (turned_round edits) key row)
turned_mixed args base there seen [] reads key row at = at
turned_mixed args base there seen (edit ∷ edits) reads key row at = subst (MixedAt args base key) (sym (edited-append (turned_round edits) (turned edit ∷ []) key row)) (elim (cases_key key edit.key) [
  | inl same ↦
      let found : is_region_key key ≡ true → edit.before ≡ there key = (λ region. reads.0 (ap is_region_key (sym same.1) ∙ region) ∙ ap there (sym same.1)) in
      subst (MixedAt args base key) (sym (cond-true (same_key key edit.key) edit.before (edited (turned_round edits) key row) same.0)) (λ region c. subst (IsMixed args base key) (sym (found region)) (seen key region c))
  | inr differs ↦ subst (MixedAt args base key) (sym (cond-false (same_key key edit.key) edit.before (edited (turned_round edits) key row) differs.0)) (turned_mixed args base there seen edits reads.1 key row at)
])

push_mixes : (args : Args) (base there : Catalog) → ((key : CatKey) → MixedAt args base key (there key)) → (undo : Back) (failed : Bool) (p row : ℕ) (edits : List Edit) (below : List Undoable) → RegionsRead edits there → AllMix args base below → AllMix args base (pushed undo failed p row edits below)
push_mixes args base there seen back_is.Nothing failed p row edits below reads all = all
push_mixes args base there seen back_is.Edits true p row edits below reads all = all
push_mixes args base there seen back_is.Edits false p row edits below reads all = (turned_mixed args base there seen edits reads, all)
push_mixes args base there seen back_is.Sweep true p row edits below reads all = all
push_mixes args base there seen back_is.Sweep false p row edits below reads all = ((λ key o at. at), all)
push_mixes args base there seen back_is.Reopen true p row edits below reads all = all
push_mixes args base there seen back_is.Reopen false p row edits below reads all = ((λ key o at. at), all)

-- what holds of such a root's tree: of the rows, of those that its descendants will give, and of what may be undone
pub record MixedTree (J : Past) (r : ℕ) (node : Node) : Type 0 where
  pub rows : (key : CatKey) → MixedAt node.args (was J r) key (cat J key)
  pub kids : (q : ℕ) (x : Node) → node_of J q ≡ Some x → x.root ≡ r → x.above ≢ [] → is_stopped (last_answer J q) ≡ false → (key : CatKey) → touches x.args key ≡ true → IsMixed node.args (was J r) key (value x.args key)
  pub mixes : AllMix node.args (was J r) (stack J r)

abbrev pub AllMixed : Past → Type 0
AllMixed J = (r : ℕ) (node : Node) → TopHolds J r node → asks_regions node.args ≡ false → MixedTree J r node

-- a tree that an entry leaves alone
mixed_like : (J J' : Past) (s : ℕ) (node : Node) → IsSameTree J J' s → ((key : CatKey) → covers node.args key ≡ true → cat J' key ≡ cat J key) → MixedTree J s node → MixedTree J' s node
mixed_like J J' s node same cats tree = record {
  rows = λ key region c. subst (λ b. IsMixed node.args b key (cat J' key)) (sym same.was_is) (subst (IsMixed node.args (was J s) key) (sym (cats key c)) (tree.rows key region c));
  kids = λ q x is of some runs key on.
      let there = same.members q x is of in
      subst (λ b. IsMixed node.args b key (value x.args key)) (sym same.was_is) (tree.kids q x there of some (ap is_stopped (sym (same.same q x there of).last) ∙ runs) key on);
  mixes = subst (λ b. AllMix node.args b (stack J' s)) (sym same.was_is) (subst (AllMix node.args (was J s)) (sym same.stack_is) tree.mixes);
}

root_touches : (args : Args) → asks_regions args ≡ false → (key : CatKey) → touches args key ≡ false
root_touches (args_are.Root request first) wide key = refl
root_touches args wide key = absurd (true≢false wide)

waiting_fine : (answer : Answer) → IsWaiting (Some answer) → failing answer ≡ None
waiting_fine (answer_is.Wait n) w = refl
waiting_fine answer w = absurd w

-- a step
module _ (pid : Pid) (pick : Option Server) (out : StepOut) (J : Past) (legal : IsLegal (entry_is.Step pid pick out ∷ J)) (before : AllMixed J) where
  abbrev J' : Past
  J' = entry_is.Step pid pick out ∷ J

  abbrev grown : Grown J
  grown = grown_all J legal.0

  abbrev all : All J
  all = falls_all J legal.0

  abbrev step : StepFacts J pid.0 pick out
  step = step_of pid pick out J (grown_all J legal.0) legal

  abbrev does : Does J pid.0 step.node.args (last_answer J pid.0) step.sheet.rows out
  does = does_of pid pick out J (grown_all J legal.0) step

  abbrev apart : Aside J step.node.root (root_of_node J (grown_all J legal.0) pid.0 step.node step.node_is).0
  apart = step_aside pid pick out J legal all

  abbrev its : (y : Node) × TopIs J step.node.root y
  its = own_root pid pick out J (grown_all J legal.0) all.falls step does apart

  runs_now : is_stopped (last_answer J pid.0) ≡ false
  runs_now = ready_stops J pid.0 step.node (last_answer J pid.0) step.ready

  -- the rows that it reads
  abbrev rows_seen : Catalog
  rows_seen = row_at (rows_at (reads step.node.args) (cat J) (keys_of J))

  module _ (node : Node) (at_top : TopIs J step.node.root node) (wide : asks_regions node.args ≡ false) (holds : TopHolds (entry_is.Step pid pick out ∷ J) step.node.root node) where
    -- what stood before the step, with the catalog before the root's first step
    record Stood (base : Catalog) : Type 0 where
      pub was_is : was J' step.node.root ≡ base
      pub rows : (key : CatKey) → MixedAt node.args base key (cat J key)
      pub kids : (q : ℕ) (x : Node) → node_of J q ≡ Some x → x.root ≡ step.node.root → x.above ≢ [] → is_stopped (last_answer J q) ≡ false → (key : CatKey) → touches x.args key ≡ true → IsMixed node.args base key (value x.args key)
      pub mixes : AllMix node.args base (stack J step.node.root)

    stood_later : (step.node.root ≢ pid.0) ⊎ (last_answer J pid.0 ≢ None) → last_answer J step.node.root ≢ None → Stood (was J step.node.root)
    stood_later h some =
        let tree = before step.node.root node (at_top, some, step_open pid pick out J grown step does) wide in
        record { was_is = cond-false ((step.node.root == pid.0) && is_none (last_answer J pid.0)) (cat J) (was J step.node.root) (by h); rows = tree.rows; kids = tree.kids; mixes = tree.mixes }
      where
        by : (step.node.root ≢ pid.0) ⊎ (last_answer J pid.0 ≢ None) → ((step.node.root == pid.0) && is_none (last_answer J pid.0)) ≡ false
        by (inl differs) = and_left (step.node.root == pid.0) (is_none (last_answer J pid.0)) (ne_eqb step.node.root pid.0 differs)
        by (inr some) = and_right (step.node.root == pid.0) (is_none (last_answer J pid.0)) (some_not (last_answer J pid.0) some)

    root_is : step.node.above ≡ [] → step.node.root ≡ pid.0
    root_is e = grown.tops pid.0 step.node step.node_is e

    stood_first : step.node.above ≡ [] → last_answer J pid.0 ≡ None → Stood (cat J)
    stood_first e none = record {
      was_is = cond-true ((step.node.root == pid.0) && is_none (last_answer J pid.0)) (cat J) (was J step.node.root) (and_from (step.node.root == pid.0) (is_none (last_answer J pid.0)) (eq-eqb step.node.root pid.0 (root_is e)) (ap is_none none));
      rows = λ key region c. inr (inl refl);
      kids = λ q x is of some runs key touched. absurd (true≢false (sym (quiet_tree J grown pid.0 step.node step.ready q x is (of ∙ root_is e) some) ∙ runs));
      mixes = subst (AllMix node.args (cat J)) (sym (all.falls.fresh step.node.root node at_top (ap (last_answer J) (root_is e) ∙ none)).0) tt;
    }

    stood : (base : Catalog) × Stood base
    stood = elim (kid_or_root pid pick out J grown all.falls step does apart) [
      | inr kid ↦
          let l = live_child J grown step.node.above pid.0 step.node step.node_is refl kid runs_now in
          (was J step.node.root, stood_later (inl (kid_not_root pid pick out J grown all.falls step does apart kid)) (waiting_some (last_answer J step.node.root) l.5))
      | inl e ↦ by e (last_answer J pid.0) refl
    ]
      where
        by : step.node.above ≡ [] → (o : Option Answer) → last_answer J pid.0 ≡ o → (base : Catalog) × Stood base
        by e None l = (cat J, stood_first e l)
        by e (Some a) l = (was J step.node.root, stood_later (inr (λ none. none-some a (sym none ∙ l))) (λ none. none-some a (sym none ∙ ap (last_answer J) (root_is e) ∙ l)))

    module _ (base : Catalog) (s : Stood base) where
      seen : (key : CatKey) → MixedAt node.args base key (rows_seen key)
      seen key region c = elim (read_or (reads step.node.args) (cat J) (keys_of J) key) [
        | inl none ↦ inl none
        | inr here ↦ subst (IsMixed node.args base key) (sym here) (s.rows key region c)
      ]

      root_args : step.node.above ≡ [] → node.args ≡ step.node.args
      root_args e = ap (λ (n : Node). n.args) (same_Some node step.node (sym at_top.0 ∙ ap (node_of J) (root_is e) ∙ step.node_is))

      which : (asks_regions step.node.args ≡ false) ⊎ (Rattle.hm_serial.proofs.Kinship.is_kid step.node.args ≡ true)
      which = elim (kid_or_root pid pick out J grown all.falls step does apart) [
        | inl e ↦ inl (ap asks_regions (sym (root_args e)) ∙ wide)
        | inr kid ↦ inr (all.falls.kids pid.0 step.node step.node_is kid)
      ]

      led : exact_rows (kind_of step.node.args) ≡ [] → Rattle.hm_model.proofs.ExactRows.is_listed (kind_of step.node.args) step.row.act ≡ true
      led exact = (led_at J pid.0 pick out step does (led_here pid pick out J grown all.falls step does apart) its.0.args (own_args pid pick out J grown all.falls step does apart) (belongs_here pid pick out J grown all.falls step does apart) exact).listed

      given : (out.edits ≡ []) ⊎ Gives step.node.args (rows_at (reads step.node.args) (cat J) (keys_of J)) out.edits
      given = elim (editless J pid.0 pick out step does (led_here pid pick out J grown all.falls step does apart) its.0.args (own_args pid pick out J grown all.falls step does apart) (belongs_here pid pick out J grown all.falls step does apart)) [
        | inr none ↦ inl none
        | inl exact ↦ inr (gives step.row.act (rows_at (reads step.node.args) (cat J) (keys_of J)) out.edits step.node.args which exact (led exact)
            (subst (λ (o : StepOut). Shape step.row.act step.node.args (rows_at (reads step.node.args) (cat J) (keys_of J)) o.edits) (sym step.out_is) (shape_row step.row (step_input J pid.0 step.node pick))))
      ]

      -- what the procedure that steps gives
      own_value : (key : CatKey) → touches step.node.args key ≡ true → IsMixed node.args base key (value step.node.args key)
      own_value key touched = elim (kid_or_root pid pick out J grown all.falls step does apart) [
        | inr kid ↦ s.kids pid.0 step.node step.node_is refl kid runs_now key touched
        | inl e ↦ absurd (true≢false (sym touched ∙ ap (λ a. touches a key) (sym (root_args e)) ∙ root_touches node.args wide key))
      ]

      rows_now : (key : CatKey) → MixedAt node.args base key (cat (entry_is.Step pid pick out ∷ J) key)
      rows_now (key_is.Region one) region c = elim given [
        | inl none ↦ subst (IsMixed node.args base (key_is.Region one)) (sym (ap (λ l. edited l (key_is.Region one) (cat J (key_is.Region one))) none)) (s.rows (key_is.Region one) region c)
        | inr g ↦ elim (g.leaves one (cat J (key_is.Region one))) [
          | inl same ↦ subst (IsMixed node.args base (key_is.Region one)) (sym same) (s.rows (key_is.Region one) region c)
          | inr took ↦ subst (IsMixed node.args base (key_is.Region one)) (sym took.1) (own_value (key_is.Region one) took.0)
        ]
      ]
      rows_now key region c = absurd (true≢false (sym region))

      reads_so : RegionsRead out.edits rows_seen
      reads_so = elim given [ inl none ↦ subst (λ l. RegionsRead l rows_seen) (sym none) tt | inr g ↦ g.finds ]

      mixes_now : AllMix node.args base (stack (entry_is.Step pid pick out ∷ J) step.node.root)
      mixes_now = subst (AllMix node.args base) (sym (stack_is pid pick out J grown all.falls step does apart)) (push_mixes node.args base rows_seen seen step.row.undo (is_some (failing out.answer)) pid.0 (row_if_there J pid.0 (node_of J pid.0)) out.edits (stack J step.node.root) reads_so s.mixes)

      -- a descendant that the root makes gives what the stage says
      new_value : (q : ℕ) (x : Node) → made J < q → node_of (entry_is.Step pid pick out ∷ J) q ≡ Some x → x.root ≡ step.node.root → x.above ≢ [] → is_stopped (last_answer (entry_is.Step pid pick out ∷ J) q) ≡ false → (key : CatKey) → touches x.args key ≡ true → IsMixed node.args base key (value x.args key)
      new_value q x lt is of some runs key touched = elim (kid_or_root pid pick out J grown all.falls step does apart) [
        | inr kid ↦
            let c = new_child pid pick out J step.node step.node_is q lt x is in
            let t = touches_rows c.0 key (ap (λ (n : Node). touches n.args key) (sym c.2) ∙ touched) in
            absurd (no_asks step.node.args t.0 (all.falls.kids pid.0 step.node step.node_is kid) ((kid_of pid pick out J grown all.falls step does apart (q - made J - 1) c.0 c.1).rows t.0 t.1))
        | inl e ↦
            let l = live_child J' (grown_all J' legal) x.above q x is refl some runs in
            let waits : IsWaiting (last_answer J' step.node.root) = subst (λ k. IsWaiting (last_answer J' k)) of l.5 in
            let answered : last_answer J' step.node.root ≡ Some out.answer = ap (last_answer J') (root_is e) ∙ answer_now pid pick out J in
            let none : cause J' step.node.root ≡ None =
            cause_now pid pick out J grown all.falls step does apart ∙ ap (λ c. or_else c (failing out.answer)) (ap (cause J) (root_is e) ∙ step.uncaused (ap is_top e)) ∙ waiting_fine out.answer (subst IsWaiting answered waits) in
            by (((stands_all J' legal).tree step.node.root node holds).stage none (waiting_runs (last_answer J' step.node.root) waits))
      ]
        where
          by : At J' step.node.root node → IsMixed node.args base key (value x.args key)
          by at =
              let owes = at.owed q x is of some runs key touched in
              subst (λ b. IsMixed node.args b key (value x.args key)) s.was_is (elim at.stands [
                | inl listed ↦ inr (inr (listed.lines, at.then, listed.stage, sym owes))
                | inr exact ↦ inr (inl (sym owes ∙ ap (λ l. edited l key (was J' step.node.root key)) exact.1))
              ])

      kids_now : (q : ℕ) (x : Node) → node_of (entry_is.Step pid pick out ∷ J) q ≡ Some x → x.root ≡ step.node.root → x.above ≢ [] → is_stopped (last_answer (entry_is.Step pid pick out ∷ J) q) ≡ false → (key : CatKey) → touches x.args key ≡ true → IsMixed node.args base key (value x.args key)
      kids_now q x is of some runs key touched = elim (le_or_lt q (made J)) [
        | inl le ↦ s.kids q x (sym (node_same pid pick out J q le) ∙ is) of some ran key touched
        | inr lt ↦ new_value q x lt is of some runs key touched
      ]
        where
          ran : is_stopped (last_answer J q) ≡ false
          ran = elim (cases_eq q pid.0) [
            | inl same ↦ ap (λ p. is_stopped (last_answer J p)) same ∙ runs_now
            | inr differs ↦ ap is_stopped (sym (other_answer pid pick out J q differs)) ∙ runs
          ]

      own_now : MixedTree (entry_is.Step pid pick out ∷ J) step.node.root node
      own_now = record {
        rows = λ key. subst (λ b. MixedAt node.args b key (cat J' key)) (sym s.was_is) (rows_now key);
        kids = λ q x is of some runs key touched. subst (λ b. IsMixed node.args b key (value x.args key)) (sym s.was_is) (kids_now q x is of some runs key touched);
        mixes = subst (λ b. AllMix node.args b (stack J' step.node.root)) (sym s.was_is) mixes_now;
      }

    own_mixed : MixedTree (entry_is.Step pid pick out ∷ J) step.node.root node
    own_mixed = own_now stood.0 stood.1

  step_mixed : AllMixed (entry_is.Step pid pick out ∷ J)
  step_mixed r node h wide = elim (cases_eq r step.node.root) [
    | inl mine ↦ subst (λ k. MixedTree (entry_is.Step pid pick out ∷ J) k node) (sym mine)
        (own_mixed node (subst (λ k. TopIs J k node) mine (step_top pid pick out J step r node h.0)) wide (subst (λ k. TopHolds (entry_is.Step pid pick out ∷ J) k node) mine h))
    | inr differs ↦
        let old = step_top pid pick out J step r node h.0 in
        let left = step_left pid pick out J grown step does r node old differs in
        let held = holds_left J (entry_is.Step pid pick out ∷ J) r node left h in
        let off : (key : CatKey) → covers node.args key ≡ true → covers its.0.args key ≡ false = (λ key c. (own_aside pid pick out J grown all.falls step does apart r node held differs key).0 (cover_guards node.args key c)) in
        mixed_like J (entry_is.Step pid pick out ∷ J) r node
        (others_stay (entry_is.Step pid pick out) J legal r node old.0 old.1 (λ e. differs (e ∙ ap root_in step.node_is)))
        (λ key c. within_others its.0.args out.edits (within_now pid pick out J grown all.falls step does apart) key (off key c) (cat J key))
        (before r node held wide)
  ]

-- an undo
module _ (pid : Pid) (row : ℕ) (out : StepOut) (J : Past) (legal : IsLegal (entry_is.Undo pid row out ∷ J)) (before : AllMixed J) where
  abbrev K : Past
  K = entry_is.Undo pid row out ∷ J

  abbrev grown_here : Grown J
  grown_here = grown_all J legal.0

  abbrev all_here : All J
  all_here = falls_all J legal.0

  undo_own : (node : Node) → MixedTree J (root_of J pid.0) node → MixedTree (entry_is.Undo pid row out ∷ J) (root_of J pid.0) node
  undo_own node tree =
      let its = u pid row out J legal grown_here all_here.falls in
      let mixes : AllMix node.args (was J (root_of J pid.0)) (its.latest ∷ its.below) = subst (AllMix node.args (was J (root_of J pid.0))) its.stack_is tree.mixes in
      record {
        rows = λ key. subst (λ l. MixedAt node.args (was J (root_of J pid.0)) key (edited l key (cat J key))) (sym (edits_are pid row out J legal grown_here all_here.falls)) (mixes.0 key (cat J key) (tree.rows key));
        kids = λ q x is of some runs key touched. elim (old_or_new J K (undo_rooted pid row out J grown_here) grown_here q x is) [
          | inl old ↦ tree.kids q x old of some runs key touched
          | inr new ↦ absurd (some (ap (λ (n : Node). n.above) new.2))
        ];
        mixes = subst (AllMix node.args (was J (root_of J pid.0))) (sym (stack_now pid row out J legal grown_here all_here.falls)) mixes.1;
      }

  undo_mixed : AllMixed (entry_is.Undo pid row out ∷ J)
  undo_mixed r node h wide = elim (cases_eq r (root_of J pid.0)) [
    | inl mine ↦ subst (λ k. MixedTree (entry_is.Undo pid row out ∷ J) k node) (sym mine) (undo_own node (subst (λ k. MixedTree J k node) mine (before r node held wide)))
    | inr differs ↦
        let off : (key : CatKey) → covers node.args key ≡ true → covers (top pid row out J legal grown_here all_here.falls).args key ≡ false = (λ key c. (undo_aside pid row out J legal all_here r node held differs key).0 (cover_guards node.args key c)) in
        mixed_like J K r node
        (others_stay (entry_is.Undo pid row out) J legal r node held.0.0 held.0.1 differs)
        (λ key c. within_others (top pid row out J legal grown_here all_here.falls).args out.edits (undo_within pid row out J legal grown_here all_here.falls) key (off key c) (cat J key))
        (before r node held wide)
  ]
    where
      held : TopHolds J r node
      held = undo_back pid row out J legal grown_here all_here.falls r node h

-- an entry that makes a root
made_mixed : (J J' : Past) → IsRooted J J' → Grown J → cat J' ≡ cat J → was J' ≡ was J → stack J' ≡ stack J → (r : ℕ) (node : Node) → MixedTree J r node → MixedTree J' r node
made_mixed J J' rooted grown cats bases stacks r node tree = record {
  rows = λ key. subst (λ c. MixedAt node.args (was J' r) key (c key)) (sym cats) (subst (λ b. MixedAt node.args (b r) key (cat J key)) (sym bases) (tree.rows key));
  kids = λ q x is of some runs key touched. elim (old_or_new J J' rooted grown q x is) [
    | inl old ↦ subst (λ b. IsMixed node.args (b r) key (value x.args key)) (sym bases) (tree.kids q x old of some (ap is_stopped (sym (rooted.last q)) ∙ runs) key touched)
    | inr new ↦ absurd (some (ap (λ (n : Node). n.above) new.2))
  ];
  mixes = subst (λ b. AllMix node.args (b r) (stack J' r)) (sym bases) (subst (λ l. AllMix node.args (was J r) (l r)) (sym stacks) tree.mixes);
}

-- in every legal journal
pub mixed_all : (J : Past) → IsLegal J → AllMixed J
mixed_all [] legal r node h wide = absurd (none-some node h.0.0)
mixed_all (entry_is.Start sheets ∷ J) legal r node h wide = absurd (none-some node (sym (start_none J legal.1.0.0 r) ∙ h.0.0))
mixed_all (entry_is.Submit nonce request ∷ J) legal r node h wide =
    let grown = grown_all J legal.0 in
    let rooted = submit_rooted nonce request J grown in
    made_mixed J (entry_is.Submit nonce request ∷ J) rooted grown refl refl refl r node (mixed_all J legal.0 r node (held_before J (entry_is.Submit nonce request ∷ J) rooted grown r node refl refl refl h) wide)
mixed_all (entry_is.Step pid pick out ∷ J) legal r node h wide = step_mixed pid pick out J legal (mixed_all J legal.0) r node h wide
mixed_all (entry_is.Undo pid row out ∷ J) legal r node h wide = undo_mixed pid row out J legal (mixed_all J legal.0) r node h wide
mixed_all (entry_is.Down server ∷ J) legal r node h wide =
    let grown = grown_all J legal.0 in
    let rooted = down_rooted server J grown in
    made_mixed J (entry_is.Down server ∷ J) rooted grown refl refl refl r node (mixed_all J legal.0 r node (held_before J (entry_is.Down server ∷ J) rooted grown r node refl refl refl h) wide)
mixed_all (entry_is.Base part ∷ J) legal r node h wide = absurd (none-some node h.0.0)
mixed_all (entry ∷ J) legal r node h wide = let t = mixed_all J legal.0 r node h wide in record { rows = t.rows; kids = t.kids; mixes = t.mixes }
