-- Who may be a descendant, and what a step's new children may do. Kinds are named here, and a journal: whom a procedure
-- makes is decided kind by kind, and what these may do by how far its rows have led in the journal.
use Rattle.std.proofs.Common.{◌≡◌, ◌≢◌, ℕ, zero, suc, List, [], ◌∷◌, Bool, true, false, not, ◌==◌, Option, Some, None, refl, ap, sym, ◌∙◌, subst, inl, inr, ◌⊎◌, slice_get, arith}
use Rattle.std.proofs.lemmas.Bool.{false≢true, not-true}
use Rattle.std.proofs.lemmas.Option.{none-some, same_Some}
use Rattle.hm_names.specs.Region.{Region}
use Rattle.hm_names.specs.Server.{Server}
use Rattle.hm_names.specs.declared.table.TableName.{TableName}
use Rattle.hm_data.specs.Numbers.{act_number}
use Rattle.hm_data.specs.declared.act.Act.{Act}
use Rattle.hm_data.specs.declared.act.Act.TheVariants as act_is
use Rattle.hm_data.specs.declared.answer.Answer.{Answer}
use Rattle.hm_data.specs.declared.answer.Answer.TheVariants as answer_is
use Rattle.hm_data.specs.declared.answer.Cause.{Cause}
use Rattle.hm_data.specs.declared.args.Args.{Args}
use Rattle.hm_data.specs.declared.args.Args.TheVariants as args_are
use Rattle.hm_data.specs.declared.place.Goal.TheVariants as goal_is
use Rattle.hm_data.specs.declared.sheet.Row.{Row}
use Rattle.hm_data.specs.declared.sheet.Sheet.{Sheet}
use Rattle.hm_data.specs.declared.step.StepOut.{StepOut}
use Rattle.hm_model.specs.Acts.{act_answer}
use Rattle.hm_model.specs.Answers.{failing, last_answer, row_after, row_of}
use Rattle.hm_model.specs.Inputs.{step_input}
use Rattle.hm_model.specs.Journal.{Past}
use Rattle.hm_model.specs.Kinds.{first_row_of, kind_of}
use Rattle.hm_model.specs.Lists.{exact_rows}
use Rattle.hm_model.specs.Locks.{IsIn, asks, exclusive}
use Rattle.hm_model.specs.Outs.{places}
use Rattle.hm_model.specs.ActSorts.{is_edit}
use Rattle.hm_model.specs.Validity.{is_among}
use Rattle.hm_model.specs.Whereabouts.{moved_by}
use Rattle.hm_model.specs.declared.lock.Resource.TheVariants as resource_is
use Rattle.hm_model.proofs.CallSteps.{is_laying, uncut}
use Rattle.hm_model.proofs.ExactRows.{IsLed, IsLedRow, is_listed, led_row, row_passes}
use Rattle.hm_model.proofs.LegalSteps.{StepFacts}
use Rattle.hm_model.proofs.PlainActs.{is_plain}
use Rattle.hm_model.proofs.StepDoes.{Does, IsMoveOut, calls, crash, is_moving, lined, move_act, move_fails, moves, part_of, row_by}
use Rattle.hm_kinds.proofs.Editless.{none_act}
use Rattle.hm_serial.proofs.Editing.{rows_table}
use Rattle.hm_kinds.proofs.Kids.{MadeBy, kids_act}
use Rattle.hm_serial.proofs.Local.{Within}
use Rattle.hm_data.specs.declared.request.Request.TheVariants as request_is
use Rattle.hm_model.specs.Tree.{args_in}
use Rattle.hm_model.specs.Views.{table_of}
use Rattle.hm_model.proofs.PlainActs.{is_caller}
use Rattle.hm_model.proofs.StepDoes.{IsOneCall}
use Rattle.hm_model.proofs.FineMoves.{fine_move, late_move}
use Rattle.hm_serial.proofs.Falling.{places_of, IsEarly, IsPast, StepEdits, lined_edits}
use Rattle.hm_kinds.proofs.Kids.{IsChildOf, made_at}

-- a procedure that another one may have made
abbrev pub is_kid : Args → Bool
is_kid (args_are.Root request first) = false
is_kid (args_are.Transit region goal_is.Move to) = false
is_kid (args_are.Crash server) = false
is_kid (args_are.SweepLayout root) = false
is_kid args = true

-- a descendant that may fail, and one that edits without an undo
abbrev pub may_fail : Args → Bool
may_fail (args_are.AddRegions table first bounds) = true
may_fail (args_are.LayoutCall root) = true
may_fail args = false

abbrev pub is_bare : Args → Bool
is_bare (args_are.DropRegions table ids) = true
is_bare args = false

-- the rows of its kind are listed
abbrev pub is_nil : List Row → Bool
is_nil [] = true
is_nil (row ∷ rows) = false

abbrev pub is_lined : Args → Bool
is_lined args = is_nil (exact_rows (kind_of args))

pub lined_is : (args : Args) → exact_rows (kind_of args) ≡ [] → is_lined args ≡ true
lined_is args e = ap is_nil e

-- what is known of a child that a step makes
pub record NewKid (args : Args) (sheet : Sheet) (out : StepOut) (made : Args) : Type 0 where
  pub kid : is_kid made ≡ true
  pub rows : (t : TableName) → rows_table made ≡ Some t → IsIn (exclusive (resource_is.Table t)) (asks args)
  pub near : (r : Region) → moved_by made ≡ Some r → first_row_of made ≢ 5
  pub safe : may_fail made ≡ true → IsEarly sheet.rows (first_row_of args) out.answer
  pub bare : is_bare made ≡ true → (is_lined args ≡ true) × (failing out.answer ≡ None) × IsPast sheet.rows (first_row_of args) out.answer

zero_five : ◌≡◌ {A = ℕ} 0 5 → ⊥
zero_five e = omega (arith, e)

three_five : ◌≡◌ {A = ℕ} 3 5 → ⊥
three_five e = omega (arith, e)

caller_kid : (args : Args) (sheet : Sheet) (out : StepOut) (made : Args) → is_caller made ≡ true → NewKid args sheet out made
caller_kid args sheet out (args_are.AssignCall region server) h = record { kid = refl; rows = λ t e. absurd (none-some t e); near = λ r e. absurd (none-some r e); safe = λ e. absurd (false≢true e); bare = λ e. absurd (false≢true e) }
caller_kid args sheet out (args_are.CloseCall region server) h = record { kid = refl; rows = λ t e. absurd (none-some t e); near = λ r e. absurd (none-some r e); safe = λ e. absurd (false≢true e); bare = λ e. absurd (false≢true e) }
caller_kid args sheet out made h = absurd (false≢true h)

-- the tables whose regions a root adds or drops are its own
adds_asks : (args : Args) (t : TableName) → is_listed (kind_of args) act_is.AddRegions ≡ true → table_of args ≡ Some t → IsIn (exclusive (resource_is.Table t)) (asks args)
adds_asks (args_are.Root (request_is.CreateTable table keys) first) t h e = inr (inl (ap (λ x. exclusive (resource_is.Table x)) (sym (same_Some table t e))))
adds_asks (args_are.Root (request_is.CreateNamespace ns) first) t h e = absurd (false≢true h)
adds_asks (args_are.Root (request_is.DropNamespace ns) first) t h e = absurd (false≢true h)
adds_asks (args_are.Root (request_is.DeleteTable table) first) t h e = absurd (false≢true h)
adds_asks (args_are.Root (request_is.EnableTable table) first) t h e = absurd (false≢true h)
adds_asks (args_are.Root (request_is.DisableTable table) first) t h e = absurd (false≢true h)
adds_asks (args_are.Root (request_is.ModifyTable table version) first) t h e = absurd (false≢true h)
adds_asks (args_are.Root (request_is.SplitRegion region key) first) t h e = absurd (false≢true h)
adds_asks (args_are.Root (request_is.MergeRegions regions) first) t h e = absurd (false≢true h)
adds_asks (args_are.Root (request_is.Move region to) first) t h e = absurd (false≢true h)
adds_asks args t h e = absurd (false≢true h)

drops_asks : (args : Args) (t : TableName) → is_listed (kind_of args) act_is.DropRegions ≡ true → table_of args ≡ Some t → IsIn (exclusive (resource_is.Table t)) (asks args)
drops_asks (args_are.Root (request_is.DeleteTable table) first) t h e = inr (inl (ap (λ x. exclusive (resource_is.Table x)) (sym (same_Some table t e))))
drops_asks (args_are.Root (request_is.CreateNamespace ns) first) t h e = absurd (false≢true h)
drops_asks (args_are.Root (request_is.DropNamespace ns) first) t h e = absurd (false≢true h)
drops_asks (args_are.Root (request_is.CreateTable table keys) first) t h e = absurd (false≢true h)
drops_asks (args_are.Root (request_is.EnableTable table) first) t h e = absurd (false≢true h)
drops_asks (args_are.Root (request_is.DisableTable table) first) t h e = absurd (false≢true h)
drops_asks (args_are.Root (request_is.ModifyTable table version) first) t h e = absurd (false≢true h)
drops_asks (args_are.Root (request_is.SplitRegion region key) first) t h e = absurd (false≢true h)
drops_asks (args_are.Root (request_is.MergeRegions regions) first) t h e = absurd (false≢true h)
drops_asks (args_are.Root (request_is.Move region to) first) t h e = absurd (false≢true h)
drops_asks args t h e = absurd (false≢true h)

-- a child of a procedure that lists its rows
lined_kid : (J : Past) (p : ℕ) (root args : Args) (sheet : Sheet) (row : Row) (out : StepOut) → StepEdits J p root args sheet row out → is_lined args ≡ true → is_listed (kind_of args) row.act ≡ true → (out.children ≡ [] → ⊥) → (made : Args) → IsChildOf row.act args made → NewKid args sheet out made
lined_kid J p root args sheet row out edits in_lines listed some (args_are.AddRegions table first bounds) h = record {
  kid = refl;
  rows = λ t e. adds_asks args t (ap (is_listed (kind_of args)) (sym h.0) ∙ listed) (h.1 ∙ e);
  near = λ r e. absurd (none-some r e);
  safe = λ e. elim (edits.early (ap (λ a. is_among (7 ∷ 8 ∷ []) (act_number a)) h.0)) [ inl early ↦ early | inr none ↦ absurd (some none) ];
  bare = λ e. absurd (false≢true e);
}
lined_kid J p root args sheet row out edits in_lines listed some (args_are.DropRegions table ids) h = record {
  kid = refl;
  rows = λ t e. drops_asks args t (ap (is_listed (kind_of args)) (sym h.0) ∙ listed) (h.1 ∙ e);
  near = λ r e. absurd (none-some r e);
  safe = λ e. absurd (false≢true e);
  bare = λ e. elim (edits.drops (ap (λ a. act_number a == 13) h.0)) [ inl past ↦ (in_lines, past.0, past.1) | inr none ↦ absurd (some none) ];
}
lined_kid J p root args sheet row out edits in_lines listed some (args_are.LayoutCall own) h = record {
  kid = refl;
  rows = λ t e. absurd (none-some t e);
  near = λ r e. absurd (none-some r e);
  safe = λ e. elim (edits.early (ap (λ a. is_among (7 ∷ 8 ∷ []) (act_number a)) h)) [ inl early ↦ early | inr none ↦ absurd (some none) ];
  bare = λ e. absurd (false≢true e);
}
lined_kid J p root args sheet row out edits in_lines listed some (args_are.FenceCall server) h = record { kid = refl; rows = λ t e. absurd (none-some t e); near = λ r e. absurd (none-some r e); safe = λ e. absurd (false≢true e); bare = λ e. absurd (false≢true e) }
lined_kid J p root args sheet row out edits in_lines listed some (args_are.Transit region goal_is.Assign to) h = record { kid = refl; rows = λ t e. absurd (none-some t e); near = λ r e f. zero_five f; safe = λ e. absurd (false≢true e); bare = λ e. absurd (false≢true e) }
lined_kid J p root args sheet row out edits in_lines listed some (args_are.Transit region goal_is.Unassign to) h = record { kid = refl; rows = λ t e. absurd (none-some t e); near = λ r e f. three_five f; safe = λ e. absurd (false≢true e); bare = λ e. absurd (false≢true e) }
lined_kid J p root args sheet row out edits in_lines listed some other h = absurd h

-- a child of a crash
crash_kid : (args : Args) (sheet : Sheet) (act : Act) (out : StepOut) → (is_among (37 ∷ 38 ∷ []) (act_number act) ≡ true) → (made : Args) → IsChildOf act args made → NewKid args sheet out made
crash_kid args sheet act out h (args_are.FenceCall server) k = record { kid = refl; rows = λ t e. absurd (none-some t e); near = λ r e. absurd (none-some r e); safe = λ e. absurd (false≢true e); bare = λ e. absurd (false≢true e) }
crash_kid args sheet act out h (args_are.Transit region goal_is.Assign to) k = record { kid = refl; rows = λ t e. absurd (none-some t e); near = λ r e f. zero_five f; safe = λ e. absurd (false≢true e); bare = λ e. absurd (false≢true e) }
crash_kid args sheet act out h (args_are.Transit region goal_is.Unassign to) k = record { kid = refl; rows = λ t e. absurd (none-some t e); near = λ r e f. three_five f; safe = λ e. absurd (false≢true e); bare = λ e. absurd (false≢true e) }
crash_kid args sheet act out h (args_are.AddRegions table first bounds) k = absurd (false≢true (sym (ap (λ a. is_among (37 ∷ 38 ∷ []) (act_number a)) k.0) ∙ h))
crash_kid args sheet act out h (args_are.DropRegions table ids) k = absurd (false≢true (sym (ap (λ a. is_among (37 ∷ 38 ∷ []) (act_number a)) k.0) ∙ h))
crash_kid args sheet act out h (args_are.LayoutCall own) k = absurd (false≢true (sym (ap (λ a. is_among (37 ∷ 38 ∷ []) (act_number a)) k) ∙ h))
crash_kid args sheet act out h other k = absurd k

-- a descendant that lists its rows adds or drops regions' rows
pub kid_rows : (args : Args) → is_kid args ≡ true → exact_rows (kind_of args) ≡ [] → rows_table args ≡ None → ⊥
kid_rows (args_are.AddRegions table first bounds) h e none = none-some table (sym none)
kid_rows (args_are.DropRegions table ids) h e none = none-some table (sym none)
kid_rows (args_are.Root request first) h e none = false≢true h
kid_rows (args_are.Crash server) h e none = false≢true h
kid_rows (args_are.SweepLayout own) h e none = false≢true h
kid_rows args h e none = cc

-- a step, by its part of the kinds
module _ (J : Past) (p : ℕ) (pick : Option Server) (out : StepOut) (step : StepFacts J p pick out) (d : Does J p step.node.args (last_answer J p) step.sheet.rows out)
    (led : exact_rows (kind_of step.node.args) ≡ [] → IsLed (kind_of step.node.args) step.sheet.rows (row_of J p step.node))
    (root : Args) (own : exact_rows (kind_of step.node.args) ≡ [] → rows_table step.node.args ≡ None → root ≡ step.node.args) (belongs : (t : TableName) → rows_table step.node.args ≡ Some t → IsIn (exclusive (resource_is.Table t)) (asks root)) where
  pub led_at : exact_rows (kind_of step.node.args) ≡ [] → IsLedRow (kind_of step.node.args) step.sheet.rows step.row
  led_at e = led_row (kind_of step.node.args) step.sheet step.valid (row_of J p step.node) (led e) step.row step.row_is

  pub own_edits : exact_rows (kind_of step.node.args) ≡ [] → StepEdits J p root step.node.args step.sheet step.row out
  own_edits e = lined_edits J p pick out step (led_at e) root (own e) belongs

  exact_row_of : (kind : ℕ) → kind_of step.node.args ≡ kind → (first : Row) (more : List Row) → exact_rows kind ≡ first ∷ more → slice_get (exact_rows kind) (row_of J p step.node) ≡ Some step.row
  exact_row_of kind e first more is = ap (λ l. slice_get l (row_of J p step.node)) (is ∙ sym (Rattle.hm_model.proofs.ExactRows.exact_is step.sheet step.valid kind (step.of_kind ∙ e) first more is)) ∙ step.row_is

  crash_act : kind_of step.node.args ≡ 11 → is_among (37 ∷ 38 ∷ []) (act_number step.row.act) ≡ true
  crash_act e = row_passes (λ row. is_among (37 ∷ 38 ∷ []) (act_number row.act)) (exact_rows 11) refl (row_of J p step.node) step.row (exact_row_of 11 e _ _ refl)

  crash_plain : kind_of step.node.args ≡ 11 → is_plain step.row.act ≡ true
  crash_plain e = row_passes (λ row. is_plain row.act) (exact_rows 11) refl (row_of J p step.node) step.row (exact_row_of 11 e _ _ refl)

  crash_out : kind_of step.node.args ≡ 11 → out ≡ act_answer step.row.act step.row.next (step_input J p step.node pick)
  crash_out e = step.out_is ∙ uncut step.row (step_input J p step.node pick) (row_passes (λ row. row.after) (exact_rows 11) refl (row_of J p step.node) step.row (exact_row_of 11 e _ _ refl))

  some_children : (i : ℕ) (made : Args) → slice_get (args_in out.children) i ≡ Some made → out.children ≡ [] → ⊥
  some_children i made get none = none-some made (ap (λ c. slice_get (args_in c) i) (sym none) ∙ get)

  one_call : (childs : IsOneCall out.children) (i : ℕ) (made : Args) → slice_get (args_in out.children) i ≡ Some made → is_caller made ≡ true
  one_call (inl none) i made get = absurd (some_children i made get none)
  one_call (inr one) i made get = ap is_caller (sym (by i (ap (λ c. slice_get (args_in c) i) (sym one.1) ∙ get))) ∙ one.2
    where
      by : (i : ℕ) → slice_get (one.0 ∷ []) i ≡ Some made → one.0 ≡ made
      by zero g = same_Some one.0 made g
      by (suc i) g = absurd (none-some made g)

  move_out : kind_of step.node.args ≡ 10 → IsMoveOut step.row.next out
  move_out kind = subst (IsMoveOut step.row.next) (sym step.out_is) (row_by (IsMoveOut step.row.next) step.row (step_input J p step.node pick) (λ c. move_fails step.row.next c) (move_act step.row.act (row_passes (λ row. is_moving row.act) (exact_rows 10) refl (row_of J p step.node) step.row (exact_row_of 10 kind _ _ refl)) step.row.next (step_input J p step.node pick)))

  -- what is known of each child that the step makes
  pub new_kid : (i : ℕ) (made : Args) → slice_get (args_in out.children) i ≡ Some made → NewKid step.node.args step.sheet out made
  new_kid i made get = elim (part_of step.node.args) [
    | lined exact unmoved uncalled ↦
        let edits = own_edits exact in
        lined_kid J p root step.node.args step.sheet step.row out edits (lined_is step.node.args exact) (led_at exact).listed (some_children i made get) made (made_at (IsChildOf step.row.act step.node.args) out.children edits.made i made get)
    | crash kind unmoved uncalled ↦
        crash_kid step.node.args step.sheet step.row.act out (crash_act kind) made (made_at (IsChildOf step.row.act step.node.args) out.children (subst (MadeBy step.row.act step.node.args) (sym (crash_out kind)) (kids_act step.row.act (crash_plain kind) step.row.next (step_input J p step.node pick))) i made get)
    | moves r m kind uncalled ↦ caller_kid step.node.args step.sheet out made (one_call (move_out kind).childs i made get)
    | calls verb v unmoved exact ↦ absurd (some_children i made get (d.calls verb v).childless)
  ]

  crash_none : (act : Act) → is_among (37 ∷ 38 ∷ []) (act_number act) ≡ true → is_edit act ≡ false
  crash_none act_is.Fence h = refl
  crash_none act_is.Reassign h = refl
  crash_none act h = absurd (false≢true h)

  -- a procedure of exact rows edits nothing
  pub editless : (exact_rows (kind_of step.node.args) ≡ []) ⊎ (out.edits ≡ [])
  editless = elim (part_of step.node.args) [
    | lined exact unmoved uncalled ↦ inl exact
    | crash kind unmoved uncalled ↦ inr (ap (λ (o : StepOut). o.edits) (crash_out kind) ∙ none_act step.row.act (crash_plain kind) (crash_none step.row.act (crash_act kind)) step.row.next (step_input J p step.node pick))
    | moves r m kind uncalled ↦ inr (d.editless r m)
    | calls verb v unmoved exact ↦ inr (d.calls verb v).editless
  ]

  pub step_within : Within root out.edits
  step_within = elim editless [ inl e ↦ (own_edits e).within | inr none ↦ subst (Within root) (sym none) tt ]

  pub step_clean : (c : Cause) → failing out.answer ≡ Some c → out.edits ≡ []
  step_clean c h = elim editless [ inl e ↦ (own_edits e).clean c h | inr none ↦ none ]

  drops_act : (act : Act) → is_listed 21 act ≡ true → (act_number act == 30) ≡ true
  drops_act act_is.DropRegionRows h = refl
  drops_act act h = absurd (false≢true h)

  kid_lined_fails : (args : Args) → step.node.args ≡ args → is_kid args ≡ true → exact_rows (kind_of args) ≡ [] → (c : Cause) → failing out.answer ≡ Some c → may_fail args ≡ true
  kid_lined_fails (args_are.AddRegions table first bounds) e kid exact c h = refl
  kid_lined_fails (args_are.DropRegions table ids) e kid exact c h =
      let lined_here : exact_rows (kind_of step.node.args) ≡ [] = ap (λ a. exact_rows (kind_of a)) e in
      let at = led_at lined_here in
      let places = places_of (kind_of step.node.args) step.sheet.rows step.row at in
      let after = places.removes_late (drops_act step.row.act (ap (λ a. is_listed (kind_of a) step.row.act) (sym e) ∙ at.listed)) in
      absurd (none-some c (sym ((own_edits lined_here).late after).0 ∙ h))
  kid_lined_fails (args_are.Root request first) e kid exact c h = absurd (false≢true kid)
  kid_lined_fails (args_are.Crash server) e kid exact c h = absurd (false≢true kid)
  kid_lined_fails (args_are.LayoutCall own) e kid exact c h = refl
  kid_lined_fails (args_are.SweepLayout own) e kid exact c h = absurd (false≢true kid)
  kid_lined_fails args e kid exact c h = cc

  laying_fails : (args : Args) → is_laying args ≡ true → may_fail args ≡ true
  laying_fails (args_are.LayoutCall own) h = refl
  laying_fails args h = absurd (false≢true h)

  kid_not_crash : (args : Args) → is_kid args ≡ true → kind_of args ≡ 11 → ⊥
  kid_not_crash (args_are.Root request first) h e = false≢true h
  kid_not_crash (args_are.Crash server) h e = false≢true h
  kid_not_crash (args_are.SweepLayout own) h e = false≢true h
  kid_not_crash args h e = omega (arith, e)

  -- a descendant that fails is one that may
  pub kid_fails : is_kid step.node.args ≡ true → ((r : Region) → moved_by step.node.args ≡ Some r → row_of J p step.node ≢ 5) → (c : Cause) → failing out.answer ≡ Some c → may_fail step.node.args ≡ true
  kid_fails kid near c h = elim (part_of step.node.args) [
    | lined exact unmoved uncalled ↦ kid_lined_fails step.node.args refl kid exact c h
    | crash kind unmoved uncalled ↦ absurd (kid_not_crash step.node.args kid kind)
    | moves r m kind uncalled ↦
        let own_row = exact_row_of 10 kind _ _ refl in
        let l = late_move (row_of J p step.node) step.row own_row (near r m) in
        let fine = fine_move step.row.act (row_passes (λ row. is_moving row.act) (exact_rows 10) refl (row_of J p step.node) step.row own_row) l.1 step.row.next (step_input J p step.node pick) in
        absurd (none-some c (sym fine ∙ ap (λ (o : StepOut). failing o.answer) (sym (step.out_is ∙ uncut step.row (step_input J p step.node pick) l.0)) ∙ h))
    | calls verb v unmoved exact ↦ elim (d.calls verb v).does [
      | inl asks_it ↦ absurd (none-some c (sym (ap failing asks_it.2) ∙ h))
      | inr ends ↦ elim ends.1 [
        | inl gone ↦ absurd (none-some c (sym (ap failing gone.0) ∙ h))
        | inr other ↦ elim other [ inl told ↦ absurd (none-some c (sym (ap failing told.1) ∙ h)) | inr failed ↦ laying_fails step.node.args failed.2 ]
      ]
    ]
  ]

  -- a transit that began elsewhere never comes to the row that checks
  pub near_step : (r : Region) → moved_by step.node.args ≡ Some r → row_after (first_row_of step.node.args) (Some out.answer) ≢ 5
  near_step r m = elim (part_of step.node.args) [
    | lined exact unmoved uncalled ↦ absurd (none-some r (sym unmoved ∙ m))
    | crash kind unmoved uncalled ↦ absurd (none-some r (sym unmoved ∙ m))
    | moves s moved kind uncalled ↦ by out.answer (move_out kind).near (Rattle.std.proofs.lemmas.Bool.eqb-false step.row.next 5 (not-true (step.row.next == 5) (row_passes (λ row. not (row.next == 5)) (exact_rows 10) refl (row_of J p step.node) step.row (exact_row_of 10 kind _ _ refl))))
    | calls verb v unmoved exact ↦ absurd (none-some r (sym unmoved ∙ m))
  ]
    where
      by : (answer : Answer) → Rattle.hm_model.proofs.StepDoes.GoesNear step.row.next answer → (step.row.next ≡ 5 → ⊥) → row_after (first_row_of step.node.args) (Some answer) ≢ 5
      by (answer_is.More n) (inl same) not_five = λ e. not_five (sym same ∙ e)
      by (answer_is.More n) (inr zero_is) not_five = λ e. omega (arith, zero_is, e)
      by (answer_is.Wait n) same not_five = λ e. not_five (sym same ∙ e)
      by (answer_is.Done told) near not_five = λ e. omega (arith, e)
      by (answer_is.Fail c) near not_five = λ e. omega (arith, e)
      by answer near not_five = absurd near

  adds_number : (act : Act) → is_listed 20 act ≡ true → is_among (29 ∷ 30 ∷ []) (act_number act) ≡ true
  adds_number act_is.AddRegionRows h = refl
  adds_number act h = absurd (false≢true h)

  drops_number : (act : Act) → is_listed 21 act ≡ true → is_among (29 ∷ 30 ∷ []) (act_number act) ≡ true
  drops_number act_is.DropRegionRows h = refl
  drops_number act h = absurd (false≢true h)

  kid_number : (args : Args) (act : Act) → is_kid args ≡ true → exact_rows (kind_of args) ≡ [] → is_listed (kind_of args) act ≡ true → is_among (29 ∷ 30 ∷ []) (act_number act) ≡ true
  kid_number (args_are.AddRegions table first bounds) act kid exact listed = adds_number act listed
  kid_number (args_are.DropRegions table ids) act kid exact listed = drops_number act listed
  kid_number (args_are.Root request first) act kid exact listed = absurd (false≢true kid)
  kid_number (args_are.Crash server) act kid exact listed = absurd (false≢true kid)
  kid_number (args_are.SweepLayout own) act kid exact listed = absurd (false≢true kid)
  kid_number args act kid exact listed = cc

  quiet_child : (act : Act) (args made : Args) → is_among (29 ∷ 30 ∷ []) (act_number act) ≡ true → IsChildOf act args made → (may_fail made ≡ false) × (is_bare made ≡ false)
  quiet_child act args (args_are.AddRegions table first bounds) h k = absurd (false≢true (sym (ap (λ a. is_among (29 ∷ 30 ∷ []) (act_number a)) k.0) ∙ h))
  quiet_child act args (args_are.DropRegions table ids) h k = absurd (false≢true (sym (ap (λ a. is_among (29 ∷ 30 ∷ []) (act_number a)) k.0) ∙ h))
  quiet_child act args (args_are.LayoutCall own) h k = absurd (false≢true (sym (ap (λ a. is_among (29 ∷ 30 ∷ []) (act_number a)) k) ∙ h))
  quiet_child act args (args_are.FenceCall server) h k = (refl, refl)
  quiet_child act args (args_are.Transit region goal to) h k = (refl, refl)
  quiet_child act args other h k = absurd k

  caller_quiet : (made : Args) → is_caller made ≡ true → (may_fail made ≡ false) × (is_bare made ≡ false)
  caller_quiet (args_are.AssignCall region server) h = (refl, refl)
  caller_quiet (args_are.CloseCall region server) h = (refl, refl)
  caller_quiet made h = absurd (false≢true h)

  -- a descendant makes none that may fail or edits without an undo
  pub kid_quiet : is_kid step.node.args ≡ true → (i : ℕ) (made : Args) → slice_get (args_in out.children) i ≡ Some made → (may_fail made ≡ false) × (is_bare made ≡ false)
  kid_quiet kid i made get = elim (part_of step.node.args) [
    | lined exact unmoved uncalled ↦
        let edits = own_edits exact in
        quiet_child step.row.act step.node.args made (kid_number step.node.args step.row.act kid exact (led_at exact).listed) (made_at (IsChildOf step.row.act step.node.args) out.children edits.made i made get)
    | crash kind unmoved uncalled ↦ absurd (kid_not_crash step.node.args kid kind)
    | moves r m kind uncalled ↦ caller_quiet made (one_call (move_out kind).childs i made get)
    | calls verb v unmoved exact ↦ absurd (some_children i made get (d.calls verb v).childless)
  ]
