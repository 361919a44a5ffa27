-- The sheet of the next call of a procedure's handler can be asked at what that sees.
use Rattle.std.proofs.Common.{◌≡◌, ◌≢◌, ◌<◌, ◌==◌, ℕ, List, [], ◌∷◌, Bool, true, false, if◌then◌else◌, is_some, Option, Some, None, length, slice_get, inl, inr, refl, ap, sym, ◌∙◌, subst}
use Rattle.std.specs.Prelude.{IsSome}
use Rattle.std.proofs.lemmas.Bool.{false≢true, not-true, true≢false}
use Rattle.std.proofs.lemmas.Option.{same_Some, slice_get_within}
use Rattle.hm_names.specs.Server.{Server}
use Rattle.hm_data.specs.declared.act.Back.{Back}
use Rattle.hm_data.specs.declared.act.Back.TheVariants as back_is
use Rattle.hm_data.specs.declared.catalog.Edit.{Edit}
use Rattle.hm_data.specs.declared.entry.Entry.TheVariants as entry_is
use Rattle.hm_data.specs.declared.sheet.Row.{Row}
use Rattle.hm_data.specs.declared.sheet.Sheet.{Sheet}
use Rattle.hm_data.specs.declared.step.StepIn.{StepIn}
use Rattle.hm_model.specs.Answers.{failing, row_of}
use Rattle.hm_model.specs.Editions.{sheets_in}
use Rattle.hm_model.specs.Evaluation.{CanBeAsked, CanRun, CanStep, picks, picks_at}
use Rattle.hm_model.specs.Inputs.{input, latest_input, step_input, turn_input, undo_input, undoes}
use Rattle.hm_model.specs.Journal.{Past}
use Rattle.hm_model.specs.Kinds.{kind_of}
use Rattle.hm_model.specs.Picks.{PicksRight, is_pick_right, needs_server}
use Rattle.hm_model.specs.RegionIds.{NamesIds}
use Rattle.hm_model.specs.Rest.{MayStep}
use Rattle.hm_model.specs.Rules.{IsLegal}
use Rattle.hm_model.specs.Sheets.{row_in, sheet_for, sheets_by, undo_by, undo_of_next}
use Rattle.hm_model.specs.Tree.{Node, node_of, root_of}
use Rattle.hm_model.specs.Undo.{Undoable, is_empty, pushed, rest_of, row_if_there, stack}
use Rattle.hm_model.proofs.ExactRows.{sheet_is, valid_by}
use Rattle.hm_model.proofs.Running.{ready_runs, run_last, run_none}
use Rattle.hm_model.proofs.Trees.{at_top, grown_all}
use Rattle.hm_model.proofs.UndoMakes.{AllThere, stacked_all}
use Rattle.hm_model.proofs.ValidSheets.{sheet_there}
use Rattle.hm_judge.specs.Inputs.{CanEvaluate, IsInput}
use Rattle.hm_judge.proofs.Editions.{all_kinds_by, seen_sheets}
use Rattle.hm_judge.proofs.Picking.{needs_step, no_pick}
use Rattle.hm_judge.proofs.RowsThere.{row_there}
use Rattle.hm_judge.proofs.Undoing.{undoes_parts}

-- procedures name regions by their ids, and the first id that one draws or adds is small
abbrev pub AllNameIds : Past → Type 0
AllNameIds J = (p : ℕ) (node : Node) → node_of J p ≡ Some node → NamesIds node.args

-- nothing is undone of a procedure that may make a step
pub steps_only : (J : Past) → IsLegal J → (p : ℕ) (may : MayStep J p) → undoes J p may.0 ≡ false
steps_only J legal p may = run_none J legal p may.0 may.1 (ready_runs J p may.0 may.2)

-- the kind of a procedure that may make a step has a sheet
sheet_of_step : (J : Past) → IsLegal J → (p : ℕ) (may : MayStep J p) → (sheet : Sheet) × (sheet_for (sheets_by J may.0.root) (kind_of may.0.args) ≡ Some sheet) × (sheet.kind ≡ (kind_of may.0.args))
sheet_of_step J legal p may =
    let node = may.0 in
    let found = sheet_there (sheets_by J node.root) (all_kinds_by J legal p node may.1) node.args in
    (found.0, found.1, found.3)

-- where a server has to be picked, one is
picked_by : (J : Past) (p : ℕ) (node : Node) → node_of J p ≡ Some node → undoes J p node ≡ false → (sheet : Sheet) → sheet_for (sheets_by J node.root) (kind_of node.args) ≡ Some sheet
    → (pick : Option Server) → is_pick_right J p node pick (needs_server J p node) ≡ true → picks sheet (step_input J p node pick) ≡ true → IsSome pick
picked_by J p node is off sheet found (Some server) right needed = refl
picked_by J p node is off sheet found None right needed =
    let needs : needs_server J p node ≡ picks sheet (step_input J p node None) =
    needs_step J p node is off ∙ ap (λ s. picks_at (row_in s (row_of J p node)) (step_input J p node None)) found in
    absurd (true≢false (sym needed ∙ sym needs ∙ not-true (needs_server J p node) right))

-- a step can be asked for
asks_step : (J : Past) → IsLegal J → AllNameIds J → (p : ℕ) (pick : Option Server) (may : MayStep J p) → PicksRight J p pick → CanRun (sheets_by J may.0.root) (input J p may.0 pick)
asks_step J legal names p pick may right =
    let node = may.0 in
    let off = steps_only J legal p may in
    let at : StepIn = step_input J p node pick in
    let found = sheet_of_step J legal p may in
    let named = names p node may.1 in
    let same : right.0 ≡ node = same_Some right.0 node (sym right.1 ∙ may.1) in
    let can : CanStep found.0 at = record {
      kind = found.2;
      row = row_there J legal p node may.1 found.0 found.1 (run_last J legal p node may.1 (ready_runs J p node may.2)).0;
      ids = named.0;
      first = named.1;
      pick = picked_by J p node may.1 off found.0 found.1 pick (subst (λ n. is_pick_right J p n pick (needs_server J p n) ≡ true) same right.2);
    } in
    let here : CanRun (sheets_by J node.root) at = subst (λ o. CanBeAsked o at) (sym found.1) can in
    subst (CanRun (sheets_by J node.root)) (sym (ap (λ b. turn_input J b (stack J p) at) off)) here

-- each of the steps has an undo
abbrev AllBack : List Undoable → Type 0
AllBack [] = Unit {0}
AllBack (step ∷ below) = (step.undo ≢ back_is.Nothing) × AllBack below

back_pushed : (undo : Back) (failed : Bool) (p row : ℕ) (edits : List Edit) (below : List Undoable) → AllBack below → AllBack (pushed undo failed p row edits below)
back_pushed back_is.Nothing failed p row edits below all = all
back_pushed back_is.Edits true p row edits below all = all
back_pushed back_is.Edits false p row edits below all = (λ e. cc, all)
back_pushed back_is.Sweep true p row edits below all = all
back_pushed back_is.Sweep false p row edits below all = (λ e. cc, all)
back_pushed back_is.Reopen true p row edits below all = all
back_pushed back_is.Reopen false p row edits below all = (λ e. cc, all)

back_rest : (steps : List Undoable) → AllBack steps → AllBack (rest_of steps)
back_rest [] all = tt
back_rest (step ∷ below) all = all.1

back_if : (b : Bool) (one other : List Undoable) → AllBack one → AllBack other → AllBack (if b then one else other)
back_if true one other h k = h
back_if false one other h k = k

stacked_back : (J : Past) (r : ℕ) → AllBack (stack J r)
stacked_back [] r = tt
stacked_back (entry_is.Step pid pick out ∷ before) r =
    let undo = undo_of_next before pid.0 (node_of before pid.0) in
    let failed = is_some (failing out.answer) in
    let row = row_if_there before pid.0 (node_of before pid.0) in
    back_if (root_of before pid.0 == r) (pushed undo failed pid.0 row out.edits (stack before r)) (stack before r) (back_pushed undo failed pid.0 row out.edits (stack before r) (stacked_back before r)) (stacked_back before r)
stacked_back (entry_is.Undo pid row out ∷ before) r = back_if (root_of before pid.0 == r) (rest_of (stack before r)) (stack before r) (back_rest (stack before r) (stacked_back before r)) (stacked_back before r)
stacked_back (entry_is.Base part ∷ before) r = tt
stacked_back (entry ∷ before) r = stacked_back before r

-- a row that has an undo is in its sheet
row_by_undo : (sheet : Option Sheet) (place : ℕ) → undo_by (row_in sheet place) ≢ back_is.Nothing → (s : Sheet) × (sheet ≡ Some s) × (place < length s.rows)
row_by_undo None place some = absurd (some refl)
row_by_undo (Some sheet) place some = by (slice_get sheet.rows place) refl some
  where
    by : (o : Option Row) → slice_get sheet.rows place ≡ o → undo_by o ≢ back_is.Nothing → (s : Sheet) × (Some sheet ≡ Some s) × (place < length s.rows)
    by None e h = absurd (h refl)
    by (Some row) e h = (sheet, refl, slice_get_within sheet.rows place row e)

-- what undoes a step can be asked for
asks_undo : (J : Past) → IsLegal J → AllNameIds J → (step : Undoable) (its : Node) (own : StepIn) → node_of J step.pid ≡ Some its → undo_by (row_in (sheet_for (sheets_by J its.root) (kind_of its.args)) step.row) ≡ step.undo → step.undo ≢ back_is.Nothing
    → CanRun (sheets_by J its.root) (undo_input step its own)
asks_undo J legal names step its own is by some =
    let at : StepIn = undo_input step its own in
    let sheets = sheets_by J its.root in
    let found = row_by_undo (sheet_for sheets (kind_of its.args)) step.row (λ none. some (sym by ∙ none)) in
    let named = names step.pid its is in
    let can : CanStep found.0 at = record {
      kind = (sheet_is sheets (valid_by J legal its.root) (kind_of its.args) found.0 found.1).1;
      row = found.2;
      ids = named.0;
      first = named.1;
      pick = λ needed. absurd (false≢true (sym (no_pick (slice_get found.0.rows step.row) at refl) ∙ needed));
    } in
    subst (λ o. CanBeAsked o at) (sym found.1) can

asks_latest : (J : Past) → IsLegal J → AllNameIds J → (r : ℕ) (steps : List Undoable) (own : StepIn) → is_empty steps ≡ false → AllThere J r steps → AllBack steps → CanRun (sheets_by J r) (latest_input J steps own)
asks_latest J legal names r [] own some there back = absurd (true≢false some)
asks_latest J legal names r (step ∷ below) own some there back =
    let its = there.0.0 in
    subst (CanRun (sheets_by J r)) (sym (ap (λ n. elim n as (λ x. StepIn) [ None ↦ own | Some its ↦ undo_input step its own ]) there.0.1))
    (subst (λ s. CanRun (sheets_by J s) (undo_input step its own)) there.0.3 (asks_undo J legal names step its own there.0.1 there.0.2 back.0))

-- of whatever procedure can be called, its sheet can be asked
runs_own : (J : Past) → IsLegal J → AllNameIds J → (p : ℕ) (pick : Option Server) (at : StepIn) → IsInput J p pick at → CanEvaluate J p pick → (node : Node) × (node_of J p ≡ Some node) × CanRun (sheets_by J node.root) at
runs_own J legal names p pick at sees (inl steps) =
    let may = steps.0 in
    (may.0, may.1, subst (CanRun (sheets_by J may.0.root)) (sym (sees may.0 may.1)) (asks_step J legal names p pick may steps.1))
runs_own J legal names p pick at sees (inr turns) =
    let node = turns.0 in
    let own : StepIn = step_input J p node pick in
    let parts = undoes_parts J p node turns.2 in
    let here = asks_latest J legal names p (stack J p) own parts.3 (stacked_all J legal p) (stacked_back J p) in (
      node,
      turns.1,
      subst (λ r. CanRun (sheets_by J r) at) (sym (at_top J (grown_all J legal) p node turns.1 parts.0))
          (subst (CanRun (sheets_by J p)) (sym (sees node turns.1 ∙ ap (λ b. turn_input J b (stack J p) own) turns.2)) here),
    )

-- that is one of the sheets of the edition that it sees
pub can_run : (J : Past) → IsLegal J → AllNameIds J → (p : ℕ) (pick : Option Server) (at : StepIn) → IsInput J p pick at → CanEvaluate J p pick → CanRun (sheets_in J at.edition) at
can_run J legal names p pick at sees can =
    let runs = runs_own J legal names p pick at sees can in
    subst (λ sheets. CanRun sheets at) (seen_sheets J legal p runs.0 runs.1 pick at (sees runs.0 runs.1)) runs.2
