-- The row of a procedure that hasn't ended is in its sheet, of whatever kind it is.
use Rattle.std.proofs.Common.{◌≡◌, ◌<◌, ◌≤◌, ◌⊎◌, ◌==◌, ℕ, List, [], ◌∷◌, Bool, true, false, nat_lt, Option, Some, None, length, slice_get, inl, inr, refl, arith, ap, sym, ◌∙◌, subst}
use Rattle.std.specs.List.{list_all}
use Rattle.std.proofs.lemmas.Bool.{cases_eq, eqb-true, false≢true, lt-ltb, ltb-true, true≢false}
use Rattle.std.proofs.lemmas.Option.{none-some, same_Some, slice_get_within}
use Rattle.hm_names.specs.Server.{Server}
use Rattle.hm_names.specs.declared.pid.Pid.{Pid}
use Rattle.hm_data.specs.declared.act.Act.{Act}
use Rattle.hm_data.specs.declared.act.Act.TheVariants as act_is
use Rattle.hm_data.specs.declared.answer.Answer.{Answer}
use Rattle.hm_data.specs.declared.answer.Answer.TheVariants as answer_is
use Rattle.hm_data.specs.declared.args.Args.{Args}
use Rattle.hm_data.specs.declared.args.Args.TheVariants as args_are
use Rattle.hm_data.specs.declared.call.Verb.{Verb}
use Rattle.hm_data.specs.declared.catalog.CatKey.TheVariants as key_is
use Rattle.hm_data.specs.declared.catalog.CatRow.TheVariants as row_is
use Rattle.hm_data.specs.declared.catalog.TableState.TheVariants as state_is
use Rattle.hm_data.specs.declared.entry.Entry.TheVariants as entry_is
use Rattle.hm_data.specs.declared.place.Goal.TheVariants as goal_is
use Rattle.hm_data.specs.declared.request.Request.TheVariants as request_is
use Rattle.hm_data.specs.declared.sheet.Row.{Row}
use Rattle.hm_data.specs.declared.sheet.Sheet.{Sheet}
use Rattle.hm_data.specs.declared.step.StepIn.{StepIn}
use Rattle.hm_data.specs.declared.step.StepOut.{StepOut}
use Rattle.hm_model.specs.Acts.{act_answer}
use Rattle.hm_model.specs.Answers.{is_stop, is_stopped, last_answer, no_row, row_after, row_of}
use Rattle.hm_model.specs.Catalog.{row_at, set_to}
use Rattle.hm_model.specs.Changes.{add_ranges, changed, remove_regions}
use Rattle.hm_model.specs.Evaluation.{row_answer}
use Rattle.hm_model.specs.Inputs.{step_input}
use Rattle.hm_model.specs.Journal.{Past}
use Rattle.hm_model.specs.Kinds.{first_row_of, kind_of}
use Rattle.hm_model.specs.Lists.{Line, exact_rows, orders_of}
use Rattle.hm_model.specs.NamespaceActs.{version_of}
use Rattle.hm_model.specs.Outs.{edits_rows, given}
use Rattle.hm_model.specs.Pieces.{ranges_between}
use Rattle.hm_model.specs.RowsSaid.{in_state, in_version}
use Rattle.hm_model.specs.Rules.{IsLegal}
use Rattle.hm_model.specs.Sheets.{sheet_for, sheets_by}
use Rattle.hm_model.specs.Tree.{Node, made, node_of}
use Rattle.hm_model.specs.Validity.{IsValid}
use Rattle.hm_model.specs.Verbs.{verb_in}
use Rattle.hm_model.specs.Views.{asked_of, bounds_of, first_id_of, namespace_of, regions_in, table_of}
use Rattle.hm_model.specs.Wanted.{ids_of}
use Rattle.hm_model.proofs.CallSteps.{CallOut}
use Rattle.hm_model.proofs.ExactRows.{exact_is, led_row, row_passes, sheet_is, start_leads, valid_by}
use Rattle.hm_model.proofs.LegalSteps.{StepFacts, ready_stops}
use Rattle.hm_model.proofs.PlainActs.{GoesTo, IsPlainOut, is_plain, plain_act, plain_fails}
use Rattle.hm_model.proofs.StepDoes.{GoesNear, IsMoveOut, lined, crash, moves, calls, is_moving, move_act, move_fails, part_of, row_by}
use Rattle.hm_model.proofs.Trees.{Grown, IsRooted, answer_now, does_of, down_rooted, grown_all, is_there, le_or_lt, node_same, old_or_new, other_answer, root_within, step_of, submit_rooted, undo_rooted}
use Rattle.hm_model.proofs.Siblings.{all_in}
use Rattle.hm_model.proofs.ValidSheets.{Leads}
use Rattle.hm_model.proofs.Small.{cons_nil}

-- the acts at which kinds that list lines end
abbrev ends : Act → Bool
ends act_is.AddNamespace = true
ends act_is.DropNamespace = true
ends act_is.SetEnabled = true
ends act_is.DropTable = true
ends act_is.SetDisabled = true
ends act_is.SetVersion = true
ends act_is.Finish = true
ends act_is.AddRegionRows = true
ends act_is.DropRegionRows = true
ends act = false

abbrev Stops : StepOut → Type 0
Stops out = is_stop out.answer ≡ true

given_stops : {A : Type 0} (part : Option A) (act : A → StepOut) → ((x : A) → Stops (act x)) → Stops (given part no_row act)
given_stops None act each = refl
given_stops (Some part) act each = each part

-- where no row follows, they stop
act_stops : (act : Act) → ends act ≡ true → (at : StepIn) → Stops (act_answer act no_row at)
act_stops act_is.AddNamespace e at = given_stops (namespace_of at.args) (λ ns. edits_rows no_row (set_to (row_at at.rows) (key_is.Ns ns) (Some row_is.Ns) ∷ [])) (λ ns. refl)
act_stops act_is.DropNamespace e at = given_stops (namespace_of at.args) (λ ns. edits_rows no_row (set_to (row_at at.rows) (key_is.Ns ns) None ∷ [])) (λ ns. refl)
act_stops act_is.SetEnabled e at = given_stops (table_of at.args) (λ table. edits_rows no_row (changed (row_at at.rows) (key_is.Table table) (in_state state_is.Enabled) ∷ [])) (λ table. refl)
act_stops act_is.DropTable e at = given_stops (table_of at.args) (λ table. edits_rows no_row (set_to (row_at at.rows) (key_is.Table table) None ∷ [])) (λ table. refl)
act_stops act_is.SetDisabled e at = given_stops (table_of at.args) (λ table. edits_rows no_row (changed (row_at at.rows) (key_is.Table table) (in_state state_is.Disabled) ∷ [])) (λ table. refl)
act_stops act_is.SetVersion e at =
    given_stops (table_of at.args) (λ table. given (version_of (asked_of at.args)) no_row (λ version. edits_rows no_row (changed (row_at at.rows) (key_is.Table table) (in_version version) ∷ [])))
    (λ table. given_stops (version_of (asked_of at.args)) (λ version. edits_rows no_row (changed (row_at at.rows) (key_is.Table table) (in_version version) ∷ [])) (λ version. refl))
act_stops act_is.Finish e at = refl
act_stops act_is.AddRegionRows e at =
    given_stops (table_of at.args) (λ table. given (bounds_of at.args) no_row (λ bounds. edits_rows no_row (add_ranges (row_at at.rows) table (first_id_of at.args) (ranges_between bounds))))
    (λ table. given_stops (bounds_of at.args) (λ bounds. edits_rows no_row (add_ranges (row_at at.rows) table (first_id_of at.args) (ranges_between bounds))) (λ bounds. refl))
act_stops act_is.DropRegionRows e at = given_stops (table_of at.args) (λ table. edits_rows no_row (remove_regions (row_at at.rows) (regions_in table (ids_of at.args)))) (λ table. refl)
act_stops act e at = absurd (false≢true e)

row_stops : (row : Row) (at : StepIn) → ends row.act ≡ true → row.next ≡ no_row → Stops (row_answer row at)
row_stops row at e last = row_by Stops row at (λ cause. refl) (subst (λ next. Stops (act_answer row.act next at)) (sym last) (act_stops row.act e at))

-- the last of some lines is such an act
abbrev end_well : List Line → Bool
end_well [] = true
end_well (line ∷ []) = ends line.act
end_well (line ∷ next ∷ more) = end_well (next ∷ more)

-- rows lead from a place on to such an end
abbrev HasLines : List Row → ℕ → Type 0
HasLines rows place = (line : Line) × (lines : List Line) × Leads rows place (line ∷ lines) × (end_well (line ∷ lines) ≡ true)

-- a place of a sheet that a procedure may stand at
abbrev IsIn : Args → Sheet → ℕ → Type 0
IsIn args sheet place = (exact_rows (kind_of args) ≡ [] → HasLines sheet.rows place) × (place < length sheet.rows)

lines_in : (args : Args) (sheet : Sheet) (place : ℕ) → HasLines sheet.rows place → IsIn args sheet place
lines_in args sheet place has = (λ none. has, slice_get_within sheet.rows place has.2.0 has.2.1)

lined_in : (args : Args) (sheet : Sheet) → IsValid sheet → sheet.kind ≡ kind_of args → exact_rows (kind_of args) ≡ [] → first_row_of args ≡ 0 → list_all end_well (orders_of (kind_of args)) ≡ true → IsIn args sheet 0
lined_in args sheet valid e exact start well =
    let led = start_leads args exact sheet valid e in
    by led.0 (all_in end_well (orders_of (kind_of args)) led.0 well led.1) (subst (λ n. Leads sheet.rows n led.0) start led.2)
  where
    by : (lines : List Line) → end_well lines ≡ true → Leads sheet.rows 0 lines → IsIn args sheet 0
    by [] fine leads = absurd (omega (arith, leads))
    by (line ∷ lines) fine leads = lines_in args sheet 0 (line, lines, leads, fine)

exact_in : (args : Args) (sheet : Sheet) → IsValid sheet → sheet.kind ≡ kind_of args → (first : Row) (more : List Row) → exact_rows (kind_of args) ≡ first ∷ more → (place : ℕ) → nat_lt place (length (first ∷ more)) ≡ true → IsIn args sheet place
exact_in args sheet valid e first more is place low =
    (λ none. absurd (cons_nil first more (sym is ∙ none)), subst (λ rows. place < length rows) (sym (exact_is sheet valid (kind_of args) e first more is)) (ltb-true place (length (first ∷ more)) low))

-- so is the first row of each
first_in : (args : Args) (sheet : Sheet) → IsValid sheet → sheet.kind ≡ kind_of args → IsIn args sheet (first_row_of args)
first_in (args_are.Root (request_is.CreateNamespace ns) first) sheet valid e = lined_in (args_are.Root (request_is.CreateNamespace ns) first) sheet valid e refl refl refl
first_in (args_are.Root (request_is.DropNamespace ns) first) sheet valid e = lined_in (args_are.Root (request_is.DropNamespace ns) first) sheet valid e refl refl refl
first_in (args_are.Root (request_is.CreateTable table keys) first) sheet valid e = lined_in (args_are.Root (request_is.CreateTable table keys) first) sheet valid e refl refl refl
first_in (args_are.Root (request_is.DeleteTable table) first) sheet valid e = lined_in (args_are.Root (request_is.DeleteTable table) first) sheet valid e refl refl refl
first_in (args_are.Root (request_is.EnableTable table) first) sheet valid e = lined_in (args_are.Root (request_is.EnableTable table) first) sheet valid e refl refl refl
first_in (args_are.Root (request_is.DisableTable table) first) sheet valid e = lined_in (args_are.Root (request_is.DisableTable table) first) sheet valid e refl refl refl
first_in (args_are.Root (request_is.ModifyTable table version) first) sheet valid e = lined_in (args_are.Root (request_is.ModifyTable table version) first) sheet valid e refl refl refl
first_in (args_are.Root (request_is.SplitRegion region key) first) sheet valid e = lined_in (args_are.Root (request_is.SplitRegion region key) first) sheet valid e refl refl refl
first_in (args_are.Root (request_is.MergeRegions regions) first) sheet valid e = lined_in (args_are.Root (request_is.MergeRegions regions) first) sheet valid e refl refl refl
first_in (args_are.Root (request_is.Move region to) first) sheet valid e = exact_in (args_are.Root (request_is.Move region to) first) sheet valid e _ _ refl 5 refl
first_in (args_are.Transit region goal_is.Assign to) sheet valid e = exact_in (args_are.Transit region goal_is.Assign to) sheet valid e _ _ refl 0 refl
first_in (args_are.Transit region goal_is.Unassign to) sheet valid e = exact_in (args_are.Transit region goal_is.Unassign to) sheet valid e _ _ refl 3 refl
first_in (args_are.Transit region goal_is.Move to) sheet valid e = exact_in (args_are.Transit region goal_is.Move to) sheet valid e _ _ refl 5 refl
first_in (args_are.Crash server) sheet valid e = exact_in (args_are.Crash server) sheet valid e _ _ refl 0 refl
first_in (args_are.AddRegions table first bounds) sheet valid e = lined_in (args_are.AddRegions table first bounds) sheet valid e refl refl refl
first_in (args_are.DropRegions table ids) sheet valid e = lined_in (args_are.DropRegions table ids) sheet valid e refl refl refl
first_in (args_are.AssignCall region server) sheet valid e = exact_in (args_are.AssignCall region server) sheet valid e _ _ refl 0 refl
first_in (args_are.CloseCall region server) sheet valid e = exact_in (args_are.CloseCall region server) sheet valid e _ _ refl 0 refl
first_in (args_are.FenceCall server) sheet valid e = exact_in (args_are.FenceCall server) sheet valid e _ _ refl 0 refl
first_in (args_are.LayoutCall root) sheet valid e = exact_in (args_are.LayoutCall root) sheet valid e _ _ refl 0 refl
first_in (args_are.SweepLayout root) sheet valid e = exact_in (args_are.SweepLayout root) sheet valid e _ _ refl 0 refl

-- the rows of those that make calls: the call, and what becomes of its answer
call_in : (args : Args) (verb : Verb) → verb_in args ≡ Some verb → (sheet : Sheet) → IsValid sheet → sheet.kind ≡ kind_of args → IsIn args sheet 1
call_in (args_are.Root request first) verb v sheet valid e = absurd (none-some verb v)
call_in (args_are.Transit region goal to) verb v sheet valid e = absurd (none-some verb v)
call_in (args_are.Crash server) verb v sheet valid e = absurd (none-some verb v)
call_in (args_are.AddRegions table first bounds) verb v sheet valid e = absurd (none-some verb v)
call_in (args_are.DropRegions table ids) verb v sheet valid e = absurd (none-some verb v)
call_in (args_are.AssignCall region server) verb v sheet valid e = exact_in (args_are.AssignCall region server) sheet valid e _ _ refl 1 refl
call_in (args_are.CloseCall region server) verb v sheet valid e = exact_in (args_are.CloseCall region server) sheet valid e _ _ refl 1 refl
call_in (args_are.FenceCall server) verb v sheet valid e = exact_in (args_are.FenceCall server) sheet valid e _ _ refl 1 refl
call_in (args_are.LayoutCall root) verb v sheet valid e = exact_in (args_are.LayoutCall root) sheet valid e _ _ refl 1 refl
call_in (args_are.SweepLayout root) verb v sheet valid e = exact_in (args_are.SweepLayout root) sheet valid e _ _ refl 1 refl

-- the row after an answer that doesn't stop
goes_to : (next first : ℕ) (answer : Answer) → GoesTo next answer → is_stop answer ≡ false → row_after first (Some answer) ≡ next
goes_to next first (answer_is.More n) goes runs = goes
goes_to next first (answer_is.Wait n) goes runs = goes
goes_to next first (answer_is.Await n) goes runs = absurd goes
goes_to next first (answer_is.Done told) goes runs = absurd (true≢false runs)
goes_to next first (answer_is.Fail cause) goes runs = absurd (true≢false runs)
goes_to next first answer_is.Undone goes runs = absurd goes

goes_near : (next first : ℕ) (answer : Answer) → GoesNear next answer → is_stop answer ≡ false → (row_after first (Some answer) ≡ next) ⊎ (row_after first (Some answer) ≡ 0)
goes_near next first (answer_is.More n) near runs = near
goes_near next first (answer_is.Wait n) near runs = inl near
goes_near next first (answer_is.Await n) near runs = absurd near
goes_near next first (answer_is.Done told) near runs = absurd (true≢false runs)
goes_near next first (answer_is.Fail cause) near runs = absurd (true≢false runs)
goes_near next first answer_is.Undone near runs = absurd near

calls_to : (J : Past) (p first : ℕ) (args : Args) (verb : Verb) (was : Option Answer) (out : StepOut) → CallOut J p args verb was out → is_stop out.answer ≡ false → row_after first (Some out.answer) ≡ 1
calls_to J p first args verb was out call runs = elim call.does [
  | inl asks ↦ ap (λ a. row_after first (Some a)) asks.2
  | inr ended ↦ elim ended.1 [
    | inl gone ↦ absurd (true≢false (sym (ap is_stop gone.0) ∙ runs))
    | inr other ↦ elim other [
      | inl told ↦ absurd (true≢false (sym (ap is_stop told.1) ∙ runs))
      | inr failed ↦ absurd (true≢false (sym (ap is_stop failed.1) ∙ runs))
    ]
  ]
]

-- a step that doesn't end its procedure leads to such a place
module _ (J : Past) (p : ℕ) (pick : Option Server) (out : StepOut) (step : StepFacts J p pick out) (runs : is_stop out.answer ≡ false) where
  abbrev behind : ℕ
  behind = row_after (first_row_of step.node.args) (Some out.answer)

  abbrev sees : StepIn
  sees = step_input J p step.node pick

  own_row : (kind : ℕ) → kind_of step.node.args ≡ kind → (first : Row) (more : List Row) → exact_rows kind ≡ first ∷ more → slice_get (exact_rows kind) (row_of J p step.node) ≡ Some step.row
  own_row kind e first more is =
      ap (λ l. slice_get l (row_of J p step.node)) (is ∙ sym (exact_is step.sheet step.valid kind (step.of_kind ∙ e) first more is)) ∙ step.row_is

  plainly : is_plain step.row.act ≡ true → behind ≡ step.row.next
  plainly plain =
      let out_is : IsPlainOut step.row.next out = subst (IsPlainOut step.row.next) (sym step.out_is) (row_by (IsPlainOut step.row.next) step.row sees (λ c. plain_fails step.row.next c) (plain_act step.row.act plain step.row.next sees)) in
      goes_to step.row.next (first_row_of step.node.args) out.answer out_is.goes runs

  lines_behind : (line : Line) (lines : List Line) → Leads step.sheet.rows (row_of J p step.node) (line ∷ lines) → end_well (line ∷ lines) ≡ true → behind ≡ step.row.next → HasLines step.sheet.rows behind
  lines_behind line [] leads well next =
      let same : leads.0 ≡ step.row = same_Some leads.0 step.row (sym leads.1 ∙ step.row_is) in
      let last : step.row.next ≡ no_row = eqb-true step.row.next no_row (ap (λ (r : Row). r.next == no_row) (sym same) ∙ leads.3) in
      let act : ends step.row.act ≡ true = ap (λ (r : Row). ends r.act) (sym same) ∙ ap ends leads.2.0 ∙ well in
      absurd (true≢false (sym (ap (λ (o : StepOut). is_stop o.answer) step.out_is ∙ row_stops step.row sees act last) ∙ runs))
  lines_behind line (following ∷ lines) leads well next =
      let same : leads.0 ≡ step.row = same_Some leads.0 step.row (sym leads.1 ∙ step.row_is) in
      let on : Leads step.sheet.rows step.row.next (following ∷ lines) = subst (λ (r : Row). Leads step.sheet.rows r.next (following ∷ lines)) same leads.4 in
      (following, lines, subst (λ place. Leads step.sheet.rows place (following ∷ lines)) (sym next) on, well)

  within_two : kind_of step.node.args ≡ 11 → IsIn step.node.args step.sheet behind
  within_two kind =
      let row = own_row 11 kind _ _ refl in
      let next = eqb-true step.row.next 1 (row_passes (λ row. row.next == 1) (exact_rows 11) refl (row_of J p step.node) step.row row) in
      let here : behind ≡ 1 = plainly (row_passes (λ row. is_plain row.act) (exact_rows 11) refl (row_of J p step.node) step.row row) ∙ next in
      subst (IsIn step.node.args step.sheet) (sym here) (exact_in step.node.args step.sheet step.valid step.of_kind _ _ (ap exact_rows kind) 1 refl)

  within_six : kind_of step.node.args ≡ 10 → IsIn step.node.args step.sheet behind
  within_six kind =
      let row = own_row 10 kind _ _ refl in
      let low = ltb-true step.row.next 6 (row_passes (λ row. nat_lt row.next 6) (exact_rows 10) refl (row_of J p step.node) step.row row) in
      let moving = row_passes (λ row. is_moving row.act) (exact_rows 10) refl (row_of J p step.node) step.row row in
      let move : IsMoveOut step.row.next out = subst (IsMoveOut step.row.next) (sym step.out_is) (row_by (IsMoveOut step.row.next) step.row sees (λ c. move_fails step.row.next c) (move_act step.row.act moving step.row.next sees)) in
      let here : behind < 6 = elim (goes_near step.row.next (first_row_of step.node.args) out.answer move.near runs) [
        | inl next ↦ subst (λ n. n < 6) (sym next) low
        | inr none ↦ subst (λ n. n < 6) (sym none) (omega arith)
      ] in
      exact_in step.node.args step.sheet step.valid step.of_kind _ _ (ap exact_rows kind) behind (lt-ltb behind 6 here)

-- after every legal journal
abbrev AreIn : Past → Type 0
AreIn J = (p : ℕ) (node : Node) → node_of J p ≡ Some node → (sheet : Sheet) → sheet_for (sheets_by J node.root) (kind_of node.args) ≡ Some sheet → is_stopped (last_answer J p) ≡ false → IsIn node.args sheet (row_of J p node)

-- where it has no step it stands at its first row
unstepped_in : (J : Past) → IsLegal J → (p : ℕ) (node : Node) → (sheet : Sheet) → sheet_for (sheets_by J node.root) (kind_of node.args) ≡ Some sheet → last_answer J p ≡ None → IsIn node.args sheet (row_of J p node)
unstepped_in J legal p node sheet found none =
    let valid = sheet_is (sheets_by J node.root) (valid_by J legal node.root) (kind_of node.args) sheet found in
    subst (IsIn node.args sheet) (sym (ap (row_after (first_row_of node.args)) none)) (first_in node.args sheet valid.0 valid.1)

rooted_in : (J J' : Past) → IsRooted J J' → Grown J → IsLegal J' → AreIn J → AreIn J'
rooted_in J J' rooted grown legal are p node is sheet found runs = elim (old_or_new J J' rooted grown p node is) [
  | inl old ↦
      subst (IsIn node.args sheet) (sym (ap (row_after (first_row_of node.args)) (rooted.last p)))
      (are p node old sheet (ap (λ sheets. sheet_for sheets (kind_of node.args)) (sym (rooted.sheets node.root (root_within J grown p node old))) ∙ found) (ap is_stopped (sym (rooted.last p)) ∙ runs))
  | inr new ↦ unstepped_in J' legal p node sheet found new.3
]

stepped_in : (pid : Pid) (pick : Option Server) (out : StepOut) (J : Past) → IsLegal (entry_is.Step pid pick out ∷ J) → AreIn J → is_stop out.answer ≡ false → (step : StepFacts J pid.0 pick out)
    → IsIn step.node.args step.sheet (row_after (first_row_of step.node.args) (Some out.answer))
stepped_in pid pick out J legal are runs step =
    let grown = grown_all J legal.0 in
    let unstopped = ready_stops J pid.0 step.node (last_answer J pid.0) step.ready in
    elim (part_of step.node.args) [
      | lined exact unmoved uncalled ↦
          let has = (are pid.0 step.node step.node_is step.sheet step.sheet_is unstopped).0 exact in
          let led = led_row (kind_of step.node.args) step.sheet step.valid (row_of J pid.0 step.node) (grown.led pid.0 step.node step.node_is exact step.sheet step.sheet_is unstopped) step.row step.row_is in
          lines_in step.node.args step.sheet (behind J pid.0 pick out step runs) (lines_behind J pid.0 pick out step runs has.0 has.1 has.2 has.3 (plainly J pid.0 pick out step runs led.plain))
      | crash kind unmoved uncalled ↦ within_two J pid.0 pick out step runs kind
      | moves r m kind uncalled ↦ within_six J pid.0 pick out step runs kind
      | calls verb v unmoved exact ↦
          subst (IsIn step.node.args step.sheet) (sym (calls_to J pid.0 (first_row_of step.node.args) step.node.args verb (last_answer J pid.0) out ((does_of pid pick out J grown step).calls verb v) runs))
          (call_in step.node.args verb v step.sheet step.valid step.of_kind)
    ]

step_in : (pid : Pid) (pick : Option Server) (out : StepOut) (J : Past) → IsLegal (entry_is.Step pid pick out ∷ J) → AreIn J → AreIn (entry_is.Step pid pick out ∷ J)
step_in pid pick out J legal are p node is sheet found runs =
    let grown = grown_all J legal.0 in
    let step = step_of pid pick out J grown legal in
    elim (cases_eq p pid.0) [
      | inl own ↦
          let le : pid.0 ≤ made J = is_there J grown pid.0 step.node step.node_is in
          let now = ap (last_answer (entry_is.Step pid pick out ∷ J)) own ∙ answer_now pid pick out J in
          let node_was : node_of J pid.0 ≡ Some node = sym (node_same pid pick out J pid.0 le) ∙ ap (node_of (entry_is.Step pid pick out ∷ J)) (sym own) ∙ is in
          let same : step.node ≡ node = same_Some step.node node (sym step.node_is ∙ node_was) in
          let same_sheet : step.sheet ≡ sheet = same_Some step.sheet sheet (sym step.sheet_is ∙ ap (λ (n : Node). sheet_for (sheets_by J n.root) (kind_of n.args)) same ∙ found) in
          let here = stepped_in pid pick out J legal are (ap is_stopped (sym now) ∙ runs) step in
          let there = subst (λ (n : Node). IsIn n.args step.sheet (row_after (first_row_of n.args) (Some out.answer))) same here in
          subst (IsIn node.args sheet) (sym (ap (row_after (first_row_of node.args)) now))
          (subst (λ s. IsIn node.args s (row_after (first_row_of node.args) (Some out.answer))) same_sheet there)
      | inr differs ↦
          let was = other_answer pid pick out J p differs in
          elim (le_or_lt p (made J)) [
            | inl le ↦
                subst (IsIn node.args sheet) (sym (ap (row_after (first_row_of node.args)) was))
                (are p node (sym (node_same pid pick out J p le) ∙ is) sheet found (ap is_stopped (sym was) ∙ runs))
            | inr lt ↦ unstepped_in (entry_is.Step pid pick out ∷ J) legal p node sheet found (was ∙ grown.unmade p (grown.numbered p lt))
          ]
    ]

are_in : (J : Past) → IsLegal J → AreIn J
are_in [] legal = λ p node is. absurd (none-some node is)
are_in (entry_is.Submit nonce request ∷ J) legal = let grown = grown_all J legal.0 in rooted_in J (entry_is.Submit nonce request ∷ J) (submit_rooted nonce request J grown) grown legal (are_in J legal.0)
are_in (entry_is.Step pid pick out ∷ J) legal = step_in pid pick out J legal (are_in J legal.0)
are_in (entry_is.Undo pid row out ∷ J) legal = let grown = grown_all J legal.0 in rooted_in J (entry_is.Undo pid row out ∷ J) (undo_rooted pid row out J grown) grown legal (are_in J legal.0)
are_in (entry_is.Down server ∷ J) legal = let grown = grown_all J legal.0 in rooted_in J (entry_is.Down server ∷ J) (down_rooted server J grown) grown legal (are_in J legal.0)
are_in (entry_is.Base part ∷ J) legal = λ p node is. absurd (none-some node is)
are_in (entry ∷ J) legal = are_in J legal.0

-- the row of a procedure that hasn't ended is in its sheet
pub row_there : (J : Past) → IsLegal J → (p : ℕ) (node : Node) → node_of J p ≡ Some node → (sheet : Sheet) → sheet_for (sheets_by J node.root) (kind_of node.args) ≡ Some sheet → is_stopped (last_answer J p) ≡ false → row_of J p node < length sheet.rows
row_there J legal p node is sheet found runs = (are_in J legal p node is sheet found runs).1
