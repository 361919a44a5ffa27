-- What each procedure of a tree that nothing disturbs may still cost.
use Rattle.std.proofs.Common.{length}
use Rattle.hm_model.specs.Costs.{regions_lost}
use Rattle.hm_costs.proofs.Lost.{Within}
use Rattle.hm_model.specs.Fleet.{is_fenced}
use Rattle.hm_model.specs.Whereabouts.{crashed_in}
use Rattle.hm_costs.proofs.Live.{IsDead}
use Rattle.hm_costs.proofs.Lost.{CrashDue}
use Rattle.std.proofs.Common.{◌≡◌, ◌≢◌, ℕ, ◌+◌, ◌<◌, ◌≤◌, List, [], ◌∷◌, Bool, true, false, not, ◌&&◌, ◌||◌, ◌==◌, if◌then◌else◌, Option, Some, None, refl, ap, sym, ◌∙◌, subst, arith, inl, inr, ◌⊎◌}
use Rattle.std.proofs.lemmas.Option.{none-some, same_Some}
use Rattle.hm_names.specs.Region.{Region}
use Rattle.hm_names.specs.Server.{Server}
use Rattle.hm_data.specs.declared.act.Act.{Act}
use Rattle.hm_data.specs.declared.act.Act.TheVariants as act_is
use Rattle.hm_data.specs.declared.answer.Answer.{Answer}
use Rattle.hm_data.specs.declared.answer.Answer.TheVariants as answer_is
use Rattle.hm_data.specs.declared.args.Args.{Args}
use Rattle.hm_data.specs.declared.args.Args.TheVariants as args_are
use Rattle.hm_data.specs.declared.call.Told.{Told}
use Rattle.hm_data.specs.declared.call.Told.TheVariants as told_is
use Rattle.hm_data.specs.declared.call.Verb.{Verb}
use Rattle.hm_data.specs.declared.place.Goal.{Goal}
use Rattle.hm_data.specs.declared.place.Goal.TheVariants as goal_is
use Rattle.hm_data.specs.declared.request.Request.{Request}
use Rattle.hm_data.specs.declared.request.Request.TheVariants as request_is
use Rattle.hm_data.specs.declared.sheet.Sheet.{Sheet}
use Rattle.hm_names.specs.declared.table.TableName.{TableName}
use Rattle.hm_model.specs.RowsSaid.{Rows}
use Rattle.hm_model.specs.Views.{table_of}
use Rattle.hm_model.specs.ActSorts.{is_check}
use Rattle.hm_model.specs.Answers.{is_stopped, last_answer, report_of, row_of, row_after}
use Rattle.hm_model.specs.Entries.{is_refusal}
use Rattle.hm_model.specs.Fleet.{is_live}
use Rattle.hm_model.specs.Inputs.{made_at_step, rows_read}
use Rattle.hm_model.specs.Journal.{Past}
use Rattle.hm_model.specs.Kinds.{first_row_of, kind_of}
use Rattle.hm_model.specs.Lists.{Line, exact_rows, lines_of, orders_of}
use Rattle.hm_model.specs.Locks.{IsIn}
use Rattle.hm_model.specs.Places.{place_of}
use Rattle.hm_model.specs.Rules.{IsLegal}
use Rattle.hm_model.specs.Sheets.{sheet_for, sheets_by}
use Rattle.hm_model.specs.Tree.{Node, child_of, node_of}
use Rattle.hm_model.specs.Verbs.{verb_in}
use Rattle.hm_model.specs.Views.{bounds_of}
use Rattle.hm_model.specs.Wanted.{goal_in}
use Rattle.hm_model.specs.Whereabouts.{moved_by}
use Rattle.hm_model.proofs.ExactRows.{sheet_is, valid_by}
use Rattle.hm_model.proofs.StepDoes.{calls as calls_part, crash as crash_part, lined as lined_part, moves as moves_part, part_of}
use Rattle.hm_model.proofs.ValidSheets.{Leads, valid_leads}
use Rattle.hm_model.proofs.Small.{cons_nil}
use Rattle.hm_costs.proofs.Spend.{rows_counted, IsChildGoal, spend}
use Rattle.std.proofs.lemmas.Bool.{and_parts}

-- a call, its report and its end
abbrev pub call_due : Option Answer → Option Told → ℕ
call_due None told = 3
call_due (Some (answer_is.More n)) told = 1
call_due (Some (answer_is.Wait n)) told = 1
call_due (Some (answer_is.Await n)) None = 2
call_due (Some (answer_is.Await n)) (Some told) = 1
call_due (Some answer) told = 0

-- a call to open a region goes to a live server, and ends with it open; one that asks for a layout is a child
abbrev pub CallGoes : Past → ℕ → Node → Args → Type 0
CallGoes J q x (args_are.AssignCall region server) = (is_live J server ≡ true) × (is_stopped (last_answer J q) ≡ true → last_answer J q ≡ Some (answer_is.Done told_is.Opened))
CallGoes J q x (args_are.FenceCall server) = ((told : Told) → report_of J q ≡ Some told → is_fenced J server ≡ true) × (is_stopped (last_answer J q) ≡ true → is_fenced J server ≡ true)
CallGoes J q x (args_are.LayoutCall root) = x.above ≢ []
CallGoes J q x args = Unit {0}

pub record CallAt (J : Past) (q : ℕ) (x : Node) (budget : ℕ) : Type 0 where
  pub due : call_due (last_answer J q) (report_of J q) ≤ budget
  pub clean : (told : Told) → report_of J q ≡ Some told → is_refusal told ≡ false
  pub goes : CallGoes J q x x.args

-- what a transit may cost from a row on
abbrev pub close_due : Goal → ℕ
close_due goal_is.Unassign = 5
close_due goal = 11

abbrev pub closed_due : Goal → ℕ
closed_due goal_is.Unassign = 1
closed_due goal = 7

abbrev pub due_at : Goal → ℕ → ℕ
due_at goal row =
    if row == 0 then 6 else (if row == 1 then 5 else (if row == 2 then 1 else (if row == 3 then close_due goal else (if row == 4 then closed_due goal else (if row == 5 then 12 else 0)))))

-- a region is placed at a live server
abbrev pub OpensAt : Past → Region → Type 0
OpensAt J region = (server : Server) × ((place_of J region).server ≡ Some server) × (is_live J server ≡ true)

-- it waits for its child that opens the region
abbrev pub WaitsFor : Past → ℕ → Node → Region → Type 0
WaitsFor J q x region =
    (last_answer J q ≡ Some (answer_is.Wait 2)) × (child : ℕ) × (server : Server) × (node_of J child ≡ Some (child_of q x (args_are.AssignCall region server))) × (made_at_step J q < child)

pub record TransitAt (J : Past) (q : ℕ) (x : Node) (region : Region) (budget : ℕ) : Type 0 where
  pub due : is_stopped (last_answer J q) ≡ false → due_at (goal_in x.args) (row_of J q x) ≤ budget
  pub first : row_of J q x ≡ 5 → (last_answer J q ≡ None) × (x.above ≡ [])
  pub opening : (row_of J q x ≡ 1) ⊎ (row_of J q x ≡ 2) → OpensAt J region
  pub waiting : row_of J q x ≡ 2 → WaitsFor J q x region

-- what lines may cost
abbrev pub left : Args → ℕ → List Line → ℕ
left args n [] = 0
left args n (line ∷ lines) = spend line.act args n + left args n lines

abbrev pub no_checks : List Line → Bool
no_checks [] = true
no_checks (line ∷ lines) = not (is_check line.act) && no_checks lines

abbrev pub tail_of : List Line → List Line
tail_of [] = []
tail_of (line ∷ lines) = lines

pub tail_unchecked : (lines : List Line) → no_checks lines ≡ true → no_checks (tail_of lines) ≡ true
tail_unchecked [] none = refl
tail_unchecked (line ∷ lines) none = (and_parts (not (is_check line.act)) (no_checks lines) none).1

-- the act counts regions in the rows that it reads
abbrev pub reads_rows : Act → Option (List (List ℕ)) → Bool
reads_rows act_is.OpenRegions None = true
reads_rows act_is.OpenRegions (Some bounds) = false
reads_rows act_is.CloseRegions bounds = true
reads_rows act_is.DropRegions bounds = true
reads_rows act_is.Reassign bounds = true
reads_rows act bounds = false

abbrev pub reading : Args → List Line → Bool
reading args [] = false
reading args (line ∷ lines) = reads_rows line.act (bounds_of args) || reading args lines

-- a root that counts the regions of its table: one that deletes, enables or disables it
abbrev pub IsCounterRequest : Request → Type 0
IsCounterRequest (request_is.DeleteTable table) = Unit {0}
IsCounterRequest (request_is.EnableTable table) = Unit {0}
IsCounterRequest (request_is.DisableTable table) = Unit {0}
IsCounterRequest request = ⊥

abbrev pub IsCounter : Args → Type 0
IsCounter (args_are.Root request first) = IsCounterRequest request
IsCounter args = ⊥

-- what an act counts as it runs is within a number
abbrev pub CountsNow : Act → Option TableName → Rows → ℕ → Type 0
CountsNow act_is.OpenRegions table rows n = rows_counted act_is.OpenRegions table rows ≤ n
CountsNow act_is.CloseRegions table rows n = rows_counted act_is.CloseRegions table rows ≤ n
CountsNow act_is.DropRegions table rows n = rows_counted act_is.DropRegions table rows ≤ n
CountsNow act_is.Reassign table rows n = ⊥
CountsNow act table rows n = Unit {0}

abbrev pub AllCounted : Past → Args → ℕ → List Line → Type 0
AllCounted J args n [] = Unit {0}
AllCounted J args n (line ∷ lines) = CountsNow line.act (table_of args) (rows_read J args) n × AllCounted J args n lines

-- it has no step yet, or goes on to the next row
abbrev pub IsIdle : Option Answer → Type 0
IsIdle None = Unit {0}
IsIdle (Some (answer_is.More n)) = Unit {0}
IsIdle (Some answer) = ⊥

-- before the lines that count stand only such as go on at once
abbrev pub goes_at_once : Act → Bool
goes_at_once act_is.CheckTableDisabled = true
goes_at_once act_is.CheckTableEnabled = true
goes_at_once act_is.SetEnabling = true
goes_at_once act_is.SetDisabling = true
goes_at_once act = false

abbrev pub counts_soon : Args → List Line → Bool
counts_soon args [] = true
counts_soon args (line ∷ lines) = (not (reading args lines) || goes_at_once line.act) && counts_soon args lines

-- what the lines of such a root count is within a number, and it is idle till then
pub record Counting (J : Past) (q : ℕ) (x : Node) (n : ℕ) (lines : List Line) : Type 0 where
  pub counter : IsCounter x.args
  pub top : x.above ≡ []
  pub idle : IsIdle (last_answer J q)
  pub soon : counts_soon x.args lines ≡ true
  pub counted : AllCounted J x.args n lines

pub record Lined (J : Past) (q : ℕ) (x : Node) (budget : ℕ) : Type 0 where
  pub lines : List Line
  pub n : ℕ
  pub leads : (sheet : Sheet) → sheet_for (sheets_by J x.root) (kind_of x.args) ≡ Some sheet → Leads sheet.rows (row_of J q x) lines
  pub enough : left x.args n lines ≤ budget
  pub checks : ((last_answer J q ≡ None) × (x.above ≡ [])) ⊎ (no_checks lines ≡ true)
  pub later : no_checks (tail_of lines) ≡ true
  pub known : (reading x.args lines ≡ false) ⊎ Counting J q x n lines

-- a crash: its server is dead
pub record CrashAt (J : Past) (q : ℕ) (x : Node) (server : Server) (budget : ℕ) : Type 0 where
  pub dead : IsDead J server
  pub due : CrashDue J q x server budget (last_answer J q)

pub record At (J : Past) (q : ℕ) (x : Node) (budget : ℕ) : Type 0 where
  pub lined : exact_rows (kind_of x.args) ≡ [] → is_stopped (last_answer J q) ≡ false → Lined J q x budget
  pub moves : (region : Region) → moved_by x.args ≡ Some region → TransitAt J q x region budget
  pub calls : (verb : Verb) → verb_in x.args ≡ Some verb → CallAt J q x budget
  pub crash : (server : Server) → crashed_in x.args ≡ Some server → CrashAt J q x server budget

-- the roots that are made: requests, transits that assign or unassign, and sweeps
abbrev pub IsFreshArgs : Args → Type 0
IsFreshArgs (args_are.Root request first) = Unit {0}
IsFreshArgs (args_are.Transit region goal to) = IsChildGoal goal
IsFreshArgs (args_are.SweepLayout root) = Unit {0}
IsFreshArgs (args_are.Crash server) = ⊥
IsFreshArgs args = ⊥

-- or a crash: its server is dead, and the regions there are among so many as were lost
abbrev pub IsFreshCrash : Past → ℕ → Args → Type 0
IsFreshCrash J r args =
    (server : Server) × (args ≡ args_are.Crash server) × IsDead J server
    × (rest : List Region) × (length rest ≡ regions_lost J r) × Within J server rest

abbrev pub Fresh : Past → ℕ → Node → Type 0
Fresh J r x = (IsFreshArgs x.args ⊎ IsFreshCrash J r x.args) × (x.above ≡ [])

-- the parts apart
ten_exact : exact_rows 10 ≡ [] → ⊥
ten_exact e = cc

pub crash_is : (args : Args) (server : Server) → crashed_in args ≡ Some server → args ≡ args_are.Crash server
crash_is (args_are.Crash own) server c = ap args_are.Crash (same_Some own server c)
crash_is args server c = absurd (none-some server c)

eleven_exact : exact_rows 11 ≡ [] → ⊥
eleven_exact e = cc

module _ (J : Past) (q : ℕ) (x : Node) (budget : ℕ) where
  pub at_lined : exact_rows (kind_of x.args) ≡ [] → moved_by x.args ≡ None → verb_in x.args ≡ None → (is_stopped (last_answer J q) ≡ false → Lined J q x budget) → At J q x budget
  at_lined exact unmoved uncalled is = record {
    lined = λ e. is;
    moves = λ region m. absurd (none-some region (sym unmoved ∙ m));
    calls = λ verb v. absurd (none-some verb (sym uncalled ∙ v));
    crash = λ server c. absurd (eleven_exact (sym (ap (λ a. exact_rows (kind_of a)) (crash_is x.args server c)) ∙ exact));
  }

  pub at_moves : (region : Region) → moved_by x.args ≡ Some region → kind_of x.args ≡ 10 → verb_in x.args ≡ None → TransitAt J q x region budget → At J q x budget
  at_moves region moved kind uncalled is = record {
    lined = λ e. absurd (ten_exact (sym (ap exact_rows kind) ∙ e));
    moves = λ other m. subst (λ r. TransitAt J q x r budget) (same_Some region other (sym moved ∙ m)) is;
    calls = λ verb v. absurd (none-some verb (sym uncalled ∙ v));
    crash = λ server c. absurd (none-some region (sym (ap moved_by (crash_is x.args server c)) ∙ moved));
  }

  pub at_crash : (server : Server) → x.args ≡ args_are.Crash server → CrashAt J q x server budget → At J q x budget
  at_crash server e is = record {
    lined = λ exact. absurd (eleven_exact (sym (ap (λ a. exact_rows (kind_of a)) e) ∙ exact));
    moves = λ region m. absurd (none-some region (sym (ap moved_by e) ∙ m));
    calls = λ verb v. absurd (none-some verb (sym (ap verb_in e) ∙ v));
    crash = λ other c. subst (λ s. CrashAt J q x s budget) (same_Some server other (sym (ap crashed_in e) ∙ c)) is;
  }

  pub at_calls : (verb : Verb) → verb_in x.args ≡ Some verb → CallAt J q x budget → At J q x budget
  at_calls verb v is = elim (part_of x.args) [
    | lined_part exact unmoved uncalled ↦ absurd (none-some verb (sym uncalled ∙ v))
    | crash_part kind unmoved uncalled ↦ absurd (none-some verb (sym uncalled ∙ v))
    | moves_part r m kind uncalled ↦ absurd (none-some verb (sym uncalled ∙ v))
    | calls_part own w unmoved exact ↦ record {
      lined = λ e. absurd (cons_nil exact.0 exact.1 (sym exact.2 ∙ e));
      moves = λ region m. absurd (none-some region (sym unmoved ∙ m));
      calls = λ other u. is;
      crash = λ server c. absurd (none-some verb (sym (ap verb_in (crash_is x.args server c)) ∙ v));
    }
  ]

-- what lines want that are all to come
pub record Starts (J : Past) (q : ℕ) (x : Node) (budget : ℕ) (lines : List Line) : Type 0 where
  pub n : ℕ
  pub enough : left x.args n lines ≤ budget
  pub known : (reading x.args lines ≡ false) ⊎ Counting J q x n lines
  pub checks : (x.above ≡ []) ⊎ (no_checks lines ≡ true)
  pub later : no_checks (tail_of lines) ≡ true

-- a procedure without a step, of a kind that lists lines, in any of its orders
pub start_orders : (J : Past) → IsLegal J → (q : ℕ) (x : Node) (budget : ℕ) → exact_rows (kind_of x.args) ≡ [] → first_row_of x.args ≡ 0 → last_answer J q ≡ None
    → ((lines : List Line) → IsIn lines (orders_of (kind_of x.args)) → Starts J q x budget lines) → Lined J q x budget
start_orders J legal q x budget exact first last starts = by (sheet_for (sheets_by J x.root) (kind_of x.args)) refl
  where
    along : (lines : List Line) → IsIn lines (orders_of (kind_of x.args)) → ((sheet : Sheet) → sheet_for (sheets_by J x.root) (kind_of x.args) ≡ Some sheet → Leads sheet.rows 0 lines) → Lined J q x budget
    along lines among leads =
        let s = starts lines among in
        record {
          lines = lines;
          n = s.n;
          leads = λ sheet found. subst (λ n. Leads sheet.rows n lines) (sym first ∙ ap (row_after (first_row_of x.args)) (sym last)) (leads sheet found);
          enough = s.enough;
          checks = elim s.checks [ inl top ↦ inl (last, top) | inr none ↦ inr none ];
          later = s.later;
          known = s.known;
        }

    by : (o : Option Sheet) → sheet_for (sheets_by J x.root) (kind_of x.args) ≡ o → Lined J q x budget
    by None none = along (lines_of (kind_of x.args)) (inl refl) (λ sheet found. absurd (none-some sheet (sym none ∙ found)))
    by (Some sheet) some =
        let s = sheet_is (sheets_by J x.root) (valid_by J legal x.root) (kind_of x.args) sheet some in
        let led = valid_leads sheet s.0 (ap exact_rows s.1 ∙ exact) in
        along led.0 (subst (λ k. IsIn led.0 (orders_of k)) s.1 led.1) (λ other found. subst (λ (t : Sheet). Leads t.rows 0 led.0) (same_Some sheet other (sym some ∙ found)) led.2)

-- the same of a kind of one order
pub start_lined : (J : Past) → IsLegal J → (q : ℕ) (x : Node) (n : ℕ) (line : Line) (lines : List Line) → exact_rows (kind_of x.args) ≡ [] → orders_of (kind_of x.args) ≡ (line ∷ lines) ∷ [] → first_row_of x.args ≡ 0 → last_answer J q ≡ None → (reading x.args (line ∷ lines) ≡ false) ⊎ Counting J q x n (line ∷ lines) → (x.above ≡ []) ⊎ (no_checks (line ∷ lines) ≡ true) → no_checks lines ≡ true → Lined J q x (left x.args n (line ∷ lines))
start_lined J legal q x n line lines exact lists first last known checks later =
    start_orders J legal q x (left x.args n (line ∷ lines)) exact first last (λ some among. subst (Starts J q x (left x.args n (line ∷ lines))) (sym (only some (subst (IsIn some) lists among)))
    (record { n = n; enough = omega arith; known = known; checks = checks; later = later }))
  where
    only : (some : List Line) → IsIn some ((line ∷ lines) ∷ []) → some ≡ line ∷ lines
    only some (inl same) = same
    only some (inr never) = absurd never

same_due : (goal : Goal) (n m : ℕ) → n ≡ m → due_at goal n ≤ due_at goal m
same_due goal n m e = let same = ap (due_at goal) e in omega (arith, same)

-- a transit without a step
pub start_transit : (J : Past) (q : ℕ) (x : Node) (region : Region) (row : ℕ) → first_row_of x.args ≡ row → last_answer J q ≡ None → (row ≡ 5 → x.above ≡ []) → row ≢ 1 → row ≢ 2 → TransitAt J q x region (due_at (goal_in x.args) row)
start_transit J q x region row first last top not_one not_two =
    let here : row_of J q x ≡ row = ap (row_after (first_row_of x.args)) last ∙ first in
    record {
      due = λ runs. same_due (goal_in x.args) (row_of J q x) row here;
      first = λ e. (last, top (sym here ∙ e));
      opening = λ e. elim e [ inl one ↦ absurd (not_one (sym here ∙ one)) | inr two ↦ absurd (not_two (sym here ∙ two)) ];
      waiting = λ e. absurd (not_two (sym here ∙ e));
    }

-- a call without a step
pub start_call : (J : Past) (q : ℕ) (x : Node) → last_answer J q ≡ None → report_of J q ≡ None → CallGoes J q x x.args → CallAt J q x 3
start_call J q x last report goes = record {
  due = let e = ap (λ o. call_due o (report_of J q)) last in omega (arith, e);
  clean = λ told is. absurd (none-some told (sym report ∙ is));
  goes = goes;
}
