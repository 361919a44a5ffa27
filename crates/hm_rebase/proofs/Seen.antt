-- What is answered to inputs that differ in the place of a region that nobody has, and in the edition.
use Rattle.std.proofs.Common.{◌≡◌, ℕ, List, [], ◌∷◌, Bool, true, false, not, ◌&&◌, ◌||◌, cond, Option, Some, None, refl, ap, sym, ◌∙◌, inl, inr, ◌⊎◌}
use Rattle.std.proofs.lemmas.Bool.{cases_Bool, or_left, or_right, true≢false}
use Rattle.hm_names.specs.Region.{Region}
use Rattle.hm_names.specs.Server.{Server}
use Rattle.hm_names.specs.declared.pid.Pid.{Pid}
use Rattle.hm_data.specs.declared.act.Act.{Act}
use Rattle.hm_data.specs.declared.act.Act.TheVariants as act_is
use Rattle.hm_data.specs.declared.answer.Answer.TheVariants as answer_is
use Rattle.hm_data.specs.declared.answer.Cause.TheVariants as cause_is
use Rattle.hm_data.specs.declared.args.Args.{Args}
use Rattle.hm_data.specs.declared.args.Args.TheVariants as args_are
use Rattle.hm_data.specs.declared.args.Child.TheVariants as child_is
use Rattle.hm_data.specs.declared.call.Told.{Told}
use Rattle.hm_data.specs.declared.call.Told.TheVariants as told_is
use Rattle.hm_data.specs.declared.place.Goal.{Goal}
use Rattle.hm_data.specs.declared.place.Place.{Place}
use Rattle.hm_data.specs.declared.place.RegionState.TheVariants as place_is
use Rattle.hm_data.specs.declared.sheet.Row.{Row}
use Rattle.hm_data.specs.declared.sheet.Sheet.{Sheet}
use Rattle.hm_data.specs.declared.step.StepIn.{StepIn}
use Rattle.hm_data.specs.declared.step.Turn.{Turn}
use Rattle.hm_data.specs.declared.step.Turn.TheVariants as turn_is
use Rattle.hm_model.specs.Acts.{act_answer}
use Rattle.hm_model.specs.Evaluation.{answer_at, answer_by, answer_of, is_cut_off, is_picking, is_step, picks_at, picks_by, turn_answer, wants_server}
use Rattle.hm_model.specs.Journal.{Past}
use Rattle.hm_model.specs.Places.{place_of}
use Rattle.hm_model.specs.Outs.{ends_with, fails, given, places, spawns}
use Rattle.hm_model.specs.RowsSaid.{Rows}
use Rattle.hm_model.specs.Sheets.{row_in, sheet_for}
use Rattle.hm_model.specs.Undoing.{undo_out}
use Rattle.hm_model.specs.Views.{region_of}
use Rattle.hm_model.specs.Wanted.{goal_in}
use Rattle.hm_rebase.specs.Alike.{Alike, IsIdle}
use Rattle.hm_model.specs.TransitActs.{behind_close, candidate, close_at, close_or_go, is_open, is_placed, is_state, is_told, lost_if, may_open_in, opened_or_not, told_place, close_there, confirm_opened, get_assign_candidate, open_there}

-- one place, or both idle
abbrev pub AreOnePlace : Place → Place → Type 0
AreOnePlace one other = (one ≡ other) ⊎ (IsIdle one × IsIdle other)

pub one_place : (J K : Past) → Alike J K → (region : Region) → AreOnePlace (place_of J region) (place_of K region)
one_place J K alike region = elim (alike.places region) [ inl same ↦ inl same | inr forgotten ↦ inr (forgotten.one, forgotten.other) ]

-- inputs with the same in them, but for the place of a region that nobody has, and the edition
pub record Sees (at to : StepIn) : Type 0 where
  pub pid : at.pid ≡ to.pid
  pub root : at.root ≡ to.root
  pub kind : at.kind ≡ to.kind
  pub row : at.row ≡ to.row
  pub args : at.args ≡ to.args
  pub tries : at.tries ≡ to.tries
  pub rows : at.rows ≡ to.rows
  pub ends : at.ends ≡ to.ends
  pub report : at.report ≡ to.report
  pub place : AreOnePlace (told_place at.place) (told_place to.place)
  pub fenced : at.fenced ≡ to.fenced
  pub on_server : at.on_server ≡ to.on_server
  pub pick : at.pick ≡ to.pick
  pub aborted : at.aborted ≡ to.aborted
  pub turn : at.turn ≡ to.turn

-- an idle place isn't open
idle_shut : (place : Place) → IsIdle place → is_state place_is.Opened place ≡ false
idle_shut place idle = elim (cases_Bool (is_state place_is.Opened place)) [
  | inr off ↦ off
  | inl on ↦ absurd (true≢false (sym (or_right (is_state place_is.Opening place) (is_state place_is.Opened place || is_state place_is.Closing place) (or_left (is_state place_is.Opened place) (is_state place_is.Closing place) on)) ∙ idle.unplaced))
]

pub server_one : (one other : Place) → AreOnePlace one other → one.server ≡ other.server
server_one one other (inl same) = ap (λ (p : Place). p.server) same
server_one one other (inr idle) = idle.0.nowhere ∙ sym idle.1.nowhere

pub open_one : (one other : Place) (fenced : Bool) → AreOnePlace one other → is_open one fenced ≡ is_open other fenced
open_one one other fenced (inl same) = ap (λ p. is_open p fenced) same
open_one one other fenced (inr idle) = ap (λ b. b && not fenced) (idle_shut one idle.0 ∙ sym (idle_shut other idle.1))

shut_one : (one other : Place) → AreOnePlace one other → is_state place_is.Opened one ≡ is_state place_is.Opened other
shut_one one other (inl same) = ap (is_state place_is.Opened) same
shut_one one other (inr idle) = idle_shut one idle.0 ∙ sym (idle_shut other idle.1)

pub placed_one : (one other : Place) → AreOnePlace one other → is_placed one ≡ is_placed other
placed_one one other (inl same) = ap is_placed same
placed_one one other (inr idle) = idle.0.unplaced ∙ sym idle.1.unplaced

pub failed_one : (one other : Place) → AreOnePlace one other → is_state place_is.FailedOpen one ≡ is_state place_is.FailedOpen other
failed_one one other (inl same) = ap (is_state place_is.FailedOpen) same
failed_one one other (inr idle) = idle.0.untried ∙ sym idle.1.untried

candidate_one : (next : ℕ) (may : Bool) (one other : Place) (fenced : Bool) (pick : Option Server) → AreOnePlace one other → candidate next may one fenced pick ≡ candidate next may other fenced pick
candidate_one next false one other fenced pick h = ap (λ b. places (answer_is.Done told_is.Nothing) (lost_if (b && fenced))) (placed_one one other h)
candidate_one next true one other fenced pick h = ap (λ b. cond b (ends_with told_is.Nothing) (places (answer_is.More next) (Some (record { state = place_is.Opening; server = pick })))) (open_one one other fenced h)

candidate_same : (next : ℕ) (args : Args) (rows : Rows) (one other : Option Place) (fenced : Bool) (pick : Option Server) → AreOnePlace (told_place one) (told_place other) → get_assign_candidate next args rows one fenced pick ≡ get_assign_candidate next args rows other fenced pick
candidate_same next args rows one other fenced pick h = by (region_of args)
  where
    by : (o : Option Region) → given o next (λ region. candidate next (may_open_in rows region) (told_place one) fenced pick) ≡ given o next (λ region. candidate next (may_open_in rows region) (told_place other) fenced pick)
    by None = refl
    by (Some region) = candidate_one next (may_open_in rows region) (told_place one) (told_place other) fenced pick h

open_same : (next : ℕ) (args : Args) (one other : Option Place) → AreOnePlace (told_place one) (told_place other) → open_there next args one ≡ open_there next args other
open_same next args one other h = by (region_of args)
  where
    by : (o : Option Region) → given o next (λ region. given ((told_place one).server) next (λ server. spawns next (child_is.One (args_are.AssignCall region server) ∷ []))) ≡ given o next (λ region. given ((told_place other).server) next (λ server. spawns next (child_is.One (args_are.AssignCall region server) ∷ [])))
    by None = refl
    by (Some region) = ap (λ o. given o next (λ server. spawns next (child_is.One (args_are.AssignCall region server) ∷ []))) (server_one (told_place one) (told_place other) h)

confirm_same : (next : ℕ) (ends : List (Pid × Told)) (one other : Option Place) → AreOnePlace (told_place one) (told_place other) → confirm_opened next ends one ≡ confirm_opened next ends other
confirm_same next ends one other h = ap (λ server. opened_or_not next server (is_told told_is.Opened ends)) (server_one (told_place one) (told_place other) h)

go_one : (next : ℕ) (goal : Goal) (region : Region) (one other : Place) (held : Bool) → AreOnePlace one other → close_or_go next goal region one held ≡ close_or_go next goal region other held
go_one next goal region one other true h = ap (λ o. given o next (close_at next region)) (server_one one other h)
go_one next goal region one other false h = ap (λ b. places (behind_close goal told_is.Nothing) (lost_if b)) (shut_one one other h)

close_same : (next : ℕ) (args : Args) (one other : Option Place) (fenced : Bool) → AreOnePlace (told_place one) (told_place other) → close_there next args one fenced ≡ close_there next args other fenced
close_same next args one other fenced h = by (region_of args)
  where
    by : (o : Option Region) → given o next (λ region. close_or_go next (goal_in args) region (told_place one) (is_open (told_place one) fenced)) ≡ given o next (λ region. close_or_go next (goal_in args) region (told_place other) (is_open (told_place other) fenced))
    by None = refl
    by (Some region) = ap (close_or_go next (goal_in args) region (told_place one)) (open_one (told_place one) (told_place other) fenced h) ∙ go_one next (goal_in args) region (told_place one) (told_place other) (is_open (told_place other) fenced) h

-- an input with these parts, and a place, from another
abbrev seen_at : Pid → Args → Rows → List (Pid × Told) → Option Told → Bool → List Region → Option Server → StepIn → StepIn
seen_at root args rows ends report fenced on_server pick at = record {
  pid = at.pid;
  root = root;
  kind = at.kind;
  edition = at.edition;
  row = at.row;
  args = args;
  tries = at.tries;
  rows = rows;
  ends = ends;
  report = report;
  place = at.place;
  fenced = fenced;
  on_server = on_server;
  pick = pick;
  aborted = at.aborted;
  turn = at.turn;
}

-- of what is left of two inputs an act reads the place alone
act_place : (act : Act) (next : ℕ) (root : Pid) (args : Args) (rows : Rows) (ends : List (Pid × Told)) (report : Option Told) (fenced : Bool) (on_server : List Region) (pick : Option Server) (at to : StepIn) → AreOnePlace (told_place at.place) (told_place to.place)
    → act_answer act next (seen_at root args rows ends report fenced on_server pick at) ≡ act_answer act next (seen_at root args rows ends report fenced on_server pick to)
act_place act_is.GetAssignCandidate next root args rows ends report fenced on_server pick at to h = candidate_same next args rows at.place to.place fenced pick h
act_place act_is.Open next root args rows ends report fenced on_server pick at to h = open_same next args at.place to.place h
act_place act_is.ConfirmOpened next root args rows ends report fenced on_server pick at to h = confirm_same next ends at.place to.place h
act_place act_is.Close next root args rows ends report fenced on_server pick at to h = close_same next args at.place to.place fenced h
act_place act next root args rows ends report fenced on_server pick at to h = refl

act_same : (act : Act) (next : ℕ) (at to : StepIn) → Sees at to → act_answer act next at ≡ act_answer act next to
act_same act next at to s =
    ap (λ x. act_answer act next (seen_at x at.args at.rows at.ends at.report at.fenced at.on_server at.pick at)) s.root
    ∙ ap (λ x. act_answer act next (seen_at to.root x at.rows at.ends at.report at.fenced at.on_server at.pick at)) s.args
    ∙ ap (λ x. act_answer act next (seen_at to.root to.args x at.ends at.report at.fenced at.on_server at.pick at)) s.rows
    ∙ ap (λ x. act_answer act next (seen_at to.root to.args to.rows x at.report at.fenced at.on_server at.pick at)) s.ends
    ∙ ap (λ x. act_answer act next (seen_at to.root to.args to.rows to.ends x at.fenced at.on_server at.pick at)) s.report
    ∙ ap (λ x. act_answer act next (seen_at to.root to.args to.rows to.ends to.report x at.on_server at.pick at)) s.fenced
    ∙ ap (λ x. act_answer act next (seen_at to.root to.args to.rows to.ends to.report to.fenced x at.pick at)) s.on_server
    ∙ ap (λ x. act_answer act next (seen_at to.root to.args to.rows to.ends to.report to.fenced to.on_server x at)) s.pick
    ∙ act_place act next to.root to.args to.rows to.ends to.report to.fenced to.on_server to.pick at to s.place

cut_same : (row : Row) (at to : StepIn) → Sees at to → is_cut_off row at ≡ is_cut_off row to
cut_same row at to s = ap (λ b. b && not row.after) s.aborted

turn_same : (row : Row) (at to : StepIn) (turn : Turn) → Sees at to → turn_answer row at turn ≡ turn_answer row to turn
turn_same row at to turn_is.Step s =
    ap (λ b. cond b (fails cause_is.Aborted) (act_answer row.act row.next at)) (cut_same row at to s)
    ∙ ap (λ out. cond (is_cut_off row to) (fails cause_is.Aborted) out) (act_same row.act row.next at to s)
turn_same row at to (turn_is.Undo edits) s = ap (λ a. undo_out row.undo a at.root edits) s.args ∙ ap (λ r. undo_out row.undo to.args r edits) s.root

at_same : (row : Option Row) (at to : StepIn) → Sees at to → answer_at row at ≡ answer_at row to
at_same None at to s = refl
at_same (Some row) at to s = ap (λ t. Some (turn_answer row at t)) s.turn ∙ ap Some (turn_same row at to to.turn s)

-- the same is answered
pub answer_same : (sheets : List Sheet) (at to : StepIn) → Sees at to → answer_of sheets at ≡ answer_of sheets to
answer_same sheets at to s =
    ap (λ k. answer_by (sheet_for sheets k) at) s.kind
    ∙ ap (λ r. answer_at (row_in (sheet_for sheets to.kind) r) at) s.row
    ∙ at_same (row_in (sheet_for sheets to.kind) to.row) at to s

wants_same : (region : Option Region) (at to : StepIn) → Sees at to → wants_server region at ≡ wants_server region to
wants_same None at to s = refl
wants_same (Some region) at to s =
    ap (λ rows. may_open_in rows region && not (is_open (told_place at.place) at.fenced)) s.rows
    ∙ ap (λ f. may_open_in to.rows region && not (is_open (told_place at.place) f)) s.fenced
    ∙ ap (λ b. may_open_in to.rows region && not b) (open_one (told_place at.place) (told_place to.place) to.fenced s.place)

pick_same : (row : Option Row) (at to : StepIn) → Sees at to → picks_at row at ≡ picks_at row to
pick_same None at to s = refl
pick_same (Some row) at to s =
    ap (λ t. is_picking row.act && (is_step t && (not (is_cut_off row at) && wants_server (region_of at.args) at))) s.turn
    ∙ ap (λ b. is_picking row.act && (is_step to.turn && (not b && wants_server (region_of at.args) at))) (cut_same row at to s)
    ∙ ap (λ a. is_picking row.act && (is_step to.turn && (not (is_cut_off row to) && wants_server (region_of a) at))) s.args
    ∙ ap (λ b. is_picking row.act && (is_step to.turn && (not (is_cut_off row to) && b))) (wants_same (region_of to.args) at to s)

-- the same needs a pick
pub picks_same : (sheet : Option Sheet) (at to : StepIn) → Sees at to → picks_by sheet at ≡ picks_by sheet to
picks_same sheet at to s = ap (λ r. picks_at (row_in sheet r) at) s.row ∙ pick_same (row_in sheet to.row) at to s
