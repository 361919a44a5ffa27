-- What the acts of transits answer.
use Rattle.std.specs.Prelude.{ℕ, List, [], ◌∷◌, Option, Some, None, Bool, true, false, not, ◌==◌, ◌&&◌, ◌||◌, if◌then◌else◌}
use Rattle.std.specs.List.{list_any}
use Rattle.hm_names.specs.Region.{Region}
use Rattle.hm_names.specs.Server.{Server}
use Rattle.hm_names.specs.declared.pid.Pid.{Pid}
use Rattle.hm_data.specs.Numbers.{told_number, region_state_number}
use Rattle.hm_data.specs.declared.answer.Answer.{Answer}
use Rattle.hm_data.specs.declared.answer.Answer.TheVariants as answer_is
use Rattle.hm_data.specs.declared.args.Args.{Args}
use Rattle.hm_data.specs.declared.args.Args.TheVariants as args_are
use Rattle.hm_data.specs.declared.args.Child.TheVariants as child_is
use Rattle.hm_data.specs.declared.call.Told.{Told}
use Rattle.hm_data.specs.declared.call.Told.TheVariants as told_is
use Rattle.hm_data.specs.declared.catalog.CatKey.TheVariants as key_is
use Rattle.hm_data.specs.declared.catalog.CatRow.{CatRow}
use Rattle.hm_data.specs.declared.catalog.TableState.TheVariants as state_is
use Rattle.hm_data.specs.declared.place.Goal.{Goal}
use Rattle.hm_data.specs.declared.place.Goal.TheVariants as goal_is
use Rattle.hm_data.specs.declared.place.Place.{Place}
use Rattle.hm_data.specs.declared.place.RegionState.{RegionState}
use Rattle.hm_data.specs.declared.place.RegionState.TheVariants as place_is
use Rattle.hm_data.specs.declared.step.StepOut.{StepOut}
use Rattle.hm_model.specs.Catalog.{row_at}
use Rattle.hm_model.specs.Checks.{region_ready}
use Rattle.hm_model.specs.Outs.{given, checked, spawns, ends_with, places}
use Rattle.hm_model.specs.RowsSaid.{Rows, is_in_state, is_live_status, table_state_in, status_in}
use Rattle.hm_model.specs.Views.{region_of}
use Rattle.hm_model.specs.Wanted.{goal_in}

-- a place without a server
abbrev pub nowhere : RegionState → Place
nowhere state = record { state = state; server = None }

-- a place that is told, and Offline where none is
abbrev pub told_place : Option Place → Place
told_place None = nowhere place_is.Offline
told_place (Some place) = place

-- one state of a region
abbrev pub is_state : RegionState → Place → Bool
is_state state place = region_state_number place.state == region_state_number state

-- the region counts as its server's: it is being opened or closed there, or is open
abbrev pub is_placed : Place → Bool
is_placed place = is_state place_is.Opening place || (is_state place_is.Opened place || is_state place_is.Closing place)

-- a region may be opened: it is live, and its table is enabled or being enabled
abbrev pub may_open : Option CatRow → Option CatRow → Bool
may_open table region =
    is_live_status (status_in region) && (is_in_state state_is.Enabled (table_state_in table) || is_in_state state_is.Enabling (table_state_in table))

-- the same by the rows that a transit reads
abbrev pub may_open_in : Rows → Region → Bool
may_open_in rows region = may_open (row_at rows (key_is.Table region.table)) (row_at rows (key_is.Region region))

-- it is open, at a server that isn't fenced
abbrev pub is_open : Place → Bool → Bool
is_open place fenced = is_state place_is.Opened place && not fenced

-- a place becomes that of a region whose server is lost, where that is so
abbrev pub lost_if : Bool → Option Place
lost_if false = None
lost_if true = Some (nowhere place_is.AbnormallyClosed)

-- act 31: where the region may be opened and isn't open, it is placed at the server that was picked; else the end, and a
-- region whose server is lost loses its place
abbrev pub candidate : ℕ → Bool → Place → Bool → Option Server → StepOut
candidate next false place fenced pick =
    places (answer_is.Done told_is.Nothing) (lost_if (is_placed place && fenced))
candidate next true place fenced pick =
    if is_open place fenced then ends_with told_is.Nothing else places (answer_is.More next) (Some (record { state = place_is.Opening; server = pick }))

-- the same by the rows
abbrev pub get_assign_candidate : ℕ → Args → Rows → Option Place → Bool → Option Server → StepOut
get_assign_candidate next args rows place fenced pick =
    given (region_of args) next (λ region. candidate next (may_open_in rows region) (told_place place) fenced pick)

-- act 32: has the region opened at its place's server
abbrev pub open_there : ℕ → Args → Option Place → StepOut
open_there next args place =
    given (region_of args) next (λ region. given ((told_place place).server) next (λ server. spawns next (child_is.One (args_are.AssignCall region server) ∷ [])))

-- one of those that ended told this
abbrev pub is_told : Told → List (Pid × Told) → Bool
is_told told ends = list_any (λ end. told_number end.1 == told_number told) ends

-- the region is open at the server, or failed to open there and is tried again
abbrev pub opened_or_not : ℕ → Option Server → Bool → StepOut
opened_or_not next server true =
    places (answer_is.Done told_is.Opened) (Some (record { state = place_is.Opened; server = server }))
opened_or_not next server false =
    places (answer_is.More next) (Some (record { state = place_is.FailedOpen; server = server }))

-- act 33: takes in whether the region was opened
abbrev pub confirm_opened : ℕ → List (Pid × Told) → Option Place → StepOut
confirm_opened next ends place = opened_or_not next (told_place place).server (is_told told_is.Opened ends)

-- after a close: the end for a region that is to be unassigned, and for others the way to another server
abbrev pub behind_close : Goal → Told → Answer
behind_close goal_is.Unassign told = answer_is.Done told
behind_close goal told = answer_is.More 0

-- has a region closed at the server where it is
abbrev pub close_at : ℕ → Region → Server → StepOut
close_at next region server = record {
  answer = answer_is.Wait next;
  edits = [];
  children = child_is.One (args_are.CloseCall region server) ∷ [];
  call = None;
  place = Some (record { state = place_is.Closing; server = Some server });
  followers = [];
}

-- a region is closed where it is open; where its server is lost, so is it
abbrev pub close_or_go : ℕ → Goal → Region → Place → Bool → StepOut
close_or_go next goal region place true = given place.server next (close_at next region)
close_or_go next goal region place false =
    places (behind_close goal told_is.Nothing) (lost_if (is_state place_is.Opened place))

-- act 34: has the region closed where it is open
abbrev pub close_there : ℕ → Args → Option Place → Bool → StepOut
close_there next args place fenced =
    given (region_of args) next (λ region. close_or_go next (goal_in args) region (told_place place) (is_open (told_place place) fenced))

-- the state of a region that was closed, or whose server was lost
abbrev pub closed_or_lost : Bool → RegionState
closed_or_lost true = place_is.Closed
closed_or_lost false = place_is.AbnormallyClosed

-- act 35: takes in whether the region was closed
abbrev pub confirm_closed : Args → List (Pid × Told) → StepOut
confirm_closed args ends =
    places (behind_close (goal_in args) told_is.Closed) (Some (nowhere (closed_or_lost (is_told told_is.Closed ends))))

-- act 36: the region can be moved
abbrev pub check_move : ℕ → Args → Rows → StepOut
check_move next args rows =
    given (region_of args) next (λ region. checked next (region_ready (row_at rows (key_is.Table region.table)) (row_at rows (key_is.Region region))))
