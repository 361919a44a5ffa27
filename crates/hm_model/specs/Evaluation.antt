-- What a sheet answers, for all kinds.
use Rattle.std.specs.Prelude.{◌≡◌, ℕ, ◌<◌, ◌≤◌, ◌^◌, List, [], ◌∷◌, length, map, Option, Some, None, IsSome, Bool, true, false, not, ◌&&◌, if◌then◌else◌, slice_get}
use Rattle.std.specs.List.{AllByRecursion}
use Rattle.hm_names.specs.Region.{Region}
use Rattle.hm_data.specs.declared.act.Act.{Act}
use Rattle.hm_data.specs.declared.act.Act.TheVariants as act_is
use Rattle.hm_data.specs.declared.answer.Cause.TheVariants as cause_is
use Rattle.hm_data.specs.declared.args.Args.{Args}
use Rattle.hm_data.specs.declared.args.Args.TheVariants as args_are
use Rattle.hm_data.specs.declared.request.Request.{Request}
use Rattle.hm_data.specs.declared.request.Request.TheVariants as request_is
use Rattle.hm_data.specs.declared.sheet.Row.{Row}
use Rattle.hm_data.specs.declared.sheet.Sheet.{Sheet}
use Rattle.hm_data.specs.declared.step.StepIn.{StepIn}
use Rattle.hm_data.specs.declared.step.StepOut.{StepOut}
use Rattle.hm_data.specs.declared.step.Turn.{Turn}
use Rattle.hm_data.specs.declared.step.Turn.TheVariants as turn_is
use Rattle.hm_model.specs.Acts.{act_answer}
use Rattle.hm_model.specs.Outs.{fails}
use Rattle.hm_model.specs.Sheets.{sheet_for, row_in}
use Rattle.hm_model.specs.TransitActs.{may_open_in, is_open, told_place}
use Rattle.hm_model.specs.Undoing.{undo_out}
use Rattle.hm_model.specs.Views.{first_id_of, region_of}

-- a step of an aborted procedure fails at a row that isn't after the point
abbrev pub is_cut_off : Row → StepIn → Bool
is_cut_off row at = at.aborted && not row.after

-- a step: it fails where the procedure is cut off, else it answers by its act
abbrev pub row_answer : Row → StepIn → StepOut
row_answer row at = if is_cut_off row at then fails cause_is.Aborted else act_answer row.act row.next at

-- by the turn: a step, or what undoes one
abbrev pub turn_answer : Row → StepIn → Turn → StepOut
turn_answer row at turn_is.Step = row_answer row at
turn_answer row at (turn_is.Undo edits) = undo_out row.undo at.args at.root edits

-- what a row answers, if it is there
abbrev pub answer_at : Option Row → StepIn → Option StepOut
answer_at None at = None
answer_at (Some row) at = Some (turn_answer row at at.turn)

-- what a sheet answers at an input
abbrev pub sheet_answer : Sheet → StepIn → Option StepOut
sheet_answer sheet at = answer_at (slice_get sheet.rows at.row) at

-- the same, if the sheet is there
abbrev pub answer_by : Option Sheet → StepIn → Option StepOut
answer_by sheet at = answer_at (row_in sheet at.row) at

-- the same of the sheet of the input's kind
abbrev pub answer_of : List Sheet → StepIn → Option StepOut
answer_of sheets at = answer_by (sheet_for sheets at.kind) at

-- the region of a transit may be opened, and isn't open
abbrev pub wants_server : Option Region → StepIn → Bool
wants_server None at = false
wants_server (Some region) at = may_open_in at.rows region && not (is_open (told_place at.place) at.fenced)

-- the act that places a region at a server
abbrev pub is_picking : Act → Bool
is_picking act_is.GetAssignCandidate = true
is_picking act = false

-- the turn is a step
abbrev pub is_step : Turn → Bool
is_step turn_is.Step = true
is_step (turn_is.Undo edits) = false

-- a step of a row, if it is there, places a region, so that a server has to be picked
abbrev pub picks_at : Option Row → StepIn → Bool
picks_at None at = false
picks_at (Some row) at =
    is_picking row.act && (is_step at.turn && (not (is_cut_off row at) && wants_server (region_of at.args) at))

-- a step at this input needs a server to be picked
abbrev pub picks : Sheet → StepIn → Bool
picks sheet at = picks_at (slice_get sheet.rows at.row) at

-- the same, if the sheet is there
abbrev pub picks_by : Option Sheet → StepIn → Bool
picks_by sheet at = picks_at (row_in sheet at.row) at

-- the ids of regions that a request names
abbrev pub ids_in : Request → List ℕ
ids_in (request_is.SplitRegion region key) = region.id ∷ []
ids_in (request_is.MergeRegions regions) = map (λ region. region.id) regions
ids_in (request_is.Move region to) = region.id ∷ []
ids_in request = []

-- the ids of regions that a procedure names, with the first that it drew or adds
abbrev pub named_ids : Args → List ℕ
named_ids (args_are.Root request first) = first ∷ ids_in request
named_ids (args_are.Transit region goal to) = region.id ∷ []
named_ids (args_are.AddRegions table first bounds) = first ∷ []
named_ids (args_are.DropRegions table ids) = ids
named_ids (args_are.AssignCall region server) = region.id ∷ []
named_ids (args_are.CloseCall region server) = region.id ∷ []
named_ids args = []

-- an input at which a sheet can be asked: they are of one kind, the row is in the sheet, regions have their numbers, and
-- a server is picked where that is needed
pub record CanStep (sheet : Sheet) (at : StepIn) : Type 0 where
  pub kind : sheet.kind ≡ at.kind
  pub row : at.row < length sheet.rows
  pub ids : AllByRecursion (λ id. 1 ≤ id) (named_ids at.args)
  pub first : first_id_of at.args < 2 ^ 32
  pub pick : picks sheet at ≡ true → IsSome at.pick

-- a sheet is there, and can be asked at the input
abbrev pub CanBeAsked : Option Sheet → StepIn → Type 0
CanBeAsked None at = ⊥
CanBeAsked (Some sheet) at = CanStep sheet at

-- the sheets have one for the input's kind, which can be asked there
abbrev pub CanRun : List Sheet → StepIn → Type 0
CanRun sheets at = CanBeAsked (sheet_for sheets at.kind) at
