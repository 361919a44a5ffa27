-- What undoing a step answers.
use Rattle.std.specs.Prelude.{List, [], ◌∷◌, ◌++◌, None}
use Rattle.hm_names.specs.Region.{Region}
use Rattle.hm_names.specs.declared.pid.Pid.{Pid}
use Rattle.hm_data.specs.declared.act.Back.{Back}
use Rattle.hm_data.specs.declared.act.Back.TheVariants as back_is
use Rattle.hm_data.specs.declared.answer.Answer.TheVariants as answer_is
use Rattle.hm_data.specs.declared.args.Args.{Args}
use Rattle.hm_data.specs.declared.args.Args.TheVariants as args_are
use Rattle.hm_data.specs.declared.args.Child.{Child}
use Rattle.hm_data.specs.declared.args.Child.TheVariants as child_is
use Rattle.hm_data.specs.declared.catalog.Edit.{Edit}
use Rattle.hm_data.specs.declared.place.Goal.TheVariants as goal_is
use Rattle.hm_data.specs.declared.request.Request.{Request}
use Rattle.hm_data.specs.declared.request.Request.TheVariants as request_is
use Rattle.hm_data.specs.declared.step.StepOut.{StepOut}
use Rattle.hm_model.specs.Pieces.{transits}

-- an edit turned round
abbrev pub turned : Edit → Edit
turned edit = record { key = edit.key; before = edit.after; after = edit.before }

-- edits turned round, the last first
abbrev pub turned_round : List Edit → List Edit
turned_round [] = []
turned_round (edit ∷ edits) = turned_round edits ++ turned edit ∷ []

-- the edits that undo a step
abbrev pub undo_edits : Back → List Edit → List Edit
undo_edits back_is.Edits edits = turned_round edits
undo_edits undo edits = []

-- the regions that a request closes to change them
abbrev pub closed_by_request : Request → List Region
closed_by_request (request_is.SplitRegion region key) = region ∷ []
closed_by_request (request_is.MergeRegions regions) = regions
closed_by_request request = []

-- the same of a procedure
abbrev pub closed_by : Args → List Region
closed_by (args_are.Root request first) = closed_by_request request
closed_by args = []

-- the procedures that go on with undoing a step
abbrev pub undo_followers : Back → Args → Pid → List Child
undo_followers back_is.Sweep args root = child_is.One (args_are.SweepLayout root) ∷ []
undo_followers back_is.Reopen args root = transits goal_is.Assign (closed_by args)
undo_followers undo args root = []

-- what undoing a step answers and does
abbrev pub undo_out : Back → Args → Pid → List Edit → StepOut
undo_out undo args root edits = record {
  answer = answer_is.Undone;
  edits = undo_edits undo edits;
  children = [];
  call = None;
  place = None;
  followers = undo_followers undo args root;
}
