-- What the next call of a procedure's handler sees.
use Rattle.std.specs.Prelude.{◌≡◌, ℕ, zero, suc, ◌+◌, List, [], ◌∷◌, ◌++◌, Option, Some, None, Bool, true, false, not, ◌==◌, ◌&&◌, ◌||◌, if◌then◌else◌, is_some, nat_lt}
use Rattle.hm_names.specs.Region.{Region}
use Rattle.hm_names.specs.Server.{Server}
use Rattle.hm_names.specs.declared.pid.Pid.{Pid}
use Rattle.hm_data.specs.declared.args.Args.{Args}
use Rattle.hm_data.specs.declared.call.Told.{Told}
use Rattle.hm_data.specs.declared.catalog.CatKey.{CatKey}
use Rattle.hm_data.specs.declared.catalog.CatRow.{CatRow}
use Rattle.hm_data.specs.declared.entry.Entry.TheVariants as entry_is
use Rattle.hm_data.specs.declared.place.Place.{Place}
use Rattle.hm_data.specs.declared.step.StepIn.{StepIn}
use Rattle.hm_data.specs.declared.step.StepOut.{StepOut}
use Rattle.hm_data.specs.declared.step.Turn.TheVariants as turn_is
use Rattle.hm_model.specs.Answers.{last_answer, row_of, report_of, is_aborted, done_with}
use Rattle.hm_model.specs.Catalog.{cat, keys_of, rows_at}
use Rattle.hm_model.specs.Editions.{edition_of}
use Rattle.hm_model.specs.Fleet.{is_fenced}
use Rattle.hm_model.specs.Journal.{Past}
use Rattle.hm_model.specs.Kinds.{kind_of}
use Rattle.hm_model.specs.Reads.{reads}
use Rattle.hm_model.specs.Evaluation.{answer_of}
use Rattle.hm_model.specs.Phase.{cause, all_stopped, child_in, end_of}
use Rattle.hm_model.specs.Places.{place_of, on_server, tries_of}
use Rattle.hm_model.specs.Sheets.{sheets_by}
use Rattle.hm_model.specs.Tree.{Node, pid_of, made, node_of, is_top}
use Rattle.hm_model.specs.Undo.{Undoable, stack, is_empty}
use Rattle.hm_model.specs.Whereabouts.{moved_by, called_by, crashed_in}

-- the rows that a procedure reads and that are there, in key order
abbrev pub rows_read : Past → Args → List (CatKey × CatRow)
rows_read before args = rows_at (reads args) (cat before) (keys_of before)

-- the place of a region, where there is one
abbrev pub place_if : Past → Option Region → Option Place
place_if before None = None
place_if before (Some region) = Some (place_of before region)

-- a server, where there is one, is fenced
abbrev pub fenced_if : Past → Option Server → Bool
fenced_if before None = false
fenced_if before (Some server) = is_fenced before server

-- the server of a place, where both are there
abbrev pub server_at : Option Place → Option Server
server_at None = None
server_at (Some place) = place.server

-- the server that a procedure has to do with is fenced: that of a transit's place, or the one that is called
abbrev pub sees_fenced : Past → Args → Bool
sees_fenced before args = fenced_if before (server_at (place_if before (moved_by args))) || fenced_if before (called_by args)

-- the regions that are to be brought away from a server, where there is one: 64 at most
abbrev pub regions_on : Past → Option Server → List Region
regions_on before None = []
regions_on before (Some server) = on_server before server

-- how many procedures had been made when a procedure made its last step, 0 where it made none
abbrev pub made_at_step : Past → ℕ → ℕ
made_at_step [] p = 0
made_at_step (entry_is.Step pid pick out ∷ before) p = if p == pid.0 then made before else made_at_step before p
made_at_step (entry_is.Base part ∷ before) p = 0
made_at_step (entry ∷ before) p = made_at_step before p

-- it is a child of p that p's last step made
abbrev pub is_new_child : Past → ℕ → ℕ → Bool
is_new_child before p q = nat_lt (made_at_step before p) q && child_in p (node_of before q)

-- what the children of p's last step among the procedures below n ended with, in the order of their numbers
abbrev pub ends_below : Past → ℕ → ℕ → List (Pid × Told)
ends_below before p zero = []
ends_below before p (suc n) =
    ends_below before p n ++ (if is_new_child before p n then end_of n (done_with (last_answer before n)) else [])

-- what the children that a procedure's last step made ended with, where they ended well
abbrev pub ends_of : Past → ℕ → List (Pid × Told)
ends_of before p = ends_below before p (made before + 1)

-- what a step of a procedure sees
abbrev pub step_input : Past → ℕ → Node → Option Server → StepIn
step_input before p node pick = record {
  pid = pid_of p;
  root = pid_of node.root;
  kind = kind_of node.args;
  edition = edition_of before node.root;
  row = row_of before p node;
  args = node.args;
  tries = tries_of before p;
  rows = rows_read before node.args;
  ends = ends_of before p;
  report = report_of before p;
  place = place_if before (moved_by node.args);
  fenced = sees_fenced before node.args;
  on_server = regions_on before (crashed_in node.args);
  pick = pick;
  aborted = is_aborted before p;
  turn = turn_is.Step;
}

-- what undoing a step sees: its own number, kind, row and args, and its edits
abbrev pub undo_input : Undoable → Node → StepIn → StepIn
undo_input latest its at =
    record at { pid = pid_of latest.pid; kind = kind_of its.args; row = latest.row; args = its.args; turn = turn_is.Undo latest.edits }

-- the latest step of a tree that may still be undone, and its procedure, in place of a step
abbrev pub latest_input : Past → List Undoable → StepIn → StepIn
latest_input before [] at = at
latest_input before (latest ∷ below) at =
    elim (node_of before latest.pid) as (λ n. StepIn) [ None ↦ at | Some its ↦ undo_input latest its at ]

-- a failed root whose descendants have ended is undone; all others make a step
abbrev pub turn_input : Past → Bool → List Undoable → StepIn → StepIn
turn_input before true steps at = latest_input before steps at
turn_input before false steps at = at

-- a failed root whose descendants have ended, while something is left to undo
abbrev pub undoes : Past → ℕ → Node → Bool
undoes before p node =
    is_top node.above && (is_some (cause before p) && (all_stopped before p && not (is_empty (stack before p))))

-- what the next call of a procedure's handler sees: for a failed root whose descendants have ended the latest step that
-- can be undone, for all others a step of their own
abbrev pub input : Past → ℕ → Node → Option Server → StepIn
input before p node pick =
    turn_input before (undoes before p node) (stack before p) (step_input before p node pick)

-- what the next call of a procedure's handler has to answer
abbrev pub answers : Past → ℕ → Node → Option Server → Option StepOut
answers before p node pick = answer_of (sheets_by before node.root) (input before p node pick)

-- this is what the next call of the handler of a procedure that is there answers
abbrev pub IsEvaluated : Past → ℕ → Option Server → StepOut → Type 0
IsEvaluated before p pick out =
    (node : Node) × (node_of before p ≡ Some node) × (answers before p node pick ≡ Some out)
