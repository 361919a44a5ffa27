-- What the stacks say of a journal, and what keeps that.
use Rattle.std.specs.Prelude.{◌≡◌, ℕ, [], ◌∷◌, map, drop, Option, Bool, true, false, not, ◌==◌, ◌&&◌, is_some}
use Rattle.hm_names.specs.Server.{Server}
use Rattle.hm_names.specs.declared.pid.Pid.{Pid}
use Rattle.hm_data.specs.declared.act.Back.{Back}
use Rattle.hm_data.specs.declared.act.Back.TheVariants as back_is
use Rattle.hm_data.specs.declared.entry.Entry.{Entry}
use Rattle.hm_data.specs.declared.entry.Entry.TheVariants as entry_is
use Rattle.hm_data.specs.declared.step.StepOut.{StepOut}
use Rattle.hm_model.specs.Answers.{failing}
use Rattle.hm_model.specs.Journal.{Past}
use Rattle.hm_model.specs.Sheets.{undo_of_next}
use Rattle.hm_model.specs.Tree.{node_of, pid_of, root_of}
use Rattle.hm_model.specs.Undo.{Undoable, row_if_there, stack}
use Rattle.hm_undo.specs.declared.slot.Step.{Step}
use Rattle.hm_undo.specs.Stacks.{AreWith, Stacks, steps_of}

-- a step that may be undone, as it is kept
abbrev pub kept_of : Undoable → Step
kept_of undoable = record { pid = pid_of undoable.pid; row = undoable.row; edits = undoable.edits }

-- the stacks of the roots that pass a test have what a journal has left to undo
abbrev pub Tells : (Pid → Bool) → Past → Stacks → Type 0
Tells alive J stacks = (root : Pid) → alive root ≡ true → steps_of stacks root ≡ map kept_of (stack J root.0)

-- an undo of a row may be left
abbrev pub has_undo : Back → Bool
has_undo back_is.Nothing = false
has_undo back_is.Edits = true
has_undo back_is.Sweep = true
has_undo back_is.Reopen = true

-- a step is left to be undone: its row has an undo, and it didn't fail
abbrev pub leaves_undo : Past → Pid → StepOut → Bool
leaves_undo before pid out = has_undo (undo_of_next before pid.0 (node_of before pid.0)) && not (is_some (failing out.answer))

-- the root of a procedure
abbrev pub root_pid : Past → Pid → Pid
root_pid before pid = pid_of (root_of before pid.0)

-- the step that a procedure makes next, with its edits
abbrev pub next_step : Past → Pid → StepOut → Step
next_step before pid out = record { pid = pid; row = row_if_there before pid.0 (node_of before pid.0); edits = out.edits }

-- a step that is left to be undone is pushed
abbrev pub StepsPush : Type 0
StepsPush =
    (alive : Pid → Bool) (before : Past) (pid : Pid) (pick : Option Server) (out : StepOut) (old new : Stacks)
    → leaves_undo before pid out ≡ true → Tells alive before old
    → AreWith old (root_pid before pid) (next_step before pid out ∷ steps_of old (root_pid before pid)) new
    → Tells alive (entry_is.Step pid pick out ∷ before) new

-- another step changes nothing
abbrev pub StepsLeave : Type 0
StepsLeave =
    (alive : Pid → Bool) (before : Past) (pid : Pid) (pick : Option Server) (out : StepOut) (stacks : Stacks)
    → leaves_undo before pid out ≡ false → Tells alive before stacks → Tells alive (entry_is.Step pid pick out ∷ before) stacks

-- an undo pops the latest step of its root
abbrev pub UndosPop : Type 0
UndosPop =
    (alive : Pid → Bool) (before : Past) (pid : Pid) (row : ℕ) (out : StepOut) (old new : Stacks)
    → Tells alive before old
    → AreWith old (root_pid before pid) (drop 1 (steps_of old (root_pid before pid))) new
    → Tells alive (entry_is.Undo pid row out ∷ before) new

-- neither steps, undos nor parts of a base
abbrev pub is_other : Entry → Bool
is_other (entry_is.Step pid pick out) = false
is_other (entry_is.Undo pid row out) = false
is_other (entry_is.Base part) = false
is_other entry = true

-- every other entry changes nothing
abbrev pub OthersLeave : Type 0
OthersLeave =
    (alive : Pid → Bool) (before : Past) (entry : Entry) (stacks : Stacks) → is_other entry ≡ true → Tells alive before stacks → Tells alive (entry ∷ before) stacks

-- a root that is forgotten is told of no more
abbrev pub ForgottenLeave : Type 0
ForgottenLeave =
    (alive : Pid → Bool) (J : Past) (root : Pid) (old new : Stacks) → Tells alive J old → AreWith old root [] new → Tells (λ other. alive other && not (root.0 == other.0)) J new
