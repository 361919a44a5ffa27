-- How far a procedure is.
use Rattle.std.specs.Prelude.{ℕ, zero, suc, ◌+◌, List, [], ◌∷◌, Option, Some, None, Bool, true, false, not, ◌==◌, ◌&&◌, ◌||◌, if◌then◌else◌, is_some}
use Rattle.hm_names.specs.declared.pid.Pid.{Pid}
use Rattle.hm_data.specs.declared.answer.Answer.{Answer}
use Rattle.hm_data.specs.declared.answer.Answer.TheVariants as answer_is
use Rattle.hm_data.specs.declared.answer.Cause.{Cause}
use Rattle.hm_data.specs.declared.call.Told.{Told}
use Rattle.hm_data.specs.declared.entry.Entry.TheVariants as entry_is
use Rattle.hm_data.specs.declared.record.Phase.{Phase}
use Rattle.hm_data.specs.declared.record.Phase.TheVariants as phase_is
use Rattle.hm_model.specs.Journal.{Past}
use Rattle.hm_model.specs.Tree.{Node, made, node_of, root_of, is_top}
use Rattle.hm_model.specs.Answers.{last_answer, is_stopped, done_with, failing}
use Rattle.hm_model.specs.Undo.{stack, is_empty}

-- each number below n passes the test
abbrev pub all_below : ℕ → (ℕ → Bool) → Bool
all_below zero test = true
all_below (suc n) test = test n && all_below n test

-- the first of two causes that is there
abbrev pub or_else : Option Cause → Option Cause → Option Cause
or_else None later = later
or_else (Some cause) later = Some cause

-- the first failure in the tree of a root
abbrev pub cause : Past → ℕ → Option Cause
cause [] r = None
cause (entry_is.Step pid pick out ∷ before) r =
    if root_of before pid.0 == r then or_else (cause before r) (failing out.answer) else cause before r
cause (entry_is.Base part ∷ before) r = None
cause (entry ∷ before) r = cause before r

-- it is of the tree of a root
abbrev pub in_tree : ℕ → Option Node → Bool
in_tree r None = false
in_tree r (Some node) = node.root == r

-- it is no descendant of the root, or has stopped
abbrev pub stopped_in : Past → ℕ → ℕ → Bool
stopped_in before r q = not (in_tree r (node_of before q)) || ((q == r) || is_stopped (last_answer before q))

-- all descendants of the root have ended
abbrev pub all_stopped : Past → ℕ → Bool
all_stopped before r = all_below (made before + 1) (stopped_in before r)

-- the descendants of the root have ended, and nothing is left to undo
abbrev pub rolled_back : Past → ℕ → Bool
rolled_back before r = all_stopped before r && is_empty (stack before r)

-- a root without a failure has ended where it is done, one with a failure where it is rolled back
abbrev pub root_over : Option Cause → Bool → Option Told → Bool
root_over None rolled told = is_some told
root_over (Some c) rolled told = rolled

-- a root has ended
abbrev pub root_ended : Past → ℕ → Bool
root_ended before r = root_over (cause before r) (rolled_back before r) (done_with (last_answer before r))

-- a root has ended as said, a descendant where its last step ended it
abbrev pub ended_node : Past → ℕ → Option Node → Bool
ended_node before p None = false
ended_node before p (Some node) =
    if is_top node.above then root_ended before p else is_stopped (last_answer before p)

-- a procedure that is there has ended
abbrev pub ended : Past → ℕ → Bool
ended before p = ended_node before p (node_of before p)

-- it is the nearest of some ancestors
abbrev pub is_parent : ℕ → List ℕ → Bool
is_parent p [] = false
is_parent p (up ∷ above) = up == p

-- it is a child of a procedure
abbrev pub child_in : ℕ → Option Node → Bool
child_in p None = false
child_in p (Some node) = is_parent p node.above

-- all children of a procedure have ended
abbrev pub children_ended : Past → ℕ → Bool
children_ended before p =
    all_below (made before + 1) (λ q. not (child_in p (node_of before q)) || is_stopped (last_answer before q))

-- what a procedure by its number ended with, as a list of one or none
abbrev pub end_of : ℕ → Option Told → List (Pid × Told)
end_of q None = []
end_of q (Some told) = (record { 0 = q }, told) ∷ []

-- what the last step of a procedure decides, whose children have ended or not
abbrev pub own_phase : Option Answer → Bool → Phase
own_phase None children = phase_is.Runnable
own_phase (Some (answer_is.More next)) children = phase_is.Runnable
own_phase (Some (answer_is.Wait next)) true = phase_is.Runnable
own_phase (Some (answer_is.Wait next)) false = phase_is.Waiting
own_phase (Some (answer_is.Await next)) children = phase_is.Awaiting
own_phase (Some (answer_is.Done told)) children = phase_is.Success
own_phase (Some (answer_is.Fail c)) children = phase_is.Failed c
own_phase (Some answer_is.Undone) children = phase_is.Success

-- the phase, by the cause of the root, whether the root is rolled back, whether it is the root, and its own last step
abbrev pub phase_table : Option Cause → Bool → Bool → Phase → Phase
phase_table None rolled top own = own
phase_table (Some c) true top own = phase_is.RolledBack c
phase_table (Some c) false true own = phase_is.Failed c
phase_table (Some c) false false own = own

-- the phase of a procedure
abbrev pub phase : Past → ℕ → Node → Phase
phase before p node =
    phase_table (cause before node.root) (rolled_back before node.root) (is_top node.above) (own_phase (last_answer before p) (children_ended before p))
