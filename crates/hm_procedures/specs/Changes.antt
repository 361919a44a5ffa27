-- How what is kept changes.
use Rattle.std.specs.Prelude.{ℕ, zero, suc, ◌+◌, ◌-◌, ◌==◌, List, [], ◌∷◌, ◌++◌, Option, Some, None, Bool, true, false, ◌&&◌, ◌||◌, if◌then◌else◌, is_none, is_some, not, slice_get}
use Rattle.std.specs.Option.{option_or}
use Rattle.hm_names.specs.declared.pid.Pid.{Pid}
use Rattle.hm_data.specs.declared.answer.Cause.{Cause}
use Rattle.hm_data.specs.declared.args.Args.{Args}
use Rattle.hm_data.specs.declared.call.Told.{Told}
use Rattle.hm_data.specs.declared.record.Phase.{Phase}
use Rattle.hm_data.specs.declared.record.Phase.TheVariants as phase_is
use Rattle.hm_data.specs.declared.step.StepOut.{StepOut}
use Rattle.hm_model.specs.Answers.{done_with, failing, is_stop, is_stopped, row_after}
use Rattle.hm_model.specs.Counts.{one_if}
use Rattle.hm_model.specs.Kinds.{first_row_of, kind_of}
use Rattle.hm_model.specs.Phase.{end_of, or_else, own_phase, phase_table, root_over}
use Rattle.hm_model.specs.Places.{has_failed, one_more}
use Rattle.hm_procedures.specs.declared.kept.Tracked.{Tracked}

-- the first of so many procedures that are made after so many
abbrev pub first_made : ℕ → ℕ → Option Pid
first_made made zero = None
first_made made (suc count) = Some (record { 0 = made + 1 })

-- the root of a new procedure: that of its parent, or its own
abbrev pub root_by : ℕ → Option (Pid × Pid) → Pid
root_by p None = record { 0 = p }
root_by p (Some up) = up.1

-- the parent of a new procedure
abbrev pub parent_by : Option (Pid × Pid) → Option Pid
parent_by None = None
parent_by (Some up) = Some up.0

-- a new procedure, as a root or with its parent and its root, in an edition
abbrev pub fresh : ℕ → Option (Pid × Pid) → ℕ → Args → Tracked
fresh p up edition args = record {
  shown = record { pid = record { 0 = p }; parent = parent_by up; root = root_by p up; kind = kind_of args; edition = edition; row = first_row_of args; args = args; tries = 0; aborted = false; phase = phase_is.Runnable };
  last = None;
  report = None;
  has_called = false;
  cause = None;
  open_children = 0;
  open_under = 0;
  made_at_step = 0;
  made_in_step = 0;
  first_child = None;
}

-- new procedures, numbered after a number
abbrev pub added : ℕ → Option (Pid × Pid) → ℕ → List Args → List Tracked
added p up edition [] = []
added p up edition (args ∷ more) = fresh (p + 1) up edition args ∷ added (p + 1) up edition more

-- the eldest sibling of a procedure, by the first child of its parent: that one, or itself
abbrev pub elder_by : ℕ → Option Pid → Pid
elder_by p None = record { 0 = p }
elder_by p (Some eldest) = eldest

-- the eldest siblings of new procedures, numbered after a number
abbrev pub elders : ℕ → Option Pid → List Args → List Pid
elders p eldest [] = []
elders p eldest (args ∷ more) = elder_by (p + 1) eldest ∷ elders (p + 1) eldest more

-- after a step, where it is the one's own, before which so many had been made and which makes so many
abbrev pub stepped : Bool → StepOut → ℕ → ℕ → Tracked → Tracked
stepped own out made count one = record one {
  shown = record one.shown { row = if own then row_after (first_row_of (let shown = one.shown in shown.args)) (Some out.answer) else (let shown = one.shown in shown.row); tries = if own && has_failed out.place then one_more (let shown = one.shown in shown.tries) else (let shown = one.shown in shown.tries) };
  last = if own then Some out.answer else one.last;
  has_called = if own then is_some out.call || one.has_called else one.has_called;
  open_children = one.open_children + (if own then count else 0);
  made_at_step = if own then made else one.made_at_step;
  made_in_step = if own then count else one.made_in_step;
  first_child = if own then option_or one.first_child (first_made made count) else one.first_child;
}

-- after the end of a child, where it is the one's
abbrev pub child_ended : Bool → Tracked → Tracked
child_ended own one = record one { open_children = one.open_children - one_if own }

-- the root after a step in its tree that makes so many, by which a descendant ends or not, and which fails or not
abbrev pub tree_stepped : Bool → ℕ → Bool → Option Cause → Tracked → Tracked
tree_stepped own count ends failure one = record one {
  open_under = one.open_under + (if own then count else 0) - one_if (own && ends);
  cause = if own then or_else one.cause failure else one.cause;
}

-- it is the parent
abbrev pub is_this : Option Pid → ℕ → Bool
is_this None p = false
is_this (Some pid) p = pid.0 == p

-- a procedure after a step, by who it is: the one that steps, its parent, its root, or another
abbrev pub noted : ℕ → Pid → Option Pid → Pid → StepOut → ℕ → ℕ → Tracked → Tracked
noted p pid parent root out made count one =
    tree_stepped (root.0 == p) count (is_stop out.answer && is_some parent) (failing out.answer) (child_ended (is_this parent p && is_stop out.answer) (stepped (p == pid.0) out made count one))

-- after a report of its call, and after an abort
abbrev pub reported : Bool → Told → Tracked → Tracked
reported own told one = record one { report = if own then Some told else one.report }

-- where it is its own, it was aborted
abbrev pub aborted : Bool → Tracked → Tracked
aborted own one = record one { shown = record one.shown { aborted = if own then true else (let shown = one.shown in shown.aborted) } }

-- the phase of a procedure, by the cause of its root and whether that is rolled back
abbrev pub phase_by : Option Cause → Bool → Tracked → Phase
phase_by cause rolled one = phase_table cause rolled (is_none (let shown = one.shown in shown.parent)) (own_phase one.last (one.open_children == 0))

-- shown in its phase
abbrev pub shown_if : Bool → Option Cause → Bool → Tracked → Tracked
shown_if own cause rolled one = record one { shown = record one.shown { phase = if own then phase_by cause rolled one else (let shown = one.shown in shown.phase) } }

-- it is a procedure, its parent or its root
abbrev pub is_touched : Pid → Option Pid → Pid → ℕ → Bool
is_touched pid parent root p = (pid.0 == p) || (is_this parent p || (root.0 == p))

-- the phases that an entry may change: those of its whole tree where that is rolled back, else those of few
abbrev pub is_shown : Option Cause → Bool → Pid → Option Pid → Pid → ℕ → Tracked → Bool
is_shown None rolled pid parent root p one = is_touched pid parent root p
is_shown (Some cause) true pid parent root p one = (let shown = one.shown in let its = shown.root in its.0) == root.0
is_shown (Some cause) false pid parent root p one = is_touched pid parent root p

-- the phase of what is rolled back
abbrev pub is_rolled_back : Phase → Bool
is_rolled_back phase_is.Runnable = false
is_rolled_back phase_is.Waiting = false
is_rolled_back phase_is.Awaiting = false
is_rolled_back (phase_is.Failed cause) = false
is_rolled_back (phase_is.RolledBack cause) = true
is_rolled_back phase_is.Success = false

-- it has ended: a root as its cause says, a descendant by its last step
abbrev pub has_ended : Tracked → Bool
has_ended one =
    if is_none (let shown = one.shown in shown.parent) then root_over one.cause (is_rolled_back (let shown = one.shown in shown.phase)) (done_with one.last) else is_stopped one.last

-- a failed root with its descendants ended that isn't rolled back
abbrev pub is_undoing : Tracked → Bool
is_undoing one =
    is_none (let shown = one.shown in shown.parent) && (is_some one.cause && ((one.open_under == 0) && not (is_rolled_back (let shown = one.shown in shown.phase))))

-- what so many procedures after a number ended with that ended well, where the first that is kept has the number after `low`
abbrev pub ends_in : ℕ → List Tracked → ℕ → ℕ → List (Pid × Told)
ends_in low kept from zero = []
ends_in low kept from (suc n) =
    ends_in low kept from n ++ (elim (slice_get kept (from + n - low)) as (λ one. List (Pid × Told)) [ None ↦ [] | Some one ↦ end_of (from + n + 1) (done_with one.last) ])
