-- What an abort is answered by what the journal says, in the order of judging.
use Rattle.std.specs.Prelude.{◌≡◌, ◌⊎◌, ℕ, Bool, Some, None, true, false}
use Rattle.hm_data.specs.declared.record.Phase.{Phase}
use Rattle.hm_data.specs.declared.record.Phase.TheVariants as phase_is
use Rattle.hm_data.specs.declared.record.Record.{Record}
use Rattle.hm_model.specs.Answers.{is_aborted, row_of}
use Rattle.hm_model.specs.Journal.{Past}
use Rattle.hm_model.specs.OldRoots.{old_record_of, shown_of}
use Rattle.hm_model.specs.Phase.{phase}
use Rattle.hm_model.specs.Rules.{IsBeforePoint}
use Rattle.hm_model.specs.Tree.{Node, is_top, node_of}
use Rattle.hm_refusals.specs.declared.aborts.AbortRefused.{AbortRefused}
use Rattle.hm_refusals.specs.declared.aborts.AbortRefused.TheVariants as refused_is

-- the phase of a root that has failed or ended
abbrev pub is_finished : Phase → Bool
is_finished phase_is.Runnable = false
is_finished phase_is.Waiting = false
is_finished phase_is.Awaiting = false
is_finished (phase_is.Failed cause) = true
is_finished (phase_is.RolledBack cause) = true
is_finished phase_is.Success = true

-- it is a root that goes on
abbrev pub GoesOn : Past → ℕ → Node → Type 0
GoesOn J p node = (is_top node.above ≡ true) × (is_finished (phase J p node) ≡ false)

-- it is a root that goes on, and not after the point
abbrev pub IsInTime : Past → ℕ → Type 0
IsInTime J p = ((node : Node) × (node_of J p ≡ Some node) × GoesOn J p node) × IsBeforePoint J p

-- it may be aborted, and was or wasn't aborted before
abbrev pub IsAborted : Past → ℕ → Bool → Type 0
IsAborted J p before = IsInTime J p × (is_aborted J p ≡ before)

-- it isn't shown: nobody made behind the base has the number, nor does a root of the base
abbrev pub IsUnknown : Past → ℕ → Type 0
IsUnknown J p = shown_of J p ≡ None

-- it isn't a root, but has this one
abbrev pub IsBelow : Past → ℕ → ℕ → Type 0
IsBelow J p root = (node : Node) × (node_of J p ≡ Some node) × (is_top node.above ≡ false) × (root ≡ node.root)

-- it is a root made behind the base that has failed or ended, and is in this phase
abbrev pub HasFinished : Past → ℕ → Phase → Type 0
HasFinished J p at = (node : Node) × (node_of J p ≡ Some node) × (is_top node.above ≡ true) × (at ≡ phase J p node) × (is_finished at ≡ true)

-- it is a root of the base, which ended in this phase
abbrev pub IsOfBase : Past → ℕ → Phase → Type 0
IsOfBase J p at = (old : Record) × (old_record_of J p ≡ Some old) × (at ≡ old.phase)

-- it is a root that goes on, after the point, and runs this row next
abbrev pub IsTooLate : Past → ℕ → ℕ → Type 0
IsTooLate J p row = (node : Node) × (node_of J p ≡ Some node) × GoesOn J p node × (row ≡ row_of J p node) × (IsBeforePoint J p → ⊥)

-- why an abort is refused: nobody is shown, it is no root, it has failed or ended, or it is after the point
abbrev pub IsAgainst : Past → ℕ → AbortRefused → Type 0
IsAgainst J p refused_is.Unknown = IsUnknown J p
IsAgainst J p (refused_is.Child root) = IsBelow J p root.0
IsAgainst J p (refused_is.Finished at) = HasFinished J p at ⊎ IsOfBase J p at
IsAgainst J p (refused_is.TooLate row) = IsTooLate J p row
IsAgainst J p (refused_is.Fault fault) = ⊥
