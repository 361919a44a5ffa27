-- The stacks as callers see them.
use Rattle.std.specs.Prelude.{◌≡◌, ℕ, ◌+◌, List, [], ◌∷◌, length, Option, Some, None, ◌==◌, if◌then◌else◌}
use Rattle.hm_names.specs.declared.pid.Pid.{Pid}
use Rattle.hm_data.specs.declared.catalog.Edit.{Edit}
use Rattle.hm_undo.specs.declared.slot.Step.{Step}

-- roots, each with its steps that may be undone, the latest first
abbrev pub Stacks : Type 0
Stacks = List (Pid × List Step)

-- the stacks, how many nodes no step has (memory that serves steps to come), for how many steps more there is room, and how much
-- memory there is
pub record StackView : Type 0 where
  pub stacks : Stacks
  pub idle : ℕ
  pub spare : ℕ
  pub room : ℕ

-- the steps of a root, the latest first; none of a root that isn't there
abbrev pub steps_of : Stacks → Pid → List Step
steps_of [] root = []
steps_of ((other, steps) ∷ more) root = if other.0 == root.0 then steps else steps_of more root

-- the step that comes next, as it is told: whose it is, and its row
abbrev pub told : List Step → Option (Pid × ℕ)
told [] = None
told (step ∷ below) = Some (step.pid, step.row)

-- the edits of the step that comes next
abbrev pub edits_told : List Step → Option (List Edit)
edits_told [] = None
edits_told (step ∷ below) = Some step.edits

-- how many steps there are, of all roots
abbrev pub held : Stacks → ℕ
held [] = 0
held ((root, steps) ∷ more) = length steps + held more

-- the stacks with these steps for one root, and those of each other root as they were
abbrev pub AreWith : Stacks → Pid → List Step → Stacks → Type 0
AreWith old root steps new =
    (other : Pid) → steps_of new other ≡ (if root.0 == other.0 then steps else steps_of old other)
