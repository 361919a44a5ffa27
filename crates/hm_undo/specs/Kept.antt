-- How the stacks are kept.
use Rattle.std.specs.Prelude.{◌≡◌, ℕ, suc, ◌+◌, ◌<◌, ◌≤◌, ◌^◌, List, [], ◌∷◌, length, map, Option, Some, None, ◌==◌, if◌then◌else◌}
use Rattle.std.specs.List.{All}
use Rattle.std.specs.Option.{option_map}
use Rattle.hm_names.specs.Order.{pid_cmp}
use Rattle.hm_names.specs.declared.pid.Pid.{Pid}
use Rattle.hm_index.specs.Index.{find}
use Rattle.hm_undo.specs.declared.slot.Slot.{Slot}
use Rattle.hm_undo.specs.declared.slot.Step.{Step}
use Rattle.hm_undo.specs.Stacks.{Stacks, held}

-- the roots and steps of slots
abbrev pub stacks_of : List Slot → Stacks
stacks_of slots = map (λ slot. (slot.root, slot.steps)) slots

-- where a root stands
abbrev pub find_place : Stacks → Pid → Option ℕ
find_place [] root = None
find_place ((other, steps) ∷ more) root = if other.0 == root.0 then Some 0 else option_map suc (find_place more root)

-- the places are those of the roots
abbrev pub AreFound : List (Pid × ℕ) → Stacks → Type 0
AreFound places stacks = (root : Pid) → find pid_cmp places root ≡ find_place stacks root

-- the roots are found, there are no more nodes, with those in the pool, than were made, and no edits are kept in the pool
pub record IsKept (places : List (Pid × ℕ)) (stacks : Stacks) (pool : List Step) (nodes : ℕ) : Type 0 where
  pub found : AreFound places stacks
  pub count : held stacks + length pool ≤ nodes
  pub few : nodes < 2 ^ 62
  pub blank : All (λ step. step.edits ≡ []) pool
