use Rattle.std.proofs.Common.{◌≡◌, ◌-◌, ◌≤◌, min, vec_len, vec_capacity, length}
use Rattle.hm_undo.specs.Kept.{IsKept, stacks_of}
use Rattle.hm_undo.proofs.stack.Stack.reserve.Given as goal

abbrev pub invariant-loop-alloc : goal.invariant-loop-alloc
invariant-loop-alloc l = record {
  kept : IsKept l.self-inside.places.pairs (stacks_of l.self-inside.slots.items) l.self-inside.pool l.self-inside.nodes;
  stacks : stacks_of l.self-inside.slots.items ≡ l.fn.self.stacks;
  count : l.count ≡ l.fn.steps;
  slots : l.count ≤ vec_capacity l.self-inside.slots - vec_len l.self-inside.slots;
  places : l.count ≤ l.self-inside.places.spare;
  spare : l.fn.self.spare ≤ min (length l.self-inside.pool) (min (vec_capacity l.self-inside.slots - vec_len l.self-inside.slots) l.self-inside.places.spare);
}

abbrev pub decreases-loop-alloc : goal.decreases-loop-alloc
decreases-loop-alloc l = l.count - length l.self-inside.pool
