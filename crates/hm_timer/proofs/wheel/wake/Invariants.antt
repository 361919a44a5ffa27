use Rattle.std.proofs.Common.{◌≡◌, length, vec_len}
use Rattle.std.specs.Vec.{vec_capacity}
use Rattle.hm_lists.specs.Chains.{list_at}
use Rattle.hm_timer.proofs.Slots.{Wakes}
use Rattle.hm_timer.proofs.wheel.wake.Given as goal

abbrev pub invariant-loop-node : goal.invariant-loop-node
invariant-loop-node g l =
    Wakes l.list l.fn.lists.lists l.fn.lists.spare l.fn.woken.items (vec_len l.fn.woken) (vec_capacity l.fn.woken) l.fn.steps
    l.lists.lists l.lists.spare l.woken.items (vec_len l.woken) (vec_capacity l.woken) l.steps × (l.lists.room ≡ l.fn.lists.room)

abbrev pub decreases-loop-node : goal.decreases-loop-node
decreases-loop-node g l = length (list_at l.lists.lists l.list)
