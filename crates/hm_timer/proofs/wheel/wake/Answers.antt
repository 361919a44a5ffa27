use Rattle.std.proofs.Common.{ap, ◌∙◌, ◌++◌, ◌∷◌, []}
use Rattle.hm_timer.proofs.Slots.{wakes_more, to_pid}
use Rattle.hm_timer.proofs.wheel.wake.Goals as goal

pub loop-node-preserved : goal.loop-node-preserved
loop-node-preserved g c =
    ((wakes_more _ _ _ _ _ _ _ _ _ _ _ _ _ c.loop-node.invariant.0 c.in-Some.node _ _ _ _ _ _ c.in-Some.ensures.first c.pop_front.ensures.lists c.pop_front.ensures.spare (c.push_reserved.ensures.items ∙ ap (λ n. c.loop-node.woken.items ++ to_pid n ∷ []) c.from.ensures) c.push_reserved.ensures.len c.push_reserved.ensures.capacity c.pop_front.ensures.steps).0, c.pop_front.ensures.room ∙ c.loop-node.invariant.1)
