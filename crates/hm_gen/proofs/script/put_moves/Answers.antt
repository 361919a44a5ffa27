use Rattle.std.proofs.Common.{arith}
use Rattle.hm_gen.proofs.Parts.{draws_more}
use Rattle.hm_gen.specs.Generated.{move}
use Rattle.hm_gen.proofs.script.put_moves.Goals as goal

pub loop-preserved : goal.loop-preserved
loop-preserved c = draws_more (move c.args.count) _ _ _ _ _ _ _ _ c.loop.invariant (omega arith) c.next_draw-drawn.ensures c.in_ok-move_drawn.ensures c.in_ok-push.ensures.items
