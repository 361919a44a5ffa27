use Rattle.std.proofs.Common.{◌+◌, refl, arith}
use Rattle.hm_gen.proofs.Parts.{made_more}
use Rattle.hm_gen.specs.Generated.{create}
use Rattle.hm_gen.proofs.script.put_creates.Goals as goal

pub loop-number-preserved : goal.loop-number-preserved
loop-number-preserved c = made_more (create c.args.count) _ _ _ 0 c.loop-number.number (c.loop-number.number + 1) c.loop-number.number _ c.loop-number.invariant (omega arith) refl c.in_ok-create.ensures c.in_ok-push.ensures.items
