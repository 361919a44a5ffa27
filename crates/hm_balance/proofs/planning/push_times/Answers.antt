use Rattle.hm_balance.proofs.Lists.{times_more}
use Rattle.hm_balance.proofs.planning.push_times.Goals as goal

pub loop-preserved : goal.loop-preserved
loop-preserved c = times_more _ _ _ _ _ _ c.loop.invariant c.in_ok-copy.ensures c.in_ok-push.ensures.items
