use Rattle.std.proofs.Common.{◌≡◌, ◌≤◌, ◌++◌}
use Rattle.std.specs.Vec.Iter.{into_iter_items}
use Rattle.hm_balance.specs.Plan.{with_targets}
use Rattle.hm_balance.proofs.share.targeted.Given as goal

abbrev pub invariant-loop-load : goal.invariant-loop-load
invariant-loop-load l = (l.shares.items ++ with_targets l.least l.more (into_iter_items l.load-iterator) ≡ with_targets l.least l.fn.more l.fn.falling.items) × (l.more ≤ l.fn.more)
