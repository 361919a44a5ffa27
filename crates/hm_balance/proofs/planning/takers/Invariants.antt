use Rattle.std.proofs.Common.{◌≡◌, ◌++◌, drop}
use Rattle.hm_balance.specs.Plan.{takers as takers_of}
use Rattle.hm_balance.proofs.planning.takers.Given as goal

abbrev pub invariant-loop-share : goal.invariant-loop-share
invariant-loop-share l = l.names.items ++ takers_of (drop l.share-index l.shares) ≡ takers_of l.shares
