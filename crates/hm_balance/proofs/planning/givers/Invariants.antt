use Rattle.std.proofs.Common.{◌≡◌, ◌++◌, drop}
use Rattle.hm_balance.specs.Plan.{givers as givers_of}
use Rattle.hm_balance.proofs.planning.givers.Given as goal

abbrev pub invariant-loop-share : goal.invariant-loop-share
invariant-loop-share l = l.names.items ++ givers_of (drop l.share-index l.shares) ≡ givers_of l.shares
