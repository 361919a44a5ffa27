use Rattle.std.proofs.Common.{◌≡◌, ◌+◌, ◌*◌, ◌≤◌, drop}
use Rattle.hm_balance.specs.Loads.{total}
use Rattle.hm_balance.proofs.share.sum.Given as goal

abbrev pub invariant-loop-load : goal.invariant-loop-load
invariant-loop-load l = (l.sum + total (drop l.load-index l.loads) ≡ total l.loads) × (l.sum ≤ l.load-index * 4294967295)
