use Rattle.std.proofs.Common.{◌≡◌}
use Rattle.hm_lists.specs.Chains.{list_at}
use Rattle.hm_locks.specs.Lowest.{holder_at, lower, lowest_in}
use Rattle.hm_locks.proofs.conflicts.Search.lowest_in.Given as goal

abbrev pub invariant-loop-node : goal.invariant-loop-node
invariant-loop-node l =
    lower l.first (lowest_in (holder_at l.self.own.now l.self.entries.now l.self.wants.now) l.node-iterator)
    ≡ lowest_in (holder_at l.self.own.now l.self.entries.now l.self.wants.now) (list_at l.self.lists.now.lists l.list)
