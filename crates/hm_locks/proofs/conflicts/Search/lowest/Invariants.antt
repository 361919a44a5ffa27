use Rattle.std.proofs.Common.{◌≡◌, ◌+◌}
use Rattle.hm_locks.specs.Lowest.{holder_at, lowest_of}
use Rattle.hm_locks.proofs.conflicts.Search.lowest.Given as goal

abbrev pub invariant-loop-ask : goal.invariant-loop-ask
invariant-loop-ask g l = record {
  lowest : l.first ≡ lowest_of (holder_at l.self.own.now l.self.entries.now l.self.wants.now) l.self.lists.now.lists l.self.wants.now l.self.own.now.first l.ask;
  steps : l.steps ≡ l.fn.steps + l.ask;
}
