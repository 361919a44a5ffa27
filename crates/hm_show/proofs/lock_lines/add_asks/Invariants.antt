use Rattle.std.proofs.Common.{◌≡◌, ◌++◌, map}
use Rattle.hm_show.specs.Locks.{lock_of}
use Rattle.hm_show.proofs.lock_lines.add_asks.Given as goal

abbrev pub invariant-loop-ask : goal.invariant-loop-ask
invariant-loop-ask l = l.locks.items ≡ l.fn.locks.items ++ map (lock_of l.one.pid.0) l.yielded
