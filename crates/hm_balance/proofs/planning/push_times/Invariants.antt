use Rattle.std.proofs.Common.{◌≡◌, ◌++◌}
use Rattle.hm_balance.specs.Plan.{times}
use Rattle.hm_balance.proofs.planning.push_times.Given as goal

abbrev pub invariant-loop : goal.invariant-loop
invariant-loop l = l.names.items ≡ l.initial.names.items ++ times l.counter l.name
