use Rattle.std.proofs.Common.{◌≡◌, ◌-◌, ◌++◌, map}
use Rattle.hm_gen.specs.Generated.{draws, move}
use Rattle.hm_gen.proofs.script.put_moves.Given as goal

abbrev pub invariant-loop : goal.invariant-loop
invariant-loop l = l.commands.items ++ map (move l.count) (draws l.drawn (l.end - l.counter)) ≡ l.initial.commands.items ++ map (move l.count) (draws l.fn.seed l.end)
