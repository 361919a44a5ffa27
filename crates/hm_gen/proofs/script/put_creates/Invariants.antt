use Rattle.std.proofs.Common.{◌≡◌, ◌++◌, map}
use Rattle.hm_gen.specs.Generated.{numbers_from, create}
use Rattle.hm_gen.proofs.script.put_creates.Given as goal

abbrev pub invariant-loop-number : goal.invariant-loop-number
invariant-loop-number l = l.commands.items ≡ l.initial.commands.items ++ map (create l.count) (numbers_from 0 l.number)
