use Rattle.std.proofs.Common.{◌≡◌, ◌-◌, map}
use Rattle.hm_gen.specs.Generated.{numbers_from, split_key}
use Rattle.hm_gen.proofs.names.split_keys.Given as goal

abbrev pub invariant-loop-number : goal.invariant-loop-number
invariant-loop-number l = l.keys.items ≡ map split_key (numbers_from 1 (l.number - 1))
