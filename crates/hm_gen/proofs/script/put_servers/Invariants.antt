use Rattle.std.proofs.Common.{◌≡◌, ◌-◌, ◌++◌, map}
use Rattle.hm_script.specs.declared.command.Command.TheVariants as C
use Rattle.hm_gen.specs.Generated.{numbers_from, server}
use Rattle.hm_gen.proofs.script.put_servers.Given as goal

abbrev pub invariant-loop-number : goal.invariant-loop-number
invariant-loop-number l = l.commands.items ≡ l.initial.commands.items ++ map (λ number. C.Server (server number)) (numbers_from 1 (l.number - 1))
