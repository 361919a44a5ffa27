use Rattle.std.proofs.Common.{◌≡◌, ◌+◌, ◌-◌, ap, arith}
use Rattle.hm_script.specs.declared.command.Command.TheVariants as C
use Rattle.hm_gen.proofs.Parts.{made_more}
use Rattle.hm_gen.specs.Generated.{server}
use Rattle.hm_gen.proofs.script.put_servers.Goals as goal

pub loop-number-preserved : goal.loop-number-preserved
loop-number-preserved c = made_more (λ number. C.Server (server number)) _ _ _ 1 (c.loop-number.number - 1) (c.loop-number.number + 1 - 1) c.loop-number.number _ c.loop-number.invariant (omega arith) (omega arith) (ap (λ server. C.Server server) c.in_ok-server.ensures) c.in_ok-push.ensures.items

pub returns : goal.returns
returns c =
    let all : c.loop-number.number - 1 ≡ 4 = omega arith in
    rw all at c.loop-number.invariant
