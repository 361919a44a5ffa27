use Rattle.std.proofs.Common.{All, subst, sym}
use Rattle.hm_gen.proofs.Parts.{whole}
use Rattle.hm_gen.specs.Generated.{IsGenerated}
use Rattle.hm_gen.proofs.script.generate.Goals as goal

pub returns-clause-script : goal.returns-clause-script
returns-clause-script c = whole c.args.seed c.args.count _ _ _ _ _ _ _ c.new-commands.ensures.items c.in_ok-put_servers.ensures c.in_ok-put_creates.ensures c.in_ok-push.ensures.items c.in_ok-put_moves.ensures c.in_ok-push-2.ensures.items c.in_ok-put_ending.ensures

pub returns-clause-own : goal.returns-clause-own
returns-clause-own c = subst (All IsGenerated) (sym (returns-clause-script c)) (c.generated_are_own.ensures c.args.seed c.args.count)
