use Rattle.std.proofs.Common.{◌∙◌}
use Rattle.hm_hbck.proofs.Crewed.{enlisted}
use Rattle.hm_hbck.proofs.crew.enlist.Goals as goal

pub returns : goal.returns
returns c =
    enlisted (λ actor. actor.now) c.args.crew.now.pairs c.reserve.new.self.pairs c.set.new.self.pairs c.in_ok-name.name c.args.actor.now.name c.args.actor (c.in_ok-name.ensures ∙ c.name.ensures) c.in_ok-reserve.ensures.pairs c.set.ensures.pairs
