use Rattle.std.proofs.Common.{rules}
use Rattle.std.proofs.lemmas.Fn.{always_returns_same}
use Rattle.hm_places.specs.Servers.{address_cmp}
use Rattle.hm_groups.proofs.members.seek.Goals as goal

pub returns-clause-position : goal.returns-clause-position
returns-clause-position c =
    c.binary_search_by.ensures.position (λ other. address_cmp other c.args.server.now) (always_returns_same _ _ _ (λ a r h called. search rules))
