use Rattle.std.proofs.Common.{Some, rules}
use Rattle.std.proofs.lemmas.Fn.{always_returns_same}
use Rattle.hm_names.specs.Order.{server_cmp}
use Rattle.hm_places.specs.Chosen.{cmp_if}
use Rattle.hm_places.specs.Servers.{name_of}
use Rattle.hm_places.proofs.up.seek.Goals as goal

pub returns-clause-position : goal.returns-clause-position
returns-clause-position c =
    c.binary_search_by.ensures.position (λ number. cmp_if server_cmp (name_of c.args.rows.now.came number) (Some c.args.server.now)) (always_returns_same _ _ _ (λ a r h called. search rules))
