use Rattle.std.proofs.Common.{Some, rules}
use Rattle.std.proofs.lemmas.Fn.{always_returns_same}
use Rattle.hm_places.specs.Chosen.{cmp_if}
use Rattle.hm_places.specs.Places.{held_cmp, key_of}
use Rattle.hm_places.proofs.held.seek.Goals as goal

pub returns-clause-position : goal.returns-clause-position
returns-clause-position c =
    c.binary_search_by.ensures.position (λ number. cmp_if held_cmp (key_of c.args.rows.now.came number) (Some (c.args.server.now, c.args.region.now))) (always_returns_same _ _ _ (λ a r h called. search rules))
