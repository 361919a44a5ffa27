use Rattle.std.proofs.Common.{◌≡◌, Result, subst, rules}
use Rattle.std.specs.List.Sorted.{IsBinarySearchResult}
use Rattle.std.proofs.lemmas.Fn.{always_returns_same}
use Rattle.hm_names.specs.Order.{server_cmp}
use Rattle.hm_moves.proofs.Choosing.{found_at, no_gap}
use Rattle.hm_moves.proofs.moving.place_of.Goals as goal

pub unreachable-requires : goal.unreachable-requires
unreachable-requires c =
    let server = c.args.server.now in
    no_gap server c.args.loads.now c.in-Err.field-0 c.requires.rise c.requires.named
    (c.in-Err.ensures.position (λ load. server_cmp load.0 server) (always_returns_same _ _ _ (λ a r h called. search rules)))

pub returns-clause-found : goal.returns-clause-found
returns-clause-found c =
    let server = c.args.server.now in
    found_at server c.args.loads.now c.in-Ok.at c.in-Ok.ensures.bound
    (c.in-Ok.ensures.position (λ load. server_cmp load.0 server) (always_returns_same _ _ _ (λ a r h called. search rules)))
