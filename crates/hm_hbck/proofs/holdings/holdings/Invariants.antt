use Rattle.std.proofs.Common.{◌≡◌, ◌++◌, drop}
use Rattle.hm_places.specs.Servers.{is_fenced_in}
use Rattle.hm_hbck.specs.Found.{AllAreHeld, all_held, holds_of}
use Rattle.hm_hbck.proofs.holdings.holdings.Given as goal

abbrev pub invariant-loop-actor : goal.invariant-loop-actor
invariant-loop-actor l = record {
  list : holds_of l.list.items ++ all_held l.catalog.rows (is_fenced_in l.servers.servers) (drop l.actor-index l.actors) ≡ all_held l.catalog.rows (is_fenced_in l.servers.servers) l.actors;
  held : AllAreHeld (is_fenced_in l.servers.servers) (drop l.actor-index l.actors) → AllAreHeld (is_fenced_in l.servers.servers) l.actors;
}
