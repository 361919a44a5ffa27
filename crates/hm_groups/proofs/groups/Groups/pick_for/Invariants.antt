use Rattle.std.proofs.Common.{◌≡◌}
use Rattle.std.specs.List.{filter}
use Rattle.std.specs.Option.{option_copied}
use Rattle.hm_model.specs.Choice.{lowest}
use Rattle.hm_model.specs.Loads.{load_in}
use Rattle.hm_model.specs.Standings.{live_servers}
use Rattle.hm_groups.specs.Picking.{passes}
use Rattle.hm_groups.proofs.Picked.{IsLoaded, server_of, with_best}
use Rattle.hm_groups.proofs.groups.Groups.pick_for.Given as goal

abbrev pub invariant-loop-server : goal.invariant-loop-server
invariant-loop-server l = record {
  lowest : with_best (load_in l.places.places) (server_of l.best) (lowest (load_in l.places.places) (filter (passes l.self l.servers.servers l.args l.tries (option_copied l.place)) (live_servers l.server-iterator)))
      ≡ lowest (load_in l.places.places) (filter (passes l.self l.servers.servers l.args l.tries (option_copied l.place)) (live_servers l.servers.servers));
  loaded : IsLoaded (load_in l.places.places) l.best;
}
