use Rattle.std.proofs.Common.{◌≡◌, ◌++◌, map}
use Rattle.hm_model.specs.Standings.{live_servers}
use Rattle.hm_moves.specs.Planned.{loads_of}
use Rattle.hm_moves.specs.Opened.{opened_at}
use Rattle.hm_moves.proofs.moving.gather.Given as goal

abbrev pub invariant-loop-server : goal.invariant-loop-server
invariant-loop-server l = record {
  loads : l.loads.items ++ loads_of (opened_at l.places.places) (live_servers l.server-iterator) ≡ loads_of (opened_at l.places.places) (live_servers l.servers.servers);
  regions : map (λ v. map (λ r. r.now) v.items) l.regions.items ++ map (opened_at l.places.places) (live_servers l.server-iterator) ≡ map (opened_at l.places.places) (live_servers l.servers.servers);
}
