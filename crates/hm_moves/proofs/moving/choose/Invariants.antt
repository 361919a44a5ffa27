use Rattle.std.proofs.Common.{◌≡◌, ◌++◌, List, [], length, map, vec_len}
use Rattle.std.specs.Vec.Iter.{into_iter_items, into_iter_len}
use Rattle.hm_names.specs.Region.{Region}
use Rattle.hm_names.specs.Server.{Server}
use Rattle.hm_balance.specs.Loads.{given}
use Rattle.hm_moves.specs.Planned.{chosen}
use Rattle.hm_moves.specs.Opened.{AreOpened}
use Rattle.hm_moves.proofs.Choosing.{names}
use Rattle.hm_moves.proofs.moving.choose.Given as goal

abbrev pub invariant-loop-from : goal.invariant-loop-from
invariant-loop-from l = record {
  counts : l.next.items ≡ map (λ server. given server l.yielded) (names l.held.loads.items);
  parts : l.yielded ++ into_iter_items l.from-iterator ≡ l.fn.shifts.items;
  long : into_iter_len l.from-iterator ≡ length (into_iter_items l.from-iterator);
  many : vec_len l.next ≡ vec_len l.held.loads;
  moves : (opened : Server → List Region) (servers : List Server) → AreOpened opened servers l.held.loads.items (map (λ v. map (λ r. r.now) v.items) l.held.regions.items)
      → l.moves.items ++ chosen opened l.yielded (into_iter_items l.from-iterator) ≡ chosen opened [] l.fn.shifts.items;
}
