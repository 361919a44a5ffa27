use Rattle.std.proofs.Common.{◌≡◌, max}
use Rattle.hm_names.specs.Order.{server_cmp}
use Rattle.hm_index.specs.Index.{IsRising, pairs_from}
use Rattle.hm_model.specs.Standings.{greatest_start}
use Rattle.hm_places.proofs.Addresses.{AreFrom}
use Rattle.hm_places.proofs.up.greatest_from.Given as goal

abbrev pub invariant-loop-other : goal.invariant-loop-other
invariant-loop-other l = record {
  total : greatest_start (pairs_from server_cmp l.rows.pairs l.server) l.server ≡ max l.greatest (greatest_start l.other-iterator l.server);
  rising : IsRising server_cmp l.other-iterator;
  from : AreFrom l.server l.other-iterator;
}
