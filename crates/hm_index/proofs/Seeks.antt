-- What a search of the blocks says of the pairs.
use Rattle.std.proofs.Common.{ℕ, ◌+◌, ◌<◌, ◌≤◌, List, length, Ok, Err, arith}
use Rattle.std.specs.Cmp.{IsTotalOrder}
use Rattle.std.specs.declared.cmp.Ordering.{Ordering}
use Rattle.hm_index.specs.declared.block.Mark.{Mark}
use Rattle.hm_index.specs.Blocks.{picked, KeysRise, HasAt, HasGap, rank_at, laid, places, start, IsFound, IsAbsent}
use Rattle.hm_index.proofs.Laid.{ends}
use Rattle.hm_index.proofs.Marks.{length-places}
use Rattle.hm_index.proofs.Picked.{AreIn, searched_places}

module _ {K V : Type 0} (cmp : K → K → Ordering) (total : IsTotalOrder cmp) (pairs : List (K × V)) (blocks : List (List Mark)) (rising : KeysRise cmp (picked pairs (places (laid blocks)))) (within : AreIn pairs (places (laid blocks))) (key : K) (b at : ℕ) where
  pub found_has : IsFound (rank_at cmp pairs key) blocks b at → record { lt : start blocks b + at < length (places (laid blocks)); has : HasAt cmp (picked pairs (places (laid blocks))) key (start blocks b + at) }
  found_has found =
      let lt : start blocks b + at < length (places (laid blocks)) = omega (arith, length-places (laid blocks), found.within, ends blocks b found.block) in
      record { lt = lt; has = (searched_places cmp pairs (places (laid blocks)) within rising total key (Ok (start blocks b + at)) lt found.result).found }

  pub absent_gap : IsAbsent (rank_at cmp pairs key) blocks b at → record { le : start blocks b + at ≤ length (places (laid blocks)); gap : HasGap cmp (picked pairs (places (laid blocks))) key (start blocks b + at) }
  absent_gap absent =
      let le : start blocks b + at ≤ length (places (laid blocks)) = omega (arith, length-places (laid blocks), absent.spot.within, ends blocks b absent.spot.block) in
      record { le = le; gap = (searched_places cmp pairs (places (laid blocks)) within rising total key (Err (start blocks b + at)) le absent.result).absent }
