-- What becomes of the pairs in order where one is written over, or comes after the others.
use Rattle.std.proofs.Common.{◌≡◌, ℕ, ◌+◌, ◌∙◌, List, [], ◌∷◌, ◌++◌, length, get_or, set, if◌then◌else◌, Some, None, sym, arith, length-append}
use Rattle.std.specs.Cmp.{IsTotalOrder}
use Rattle.std.specs.List.{insert}
use Rattle.std.specs.Ordering.{is_eq}
use Rattle.std.specs.declared.cmp.Ordering.{Ordering}
use Rattle.std.specs.declared.cmp.Ordering.TheVariants.{Equal}
use Rattle.std.proofs.Math.ListN.{length-set}
use Rattle.std.proofs.lemmas.List.Edits.{length-insert}
use Rattle.hm_index.specs.declared.block.Mark.{Mark}
use Rattle.hm_index.specs.Index.{IsRising, find, placed, changed}
use Rattle.hm_index.specs.Blocks.{picked, IsKept, rank_at, laid, places, start, IsFound, IsAbsent}
use Rattle.hm_index.proofs.Marks.{places-insert}
use Rattle.hm_index.proofs.Pairs.{absent, in_order, find-set, find-insert, rising-set, rising-insert, placed-set, placed-insert, with_value}
use Rattle.hm_index.proofs.Picked.{in-set, in-insert, picked-insert, read_is, written_over}
use Rattle.hm_index.proofs.Seeks.{found_has, absent_gap}

module _ {K V : Type 0} (cmp : K → K → Ordering) (total : IsTotalOrder cmp) (pairs : List (K × V)) (blocks : List (List Mark)) (kept : IsKept cmp pairs (places (laid blocks))) (key : K) (value : V) (b at : ℕ) where
  -- a pair put in the place of the one that was found, whose key ties with its own
  pub put_over : IsFound (rank_at cmp pairs key) blocks b at → (place : ℕ) → place ≡ get_or (places (laid blocks)) (start blocks b + at) place
      → record {
        tie : cmp ((get_or pairs place (key, value)).0) key ≡ Equal;
        kept : IsKept cmp (set pairs place (key, value)) (places (laid blocks));
        order : picked (set pairs place (key, value)) (places (laid blocks)) ≡ placed cmp (picked pairs (places (laid blocks))) key value;
        found : (other : K) → find cmp (picked (set pairs place (key, value)) (places (laid blocks))) other ≡ (if is_eq (cmp key other) then Some value else find cmp (picked pairs (places (laid blocks))) other);
        rising : IsRising cmp (picked (set pairs place (key, value)) (places (laid blocks)));
      }
  put_over found place there =
      let here = found_has cmp total pairs blocks kept.rises kept.within key b at found in
      let over = written_over cmp pairs (places (laid blocks)) kept.within kept.rises total (start blocks b + at) place (key, value) here.lt there in
      let read = read_is cmp pairs (places (laid blocks)) kept.within (start blocks b + at) place (key, value) here.lt there in
      let rises = rising-set cmp total (picked pairs (places (laid blocks))) key value (start blocks b + at) kept.rises here.has in
      record {
        tie = rw read (here.has.ties (key, value));
        kept = record {
          rises = rw over rises;
          within = in-set pairs (places (laid blocks)) place (key, value) kept.within;
          all = kept.all ∙ sym (length-set pairs place (key, value));
        };
        order = rw over (sym (placed-set cmp total (picked pairs (places (laid blocks))) key value (start blocks b + at) kept.rises here.has));
        found = rw over (find-set cmp total (picked pairs (places (laid blocks))) key value (start blocks b + at) kept.rises here.has);
        rising = rw over (in_order cmp total (set (picked pairs (places (laid blocks))) (start blocks b + at) (key, value)) rises);
      }

  -- another value for the pair that was found
  pub changed_over : IsFound (rank_at cmp pairs key) blocks b at → (place : ℕ) → place ≡ get_or (places (laid blocks)) (start blocks b + at) place → (pair : K × V) → pair ≡ get_or pairs place pair
      → record {
        kept : IsKept cmp (set pairs place (pair.0, value)) (places (laid blocks));
        order : picked (set pairs place (pair.0, value)) (places (laid blocks)) ≡ changed cmp (picked pairs (places (laid blocks))) key value;
        found : (other : K) → find cmp (picked (set pairs place (pair.0, value)) (places (laid blocks))) other ≡ (if is_eq (cmp key other) then Some value else find cmp (picked pairs (places (laid blocks))) other);
        rising : IsRising cmp (picked (set pairs place (pair.0, value)) (places (laid blocks)));
      }
  changed_over found place there pair is =
      let here = found_has cmp total pairs blocks kept.rises kept.within key b at found in
      let over = written_over cmp pairs (places (laid blocks)) kept.within kept.rises total (start blocks b + at) place (pair.0, value) here.lt there in
      let read = read_is cmp pairs (places (laid blocks)) kept.within (start blocks b + at) place pair here.lt there in
      let new = with_value cmp total (picked pairs (places (laid blocks))) key pair value (start blocks b + at) kept.rises here.has (sym read ∙ sym is) in
      record {
        kept = record {
          rises = rw over new.rises;
          within = in-set pairs (places (laid blocks)) place (pair.0, value) kept.within;
          all = kept.all ∙ sym (length-set pairs place (pair.0, value));
        };
        order = rw over (sym new.order);
        found = rw over new.found;
        rising = rw over (in_order cmp total (set (picked pairs (places (laid blocks))) (start blocks b + at) (pair.0, value)) new.rises);
      }

  -- a pair after the others, and a mark of it in the gap that was found
  pub put_in : IsAbsent (rank_at cmp pairs key) blocks b at → (hint : ℕ)
      → record {
        none : find cmp (picked pairs (places (laid blocks))) key ≡ None;
        kept : IsKept cmp (pairs ++ (key, value) ∷ []) (places (insert (laid blocks) (start blocks b + at) (record { hint = hint; place = length pairs })));
        order : picked (pairs ++ (key, value) ∷ []) (places (insert (laid blocks) (start blocks b + at) (record { hint = hint; place = length pairs }))) ≡ placed cmp (picked pairs (places (laid blocks))) key value;
        found : (other : K) → find cmp (picked (pairs ++ (key, value) ∷ []) (places (insert (laid blocks) (start blocks b + at) (record { hint = hint; place = length pairs })))) other ≡ (if is_eq (cmp key other) then Some value else find cmp (picked pairs (places (laid blocks))) other);
        rising : IsRising cmp (picked (pairs ++ (key, value) ∷ []) (places (insert (laid blocks) (start blocks b + at) (record { hint = hint; place = length pairs }))));
      }
  put_in gone hint =
      let here = absent_gap cmp total pairs blocks kept.rises kept.within key b at gone in
      let marked = places-insert (laid blocks) (start blocks b + at) (record { hint = hint; place = length pairs }) in
      let over = picked-insert pairs (key, value) (places (laid blocks)) (start blocks b + at) kept.within here.le in
      let rises = rising-insert cmp total (picked pairs (places (laid blocks))) key value (start blocks b + at) kept.rises here.gap in
      record {
        none = absent cmp total (picked pairs (places (laid blocks))) key (start blocks b + at) here.gap;
        kept = rw marked
            record {
              rises = rw over rises;
              within = in-insert pairs (places (laid blocks)) (start blocks b + at) (key, value) kept.within;
              all = omega (arith, kept.all, length-insert (places (laid blocks)) (start blocks b + at) (length pairs) here.le, length-append pairs ((key, value) ∷ []));
            };
        order = rw (marked, over) (sym (placed-insert cmp total (picked pairs (places (laid blocks))) key value (start blocks b + at) here.gap));
        found = rw (marked, over) (find-insert cmp total (picked pairs (places (laid blocks))) key value (start blocks b + at) here.gap);
        rising = rw (marked, over) (in_order cmp total (insert (picked pairs (places (laid blocks))) (start blocks b + at) (key, value)) rises);
      }
