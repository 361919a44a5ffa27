-- Ranges that stand apart, and one more that fits among them.
use Rattle.std.proofs.Common.{◌≡◌, ℕ, zero, suc, ◌<◌, ◌≤◌, List, [], ◌∷◌, length, get_or, Bool, true, false, not, ◌&&◌, ◌||◌, ◌==◌, if◌then◌else◌, refl, inl, inr, ◌⊎◌, ◌↔◌, arith, ap, sym, ◌∙◌}
use Rattle.std.specs.List.{AllByRecursion, insert}
use Rattle.std.specs.List.Sorted.{IsPartitionedBy, IsPartitionPoint}
use Rattle.std.specs.Ordering.{is_lt}
use Rattle.std.proofs.lemmas.Bool.{false≢true}
use Rattle.hm_names.specs.Order.{bytes_cmp}
use Rattle.hm_names.specs.Ranges.{ends_behind, holds, overlaps}
use Rattle.hm_names.specs.declared.range.KeyRange.{KeyRange}
use Rattle.hm_names.proofs.Orders.{below, upto, upto_below, upto_not, upto_weaker}
use Rattle.hm_names.proofs.Ranges.{both}
use Rattle.hm_model.specs.Locks.{IsIn}
use Rattle.hm_ranges.specs.Holes.{StartsRise}
use Rattle.hm_ranges.specs.Ranges.{FitsAmong, StandApart, TakesIn, placed}

-- the end of a range lies after each key up to one that it lies after
pub ends_lower : (range : KeyRange) (low key : List ℕ) → upto low key ≡ true → ends_behind range key ≡ true → ends_behind range low ≡ true
ends_lower range low key order ends = by (length range.end == 0) ends
  where
    by : (b : Bool) → (b || below key range.end) ≡ true → (b || below low range.end) ≡ true
    by true e = refl
    by false e = upto_below low key range.end order e

-- what doesn't end behind a key doesn't end behind a later one
pub ends_higher : (range : KeyRange) (low key : List ℕ) → upto low key ≡ true → ends_behind range low ≡ false → ends_behind range key ≡ false
ends_higher range low key order off = by (ends_behind range key) refl
  where
    by : (b : Bool) → ends_behind range key ≡ b → ends_behind range key ≡ false
    by true e = absurd (false≢true (sym off ∙ ends_lower range low key order e))
    by false e = e

pub holds_ends : (range : KeyRange) (key : List ℕ) → holds range key ≡ true → ends_behind range key ≡ true
holds_ends range key e = (both (upto range.start key) (ends_behind range key) e).1

-- a range that has its start and doesn't end behind another's starts no later
pub starts_no_later : (range : KeyRange) (key : List ℕ) → holds range range.start ≡ true → ends_behind range key ≡ false → below key range.start ≡ false
starts_no_later range key has off = by (below key range.start) refl
  where
    by : (b : Bool) → below key range.start ≡ b → below key range.start ≡ false
    by true e = absurd (false≢true (sym off ∙ ends_lower range key range.start (upto_weaker key range.start e) (holds_ends range range.start has)))
    by false e = e

pub not_below : (low key : List ℕ) → below key low ≡ false → upto low key ≡ true
not_below low key e = upto_not low key ∙ ap not e

left_off : (a b : Bool) → b ≡ true → (a && b) ≡ false → a ≡ false
left_off true true on e = e
left_off true false on e = cc
left_off false b on e = refl

both_off : (a b : Bool) → a ≡ false → ((a && b) ≡ false) × ((b && a) ≡ false)
both_off true b e = cc
both_off false true e = (refl, refl)
both_off false false e = (refl, refl)

-- of two that don't overlap the one that starts no later ends no later than the other starts
pub ends_before : (lower upper : KeyRange) → upto lower.start upper.start ≡ true → holds upper upper.start ≡ true → overlaps lower upper ≡ false → ends_behind lower upper.start ≡ false
ends_before lower upper order has apart =
    left_off (ends_behind lower upper.start) (ends_behind upper lower.start) (ends_lower upper lower.start upper.start order (holds_ends upper upper.start has)) apart

pub apart_both : (lower upper : KeyRange) → ends_behind lower upper.start ≡ false → (overlaps lower upper ≡ false) × (overlaps upper lower ≡ false)
apart_both lower upper off = both_off (ends_behind lower upper.start) (ends_behind upper lower.start) off

-- the other way round
swapped : (a b : Bool) → (a && b) ≡ false → (b && a) ≡ false
swapped true true e = cc
swapped true false e = refl
swapped false true e = refl
swapped false false e = refl

pub overlaps_swapped : (a b : KeyRange) → overlaps a b ≡ false → overlaps b a ≡ false
overlaps_swapped a b e = swapped (ends_behind a b.start) (ends_behind b a.start) e

-- ranges that stand apart stand in the order of their starts
pub all_later : (range : KeyRange) (more : List KeyRange) → holds range range.start ≡ true → AllByRecursion (λ other. ends_behind range other.start ≡ false) more
    → AllByRecursion (λ other. is_lt (bytes_cmp other.start range.start) ≡ false) more
all_later range [] has off = tt
all_later range (other ∷ more) has off = (starts_no_later range other.start has off.0, all_later range more has off.1)

pub apart_rise : (ranges : List KeyRange) → StandApart ranges → StartsRise ranges
apart_rise [] apart = tt
apart_rise (range ∷ more) apart = (all_later range more apart.0 apart.1, apart_rise more apart.2)

-- what ends no later than the first of some starts ends no later than the others start
pub all_further : (range first : KeyRange) (more : List KeyRange) → ends_behind range first.start ≡ false → AllByRecursion (λ other. is_lt (bytes_cmp other.start first.start) ≡ false) more
    → AllByRecursion (λ other. ends_behind range other.start ≡ false) more
all_further range first [] off rise = tt
all_further range first (other ∷ more) off rise =
    (ends_higher range first.start other.start (not_below first.start other.start rise.0) off, all_further range first more off rise.1)

all_placed : (range lower : KeyRange) (more : List KeyRange) → ends_behind lower range.start ≡ false → AllByRecursion (λ other. ends_behind lower other.start ≡ false) more
    → AllByRecursion (λ other. ends_behind lower other.start ≡ false) (placed more range)
all_placed range lower [] off all = (off, tt)
all_placed range lower (first ∷ more) off all = by (all_placed range lower more off all.1) (below first.start range.start)
  where
    by : AllByRecursion (λ other. ends_behind lower other.start ≡ false) (placed more range) → (b : Bool)
        → AllByRecursion (λ other. ends_behind lower other.start ≡ false) (if b then first ∷ placed more range else (range ∷ first ∷ more))
    by rest true = (all.0, rest)
    by rest false = (off, all)

fits_rest : (first : KeyRange) (more : List KeyRange) (range : KeyRange) → FitsAmong (first ∷ more) range → FitsAmong more range
fits_rest first more range fits = (fits.0, λ own there. fits.1 own (inr there))

-- with one more that fits they still stand apart
pub placed_apart : (ranges : List KeyRange) (range : KeyRange) → StandApart ranges → FitsAmong ranges range → StandApart (placed ranges range)
placed_apart [] range apart fits = (fits.0, tt, tt)
placed_apart (first ∷ more) range apart fits = by (placed_apart more range apart.2 (fits_rest first more range fits)) (below first.start range.start) refl
  where
    own : (overlaps range first ≡ false) × (overlaps first range ≡ false)
    own = fits.1 first (inl refl)

    by : StandApart (placed more range) → (b : Bool) → below first.start range.start ≡ b → StandApart (if b then first ∷ placed more range else (range ∷ first ∷ more))
    by rest true e =
        let off : ends_behind first range.start ≡ false = ends_before first range (upto_weaker first.start range.start e) fits.0 own.1 in
        (apart.0, all_placed range first more off apart.1, rest)
    by rest false e =
        let off : ends_behind range first.start ≡ false = ends_before range first (not_below range.start first.start e) apart.0 own.0 in
        (fits.0, (off, all_further range first more off (all_later first more apart.0 apart.1)), apart)

-- the ranges and one more are just these
pub in_placed : (range : KeyRange) (ranges : List KeyRange) → TakesIn range ranges (placed ranges range)
in_placed range [] own = (λ there. there, λ either. either)
in_placed range (first ∷ more) own = by (in_placed range more own) (below first.start range.start)
  where
    by : (IsIn own (placed more range) ↔ ((own ≡ range) ⊎ IsIn own more)) → (b : Bool)
        → IsIn own (if b then first ∷ placed more range else (range ∷ first ∷ more)) ↔ ((own ≡ range) ⊎ IsIn own (first ∷ more))
    by rest true = (
      λ there. elim there [ inl same ↦ inr (inl same) | inr further ↦ elim (rest.0 further) [ inl is ↦ inl is | inr old ↦ inr (inr old) ] ],
      λ either. elim either [ inl is ↦ inr (rest.1 (inl is)) | inr old ↦ elim old [ inl same ↦ inl same | inr further ↦ inr (rest.1 (inr further)) ] ],
    )
    by rest false = (λ there. there, λ either. either)

-- the ranges that start before a key come first
pub lower_first : (key : List ℕ) (ranges : List KeyRange) → StartsRise ranges → IsPartitionedBy (λ own. is_lt (bytes_cmp own.start key)) ranges
lower_first key [] rise i j d le lt on = absurd (omega arith)
lower_first key (first ∷ more) rise zero zero d le lt on = on
lower_first key (first ∷ more) rise zero (suc j) d le lt on = from more j rise.0 (omega arith) on
  where
    from : (more : List KeyRange) (j : ℕ) → AllByRecursion (λ other. is_lt (bytes_cmp other.start first.start) ≡ false) more → j < length more → below (get_or more j d).start key ≡ true → below first.start key ≡ true
    from [] j order within low = absurd (omega arith)
    from (other ∷ more) zero order within low = upto_below first.start other.start key (not_below first.start other.start order.0) low
    from (other ∷ more) (suc j) order within low = from more j order.1 (omega arith) low
lower_first key (first ∷ more) rise (suc i) zero d le lt on = absurd (omega arith)
lower_first key (first ∷ more) rise (suc i) (suc j) d le lt on = lower_first key more rise.1 i j d (omega arith) (omega arith) on

-- where so many start before a key
abbrev pub IsSpot : List ℕ → List KeyRange → ℕ → Type 0
IsSpot key ranges at = IsPartitionPoint (λ own. is_lt (bytes_cmp own.start key) ≡ true) (λ own. is_lt (bytes_cmp own.start key) ≡ false) ranges at

pub first_low : (key : List ℕ) (first : KeyRange) (more : List KeyRange) (at : ℕ) → IsSpot key (first ∷ more) (suc at) → below first.start key ≡ true
first_low key first more at spot = spot.0 0 first (omega arith) (omega arith)

pub first_high : (key : List ℕ) (first : KeyRange) (more : List KeyRange) → IsSpot key (first ∷ more) 0 → below first.start key ≡ false
first_high key first more spot = spot.1 0 first (omega arith) (omega arith)

pub spot_rest : (key : List ℕ) (first : KeyRange) (more : List KeyRange) (at : ℕ) → IsSpot key (first ∷ more) (suc at) → IsSpot key more at
spot_rest key first more at spot = (λ k d le lt. spot.0 (suc k) d (omega arith) (omega arith), λ k d le lt. spot.1 (suc k) d (omega arith) (omega arith))

-- put in there, a range is at its place
pub inserted_placed : (range : KeyRange) (ranges : List KeyRange) (at : ℕ) → at ≤ length ranges → IsSpot range.start ranges at → insert ranges at range ≡ placed ranges range
inserted_placed range [] zero within spot = refl
inserted_placed range [] (suc at) within spot = absurd (omega arith)
inserted_placed range (first ∷ more) zero within spot = rw (first_high range.start first more spot) refl
inserted_placed range (first ∷ more) (suc at) within spot =
    rw (first_low range.start first more at spot) (ap (λ (l : List KeyRange). first ∷ l) (inserted_placed range more at (omega arith) (spot_rest range.start first more at spot)))
