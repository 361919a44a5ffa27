-- The two ranges beside a place decide whether one fits there.
use Rattle.std.proofs.Common.{◌≡◌, ℕ, zero, suc, ◌-◌, ◌≤◌, List, [], ◌∷◌, length, take, drop, slice_get, Option, Some, None, Bool, true, false, not, refl, inl, inr, ◌⊎◌, arith, ap, sym, ◌∙◌}
use Rattle.std.specs.List.{AllByRecursion}
use Rattle.hm_names.specs.Ranges.{ends_behind, holds, overlaps}
use Rattle.hm_names.specs.declared.range.KeyRange.{KeyRange}
use Rattle.hm_names.proofs.Orders.{below, upto_weaker}
use Rattle.hm_model.specs.Locks.{IsIn}
use Rattle.hm_ranges.specs.Ranges.{FitsAmong, StandApart, is_apart_if}
use Rattle.hm_ranges.proofs.Apart.{IsSpot, all_further, all_later, apart_both, ends_before, ends_higher, first_high, first_low, not_below, overlaps_swapped, spot_rest}

all_in : (range : KeyRange) (ranges : List KeyRange) → AllByRecursion (λ other. ends_behind range other.start ≡ false) ranges → (own : KeyRange) → IsIn own ranges → ends_behind range own.start ≡ false
all_in range [] all own there = absurd there
all_in range (first ∷ more) all own (inl same) = ap (λ (r : KeyRange). ends_behind range r.start) same ∙ all.0
all_in range (first ∷ more) all own (inr further) = all_in range more all.1 own further

last_more : (first second : KeyRange) (more : List KeyRange) → slice_get (first ∷ second ∷ more) (length (first ∷ second ∷ more) - 1) ≡ slice_get (second ∷ more) (length (second ∷ more) - 1)
last_more first second more =
    let up : length (first ∷ second ∷ more) - 1 ≡ suc (length more) = omega arith in
    let here : length (second ∷ more) - 1 ≡ length more = omega arith in
    ap (slice_get (first ∷ second ∷ more)) up ∙ ap (slice_get (second ∷ more)) (sym here)

off : (b : Bool) → not b ≡ true → b ≡ false
off true e = cc
off false e = refl

-- the last that starts before a range, if there is one
abbrev pub lower_of : ℕ → List KeyRange → Option KeyRange
lower_of at ranges = slice_get (take at ranges) (length (take at ranges) - 1)

-- and the first that doesn't
abbrev pub upper_of : ℕ → List KeyRange → Option KeyRange
upper_of at ranges = slice_get (drop at ranges) 0

-- of each range and one that overlaps neither neighbour, one ends no later than the other starts
each_apart : (range : KeyRange) (ranges : List KeyRange) (at : ℕ) → at ≤ length ranges → StandApart ranges → holds range range.start ≡ true → IsSpot range.start ranges at
    → is_apart_if (lower_of at ranges) range ≡ true → is_apart_if (upper_of at ranges) range ≡ true
    → (own : KeyRange) → IsIn own ranges → (ends_behind own range.start ≡ false) ⊎ (ends_behind range own.start ≡ false)
each_apart range [] at within apart has spot lower upper own there = absurd there
each_apart range (first ∷ more) zero within apart has spot lower upper own there =
    let before : ends_behind range first.start ≡ false = ends_before range first (not_below range.start first.start (first_high range.start first more spot)) apart.0 (overlaps_swapped first range (off (overlaps first range) upper)) in
    inr (all_in range (first ∷ more) (before, all_further range first more before (all_later first more apart.0 apart.1)) own there)
each_apart range (first ∷ []) (suc zero) within apart has spot lower upper own (inl same) =
    inl (ap (λ (r : KeyRange). ends_behind r range.start) same ∙ ends_before first range (upto_weaker first.start range.start (first_low range.start first [] zero spot)) has (off (overlaps first range) lower))
each_apart range (first ∷ []) (suc zero) within apart has spot lower upper own (inr there) = absurd there
each_apart range (first ∷ []) (suc (suc at)) within apart has spot lower upper own there = absurd (omega (arith, within))
each_apart range (first ∷ second ∷ more) (suc zero) within apart has spot lower upper own (inl same) =
    inl (ap (λ (r : KeyRange). ends_behind r range.start) same ∙ ends_before first range (upto_weaker first.start range.start (first_low range.start first (second ∷ more) zero spot)) has (off (overlaps first range) lower))
each_apart range (first ∷ second ∷ more) (suc zero) within apart has spot lower upper own (inr there) =
    each_apart range (second ∷ more) zero (omega arith) apart.2 has (spot_rest range.start first (second ∷ more) zero spot) refl upper own there
each_apart range (first ∷ second ∷ more) (suc (suc at)) within apart has spot lower upper own (inl same) =
    let low : below second.start range.start ≡ true = first_low range.start second more at (spot_rest range.start first (second ∷ more) (suc at) spot) in
    inl (ap (λ (r : KeyRange). ends_behind r range.start) same ∙ ends_higher first second.start range.start (upto_weaker second.start range.start low) (apart.1).0)
each_apart range (first ∷ second ∷ more) (suc (suc at)) within apart has spot lower upper own (inr there) =
    each_apart range (second ∷ more) (suc at) (omega (arith, within)) apart.2 has (spot_rest range.start first (second ∷ more) (suc at) spot)
    (ap (λ (o : Option KeyRange). is_apart_if o range) (sym (last_more first second (take at more))) ∙ lower) upper own there

-- a range that has its start fits among some exactly if it overlaps neither neighbour
pub fits_beside : (range : KeyRange) (ranges : List KeyRange) (at : ℕ) → at ≤ length ranges → StandApart ranges → holds range range.start ≡ true → IsSpot range.start ranges at
    → is_apart_if (lower_of at ranges) range ≡ true → is_apart_if (upper_of at ranges) range ≡ true → FitsAmong ranges range
fits_beside range ranges at within apart has spot lower upper = (has, each)
  where
    each : (own : KeyRange) → IsIn own ranges → (overlaps range own ≡ false) × (overlaps own range ≡ false)
    each own there = elim (each_apart range ranges at within apart has spot lower upper own there) [
      | inl before ↦ (let both_ways = apart_both own range before in (both_ways.1, both_ways.0))
      | inr behind ↦ apart_both range own behind
    ]

in_got : (ranges : List KeyRange) (k : ℕ) (own : KeyRange) → slice_get ranges k ≡ Some own → IsIn own ranges
in_got [] k own is = absurd (none is)
  where
    none : None ≡ Some own → ⊥
    none e = cc
in_got (first ∷ more) zero own is = inl (same first own is)
  where
    same : (a b : KeyRange) → Some a ≡ Some b → b ≡ a
    same a b e = cc
in_got (first ∷ more) (suc k) own is = inr (in_got more k own is)

in_take : (at : ℕ) (ranges : List KeyRange) (own : KeyRange) → IsIn own (take at ranges) → IsIn own ranges
in_take zero ranges own there = absurd there
in_take (suc at) [] own there = absurd there
in_take (suc at) (first ∷ more) own (inl same) = inl same
in_take (suc at) (first ∷ more) own (inr there) = inr (in_take at more own there)

in_drop : (at : ℕ) (ranges : List KeyRange) (own : KeyRange) → IsIn own (drop at ranges) → IsIn own ranges
in_drop zero ranges own there = there
in_drop (suc at) [] own there = absurd there
in_drop (suc at) (first ∷ more) own there = inr (in_drop at more own there)

-- a range that fits overlaps no neighbour
apart_if : (range : KeyRange) (neighbour : Option KeyRange) → ((own : KeyRange) → neighbour ≡ Some own → overlaps own range ≡ false) → is_apart_if neighbour range ≡ true
apart_if range None each = refl
apart_if range (Some own) each = ap not (each own refl)

pub lower_apart : (range : KeyRange) (ranges : List KeyRange) (at : ℕ) → FitsAmong ranges range → is_apart_if (lower_of at ranges) range ≡ true
lower_apart range ranges at fits =
    apart_if range (lower_of at ranges) (λ own is. (fits.1 own (in_take at ranges own (in_got (take at ranges) (length (take at ranges) - 1) own is))).1)

pub upper_apart : (range : KeyRange) (ranges : List KeyRange) (at : ℕ) → FitsAmong ranges range → is_apart_if (upper_of at ranges) range ≡ true
upper_apart range ranges at fits = apart_if range (upper_of at ranges) (λ own is. (fits.1 own (in_drop at ranges own (in_got (drop at ranges) 0 own is))).1)
