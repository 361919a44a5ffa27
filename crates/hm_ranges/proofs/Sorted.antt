-- Ranges in the order of their starts, and the least key that they leave out in any order of theirs.
use Rattle.std.proofs.Common.{◌≡◌, ℕ, zero, suc, ◌≤◌, ◌<◌, List, [], ◌∷◌, map, length, get_or, Option, Some, None, Bool, false, arith}
use Rattle.std.specs.Cmp.{IsStrictWeakOrder}
use Rattle.std.specs.List.{AllByRecursion}
use Rattle.std.specs.List.Sorted.{IsPermutation}
use Rattle.std.specs.Ordering.{is_lt}
use Rattle.std.proofs.lemmas.Cmp.{nat_list_cmp_total}
use Rattle.std.proofs.lemmas.List.Sorted.{ranks_by}
use Rattle.hm_names.specs.Order.{bytes_cmp}
use Rattle.hm_names.specs.declared.range.KeyRange.{KeyRange}
use Rattle.hm_model.specs.Locks.{IsIn}
use Rattle.hm_ranges.specs.Holes.{IsLeast, IsOut, StartsRise}
use Rattle.hm_ranges.proofs.Lists.{in_moved, in_unmoved}

-- the same ranges in another order have the same least key
out_same : (xs ys : List KeyRange) (key : List ℕ) → ((range : KeyRange) → IsIn range ys → IsIn range xs) → IsOut xs key → IsOut ys key
out_same xs ys key into out range there = out range (into range there)

least_same : (xs ys : List KeyRange) → ((range : KeyRange) → IsIn range xs → IsIn range ys) → ((range : KeyRange) → IsIn range ys → IsIn range xs) → (least : Option (List ℕ)) → IsLeast xs least → IsLeast ys least
least_same xs ys into back None none = λ key out. none key (out_same ys xs key into out)
least_same xs ys into back (Some key) is = (out_same xs ys key back is.0, λ lesser less out. is.1 lesser less (out_same ys xs lesser into out))

-- the same of ranges that were sorted
pub least_sorted : (ranges sorted : List KeyRange) → IsPermutation ranges sorted → (least : Option (List ℕ)) → IsLeast sorted least → IsLeast ranges least
least_sorted ranges sorted moved least is = least_same sorted ranges (in_unmoved ranges sorted moved) (in_moved ranges sorted moved) least is

-- the order of ranges by where they start
abbrev pub starts_first : {A : Type 0} → (A → KeyRange) → A → A → Bool
starts_first view a b = is_lt (bytes_cmp (view a).start (view b).start)

pub starts_weak : {A : Type 0} (view : A → KeyRange) → IsStrictWeakOrder (starts_first view)
starts_weak view = ranks_by nat_list_cmp_total (λ a. (view a).start)

none_earlier : {A : Type 0} (view : A → KeyRange) (one : A) (list : List A) → ((j : ℕ) (d : A) → j < length list → starts_first view (get_or list j d) one ≡ false)
    → AllByRecursion (λ other. is_lt (bytes_cmp other.start (view one).start) ≡ false) (map view list)
none_earlier view one [] each = tt
none_earlier view one (other ∷ more) each = (each zero other (omega arith), none_earlier view one more (λ j d within. each (suc j) d (omega (arith, within))))

-- from what a sort says
pub starts_rise : {A : Type 0} (view : A → KeyRange) (list : List A) → ((i j : ℕ) (d : A) → i ≤ j → j < length list → starts_first view (get_or list j d) (get_or list i d) ≡ false) → StartsRise (map view list)
starts_rise view [] far = tt
starts_rise view (one ∷ more) far =
    (none_earlier view one more (λ j d within. far zero (suc j) d (omega arith) (omega (arith, within))), starts_rise view more (λ i j d le within. far (suc i) (suc j) d (omega (arith, le)) (omega (arith, within))))
