-- Some of the rows of an index, by their numbers, in an order of their own.
use Rattle.std.specs.Prelude.{◌≡◌, ℕ, ◌<◌, ◌≤◌, List, [], ◌∷◌, length, map, take, drop, slice_get, Option, Some, None, IfSome, Bool, true, false, ◌||◌}
use Rattle.std.specs.List.{insert, AllWithin}
use Rattle.std.specs.Ordering.{is_eq, is_le, is_lt}
use Rattle.std.specs.declared.cmp.Ordering.{Ordering}
use Rattle.std.specs.declared.cmp.Ordering.TheVariants.{Less, Equal, Greater}

-- how two keys compare where there may be none, which stands lowest
abbrev pub cmp_if : {K : Type 0} → (K → K → Ordering) → Option K → Option K → Ordering
cmp_if cmp None None = Equal
cmp_if cmp None (Some b) = Less
cmp_if cmp (Some a) None = Greater
cmp_if cmp (Some a) (Some b) = cmp a b

-- a key is below each of some
abbrev pub IsBelow : {K : Type 0} → (K → K → Ordering) → K → List K → Type 0
IsBelow cmp key [] = Unit {0}
IsBelow cmp key (other ∷ more) = (cmp key other ≡ Less) × IsBelow cmp key more

-- each key is below those after it
abbrev pub Rises : {K : Type 0} → (K → K → Ordering) → List K → Type 0
Rises cmp [] = Unit {0}
Rises cmp (key ∷ more) = IsBelow cmp key more × Rises cmp more

-- a key ties with one of some
abbrev pub has : {K : Type 0} → (K → K → Ordering) → List K → K → Bool
has cmp [] key = false
has cmp (other ∷ more) key = is_eq (cmp other key) || has cmp more key

-- the rows with some numbers stand in the order of their keys, and are those whose keys are wanted
pub record AreChosen {K : Type 0} (cmp : K → K → Ordering) (key_of : ℕ → Option K) (wanted : Option K → Bool) (numbers : List ℕ) : Type 0 where
  pub rises : Rises (cmp_if cmp) (map key_of numbers)
  pub are : (key : Option K) → has (cmp_if cmp) (map key_of numbers) key ≡ wanted key

-- each of some keys is below one
abbrev pub AreBelow : {K : Type 0} → (K → K → Ordering) → List K → K → Type 0
AreBelow cmp [] key = Unit {0}
AreBelow cmp (other ∷ more) key = (cmp other key ≡ Less) × AreBelow cmp more key

-- a key belongs at a place among those that rise
pub record HasGap {K : Type 0} (cmp : K → K → Ordering) (keys : List K) (key : K) (at : ℕ) : Type 0 where
  pub within : at ≤ length keys
  pub less : AreBelow cmp (take at keys) key
  pub greater : IsBelow cmp key (drop at keys)

-- a key ties with one that stands at a place
pub record HasAt {K : Type 0} (cmp : K → K → Ordering) (keys : List K) (key : K) (at : ℕ) : Type 0 where
  pub within : at < length keys
  pub ties : IfSome (slice_get keys at) (λ other. cmp other key ≡ Equal)

-- numbers with one more at a place, if there is one
abbrev pub with_spot : List ℕ → Option ℕ → ℕ → List ℕ
with_spot numbers None number = numbers
with_spot numbers (Some at) number = insert numbers at number

-- of some numbers the first are lower, and the last are higher
pub record Splits (rank : ℕ → Ordering) (numbers : List ℕ) (from to : ℕ) : Type 0 where
  pub low : AllWithin (λ n. is_lt (rank n) ≡ true) numbers 0 from
  pub not_low : AllWithin (λ n. is_lt (rank n) ≡ false) numbers from (length numbers)
  pub not_high : AllWithin (λ n. is_le (rank n) ≡ true) numbers 0 to
  pub high : AllWithin (λ n. is_le (rank n) ≡ false) numbers to (length numbers)
