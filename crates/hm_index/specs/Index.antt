-- An index as callers see it: pairs of a key and a value, in the order of their keys.
use Rattle.std.specs.Prelude.{◌≡◌, ℕ, ◌<◌, List, [], ◌∷◌, Option, Some, None, if◌then◌else◌, ◌==◌, slice_get}
use Rattle.std.specs.Ordering.{is_eq}
use Rattle.std.specs.declared.cmp.Ordering.{Ordering}
use Rattle.std.specs.declared.cmp.Ordering.TheVariants.{Less, Equal, Greater}

-- the pairs in the order of their keys and in the order in which they came, for how many more there is room, and how much
-- memory there is
pub record IndexView (K V : Type 0) : Type 0 where
  pub pairs : List (K × V)
  pub came : List (K × V)
  pub spare : ℕ
  pub room : ℕ

-- each key is below those after it
abbrev pub IsRising : {K V : Type 0} → (K → K → Ordering) → List (K × V) → Type 0
IsRising {K} {V} cmp pairs = (i j : ℕ) (a b : K × V) → i < j → slice_get pairs i ≡ Some a → slice_get pairs j ≡ Some b → cmp a.0 b.0 ≡ Less

-- the value of the first pair whose key ties with this one
abbrev pub find : {K V : Type 0} → (K → K → Ordering) → List (K × V) → K → Option V
find cmp [] key = None
find cmp ((here, value) ∷ more) key = if is_eq (cmp here key) then Some value else find cmp more key

-- a pair among others, by how the first one's key compares with its own; rest is the others with the pair among them
abbrev pub by_order : {K V : Type 0} → Ordering → K × V → List (K × V) → List (K × V) → K → V → List (K × V)
by_order Less pair more rest key value = pair ∷ rest
by_order Equal pair more rest key value = (key, value) ∷ more
by_order Greater pair more rest key value = (key, value) ∷ pair ∷ more

-- the pairs with this one at its place in the order, or for the one whose key ties with it
abbrev pub placed : {K V : Type 0} → (K → K → Ordering) → List (K × V) → K → V → List (K × V)
placed cmp [] key value = (key, value) ∷ []
placed cmp (pair ∷ more) key value = by_order (cmp pair.0 key) pair more (placed cmp more key value) key value

-- the pairs from the first on whose key isn't below this one
abbrev pub or_more : {X : Type 0} → Ordering → X → List X → List X → List X
or_more Less pair more rest = rest
or_more Equal pair more rest = pair ∷ more
or_more Greater pair more rest = pair ∷ more

abbrev pub pairs_from : {K V : Type 0} → (K → K → Ordering) → List (K × V) → K → List (K × V)
pairs_from cmp [] key = []
pairs_from cmp (pair ∷ more) key = or_more (cmp pair.0 key) pair more (pairs_from cmp more key)

-- the pairs with another value for the first one whose key ties with this one
abbrev pub changed : {K V : Type 0} → (K → K → Ordering) → List (K × V) → K → V → List (K × V)
changed cmp [] key value = []
changed cmp ((here, old) ∷ more) key value = if is_eq (cmp here key) then (here, value) ∷ more else ((here, old) ∷ changed cmp more key value)

-- the key of a pair, if there is one
abbrev pub key_if : {K V : Type 0} → Option (K × V) → Option K
key_if None = None
key_if (Some pair) = Some pair.0

-- an item stands at a number, and at each other number what stood there
abbrev pub PutAt : {X : Type 0} → ℕ → X → List X → List X → Type 0
PutAt number item before after = (n : ℕ) → slice_get after n ≡ (if n == number then Some item else slice_get before n)

-- an item stands at a number, and nothing else changed
pub record HasPut {X : Type 0} (item : X) (before after : List X) : Type 0 where
  pub number : ℕ
  pub put : PutAt number item before after
