-- How an index is kept: its pairs as they came, and marks of them in the order of their keys, in blocks.
use Rattle.std.specs.Prelude.{◌≡◌, ℕ, zero, suc, ◌+◌, ◌<◌, ◌≤◌, ◌⊎◌, List, [], ◌∷◌, ◌++◌, length, Option, Some, None, Ok, Err, slice_get, slice_index_or, take, drop, map}
use Rattle.std.specs.List.{All, filter_map}
use Rattle.std.specs.List.Sorted.{IsBinarySearchResult, IsNonDecreasingBy}
use Rattle.std.specs.Ordering.{ordering_index, ordering_then, nat_cmp}
use Rattle.std.specs.declared.cmp.Ordering.{Ordering}
use Rattle.std.specs.declared.cmp.Ordering.TheVariants.{Less, Equal, Greater}
use Rattle.hm_index.specs.declared.block.Mark.{Mark}

-- the items at these places, one after another
abbrev pub picked : {X : Type 0} → List X → List ℕ → List X
picked items places = filter_map (slice_get items) places

-- how the key at a place compares with this one
abbrev pub compared : {K V : Type 0} → (K → K → Ordering) → List (K × V) → ℕ → K × V → K → Ordering
compared cmp pairs i d key = let pair = slice_index_or pairs i d in cmp pair.0 key

-- each key is below those after it
abbrev pub KeysRise : {K V : Type 0} → (K → K → Ordering) → List (K × V) → Type 0
KeysRise {K} {V} cmp pairs =
    (i j : ℕ) (d : K × V) → i < j → j < length pairs → compared cmp pairs i d (let pair = slice_index_or pairs j d in pair.0) ≡ Less

-- the places are those of all pairs, in the order of their keys
pub record IsKept {K V : Type 0} (cmp : K → K → Ordering) (pairs : List (K × V)) (places : List ℕ) : Type 0 where
  pub rises : KeysRise cmp (picked pairs places)
  pub within : All (λ place. place < length pairs) places
  pub all : length places ≡ length pairs

-- the key at a place ties with this one
pub record HasAt {K V : Type 0} (cmp : K → K → Ordering) (pairs : List (K × V)) (key : K) (i : ℕ) : Type 0 where
  pub within : i < length pairs
  pub ties : (d : K × V) → compared cmp pairs i d key ≡ Equal

-- the key would go to a place: lesser keys before it, and greater ones from it on
pub record HasGap {K V : Type 0} (cmp : K → K → Ordering) (pairs : List (K × V)) (key : K) (i : ℕ) : Type 0 where
  pub within : i ≤ length pairs
  pub less : (j : ℕ) (d : K × V) → j < i → compared cmp pairs j d key ≡ Less
  pub greater : (j : ℕ) (d : K × V) → i ≤ j → j < length pairs → compared cmp pairs j d key ≡ Greater

-- the places that are marked
abbrev pub places : List Mark → List ℕ
places marks = map (λ (mark : Mark). mark.place) marks

-- the hint of the key at a place, if there is one
abbrev pub hint_if : {K V : Type 0} → (K → ℕ) → Option (K × V) → Option ℕ
hint_if hint_of None = None
hint_if hint_of (Some pair) = Some (hint_of pair.0)

-- each mark has the hint of the key at its place
abbrev pub AreHinted : {K V : Type 0} → (K → ℕ) → List (K × V) → List Mark → Type 0
AreHinted hint_of pairs marks = All (λ (mark : Mark). hint_if hint_of (slice_get pairs mark.place) ≡ Some mark.hint) marks

-- an order's blocks, for how many marks more there is room, and how much memory there is
pub record OrderView : Type 0 where
  pub blocks : List (List Mark)
  pub spare : ℕ
  pub room : ℕ

-- the blocks one after another
abbrev pub laid : {X : Type 0} → List (List X) → List X
laid [] = []
laid (block ∷ more) = block ++ laid more

-- where in the order a block begins
abbrev pub start : {X : Type 0} → List (List X) → ℕ → ℕ
start [] b = 0
start (block ∷ more) zero = 0
start (block ∷ more) (suc b) = length block + start more b

abbrev pub block_at : {X : Type 0} → List (List X) → ℕ → List X
block_at blocks b = slice_index_or blocks b []

-- the blocks with one of them split
abbrev pub split_at : {X : Type 0} → List (List X) → ℕ → ℕ → List (List X)
split_at [] b half = []
split_at (block ∷ more) zero half = take half block ∷ drop half block ∷ more
split_at (block ∷ more) (suc b) half = block ∷ split_at more b half

-- there is a block, and each but the first has a mark
pub record IsPacked {X : Type 0} (blocks : List (List X)) : Type 0 where
  pub some : 0 < length blocks
  pub filled : (b : ℕ) → 0 < b → b < length blocks → 0 < length (block_at blocks b)

-- a mark may be put in there
pub record IsSpot {X : Type 0} (blocks : List (List X)) (b at : ℕ) : Type 0 where
  pub block : b < length blocks
  pub within : at ≤ length (block_at blocks b)

-- how the key of a pair compares with this one, and Less for no pair
abbrev pub rank : {K V : Type 0} → (K → K → Ordering) → Option (K × V) → K → Ordering
rank cmp None key = Less
rank cmp (Some pair) key = cmp pair.0 key

abbrev pub rank_at : {K V : Type 0} → (K → K → Ordering) → List (K × V) → K → ℕ → Ordering
rank_at cmp pairs key place = rank cmp (slice_get pairs place) key

-- how a mark compares with a key of this hint: by its own hint, and where the two are equal as the key at its place
abbrev pub mark_rank : (ℕ → Ordering) → ℕ → Mark → Ordering
mark_rank ranks hint mark = ordering_then (nat_cmp mark.hint hint) (ranks mark.place)

-- the first mark of a block; for a block with no mark, one that stands for none
abbrev pub first_mark : List Mark → Mark
first_mark [] = record { hint = 0; place = 0 }
first_mark (mark ∷ more) = mark

-- the rank of a block's first mark, and Less for none
abbrev pub lead : {X : Type 0} → (X → Ordering) → List X → Ordering
lead ranks [] = Less
lead ranks (mark ∷ more) = ranks mark

-- a block that begins below the key, unless it is the first, while the next, if there is one, begins above it
pub record IsBetween {X : Type 0} (ranks : X → Ordering) (blocks : List (List X)) (b : ℕ) : Type 0 where
  pub below : 0 < b → lead ranks (block_at blocks b) ≡ Less
  pub above : b + 1 < length blocks → lead ranks (block_at blocks (b + 1)) ≡ Greater

-- where the ranks of the marks don't fall, a block that begins with the key, or one between whose begin and the next one's it belongs
abbrev pub IsBlockFor : {X : Type 0} → (X → Ordering) → List (List X) → ℕ → Type 0
IsBlockFor ranks blocks b = IsNonDecreasingBy (λ mark. ordering_index (ranks mark)) (laid blocks) → (lead ranks (block_at blocks b) ≡ Equal) ⊎ IsBetween ranks blocks b

-- a search found a place
pub record IsFound (ranks : ℕ → Ordering) (blocks : List (List Mark)) (b at : ℕ) : Type 0 where
  pub block : b < length blocks
  pub within : at < length (block_at blocks b)
  pub limit : at < 128
  pub result : IsBinarySearchResult ranks (places (laid blocks)) (Ok (start blocks b + at))

-- a search found where the key belongs
pub record IsAbsent (ranks : ℕ → Ordering) (blocks : List (List Mark)) (b at : ℕ) : Type 0 where
  pub spot : IsSpot blocks b at
  pub result : IsBinarySearchResult ranks (places (laid blocks)) (Err (start blocks b + at))
