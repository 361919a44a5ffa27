-- Marks: their places, the marks that blocks begin with, and hints.
use Rattle.std.proofs.Common.{◌≡◌, ℕ, zero, suc, ◌+◌, ◌-◌, ◌<◌, ◌≤◌, ◌==◌, if◌then◌else◌, false, List, [], ◌∷◌, ◌++◌, length, map, get_or, set, take, drop, Option, Some, None, Result, slice_get, Ok, Err, refl, inl, inr, arith, ap, sym, ◌∙◌}
use Rattle.std.specs.Cmp.{IsTotalOrder}
use Rattle.std.specs.List.{All, insert}
use Rattle.std.specs.List.Sorted.{IsSearchInRange, IsBinarySearchResult, IsNonDecreasingBy}
use Rattle.std.specs.Ordering.{nat_cmp, ordering_index, ordering_then}
use Rattle.std.specs.declared.cmp.Ordering.{Ordering}
use Rattle.std.specs.declared.cmp.Ordering.TheVariants.{Less, Equal, Greater}
use Rattle.std.proofs.lemmas.Bool.{cases_lt, cases_eq}
use Rattle.std.proofs.lemmas.Bool.Decides.{nat_tests}
use Rattle.std.proofs.lemmas.Grind.{get_or_after_one}
use Rattle.std.proofs.lemmas.List.{map-append, length-map, get_or-map, length-drop}
use Rattle.std.proofs.lemmas.List.Elements.{All-append, All-take, All-drop, All-cons}
use Rattle.std.proofs.lemmas.Option.{slice_get-get_or}
use Rattle.hm_index.specs.declared.block.Mark.{Mark}
use Rattle.hm_index.specs.Blocks.{laid, start, block_at, split_at, places, lead, first_mark, mark_rank, rank, rank_at, hint_if, AreHinted, IsPacked, IsBlockFor}
use Rattle.hm_index.proofs.Laid.{read, ends, last, begins, AreRising, leads_rise}
use Rattle.hm_index.proofs.Places.{slice_get-push}

-- any mark
abbrev none : Mark
none = first_mark []

abbrev place_of : Mark → ℕ
place_of mark = mark.place

pub length-places : (marks : List Mark) → length (places marks) ≡ length marks
length-places marks = length-map marks (λ (mark : Mark). mark.place)

pub places-at : (marks : List Mark) (i : ℕ) (d : Mark) (e : ℕ) → i < length marks → get_or (places marks) i e ≡ (get_or marks i d).place
places-at marks i d e lt = get_or-map (λ (mark : Mark). mark.place) marks i d e lt

pub places-insert : (marks : List Mark) (at : ℕ) (mark : Mark) → places (insert marks at mark) ≡ insert (places marks) at mark.place
places-insert [] zero mark = refl
places-insert [] (suc at) mark = refl
places-insert (first ∷ marks) zero mark = refl
places-insert (first ∷ marks) (suc at) mark = ap (λ l. first.place ∷ l) (places-insert marks at mark)

places-append : (marks more : List Mark) → places (marks ++ more) ≡ places marks ++ places more
places-append marks more = map-append (λ (mark : Mark). mark.place) marks more

-- the place that is marked in a block, in the order
pub read_place : (blocks : List (List Mark)) (b i d : ℕ) → b < length blocks → i < length (block_at blocks b) → get_or (places (laid blocks)) (start blocks b + i) d ≡ get_or (places (block_at blocks b)) i d
read_place blocks b i d lt within =
    places-at (laid blocks) (start blocks b + i) none d (omega (arith, ends blocks b lt))
    ∙ ap place_of (read blocks b i none lt within)
    ∙ sym (places-at (block_at blocks b) i none d within)

-- What stands at a number.

get-front : (block more : List ℕ) (n : ℕ) → n < length block → slice_get (block ++ more) n ≡ Some (get_or block n 0)
get-front [] more n lt = absurd (omega arith)
get-front (place ∷ block) more zero lt = refl
get-front (place ∷ block) more (suc n) lt = get-front block more n (omega arith)

get-behind : (block more : List ℕ) (n : ℕ) → length block ≤ n → slice_get (block ++ more) n ≡ slice_get more (n - length block)
get-behind [] more n le = let e : n - 0 ≡ n = omega arith in rw e refl
get-behind (place ∷ block) more zero le = absurd (omega arith)
get-behind (place ∷ block) more (suc n) le = let e : suc n - suc (length block) ≡ n - length block = omega arith in rw e (get-behind block more n (omega arith))

pub in_first : (blocks : List (List Mark)) (i : ℕ) (block : List Mark) (n : ℕ) → i < length blocks → block ≡ get_or blocks i block → n < length block → slice_get (places (laid (drop i blocks))) n ≡ Some (get_or (places block) n 0)
in_first [] i block n lt is less = absurd (omega arith)
in_first (first ∷ blocks) zero block n lt is less = rw (is, places-append first (laid blocks)) (get-front (places first) (places (laid blocks)) n (omega (arith, length-places first, ap length is, less)))
in_first (first ∷ blocks) (suc i) block n lt is less = in_first blocks i block n (omega arith) is less

pub behind_first : (blocks : List (List Mark)) (i : ℕ) (block : List Mark) (n : ℕ) → i < length blocks → block ≡ get_or blocks i block → length block ≤ n → slice_get (places (laid (drop i blocks))) n ≡ slice_get (places (laid (drop (i + 1) blocks))) (n - length block)
behind_first [] i block n lt is le = absurd (omega arith)
behind_first (first ∷ blocks) zero block n lt is le =
    let size = length-places first in
    rw (is, places-append first (laid blocks), ← size) (get-behind (places first) (places (laid blocks)) n (omega (arith, size, ap length is, le)))
behind_first (first ∷ blocks) (suc i) block n lt is le = let e : suc i + 1 ≡ suc (i + 1) = omega arith in rw e (behind_first blocks i block n (omega arith) is le)

past : (places : List ℕ) (n : ℕ) → length places ≤ n → slice_get places n ≡ None
past [] n le = refl
past (place ∷ places) zero le = absurd (omega arith)
past (place ∷ places) (suc n) le = past places n (omega arith)

pub below : (places : List ℕ) (n place : ℕ) → slice_get places n ≡ Some place → n < length places
below [] n place is = cc
below (first ∷ places) zero place is = omega arith
below (first ∷ places) (suc n) place is = omega (arith, below places n place is)

pub next_here : (blocks : List (List Mark)) (b at : ℕ) → b < length blocks → at < length (block_at blocks b) → slice_get (places (laid blocks)) (start blocks b + at) ≡ Some (get_or (places (block_at blocks b)) at 0)
next_here blocks b at lt within = slice_get-get_or (places (laid blocks)) (start blocks b + at) 0 (omega (arith, length-places (laid blocks), ends blocks b lt)) ∙ ap Some (read_place blocks b at 0 lt within)

pub next_block : (blocks : List (List Mark)) (b at : ℕ) → b + 1 < length blocks → at ≡ length (block_at blocks b) → 0 < length (block_at blocks (b + 1)) → slice_get (places (laid blocks)) (start blocks b + at) ≡ Some (get_or (places (block_at blocks (b + 1))) 0 0)
next_block blocks b at lt is some =
    let e : start blocks b + at ≡ start blocks (b + 1) + 0 = omega (arith, begins blocks b lt) in
    rw e (next_here blocks (b + 1) 0 lt some)

pub next_none : (blocks : List (List Mark)) (b at : ℕ) → b + 1 ≡ length blocks → at ≡ length (block_at blocks b) → slice_get (places (laid blocks)) (start blocks b + at) ≡ None
next_none blocks b at is end = past (places (laid blocks)) (start blocks b + at) (omega (arith, length-places (laid blocks), last blocks b is))

-- The marks that blocks begin with.

set-same : {X : Type 0} (xs : List X) (i : ℕ) (d : X) → i < length xs → set xs i (get_or xs i d) ≡ xs
set-same [] i d lt = absurd (omega arith)
set-same (x ∷ xs) zero d lt = refl
set-same (x ∷ xs) (suc i) d lt = ap (λ l. x ∷ l) (set-same xs i d (omega arith))

firsts-set : (blocks : List (List Mark)) (b : ℕ) (block : List Mark) → map first_mark (set blocks b block) ≡ set (map first_mark blocks) b (first_mark block)
firsts-set [] b block = refl
firsts-set (first ∷ blocks) zero block = refl
firsts-set (first ∷ blocks) (suc b) block = ap (λ l. first_mark first ∷ l) (firsts-set blocks b block)

-- a mark put in where a block begins is its first, and one after that leaves it
pub firsts-put : (blocks : List (List Mark)) (b at : ℕ) (mark : Mark) → b < length blocks → at ≤ length (block_at blocks b)
    → map first_mark (set blocks b (insert (block_at blocks b) at mark)) ≡ (if at == 0 then set (map first_mark blocks) b mark else map first_mark blocks)
firsts-put blocks b zero mark lt le = firsts-set blocks b (mark ∷ block_at blocks b)
firsts-put blocks b (suc at) mark lt le =
    let later : (suc at == 0) ≡ false = grind (arith, nat_tests) in
    rw later
    (firsts-set blocks b (insert (block_at blocks b) (suc at) mark)
    ∙ ap (set (map first_mark blocks) b) (kept (block_at blocks b) at le ∙ sym (get_or-map first_mark blocks b [] none lt))
    ∙ set-same (map first_mark blocks) b none (omega (arith, lt, length-map blocks first_mark)))
  where
    kept : (block : List Mark) (at : ℕ) → suc at ≤ length block → first_mark (insert block (suc at) mark) ≡ first_mark block
    kept [] at le = absurd (omega arith)
    kept (first ∷ block) at le = refl

-- the upper half of a block that is split begins after the lower half
pub firsts-split : (blocks : List (List Mark)) (b half : ℕ) → b < length blocks → 0 < half → half < length (block_at blocks b)
    → map first_mark (split_at blocks b half) ≡ insert (map first_mark blocks) (b + 1) (first_mark (drop half (block_at blocks b)))
firsts-split [] b half lt some less = absurd (omega arith)
firsts-split ([] ∷ blocks) zero half lt some less = absurd (omega arith)
firsts-split ((mark ∷ block) ∷ blocks) zero zero lt some less = absurd (omega arith)
firsts-split ((mark ∷ block) ∷ blocks) zero (suc half) lt some less = refl
firsts-split (block ∷ blocks) (suc b) half lt some less = let e : suc b + 1 ≡ suc (b + 1) = omega arith in rw e (ap (λ l. first_mark block ∷ l) (firsts-split blocks b half (omega arith) some less))

module _ (ranks : Mark → Ordering) (blocks : List (List Mark)) (packed : IsPacked blocks) where
  abbrev pub others : List Mark
  others = drop 1 (map first_mark blocks)

  pub length-others : length others + 1 ≡ length blocks
  length-others = omega (arith, length-drop 1 (map first_mark blocks), length-map blocks first_mark, packed.some)

  lead_read : (b : ℕ) (d : Mark) → b + 1 < length blocks → ranks (get_or others b d) ≡ lead ranks (block_at blocks (b + 1))
  lead_read b d lt =
      let next : 1 + b ≡ b + 1 = omega arith in
      ap ranks (get_or_after_one (map first_mark blocks) b d ∙ ap (λ k. get_or (map first_mark blocks) k d) next ∙ get_or-map first_mark blocks (b + 1) [] d lt)
      ∙ led (block_at blocks (b + 1)) (packed.filled (b + 1) (omega arith) lt)
    where
      led : (block : List Mark) → 0 < length block → ranks (first_mark block) ≡ lead ranks block
      led [] some = absurd (omega arith)
      led (mark ∷ block) some = refl

  -- where the ranks don't fall, those of the first marks don't
  others_rise : AreRising ranks blocks → IsNonDecreasingBy (λ mark. ordering_index (ranks mark)) others
  others_rise rises i j d le lt =
      let size = length-others in
      rw (lead_read i d (omega arith), lead_read j d (omega arith)) (leads_rise ranks blocks rises (i + 1) (j + 1) (omega arith) (omega arith) (λ some. packed.filled (j + 1) some (omega arith)))

  -- what a search among the first marks says of the block that is taken
  pub block_tied : (b : ℕ) → b < length others → IsBinarySearchResult ranks others (Ok b) → IsBlockFor ranks blocks (b + 1)
  block_tied b lt is rises = inl (sym (lead_read b none (omega (arith, length-others))) ∙ is none)

  pub block_below : (b : ℕ) → b ≤ length others → IsBinarySearchResult ranks others (Err b) → IsBlockFor ranks blocks b
  block_below b le result rises = inr (record {
    below = λ lt.
        let there : b - 1 + 1 ≡ b = omega arith in
        ap (λ k. lead ranks (block_at blocks k)) (sym there) ∙ sym (lead_read (b - 1) none (omega (arith, length-others))) ∙ (result (others_rise rises)).0 (b - 1) none (omega arith) (omega arith);
    above = λ lt. sym (lead_read b none lt) ∙ (result (others_rise rises)).1 b none (omega arith) (omega (arith, length-others));
  })

-- A search of marks whose ranks are those of their places.

module _ (by_mark : Mark → Ordering) (by_place : ℕ → Ordering) (marks : List Mark) (same : All (λ (mark : Mark). by_mark mark ≡ by_place mark.place) marks) where
  at_place : (k n : ℕ) → k < length marks → by_place (get_or (places marks) k n) ≡ by_mark (get_or marks k none)
  at_place k n lt = ap by_place (places-at marks k none n lt) ∙ sym (same k none lt)

  any_mark : (k : ℕ) (d : Mark) → k < length marks → by_mark (get_or marks k d) ≡ by_place (get_or (places marks) k 0)
  any_mark k d lt = same k d lt ∙ ap by_place (sym (places-at marks k d 0 lt))

  marks_rise : IsNonDecreasingBy (λ place. ordering_index (by_place place)) (places marks) → IsNonDecreasingBy (λ mark. ordering_index (by_mark mark)) marks
  marks_rise rises i j d le lt = rw (any_mark i d (omega arith), any_mark j d lt) (rises i j 0 le (omega (arith, length-places marks)))

  pub search_places : (r : Result ℕ ℕ) → IsSearchInRange r (length marks) → IsBinarySearchResult by_mark marks r → IsBinarySearchResult by_place (places marks) r
  search_places (Ok i) lt tie = λ n. at_place i n lt ∙ tie none
  search_places (Err i) le split = λ rises.
      let size = length-places marks in
      let parts = split (marks_rise rises) in
      (λ k n low lt. at_place k n (omega arith) ∙ parts.0 k none low lt, λ k n low lt. at_place k n (omega arith) ∙ parts.1 k none low (omega arith))

-- Hints.

module _ {K : Type 0} (cmp : K → K → Ordering) (total : IsTotalOrder cmp) (hint_of : K → ℕ) (rises : (a b : K) → hint_of a < hint_of b → cmp a b ≡ Less) where
  falls : (a b : K) → hint_of b < hint_of a → cmp a b ≡ Greater
  falls a b lt = let less = rises b a lt in let flip = total.antisymm a b in cc

  -- keys that tie have one hint
  pub tied_hints : (a b : K) → cmp a b ≡ Equal → hint_of a ≡ hint_of b
  tied_hints a b tie = elim (cases_lt (hint_of a) (hint_of b)) [
    | inl lt ↦ (let less = rises a b lt in cc)
    | inr ge ↦ elim (cases_lt (hint_of b) (hint_of a)) [
      | inl lt ↦ (let more = falls a b lt in cc)
      | inr le ↦ omega (arith, ge, le)
    ]
  ]

  by_hint : {V : Type 0} (o : Option (K × V)) (hint : ℕ) (key : K) → hint_if hint_of o ≡ Some hint → ordering_then (nat_cmp hint (hint_of key)) (rank cmp o key) ≡ rank cmp o key
  by_hint None hint key is = cc
  by_hint (Some pair) hint key is =
      let same : hint_of pair.0 ≡ hint = cc in
      elim (cases_lt hint (hint_of key)) [
        | inl lt ↦ (
            let first : nat_cmp hint (hint_of key) ≡ Less = grind (arith, nat_tests, lt) in
            rw first (sym (rises pair.0 key (omega (arith, same, lt)))))
        | inr ge ↦ elim (cases_eq hint (hint_of key)) [
          | inl tie ↦ (
              let first : nat_cmp hint (hint_of key) ≡ Equal = grind (arith, nat_tests, tie) in
              rw first refl)
          | inr other ↦ (
              let first : nat_cmp hint (hint_of key) ≡ Greater = grind (arith, nat_tests, ge, other) in
              rw first (sym (falls pair.0 key (omega (arith, same, ge, other)))))
        ]
      ]

  module _ {V : Type 0} (pairs : List (K × V)) (marks : List Mark) (hinted : AreHinted hint_of pairs marks) where
    -- a search by marks is one by the places that they mark
    pub hinted_search : (key : K) (r : Result ℕ ℕ) → IsSearchInRange r (length marks) → IsBinarySearchResult (mark_rank (rank_at cmp pairs key) (hint_of key)) marks r → IsBinarySearchResult (rank_at cmp pairs key) (places marks) r
    hinted_search key r range result =
        search_places (mark_rank (rank_at cmp pairs key) (hint_of key)) (rank_at cmp pairs key) marks
        (λ k d lt. by_hint (slice_get pairs (get_or marks k d).place) (get_or marks k d).hint key (hinted k d lt)) r range result

module _ {K V : Type 0} (hint_of : K → ℕ) where
  -- a pair after the others, and a mark of it
  pub hinted-insert : (pairs : List (K × V)) (marks : List Mark) (at : ℕ) (pair : K × V) → AreHinted hint_of pairs marks
      → AreHinted hint_of (pairs ++ pair ∷ []) (insert marks at (record { hint = hint_of pair.0; place = length pairs }))
  hinted-insert pairs marks at pair hinted =
      let Has : Mark → Type 0 = λ (mark : Mark). hint_if hint_of (slice_get (pairs ++ pair ∷ []) mark.place) ≡ Some mark.hint in
      let old : All Has marks = λ k d lt. pushed (get_or marks k d) (hinted k d lt) in
      let new : Has (record { hint = hint_of pair.0; place = length pairs }) = rw (slice_get-push pairs pair (length pairs)) (grind (arith, nat_tests)) in
      All-append Has (take at marks) (record { hint = hint_of pair.0; place = length pairs } ∷ drop at marks) (All-take Has at marks old)
      (All-cons Has (record { hint = hint_of pair.0; place = length pairs }) (drop at marks) new (All-drop Has at marks old))
    where
      below : (pairs : List (K × V)) (place hint : ℕ) → hint_if hint_of (slice_get pairs place) ≡ Some hint → place < length pairs
      below [] place hint is = cc
      below (first ∷ pairs) zero hint is = omega arith
      below (first ∷ pairs) (suc place) hint is = omega (arith, below pairs place hint is)

      pushed : (mark : Mark) → hint_if hint_of (slice_get pairs mark.place) ≡ Some mark.hint → hint_if hint_of (slice_get (pairs ++ pair ∷ []) mark.place) ≡ Some mark.hint
      pushed mark is =
          let lt = below pairs mark.place mark.hint is in
          let same : slice_get (pairs ++ pair ∷ []) mark.place ≡ slice_get pairs mark.place = slice_get-push pairs pair mark.place ∙ grind (arith, nat_tests, lt) in
          rw same is

  -- a pair written over by one whose key has its hint
  pub hinted-set : (pairs : List (K × V)) (marks : List Mark) (place : ℕ) (pair old : K × V) → hint_of ((get_or pairs place old).0) ≡ hint_of pair.0 → AreHinted hint_of pairs marks → AreHinted hint_of (set pairs place pair) marks
  hinted-set pairs marks place pair old same hinted k d within = written pairs place (get_or marks k d).place same ∙ hinted k d within
    where
      written : (pairs : List (K × V)) (place n : ℕ) → hint_of ((get_or pairs place old).0) ≡ hint_of pair.0 → hint_if hint_of (slice_get (set pairs place pair) n) ≡ hint_if hint_of (slice_get pairs n)
      written [] place n same = refl
      written (first ∷ pairs) zero zero same = ap Some (sym same)
      written (first ∷ pairs) zero (suc n) same = refl
      written (first ∷ pairs) (suc place) zero same = refl
      written (first ∷ pairs) (suc place) (suc n) same = written pairs place n same
