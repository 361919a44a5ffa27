-- The items at some places, when one is written over or comes after the others, and a search among them.
use Rattle.std.proofs.Common.{◌≡◌, ◌≢◌, ℕ, zero, suc, ◌+◌, ◌<◌, ◌≤◌, List, [], ◌∷◌, ◌++◌, length, get_or, set, take, drop, slice_get, Some, None, Result, Ok, Err, IfOk, IfErr, refl, inl, inr, arith, ap, sym, ◌∙◌, subst, length-append}
use Rattle.std.specs.Cmp.{IsTotalOrder}
use Rattle.std.specs.List.{All, insert}
use Rattle.std.specs.List.Sorted.{IsSearchInRange, IsBinarySearchResult, IsNonDecreasingBy}
use Rattle.std.specs.Option.{unwrap_or}
use Rattle.std.specs.Ordering.{ordering_index}
use Rattle.std.specs.declared.cmp.Ordering.{Ordering}
use Rattle.std.specs.declared.cmp.Ordering.TheVariants.{Less}
use Rattle.std.proofs.Math.ListN.{length-set}
use Rattle.std.proofs.lemmas.Bool.{cases_lt, cases_eq}
use Rattle.std.proofs.lemmas.Bool.Decides.{nat_tests}
use Rattle.std.proofs.lemmas.Cmp.{tied_itself}
use Rattle.std.proofs.lemmas.List.Elements.{All-tail, All-weaker, All-append, All-take, All-drop, All-cons}
use Rattle.std.proofs.lemmas.Option.{slice_get-get_or, unwrap_or-slice_get}
use Rattle.hm_index.specs.Blocks.{picked, compared, KeysRise, HasAt, HasGap, rank, rank_at}
use Rattle.hm_index.proofs.Pairs.{searched}
use Rattle.hm_index.proofs.Places.{slice_get-push, slice_get-set}

module _ {X : Type 0} where
  -- each of these is the place of an item
  abbrev pub AreIn : List X → List ℕ → Type 0
  AreIn items places = All (λ place. place < length items) places

  tail : (items : List X) (place : ℕ) (places : List ℕ) → AreIn items (place ∷ places) → AreIn items places
  tail items place places within = All-tail (λ k. k < length items) place places within

  -- the item at a place that is within
  item : (items : List X) (place : ℕ) → place < length items → (x : X) × (slice_get items place ≡ Some x)
  item [] place lt = absurd (omega arith)
  item (x ∷ items) zero lt = (x, refl)
  item (x ∷ items) (suc place) lt = item items place (omega arith)

  pub length-picked : (items : List X) (places : List ℕ) → AreIn items places → length (picked items places) ≡ length places
  length-picked items [] within = refl
  length-picked items (place ∷ places) within =
      let first = item items place (within zero place (omega arith)) in
      rw first.1 (omega (arith, length-picked items places (tail items place places within)))

  slice_get-picked : (items : List X) (places : List ℕ) → AreIn items places → (k d : ℕ) → k < length places → slice_get (picked items places) k ≡ slice_get items (get_or places k d)
  slice_get-picked items [] within k d lt = absurd (omega arith)
  slice_get-picked items (place ∷ places) within zero d lt =
      let first = item items place (within zero place (omega arith)) in
      rw first.1 refl
  slice_get-picked items (place ∷ places) within (suc k) d lt =
      let first = item items place (within zero place (omega arith)) in
      rw first.1 (slice_get-picked items places (tail items place places within) k d (omega arith))

  -- the item at a place that stands at a number
  pub at_some : (items : List X) (places : List ℕ) (k place : ℕ) → AreIn items places → slice_get places k ≡ Some place → slice_get (picked items places) k ≡ slice_get items place
  at_some items [] k place within is = cc
  at_some items (first ∷ places) zero place within is =
      let old = item items first (within zero first (omega arith)) in
      rw old.1 (cc)
  at_some items (first ∷ places) (suc k) place within is =
      let old = item items first (within zero first (omega arith)) in
      rw old.1 (at_some items places k place (tail items first places within) is)

  pub at_none : (items : List X) (places : List ℕ) (k : ℕ) → AreIn items places → slice_get places k ≡ None → slice_get (picked items places) k ≡ None
  at_none items [] k within is = refl
  at_none items (first ∷ places) zero within is = cc
  at_none items (first ∷ places) (suc k) within is =
      let old = item items first (within zero first (omega arith)) in
      rw old.1 (at_none items places k (tail items first places within) is)

  -- a place that was picked is that of an item
  pub there : (items : List X) (places : List ℕ) (k place : ℕ) → AreIn items places → slice_get places k ≡ Some place → place < length items
  there items [] k place within is = cc
  there items (first ∷ places) zero place within is = let same : first ≡ place = cc in subst (λ p. p < length items) same (within zero place (omega arith))
  there items (first ∷ places) (suc k) place within is = there items places k place (tail items first places within) is

  -- what is left from a number on, by what stands there
  pub left_none : (items : List X) (n : ℕ) → slice_get items n ≡ None → drop n items ≡ []
  left_none [] zero is = refl
  left_none [] (suc n) is = refl
  left_none (x ∷ items) zero is = cc
  left_none (x ∷ items) (suc n) is = left_none items n is

  pub left_some : (items : List X) (n : ℕ) (x : X) → slice_get items n ≡ Some x → drop n items ≡ x ∷ drop (n + 1) items
  left_some [] n x is = cc
  left_some (y ∷ items) zero x is = cc
  left_some (y ∷ items) (suc n) x is = let e : suc n + 1 ≡ suc (n + 1) = omega arith in rw e (left_some items n x is)

  -- the item at a place that stands at a number, as it is read
  pub stands : (items : List X) (places : List ℕ) (n place : ℕ) (x : X) → AreIn items places → slice_get places n ≡ Some place → x ≡ get_or items place x → slice_get (picked items places) n ≡ Some x
  stands items places n place x within is at =
      at_some items places n place within is ∙ slice_get-get_or items place x (there items places n place within is) ∙ ap Some (sym at)

  pub gives : (items : List X) (places : List ℕ) (n place : ℕ) (x : X) → AreIn items places → slice_get places n ≡ Some place → x ≡ get_or items place x → drop n (picked items places) ≡ x ∷ drop (n + 1) (picked items places)
  gives items places n place x within is at = left_some (picked items places) n x (stands items places n place x within is at)

  -- an item more, at no place that was picked
  picked-push : (items : List X) (y : X) (places : List ℕ) → AreIn items places → picked (items ++ y ∷ []) places ≡ picked items places
  picked-push items y [] within = refl
  picked-push items y (place ∷ places) within =
      let lt : place < length items = within zero place (omega arith) in
      let first : slice_get (items ++ y ∷ []) place ≡ slice_get items place = slice_get-push items y place ∙ grind (arith, nat_tests, lt) in
      rw (first, picked-push items y places (tail items place places within)) refl

  -- an item after the others, and its place among the places
  pub picked-insert : (items : List X) (y : X) (places : List ℕ) (at : ℕ) → AreIn items places → at ≤ length places
      → picked (items ++ y ∷ []) (insert places at (length items)) ≡ insert (picked items places) at y
  picked-insert items y places zero within le =
      let first : slice_get (items ++ y ∷ []) (length items) ≡ Some y = slice_get-push items y (length items) ∙ grind (arith, nat_tests) in
      rw (first, picked-push items y places within) refl
  picked-insert items y [] (suc at) within le = absurd (omega arith)
  picked-insert items y (place ∷ places) (suc at) within le =
      let lt : place < length items = within zero place (omega arith) in
      let first = item items place lt in
      let same : slice_get (items ++ y ∷ []) place ≡ Some first.0 = slice_get-push items y place ∙ grind (arith, nat_tests, lt, first.1) in
      rw (same, first.1) (ap (λ l. first.0 ∷ l) (picked-insert items y places at (tail items place places within) (omega arith)))

  -- an item written over that stands at no place that was picked
  picked-other : (items : List X) (place d : ℕ) (y : X) (places : List ℕ) → place < length items → ((k : ℕ) → k < length places → get_or places k d ≢ place) → picked (set items place y) places ≡ picked items places
  picked-other items place d y [] lt other = refl
  picked-other items place d y (first ∷ places) lt other =
      let away : first ≢ place = other zero (omega arith) in
      let same : slice_get (set items place y) first ≡ slice_get items first = slice_get-set items place y first lt ∙ grind (arith, nat_tests, away) in
      rw (same, picked-other items place d y places lt (λ k below. other (suc k) (omega arith))) refl

  -- an item written over that stands at one of the places alone
  picked-set : (items : List X) (places : List ℕ) (at d : ℕ) (y : X) → AreIn items places → at < length places
      → ((k : ℕ) → k < length places → get_or places k d ≡ get_or places at d → k ≡ at) → picked (set items (get_or places at d) y) places ≡ set (picked items places) at y
  picked-set items [] at d y within lt alone = absurd (omega arith)
  picked-set items (first ∷ places) zero d y within lt alone =
      let below : first < length items = within zero d (omega arith) in
      let old = item items first below in
      let new : slice_get (set items first y) first ≡ Some y = slice_get-set items first y first below ∙ grind (arith, nat_tests) in
      rw (new, old.1) (ap (λ l. y ∷ l) (picked-other items first d y places below (λ k less same. absurd (omega (arith, alone (suc k) (omega arith) same)))))
  picked-set items (first ∷ places) (suc at) d y within lt alone =
      let place : ℕ = get_or places at d in
      let old = item items first (within zero d (omega arith)) in
      let away : first ≢ place = λ same. absurd (omega (arith, alone zero (omega arith) same)) in
      let same : slice_get (set items place y) first ≡ Some old.0 = slice_get-set items place y first (within (suc at) d (omega arith)) ∙ grind (arith, nat_tests, away, old.1) in
      rw (same, old.1) (ap (λ l. old.0 ∷ l) (picked-set items places at d y (tail items first places within) (omega arith) (λ k less is. omega (arith, alone (suc k) (omega arith) is))))

  -- the places stay within
  pub in-set : (items : List X) (places : List ℕ) (i : ℕ) (y : X) → AreIn items places → AreIn (set items i y) places
  in-set items places i y within k d lt = rw (length-set items i y) (within k d lt)

  pub in-insert : (items : List X) (places : List ℕ) (at : ℕ) (y : X) → AreIn items places → AreIn (items ++ y ∷ []) (insert places at (length items))
  in-insert items places at y within =
      let size : length (items ++ y ∷ []) ≡ length items + 1 = length-append items (y ∷ []) in
      let old = All-weaker (λ k. k < length items) (λ k. k < length (items ++ y ∷ [])) (λ k lt. omega (arith, size, lt)) places within in
      All-append (λ k. k < length (items ++ y ∷ [])) (take at places) (length items ∷ drop at places) (All-take (λ k. k < length (items ++ y ∷ [])) at places old)
      (All-cons (λ k. k < length (items ++ y ∷ [])) (length items) (drop at places) (omega (arith, size)) (All-drop (λ k. k < length (items ++ y ∷ [])) at places old))

module _ {K V : Type 0} (cmp : K → K → Ordering) where
  module _ (pairs : List (K × V)) (order : List ℕ) (within : AreIn pairs order) where
    -- the pair at a place that was picked
    pair_is : (i n : ℕ) (d : K × V) → i < length order → slice_get pairs (get_or order i n) ≡ Some (get_or (picked pairs order) i d)
    pair_is i n d lt = sym (slice_get-picked pairs order within i n lt) ∙ slice_get-get_or (picked pairs order) i d (omega (arith, length-picked pairs order within))

    rank_is : (key : K) (i n : ℕ) (d : K × V) → i < length order → rank_at cmp pairs key (get_or order i n) ≡ compared cmp (picked pairs order) i d key
    rank_is key i n d lt = ap (λ o. rank cmp o key) (pair_is i n d lt)

    -- where the pairs' answers don't fall, those of their places don't
    places_rise : (key : K) → IsNonDecreasingBy (λ (pair : K × V). ordering_index (cmp pair.0 key)) (picked pairs order) → IsNonDecreasingBy (λ place. ordering_index (rank_at cmp pairs key place)) order
    places_rise key rises i j n up lt =
        let d = item pairs (get_or order j n) (within j n lt) in
        rw (rank_is key i n d.0 (omega arith), rank_is key j n d.0 lt) (rises i j d.0 up (omega (arith, length-picked pairs order within)))

    -- a binary search of the places is one of the pairs at them
    search_among : (key : K) (r : Result ℕ ℕ) → IsSearchInRange r (length order) → IsBinarySearchResult (rank_at cmp pairs key) order r
        → IsBinarySearchResult (λ (pair : K × V). cmp pair.0 key) (picked pairs order) r
    search_among key (Ok i) lt equal = λ d. sym (rank_is key i 0 d lt) ∙ equal 0
    search_among key (Err i) le split = λ rises.
        let size = length-picked pairs order within in
        let parts = split (places_rise key rises) in
        (λ k d low lt. sym (rank_is key k 0 d (omega arith)) ∙ parts.0 k 0 low lt, λ k d low lt. sym (rank_is key k 0 d (omega (arith, size))) ∙ parts.1 k 0 low (omega (arith, size)))

    -- the pair at the place that stands at one place of the order
    pub read_is : (at place : ℕ) (d : K × V) → at < length order → place ≡ get_or order at place → get_or pairs place d ≡ get_or (picked pairs order) at d
    read_is at place d lt is = sym (unwrap_or-slice_get pairs place d) ∙ ap (λ p. unwrap_or (slice_get pairs p) d) is ∙ ap (λ o. unwrap_or o d) (pair_is at place d lt)

    -- where a key stands in the order
    pub has_within : (key : K) (at : ℕ) → HasAt cmp (picked pairs order) key at → at < length order
    has_within key at has = omega (arith, has.within, length-picked pairs order within)

    pub gap_within : (key : K) (at : ℕ) → HasGap cmp (picked pairs order) key at → at ≤ length order
    gap_within key at gap = omega (arith, gap.within, length-picked pairs order within)

    module _ (rising : KeysRise cmp (picked pairs order)) (total : IsTotalOrder cmp) where
      apart : (i j d : ℕ) → i < j → j < length order → get_or order i d ≡ get_or order j d → ⊥
      apart i j d less lt same =
          let e = item pairs (get_or order j d) (within j d lt) in
          let here : K × V = get_or (picked pairs order) i e.0 in
          let there : K × V = get_or (picked pairs order) j e.0 in
          let below : cmp here.0 there.0 ≡ Less = rising i j e.0 less (omega (arith, lt, length-picked pairs order within)) in
          let one : Some here ≡ Some there = sym (pair_is i d e.0 (omega arith)) ∙ ap (slice_get pairs) same ∙ pair_is j d e.0 lt in
          cc (below, one, tied_itself total there.0)

      -- no place stands twice in an order in which keys rise
      once : (i j d : ℕ) → i < length order → j < length order → get_or order i d ≡ get_or order j d → i ≡ j
      once i j d lt lt' same = elim (cases_lt i j) [
        | inl less ↦ absurd (apart i j d less lt' same)
        | inr le ↦ elim (cases_eq i j) [
          | inl is ↦ is
          | inr other ↦ absurd (apart j i d (omega arith) lt (sym same))
        ]
      ]

      -- a pair written over
      pub written_over : (at place : ℕ) (pair : K × V) → at < length order → place ≡ get_or order at place → picked (set pairs place pair) order ≡ set (picked pairs order) at pair
      written_over at place pair lt is = ap (λ p. picked (set pairs p pair) order) is ∙ picked-set pairs order at place pair within lt (λ k less same. once k at place less lt same)

      -- a binary search of the places ends at the key, or at the gap for it
      pub searched_places : (key : K) (r : Result ℕ ℕ) → IsSearchInRange r (length order) → IsBinarySearchResult (rank_at cmp pairs key) order r → record { found : IfOk r (HasAt cmp (picked pairs order) key); absent : IfErr r (HasGap cmp (picked pairs order) key) }
      searched_places key r range result = searched cmp total (picked pairs order) rising key r (rw (length-picked pairs order within) range) (search_among key r range result)
