-- What travels, by its places.
use Rattle.std.proofs.Common.{◌≡◌, ℕ, zero, suc, ◌+◌, ◌<◌, List, [], ◌∷◌, ◌++◌, length, get_or, drop, slice_get, Some, None, refl, ap, sym, ◌∙◌, arith, length-append}
use Rattle.std.specs.List.{All, cons_option, range_with_len}
use Rattle.std.proofs.lemmas.List.{append_assoc}
use Rattle.std.proofs.lemmas.List.Elements.{All-append, All-tail, filter_map-append}
use Rattle.std.proofs.lemmas.List.FromFn.{get_or-range_with_len, length-range_with_len}
use Rattle.std.proofs.lemmas.Option.{slice_get-get_or}
use Rattle.hm_index.specs.Blocks.{picked}

module _ {X : Type 0} where
  -- each of these is the place of an item
  abbrev pub AreIn : List X → List ℕ → Type 0
  AreIn items places = All (λ place. place < length items) places

  tail : (items : List X) (place : ℕ) (places : List ℕ) → AreIn items (place ∷ places) → AreIn items places
  tail items place places within = All-tail (λ k. k < length items) place places within

  item : (items : List X) (place : ℕ) → place < length items → (x : X) × (slice_get items place ≡ Some x)
  item [] place lt = absurd (omega arith)
  item (x ∷ items) zero lt = (x, refl)
  item (x ∷ items) (suc place) lt = item items place (omega arith)

  -- the first of those that travel, and the others
  pub first : (items : List X) (place : ℕ) (places : List ℕ) → AreIn items (place ∷ places) → (x : X) × ((slice_get items place ≡ Some x) × (picked items (place ∷ places) ≡ x ∷ picked items places))
  first items place places within =
      let there = item items place (within zero place (omega arith)) in
      (there.0, (there.1, ap (λ o. cons_option o (picked items places)) there.1))

  pub count : (items : List X) (places : List ℕ) → AreIn items places → length (picked items places) ≡ length places
  count items [] within = refl
  count items (place ∷ places) within =
      let one = first items place places within in
      ap length one.1.1 ∙ ap suc (count items places (tail items place places within))

  pub others : (items : List X) (places : List ℕ) → AreIn items places → picked items (drop 1 places) ≡ drop 1 (picked items places)
  others items [] within = refl
  others items (place ∷ places) within = ap (drop 1) (sym (first items place places within).1.1)

  -- the oldest of them, as it is read
  pub oldest : (items : List X) (places : List ℕ) (place : ℕ) (x : X) → AreIn items places → 0 < length places → place ≡ get_or places 0 place → x ≡ get_or items place x
      → Some x ≡ slice_get (picked items places) 0
  oldest items [] place x within lt is at = absurd (omega arith)
  oldest items (one ∷ places) place x within lt is at =
      let below : place < length items = omega (arith, is, within 0 place (omega arith)) in
      ap Some at ∙ sym (slice_get-get_or items place x below) ∙ ap (slice_get items) is ∙ (first items one places within).1.0
      ∙ ap (λ l. slice_get l 0) (sym (first items one places within).1.1)

  -- an item after the others
  at_front : (items more : List X) (place : ℕ) → place < length items → slice_get (items ++ more) place ≡ slice_get items place
  at_front [] more place lt = absurd (omega arith)
  at_front (x ∷ items) more zero lt = refl
  at_front (x ∷ items) more (suc place) lt = at_front items more place (omega arith)

  at_seam : (items : List X) (x : X) (more : List X) → slice_get (items ++ x ∷ more) (length items) ≡ Some x
  at_seam [] x more = refl
  at_seam (y ∷ items) x more = at_seam items x more

  before : (items more : List X) (places : List ℕ) → AreIn items places → picked (items ++ more) places ≡ picked items places
  before items more [] within = refl
  before items more (place ∷ places) within =
      ap (λ o. cons_option o (picked (items ++ more) places)) (at_front items more place (within zero place (omega arith)))
      ∙ ap (cons_option (slice_get items place)) (before items more places (tail items place places within))

  pub sent : (items : List X) (x : X) (places : List ℕ) (n : ℕ) → AreIn items places → n ≡ length items → picked (items ++ x ∷ []) (places ++ n ∷ []) ≡ picked items places ++ x ∷ []
  sent items x places n within is =
      ap (λ k. picked (items ++ x ∷ []) (places ++ k ∷ [])) is ∙
      filter_map-append (slice_get (items ++ x ∷ [])) places (length items ∷ [])
      ∙ ap (λ l. l ++ picked (items ++ x ∷ []) (length items ∷ [])) (before items (x ∷ []) places within)
      ∙ ap (λ o. picked items places ++ cons_option o []) (at_seam items x [])

  -- all of them
  from : (front items : List X) (n : ℕ) → length front ≡ n → picked (front ++ items) (range_with_len n (length items)) ≡ items
  from front [] n is = refl
  from front (x ∷ items) n is =
      ap (λ o. cons_option o (picked (front ++ x ∷ items) (range_with_len (n + 1) (length items)))) (ap (slice_get (front ++ x ∷ items)) (sym is) ∙ at_seam front x items)
      ∙ ap (λ l. x ∷ l) (ap (λ l. picked l (range_with_len (n + 1) (length items))) (sym (append_assoc front (x ∷ []) items)) ∙ from (front ++ x ∷ []) items (n + 1) (length-append front (x ∷ []) ∙ ap (λ k. k + 1) is))

  pub repeated : (items : List X) (places : List ℕ) (n : ℕ) → n ≡ length items → picked items (places ++ range_with_len 0 n) ≡ picked items places ++ items
  repeated items places n is =
      ap (λ k. picked items (places ++ range_with_len 0 k)) is ∙ filter_map-append (slice_get items) places (range_with_len 0 (length items))
      ∙ ap (λ l. picked items places ++ l) (from [] items 0 refl)

  pub repeated_within : (items : List X) (places : List ℕ) (n : ℕ) → n ≡ length items → AreIn items places → AreIn items (places ++ range_with_len 0 n)
  repeated_within items places n is within = All-append (λ place. place < length items) places (range_with_len 0 n) within (λ k d lt.
      let below : k < n = omega (arith, lt, length-range_with_len 0 n) in
      omega (arith, get_or-range_with_len 0 n k d below, is))

pub range_more : (a n k : ℕ) → a + n ≡ k → range_with_len a (n + 1) ≡ range_with_len a n ++ k ∷ []
range_more a zero k is = let e : a ≡ k = omega (arith, is) in ap (λ l. l ∷ []) e
range_more a (suc n) k is =
    let next : suc n + 1 ≡ suc (n + 1) = omega arith in
    rw next (ap (λ l. a ∷ l) (range_more (a + 1) n k (omega (arith, is))))

-- the first of some
pub first_of : {X : Type 0} (xs : List X) (x : X) → Some x ≡ slice_get xs 0 → xs ≡ x ∷ drop 1 xs
first_of [] x is = cc
first_of (y ∷ xs) x is = cc

pub none_of : {X : Type 0} (xs : List X) → None ≡ slice_get xs 0 → xs ≡ []
none_of [] is = refl
none_of (y ∷ xs) is = cc
