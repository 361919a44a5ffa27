-- Rows that were found, in key order, with one row more.
use Rattle.std.proofs.Common.{◌≡◌, ◌≢◌, ℕ, zero, suc, ◌<◌, ◌≤◌, [], ◌∷◌, length, Bool, true, false, ◌||◌, if◌then◌else◌, Option, Some, None, slice_index_or, refl, inl, inr, arith, ap, sym, ◌∙◌, subst}
use Rattle.std.specs.List.{All, AllWithin, HoldsAt, insert}
use Rattle.std.specs.List.Sorted.{IsNonDecreasingBy, IsPartitionPoint}
use Rattle.std.specs.Option.{option_map_or}
use Rattle.std.specs.Ordering.{ordering_index, ordering_reverse}
use Rattle.std.specs.declared.cmp.Ordering.{Ordering}
use Rattle.std.specs.declared.cmp.Ordering.TheVariants.{Less, Equal, Greater}
use Rattle.std.proofs.lemmas.Bool.{cond-true, cond-false, cases_Bool}
use Rattle.std.proofs.lemmas.List.Elements.{filter_passes}
use Rattle.std.proofs.lemmas.List.Kept.{IsNonDecreasingBy-filter}
use Rattle.hm_data.proofs.KeyOrder.{keys_total}
use Rattle.hm_data.specs.Keys.{key_cmp}
use Rattle.hm_data.specs.declared.catalog.CatKey.{CatKey}
use Rattle.hm_data.specs.declared.catalog.CatRow.{CatRow}
use Rattle.hm_model.specs.Catalog.{row_at}
use Rattle.hm_model.specs.Keys.{same_key}
use Rattle.hm_model.specs.RowLaws.{AllBehind, AreInOrder}
use Rattle.hm_model.specs.RowsSaid.{Rows}
use Rattle.hm_model.proofs.KeyTests.{cases_key, key_cmp-is, key_cmp-same, same_key-is, same_key-refl}
use Rattle.hm_catalog.specs.Rows.{keys_in}
use Rattle.hm_catalog.specs.Spans.{rows_of}

-- tests that agree find the same rows
pub alike : (one other : CatKey → Bool) → ((key : CatKey) → one key ≡ other key) → (rows : Rows) → rows_of one rows ≡ rows_of other rows
alike one other same [] = refl
alike one other same ((k, row) ∷ more) = ap (λ b. if b then ((k, row) ∷ rows_of one more) else rows_of one more) (same k) ∙ ap (λ l. if other k then ((k, row) ∷ l) else l) (alike one other same more)

turned : (a b : CatKey) (o : Ordering) → key_cmp a b ≡ o → key_cmp b a ≡ ordering_reverse o
turned a b o e = keys_total.antisymm b a ∙ ap ordering_reverse e

differs_by : (a b : CatKey) → key_cmp a b ≢ Equal → same_key b a ≡ false
differs_by a b apart = elim (cases_key b a) [
  | inl same ↦ absurd (apart (key_cmp-same a b (sym same.1)))
  | inr other ↦ other.0
]

less_of : (o : Ordering) → o ≡ Less → o ≢ Equal
less_of o e h = let same : Less ≡ Equal = sym e ∙ h in cc

greater_of : (o : Ordering) → o ≡ Greater → o ≢ Equal
greater_of o e h = let same : Greater ≡ Equal = sym e ∙ h in cc

module _ (key : CatKey) where
  -- a test that the key passes finds its row
  pub asks_already : (asked : CatKey → Bool) → asked key ≡ true → (rows : Rows) → rows_of (λ k. asked k || same_key key k) rows ≡ rows_of asked rows
  asks_already asked own rows = alike (λ k. asked k || same_key key k) asked (λ k. by k (asked k) (same_key key k) refl refl) rows
    where
      by : (k : CatKey) (a s : Bool) → asked k ≡ a → same_key key k ≡ s → (a || s) ≡ a
      by k true s passes same = refl
      by k false false passes same = refl
      by k false true passes same = let own_too : asked k ≡ true = subst (λ q. asked q ≡ true) (same_key-is key k same) own in let clash : false ≡ true = sym passes ∙ own_too in cc

  -- a key with no row adds nothing
  pub has_none : (asked : CatKey → Bool) (rows : Rows) → row_at rows key ≡ None → rows_of (λ k. asked k || same_key key k) rows ≡ rows_of asked rows
  has_none asked [] none = refl
  has_none asked ((k, row) ∷ more) none = elim (cases_Bool (same_key key k)) [
    | inl same ↦ let some : Some row ≡ None = sym (cond-true (same_key key k) (Some row) (row_at more key) same) ∙ none in cc
    | inr off ↦
        let rest = has_none asked more (sym (cond-false (same_key key k) (Some row) (row_at more key) off) ∙ none) in
        ap (λ l. if asked k || same_key key k then ((k, row) ∷ l) else l) rest ∙ ap (λ b. if b then ((k, row) ∷ rows_of asked more) else rows_of asked more) (ap (λ s. asked k || s) off ∙ or_none (asked k))
  ]
    where
      or_none : (b : Bool) → (b || false) ≡ b
      or_none true = refl
      or_none false = refl

  absent : (rows : Rows) → AllBehind key (keys_in rows) → row_at rows key ≡ None
  absent [] behind = refl
  absent ((k, row) ∷ more) behind = cond-false (same_key key k) (Some row) (row_at more key) (differs_by k key (greater_of (key_cmp k key) (turned key k Less behind.0))) ∙ absent more behind.1

  behind_further : (k : CatKey) (rows : Rows) → key_cmp key k ≡ Less → AllBehind k (keys_in rows) → AllBehind key (keys_in rows)
  behind_further k [] less behind = tt
  behind_further k ((q, row) ∷ more) less behind = (keys_total.trans key k q less behind.0, behind_further k more less behind.1)

  behind_none : (asked : CatKey → Bool) (rows : Rows) → AllBehind key (keys_in rows) → rows_of (λ k. asked k || same_key key k) rows ≡ rows_of asked rows
  behind_none asked rows behind = has_none asked rows (absent rows behind)

  -- rows before the place are below the key, and those from it on above
  abbrev Fits : ℕ → Rows → Type 0
  Fits zero [] = Unit {0}
  Fits zero ((k, row) ∷ more) = (key_cmp k key ≡ Greater) × Fits zero more
  Fits (suc place) [] = ⊥
  Fits (suc place) ((k, row) ∷ more) = (key_cmp k key ≡ Less) × Fits place more

  fits_from : (rows : Rows) (place : ℕ) → place ≤ length rows → AllWithin (λ r. key_cmp r.0 key ≡ Less) rows 0 place → AllWithin (λ r. key_cmp r.0 key ≡ Greater) rows place (length rows) → Fits place rows
  fits_from [] zero le less greater = tt
  fits_from [] (suc place) le less greater = absurd (omega (arith, le))
  fits_from ((k, row) ∷ more) zero le less greater =
      (greater zero (k, row) (omega arith) (omega arith), fits_from more zero (omega arith) (λ j d low high. absurd (omega (arith, high))) (λ j d low high. greater (suc j) d (omega arith) (omega (arith, high))))
  fits_from ((k, row) ∷ more) (suc place) le less greater =
      (less zero (k, row) (omega arith) (omega arith), fits_from more place (omega (arith, le)) (λ j d low high. less (suc j) d (omega arith) (omega (arith, high))) (λ j d low high. greater (suc j) d (omega (arith, low)) (omega (arith, high))))

  only_first : (rows : Rows) (place : ℕ) → Fits zero rows → Fits (suc place) rows → ⊥
  only_first [] place above fits = fits
  only_first ((k, row) ∷ more) place above fits = let clash : Greater ≡ Less = sym above.0 ∙ fits.0 in cc

  above_all : (asked : CatKey → Bool) (rows : Rows) → AllBehind key (keys_in rows) → Fits zero (rows_of asked rows)
  above_all asked [] behind = tt
  above_all asked ((k, row) ∷ more) behind = by (asked k) (above_all asked more behind.1)
    where
      by : (b : Bool) → Fits zero (rows_of asked more) → Fits zero (if b then ((k, row) ∷ rows_of asked more) else rows_of asked more)
      by true rest = (turned key k Less behind.0, rest)
      by false rest = rest

  -- the row is put in after a lesser key, or where its own key stands
  behind_lesser : (row : CatRow) (k : CatKey) (r : CatRow) (asks : Bool) (place : ℕ) (found after : Rows) → key_cmp k key ≡ Less → Fits place (if asks then ((k, r) ∷ found) else found)
      → ((p : ℕ) → Fits p found → insert found p (key, row) ≡ after) → insert (if asks then ((k, r) ∷ found) else found) place (key, row) ≡ (if asks || false then ((k, r) ∷ after) else after)
  behind_lesser row k r true zero found after less fits rest = let clash : Greater ≡ Less = sym fits.0 ∙ less in cc
  behind_lesser row k r true (suc place) found after less fits rest = ap (λ l. (k, r) ∷ l) (rest place fits.1)
  behind_lesser row k r false place found after less fits rest = rest place fits

  at_own : (row : CatRow) (k : CatKey) (r : CatRow) (asks : Bool) (place : ℕ) (found : Rows) → key_cmp k key ≡ Equal → Fits place (if asks then ((k, r) ∷ found) else found) → Fits zero found
      → insert (if asks then ((k, r) ∷ found) else found) place (key, row) ≡ (key, row) ∷ found
  at_own row k r true zero found tied fits above = let clash : Greater ≡ Equal = sym fits.0 ∙ tied in cc
  at_own row k r true (suc place) found tied fits above = let clash : Less ≡ Equal = sym fits.0 ∙ tied in cc
  at_own row k r false zero found tied fits above = refl
  at_own row k r false (suc place) found tied fits above = absurd (only_first found place above fits)

  put_in : (asked : CatKey → Bool) (row : CatRow) (rows : Rows) (place : ℕ) → AreInOrder (keys_in rows) → row_at rows key ≡ Some row → Fits place (rows_of asked rows)
      → insert (rows_of asked rows) place (key, row) ≡ rows_of (λ k. asked k || same_key key k) rows
  put_in asked row [] place order there fits = cc
  put_in asked row ((k, r) ∷ more) place order there fits = by (λ p own f. put_in asked row more p order.1 own f) (key_cmp k key) refl
    where
      after : Rows
      after = rows_of (λ k. asked k || same_key key k) more

      by : ((p : ℕ) → row_at more key ≡ Some row → Fits p (rows_of asked more) → insert (rows_of asked more) p (key, row) ≡ rows_of (λ k. asked k || same_key key k) more)
          → (o : Ordering) → key_cmp k key ≡ o → insert (rows_of asked ((k, r) ∷ more)) place (key, row) ≡ rows_of (λ k. asked k || same_key key k) ((k, r) ∷ more)
      by rest Less e =
          let off : same_key key k ≡ false = differs_by k key (less_of (key_cmp k key) e) in
          let own : row_at more key ≡ Some row = sym (cond-false (same_key key k) (Some r) (row_at more key) off) ∙ there in
          behind_lesser row k r (asked k) place (rows_of asked more) after e fits (λ p f. rest p own f) ∙ sym (ap (λ s. if asked k || s then ((k, r) ∷ after) else after) off)
      by rest Equal e =
          let same : k ≡ key = key_cmp-is k key e in
          let on : same_key key k ≡ true = subst (λ q. same_key key q ≡ true) (sym same) (same_key-refl key) in
          let behind : AllBehind key (keys_in more) = subst (λ q. AllBehind q (keys_in more)) same order.0 in
          let own : Some r ≡ Some row = sym (cond-true (same_key key k) (Some r) (row_at more key) on) ∙ there in
          at_own row k r (asked k) place (rows_of asked more) e fits (above_all asked more behind)
          ∙ ap (λ l. (key, row) ∷ l) (sym (behind_none asked more behind))
          ∙ ap (λ q. (q, row) ∷ after) (sym same)
          ∙ ap (λ s. (k, s) ∷ after) (sym (some_is own))
          ∙ sym (cond-true (asked k || same_key key k) ((k, r) ∷ after) after (ap (λ s. asked k || s) on ∙ or_true (asked k)))
        where
          some_is : {X : Type 0} {x y : X} → Some x ≡ Some y → x ≡ y
          some_is {X} {x} e = ap (λ (o : Option X). option_map_or (λ z. z) o x) e

          or_true : (b : Bool) → (b || true) ≡ true
          or_true true = refl
          or_true false = refl
      by rest Greater e =
          let less : key_cmp key k ≡ Less = turned k key Greater e in
          let none : row_at ((k, r) ∷ more) key ≡ None = absent ((k, r) ∷ more) (less, behind_further k more less order.0) in
          let clash : None ≡ Some row = sym none ∙ there in cc

  -- the answers of a search for the key rise among rows in order
  climbs : (a b : CatKey) → key_cmp a b ≡ Less → ordering_index (key_cmp a key) ≤ ordering_index (key_cmp b key)
  climbs a b less = by (key_cmp b key) refl
    where
      most : (o : Ordering) → ordering_index o ≤ 2
      most Less = omega arith
      most Equal = omega arith
      most Greater = omega arith

      by : (o : Ordering) → key_cmp b key ≡ o → ordering_index (key_cmp a key) ≤ ordering_index o
      by Less e = rw (keys_total.trans a b key less e) (omega arith)
      by Equal e = rw (subst (λ q. key_cmp a q ≡ Less) (key_cmp-is b key e) less) (omega arith)
      by Greater e = most (key_cmp a key)

  rises : (rows : Rows) → AreInOrder (keys_in rows) → IsNonDecreasingBy (λ r. ordering_index (key_cmp r.0 key)) rows
  rises [] order i j d le within = absurd (omega (arith, within))
  rises ((k, row) ∷ more) order zero zero d le within = omega arith
  rises ((k, row) ∷ more) order zero (suc j) d le within = climbs k (slice_index_or more j d).0 (behind_at more j order.0 (omega (arith, within)) d)
    where
      behind_at : (rows : Rows) (j : ℕ) → AllBehind k (keys_in rows) → j < length rows → (d : CatKey × CatRow) → key_cmp k (slice_index_or rows j d).0 ≡ Less
      behind_at [] j behind lt d = absurd (omega (arith, lt))
      behind_at ((q, row) ∷ rows) zero behind lt d = behind.0
      behind_at ((q, row) ∷ rows) (suc j) behind lt d = behind_at rows j behind.1 (omega (arith, lt)) d
  rises ((k, row) ∷ more) order (suc i) zero d le within = absurd (omega (arith, le))
  rises ((k, row) ∷ more) order (suc i) (suc j) d le within = rises more order.1 i j d (omega (arith, le)) (omega (arith, within))

  -- a search among what was found ends at the key's row, or where it belongs
  module _ (asked : CatKey → Bool) (all found : Rows) (row : CatRow) (place : ℕ) (order : AreInOrder (keys_in all)) (there : row_at all key ≡ Some row) (was : found ≡ rows_of asked all) where
    passing : (rows some : Rows) → some ≡ rows_of asked rows → (j : ℕ) → j < length some → (d : CatKey × CatRow) → asked (slice_index_or some j d).0 ≡ true
    passing rows some is j lt d = subst (λ (l : Rows). All (λ r. asked r.0 ≡ true) l) (sym is) (filter_passes (λ (r : CatKey × CatRow). asked r.0) rows) j d lt

    pub found_at : place < length found → HoldsAt (λ (y : CatKey × CatRow). key_cmp y.0 key ≡ Equal) found place → found ≡ rows_of (λ k. asked k || same_key key k) all
    found_at within tied =
        let at : CatKey × CatRow = slice_index_or found place (key, row) in
        let passes : asked at.0 ≡ true = passing all found was place within (key, row) in
        was ∙ sym (asks_already asked (subst (λ q. asked q ≡ true) (key_cmp-is at.0 key (tied (key, row))) passes) all)

    pub found_gap : place ≤ length found → (IsNonDecreasingBy (λ r. ordering_index (key_cmp r.0 key)) found → IsPartitionPoint (λ (y : CatKey × CatRow). key_cmp y.0 key ≡ Less) (λ y. key_cmp y.0 key ≡ Greater) found place) → insert found place (key, row) ≡ rows_of (λ k. asked k || same_key key k) all
    found_gap within parts =
        let points = parts (subst (IsNonDecreasingBy (λ r. ordering_index (key_cmp r.0 key))) (sym was) (IsNonDecreasingBy-filter (λ r. ordering_index (key_cmp r.0 key)) (λ r. asked r.0) all (rises all order))) in
        ap (λ l. insert l place (key, row)) was ∙ put_in asked row all place order there (subst (Fits place) was (fits_from found place within points.0 points.1))
