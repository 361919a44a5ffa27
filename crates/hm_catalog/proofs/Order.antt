-- Rows in the order of their keys, where one is looked for or set.
use Rattle.std.proofs.Common.{Bor, ◌^◌, ◌≡◌, ◌≢◌, ℕ, suc, ◌+◌, ◌<◌, ◌≤◌, List, [], ◌∷◌, length, Bool, true, false, if◌then◌else◌, Option, Some, None, is_some, slice_get, refl, inl, inr, arith, ap, sym, ◌∙◌, subst}
use Rattle.std.specs.Option.{option_copied, option_flatten}
use Rattle.std.specs.Ordering.{is_eq, is_ne, ordering_reverse}
use Rattle.std.specs.declared.cmp.Ordering.{Ordering}
use Rattle.std.specs.declared.cmp.Ordering.TheVariants.{Less, Equal, Greater}
use Rattle.std.proofs.lemmas.Bool.{cond-true, cond-false}
use Rattle.hm_data.proofs.KeyOrder.{keys_total}
use Rattle.hm_data.specs.Keys.{key_cmp}
use Rattle.hm_data.specs.declared.catalog.CatKey.{CatKey}
use Rattle.hm_data.specs.declared.catalog.CatRow.{CatRow}
use Rattle.hm_model.specs.Catalog.{keep, row_at}
use Rattle.hm_model.specs.Keys.{same_key}
use Rattle.hm_model.specs.RowLaws.{AllBehind, AreInOrder}
use Rattle.hm_model.specs.RowsSaid.{Rows}
use Rattle.hm_model.proofs.KeyTests.{cases_key, key_cmp-is, key_cmp-same, same_key-refl}
use Rattle.hm_index.specs.Index.{IsRising, by_order, find, or_more, pairs_from, placed}
use Rattle.hm_catalog.specs.Kept.{Pairs, first_tied, keys_kept, one_if, present}
use Rattle.hm_catalog.specs.Rows.{keys_in, with_row, with_row_at}

-- rising keys are in order
rising_tail : (pair : CatKey × Option CatRow) (more : Pairs) → IsRising key_cmp (pair ∷ more) → IsRising key_cmp more
rising_tail pair more rises i j a b lt at_i at_j = rises (suc i) (suc j) a b (omega (arith, lt)) at_i at_j

rising_behind : (pair : CatKey × Option CatRow) (more : Pairs) → ((j : ℕ) (b : CatKey × Option CatRow) → slice_get more j ≡ Some b → key_cmp pair.0 b.0 ≡ Less) → AllBehind pair.0 (keys_kept more)
rising_behind pair [] each = tt
rising_behind pair (next ∷ more) each = (each 0 next refl, rising_behind pair more (λ j b at_j. each (suc j) b at_j))

in_order : (pairs : Pairs) → IsRising key_cmp pairs → AreInOrder (keys_kept pairs)
in_order [] rises = tt
in_order (pair ∷ more) rises = (rising_behind pair more (λ j b at_j. rises 0 (suc j) pair b (omega arith) refl at_j), in_order more (rising_tail pair more rises))

pub in_order_by : (cmp : CatKey → CatKey → Ordering) → cmp ≡ key_cmp → (shown pairs : Pairs) → shown ≡ pairs → IsRising cmp shown → AreInOrder (keys_kept pairs)
in_order_by cmp alike shown pairs same rises = subst (λ (l : Pairs). AreInOrder (keys_kept l)) same (in_order shown (subst (λ (o : CatKey → CatKey → Ordering). IsRising o shown) alike rises))

-- what is there of pairs
pub behind_keep : (k first : CatKey) (row : Option CatRow) (rows : Rows) → key_cmp k first ≡ Less → AllBehind k (keys_in rows) → AllBehind k (keys_in (keep true first row rows))
behind_keep k first None rows less behind = behind
behind_keep k first (Some row) rows less behind = (less, behind)

pub behind_present : (k : CatKey) (pairs : Pairs) → AllBehind k (keys_kept pairs) → AllBehind k (keys_in (present pairs))
behind_present k [] behind = tt
behind_present k ((first, row) ∷ more) behind = behind_keep k first row (present more) behind.0 (behind_present k more behind.1)

order_keep : (first : CatKey) (row : Option CatRow) (rows : Rows) → AllBehind first (keys_in rows) → AreInOrder (keys_in rows) → AreInOrder (keys_in (keep true first row rows))
order_keep first None rows behind order = order
order_keep first (Some row) rows behind order = (behind, order)

pub order_present : (pairs : Pairs) → AreInOrder (keys_kept pairs) → AreInOrder (keys_in (present pairs))
order_present [] order = tt
order_present ((first, row) ∷ more) order = order_keep first row (present more) (behind_present first more order.0) (order_present more order.1)

turned : (key first : CatKey) (o : Ordering) → key_cmp first key ≡ o → key_cmp key first ≡ ordering_reverse o
turned key first o e = keys_total.antisymm key first ∙ ap ordering_reverse e

pub behind_further : (k key : CatKey) (others : List CatKey) → key_cmp k key ≡ Less → AllBehind key others → AllBehind k others
behind_further k key [] less behind = tt
behind_further k key (first ∷ more) less behind = (keys_total.trans k key first less behind.0, behind_further k key more less behind.1)

-- a key before all others has no row
less_differs : (key first : CatKey) → key_cmp key first ≡ Less → same_key key first ≡ false
less_differs key first less = elim (cases_key key first) [
  | inl same ↦ let tied = key_cmp-same key first same.1 in cc
  | inr differs ↦ differs.0
]

pub none_behind : (key : CatKey) (rows : Rows) → AllBehind key (keys_in rows) → row_at rows key ≡ None
none_behind key [] behind = refl
none_behind key ((first, row) ∷ more) behind =
    cond-false (same_key key first) (Some row) (row_at more key) (less_differs key first behind.0) ∙ none_behind key more behind.1

-- a look-up among pairs
key_ties : (a b : CatKey) → is_eq (key_cmp a b) ≡ same_key b a
key_ties a b = elim (cases_key b a) [
  | inl same ↦ ap is_eq (key_cmp-same a b (sym same.1)) ∙ sym same.0
  | inr differs ↦ by differs.1 (key_cmp a b) refl ∙ sym differs.0
]
  where
    by : b ≢ a → (o : Ordering) → key_cmp a b ≡ o → is_eq o ≡ false
    by apart Less e = refl
    by apart Equal e = absurd (apart (sym (key_cmp-is a b e)))
    by apart Greater e = refl

keep_other : (key first : CatKey) (row : Option CatRow) (rows : Rows) → same_key key first ≡ false → row_at (keep true first row rows) key ≡ row_at rows key
keep_other key first None rows differs = refl
keep_other key first (Some row) rows differs = cond-false (same_key key first) (Some row) (row_at rows key) differs

keep_same : (key first : CatKey) (row : Option CatRow) (rows : Rows) → same_key key first ≡ true → row_at rows key ≡ None → row_at (keep true first row rows) key ≡ row
keep_same key first None rows same none = none
keep_same key first (Some row) rows same none = cond-true (same_key key first) (Some row) (row_at rows key) same

pub found_row : (pairs : Pairs) (key : CatKey) → AreInOrder (keys_kept pairs) → option_flatten (find key_cmp pairs key) ≡ row_at (present pairs) key
found_row [] key order = refl
found_row ((first, row) ∷ more) key order = elim (cases_key key first) [
  | inl same ↦
      ap (λ b. option_flatten (if b then Some row else find key_cmp more key)) (key_ties first key ∙ same.0)
      ∙ sym (keep_same key first row (present more) same.0 (none_behind key (present more) (subst (λ k. AllBehind k (keys_in (present more))) (sym same.1) (behind_present first more order.0))))
  | inr differs ↦
      ap (λ b. option_flatten (if b then Some row else find key_cmp more key)) (key_ties first key ∙ differs.0)
      ∙ found_row more key order.1
      ∙ sym (keep_other key first row (present more) differs.0)
]

-- the first of the pairs that don't stand below a key is its own, or the key has no row
module _ (key : CatKey) where
  none_tied : (k : CatKey) (more : Pairs) → key_cmp key k ≡ Less → AllBehind k (keys_kept more) → row_at (present more) key ≡ None
  none_tied k more less behind = none_behind key (present more) (behind_present key more (behind_further key k (keys_kept more) less behind))

  tied_at : (k : CatKey) (row : Option CatRow) (more : Pairs) (o : Ordering) → key_cmp k key ≡ o → (o ≡ Less → ⊥) → AllBehind k (keys_kept more) → (if is_eq (key_cmp k key) then row else None) ≡ row_at (keep true k row (present more)) key
  tied_at k row more Less e on behind = absurd (on refl)
  tied_at k row more Equal e on behind =
      let same : k ≡ key = key_cmp-is k key e in
      cond-true (is_eq (key_cmp k key)) row None (ap is_eq e)
      ∙ sym (keep_same key k row (present more) (subst (λ q. same_key key q ≡ true) (sym same) (same_key-refl key)) (subst (λ q. row_at (present more) q ≡ None) same (none_behind k (present more) (behind_present k more behind))))
  tied_at k row more Greater e on behind =
      let less : key_cmp key k ≡ Less = turned key k Greater e in
      cond-false (is_eq (key_cmp k key)) row None (ap is_eq e)
      ∙ sym (keep_other key k row (present more) (less_differs key k less) ∙ none_tied k more less behind)

  first_row : (pairs : Pairs) → AreInOrder (keys_kept pairs) → first_tied key (pairs_from key_cmp pairs key) ≡ row_at (present pairs) key
  first_row [] order = refl
  first_row ((k, row) ∷ more) order = by (first_row more order.1) (key_cmp k key) refl
    where
      by : first_tied key (pairs_from key_cmp more key) ≡ row_at (present more) key → (o : Ordering) → key_cmp k key ≡ o → first_tied key (or_more o (k, row) more (pairs_from key_cmp more key)) ≡ row_at (keep true k row (present more)) key
      by rest Less e = rest ∙ sym (keep_other key k row (present more) (less_differs_from k e))
        where
          less_differs_from : (k : CatKey) → key_cmp k key ≡ Less → same_key key k ≡ false
          less_differs_from k less = elim (cases_key key k) [
            | inl same ↦ let tied = key_cmp-same k key (sym same.1) in cc
            | inr differs ↦ differs.0
          ]
      by rest Equal e = tied_at k row more Equal e (λ h. cc) order.0
      by rest Greater e = tied_at k row more Greater e (λ h. cc) order.0

-- a row that is set
pub with_behind : (key : CatKey) (after : Option CatRow) (rows : Rows) → AllBehind key (keys_in rows) → with_row key after rows ≡ keep true key after rows
with_behind key after [] behind = refl
with_behind key after ((first, row) ∷ more) behind = ap (λ o. with_row_at o key after (first, row) more (with_row key after more)) behind.0

pub after_first : (first key : CatKey) (row after : Option CatRow) (rows : Rows) → key_cmp key first ≡ Greater → with_row key after (keep true first row rows) ≡ keep true first row (with_row key after rows)
after_first first key None after rows greater = refl
after_first first key (Some row) after rows greater = ap (λ o. with_row_at o key after (first, row) rows (with_row key after rows)) greater

pub over_first : (first key : CatKey) (row after : Option CatRow) (rows : Rows) → key_cmp key first ≡ Equal → AllBehind key (keys_in rows) → with_row key after (keep true first row rows) ≡ keep true key after rows
over_first first key None after rows tied behind = with_behind key after rows behind
over_first first key (Some row) after rows tied behind = ap (λ o. with_row_at o key after (first, row) rows (with_row key after rows)) tied

pub row_placed : (pairs : Pairs) (key : CatKey) (after : Option CatRow) → AreInOrder (keys_kept pairs) → present (placed key_cmp pairs key after) ≡ with_row key after (present pairs)
row_placed [] key after order = refl
row_placed ((first, row) ∷ more) key after order = by (row_placed more key after order.1) (key_cmp first key) refl
  where
    by : present (placed key_cmp more key after) ≡ with_row key after (present more) → (o : Ordering) → key_cmp first key ≡ o
        → present (by_order o (first, row) more (placed key_cmp more key after) key after) ≡ with_row key after (keep true first row (present more))
    by rest Less e = ap (keep true first row) rest ∙ sym (after_first first key row after (present more) (turned key first Less e))
    by rest Equal e =
        sym (over_first first key row after (present more) (turned key first Equal e) (subst (λ k. AllBehind k (keys_in (present more))) (key_cmp-is first key e) (behind_present first more order.0)))
    by rest Greater e =
        let less = turned key first Greater e in
        sym (with_behind key after (keep true first row (present more)) (behind_keep key first row (present more) less (behind_further key first (keys_in (present more)) less (behind_present first more order.0))))

-- how many there are then
count_keep : (key : CatKey) (after : Option CatRow) (rows : Rows) → length (keep true key after rows) ≡ length rows + one_if (is_some after)
count_keep key None rows = omega arith
count_keep key (Some row) rows = omega arith

pub count_set : (rows : Rows) (key : CatKey) (after : Option CatRow) → AreInOrder (keys_in rows) → length (with_row key after rows) + one_if (is_some (row_at rows key)) ≡ length rows + one_if (is_some after)
count_set [] key after order = let n = count_keep key after [] in omega (arith, n)
count_set ((first, row) ∷ more) key after order = by (count_set more key after order.1) (key_cmp key first) refl
  where
    by : length (with_row key after more) + one_if (is_some (row_at more key)) ≡ length more + one_if (is_some after) → (o : Ordering) → key_cmp key first ≡ o
        → length (with_row_at o key after (first, row) more (with_row key after more)) + one_if (is_some (if same_key key first then Some row else row_at more key)) ≡ suc (length more) + one_if (is_some after)
    by rest Less e =
        let none = none_behind key ((first, row) ∷ more) (e, behind_further key first (keys_in more) e order.0) in
        let n = count_keep key after ((first, row) ∷ more) in
        rw none (omega (arith, n))
    by rest Equal e =
        let same : same_key key first ≡ true = subst (λ k. same_key key k ≡ true) (key_cmp-is key first e) (same_key-refl key) in
        let n = count_keep key after more in
        rw (cond-true (same_key key first) (Some row) (row_at more key) same) (omega (arith, n))
    by rest Greater e =
        let differs : same_key key first ≡ false = elim (cases_key key first) [ inl same ↦ let tied = key_cmp-same key first same.1 in cc | inr apart ↦ apart.0 ] in
        rw (cond-false (same_key key first) (Some row) (row_at more key) differs) (omega (arith, rest))

pub fewer_present : (pairs : Pairs) → length (present pairs) ≤ length pairs
fewer_present [] = omega arith
fewer_present ((first, None) ∷ more) = let rest = fewer_present more in omega (arith, rest)
fewer_present ((first, Some row) ∷ more) = let rest = fewer_present more in omega (arith, rest)

module _ (cmp : CatKey → CatKey → Ordering) (alike : cmp ≡ key_cmp) where
  pub get_by : (pairs : Pairs) (key : CatKey) (got : Option (Option CatRow)) → AreInOrder (keys_kept pairs) → got ≡ find cmp pairs key → option_flatten got ≡ row_at (present pairs) key
  get_by pairs key got order got_is = ap option_flatten (got_is ∙ ap (λ o. find o pairs key) alike) ∙ found_row pairs key order

  pub first_by : (pairs shown : Pairs) (key : CatKey) → AreInOrder (keys_kept pairs) → shown ≡ pairs_from cmp pairs key → first_tied key shown ≡ row_at (present pairs) key
  first_by pairs shown key order is_shown = ap (first_tied key) (is_shown ∙ ap (λ o. pairs_from o pairs key) alike) ∙ first_row key pairs order

  tied_by : (first key : CatKey) → is_ne (cmp first key) ≡ false → key_cmp first key ≡ Equal
  tied_by first key tied = by (key_cmp first key) (sym (ap (λ o. is_ne (o first key)) alike) ∙ tied)
    where
      by : (o : Ordering) → is_ne o ≡ false → o ≡ Equal
      by Less e = cc
      by Equal e = refl
      by Greater e = cc

  apart_by : (first key : CatKey) → is_ne (cmp first key) ≡ true → is_eq (key_cmp first key) ≡ false
  apart_by first key apart = by (key_cmp first key) (sym (ap (λ o. is_ne (o first key)) alike) ∙ apart)
    where
      by : (o : Ordering) → is_ne o ≡ true → is_eq o ≡ false
      by Less e = refl
      by Equal e = cc
      by Greater e = refl

  pub own_key : (first key : CatKey) → is_ne (cmp first key) ≡ false → first ≡ key
  own_key first key tied = key_cmp-is first key (tied_by first key tied)

  module _ (pairs shown more : Pairs) (pair : CatKey × Option CatRow) (key : CatKey) (order : AreInOrder (keys_kept pairs)) (is_shown : shown ≡ pairs_from cmp pairs key) (begins : shown ≡ pair ∷ more) where
    pub other_first : is_ne (cmp pair.0 key) ≡ true → None ≡ row_at (present pairs) key
    other_first apart =
        sym (ap (first_tied key) begins ∙ cond-false (is_eq (key_cmp pair.0 key)) pair.1 None (apart_by pair.0 key apart)) ∙ first_by pairs shown key order is_shown

    pub own_first : is_ne (cmp pair.0 key) ≡ false → pair.1 ≡ row_at (present pairs) key
    own_first tied =
        sym (ap (first_tied key) begins ∙ cond-true (is_eq (key_cmp pair.0 key)) pair.1 None (ap is_eq (tied_by pair.0 key tied))) ∙ first_by pairs shown key order is_shown

  pub set_by : (pairs new : Pairs) (key : CatKey) (after : Option CatRow) → AreInOrder (keys_kept pairs) → new ≡ placed cmp pairs key after → present new ≡ with_row key after (present pairs)
  set_by pairs new key after order set_is = ap present (set_is ∙ ap (λ o. placed o pairs key after) alike) ∙ row_placed pairs key after order

some_copied : {X : Type 0} (o : Option (Bor X)) → is_some (option_copied o) ≡ is_some o
some_copied None = refl
some_copied (Some x) = refl

-- the count of what is there after a row that was set
module _ (pairs new : Pairs) (key : CatKey) (after : Option CatRow) (got : Option (Bor CatRow)) (count : ℕ) (had has : Bool) (order : AreInOrder (keys_kept pairs)) (set_is : present new ≡ with_row key after (present pairs)) (got_is : option_copied got ≡ row_at (present pairs) key) (had_is : had ≡ is_some got) (has_is : has ≡ is_some after) (count_is : length (present pairs) ≡ count) where
  pub counted : length (present new) + one_if had ≡ count + one_if has
  counted =
      let there : is_some (row_at (present pairs) key) ≡ had = ap is_some (sym got_is) ∙ some_copied got ∙ sym had_is in
      ap (λ (l : Rows). length l + one_if had) set_is
      ∙ ap (λ b. length (with_row key after (present pairs)) + one_if b) (sym there)
      ∙ count_set (present pairs) key after (order_present pairs order)
      ∙ ap (λ b. length (present pairs) + one_if b) (sym has_is)
      ∙ ap (λ n. n + one_if has) count_is

  pub count_fits : length new < 2 ^ 64 → count + one_if has < 2 ^ 64 + one_if had
  count_fits fits = let most = fewer_present new in let sum = counted in omega (arith, most, sum, fits)
