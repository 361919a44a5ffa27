-- Rows in the order of their keys, and what a binary search of them finds.
use Rattle.std.proofs.Common.{◌≡◌, ℕ, zero, suc, ◌<◌, [], ◌∷◌, Some, None, true, false, length, get_or, refl, ap, sym, ◌∙◌, add-one, arith, inl, inr}
use Rattle.std.proofs.lemmas.Bool.{and_parts, cases_lt, cond-true, cond-false}
use Rattle.std.proofs.lemmas.List.Sorted.{searchable_from_sorted}
use Rattle.std.specs.List.Sorted.{IsNonDecreasingBy, IsPartitionPoint}
use Rattle.std.specs.Ordering.{is_lt, ordering_index, ordering_reverse}
use Rattle.std.specs.declared.cmp.Ordering.{Ordering}
use Rattle.std.specs.declared.cmp.Ordering.TheVariants.{Less, Equal, Greater}
use Rattle.hm_data.proofs.KeyOrder.{keys_total}
use Rattle.hm_data.specs.Keys.{key_cmp}
use Rattle.hm_data.specs.declared.catalog.CatKey.{CatKey}
use Rattle.hm_data.specs.declared.catalog.CatRow.{CatRow}
use Rattle.hm_model.proofs.KeyTests.{cases_key, key_cmp-is, key_cmp-same, same_key-refl}
use Rattle.hm_model.specs.Catalog.{row_at}
use Rattle.hm_model.specs.Keys.{same_key}
use Rattle.hm_model.specs.RowsSaid.{Rows}
use Rattle.hm_views.specs.Order.{keys_rise, keys_rise_from}

less_if : (o : Ordering) → is_lt o ≡ true → o ≡ Less
less_if Less on = refl
less_if Equal on = cc
less_if Greater on = cc

-- the other way round, no key is below the one before
not_back : (a b : CatKey) → key_cmp a b ≡ Less → is_lt (key_cmp b a) ≡ false
not_back a b less = ap is_lt (keys_total.antisymm b a ∙ ap ordering_reverse less)

-- keys that compare as other than equal aren't the same
differs : (a b : CatKey) (o : Ordering) → key_cmp a b ≡ o → (o ≡ Equal → ⊥) → same_key b a ≡ false
differs a b o is apart = elim (cases_key b a) [
  | inl same ↦ absurd (apart (sym is ∙ key_cmp-same a b (sym same.1)))
  | inr other ↦ other.0
]

-- what the first of rising keys says of the next one
first_of : (key next : CatKey) (row : CatRow) (more : Rows) → keys_rise_from key ((next, row) ∷ more) ≡ true → (key_cmp key next ≡ Less) × (keys_rise_from next more ≡ true)
first_of key next row more rise =
    let parts = and_parts (is_lt (key_cmp key next)) (keys_rise_from next more) rise in
    (less_if (key_cmp key next) parts.0, parts.1)

-- a key is below each of those after it
below_all : (key : CatKey) (rows : Rows) (i : ℕ) (d : CatKey × CatRow) → keys_rise_from key rows ≡ true → i < length rows → key_cmp key (get_or rows i d).0 ≡ Less
below_all key [] i d rise lt = absurd (omega (arith, lt))
below_all key ((next, row) ∷ more) zero d rise lt = (first_of key next row more rise).0
below_all key ((next, row) ∷ more) (suc i) d rise lt =
    let first = first_of key next row more rise in
    keys_total.trans key next (get_or more i d).0 first.0 (below_all next more i d first.1 (omega (arith, lt)))

rest_rises : (key : CatKey) (rows : Rows) → keys_rise_from key rows ≡ true → keys_rise rows ≡ true
rest_rises key [] rise = refl
rest_rises key ((next, row) ∷ more) rise = (first_of key next row more rise).1

-- no row's key is below that of the row before
sorted : (rows : Rows) → keys_rise rows ≡ true → (k : ℕ) (d : CatKey × CatRow) → suc k < length rows → is_lt (key_cmp (get_or rows (suc k) d).0 (get_or rows k d).0) ≡ false
sorted [] rise k d lt = absurd (omega (arith, lt))
sorted ((key, row) ∷ more) rise zero d lt = not_back key (get_or more 0 d).0 (below_all key more 0 d rise (omega (arith, lt)))
sorted ((key, row) ∷ more) rise (suc k) d lt = sorted more (rest_rises key more rise) k d (omega (arith, lt))

module _ (key : CatKey) where
  -- the row at a place whose key compares as equal
  pub found : (rows : Rows) (i : ℕ) (d : CatKey × CatRow) → keys_rise rows ≡ true → i < length rows → key_cmp (get_or rows i d).0 key ≡ Equal → row_at rows key ≡ Some (get_or rows i d).1
  found [] i d rise lt tied = absurd (omega (arith, lt))
  found ((first, row) ∷ more) zero d rise lt tied =
      cond-true (same_key key first) (Some row) (row_at more key) (ap (same_key key) (key_cmp-is first key tied) ∙ same_key-refl key)
  found ((first, row) ∷ more) (suc i) d rise lt tied =
      let here : key_cmp first key ≡ Less = ap (key_cmp first) (sym (key_cmp-is (get_or more i d).0 key tied)) ∙ below_all first more i d rise (omega (arith, lt)) in
      cond-false (same_key key first) (Some row) (row_at more key) (differs first key Less here (λ e. cc))
      ∙ found more i d (rest_rises first more rise) (omega (arith, lt)) tied

  none_same : (rows : Rows) → ((i : ℕ) (d : CatKey × CatRow) → i < length rows → key_cmp (get_or rows i d).0 key ≡ Equal → ⊥) → row_at rows key ≡ None
  none_same [] none = refl
  none_same ((first, row) ∷ more) none =
      cond-false (same_key key first) (Some row) (row_at more key) (differs first key (key_cmp first key) refl (none zero (first, row) (omega arith)))
      ∙ none_same more (λ i d lt. none (suc i) d (omega (arith, lt)))

  -- no row has a key that none compares as equal to
  pub absent : (rows : Rows) (i : ℕ) → keys_rise rows ≡ true
      → (IsNonDecreasingBy (λ (row : CatKey × CatRow). ordering_index (key_cmp row.0 key)) rows → IsPartitionPoint (λ (row : CatKey × CatRow). key_cmp row.0 key ≡ Less) (λ row. key_cmp row.0 key ≡ Greater) rows i)
      → row_at rows key ≡ None
  absent rows i rise split =
      let parts = split (searchable_from_sorted keys_total (λ (row : CatKey × CatRow). row.0) rows key (λ k d low high. ap (λ n. is_lt (key_cmp (get_or rows n d).0 (get_or rows k d).0)) (add-one k) ∙ sorted rows rise k d (omega (arith, high)))) in
      none_same rows (λ j d lt tied. elim (cases_lt j i) [
        | inl below ↦ (let less = parts.0 j d (omega arith) below in cc)
        | inr above ↦ (let more = parts.1 j d above lt in cc)
      ])
