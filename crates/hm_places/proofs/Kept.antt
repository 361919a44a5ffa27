-- The keys of the rows whose values pass a test.
use Rattle.std.proofs.Common.{◌≡◌, ℕ, zero, suc, List, [], ◌∷◌, map, slice_get, Option, Some, None, Bool, false, refl, inl, inr, arith, sym, ◌∙◌}
use Rattle.std.specs.Cmp.{IsTotalOrder}
use Rattle.std.specs.List.{filter}
use Rattle.std.specs.Ordering.{is_eq}
use Rattle.std.specs.declared.cmp.Ordering.{Ordering}
use Rattle.std.specs.declared.cmp.Ordering.TheVariants.{Less}
use Rattle.std.proofs.lemmas.Bool.{cases_Bool}
use Rattle.hm_index.specs.Index.{IsRising, find}
use Rattle.hm_places.specs.Chosen.{IsBelow, Rises, has}
use Rattle.hm_places.proofs.Sorted.{is_equal, below-has}

abbrev pub test_if : {V : Type 0} → (V → Bool) → Option V → Bool
test_if test None = false
test_if test (Some value) = test value

module _ {K V : Type 0} (cmp : K → K → Ordering) (total : IsTotalOrder cmp) (test : V → Bool) where
  abbrev pub kept : List (K × V) → List K
  kept rows = map (λ row. row.0) (filter (λ row. test row.1) rows)

  below : (key : K) (rows : List (K × V)) → ((j : ℕ) (b : K × V) → slice_get rows j ≡ Some b → cmp key b.0 ≡ Less) → IsBelow cmp key (kept rows)
  below key [] each = tt
  below key (row ∷ rows) each = elim (cases_Bool (test row.1)) [
    | inl on ↦ rw on (each zero row refl, below key rows (λ j b there. each (suc j) b there))
    | inr off ↦ rw off (below key rows (λ j b there. each (suc j) b there))
  ]

  pub kept_rise : (rows : List (K × V)) → IsRising cmp rows → Rises cmp (kept rows)
  kept_rise [] rising = tt
  kept_rise (row ∷ rows) rising =
      let more = kept_rise rows (λ i j a b lt one two. rising (suc i) (suc j) a b (omega arith) one two) in
      let first = below row.0 rows (λ j b there. rising zero (suc j) row b (omega arith) refl there) in
      elim (cases_Bool (test row.1)) [ inl on ↦ rw on (first, more) | inr off ↦ rw off more ]

  pub kept_has : (rows : List (K × V)) → IsRising cmp rows → (key : K) → has cmp (kept rows) key ≡ test_if test (find cmp rows key)
  kept_has [] rising key = refl
  kept_has (row ∷ rows) rising key =
      let more = kept_has rows (λ i j a b lt one two. rising (suc i) (suc j) a b (omega arith) one two) key in
      let first = below row.0 rows (λ j b there. rising zero (suc j) row b (omega arith) refl there) in
      elim (cases_Bool (is_eq (cmp row.0 key))) [
        | inl on ↦ elim (cases_Bool (test row.1)) [
          | inl is ↦ rw (is, on) (sym is)
          | inr not ↦ rw (not, on) (below-has cmp total row.0 key (kept rows) (is_equal (cmp row.0 key) on) first ∙ sym not)
        ]
        | inr off ↦ elim (cases_Bool (test row.1)) [ inl is ↦ rw (is, off) more | inr not ↦ rw (not, off) more ]
      ]
