-- Numbers that were chosen, with one more or one less.
use Rattle.std.proofs.Common.{◌≡◌, ℕ, List, map, Option, Some, Bool, false, not, ◌&&◌, ◌||◌, ◌==◌, if◌then◌else◌, ap, ◌∙◌, arith}
use Rattle.std.specs.Cmp.{IsTotalOrder}
use Rattle.std.proofs.lemmas.Bool.Decides.{nat_tests}
use Rattle.std.specs.List.{insert, remove}
use Rattle.std.specs.Ordering.{is_eq}
use Rattle.std.specs.declared.cmp.Ordering.{Ordering}
use Rattle.hm_places.specs.Chosen.{cmp_if, AreChosen, HasGap, HasAt}
use Rattle.hm_places.proofs.NameOrder.{total_if}
use Rattle.hm_places.proofs.Sorted.{rises-insert, rises-remove, has-insert, has-remove, map-insert, map-remove, framed}

module _ {K : Type 0} (cmp : K → K → Ordering) (total : IsTotalOrder cmp) (f : ℕ → Option K) where
  -- the same, of what is wanted in other words
  pub rewanted : (one other : Option K → Bool) (numbers : List ℕ) → AreChosen cmp f one numbers → ((key : Option K) → one key ≡ other key) → AreChosen cmp f other numbers
  rewanted one other numbers chosen same = record { rises = chosen.rises; are = λ key. chosen.are key ∙ same key }

  -- one less
  pub taken : (wanted : Option K → Bool) (numbers : List ℕ) (key : K) (at : ℕ) → AreChosen cmp f wanted numbers → HasAt (cmp_if cmp) (map f numbers) (Some key) at
      → AreChosen cmp f (λ other. not (is_eq (cmp_if cmp (Some key) other)) && wanted other) (remove numbers at)
  taken wanted numbers key at chosen there = record {
    rises = rw (map-remove (cmp_if cmp) (total_if cmp total) f numbers at) (rises-remove (cmp_if cmp) (total_if cmp total) (map f numbers) at chosen.rises);
    are = λ other. rw (map-remove (cmp_if cmp) (total_if cmp total) f numbers at)
        (has-remove (cmp_if cmp) (total_if cmp total) (Some key) (map f numbers) at other chosen.rises there ∙ ap (λ b. not (is_eq (cmp_if cmp (Some key) other)) && b) (chosen.are other));
  }

  -- another key of a number that wasn't chosen
  pub rekeyed : (wanted : Option K → Bool) (numbers : List ℕ) (g : ℕ → Option K) (number : ℕ) (key : Option K) → AreChosen cmp f wanted numbers → wanted (f number) ≡ false
      → ((m : ℕ) → g m ≡ (if m == number then key else f m)) → AreChosen cmp g wanted numbers
  rekeyed wanted numbers g number key chosen gone each =
      let same = framed (cmp_if cmp) (total_if cmp total) f g number key numbers each (chosen.are (f number) ∙ gone) in
      record { rises = rw same chosen.rises; are = λ other. rw same (chosen.are other) }

  -- one more
  pub added : (wanted : Option K → Bool) (numbers : List ℕ) (g : ℕ → Option K) (number : ℕ) (key : K) (at : ℕ) → AreChosen cmp f wanted numbers → wanted (f number) ≡ false
      → ((m : ℕ) → g m ≡ (if m == number then Some key else f m)) → HasGap (cmp_if cmp) (map f numbers) (Some key) at
      → AreChosen cmp g (λ other. is_eq (cmp_if cmp (Some key) other) || wanted other) (insert numbers at number)
  added wanted numbers g number key at chosen gone each gap =
      let same = framed (cmp_if cmp) (total_if cmp total) f g number (Some key) numbers each (chosen.are (f number) ∙ gone) in
      let new : g number ≡ Some key = each number ∙ grind (arith, nat_tests) in
      record {
        rises = rw (map-insert (cmp_if cmp) (total_if cmp total) g numbers at number, same, new) (rises-insert (cmp_if cmp) (total_if cmp total) (Some key) (map f numbers) at chosen.rises gap);
        are = λ other. rw (map-insert (cmp_if cmp) (total_if cmp total) g numbers at number, same, new)
            (has-insert (cmp_if cmp) (total_if cmp total) (Some key) (map f numbers) at other ∙ ap (λ b. is_eq (cmp_if cmp (Some key) other) || b) (chosen.are other));
      }
