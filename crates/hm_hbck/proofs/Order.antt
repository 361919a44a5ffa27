-- How comparisons in turn stand to their parts.
use Rattle.std.proofs.Common.{◌≡◌, Bool, true, false, refl, ap, sym, ◌∙◌}
use Rattle.std.specs.Ordering.{is_eq, is_lt, ordering_reverse, ordering_then}
use Rattle.std.specs.declared.cmp.Ordering.{Ordering}
use Rattle.std.specs.declared.cmp.Ordering.TheVariants.{Less, Equal, Greater}
use Rattle.std.proofs.lemmas.Bool.{false≢true}

pub true_less : Less ≡ Equal → ⊥
true_less e = cc

pub equal_is : (o : Ordering) → is_eq o ≡ true → o ≡ Equal
equal_is Less e = absurd (false≢true e)
equal_is Equal e = refl
equal_is Greater e = absurd (false≢true e)

pub less_is : (o : Ordering) → is_lt o ≡ true → o ≡ Less
less_is Less e = refl
less_is Equal e = absurd (false≢true e)
less_is Greater e = absurd (false≢true e)

-- neither is below the other
pub tied : (o p : Ordering) → o ≡ ordering_reverse p → is_lt o ≡ false → is_lt p ≡ false → o ≡ Equal
tied Less p mirror one other = absurd (false≢true (sym one))
tied Equal p mirror one other = refl
tied Greater Less mirror one other = absurd (false≢true (sym other))
tied Greater Equal mirror one other = cc
tied Greater Greater mirror one other = cc

-- what isn't below by two comparisons isn't by the first, and where that ties, not by the second
pub first_not : (o p : Ordering) → is_lt (ordering_then o p) ≡ false → is_lt o ≡ false
first_not Less p e = e
first_not Equal p e = refl
first_not Greater p e = refl

pub second_not : (o p : Ordering) → o ≡ Equal → is_lt (ordering_then o p) ≡ false → is_lt p ≡ false
second_not Less p tie e = absurd (true_less tie)
second_not Equal p tie e = e
second_not Greater p tie e = cc

-- what ties by two ties by the second
pub second_ties : (o p : Ordering) → ordering_then o p ≡ Equal → p ≡ Equal
second_ties Less p e = absurd (true_less e)
second_ties Equal p e = e
second_ties Greater p e = cc

pub both_tie : (o p : Ordering) → ordering_then o p ≡ Equal → (o ≡ Equal) × (p ≡ Equal)
both_tie Less p e = absurd (true_less e)
both_tie Equal p e = (refl, e)
both_tie Greater p e = cc

-- a test that only what is one passes answers the same both ways
pub alike : {K : Type 0} (test : K → K → Bool) → ((a b : K) → test a b ≡ true → a ≡ b) → ((a : K) → test a a ≡ true) → (a b : K) → test a b ≡ test b a
alike test is itself a b = by (test a b) (test b a) refl refl
  where
    by : (p q : Bool) → test a b ≡ p → test b a ≡ q → p ≡ q
    by true true e f = refl
    by false false e f = refl
    by true false e f = sym (sym f ∙ ap (test b) (is a b e) ∙ itself b)
    by false true e f = sym e ∙ ap (test a) (is b a f) ∙ itself a
