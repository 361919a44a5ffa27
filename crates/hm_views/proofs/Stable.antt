-- What a stable sort makes of a list is what putting each element among those after it makes of it.
use Rattle.std.proofs.Common.{◌≡◌, ℕ, zero, suc, ◌<◌, ◌≤◌, List, [], ◌∷◌, length, get_or, Bool, true, false, cond, refl, ap, sym, ◌∙◌, subst, arith}
use Rattle.std.proofs.lemmas.Bool.{cond-true, cond-false}
use Rattle.std.proofs.lemmas.List.Sorted.{sorted_far}
use Rattle.std.specs.Cmp.{IsStrictWeakOrder}
use Rattle.std.specs.List.{filter}
use Rattle.std.specs.List.Sorted.{IsSortedBy, IsStableBy, ties}

-- what is in front of equal lists is equal, and so are the rest
heads : {X : Type 0} (x y : X) (xs ys : List X) → x ∷ xs ≡ y ∷ ys → x ≡ y
heads x y xs ys e = cc

tails : {X : Type 0} (x y : X) (b : Bool) (xs ys : List X) → x ≡ y → cond b (x ∷ xs) xs ≡ cond b (y ∷ ys) ys → xs ≡ ys
tails x y true xs ys same e = cc
tails x y false xs ys same e = e

swapped : {X : Type 0} (x y : X) (a b : Bool) (l : List X) → (a ≡ true → b ≡ true → ⊥) → cond b (y ∷ cond a (x ∷ l) l) (cond a (x ∷ l) l) ≡ cond a (x ∷ cond b (y ∷ l) l) (cond b (y ∷ l) l)
swapped x y true true l apart = absurd (apart refl refl)
swapped x y true false l apart = refl
swapped x y false true l apart = refl
swapped x y false false l apart = refl

module _ {X : Type 0} (lt : X → X → Bool) (order : IsStrictWeakOrder lt) where
  never_less : (x : X) → lt x x ≡ false
  never_less x = by (lt x x) refl
    where
      by : (b : Bool) → lt x x ≡ b → lt x x ≡ false
      by true e = order.one_way x x e
      by false e = e

  tied : (x y : X) → lt x y ≡ false → lt y x ≡ false → ties lt x y ≡ true
  tied x y p q = rw (p, q) refl

  tie_parts : (x y : X) → ties lt x y ≡ true → (lt x y ≡ false) × (lt y x ≡ false)
  tie_parts x y h = by (lt x y) (lt y x) refl refl
    where
      by : (a b : Bool) → lt x y ≡ a → lt y x ≡ b → (lt x y ≡ false) × (lt y x ≡ false)
      by true b p q = let clash : false ≡ true = sym (rw p refl) ∙ h in cc
      by false true p q = let clash : false ≡ true = sym (rw (p, q) refl) ∙ h in cc
      by false false p q = (p, q)

  -- what ties with both makes them tie
  no_third : (x y z : X) → lt y x ≡ true → ties lt z x ≡ true → ties lt z y ≡ true → ⊥
  no_third x y z less p q =
      let clash : true ≡ false = sym less ∙ order.chain y z x (tie_parts z y q).1 (tie_parts z x p).0 in cc

  -- none of the list is below this one
  abbrev NoneBelow : X → List X → Type 0
  NoneBelow x [] = Unit {0}
  NoneBelow x (y ∷ ys) = (lt y x ≡ false) × NoneBelow x ys

  -- none is below one before it
  abbrev Ascends : List X → Type 0
  Ascends [] = Unit {0}
  Ascends (x ∷ xs) = NoneBelow x xs × Ascends xs

  none_below : (x : X) (xs : List X) → ((k : ℕ) → k < length xs → lt (get_or xs k x) x ≡ false) → NoneBelow x xs
  none_below x [] h = tt
  none_below x (y ∷ ys) h = (h zero (omega arith), none_below x ys (λ k p. h (suc k) (omega (arith, p))))

  ascends : (xs : List X) → ((i j : ℕ) (d : X) → i ≤ j → j < length xs → lt (get_or xs j d) (get_or xs i d) ≡ false) → Ascends xs
  ascends [] h = tt
  ascends (x ∷ xs) h = (none_below x xs (λ k p. h zero (suc k) x (omega arith) (omega (arith, p))), ascends xs (λ i j d p q. h (suc i) (suc j) d (omega (arith, p)) (omega (arith, q))))

  further : (x y : X) (ys : List X) → lt y x ≡ false → NoneBelow y ys → NoneBelow x ys
  further x y [] le none = tt
  further x y (z ∷ ys) le none = (order.chain z y x none.0 le, further x y ys le none.1)

  -- what stands first among those that tie with it is one of the list
  not_below : (z y : X) (l rest : List X) → NoneBelow y l → filter (ties lt z) l ≡ z ∷ rest → lt z y ≡ false
  not_below z y [] rest none is = cc
  not_below z y (w ∷ l) rest none is = by (λ on. not_below z y l rest none.1 on) (ties lt z w) refl
    where
      by : (filter (ties lt z) l ≡ z ∷ rest → lt z y ≡ false) → (b : Bool) → ties lt z w ≡ b → lt z y ≡ false
      by on true e =
          let first : w ≡ z = heads w z (filter (ties lt z) l) rest (sym (cond-true (ties lt z w) (w ∷ filter (ties lt z) l) (filter (ties lt z) l) e) ∙ is) in
          ap (λ v. lt v y) (sym first) ∙ none.0
      by on false e = on (sym (cond-false (ties lt z w) (w ∷ filter (ties lt z) l) (filter (ties lt z) l) e) ∙ is)

  -- those that tie with the first begin with it
  with_itself : (y : X) (ys : List X) → filter (ties lt y) (y ∷ ys) ≡ y ∷ filter (ties lt y) ys
  with_itself y ys = cond-true (ties lt y y) (y ∷ filter (ties lt y) ys) (filter (ties lt y) ys) (tied y y (never_less y) (never_less y))

  -- one list alone ascends with ties as they stand
  unique : (ys zs : List X) → Ascends ys → Ascends zs → IsStableBy lt zs ys → ys ≡ zs
  unique [] [] up up' same = refl
  unique [] (z ∷ zs) up up' same = let clash : [] ≡ z ∷ filter (ties lt z) zs = same z ∙ with_itself z zs in cc
  unique (y ∷ ys) [] up up' same = let clash : [] ≡ y ∷ filter (ties lt y) ys = sym (same y) ∙ with_itself y ys in cc
  unique (y ∷ ys) (z ∷ zs) up up' same =
      let low : lt z y ≡ false = not_below z y (y ∷ ys) (filter (ties lt z) zs) (never_less y, up.0) (same z ∙ with_itself z zs) in
      let high : lt y z ≡ false = not_below y z (z ∷ zs) (filter (ties lt y) ys) (never_less z, up'.0) (sym (same y) ∙ with_itself y ys) in
      let both : filter (ties lt y) (z ∷ zs) ≡ z ∷ filter (ties lt y) zs = cond-true (ties lt y z) (z ∷ filter (ties lt y) zs) (filter (ties lt y) zs) (tied y z high low) in
      let first : y ≡ z = heads y z (filter (ties lt y) ys) (filter (ties lt y) zs) (sym (with_itself y ys) ∙ same y ∙ both) in
      let rest : ys ≡ zs = unique ys zs up.1 up'.1 (λ x. tails y z (ties lt x y) (filter (ties lt x) ys) (filter (ties lt x) zs) first (same x ∙ ap (λ v. cond (ties lt x v) (z ∷ filter (ties lt x) zs) (filter (ties lt x) zs)) (sym first))) in
      ap (λ v. v ∷ ys) first ∙ ap (λ l. z ∷ l) rest

  -- with puts one in front of the first that isn't below it
  module _ (with : X → List X → List X) (alone : (x : X) → with x [] ≡ x ∷ []) (among : (x y : X) (ys : List X) → with x (y ∷ ys) ≡ cond (lt y x) (y ∷ with x ys) (x ∷ y ∷ ys)) where
    none_with : (a x : X) (l : List X) → lt x a ≡ false → NoneBelow a l → NoneBelow a (with x l)
    none_with a x [] le none = subst (NoneBelow a) (sym (alone x)) (le, tt)
    none_with a x (y ∷ ys) le none = subst (NoneBelow a) (sym (among x y ys)) (by (lt y x) (none_with a x ys le none.1))
      where
        by : (b : Bool) → NoneBelow a (with x ys) → NoneBelow a (cond b (y ∷ with x ys) (x ∷ y ∷ ys))
        by true more = (none.0, more)
        by false more = (le, none)

    ascends_with : (x : X) (l : List X) → Ascends l → Ascends (with x l)
    ascends_with x [] up = subst Ascends (sym (alone x)) (tt, tt)
    ascends_with x (y ∷ ys) up = subst Ascends (sym (among x y ys)) (by (ascends_with x ys up.1) (lt y x) refl)
      where
        by : Ascends (with x ys) → (b : Bool) → lt y x ≡ b → Ascends (cond b (y ∷ with x ys) (x ∷ y ∷ ys))
        by more true e = (none_with y x ys (order.one_way y x e) up.0, more)
        by more false e = ((e, further x y ys e up.0), up)

    stable_with : (x : X) (l : List X) → IsStableBy lt (x ∷ l) (with x l)
    stable_with x [] z = ap (filter (ties lt z)) (alone x)
    stable_with x (y ∷ ys) z = ap (filter (ties lt z)) (among x y ys) ∙ by (stable_with x ys z) (lt y x) refl
      where
        by : filter (ties lt z) (with x ys) ≡ filter (ties lt z) (x ∷ ys) → (b : Bool) → lt y x ≡ b → filter (ties lt z) (cond b (y ∷ with x ys) (x ∷ y ∷ ys)) ≡ filter (ties lt z) (x ∷ y ∷ ys)
        by more true e =
            ap (λ l. cond (ties lt z y) (y ∷ l) l) more
            ∙ swapped x y (ties lt z x) (ties lt z y) (filter (ties lt z) ys) (no_third x y z e)
        by more false e = refl

    module _ (sorted : List X → List X) (none : sorted [] ≡ []) (more : (x : X) (xs : List X) → sorted (x ∷ xs) ≡ with x (sorted xs)) where
      ascends_sorted : (xs : List X) → Ascends (sorted xs)
      ascends_sorted [] = subst Ascends (sym none) tt
      ascends_sorted (x ∷ xs) = subst Ascends (sym (more x xs)) (ascends_with x (sorted xs) (ascends_sorted xs))

      stable_sorted : (xs : List X) → IsStableBy lt xs (sorted xs)
      stable_sorted [] z = ap (filter (ties lt z)) none
      stable_sorted (x ∷ xs) z =
          ap (filter (ties lt z)) (more x xs) ∙ stable_with x (sorted xs) z
          ∙ ap (λ l. cond (ties lt z x) (x ∷ l) l) (stable_sorted xs z)

      -- a list that a stable sort made of another
      pub sorts : (xs ys : List X) → IsSortedBy lt ys → IsStableBy lt xs ys → ys ≡ sorted xs
      sorts xs ys up stable = unique ys (sorted xs) (ascends ys (sorted_far lt order ys up)) (ascends_sorted xs) (λ z. stable z ∙ sym (stable_sorted xs z))
