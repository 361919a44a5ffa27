-- Lists in order in which ties stand alike are one.
use Rattle.std.proofs.Common.{◌≡◌, ℕ, suc, ◌<◌, ◌≤◌, List, [], ◌∷◌, Bool, true, false, not, ◌&&◌, cond, filter, length, get_or, refl, ap, sym, ◌∙◌, subst, arith}
use Rattle.std.specs.Cmp.{IsStrictWeakOrder}
use Rattle.std.specs.List.{AllByRecursion}
use Rattle.std.specs.List.Sorted.{IsSortedBy, ties}
use Rattle.std.proofs.lemmas.List.Elements.{recursion_from_All}
use Rattle.std.proofs.lemmas.List.Sorted.{sorted_far}

module _ {X : Type 0} (lt : X → X → Bool) where
  -- no item is less than one before it
  abbrev pub Rises : List X → Type 0
  Rises [] = Unit {0}
  Rises (x ∷ xs) = AllByRecursion (λ y. lt y x ≡ false) xs × Rises xs

  module _ (order : IsStrictWeakOrder lt) where
    -- none is less than itself, so that it ties with itself
    irreflexive : (x : X) → lt x x ≡ false
    irreflexive x = by (lt x x) refl
      where
        by : (b : Bool) → lt x x ≡ b → lt x x ≡ false
        by false e = e
        by true e = order.one_way x x e

    tied : (x y : X) → lt x y ≡ false → lt y x ≡ false → ties lt x y ≡ true
    tied x y e f = ap (λ b. not b && not (lt y x)) e ∙ ap not f

    itself : (x : X) → ties lt x x ≡ true
    itself x = tied x x (irreflexive x) (irreflexive x)

    -- none is less than one anywhere before it
    rises_far : (xs : List X) → ((i j : ℕ) (d : X) → i ≤ j → j < length xs → lt (get_or xs j d) (get_or xs i d) ≡ false) → Rises xs
    rises_far [] far = tt
    rises_far (x ∷ xs) far = (
      recursion_from_All (λ y. lt y x ≡ false) xs (λ j d below. far 0 (suc j) d (omega arith) (omega (arith, below))),
      rises_far xs (λ i j d le below. far (suc i) (suc j) d (omega (arith, le)) (omega (arith, below))),
    )

    -- what neighbours keep, all keep
    pub rises : (xs : List X) → IsSortedBy lt xs → Rises xs
    rises xs up = rises_far xs (sorted_far lt order xs up)

    -- what stands first of those that pass is as all are
    first_passes : (P : X → Type 0) (test : X → Bool) (ys : List X) (x : X) (rest : List X) → AllByRecursion P ys → filter test ys ≡ x ∷ rest → P x
    first_passes P test [] x rest all is = cc
    first_passes P test (y ∷ ys) x rest all is = by (test y) refl (first_passes P test ys x rest all.1)
      where
        by : (b : Bool) → test y ≡ b → (filter test ys ≡ x ∷ rest → P x) → P x
        by true e later = (let same : y ≡ x = cc in subst P same all.0)
        by false e later = later (sym (ap (λ b. cond b (y ∷ filter test ys) (filter test ys)) e) ∙ is)

    -- what passes is kept
    kept : (test : X → Bool) (x : X) (xs : List X) → test x ≡ true → filter test (x ∷ xs) ≡ x ∷ filter test xs
    kept test x xs e = ap (λ b. cond b (x ∷ filter test xs) (filter test xs)) e

    -- what rises doesn't begin above one of those that tie with its first
    not_above : (x y : X) (xs ys : List X) → Rises (y ∷ ys) → filter (ties lt x) (x ∷ xs) ≡ filter (ties lt x) (y ∷ ys) → lt x y ≡ false
    not_above x y xs ys up same = first_passes (λ z. lt z y ≡ false) (ties lt x) (y ∷ ys) x (filter (ties lt x) xs) (irreflexive y, up.0) (sym same ∙ kept (ties lt x) x xs (itself x))

    -- after one that both begin with, the same are kept
    behind : (test : X → Bool) (x : X) (xs ys : List X) → filter test (x ∷ xs) ≡ filter test (x ∷ ys) → filter test xs ≡ filter test ys
    behind test x xs ys same = by (test x) refl
      where
        by : (b : Bool) → test x ≡ b → filter test xs ≡ filter test ys
        by true e = cc
        by false e = cc

    -- two that rise are one, if of each tie the same stand in both in one order
    pub one_order : (xs ys : List X) → Rises xs → Rises ys → ((z : X) → filter (ties lt z) xs ≡ filter (ties lt z) ys) → xs ≡ ys
    one_order [] [] up down same = refl
    one_order [] (y ∷ ys) up down same = absurd (let e = same y ∙ kept (ties lt y) y ys (itself y) in cc)
    one_order (x ∷ xs) [] up down same = absurd (let e = sym (kept (ties lt x) x xs (itself x)) ∙ same x in cc)
    one_order (x ∷ xs) (y ∷ ys) up down same =
        let below = not_above x y xs ys down (same x) in
        let above = not_above y x ys xs up (sym (same y)) in
        let firsts = sym (kept (ties lt x) x xs (itself x)) ∙ same x ∙ kept (ties lt x) y ys (tied x y below above) in
        let first : x ≡ y = cc in
        ap (λ z. z ∷ xs) first ∙ ap (λ l. y ∷ l) (one_order xs ys up.1 down.1 (λ z. behind (ties lt z) y xs ys (ap (λ w. filter (ties lt z) (w ∷ xs)) (sym first) ∙ same z)))
