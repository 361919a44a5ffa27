-- Lists in an order: each element stands once, and comes before those behind it.
use Rattle.std.proofs.Common.{◌≡◌, List, [], ◌∷◌, Bool, true, false, cond, refl, ap, sym, ◌∙◌, subst, inl, inr, ◌⊎◌}
use Rattle.std.specs.Cmp.{IsTotalOrder}
use Rattle.std.specs.List.{filter}
use Rattle.std.specs.Ordering.{ordering_reverse}
use Rattle.std.specs.declared.cmp.Ordering.{Ordering}
use Rattle.std.specs.declared.cmp.Ordering.TheVariants.{Equal, Greater, Less}
use Rattle.std.proofs.lemmas.Bool.{false≢true}
use Rattle.std.proofs.lemmas.Cmp.{tied_itself}
use Rattle.hm_model.specs.Locks.{IsIn}

-- what is in a list and passes a test is in what the test keeps of it
pub in_kept : {A : Type 0} (test : A → Bool) (y : A) (list : List A) → IsIn y list → test y ≡ true → IsIn y (filter test list)
in_kept test y [] h on = elim h [ ]
in_kept test y (first ∷ more) h on = by (λ later. in_kept test y more later on) (test first) refl h
  where
    by : (IsIn y more → IsIn y (filter test more)) → (b : Bool) → test first ≡ b → IsIn y (first ∷ more) → IsIn y (cond b (first ∷ filter test more) (filter test more))
    by rest true e (inl here) = inl here
    by rest true e (inr later) = inr (rest later)
    by rest false e (inl here) = absurd (false≢true (sym e ∙ ap test (sym here) ∙ on))
    by rest false e (inr later) = rest later

-- what it keeps passes
pub from_kept : {A : Type 0} (test : A → Bool) (y : A) (list : List A) → IsIn y (filter test list) → test y ≡ true
from_kept test y [] h = elim h [ ]
from_kept test y (first ∷ more) h = by (from_kept test y more) (test first) refl h
  where
    by : (IsIn y (filter test more) → test y ≡ true) → (b : Bool) → test first ≡ b → IsIn y (cond b (first ∷ filter test more) (filter test more)) → test y ≡ true
    by rest true e (inl here) = ap test here ∙ e
    by rest true e (inr later) = rest later
    by rest false e later = rest later

module _ {A : Type 0} (cmp : A → A → Ordering) where
  -- each of a list comes after this one
  abbrev pub AllLater : A → List A → Type 0
  AllLater x [] = Unit {0}
  AllLater x (first ∷ more) = (cmp x first ≡ Less) × AllLater x more

  abbrev pub InOrder : List A → Type 0
  InOrder [] = Unit {0}
  InOrder (x ∷ more) = AllLater x more × InOrder more

  -- a list with one element more, put beside its first, by how they compare, and what the rest of it is with it
  abbrev pub with_at : Ordering → A → A → List A → List A → List A
  with_at Less x first more rest = x ∷ first ∷ more
  with_at Equal x first more rest = first ∷ more
  with_at Greater x first more rest = first ∷ rest

  abbrev pub with_one : A → List A → List A
  with_one x [] = x ∷ []
  with_one x (first ∷ more) = with_at (cmp x first) x first more (with_one x more)

  pub later_in : (x y : A) (list : List A) → AllLater x list → IsIn y list → cmp x y ≡ Less
  later_in x y [] all h = elim h [ ]
  later_in x y (first ∷ more) all (inl here) = ap (cmp x) here ∙ all.0
  later_in x y (first ∷ more) all (inr later) = later_in x y more all.1 later

  from_at : (q x first : A) (more rest : List A) → (IsIn q rest → (q ≡ x) ⊎ IsIn q more) → (o : Ordering) → IsIn q (with_at o x first more rest) → (q ≡ x) ⊎ IsIn q (first ∷ more)
  from_at q x first more rest on Less h = h
  from_at q x first more rest on Equal h = inr h
  from_at q x first more rest on Greater (inl here) = inr (inl here)
  from_at q x first more rest on Greater (inr later) = elim (on later) [ inl new ↦ inl new | inr old ↦ inr (inr old) ]

  pub from_with : (q x : A) (list : List A) → IsIn q (with_one x list) → (q ≡ x) ⊎ IsIn q list
  from_with q x [] h = h
  from_with q x (first ∷ more) h = from_at q x first more (with_one x more) (from_with q x more) (cmp x first) h

  later_kept : (test : A → Bool) (x : A) (list : List A) → AllLater x list → AllLater x (filter test list)
  later_kept test x [] all = tt
  later_kept test x (first ∷ more) all = by (test first) (later_kept test x more all.1)
    where
      by : (b : Bool) → AllLater x (filter test more) → AllLater x (cond b (first ∷ filter test more) (filter test more))
      by true on = (all.0, on)
      by false on = on

  pub order_kept : (test : A → Bool) (list : List A) → InOrder list → InOrder (filter test list)
  order_kept test [] order = tt
  order_kept test (x ∷ more) order = by (test x) (order_kept test more order.1)
    where
      by : (b : Bool) → InOrder (filter test more) → InOrder (cond b (x ∷ filter test more) (filter test more))
      by true on = (later_kept test x more order.0, on)
      by false on = on

  module _ (total : IsTotalOrder cmp) where
    later_on : (one x : A) (list : List A) → cmp one x ≡ Less → AllLater x list → AllLater one list
    later_on one x [] less all = tt
    later_on one x (first ∷ more) less all = (total.trans one x first less all.0, later_on one x more less all.1)

    later_at : (o : Ordering) (one x first : A) (more rest : List A) → cmp one x ≡ Less → cmp one first ≡ Less → AllLater one more → AllLater one rest → AllLater one (with_at o x first more rest)
    later_at Less one x first more rest less here all on = (less, (here, all))
    later_at Equal one x first more rest less here all on = (here, all)
    later_at Greater one x first more rest less here all on = (here, on)

    later_with : (one x : A) (list : List A) → cmp one x ≡ Less → AllLater one list → AllLater one (with_one x list)
    later_with one x [] less all = (less, tt)
    later_with one x (first ∷ more) less all = later_at (cmp x first) one x first more (with_one x more) less all.0 all.1 (later_with one x more less all.1)

    pub order_with : (x : A) (list : List A) → InOrder list → InOrder (with_one x list)
    order_with x [] order = (tt, tt)
    order_with x (first ∷ more) order = by (order_with x more order.1) (cmp x first) refl
      where
        by : InOrder (with_one x more) → (o : Ordering) → cmp x first ≡ o → InOrder (with_at o x first more (with_one x more))
        by on Less e = ((e, later_on x first more e order.0), order)
        by on Equal e = order
        by on Greater e = (later_with first x more (total.antisymm first x ∙ ap ordering_reverse e) order.0, on)

    not_later : (x : A) (list : List A) → AllLater x list → IsIn x list → ⊥
    not_later x list all among =
        let less : cmp x x ≡ Less = later_in x x list all among in
        let tied : cmp x x ≡ Equal = tied_itself total x in
        cc

    -- lists in order are the same where the same is in them
    pub same_list : (one other : List A) → InOrder one → InOrder other → ((y : A) → IsIn y one → IsIn y other) → ((y : A) → IsIn y other → IsIn y one) → one ≡ other
    same_list [] [] up down to from = refl
    same_list [] (y ∷ other) up down to from = elim (from y (inl refl)) [ ]
    same_list (x ∷ one) [] up down to from = elim (to x (inl refl)) [ ]
    same_list (x ∷ one) (y ∷ other) up down to from =
        ap (λ z. z ∷ one) here ∙ ap (λ l. y ∷ l) (same_list one other up.1 down.1
        (λ z among. elim (to z (inr among)) [ inl first ↦ absurd (not_later x one up.0 (subst (λ w. IsIn w one) (first ∙ sym here) among)) | inr later ↦ later ])
        (λ z among. elim (from z (inr among)) [ inl first ↦ absurd (not_later y other down.0 (subst (λ w. IsIn w other) (first ∙ here) among)) | inr later ↦ later ]))
      where
        here : x ≡ y
        here = elim (to x (inl refl)) [
          | inl same ↦ same
          | inr after ↦ elim (from y (inl refl)) [
            | inl same ↦ sym same
            | inr behind ↦
                let around : cmp x x ≡ Less = total.trans x y x (later_in x y one up.0 behind) (later_in y x other down.0 after) in
                let tied : cmp x x ≡ Equal = tied_itself total x in
                cc
          ]
        ]

    -- a test keeps the same of lists in order that each have all that passes
    pub same_kept : (test : A → Bool) (one other : List A) → InOrder one → InOrder other → ((y : A) → test y ≡ true → IsIn y one) → ((y : A) → test y ≡ true → IsIn y other) → filter test one ≡ filter test other
    same_kept test one other up down has too =
        same_list (filter test one) (filter test other) (order_kept test one up) (order_kept test other down)
        (λ y among. let on = from_kept test y one among in in_kept test y other (too y on) on)
        (λ y among. let on = from_kept test y other among in in_kept test y one (has y on) on)

    module _ (ties : (x y : A) → cmp x y ≡ Equal → x ≡ y) where
      in_at : (q x first : A) (more rest : List A) → ((q ≡ x) ⊎ IsIn q more → IsIn q rest) → (o : Ordering) → cmp x first ≡ o → (q ≡ x) ⊎ IsIn q (first ∷ more) → IsIn q (with_at o x first more rest)
      in_at q x first more rest on Less e h = h
      in_at q x first more rest on Equal e h = elim h [ inl new ↦ inl (new ∙ ties x first e) | inr old ↦ old ]
      in_at q x first more rest on Greater e h = elim h [
        | inl new ↦ inr (on (inl new))
        | inr old ↦ elim old [ inl here ↦ inl here | inr later ↦ inr (on (inr later)) ]
      ]

      pub in_with : (q x : A) (list : List A) → (q ≡ x) ⊎ IsIn q list → IsIn q (with_one x list)
      in_with q x [] h = h
      in_with q x (first ∷ more) h = in_at q x first more (with_one x more) (in_with q x more) (cmp x first) refl h
