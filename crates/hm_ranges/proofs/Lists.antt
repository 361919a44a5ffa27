-- What is in lists that are put together.
use Rattle.std.proofs.Common.{◌≡◌, zero, suc, List, [], ◌∷◌, ◌++◌, map, Option, Some, None, Bool, true, false, if◌then◌else◌, refl, inl, inr, ◌⊎◌, arith, ap, sym, ◌∙◌}
use Rattle.std.specs.List.{Contains, filter, filter_map}
use Rattle.std.specs.List.Sorted.{IsPermutation}
use Rattle.std.specs.Ordering.{is_eq}
use Rattle.std.specs.declared.cmp.Ordering.{Ordering}
use Rattle.std.specs.declared.cmp.Ordering.TheVariants.{Less, Equal, Greater}
use Rattle.std.proofs.lemmas.Bool.{false≢true}
use Rattle.std.proofs.lemmas.List.Sorted.{Contains-permutation, IsPermutation-sym}
use Rattle.hm_index.specs.Index.{find}
use Rattle.hm_model.specs.Locks.{IsIn}

module _ {X : Type 0} where
  pub in_front : (x : X) (xs ys : List X) → IsIn x xs → IsIn x (xs ++ ys)
  in_front x [] ys there = absurd there
  in_front x (y ∷ xs) ys (inl same) = inl same
  in_front x (y ∷ xs) ys (inr there) = inr (in_front x xs ys there)

  pub in_rest : (x : X) (xs ys : List X) → IsIn x ys → IsIn x (xs ++ ys)
  in_rest x [] ys there = there
  in_rest x (y ∷ xs) ys there = inr (in_rest x xs ys there)

  pub in_either : (x : X) (xs ys : List X) → IsIn x (xs ++ ys) → IsIn x xs ⊎ IsIn x ys
  in_either x [] ys there = inr there
  in_either x (y ∷ xs) ys (inl same) = inl (inl same)
  in_either x (y ∷ xs) ys (inr there) = elim (in_either x xs ys there) [ inl front ↦ inl (inr front) | inr rest ↦ inr rest ]

  pub in_contains : (x : X) (xs : List X) → Contains xs x → IsIn x xs
  in_contains x [] (k, within, there) = absurd (omega (arith, within))
  in_contains x (y ∷ xs) (zero, within, there) = inl (sym there)
  in_contains x (y ∷ xs) (suc k, within, there) = inr (in_contains x xs (k, omega (arith, within), there))

  pub contains_in : (x : X) (xs : List X) → IsIn x xs → Contains xs x
  contains_in x [] there = absurd there
  contains_in x (y ∷ xs) (inl same) = (zero, omega arith, sym same)
  contains_in x (y ∷ xs) (inr there) = further (contains_in x xs there)
    where
      further : Contains xs x → Contains (y ∷ xs) x
      further (k, within, is) = (suc k, omega (arith, within), is)

  -- a list in another order has the same in it
  pub in_moved : (xs ys : List X) → IsPermutation xs ys → (x : X) → IsIn x xs → IsIn x ys
  in_moved xs ys moved x there = in_contains x ys (Contains-permutation xs ys x moved (contains_in x xs there))

  pub in_unmoved : (xs ys : List X) → IsPermutation xs ys → (x : X) → IsIn x ys → IsIn x xs
  in_unmoved xs ys moved x there = in_moved ys xs (IsPermutation-sym xs ys moved) x there

  pub in_filter : (test : X → Bool) (x : X) (xs : List X) → IsIn x (filter test xs) → IsIn x xs × (test x ≡ true)
  in_filter test x [] there = absurd there
  in_filter test x (y ∷ xs) there = by (λ more. in_filter test x xs more) (test y) refl there
    where
      by : (IsIn x (filter test xs) → IsIn x xs × (test x ≡ true)) → (b : Bool) → test y ≡ b → IsIn x (if b then y ∷ filter test xs else filter test xs) → IsIn x (y ∷ xs) × (test x ≡ true)
      by rest true on (inl same) = (inl same, ap test same ∙ on)
      by rest true on (inr more) = let is = rest more in (inr is.0, is.1)
      by rest false off more = let is = rest more in (inr is.0, is.1)

  pub filter_in : (test : X → Bool) (x : X) (xs : List X) → IsIn x xs → test x ≡ true → IsIn x (filter test xs)
  filter_in test x [] there on = absurd there
  filter_in test x (y ∷ xs) there on = by (λ more. filter_in test x xs more on) (test y) refl there
    where
      by : (IsIn x xs → IsIn x (filter test xs)) → (b : Bool) → test y ≡ b → IsIn x (y ∷ xs) → IsIn x (if b then y ∷ filter test xs else filter test xs)
      by rest true is (inl same) = inl same
      by rest true is (inr more) = inr (rest more)
      by rest false off (inl same) = absurd (false≢true (sym off ∙ ap test (sym same) ∙ on))
      by rest false off (inr more) = rest more

abbrev ahead : {Y : Type 0} → Option Y → List Y → List Y
ahead None ys = ys
ahead (Some y) ys = y ∷ ys

module _ {X Y : Type 0} where
  pub in_map : (f : X → Y) (y : Y) (xs : List X) → IsIn y (map f xs) → (x : X) × IsIn x xs × (y ≡ f x)
  in_map f y [] there = absurd there
  in_map f y (x ∷ xs) (inl same) = (x, inl refl, same)
  in_map f y (x ∷ xs) (inr there) = let rest = in_map f y xs there in (rest.0, inr rest.1, rest.2)

  pub in_filter_map : (f : X → Option Y) (y : Y) (xs : List X) → IsIn y (filter_map f xs) → (x : X) × IsIn x xs × (f x ≡ Some y)
  in_filter_map f y [] there = absurd there
  in_filter_map f y (x ∷ xs) there = by (λ further. let rest = in_filter_map f y xs further in (rest.0, inr rest.1, rest.2)) (f x) refl there
    where
      by : (IsIn y (filter_map f xs) → (z : X) × IsIn z (x ∷ xs) × (f z ≡ Some y)) → (o : Option Y) → f x ≡ o → IsIn y (ahead o (filter_map f xs)) → (z : X) × IsIn z (x ∷ xs) × (f z ≡ Some y)
      by more None is further = more further
      by more (Some first) is (inl same) = (x, inl refl, is ∙ ap Some (sym same))
      by more (Some first) is (inr further) = more further

  pub filter_map_in : (f : X → Option Y) (y : Y) (x : X) (xs : List X) → IsIn x xs → f x ≡ Some y → IsIn y (filter_map f xs)
  filter_map_in f y x [] there is = absurd there
  filter_map_in f y x (z ∷ xs) there is = by (λ more. filter_map_in f y x xs more is) (f z) refl there
    where
      apart : (a b : Y) → Some a ≡ Some b → a ≡ b
      apart a b e = cc

      clash : None ≡ Some y → ⊥
      clash e = cc

      by : (IsIn x xs → IsIn y (filter_map f xs)) → (o : Option Y) → f z ≡ o → IsIn x (z ∷ xs) → IsIn y (ahead o (filter_map f xs))
      by rest None none (inl same) = absurd (clash (sym none ∙ ap f (sym same) ∙ is))
      by rest None none (inr more) = rest more
      by rest (Some first) some (inl same) = inl (apart y first (sym is ∙ ap f same ∙ some))
      by rest (Some first) some (inr more) = inr (rest more)

module _ {K A : Type 0} (cmp : K → K → Ordering) (ties : (one other : K) → cmp one other ≡ Equal → one ≡ other) where
  -- what is found of a key stands in the list
  pub found_in : (pairs : List (K × A)) (key : K) (value : A) → find cmp pairs key ≡ Some value → IsIn (key, value) pairs
  found_in [] key value e = absurd (clash e)
    where
      clash : None ≡ Some value → ⊥
      clash e = cc
  found_in ((here, own) ∷ more) key value e = by (λ further. found_in more key value further) (cmp here key) refl e
    where
      apart : (a b : A) → Some a ≡ Some b → a ≡ b
      apart a b e = cc

      by : (find cmp more key ≡ Some value → IsIn (key, value) more) → (o : Ordering) → cmp here key ≡ o → (if is_eq o then Some own else find cmp more key) ≡ Some value → IsIn (key, value) ((here, own) ∷ more)
      by rest Less c e = inr (rest e)
      by rest Equal c e = inl (ap (λ (k : K). (k, value)) (sym (ties here key c)) ∙ ap (λ (v : A). (here, v)) (sym (apart own value e)))
      by rest Greater c e = inr (rest e)
