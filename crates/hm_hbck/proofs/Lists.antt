-- What is in lists that are made item by item.
use Rattle.std.proofs.Common.{◌≡◌, List, [], ◌∷◌, map, Bool, true, false, if◌then◌else◌, refl, inl, inr, ap, subst}
use Rattle.std.specs.List.{flat_map}
use Rattle.std.proofs.lemmas.Bool.{false≢true}
use Rattle.hm_model.specs.Locks.{IsIn}
use Rattle.hm_ranges.proofs.Lists.{in_either, in_front, in_rest}

module _ {X : Type 0} where
  pub in_one : (x y : X) (b : Bool) → IsIn x (if b then y ∷ [] else []) → (b ≡ true) × (x ≡ y)
  in_one x y true (inl same) = (refl, same)
  in_one x y true (inr there) = absurd there
  in_one x y false there = absurd there

  pub one_in : (x : X) (b : Bool) → b ≡ true → IsIn x (if b then x ∷ [] else [])
  one_in x true on = inl refl
  one_in x false on = absurd (false≢true on)

module _ {X Y : Type 0} where
  pub map_in : (f : X → Y) (x : X) (xs : List X) → IsIn x xs → IsIn (f x) (map f xs)
  map_in f x [] there = absurd there
  map_in f x (z ∷ xs) (inl same) = inl (ap f same)
  map_in f x (z ∷ xs) (inr there) = inr (map_in f x xs there)

  pub in_flat_map : (f : X → List Y) (y : Y) (xs : List X) → IsIn y (flat_map f xs) → (x : X) × IsIn x xs × IsIn y (f x)
  in_flat_map f y [] there = absurd there
  in_flat_map f y (x ∷ xs) there = elim (in_either y (f x) (flat_map f xs) there) [
    | inl here ↦ (x, inl refl, here)
    | inr more ↦ let rest = in_flat_map f y xs more in (rest.0, inr rest.1, rest.2)
  ]

  pub flat_map_in : (f : X → List Y) (y : Y) (x : X) (xs : List X) → IsIn x xs → IsIn y (f x) → IsIn y (flat_map f xs)
  flat_map_in f y x [] there is = absurd there
  flat_map_in f y x (z ∷ xs) (inl same) is = in_front y (f z) (flat_map f xs) (subst (λ (w : X). IsIn y (f w)) same is)
  flat_map_in f y x (z ∷ xs) (inr there) is = in_rest y (f z) (flat_map f xs) (flat_map_in f y x xs there is)
