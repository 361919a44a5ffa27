-- What holds of each item of a list, while the list is walked.
use Rattle.std.proofs.Common.{◌≡◌, ◌↔◌, List, [], ◌∷◌, sym, subst, inl, inr, refl}
use Rattle.std.specs.List.{AllByRecursion}
use Rattle.hm_model.specs.Locks.{IsIn}

module _ {X : Type 0} (P : X → Type 0) where
  -- of the rest exactly if of all, where it holds of the next
  pub each_on : (x : X) (rest left all : List X) → left ≡ x ∷ rest → P x → AllByRecursion P left ↔ AllByRecursion P all → AllByRecursion P rest ↔ AllByRecursion P all
  each_on x rest left all same here was =
      (λ r. was.0 (subst (λ l. AllByRecursion P l) (sym same) (here, r)), λ a. let both : AllByRecursion P (x ∷ rest) = subst (λ l. AllByRecursion P l) same (was.1 a) in both.1)

  -- not of all, where it doesn't hold of the next
  pub each_not : (x : X) (rest left all : List X) → left ≡ x ∷ rest → (P x → ⊥) → AllByRecursion P left ↔ AllByRecursion P all → AllByRecursion P all → ⊥
  each_not x rest left all same not was a = let both : AllByRecursion P (x ∷ rest) = subst (λ l. AllByRecursion P l) same (was.1 a) in not both.0

  -- of all, where none is left
  pub each_done : (left all : List X) → left ≡ [] → AllByRecursion P left ↔ AllByRecursion P all → AllByRecursion P all
  each_done left all none was = was.0 (subst (λ l. AllByRecursion P l) (sym none) tt)

  pub each_in : (xs : List X) → AllByRecursion P xs → (x : X) → IsIn x xs → P x
  each_in [] all x there = absurd there
  each_in (y ∷ xs) all x (inl same) = subst P (sym same) all.0
  each_in (y ∷ xs) all x (inr there) = each_in xs all.1 x there

  pub each_of : (xs : List X) → ((x : X) → IsIn x xs → P x) → AllByRecursion P xs
  each_of [] all = tt
  each_of (y ∷ xs) all = (all y (inl refl), each_of xs (λ x there. all x (inr there)))
