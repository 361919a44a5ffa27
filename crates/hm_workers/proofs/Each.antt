-- What became of each element of a list.
use Rattle.std.proofs.Common.{◌≡◌, ℕ, List, Some, get_or, subst, ◌∙◌}
use Rattle.std.specs.Prelude.{slice_get}
use Rattle.std.proofs.lemmas.Option.{get_or_from_slice_get}

-- what holds of the values that were read at a place, before and after, holds of the elements there
pub each_so : {X : Type 0} (P : X → X → Type 0) (xs ys : List X) (i : ℕ) (a b old new : X) → a ≡ get_or xs i old → b ≡ get_or ys i old → slice_get xs i ≡ Some old → slice_get ys i ≡ Some new → P a b → P old new
each_so {X} P xs ys i a b old new is_a is_b was is p =
    subst (λ (x : X). P x new) (is_a ∙ get_or_from_slice_get xs i old old was) (subst (λ (y : X). P a y) (is_b ∙ get_or_from_slice_get ys i new old is) p)
