-- Lists for which room is made, and wants that are added.
use Rattle.std.proofs.Common.{◌≡◌, ℕ, zero, suc, ◌≤◌, List, [], ◌∷◌, ◌++◌, length, Result, Ok, Err, refl, ap, ◌∙◌, arith, length-append}
use Rattle.std.specs.Prelude.{replicate, OnOk, OnErr}
use Rattle.hm_lists.specs.Chains.{list_at}

none_at : (n l : ℕ) → list_at (replicate n []) l ≡ []
none_at zero l = refl
none_at (suc n) zero = refl
none_at (suc n) (suc l) = none_at n l

more_at : (lists : List (List ℕ)) (n l : ℕ) → list_at (lists ++ replicate n []) l ≡ list_at lists l
more_at [] n l = none_at n l
more_at (xs ∷ lists) n zero = refl
more_at (xs ∷ lists) n (suc l) = more_at lists n l

-- lists with more after them, or as they were
pub wider : {T E : Type 0} (r : Result T E) (old new : List (List ℕ)) (n : ℕ) → OnOk r (new ≡ old ++ replicate n []) → OnErr r (new ≡ old)
    → ((l : ℕ) → list_at new l ≡ list_at old l) × (length old ≤ length new)
wider (Ok x) old new n ok err = (
  (λ l. ap (λ ls. list_at ls l) ok ∙ more_at old n l),
  (let long = ap length ok ∙ length-append old (replicate n []) in omega (arith, long)),
)
wider (Err x) old new n ok err = ((λ l. ap (λ ls. list_at ls l) err), (let long = ap length err in omega (arith, long)))

pub none_here : (lists : List (List ℕ)) (n : ℕ) → lists ≡ replicate n [] → (l : ℕ) → list_at lists l ≡ []
none_here lists n is l = ap (λ ls. list_at ls l) is ∙ none_at n l
