-- Lists that begin with others, and items that stand at their numbers.
use Rattle.std.proofs.Common.{◌≡◌, ℕ, zero, suc, List, [], ◌∷◌, ◌++◌, length, drop, sym, ap, ◌∙◌, refl, subst, arith, append_assoc, append-nil, length-append}
use Rattle.std.proofs.lemmas.Option.{slice_get_within}
use Rattle.std.specs.Prelude.{Some, slice_get}
use Rattle.hm_gate.specs.Total.{numbered}
use Rattle.hm_gate.specs.Gate.{Begins, Stand}

module _ {I : Type 0} where
  pub begins-all : (xs ys : List I) → xs ≡ ys → Begins xs ys
  begins-all xs ys e = ([], e ∙ sym (append-nil ys))

  pub begins-trans : (xs ys zs : List I) → Begins xs ys → Begins ys zs → Begins xs zs
  begins-trans xs ys zs p q = (q.0 ++ p.0, p.1 ∙ ap (λ (l : List I). l ++ p.0) q.1 ∙ append_assoc zs q.0 p.0)

  drop-front : (xs ys : List I) → drop (length xs) (xs ++ ys) ≡ ys
  drop-front [] ys = refl
  drop-front (x ∷ xs) ys = drop-front xs ys

  -- the rest of a list that begins with another
  pub begins-drop : (xs ys : List I) → Begins xs ys → xs ≡ ys ++ drop (length ys) xs
  begins-drop xs ys p = p.1 ∙ ap (λ (l : List I). ys ++ l) (sym (drop-front ys p.0) ∙ ap (λ (l : List I). drop (length ys) l) (sym p.1))

  get-longer : (xs ys : List I) (n : ℕ) (x : I) → slice_get xs n ≡ Some x → slice_get (xs ++ ys) n ≡ Some x
  get-longer [] ys n x e = let h = slice_get_within [] n x e in absurd (omega arith)
  get-longer (z ∷ zs) ys zero x e = e
  get-longer (z ∷ zs) ys (suc n) x e = get-longer zs ys n x e

  get-here : (xs ys : List I) (x : I) → slice_get (xs ++ x ∷ ys) (length xs) ≡ Some x
  get-here [] ys x = refl
  get-here (z ∷ zs) ys x = get-here zs ys x

  pub stand-longer : (xs ys : List I) (m : List (ℕ × I)) → Stand xs m → Stand (xs ++ ys) m
  stand-longer xs ys [] p = tt
  stand-longer xs ys (x ∷ m) p = (get-longer xs ys x.0 x.1 p.0, stand-longer xs ys m p.1)

  pub stand-append : (xs : List I) (m n : List (ℕ × I)) → Stand xs m → Stand xs n → Stand xs (m ++ n)
  stand-append xs [] n p q = q
  stand-append xs (x ∷ m) n p q = (p.0, stand-append xs m n p.1 q)

  pub stand-numbered : (xs ys : List I) → Stand (xs ++ ys) (numbered (length xs) ys)
  stand-numbered xs [] = tt
  stand-numbered xs (y ∷ ys) =
      let r : Stand ((xs ++ y ∷ []) ++ ys) (numbered (length (xs ++ y ∷ [])) ys) = stand-numbered (xs ++ y ∷ []) ys in
      let n : length (xs ++ y ∷ []) ≡ suc (length xs) = omega (arith, length-append xs (y ∷ [])) in
      (get-here xs ys y, subst (λ (z : List I × ℕ). Stand z.0 (numbered z.1 ys)) (λ i. (append_assoc xs (y ∷ []) ys i, n i)) r)
