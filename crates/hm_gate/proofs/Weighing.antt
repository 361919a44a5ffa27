-- What a seat added, weighed.
use Rattle.std.proofs.Common.{◌≡◌, ◌≢◌, ◌⊎◌, inl, inr, ℕ, ◌+◌, ◌<◌, ◌≤◌, List, [], ◌∷◌, ◌++◌, length, drop, refl, sym, ap, subst, ◌∙◌, ⊎_elim, arith, append_assoc, length-append}
use Rattle.std.proofs.Math.Seq.{drop-append_seam}
use Rattle.std.specs.Prelude.{Some, slice_get}
use Rattle.hm_gate.specs.Gate.{Stand}
use Rattle.hm_gate.specs.Whole.{Whole}
use Rattle.hm_gate.specs.Total.{same, entries, either}
use Rattle.hm_gate.proofs.Totals.{same-cases}
use Rattle.hm_gate.proofs.Owed.{same-self}
use Rattle.hm_gate.specs.Weights.{weigh, weigh_pairs, MineWeighs}

module _ {I : Type 0} where
  -- the pairs whose number isn't k
  abbrev but : ℕ → List (ℕ × I) → List (ℕ × I)
  but k [] = []
  but k (p ∷ ps) = either (same k p.0) (but k ps) (p ∷ but k ps)

  but_out : (k : ℕ) (p : ℕ × I) (ps : List (ℕ × I)) → same k p.0 ≡ 1 → but k (p ∷ ps) ≡ but k ps
  but_out k p ps e = ap (λ (n : ℕ). either n (but k ps) (p ∷ but k ps)) e

  but_in : (k : ℕ) (p : ℕ × I) (ps : List (ℕ × I)) → same k p.0 ≡ 0 → but k (p ∷ ps) ≡ p ∷ but k ps
  but_in k p ps e = ap (λ (n : ℕ). either n (but k ps) (p ∷ but k ps)) e

  -- how often another number stands
  others : (n k : ℕ) (ps : List (ℕ × I)) → n ≢ k → entries n (but k ps) ≡ entries n ps
  others n k [] apart = refl
  others n k (p ∷ ps) apart = ⊎_elim
      (λ e. let r = others n k ps apart in let o : entries n (but k (p ∷ ps)) ≡ entries n (but k ps) = ap (entries n) (but_out k p ps e.1) in
      let z : same n p.0 ≡ 0 = ⊎_elim (λ d. absurd (apart (d.0 ∙ sym e.0))) (λ d. d.1) (same-cases n p.0) in omega arith)
      (λ e. let r = others n k ps apart in let o : entries n (but k (p ∷ ps)) ≡ entries n (p ∷ but k ps) = ap (entries n) (but_in k p ps e.1) in omega arith)
      (same-cases k p.0)

  -- and k itself
  itself : (k : ℕ) (ps : List (ℕ × I)) → entries k (but k ps) ≡ 0
  itself k [] = refl
  itself k (p ∷ ps) = ⊎_elim
      (λ e. ap (entries k) (but_out k p ps e.1) ∙ itself k ps)
      (λ e. let r = itself k ps in let o : entries k (but k (p ∷ ps)) ≡ entries k (p ∷ but k ps) = ap (entries k) (but_in k p ps e.1) in let d = e.1 in omega arith)
      (same-cases k p.0)

  -- where no number stands there is no pair
  no_pair : (ps : List (ℕ × I)) → ((n : ℕ) → entries n ps ≡ 0) → ps ≡ []
  no_pair [] none = refl
  no_pair (p ∷ ps) none = absurd (let a = none p.0 in let b = same-self p.0 in omega arith)

  stand_but : (items : List I) (k : ℕ) (ps : List (ℕ × I)) → Stand items ps → Stand items (but k ps)
  stand_but items k [] stand = tt
  stand_but items k (p ∷ ps) stand = ⊎_elim
      (λ e. subst (Stand items) (sym (but_out k p ps e.1)) (stand_but items k ps stand.1))
      (λ e. subst (Stand items) (sym (but_in k p ps e.1)) (stand.0, stand_but items k ps stand.1))
      (same-cases k p.0)

  module _ (f : I → ℕ) where
    without : (k : ℕ) (ps : List (ℕ × I)) → entries k ps ≡ 0 → weigh_pairs f (but k ps) ≡ weigh_pairs f ps
    without k [] none = refl
    without k (p ∷ ps) none = ⊎_elim
        (λ e. absurd (let a = e.1 in omega arith))
        (λ e. let d = e.1 in let r = without k ps (omega arith) in let o : weigh_pairs f (but k (p ∷ ps)) ≡ weigh_pairs f (p ∷ but k ps) = ap (weigh_pairs f) (but_in k p ps e.1) in omega arith)
        (same-cases k p.0)

    with_one : (items : List I) (k : ℕ) (x : I) (ps : List (ℕ × I)) → slice_get items k ≡ Some x → Stand items ps → entries k ps ≡ 1 → weigh_pairs f ps ≡ f x + weigh_pairs f (but k ps)
    with_one items k x [] is stand one = absurd (omega arith)
    with_one items k x (p ∷ ps) is stand one = ⊎_elim
        (λ e. let d = e.1 in let r = without k ps (omega arith) in
        let o : weigh_pairs f (but k (p ∷ ps)) ≡ weigh_pairs f (but k ps) = ap (weigh_pairs f) (but_out k p ps e.1) in
        let same_item : p.1 ≡ x = got _ _ (sym stand.0 ∙ ap (slice_get items) (sym e.0) ∙ is) in
        let g : f p.1 ≡ f x = ap f same_item in omega arith)
        (λ e. let d = e.1 in let r = with_one items k x ps is stand.1 (omega arith) in
        let o : weigh_pairs f (but k (p ∷ ps)) ≡ weigh_pairs f (p ∷ but k ps) = ap (weigh_pairs f) (but_in k p ps e.1) in omega arith)
        (same-cases k p.0)
      where
        got : (a b : I) → Some a ≡ Some b → a ≡ b
        got a b e = cc

    -- each number of the rest once, and no other
    weighs : (items pre xs : List I) (ps : List (ℕ × I)) → items ≡ pre ++ xs → Stand items ps
        → ((n : ℕ) → length pre ≤ n → n < length pre + length xs → entries n ps ≡ 1) → ((n : ℕ) → (n < length pre) ⊎ (length pre + length xs ≤ n) → entries n ps ≡ 0)
        → weigh_pairs f ps ≡ weigh f xs
    weighs items pre [] ps is stand once none =
        ap (weigh_pairs f) (no_pair ps (λ n. none n (⊎_elim (λ (l : n < length pre). inl l) (λ (g : length pre ≤ n). inr (omega arith)) (below n (length pre)))))
      where
        below : (n m : ℕ) → (n < m) ⊎ (m ≤ n)
        below n m = grind arith
    weighs items pre (x ∷ xs) ps is stand once none =
        let k = length pre in
        let at : slice_get items k ≡ Some x = ap (λ (l : List I). slice_get l k) is ∙ seam pre x xs in
        let one = once k (omega arith) (omega arith) in
        let split = with_one items k x ps at stand one in
        let longer : length (pre ++ x ∷ []) ≡ length pre + 1 = omega (arith, length-append pre (x ∷ [])) in
        let r = weighs items (pre ++ x ∷ []) xs (but k ps) (is ∙ sym (append_assoc pre (x ∷ []) xs)) (stand_but items k ps stand)
        (λ n from to. others n k ps (λ e. absurd (omega arith)) ∙ once n (omega arith) (omega arith))
        (λ n out. nowhere n out longer) in
        omega arith
      where
        seam : (pre : List I) (x : I) (xs : List I) → slice_get (pre ++ x ∷ xs) (length pre) ≡ Some x
        seam [] x xs = refl
        seam (p ∷ pre) x xs = seam pre x xs

        nowhere : (n : ℕ) → (n < length (pre ++ x ∷ [])) ⊎ (length (pre ++ x ∷ []) + length xs ≤ n) → length (pre ++ x ∷ []) ≡ length pre + 1 → entries n (but (length pre) ps) ≡ 0
        nowhere n out longer = ⊎_elim
            (λ e. ap (λ (m : ℕ). entries m (but (length pre) ps)) (e.0) ∙ itself (length pre) ps)
            (λ e. others n (length pre) ps e.0 ∙ none n (⊎_elim (λ (l : n < length (pre ++ x ∷ [])). inl (let d = e.0 in grind arith)) (λ (g : length (pre ++ x ∷ []) + length xs ≤ n). inr (omega arith)) out))
            (same-cases n (length pre))

pub mine_weighs : {I T S : Type 0} (shown : S → Whole I T) → MineWeighs shown
mine_weighs shown v x f ends =
    let items = (shown x).items in
    let rest = ends.begun in
    let long : length items ≡ length v.opening + length rest.0 = ap length rest.1 ∙ length-append v.opening rest.0 in
    weighs f items v.opening rest.0 v.mine rest.1 ends.stand (λ n from to. ends.once n from (omega arith)) (λ n out. ends.no_other n (⊎_elim (λ (l : n < length v.opening). inl l) (λ (g : length v.opening + length rest.0 ≤ n). inr (omega arith)) out))
    ∙ ap (weigh f) (sym (drop-append_seam v.opening rest.0) ∙ ap (drop (length v.opening)) (sym rest.1))
