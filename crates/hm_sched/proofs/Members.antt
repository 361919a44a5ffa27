-- Who is in a list after a change.
use Rattle.std.proofs.Common.{◌≡◌, ◌≢◌, ℕ, zero, suc, ◌<◌, not, List, [], ◌∷◌, ◌++◌, length, map, set, drop, eqb, cond, Some, slice_get, refl, sym, ap, ◌∙◌, subst, inl, inr, ◌⊎◌, arith}
use Rattle.std.proofs.lemmas.Bool.{cases_eq, eq-eqb, ne_eqb}
use Rattle.std.proofs.lemmas.Bool.Decides.{nat_tests}
use Rattle.hm_lists.specs.Chains.{IsIn, Differ, list_at}
use Rattle.hm_lists.specs.Map.{AreApart, IsOut, without}

pub in_left : (q : ℕ) (xs ys : List ℕ) → IsIn q xs → IsIn q (xs ++ ys)
in_left q [] ys is = absurd is
in_left q (x ∷ xs) ys (inl e) = inl e
in_left q (x ∷ xs) ys (inr is) = inr (in_left q xs ys is)

pub in_right : (q : ℕ) (xs ys : List ℕ) → IsIn q ys → IsIn q (xs ++ ys)
in_right q [] ys is = is
in_right q (x ∷ xs) ys is = inr (in_right q xs ys is)

pub in_parts : (q : ℕ) (xs ys : List ℕ) → IsIn q (xs ++ ys) → IsIn q xs ⊎ IsIn q ys
in_parts q [] ys is = inr is
in_parts q (x ∷ xs) ys (inl e) = inl (inl e)
in_parts q (x ∷ xs) ys (inr is) = elim (in_parts q xs ys is) [ inl a ↦ inl (inr a) | inr b ↦ inr b ]

pub list_at-set : (lists : List (List ℕ)) (i j : ℕ) (xs : List ℕ) → i < length lists → list_at (set lists i xs) j ≡ cond (eqb i j) xs (list_at lists j)
list_at-set [] i j xs lt = absurd (omega (arith, lt))
list_at-set (ys ∷ lists) zero zero xs lt = grind (arith, nat_tests)
list_at-set (ys ∷ lists) zero (suc j) xs lt = grind (arith, nat_tests)
list_at-set (ys ∷ lists) (suc i) zero xs lt = grind (arith, nat_tests)
list_at-set (ys ∷ lists) (suc i) (suc j) xs lt = grind (arith, nat_tests, list_at-set lists i j xs (omega (arith, lt)))

pub list_at-map : (f : List ℕ → List ℕ) → f [] ≡ [] → (lists : List (List ℕ)) (l : ℕ) → list_at (map f lists) l ≡ f (list_at lists l)
list_at-map f none [] l = sym none
list_at-map f none (xs ∷ lists) zero = refl
list_at-map f none (xs ∷ lists) (suc l) = list_at-map f none lists l

-- who is left after a pid
pub in_without : (p q : ℕ) (xs : List ℕ) → IsIn q (without p xs) → IsIn q xs × (q ≢ p)
in_without p q [] is = absurd is
in_without p q (x ∷ xs) is = elim (cases_eq x p) [
  | inl same ↦ let rest = in_without p q xs (subst (λ b. IsIn q (cond (not b) (x ∷ without p xs) (without p xs))) (eq-eqb x p same) is) in (inr rest.0, rest.1)
  | inr differs ↦ elim (subst (λ b. IsIn q (cond (not b) (x ∷ without p xs) (without p xs))) (ne_eqb x p differs) is) [
    | inl e ↦ (inl e, λ f. differs (sym e ∙ f))
    | inr r ↦ let rest = in_without p q xs r in (inr rest.0, rest.1)
  ]
]

pub without_in : (p q : ℕ) (xs : List ℕ) → q ≢ p → IsIn q xs → IsIn q (without p xs)
without_in p q [] differs is = is
without_in p q (x ∷ xs) differs is = elim (cases_eq x p) [
  | inl same ↦ subst (λ b. IsIn q (cond (not b) (x ∷ without p xs) (without p xs))) (sym (eq-eqb x p same)) (elim is [
    | inl e ↦ absurd (differs (e ∙ same))
    | inr r ↦ without_in p q xs differs r
  ])
  | inr other ↦ subst (λ b. IsIn q (cond (not b) (x ∷ without p xs) (without p xs))) (sym (ne_eqb x p other)) (elim is [
    | inl e ↦ inl e
    | inr r ↦ inr (without_in p q xs differs r)
  ])
]

pub without_none : (p : ℕ) (xs : List ℕ) → (IsIn p xs → ⊥) → without p xs ≡ xs
without_none p [] out = refl
without_none p (x ∷ xs) out =
    ap (λ b. cond (not b) (x ∷ without p xs) (without p xs)) (ne_eqb x p (λ e. out (inl (sym e)))) ∙ ap (λ l. x ∷ l) (without_none p xs (λ is. out (inr is)))

differ_without : (p : ℕ) (xs : List ℕ) → Differ xs → Differ (without p xs)
differ_without p [] differ = differ
differ_without p (x ∷ xs) differ = elim (cases_eq x p) [
  | inl same ↦ subst (λ b. Differ (cond (not b) (x ∷ without p xs) (without p xs))) (sym (eq-eqb x p same)) (differ_without p xs differ.1)
  | inr other ↦ subst (λ b. Differ (cond (not b) (x ∷ without p xs) (without p xs))) (sym (ne_eqb x p other)) ((λ is. differ.0 (in_without p x xs is).0), differ_without p xs differ.1)
]

differ_push : (p : ℕ) (xs : List ℕ) → Differ xs → (IsIn p xs → ⊥) → Differ (xs ++ p ∷ [])
differ_push p [] differ out = ((λ is. is), tt)
differ_push p (x ∷ xs) differ out = (
  (λ is. elim (in_parts x xs (p ∷ []) is) [ inl a ↦ differ.0 a | inr b ↦ elim b [ inl e ↦ out (inl (sym e)) | inr never ↦ never ] ]),
  differ_push p xs differ.1 (λ is. out (inr is)),
)

differ_drop : (xs : List ℕ) → Differ xs → Differ (drop 1 xs)
differ_drop [] differ = differ
differ_drop (x ∷ xs) differ = differ.1

pub drop_in : (q : ℕ) (xs : List ℕ) → IsIn q (drop 1 xs) → IsIn q xs
drop_in q [] is = is
drop_in q (x ∷ xs) is = inr is

-- one list is another now
apart_set : (lists : List (List ℕ)) (i : ℕ) (xs : List ℕ) → i < length lists → AreApart lists → Differ xs
    → ((q : ℕ) → IsIn q xs → IsIn q (list_at lists i) ⊎ IsOut lists q) → AreApart (set lists i xs)
apart_set lists i xs lt apart differ from = record {
  once = λ l. elim (cases_eq i l) [
    | inl same ↦ subst (λ ys. Differ ys) (sym (here l same)) differ
    | inr other ↦ subst (λ ys. Differ ys) (sym (there l other)) (apart.once l)
  ];
  in_one = λ l m q one other. elim (was l q one) [
    | inl a ↦ elim (was m q other) [ inl b ↦ apart.in_one l m q a b | inr b ↦ absurd (b.1 l a) ]
    | inr a ↦ elim (was m q other) [ inl b ↦ absurd (a.1 m b) | inr b ↦ sym a.0 ∙ b.0 ]
  ];
}
  where
    here : (l : ℕ) → i ≡ l → list_at (set lists i xs) l ≡ xs
    here l same = list_at-set lists i l xs lt ∙ ap (λ b. cond b xs (list_at lists l)) (eq-eqb i l same)

    there : (l : ℕ) → i ≢ l → list_at (set lists i xs) l ≡ list_at lists l
    there l other = list_at-set lists i l xs lt ∙ ap (λ b. cond b xs (list_at lists l)) (ne_eqb i l other)

    was : (l q : ℕ) → IsIn q (list_at (set lists i xs) l) → IsIn q (list_at lists l) ⊎ ((i ≡ l) × IsOut lists q)
    was l q is = elim (cases_eq i l) [
      | inl same ↦ elim (from q (subst (IsIn q) (here l same) is)) [
        | inl a ↦ inl (subst (λ m. IsIn q (list_at lists m)) same a)
        | inr b ↦ inr (same, b)
      ]
      | inr other ↦ inl (subst (IsIn q) (there l other) is)
    ]

pub apart_push : (lists : List (List ℕ)) (i p : ℕ) → i < length lists → AreApart lists → IsOut lists p → AreApart (set lists i (list_at lists i ++ p ∷ []))
apart_push lists i p lt apart out =
    apart_set lists i (list_at lists i ++ p ∷ []) lt apart (differ_push p (list_at lists i) (apart.once i) (out i))
    (λ q is. elim (in_parts q (list_at lists i) (p ∷ []) is) [
      | inl a ↦ inl a
      | inr b ↦ inr (elim b [ inl e ↦ subst (IsOut lists) (sym e) out | inr never ↦ absurd never ])
    ])

pub apart_pop : (lists : List (List ℕ)) (i : ℕ) → i < length lists → AreApart lists → AreApart (set lists i (drop 1 (list_at lists i)))
apart_pop lists i lt apart =
    apart_set lists i (drop 1 (list_at lists i)) lt apart (differ_drop (list_at lists i) (apart.once i)) (λ q is. inl (drop_in q (list_at lists i) is))

pub apart_without : (lists : List (List ℕ)) (p : ℕ) → AreApart lists → AreApart (map (without p) lists)
apart_without lists p apart = record {
  once = λ l. subst (λ ys. Differ ys) (sym (list_at-map (without p) refl lists l)) (differ_without p (list_at lists l) (apart.once l));
  in_one = λ l m q one other. apart.in_one l m q (was l q one) (was m q other);
}
  where
    was : (l q : ℕ) → IsIn q (list_at (map (without p) lists) l) → IsIn q (list_at lists l)
    was l q is = (in_without p q (list_at lists l) (subst (IsIn q) (list_at-map (without p) refl lists l) is)).0

-- the one that was first is out
pub out_pop : (lists : List (List ℕ)) (i p : ℕ) → i < length lists → AreApart lists → slice_get (list_at lists i) 0 ≡ Some p
    → IsIn p (list_at lists i) × IsOut (set lists i (drop 1 (list_at lists i))) p
out_pop lists i p lt apart first = (
  top (list_at lists i) first,
  (λ l is. elim (cases_eq i l) [
    | inl same ↦ behind (list_at lists i) first (apart.once i) (subst (IsIn p) (list_at-set lists i l (drop 1 (list_at lists i)) lt ∙ ap (λ b. cond b (drop 1 (list_at lists i)) (list_at lists l)) (eq-eqb i l same)) is)
    | inr other ↦ other (apart.in_one i l p (top (list_at lists i) first) (subst (IsIn p) (list_at-set lists i l (drop 1 (list_at lists i)) lt ∙ ap (λ b. cond b (drop 1 (list_at lists i)) (list_at lists l)) (ne_eqb i l other)) is))
  ]),
)
  where
    top : (xs : List ℕ) → slice_get xs 0 ≡ Some p → IsIn p xs
    top [] e = absurd (cc)
    top (x ∷ xs) e = inl (let same : x ≡ p = cc in sym same)

    behind : (xs : List ℕ) → slice_get xs 0 ≡ Some p → Differ xs → IsIn p (drop 1 xs) → ⊥
    behind [] e differ is = is
    behind (x ∷ xs) e differ is = differ.0 (let same : x ≡ p = cc in subst (λ y. IsIn y xs) (sym same) is)
