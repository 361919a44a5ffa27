-- Elements at places, after a change and after what is added.
use Rattle.std.proofs.Common.{◌≡◌, ◌≢◌, ℕ, zero, suc, ◌+◌, ◌<◌, Bool, true, false, not, ◌==◌, List, [], ◌∷◌, ◌++◌, length, map, get_or, set, eqb, cond, Option, Some, None, slice_get, refl, sym, ap, ◌∙◌, subst, inl, inr, ◌⊎◌, arith}
use Rattle.std.proofs.lemmas.Bool.{cases_eq, eq-eqb, ne_eqb, eqb-true, true≢false}
use Rattle.std.proofs.lemmas.Bool.Decides.{nat_tests}
use Rattle.std.proofs.lemmas.Option.{none-some}
use Rattle.std.specs.Option.{option_flatten}
use Rattle.hm_lists.specs.Chains.{IsIn, list_at}
use Rattle.hm_lists.specs.Map.{without}
use Rattle.hm_locks.specs.declared.entry.Entry.{Entry}
use Rattle.hm_locks.specs.Kept.{entry_at}

pub slice_get-push : {X : Type 0} (xs : List X) (y : X) (k : ℕ) → slice_get (xs ++ y ∷ []) k ≡ cond (eqb (length xs) k) (Some y) (slice_get xs k)
slice_get-push [] y zero = refl
slice_get-push [] y (suc k) = grind (arith, nat_tests)
slice_get-push (x ∷ xs) y zero = grind (arith, nat_tests)
slice_get-push (x ∷ xs) y (suc k) = grind (arith, nat_tests, slice_get-push xs y k)

pub slice_get-set : {X : Type 0} (xs : List X) (i : ℕ) (y : X) (k : ℕ) → i < length xs → slice_get (set xs i y) k ≡ cond (eqb i k) (Some y) (slice_get xs k)
slice_get-set [] i y k lt = absurd (omega arith)
slice_get-set (x ∷ xs) zero y zero lt = grind (arith, nat_tests)
slice_get-set (x ∷ xs) zero y (suc k) lt = grind (arith, nat_tests)
slice_get-set (x ∷ xs) (suc i) y zero lt = grind (arith, nat_tests)
slice_get-set (x ∷ xs) (suc i) y (suc k) lt = grind (arith, nat_tests, slice_get-set xs i y k (omega (arith, lt)))

pub get_within : {X : Type 0} (xs : List X) (k : ℕ) (x : X) → slice_get xs k ≡ Some x → k < length xs
get_within [] k x e = absurd (none-some x e)
get_within (y ∷ xs) zero x e = omega arith
get_within (y ∷ xs) (suc k) x e = let rest = get_within xs k x e in omega (arith, rest)

pub got : {X : Type 0} (xs : List X) (k : ℕ) → k < length xs → (x : X) × (slice_get xs k ≡ Some x)
got [] k lt = absurd (omega (arith, lt))
got (x ∷ xs) zero lt = (x, refl)
got (x ∷ xs) (suc k) lt = got xs k (omega (arith, lt))

pub get_left : {X : Type 0} (xs ys : List X) (k : ℕ) → k < length xs → slice_get (xs ++ ys) k ≡ slice_get xs k
get_left [] ys k lt = absurd (omega (arith, lt))
get_left (x ∷ xs) ys zero lt = refl
get_left (x ∷ xs) ys (suc k) lt = get_left xs ys k (omega (arith, lt))

pub get_right : {X : Type 0} (xs ys : List X) (k : ℕ) → slice_get (xs ++ ys) (length xs + k) ≡ slice_get ys k
get_right [] ys k = let e : 0 + k ≡ k = omega arith in ap (slice_get ys) e
get_right (x ∷ xs) ys k =
    let e : length (x ∷ xs) + k ≡ suc (length xs + k) = omega arith in
    ap (slice_get ((x ∷ xs) ++ ys)) e ∙ get_right xs ys k

-- an element by an index is the one at any default
pub get_is : {X : Type 0} (xs : List X) (i : ℕ) (x : X) → i < length xs → x ≡ get_or xs i x → slice_get xs i ≡ Some x
get_is [] i x lt e = absurd (omega (arith, lt))
get_is (y ∷ xs) zero x lt e = ap Some (sym e)
get_is (y ∷ xs) (suc i) x lt e = get_is xs i x (omega (arith, lt)) e

-- entries at places
pub entry_at-set : (es : List (Option Entry)) (i j : ℕ) (o : Option Entry) → i < length es → entry_at (set es i o) j ≡ cond (eqb i j) o (entry_at es j)
entry_at-set es i j o lt = ap option_flatten (slice_get-set es i o j lt) ∙ by (eqb i j)
  where
    by : (b : Bool) → option_flatten (cond b (Some o) (slice_get es j)) ≡ cond b o (entry_at es j)
    by true = refl
    by false = refl

pub entry_at-push : (es : List (Option Entry)) (o : Option Entry) (j : ℕ) → entry_at (es ++ o ∷ []) j ≡ cond (eqb (length es) j) o (entry_at es j)
entry_at-push es o j = ap option_flatten (slice_get-push es o j) ∙ by (eqb (length es) j)
  where
    by : (b : Bool) → option_flatten (cond b (Some o) (slice_get es j)) ≡ cond b o (entry_at es j)
    by true = refl
    by false = refl

pub entry_within : (es : List (Option Entry)) (i : ℕ) (e : Entry) → entry_at es i ≡ Some e → i < length es
entry_within es i e is = by (slice_get es i) refl is
  where
    by : (o : Option (Option Entry)) → slice_get es i ≡ o → option_flatten o ≡ Some e → i < length es
    by None f h = absurd (none-some e h)
    by (Some o) f h = get_within es i o f

-- lists of nodes
in_left : (z : ℕ) (xs ys : List ℕ) → IsIn z xs → IsIn z (xs ++ ys)
in_left z [] ys is = absurd is
in_left z (x ∷ xs) ys (inl e) = inl e
in_left z (x ∷ xs) ys (inr r) = inr (in_left z xs ys r)

in_right : (z : ℕ) (xs ys : List ℕ) → IsIn z ys → IsIn z (xs ++ ys)
in_right z [] ys is = is
in_right z (x ∷ xs) ys is = inr (in_right z xs ys is)

in_parts : (z : ℕ) (xs ys : List ℕ) → IsIn z (xs ++ ys) → IsIn z xs ⊎ IsIn z ys
in_parts z [] ys is = inr is
in_parts z (x ∷ xs) ys (inl e) = inl (inl e)
in_parts z (x ∷ xs) ys (inr r) = elim (in_parts z xs ys r) [ inl a ↦ inl (inr a) | inr b ↦ inr b ]

list_at-set : (lists : List (List ℕ)) (i j : ℕ) (xs : List ℕ) → i < length lists → list_at (set lists i xs) j ≡ cond (eqb i j) xs (list_at lists j)
list_at-set [] i j xs lt = absurd (omega (arith, lt))
list_at-set (ys ∷ lists) zero zero xs lt = grind (arith, nat_tests)
list_at-set (ys ∷ lists) zero (suc j) xs lt = grind (arith, nat_tests)
list_at-set (ys ∷ lists) (suc i) zero xs lt = grind (arith, nat_tests)
list_at-set (ys ∷ lists) (suc i) (suc j) xs lt = grind (arith, nat_tests, list_at-set lists i j xs (omega (arith, lt)))

-- a node that is put after the last of a list
pub pushed_in : (lists : List (List ℕ)) (list node : ℕ) → list < length lists → (l n : ℕ)
    → (IsIn n (list_at (set lists list (list_at lists list ++ node ∷ [])) l) → IsIn n (list_at lists l) ⊎ ((l ≡ list) × (n ≡ node)))
    × (IsIn n (list_at lists l) ⊎ ((l ≡ list) × (n ≡ node)) → IsIn n (list_at (set lists list (list_at lists list ++ node ∷ [])) l))
pushed_in lists list node lt l n =
    let at = list_at-set lists list l (list_at lists list ++ node ∷ []) lt in
    elim (cases_eq list l) [
      | inl same ↦
          let here : list_at (set lists list (list_at lists list ++ node ∷ [])) l ≡ list_at lists l ++ node ∷ [] =
          at ∙ ap (λ b. cond b (list_at lists list ++ node ∷ []) (list_at lists l)) (eq-eqb list l same) ∙ ap (λ m. list_at lists m ++ node ∷ []) same in (
            (λ is. elim (in_parts n (list_at lists l) (node ∷ []) (subst (IsIn n) here is)) [
              | inl was ↦ inl was
              | inr new ↦ elim new [ inl e ↦ inr (sym same, e) | inr never ↦ absurd never ]
            ]),
            (λ is. subst (IsIn n) (sym here) (elim is [
              | inl was ↦ in_left n (list_at lists l) (node ∷ []) was
              | inr new ↦ in_right n (list_at lists l) (node ∷ []) (inl new.1)
            ])),
          )
      | inr differs ↦
          let here : list_at (set lists list (list_at lists list ++ node ∷ [])) l ≡ list_at lists l =
          at ∙ ap (λ b. cond b (list_at lists list ++ node ∷ []) (list_at lists l)) (ne_eqb list l differs) in (
            (λ is. inl (subst (IsIn n) here is)),
            (λ is. subst (IsIn n) (sym here) (elim is [ inl was ↦ was | inr new ↦ absurd (differs (sym new.0)) ])),
          )
    ]

-- membership of what is left when a node is taken out
abbrev IsWithout : ℕ → ℕ → List ℕ → List ℕ → Type 0
IsWithout node n new old = (IsIn n new → IsIn n old × (n ≢ node)) × (IsIn n old × (n ≢ node) → IsIn n new)

without_by : (node n x : ℕ) (xs : List ℕ) (b : Bool) → (x == node) ≡ b → IsWithout node n (without node xs) xs → IsWithout node n (cond (not b) (x ∷ without node xs) (without node xs)) (x ∷ xs)
without_by node n x xs true e rest = (
  (λ is. (inr (rest.0 is).0, (rest.0 is).1)),
  (λ is. elim is.0 [ inl same ↦ absurd (is.1 (same ∙ eqb-true x node e)) | inr more ↦ rest.1 (more, is.1) ]),
)
without_by node n x xs false e rest = (
  (λ is. elim is [
    | inl same ↦ (inl same, λ f. true≢false (sym (eq-eqb x node (sym same ∙ f)) ∙ e))
    | inr more ↦ (inr (rest.0 more).0, (rest.0 more).1)
  ]),
  (λ is. elim is.0 [ inl same ↦ inl same | inr more ↦ inr (rest.1 (more, is.1)) ]),
)

without_in : (node n : ℕ) (xs : List ℕ) → IsWithout node n (without node xs) xs
without_in node n [] = ((λ is. absurd is), (λ is. absurd is.0))
without_in node n (x ∷ xs) = without_by node n x xs (x == node) refl (without_in node n xs)

-- a node that is taken out
pub unlinked_in : (lists : List (List ℕ)) (node : ℕ) (l n : ℕ)
    → (IsIn n (list_at (map (without node) lists) l) → IsIn n (list_at lists l) × (n ≢ node))
    × (IsIn n (list_at lists l) × (n ≢ node) → IsIn n (list_at (map (without node) lists) l))
unlinked_in [] node l n = ((λ is. absurd is), (λ is. absurd is.0))
unlinked_in (xs ∷ lists) node zero n = without_in node n xs
unlinked_in (xs ∷ lists) node (suc l) n = unlinked_in lists node l n

pub length_map : (f : List ℕ → List ℕ) (lists : List (List ℕ)) → length (map f lists) ≡ length lists
length_map f [] = refl
length_map f (xs ∷ lists) = ap suc (length_map f lists)

pub got_or : {X : Type 0} (xs : List X) (k : ℕ) (d : X) → k < length xs → slice_get xs k ≡ Some (get_or xs k d)
got_or [] k d lt = absurd (omega (arith, lt))
got_or (x ∷ xs) zero d lt = refl
got_or (x ∷ xs) (suc k) d lt = got_or xs k d (omega (arith, lt))
