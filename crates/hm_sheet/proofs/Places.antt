-- One of several things is written over by one whose sheets are the same and whose count rose.
use Rattle.std.proofs.Common.{◌≡◌, ℕ, zero, suc, ◌+◌, ◌-◌, ◌^◌, ◌<◌, List, [], ◌∷◌, ◌++◌, IfSome, map, set, length, get_or, slice_get, refl, ap, ◌∙◌, sym, arith, inl, inr, sum, Some, Bool, true, false, Result, Ok, Err, OnErr}
use Rattle.std.proofs.lemmas.Grind.{common_steps}
use Rattle.std.proofs.lemmas.Bool.{cases_lt}
use Rattle.std.proofs.lemmas.Option.{slice_get-get_or}
use Rattle.std.specs.List.{flat_map}
use Rattle.hm_data.specs.declared.sheet.Sheet.{Sheet}
use Rattle.hm_data.specs.declared.step.StepIn.{StepIn}
use Rattle.hm_data.specs.declared.step.StepOut.{StepOut}
use Rattle.hm_model.proofs.Sheets.{said_alike}
use Rattle.hm_model.specs.Sheets.{sheet_for}
use Rattle.hm_model.specs.Evaluation.{answer_of}
use Rattle.hm_sheet.specs.Words.{CountRises, CountsRise, risen, risen_if, risen_at, risen_at_if}

-- x is at place i, and y has the same
pub flat_map-set_same : {X Y : Type 0} (f : X → List Y) (xs : List X) (i : ℕ) (x y : X) → i < length xs → x ≡ get_or xs i x → f y ≡ f x → flat_map f (set xs i y) ≡ flat_map f xs
flat_map-set_same f [] i x y lt is same = refl
flat_map-set_same f (z ∷ xs) zero x y lt is same = ap (λ w. w ++ flat_map f xs) (same ∙ ap f is)
flat_map-set_same f (z ∷ xs) (suc i) x y lt is same =
    ap (λ zs. f z ++ zs) (flat_map-set_same f xs i x y (omega arith) is same)

sum-cons : (a : ℕ) (xs : List ℕ) → sum (a ∷ xs) ≡ a + sum xs
sum-cons a xs = grind (arith, common_steps)

less_head : (a b rest : ℕ) → a < b → a + rest < b + rest
less_head a b rest lt = omega arith

less_tail : (a m n : ℕ) → m < n → a + m < a + n
less_tail a m n lt = omega arith

-- one count rises, and the others stay
pub counts_rise : {X : Type 0} (f : X → ℕ) (xs : List X) (i : ℕ) (x y : X) → i < length xs → x ≡ get_or xs i x → CountRises (f x) (f y) → CountsRise (map f xs) (map f (set xs i y))
counts_rise f [] i x y lt is rises = absurd (omega arith)
counts_rise f (z ∷ xs) zero x y lt is rises = elim (cases_lt (f z) (2 ^ 64 - 1)) [
  | inl below ↦ inl (let same : f x ≡ f z = ap f is in rw (sum-cons (f z) (map f xs), sum-cons (f y) (map f xs)) (less_head (f z) (f y) (sum (map f xs)) (omega (arith, rises))))
  | inr full ↦ inr (0, f z, omega arith, refl, full)
]
counts_rise f (z ∷ xs) (suc i) x y lt is rises = elim (counts_rise f xs i x y (omega arith) is rises) [
  | inl more ↦ inl (rw (sum-cons (f z) (map f xs), sum-cons (f z) (map f (set xs i y))) (less_tail (f z) (sum (map f xs)) (sum (map f (set xs i y))) more))
  | inr full ↦ inr (suc full.0, full.1, omega (arith, full.2), full.3, full.4)
]

-- a count stays, and so do the others
pub counts_same : {X : Type 0} (f : X → ℕ) (xs : List X) (i : ℕ) (x y : X) → i < length xs → x ≡ get_or xs i x → f y ≡ f x → map f (set xs i y) ≡ map f xs
counts_same f [] i x y lt is same = refl
counts_same f (z ∷ xs) zero x y lt is same = ap (λ n. n ∷ map f xs) (same ∙ ap f is)
counts_same f (z ∷ xs) (suc i) x y lt is same = ap (λ ns. f z ∷ ns) (counts_same f xs i x y (omega (arith, lt)) is same)

raised_there : {X : Type 0} (f : X → ℕ) (xs : List X) (i : ℕ) (x y : X) → i < length xs → x ≡ get_or xs i x → f y ≡ risen (f x) → map f (set xs i y) ≡ risen_at i (map f xs)
raised_there f [] i x y lt is rises = absurd (omega (arith, lt))
raised_there f (z ∷ xs) zero x y lt is rises = ap (λ n. n ∷ map f xs) (rises ∙ ap (λ x. risen (f x)) is)
raised_there f (z ∷ xs) (suc i) x y lt is rises = ap (λ ns. f z ∷ ns) (raised_there f xs i x y (omega (arith, lt)) is rises)

-- what the thing at place i says is what all say
pub ran : {X : Type 0} (f : X → List Sheet) (xs : List X) (i : ℕ) (x : X) (at : StepIn) (out : StepOut) → i < length xs → x ≡ get_or xs i x → IfSome (slice_get xs i) (λ y. sheet_for (f y) at.kind ≡ sheet_for (flat_map f xs) at.kind) → answer_of (f x) at ≡ Some out → answer_of (flat_map f xs) at ≡ Some out
ran f xs i x at out lt is served says =
    let there : slice_get xs i ≡ Some x = slice_get-get_or xs i x lt ∙ ap (λ y. Some y) (sym is) in
    let same : sheet_for (f x) at.kind ≡ sheet_for (flat_map f xs) at.kind = rw there at served in
    said_alike (flat_map f xs) (f x) at (sym same) ∙ says

-- one count rises where it is to, and the others stay
pub counts_raised : {X : Type 0} (f : X → ℕ) (xs : List X) (i : ℕ) (x y : X) (place : ℕ) (b : Bool) → i < length xs → x ≡ get_or xs i x → i ≡ place → f y ≡ risen_if b (f x) → map f (set xs i y) ≡ risen_at_if b place (map f xs)
counts_raised f xs i x y place true lt is same rises = raised_there f xs i x y lt is rises ∙ ap (λ k. risen_at k (map f xs)) same
counts_raised f xs i x y place false lt is same rises = counts_same f xs i x y lt is rises

-- what holds whatever was answered holds at a refusal
pub at_refusal : {A E : Type 0} (r : Result A E) (P : Type 0) → P → OnErr r P
at_refusal (Ok value) P holds = tt
at_refusal (Err fault) P holds = holds
