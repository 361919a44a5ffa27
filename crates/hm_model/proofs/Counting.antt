-- How many procedures haven't ended.
use Rattle.std.proofs.Common.{Bool, None, Option, Some, ap, arith, false, inl, inr, not, refl, suc, sym, true, zero, ℕ, ◌&&◌, ◌+◌, ◌<◌, ◌∙◌, ◌≡◌, ◌≢◌, ◌≤◌, ◌⊎◌}
use Rattle.std.proofs.lemmas.Bool.{and_from, and_parts, cases_Bool, cases_eq, false_from_ne_true, false≢true, not-true, not_from_false, true_from_ne_false, true≢false}
use Rattle.hm_model.proofs.Grown.{grown_all, made_up_to}
use Rattle.hm_model.specs.Counts.{count_below, one_if}
use Rattle.hm_model.specs.Journal.{Past}
use Rattle.hm_model.specs.Phase.{ended}
use Rattle.hm_model.specs.Records.{unfinished}
use Rattle.hm_model.specs.Rules.{IsLegal}
use Rattle.hm_model.specs.Tree.{Node, is_root, is_root_in, made, node_of}

pub count_same : (n : ℕ) (one other : ℕ → Bool) → ((q : ℕ) → q < n → one q ≡ other q) → count_below one n ≡ count_below other n
count_same zero one other same = refl
count_same (suc n) one other same =
    let rest = count_same n one other (λ q lt. same q (omega (arith, lt))) in
    let here : one_if (one n) ≡ one_if (other n) = ap one_if (same n (omega arith)) in
    omega (arith, rest, here)

-- one of them less
pub count_less : (n : ℕ) (one other : ℕ → Bool) (p : ℕ) → p < n → ((q : ℕ) → q < n → q ≢ p → one q ≡ other q) → one p ≡ true → other p ≡ false → count_below one n ≡ count_below other n + 1
count_less zero one other p lt same on off = absurd (omega (arith, lt))
count_less (suc n) one other p lt same on off = elim (cases_eq p n) [
  | inl here ↦
      let rest = count_same n one other (λ q l. same q (omega (arith, l)) (λ e. omega (arith, l, e, here))) in
      let first : one_if (one n) ≡ 1 = ap one_if (ap one (sym here) ∙ on) in
      let second : one_if (other n) ≡ 0 = ap one_if (ap other (sym here) ∙ off) in
      omega (arith, rest, first, second)
  | inr differs ↦
      let rest = count_less n one other p (omega (arith, lt, differs)) (λ q l. same q (omega (arith, l))) on off in
      let here : one_if (one n) ≡ one_if (other n) = ap one_if (same n (omega arith) (λ e. differs (sym e))) in
      omega (arith, rest, here)
]

pub count_none : (n : ℕ) (test : ℕ → Bool) → ((q : ℕ) → q < n → test q ≡ false) → count_below test n ≡ 0
count_none zero test none = refl
count_none (suc n) test none =
    let rest = count_none n test (λ q lt. none q (omega (arith, lt))) in
    let here : one_if (test n) ≡ 0 = ap one_if (none n (omega arith)) in
    omega (arith, rest, here)

-- at most one, where any two are the same
pub count_most : (n : ℕ) (test : ℕ → Bool) → ((i j : ℕ) → i < n → j < n → test i ≡ true → test j ≡ true → i ≡ j) → count_below test n ≤ 1
count_most zero test one = omega arith
count_most (suc n) test one = elim (cases_Bool (test n)) [
  | inr off ↦ (
      let rest = count_most n test (λ i j li lj ti tj. one i j (omega (arith, li)) (omega (arith, lj)) ti tj) in
      let none : one_if (test n) ≡ 0 = ap one_if off in
      omega (arith, rest, none))
  | inl on ↦ (
      let rest = count_none n test (λ q lt. elim (cases_Bool (test q)) [
        | inr off ↦ off
        | inl too ↦ (let same = one q n (omega (arith, lt)) (omega arith) too on in absurd (omega (arith, lt, same)))
      ]) in
      let here : one_if (test n) ≡ 1 = ap one_if on in
      omega (arith, rest, here))
]

-- one is found, or there is none
pub find_below : (n : ℕ) (test : ℕ → Bool) → ((q : ℕ) × (q < n) × (test q ≡ true)) ⊎ ((q : ℕ) → q < n → test q ≡ false)
find_below zero test = inr (λ q lt. absurd (omega (arith, lt)))
find_below (suc n) test = elim (cases_Bool (test n)) [
  | inl on ↦ inl (n, omega arith, on)
  | inr off ↦ elim (find_below n test) [
    | inl found ↦ inl (found.0, (let lt = found.1 in omega (arith, lt)), found.2)
    | inr none ↦ inr (λ q lt. elim (cases_eq q n) [ inl here ↦ ap test here ∙ off | inr differs ↦ none q (omega (arith, lt, differs)) ])
  ]
]

pub count_some : (n : ℕ) (test : ℕ → Bool) (p : ℕ) → p < n → test p ≡ true → 1 ≤ count_below test n
count_some zero test p lt on = absurd (omega (arith, lt))
count_some (suc n) test p lt on = elim (cases_eq p n) [
  | inl here ↦
      let first : one_if (test n) ≡ 1 = ap one_if (ap test (sym here) ∙ on) in
      omega (arith, first)
  | inr differs ↦ let rest = count_some n test p (omega (arith, lt, differs)) on in omega (arith, rest)
]

pub root_node_of : (J : Past) (q : ℕ) → is_root J q ≡ true → (node : Node) × (node_of J q ≡ Some node)
root_node_of J q on = by (node_of J q) refl on
  where
    by : (o : Option Node) → node_of J q ≡ o → is_root_in o ≡ true → (node : Node) × (node_of J q ≡ Some node)
    by None e h = absurd (false≢true h)
    by (Some node) e h = (node, e)

-- none is unfinished exactly where each root has ended
pub none_unfinished : (J : Past) → IsLegal J → unfinished J ≡ 0 → (p : ℕ) → is_root J p ≡ true → ended J p ≡ true
none_unfinished J legal none p root =
    let node = root_node_of J p root in
    let low = (made_up_to J (grown_all J legal) p node.0 node.1).1 in
    true_from_ne_false (ended J p) (λ off.
    let some = count_some (made J + 1) (λ q. is_root J q && not (ended J q)) p (omega (arith, low)) (and_from (is_root J p) (not (ended J p)) root (not_from_false (ended J p) off)) in
    omega (arith, some, none))

pub all_ended : (J : Past) → ((p : ℕ) → is_root J p ≡ true → ended J p ≡ true) → unfinished J ≡ 0
all_ended J each =
    count_none (made J + 1) (λ q. is_root J q && not (ended J q)) (λ q lt. false_from_ne_true (is_root J q && not (ended J q)) (λ on. let parts = and_parts (is_root J q) (not (ended J q)) on in true≢false (sym (each q parts.0) ∙ not-true (ended J q) parts.1)))
