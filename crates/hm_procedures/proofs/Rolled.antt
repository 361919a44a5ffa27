-- Going over the tree of a root, and showing each procedure of it.
use Rattle.std.proofs.Common.{◌≡◌, ℕ, ◌+◌, ◌-◌, ◌<◌, ◌≤◌, ◌&&◌, ◌||◌, ◌==◌, List, Bool, true, false, Option, Some, None, nat_lt, slice_get, refl, ap, sym, ◌∙◌, inl, inr, arith}
use Rattle.std.specs.Option.{option_map}
use Rattle.std.proofs.lemmas.Bool.{cases_eq, cases_lt, eq-eqb, le-ltb, lt-ltb, ne_eqb}
use Rattle.std.proofs.lemmas.Option.{same_Some}
use Rattle.hm_names.specs.declared.pid.Pid.{Pid}
use Rattle.hm_data.specs.declared.answer.Cause.{Cause}
use Rattle.hm_procedures.specs.Changes.{shown_if}
use Rattle.hm_procedures.specs.Kept.{root_shown}
use Rattle.hm_procedures.specs.Trees.{IsNext}
use Rattle.hm_procedures.specs.declared.kept.Tracked.{Tracked}
use Rattle.hm_procedures.proofs.Places.{pid_is}

-- a number lies before where one is
abbrev pub is_passed : Option Pid → ℕ → Bool
is_passed None p = true
is_passed (Some at) p = nat_lt p at.0

abbrev pub is_of : Pid → Tracked → Bool
is_of root one = (let its = root_shown one in its.0) == root.0

-- the procedures of a root's tree that were passed are shown
abbrev pub AreShown : ℕ → List Tracked → List Tracked → Pid → Cause → Option Pid → Type 0
AreShown from kept now root cause at =
    (p : ℕ) → slice_get now p ≡ option_map (λ one. shown_if (is_of root one && is_passed at (from + p + 1)) (Some cause) true one) (slice_get kept p)

-- where one is, there is a procedure of the tree
abbrev pub IsAt : ℕ → List Pid → Pid → Option Pid → Type 0
IsAt from roots root None = Unit {0}
IsAt from roots root (Some at) = (from < at.0) × (slice_get roots (at.0 - from - 1) ≡ Some root)

pub at_next : (from : ℕ) (roots : List Pid) (root : Pid) (place : ℕ) (next : Option Pid) → IsNext from roots root place next → IsAt from roots root next
at_next from roots root place None h = tt
at_next from roots root place (Some next) h = (let lt = h.0 in omega (arith, lt), h.1)

twice : (a b : Bool) (cause : Cause) (one : Tracked) → shown_if a (Some cause) true (shown_if b (Some cause) true one) ≡ shown_if (a || b) (Some cause) true one
twice true b cause one = refl
twice false b cause one = refl

module _ (from : ℕ) (kept : List Tracked) (roots : List Pid) (root : Pid) (cause : Cause) (are : (p : ℕ) → slice_get roots p ≡ option_map root_shown (slice_get kept p)) where
  root_here : (p : ℕ) (one : Tracked) → slice_get kept p ≡ Some one → slice_get roots p ≡ Some (root_shown one)
  root_here p one is = are p ∙ ap (option_map root_shown) is

  -- none is passed at first
  pub shown_none : ((p : ℕ) → from + p + 1 < root.0 → slice_get roots p ≡ Some root → ⊥) → AreShown from kept kept root cause (Some root)
  shown_none first p = by (slice_get kept p) refl
    where
      off : (one : Tracked) → slice_get kept p ≡ Some one → (is_of root one && nat_lt (from + p + 1) root.0) ≡ false
      off one is = elim (cases_lt (from + p + 1) root.0) [
        | inr le ↦ ap (λ b. is_of root one && b) (le-ltb (from + p + 1) root.0 le) ∙ and_false (is_of root one)
        | inl lt ↦ elim (cases_eq (let its = root_shown one in its.0) root.0) [
          | inl same ↦ absurd (first p lt (root_here p one is ∙ ap Some (pid_is (root_shown one) root same)))
          | inr other ↦ ap (λ b. b && nat_lt (from + p + 1) root.0) (ne_eqb (let its = root_shown one in its.0) root.0 other)
        ]
      ]
        where
          and_false : (a : Bool) → (a && false) ≡ false
          and_false true = refl
          and_false false = refl

      by : (o : Option Tracked) → slice_get kept p ≡ o → o ≡ option_map (λ one. shown_if (is_of root one && is_passed (Some root) (from + p + 1)) (Some cause) true one) o
      by None e = refl
      by (Some one) e = sym (ap (λ b. Some (shown_if b (Some cause) true one)) (off one e))

  -- one more
  pub shown_more : (pid : Pid) (next : Option Pid) (now new : List Tracked) → IsAt from roots root (Some pid) → IsNext from roots root (pid.0 - from - 1) next → AreShown from kept now root cause (Some pid)
      → ((p : ℕ) → slice_get new p ≡ option_map (shown_if (pid.0 == from + p + 1) (Some cause) true) (slice_get now p)) → AreShown from kept new root cause next
  shown_more pid next now new at is_next was shows p = shows p ∙ ap (option_map (shown_if (pid.0 == from + p + 1) (Some cause) true)) (was p) ∙ by (slice_get kept p) refl
    where
      own : (one : Tracked) → slice_get kept p ≡ Some one → pid.0 ≡ from + p + 1 → root_shown one ≡ root
      own one is same = let e : pid.0 - from - 1 ≡ p = omega (arith, same) in same_Some (root_shown one) root (sym (root_here p one is) ∙ ap (slice_get roots) (sym e) ∙ at.1)

      member : (one : Tracked) → slice_get kept p ≡ Some one → (let its = root_shown one in its.0) ≡ root.0 → slice_get roots p ≡ Some root
      member one is same = root_here p one is ∙ ap Some (pid_is (root_shown one) root same)

      passed : (n : Option Pid) → IsNext from roots root (pid.0 - from - 1) n → from + p + 1 ≤ pid.0 → is_passed n (from + p + 1) ≡ true
      passed None h le = refl
      passed (Some n) h le = (let lt = h.0 in let low = at.0 in lt-ltb (from + p + 1) n.0 (omega (arith, lt, le, low)))

      ahead : (n : Option Pid) → IsNext from roots root (pid.0 - from - 1) n → pid.0 < from + p + 1 → slice_get roots p ≡ Some root → is_passed n (from + p + 1) ≡ false
      ahead None h lt is = absurd (h p (let low = at.0 in omega (arith, lt, low)) is)
      ahead (Some n) h lt is = elim (cases_lt (from + p + 1) n.0) [
        | inl before ↦ absurd (h.2 p (let low = at.0 in omega (arith, lt, low)) before is)
        | inr le ↦ le-ltb (from + p + 1) n.0 le
      ]

      test : (one : Tracked) → slice_get kept p ≡ Some one → ((pid.0 == from + p + 1) || (is_of root one && nat_lt (from + p + 1) pid.0)) ≡ (is_of root one && is_passed next (from + p + 1))
      test one is = elim (cases_eq (let its = root_shown one in its.0) root.0) [
        | inr other ↦
            ap (λ b. b || (is_of root one && nat_lt (from + p + 1) pid.0)) (ne_eqb pid.0 (from + p + 1) (λ same. other (ap (λ (x : Pid). x.0) (own one is same))))
            ∙ ap (λ b. b && nat_lt (from + p + 1) pid.0) (ne_eqb (let its = root_shown one in its.0) root.0 other)
            ∙ sym (ap (λ b. b && is_passed next (from + p + 1)) (ne_eqb (let its = root_shown one in its.0) root.0 other))
        | inl same ↦
            ap (λ b. (pid.0 == from + p + 1) || (b && nat_lt (from + p + 1) pid.0)) (eq-eqb (let its = root_shown one in its.0) root.0 same)
            ∙ between (member one is same)
            ∙ sym (ap (λ b. b && is_passed next (from + p + 1)) (eq-eqb (let its = root_shown one in its.0) root.0 same))
      ]
        where
          between : slice_get roots p ≡ Some root → ((pid.0 == from + p + 1) || nat_lt (from + p + 1) pid.0) ≡ is_passed next (from + p + 1)
          between here = elim (cases_eq pid.0 (from + p + 1)) [
            | inl same ↦ ap (λ b. b || nat_lt (from + p + 1) pid.0) (eq-eqb pid.0 (from + p + 1) same) ∙ sym (passed next is_next (omega (arith, same)))
            | inr differs ↦ ap (λ b. b || nat_lt (from + p + 1) pid.0) (ne_eqb pid.0 (from + p + 1) differs) ∙ elim (cases_lt (from + p + 1) pid.0) [
              | inl lt ↦ lt-ltb (from + p + 1) pid.0 lt ∙ sym (passed next is_next (omega (arith, lt)))
              | inr le ↦ le-ltb (from + p + 1) pid.0 le ∙ sym (ahead next is_next (omega (arith, le, differs)) here)
            ]
          ]

      by : (o : Option Tracked) → slice_get kept p ≡ o
          → option_map (shown_if (pid.0 == from + p + 1) (Some cause) true) (option_map (λ one. shown_if (is_of root one && is_passed (Some pid) (from + p + 1)) (Some cause) true one) o)
          ≡ option_map (λ one. shown_if (is_of root one && is_passed next (from + p + 1)) (Some cause) true one) o
      by None e = refl
      by (Some one) e = ap Some (twice (pid.0 == from + p + 1) (is_of root one && nat_lt (from + p + 1) pid.0) cause one ∙ ap (λ b. shown_if b (Some cause) true one) (test one e))

  -- all
  pub shown_all : (now : List Tracked) → AreShown from kept now root cause None → (p : ℕ) → slice_get now p ≡ option_map (λ one. shown_if (is_of root one) (Some cause) true one) (slice_get kept p)
  shown_all now was p = was p ∙ by (slice_get kept p)
    where
      by : (o : Option Tracked) → option_map (λ one. shown_if (is_of root one && true) (Some cause) true one) o ≡ option_map (λ one. shown_if (is_of root one) (Some cause) true one) o
      by None = refl
      by (Some one) = ap (λ b. Some (shown_if b (Some cause) true one)) (and_true (is_of root one))
        where
          and_true : (a : Bool) → (a && true) ≡ a
          and_true true = refl
          and_true false = refl
