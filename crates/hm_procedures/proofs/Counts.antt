-- How many roots haven't ended, after an entry.
use Rattle.std.proofs.Common.{◌≡◌, ◌≢◌, ℕ, zero, suc, ◌+◌, ◌<◌, ◌≤◌, ◌&&◌, Bool, true, false, not, if◌then◌else◌, Option, Some, None, refl, ap, sym, ◌∙◌, inl, inr, ◌⊎◌, is_some, arith}
use Rattle.std.proofs.lemmas.Bool.{and_left, cases_eq}
use Rattle.hm_data.specs.declared.answer.Cause.{Cause}
use Rattle.hm_data.specs.declared.call.Told.{Told}
use Rattle.hm_model.specs.Answers.{done_with, is_stopped, last_answer}
use Rattle.hm_model.specs.Counts.{count_below, one_if}
use Rattle.hm_model.specs.Journal.{Past}
use Rattle.hm_model.specs.Phase.{ended, ended_node, rolled_back, root_ended, root_over}
use Rattle.hm_model.specs.Records.{unfinished}
use Rattle.hm_model.specs.Tree.{Node, is_root, is_root_in, is_top, made, node_of}
use Rattle.hm_model.proofs.Counting.{count_less, count_same}
use Rattle.hm_procedures.proofs.Blank.{IsBlank}

-- more numbers that all pass the test, or none of them
pub count_more : (m n : ℕ) (test : ℕ → Bool) (b : Bool) → ((q : ℕ) → n ≤ q → q < n + m → test q ≡ b) → count_below test (n + m) ≡ count_below test n + (if b then m else 0)
count_more zero n test b each = let e : n + 0 ≡ n = omega arith in ap (count_below test) e ∙ none b
  where
    none : (b : Bool) → count_below test n ≡ count_below test n + (if b then 0 else 0)
    none true = omega arith
    none false = omega arith
count_more (suc m) n test b each =
    let e : n + suc m ≡ suc (n + m) = omega arith in
    let rest = count_more m n test b (λ q ge lt. each q ge (omega (arith, lt))) in
    ap (count_below test) e ∙ by b rest (ap one_if (each (n + m) (omega arith) (omega arith)))
  where
    by : (b : Bool) → count_below test (n + m) ≡ count_below test n + (if b then m else 0) → one_if (test (n + m)) ≡ one_if b → count_below test (suc (n + m)) ≡ count_below test n + (if b then suc m else 0)
    by true rest here = omega (arith, rest, here)
    by false rest here = omega (arith, rest, here)

pub count_most : (n : ℕ) (test : ℕ → Bool) → count_below test n ≤ n
count_most zero test = omega arith
count_most (suc n) test = let rest = count_most n test in let one = by (test n) in omega (arith, rest, one)
  where
    by : (b : Bool) → one_if b ≤ 1
    by true = omega arith
    by false = omega arith

-- it is a root that hasn't ended
abbrev pub is_open : Past → ℕ → Bool
is_open J q = is_root J q && not (ended J q)

module _ (J J' : Past) (m : ℕ) (made_is : made J' ≡ made J + m) (b : Bool) (new : (q : ℕ) → made J < q → q ≤ made J + m → is_open J' q ≡ b) where
  behind : unfinished J' ≡ count_below (is_open J') (made J + 1) + (if b then m else 0)
  behind =
      let place : made J' + 1 ≡ made J + 1 + m = omega (arith, made_is) in
      ap (count_below (is_open J')) place ∙ count_more m (made J + 1) (is_open J') b (λ q ge lt. new q (omega (arith, ge)) (omega (arith, lt)))

  -- no root that was there ends
  pub all_stay : ((q : ℕ) → q ≤ made J → is_open J' q ≡ is_open J q) → unfinished J' ≡ unfinished J + (if b then m else 0)
  all_stay old =
      let same = count_same (made J + 1) (is_open J') (is_open J) (λ q lt. old q (omega (arith, lt))) in
      behind ∙ ap (λ n. n + (if b then m else 0)) same

  -- one that hadn't ended ends or not, no other does
  pub one_may : (r : ℕ) → r ≤ made J → is_open J r ≡ true → is_root J' r ≡ true → ((q : ℕ) → q ≤ made J → q ≢ r → is_open J' q ≡ is_open J q)
      → unfinished J' + one_if (ended J' r) ≡ unfinished J + (if b then m else 0)
  one_may r le was root old = by (ended J' r) refl
    where
      now : (e : Bool) → ended J' r ≡ e → is_open J' r ≡ not e
      now e is = ap (λ x. x && not (ended J' r)) root ∙ ap not is

      sum : {a : ℕ} (c d : ℕ) → a ≡ c + d → c + 1 ≡ unfinished J → a + 1 ≡ unfinished J + d
      sum c d e f = omega (arith, e, f)

      none : {a : ℕ} (c d : ℕ) → a ≡ c + d → c ≡ unfinished J → a + 0 ≡ unfinished J + d
      none c d e f = omega (arith, e, f)

      by : (e : Bool) → ended J' r ≡ e → unfinished J' + one_if e ≡ unfinished J + (if b then m else 0)
      by true is = sum _ _ behind (sym (count_less (made J + 1) (is_open J) (is_open J') r (omega (arith, le)) (λ q lt differs. sym (old q (omega (arith, lt)) differs)) was (now true is)))
      by false is = none _ _ behind (count_same (made J + 1) (is_open J') (is_open J) (λ q lt. elim (cases_eq q r) [
        | inl same ↦ ap (is_open J') same ∙ now false is ∙ sym was ∙ ap (is_open J) (sym same)
        | inr differs ↦ old q (omega (arith, lt)) differs
      ]))

-- a new root hasn't ended, and a new child is no root
pub open_root : (J : Past) (p : ℕ) (node : Node) → node_of J p ≡ Some node → is_top node.above ≡ true → IsBlank J p → is_open J p ≡ true
open_root J p node is top blank =
    ap (λ n. is_root_in n && not (ended_node J p n)) is
    ∙ ap (λ t. t && not (if t then root_ended J p else is_stopped (last_answer J p))) top
    ∙ ap (λ c. not (root_over c (rolled_back J p) (done_with (last_answer J p)))) blank.cause_is
    ∙ ap (λ l. not (root_over None (rolled_back J p) (done_with l))) blank.last

pub closed : (J : Past) (p : ℕ) → node_of J p ≡ None → is_open J p ≡ false
closed J p none = ap (λ n. is_root_in n && not (ended_node J p n)) none

pub no_root : (J : Past) (p : ℕ) (node : Node) → node_of J p ≡ Some node → is_top node.above ≡ false → is_open J p ≡ false
no_root J p node is below = ap (λ n. is_root_in n && not (ended_node J p n)) is ∙ and_left (is_top node.above) (not (ended_node J p (Some node))) below

-- a root that may still fail or be undone hasn't ended
pub not_over : (c : Option Cause) (rolled : Bool) (told : Option Told) → (c ≡ None) ⊎ (rolled ≡ false) → told ≡ None → root_over c rolled told ≡ false
not_over None rolled told h none = ap is_some none
not_over (Some c) true told h none = elim h [ inl e ↦ cc | inr e ↦ cc ]
not_over (Some c) false told h none = refl
