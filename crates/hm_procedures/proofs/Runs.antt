-- The children that a last step made are numbered one after another.
use Rattle.std.proofs.Common.{◌≡◌, ◌≢◌, ℕ, zero, suc, ◌+◌, ◌-◌, ◌<◌, ◌≤◌, ◌&&◌, ◌==◌, List, [], ◌∷◌, ◌++◌, Bool, true, false, if◌then◌else◌, Option, Some, None, length, nat_lt, slice_get, refl, ap, sym, ◌∙◌, inl, inr, arith}
use Rattle.std.specs.Option.{option_map}
use Rattle.std.proofs.lemmas.Bool.{and_from, and_left, and_right, cases_eq, cases_lt, cond-false, cond-true, eq-eqb, le-ltb, lt-ltb, ne_eqb}
use Rattle.hm_names.specs.Server.{Server}
use Rattle.hm_names.specs.declared.pid.Pid.{Pid}
use Rattle.hm_data.specs.declared.args.Args.{Args}
use Rattle.hm_data.specs.declared.call.Told.{Told}
use Rattle.hm_data.specs.declared.entry.Entry.TheVariants as entry_is
use Rattle.hm_data.specs.declared.step.StepOut.{StepOut}
use Rattle.hm_model.specs.Answers.{done_with, last_answer}
use Rattle.hm_model.specs.Inputs.{ends_below, ends_of, is_new_child, made_at_step}
use Rattle.hm_model.specs.Journal.{Past}
use Rattle.hm_model.specs.Phase.{child_in, end_of, is_parent}
use Rattle.hm_model.specs.Procedures.{offset}
use Rattle.hm_model.specs.Rules.{IsLegal}
use Rattle.hm_model.specs.Tree.{Node, args_in, made, node_of, root_node}
use Rattle.hm_model.proofs.Grown.{down_new, down_old, grown_all, step_old, submit_new, submit_old, undo_new, undo_old}
use Rattle.hm_model.proofs.Trees.{new_child, other_steps, steps_now}
use Rattle.hm_procedures.specs.Changes.{ends_in}
use Rattle.hm_procedures.specs.Kept.{kept_at, kept_of, made_in_step}
use Rattle.hm_procedures.specs.declared.kept.Tracked.{Tracked}

-- a number is one of so many after another
abbrev pub is_among : ℕ → ℕ → ℕ → Bool
is_among from count q = nat_lt from q && nat_lt q (from + count + 1)

-- those that a procedure's last step made are its new children, numbered among what entries made
pub record IsRun (J : Past) (p : ℕ) : Type 0 where
  pub most : made_at_step J p + made_in_step J p ≤ made J
  pub least : 1 ≤ made_in_step J p → offset J ≤ made_at_step J p
  pub are : (q : ℕ) → is_new_child J p q ≡ is_among (made_at_step J p) (made_in_step J p) q

among_not : (from count q : ℕ) → from + count < q → is_among from count q ≡ false
among_not from count q lt = and_right (nat_lt from q) (nat_lt q (from + count + 1)) (le-ltb q (from + count + 1) (omega (arith, lt)))

-- an entry that makes no child of the procedure
run_still : (J J' : Past) (p : ℕ) → made J ≤ made J' → offset J' ≡ offset J → made_at_step J' p ≡ made_at_step J p → made_in_step J' p ≡ made_in_step J p
    → ((q : ℕ) → q ≤ made J → node_of J' q ≡ node_of J q) → ((q : ℕ) → made J < q → child_in p (node_of J' q) ≡ false) → IsRun J p → IsRun J' p
run_still J J' p more off at in_it old new run = record {
  least = λ some. let was = run.least (omega (arith, some, in_it)) in omega (arith, was, off, at);
  most = let was = run.most in omega (arith, was, more, at, in_it);
  are = λ q. elim (cases_lt (made J) q) [
    | inl lt ↦
        and_right (nat_lt (made_at_step J' p) q) (child_in p (node_of J' q)) (new q lt)
        ∙ sym (among_not (made_at_step J' p) (made_in_step J' p) q (let was = run.most in omega (arith, was, lt, at, in_it)))
    | inr le ↦
        ap (λ n. nat_lt n q && child_in p (node_of J' q)) at
        ∙ ap (λ o. nat_lt (made_at_step J p) q && child_in p o) (old q le)
        ∙ run.are q
        ∙ ap (λ n. is_among n (made_in_step J p) q) (sym at)
        ∙ ap (λ n. is_among (made_at_step J' p) n q) (sym in_it)
  ];
}

-- a root is nobody's child
child_root : (p : ℕ) (o : Option Node) → ((x : Node) → o ≡ Some x → x.above ≡ []) → child_in p o ≡ false
child_root p None e = refl
child_root p (Some x) e = ap (is_parent p) (e x refl)

module _ (pid : Pid) (pick : Option Server) (out : StepOut) (J : Past) (legal : IsLegal (entry_is.Step pid pick out ∷ J)) (p : ℕ) where
  abbrev after : Past
  after = entry_is.Step pid pick out ∷ J

  abbrev me : Node
  me = legal.1.1.0.0

  is_me : node_of J pid.0 ≡ Some me
  is_me = legal.1.1.0.1

  -- what is new is a child of who steps
  pub child_new : (q : ℕ) → made J < q → q ≤ made after → child_in p (node_of after q) ≡ (pid.0 == p)
  child_new q lt le =
      let few = (grown_all J legal.0).low in
      let there = (grown_all after legal).there q (omega (arith, lt, few)) le in
      let c = new_child pid pick out J me is_me q lt there.0 there.1 in
      ap (child_in p) (there.1 ∙ ap Some c.2)

  run_own : p ≡ pid.0 → IsRun after p
  run_own same =
      let at : made_at_step after p ≡ made J = ap (made_at_step after) same ∙ steps_now pid pick out J in
      let in_it : made_in_step after p ≡ length (args_in out.children) = cond-true (p == pid.0) (length (args_in out.children)) (made_in_step J p) (eq-eqb p pid.0 same) in
      record {
        most = omega (arith, at, in_it);
        least = λ some. let few = (grown_all J legal.0).low in omega (arith, few, at);
        are = λ q. ap (λ n. nat_lt n q && child_in p (node_of after q)) at ∙ elim (cases_lt (made J) q) [
          | inr le ↦
              and_left (nat_lt (made J) q) (child_in p (node_of after q)) (le-ltb (made J) q le)
              ∙ sym (and_left (nat_lt (made_at_step after p) q) (nat_lt q (made_at_step after p + made_in_step after p + 1)) (le-ltb (made_at_step after p) q (omega (arith, le, at))))
          | inl lt ↦ elim (cases_lt (made after) q) [
            | inl past ↦
                and_right (nat_lt (made J) q) (child_in p (node_of after q)) (ap (child_in p) ((grown_all after legal).numbered q past))
                ∙ sym (among_not (made_at_step after p) (made_in_step after p) q (omega (arith, past, at, in_it)))
            | inr within ↦
                and_from (nat_lt (made J) q) (child_in p (node_of after q)) (lt-ltb (made J) q lt) (child_new q lt within ∙ eq-eqb pid.0 p (sym same))
                ∙ sym (and_from (nat_lt (made_at_step after p) q) (nat_lt q (made_at_step after p + made_in_step after p + 1)) (lt-ltb (made_at_step after p) q (omega (arith, lt, at))) (lt-ltb q (made_at_step after p + made_in_step after p + 1) (omega (arith, within, at, in_it))))
          ]
        ];
      }

  run_other : p ≢ pid.0 → IsRun J p → IsRun after p
  run_other differs run = run_still J after p (omega arith) refl (other_steps pid pick out J p differs)
      (cond-false (p == pid.0) (length (args_in out.children)) (made_in_step J p) (ne_eqb p pid.0 differs))
      (λ q le. step_old pid pick out J q le)
      (λ q lt. elim (cases_lt (made after) q) [
        | inl past ↦ ap (child_in p) ((grown_all after legal).numbered q past)
        | inr within ↦ child_new q lt within ∙ ne_eqb pid.0 p (λ e. differs (sym e))
      ])
      run

-- where nothing was made
none_new : (q : ℕ) → (nat_lt 0 q && false) ≡ is_among 0 0 q
none_new q = and_right (nat_lt 0 q) false refl ∙ elim (cases_lt 0 q) [
  | inl lt ↦ sym (among_not 0 0 q lt)
  | inr le ↦ sym (and_left (nat_lt 0 q) (nat_lt q (0 + 0 + 1)) (le-ltb 0 q le))
]

pub run_all : (J : Past) → IsLegal J → (p : ℕ) → IsRun J p
run_all [] legal p = record { most = omega arith; least = λ some. omega arith; are = none_new }
run_all (entry_is.Submit nonce request ∷ J) legal p = run_still J (entry_is.Submit nonce request ∷ J) p (omega arith) refl refl refl (λ q le. submit_old nonce request J q (λ e. omega (arith, le, e)))
    (λ q lt. elim (cases_eq q (made J + 1)) [
      | inl same ↦ ap (child_in p) (submit_new nonce request J q same)
      | inr differs ↦ ap (child_in p) (submit_old nonce request J q differs ∙ (grown_all J legal.0).numbered q lt)
    ])
    (run_all J legal.0 p)
run_all (entry_is.Step pid pick out ∷ J) legal p = elim (cases_eq p pid.0) [
  | inl same ↦ run_own pid pick out J legal p same
  | inr differs ↦ run_other pid pick out J legal p differs (run_all J legal.0 p)
]
run_all (entry_is.Undo pid row out ∷ J) legal p = run_still J (entry_is.Undo pid row out ∷ J) p (omega arith) refl refl refl (λ q le. undo_old pid row out J q le)
    (λ q lt. ap (child_in p) (undo_new pid row out J q lt) ∙ by (slice_get (args_in out.followers) (q - made J - 1)) q)
    (run_all J legal.0 p)
  where
    by : (o : Option Args) (q : ℕ) → child_in p (option_map (λ args. root_node q args 1) o) ≡ false
    by None q = refl
    by (Some args) q = refl
run_all (entry_is.Down server ∷ J) legal p = run_still J (entry_is.Down server ∷ J) p (omega arith) refl refl refl (λ q le. down_old server J q (λ e. omega (arith, le, e)))
    (λ q lt. elim (cases_eq q (made J + 1)) [
      | inl same ↦ ap (child_in p) (down_new server J q same)
      | inr differs ↦ ap (child_in p) (down_old server J q differs ∙ (grown_all J legal.0).numbered q lt)
    ])
    (run_all J legal.0 p)
run_all (entry_is.Base part ∷ J) legal p = record { most = omega arith; least = λ some. absurd (omega (arith, some)); are = none_new }
run_all (entry ∷ J) legal p = run_still J (entry ∷ J) p (omega arith) refl refl refl (λ q le. refl) (λ q lt. ap (child_in p) ((grown_all J legal.0).numbered q lt)) (run_all J legal.0 p)

-- what those below a number ended with, where none of them is a new child
module _ (J : Past) (legal : IsLegal J) (p : ℕ) (kept : List Tracked) (are : (q : ℕ) → slice_get kept q ≡ kept_of J (offset J + q + 1)) where
  abbrev from : ℕ
  from = made_at_step J p

  abbrev count : ℕ
  count = made_in_step J p

  run : IsRun J p
  run = run_all J legal p

  abbrev one : ℕ → List (Pid × Told)
  one n = if is_new_child J p n then end_of n (done_with (last_answer J n)) else []

  skip : (n : ℕ) → is_among from count n ≡ false → one n ≡ []
  skip n e = cond-false (is_new_child J p n) (end_of n (done_with (last_answer J n))) [] (run.are n ∙ e)

  right : (xs : List (Pid × Told)) → xs ++ [] ≡ xs
  right [] = refl
  right (x ∷ xs) = ap (λ l. x ∷ l) (right xs)

  -- none up to where the run begins
  ends_none : (n : ℕ) → n ≤ from + 1 → ends_below J p n ≡ []
  ends_none zero le = refl
  ends_none (suc n) le = ap (λ l. l ++ one n) (ends_none n (omega (arith, le))) ∙ skip n (and_left (nat_lt from n) (nat_lt n (from + count + 1)) (le-ltb from n (omega (arith, le))))

  kept_end : (n : ℕ) (o : Option Node) → node_of J (n + 1) ≡ o → last_answer J (n + 1) ≡ last_answer J (n + 1)
      → end_of (n + 1) (done_with (last_answer J (n + 1))) ≡ (elim (option_map (kept_at J (n + 1)) o) as (λ x. List (Pid × Told)) [ None ↦ [] | Some x ↦ end_of (n + 1) (done_with x.last) ])
  kept_end n None e same = ap (λ l. end_of (n + 1) (done_with l)) ((grown_all J legal).unmade (n + 1) e)
  kept_end n (Some x) e same = refl

  -- then as they are kept
  ends_run : (n : ℕ) → n ≤ count → ends_below J p (from + 1 + n) ≡ ends_in (offset J) kept from n
  ends_run zero le = let e : from + 1 + 0 ≡ from + 1 = omega arith in ap (ends_below J p) e ∙ ends_none (from + 1) (omega arith)
  ends_run (suc n) le =
      let e : from + 1 + suc n ≡ suc (from + n + 1) = omega arith in
      let f : from + n + 1 ≡ from + 1 + n = omega arith in
      let here : is_new_child J p (from + n + 1) ≡ true = run.are (from + n + 1) ∙ and_from (nat_lt from (from + n + 1)) (nat_lt (from + n + 1) (from + count + 1)) (lt-ltb from (from + n + 1) (omega arith)) (lt-ltb (from + n + 1) (from + count + 1) (omega (arith, le))) in
      let some : 1 ≤ count = omega (arith, le) in
      let least = run.least some in
      let place : offset J + (from + n - offset J) + 1 ≡ from + n + 1 = omega (arith, least) in
      ap (ends_below J p) e
      ∙ ap (λ l. l ++ one (from + n + 1)) (ap (ends_below J p) f ∙ ends_run n (omega (arith, le)))
      ∙ ap (λ l. ends_in (offset J) kept from n ++ l) (cond-true (is_new_child J p (from + n + 1)) (end_of (from + n + 1) (done_with (last_answer J (from + n + 1)))) [] here
      ∙ kept_end (from + n) (node_of J (from + n + 1)) refl refl
      ∙ ap (λ o. elim o as (λ x. List (Pid × Told)) [ None ↦ [] | Some x ↦ end_of (from + n + 1) (done_with x.last) ]) (sym (are (from + n - offset J) ∙ ap (kept_of J) place)))

  -- and none after
  ends_past : (m : ℕ) → ends_below J p (from + 1 + count + m) ≡ ends_in (offset J) kept from count
  ends_past zero = let e : from + 1 + count + 0 ≡ from + 1 + count = omega arith in ap (ends_below J p) e ∙ ends_run count (omega arith)
  ends_past (suc m) =
      let e : from + 1 + count + suc m ≡ suc (from + 1 + count + m) = omega arith in
      ap (ends_below J p) e
      ∙ ap (λ l. ends_below J p (from + 1 + count + m) ++ l) (skip (from + 1 + count + m) (among_not from count (from + 1 + count + m) (omega arith)))
      ∙ right (ends_below J p (from + 1 + count + m))
      ∙ ends_past m

  pub ends_are : ends_in (offset J) kept from count ≡ ends_of J p
  ends_are =
      let most = run.most in
      let e : from + 1 + count + (made J - (from + count)) ≡ made J + 1 = omega (arith, most) in
      sym (ap (ends_below J p) (sym e) ∙ ends_past (made J - (from + count)))
