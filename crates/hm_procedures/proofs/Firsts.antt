-- The first child of a procedure has no child before it, and who has none has no child.
use Rattle.std.proofs.Common.{◌≡◌, ℕ, zero, suc, ◌+◌, ◌-◌, ◌<◌, ◌≤◌, ◌==◌, ◌∷◌, [], true, false, if◌then◌else◌, Option, Some, None, length, slice_get, refl, ap, sym, ◌∙◌, subst, inl, inr, arith}
use Rattle.std.specs.Option.{option_map, option_or}
use Rattle.std.proofs.lemmas.Bool.{cases_eq, cases_lt, cond-false, cond-true, eq-eqb, false≢true, ne_eqb}
use Rattle.hm_names.specs.Server.{Server}
use Rattle.hm_names.specs.declared.pid.Pid.{Pid}
use Rattle.hm_data.specs.declared.args.Args.{Args}
use Rattle.hm_data.specs.declared.entry.Entry.{Entry}
use Rattle.hm_data.specs.declared.entry.Entry.TheVariants as entry_is
use Rattle.hm_data.specs.declared.step.StepOut.{StepOut}
use Rattle.hm_model.specs.Journal.{Past}
use Rattle.hm_model.specs.Phase.{child_in}
use Rattle.hm_model.specs.Procedures.{offset}
use Rattle.hm_model.specs.Rules.{IsLegal}
use Rattle.hm_model.specs.Tree.{args_in, made, node_of, root_node}
use Rattle.hm_model.proofs.Grown.{down_new, down_old, grown_all, step_old, submit_new, submit_old, undo_new, undo_old}
use Rattle.hm_model.proofs.Parted.{no_node}
use Rattle.hm_procedures.specs.Changes.{first_made}
use Rattle.hm_procedures.specs.Kept.{first_child_of}
use Rattle.hm_procedures.specs.Procedures.{IsNextChild}
use Rattle.hm_procedures.proofs.Runs.{child_new}

-- a child has one of the numbers
pub child_within : (J : Past) → IsLegal J → (p q : ℕ) → child_in p (node_of J q) ≡ true → (1 ≤ q) × (q ≤ made J)
child_within J legal p q child = (
  elim (cases_lt 0 q) [
    | inl low ↦ omega (arith, low)
    | inr le ↦ (let e : q ≡ 0 = omega (arith, le) in absurd (false≢true (sym (ap (λ i. child_in p (node_of J i)) e ∙ ap (child_in p) (grown_all J legal).none) ∙ child)))
  ],
  elim (cases_lt (made J) q) [
    | inl over ↦ absurd (false≢true (sym (ap (child_in p) ((grown_all J legal).numbered q over)) ∙ child))
    | inr le ↦ le
  ],
)

-- who was there stays
pub stays : (entry : Entry) (J : Past) → IsLegal (entry ∷ J) → (q : ℕ) → q ≤ made J → node_of (entry ∷ J) q ≡ node_of J q
stays (entry_is.Submit nonce request) J legal q le = submit_old nonce request J q (λ e. omega (arith, le, e))
stays (entry_is.Step pid pick out) J legal q le = step_old pid pick out J q le
stays (entry_is.Undo pid row out) J legal q le = undo_old pid row out J q le
stays (entry_is.Down server) J legal q le = down_old server J q (λ e. omega (arith, le, e))
stays (entry_is.Base part) J legal q le = sym (no_node part J legal.1.0 q)
stays entry J legal q le = refl

-- nobody has a number up to the offset
pub none_low : (J : Past) → IsLegal J → (p : ℕ) → p ≤ offset J → node_of J p ≡ None
none_low [] legal p le = refl
none_low (entry_is.Base part ∷ J) legal p le = refl
none_low (entry ∷ J) legal p le = let few = (grown_all J legal.0).low in stays entry J legal p (omega (arith, le, few)) ∙ none_low J legal.0 p le

module _ (entry : Entry) (J : Past) (legal : IsLegal (entry ∷ J)) where
  abbrev now : Past
  now = entry ∷ J

  module _ (p : ℕ) where
    some_stays : (first : Pid) → IsNextChild J p 0 (Some first) → IsNextChild now p 0 (Some first)
    some_stays first was =
        let most = (child_within J legal.0 p first.0 was.1).1 in
        (was.0, ap (child_in p) (stays entry J legal first.0 most) ∙ was.1, λ q lt below. ap (child_in p) (stays entry J legal q (omega (arith, most, below))) ∙ was.2 q lt below)

    -- where no child is made
    still : (o : Option Pid) → ((q : ℕ) → made J < q → child_in p (node_of now q) ≡ false) → IsNextChild J p 0 o → IsNextChild now p 0 o
    still (Some first) new was = some_stays first was
    still None new was = λ q lt. elim (cases_lt (made J) q) [
      | inl over ↦ new q over
      | inr le ↦ ap (child_in p) (stays entry J legal q le) ∙ was q lt
    ]

module _ (pid : Pid) (pick : Option Server) (out : StepOut) (J : Past) (legal : IsLegal (entry_is.Step pid pick out ∷ J)) (p : ℕ) where
  abbrev after : Past
  after = entry_is.Step pid pick out ∷ J

  abbrev count : ℕ
  count = length (args_in out.children)

  -- of who steps
  first_own : p ≡ pid.0 → IsNextChild J p 0 (first_child_of J p) → IsNextChild after p 0 (option_or (first_child_of J p) (first_made (made J) count))
  first_own same was = by (first_child_of J p) was
    where
      none : IsNextChild J p 0 None → (n : ℕ) → count ≡ n → IsNextChild after p 0 (first_made (made J) n)
      none was zero e = still (entry_is.Step pid pick out) J legal p None (λ q lt. ap (child_in p) ((grown_all after legal).numbered q (omega (arith, lt, e)))) was
      none was (suc n) e = (
        omega arith,
        child_new pid pick out J legal p (made J + 1) (omega arith) (omega (arith, e)) ∙ eq-eqb pid.0 p (sym same),
        λ q lt below. ap (child_in p) (stays (entry_is.Step pid pick out) J legal q (omega (arith, below))) ∙ was q lt,
      )

      by : (o : Option Pid) → IsNextChild J p 0 o → IsNextChild after p 0 (option_or o (first_made (made J) count))
      by None was = none was count refl
      by (Some first) was = some_stays (entry_is.Step pid pick out) J legal p first was

  first_step : IsNextChild J p 0 (first_child_of J p) → IsNextChild after p 0 (first_child_of after p)
  first_step was = elim (cases_eq p pid.0) [
    | inl same ↦ subst (IsNextChild after p 0) (sym (cond-true (p == pid.0) (option_or (first_child_of J p) (first_made (made J) count)) (first_child_of J p) (eq-eqb p pid.0 same))) (first_own same was)
    | inr differs ↦
        subst (IsNextChild after p 0) (sym (cond-false (p == pid.0) (option_or (first_child_of J p) (first_made (made J) count)) (first_child_of J p) (ne_eqb p pid.0 differs)))
        (still (entry_is.Step pid pick out) J legal p (first_child_of J p)
        (λ q lt. elim (cases_lt (made after) q) [
          | inl past ↦ ap (child_in p) ((grown_all after legal).numbered q past)
          | inr within ↦ child_new pid pick out J legal p q lt within ∙ ne_eqb pid.0 p (λ e. differs (sym e))
        ])
        was)
  ]

pub firsts : (J : Past) → IsLegal J → (p : ℕ) → IsNextChild J p 0 (first_child_of J p)
firsts [] legal p = λ q lt. refl
firsts (entry_is.Submit nonce request ∷ J) legal p =
    still (entry_is.Submit nonce request) J legal p (first_child_of J p)
    (λ q lt. elim (cases_eq q (made J + 1)) [
      | inl same ↦ ap (child_in p) (submit_new nonce request J q same)
      | inr differs ↦ ap (child_in p) (submit_old nonce request J q differs ∙ (grown_all J legal.0).numbered q lt)
    ])
    (firsts J legal.0 p)
firsts (entry_is.Step pid pick out ∷ J) legal p = first_step pid pick out J legal p (firsts J legal.0 p)
firsts (entry_is.Undo pid row out ∷ J) legal p =
    still (entry_is.Undo pid row out) J legal p (first_child_of J p) (λ q lt. ap (child_in p) (undo_new pid row out J q lt) ∙ by (slice_get (args_in out.followers) (q - made J - 1)) q) (firsts J legal.0 p)
  where
    by : (o : Option Args) (q : ℕ) → child_in p (option_map (λ args. root_node q args 1) o) ≡ false
    by None q = refl
    by (Some args) q = refl
firsts (entry_is.Down server ∷ J) legal p =
    still (entry_is.Down server) J legal p (first_child_of J p)
    (λ q lt. elim (cases_eq q (made J + 1)) [
      | inl same ↦ ap (child_in p) (down_new server J q same)
      | inr differs ↦ ap (child_in p) (down_old server J q differs ∙ (grown_all J legal.0).numbered q lt)
    ])
    (firsts J legal.0 p)
firsts (entry_is.Base part ∷ J) legal p = λ q lt. refl
firsts (entry ∷ J) legal p = still entry J legal p (first_child_of J p) (λ q lt. ap (child_in p) ((grown_all J legal.0).numbered q lt)) (firsts J legal.0 p)

-- a child has a first child of its parent, which is no later
pub first_there : (J : Past) → IsLegal J → (p q : ℕ) → child_in p (node_of J q) ≡ true → (first : Pid) × (first_child_of J p ≡ Some first) × (first.0 ≤ q) × (child_in p (node_of J first.0) ≡ true)
first_there J legal p q child = by (first_child_of J p) refl (firsts J legal p)
  where
    low : 0 < q
    low = let w = (child_within J legal p q child).0 in omega (arith, w)

    by : (o : Option Pid) → first_child_of J p ≡ o → IsNextChild J p 0 o → (first : Pid) × (first_child_of J p ≡ Some first) × (first.0 ≤ q) × (child_in p (node_of J first.0) ≡ true)
    by None e none = absurd (false≢true (sym (none q low) ∙ child))
    by (Some first) e is = (
      first,
      e,
      elim (cases_lt q first.0) [
        | inl before ↦ absurd (false≢true (sym (is.2 q low before) ∙ child))
        | inr le ↦ le
      ],
      is.1,
    )

-- a first child stays
pub first_stays : (entry : Entry) (J : Past) → IsLegal (entry ∷ J) → (p : ℕ) (first : Pid) → first_child_of J p ≡ Some first → first_child_of (entry ∷ J) p ≡ Some first
first_stays (entry_is.Step pid pick out) J legal p first is = ap (λ o. if p == pid.0 then option_or o (first_made (made J) (length (args_in out.children))) else o) is ∙ by (p == pid.0)
  where
    by : (b : _) → (if b then Some first else Some first) ≡ Some first
    by true = refl
    by false = refl
first_stays (entry_is.Base part) J legal p first is =
    let child = (subst (IsNextChild J p 0) is (firsts J legal.0 p)).1 in absurd (false≢true (sym (ap (child_in p) (no_node part J legal.1.0 first.0)) ∙ child))
first_stays entry J legal p first is = is
