-- Lists by their numbers.
use Rattle.std.proofs.Common.{◌≡◌, ℕ, zero, suc, ◌+◌, true, false, List, refl, sym, ap, ◌∙◌, subst, inl, inr, ◌⊎◌, arith}
use Rattle.std.proofs.lemmas.Bool.{cases_eq, eq-eqb, ne_eqb, true≢false}
use Rattle.hm_lists.specs.Chains.{IsIn, list_at}
use Rattle.hm_lists.specs.Map.{IsOut}
use Rattle.hm_sched.specs.declared.queue.Queue.{Queue}
use Rattle.hm_sched.specs.declared.queue.Queue.TheVariants.{Servers, Tables, Held, Waits, Suspended}
use Rattle.hm_sched.specs.Queues.{StandsNowhere, is_ready, is_same, number}

pub number_is : (one other : Queue) → number one ≡ number other → one ≡ other
number_is Servers Servers e = refl
number_is Servers Tables e = absurd (omega (arith, e))
number_is Servers Held e = absurd (omega (arith, e))
number_is Servers (Waits q) e = absurd (omega (arith, e))
number_is Servers (Suspended q) e = absurd (omega (arith, e))
number_is Tables Servers e = absurd (omega (arith, e))
number_is Tables Tables e = refl
number_is Tables Held e = absurd (omega (arith, e))
number_is Tables (Waits q) e = absurd (omega (arith, e))
number_is Tables (Suspended q) e = absurd (omega (arith, e))
number_is Held Servers e = absurd (omega (arith, e))
number_is Held Tables e = absurd (omega (arith, e))
number_is Held Held e = refl
number_is Held (Waits q) e = absurd (omega (arith, e))
number_is Held (Suspended q) e = absurd (omega (arith, e))
number_is (Waits p) Servers e = absurd (omega (arith, e))
number_is (Waits p) Tables e = absurd (omega (arith, e))
number_is (Waits p) Held e = absurd (omega (arith, e))
number_is (Waits p) (Waits q) e = ap Waits (omega (arith, e))
number_is (Waits p) (Suspended q) e = absurd (omega (arith, e))
number_is (Suspended p) Servers e = absurd (omega (arith, e))
number_is (Suspended p) Tables e = absurd (omega (arith, e))
number_is (Suspended p) Held e = absurd (omega (arith, e))
number_is (Suspended p) (Waits q) e = absurd (omega (arith, e))
number_is (Suspended p) (Suspended q) e = ap Suspended (omega (arith, e))

halves : (m : ℕ) → ((n : ℕ) × (m ≡ n + n)) ⊎ ((n : ℕ) × (m ≡ n + n + 1))
halves zero = inl (0, refl)
halves (suc m) = elim (halves m) [
  | inl even ↦ inr (even.0, (let e = even.1 in omega (arith, e)))
  | inr odd ↦ inl (odd.0 + 1, (let e = odd.1 in omega (arith, e)))
]

-- each number is a list's
pub queue_for : (l : ℕ) → (queue : Queue) × (number queue ≡ l)
queue_for zero = (Servers, refl)
queue_for (suc zero) = (Tables, refl)
queue_for (suc (suc zero)) = (Held, refl)
queue_for (suc (suc (suc m))) = by (halves m)
  where
    by : ((n : ℕ) × (m ≡ n + n)) ⊎ ((n : ℕ) × (m ≡ n + n + 1)) → (queue : Queue) × (number queue ≡ suc (suc (suc m)))
    by (inl even) = (Waits even.0, (let e = even.1 in omega (arith, e)))
    by (inr odd) = (Suspended odd.0, (let e = odd.1 in omega (arith, e)))

pub nowhere_out : (lists : List (List ℕ)) (p : ℕ) → StandsNowhere lists p → IsOut lists p
nowhere_out lists p nowhere l is = let queue = queue_for l in nowhere queue.0 (subst (λ n. IsIn p (list_at lists n)) (sym queue.1) is)

pub out_nowhere : (lists : List (List ℕ)) (p : ℕ) → IsOut lists p → StandsNowhere lists p
out_nowhere lists p out queue is = out (number queue) is

pub same_is : (one other : Queue) → is_same one other ≡ true → one ≡ other
same_is one other e = elim (cases_eq (number one) (number other)) [
  | inl same ↦ number_is one other same
  | inr differs ↦ absurd (true≢false (sym e ∙ ne_eqb (number one) (number other) differs))
]

pub same_self : (queue : Queue) → is_same queue queue ≡ true
same_self queue = eq-eqb (number queue) (number queue) refl

-- a ready list is none of the others
pub apart_ready : (one other : Queue) → is_ready one ≡ true → is_ready other ≡ false → is_same one other ≡ false
apart_ready one other on off = elim (cases_eq (number one) (number other)) [
  | inl same ↦ absurd (true≢false (sym on ∙ ap is_ready (number_is one other same) ∙ off))
  | inr differs ↦ ne_eqb (number one) (number other) differs
]

pub apart_unready : (one other : Queue) → is_ready one ≡ false → is_ready other ≡ true → is_same one other ≡ false
apart_unready one other off on = elim (cases_eq (number one) (number other)) [
  | inl same ↦ absurd (true≢false (sym on ∙ sym (ap is_ready (number_is one other same)) ∙ off))
  | inr differs ↦ ne_eqb (number one) (number other) differs
]
