-- A procedure that is looked at, and one that has ended.
use Rattle.std.proofs.Common.{◌≡◌, ◌≢◌, ℕ, List, Option, None, Some, Bool, true, false, not, ◌==◌, ◌&&◌, refl, inl, inr, ap, sym, ◌∙◌}
use Rattle.std.proofs.lemmas.Bool.{cases_eq, eq-eqb, ne_eqb, true≢false}
use Rattle.hm_names.specs.Server.{Server}
use Rattle.hm_model.specs.Journal.{Past}
use Rattle.hm_model.specs.Locks.{IsIn}
use Rattle.hm_model.specs.Phase.{ended}
use Rattle.hm_model.specs.Rules.{IsLegal}
use Rattle.hm_model.specs.Tree.{node_of}
use Rattle.hm_sched.specs.Effects.{Joins, WakesOne}
use Rattle.hm_sched.specs.Queues.{Stands, ready_list}
use Rattle.hm_sched.specs.declared.queue.Queue.TheVariants.{Servers, Suspended, Tables}
use Rattle.hm_tied.specs.Calls.{without}
use Rattle.hm_tied.specs.Tied.{Awaits, CanGo, Debts, IsOpen, IsTiedBut, Roster, called_in}
use Rattle.hm_tied.proofs.Calls.{join_owes, over_less, owed_less, wake_owes}
use Rattle.hm_tied.proofs.Going.{busy_open}
use Rattle.hm_tied.proofs.Uses.{debts_rise}
use Rattle.hm_roster.specs.Roster.{paid, paid_if}

-- one isn't among those without it
pub out_of : (test : ℕ → Bool) (p : ℕ) → without test p p ≡ false
out_of test p = ap (λ b. test p && not b) (eq-eqb p p refl) ∙ neither (test p)
  where
    neither : (b : Bool) → (b && false) ≡ false
    neither true = refl
    neither false = refl

-- nor among those without another too
out_still : (test : ℕ → Bool) (p q : ℕ) → test p ≡ false → without test q p ≡ false
out_still test p q none = ap (λ b. b && not (p == q)) none

-- who was looked at isn't owed, once its parent was looked at too
pub own_out : (debts : Debts) (p : ℕ) (parent : Option ℕ) → (let left = paid_if (paid debts p) parent in (left.owed p ≡ false) × (left.slack p ≡ false))
own_out debts p None = (out_of debts.owed p, out_of debts.slack p)
own_out debts p (Some up) = (out_still (without debts.owed p) p up (out_of debts.owed p), out_still (without debts.slack p) p up (out_of debts.slack p))

-- others are among those without it as before
still_in : (test : ℕ → Bool) (p q : ℕ) → q ≢ p → without test p q ≡ test q
still_in test p q differs = ap (λ b. test q && not b) (ne_eqb q p differs) ∙ both (test q)
  where
    both : (b : Bool) → (b && true) ≡ b
    both true = refl
    both false = refl

module _ (J : Past) (n : Option Server → ℕ) (roster : Roster) (debts : Debts) (p : ℕ) (tied : IsTiedBut J n roster debts) where
  -- who becomes ready
  pub readied : IsLegal J → IsOpen J p → (IsIn p roster.claimed → ⊥) → (lists : List (List ℕ)) (servers : Bool) → Joins roster.lists lists (ready_list servers) p
      → IsTiedBut J n (record roster { lists = lists }) (record debts { owed = without debts.owed p })
  readied legal opens free lists true joins = join_owes J n roster debts lists Servers p legal tied opens free tt joins
  readied legal opens free lists false joins = join_owes J n roster debts lists Tables p legal tied opens free tt joins

  -- who waits for the answer to its call
  pub suspended : IsLegal J → IsOpen J p → (IsIn p roster.claimed → ⊥) → (lists : List (List ℕ)) (s : ℕ) → s ≡ n (called_in (node_of J p)) → (CanGo J p → ⊥) → Joins roster.lists lists (Suspended s) p
      → IsTiedBut J n (record roster { lists = lists }) (record debts { owed = without debts.owed p })
  suspended legal opens free lists s is stuck joins = join_owes J n roster debts lists (Suspended s) p legal tied opens free (sym is, stuck) joins

  -- who neither can go on nor waits for an answer
  pub idle : (CanGo J p → ⊥) → (Awaits J p → ⊥) → IsTiedBut J n roster (record debts { owed = without debts.owed p })
  idle stuck quiet = owed_less J n roster debts p tied (λ free busy. elim busy [ inl go ↦ absurd (stuck go) | inr waits ↦ absurd (quiet waits) ])

  -- who is woken
  pub woken : (lists : List (List ℕ)) → WakesOne roster.lists lists p → IsTiedBut J n (record roster { lists = lists }) (record debts { slack = without debts.slack p })
  woken lists wakes = wake_owes J n roster debts lists p tied wakes

  -- who is claimed, has ended, or stands somewhere
  pub claimed_is : IsIn p roster.claimed → IsTiedBut J n roster (record debts { owed = without debts.owed p })
  claimed_is mine = owed_less J n roster debts p tied (λ free busy. absurd (free mine))

  pub ended_is : IsLegal J → ended J p ≡ true → IsTiedBut J n roster (record debts { owed = without debts.owed p })
  ended_is legal over = owed_less J n roster debts p tied (λ free busy. absurd (true≢false (sym over ∙ (busy_open J legal p busy).1)))

  pub stands_is : Stands roster.lists p → IsTiedBut J n roster (record debts { owed = without debts.owed p })
  stands_is there = owed_less J n roster debts p tied (λ free busy. there)

  -- who hasn't ended
  pub goes_on : IsOpen J p → IsTiedBut J n roster (record debts { over = without debts.over p })
  goes_on opens = over_less J n roster debts p tied opens

  -- who isn't said to have ended
  pub not_over : debts.over p ≡ false → IsTiedBut J n roster (record debts { over = without debts.over p })
  not_over none = debts_rise J n roster debts (record debts { over = without debts.over p }) tied (record { owed = λ q e. e; slack = λ q e. e; over = over_still; late = λ e. e })
    where
      over_still : (q : ℕ) → debts.over q ≡ without debts.over p q
      over_still q = elim (cases_eq q p) [
        | inl same ↦ ap debts.over same ∙ none ∙ sym (ap (without debts.over p) same ∙ out_of debts.over p)
        | inr differs ↦ sym (still_in debts.over p q differs)
      ]

  -- who isn't said to be owed or to be taken from the calls
  pub not_owed : debts.owed p ≡ false → debts.slack p ≡ false → IsTiedBut J n roster (paid debts p)
  not_owed owed slack = debts_rise J n roster debts (paid debts p) tied (record { owed = λ q on. others debts.owed owed q on; slack = λ q on. others debts.slack slack q on; over = λ q. refl; late = λ e. e })
    where
      others : (test : ℕ → Bool) → test p ≡ false → (q : ℕ) → test q ≡ true → without test p q ≡ true
      others test none q on = elim (cases_eq q p) [
        | inl same ↦ absurd (true≢false (sym on ∙ ap test same ∙ none))
        | inr differs ↦ still_in test p q differs ∙ on
      ]
