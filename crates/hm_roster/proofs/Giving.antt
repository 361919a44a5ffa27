-- A procedure that the scheduler gave, and claims that are given up.
use Rattle.std.proofs.Common.{◌≡◌, ◌≢◌, ◌↔◌, ◌+◌, ℕ, List, [], length, Option, Some, None, Bool, true, false, is_some, IsTrue, IsSome, ◌==◌, refl, inl, inr, ap, sym, ◌∙◌, subst, arith}
use Rattle.std.specs.Option.{option_map}
use Rattle.std.proofs.lemmas.Bool.{cases_eq, cond-false, cond-true, eq-eqb, false≢true, ne_eqb, true≢false}
use Rattle.std.proofs.lemmas.Option.{none-some}
use Rattle.hm_names.specs.Server.{Server}
use Rattle.hm_data.specs.declared.answer.Answer.{Answer}
use Rattle.hm_locks.specs.Book.{AreChanged, IsEnlisted, Row, holding, row_of}
use Rattle.hm_model.specs.Answers.{last_answer}
use Rattle.hm_model.specs.Claims.{Unclaims}
use Rattle.hm_model.specs.Holding.{IsFree as IsClear}
use Rattle.hm_model.specs.Journal.{Past}
use Rattle.hm_model.specs.Locks.{IsIn}
use Rattle.hm_model.specs.Picks.{has_pick}
use Rattle.hm_model.specs.Rest.{IsAvailable, MayStep, MayStepPicked}
use Rattle.hm_model.specs.Rules.{IsLegal}
use Rattle.hm_model.specs.Tree.{Node, node_of}
use Rattle.hm_sched.specs.Effects.{Joins, Passes, Wakes}
use Rattle.hm_sched.specs.Queues.{IsWith, StandsNowhere, is_ready, is_same, members, ready_count}
use Rattle.hm_sched.specs.declared.queue.Queue.{Queue}
use Rattle.hm_sched.specs.declared.queue.Queue.TheVariants.{Held, Servers, Suspended, Tables, Waits}
use Rattle.hm_tied.specs.Calls.{owing}
use Rattle.hm_tied.specs.Tied.{CanGo, IsOpen, IsTied, IsTiedBut, Roster}
use Rattle.hm_tied.proofs.Calls.{exact, give_up_owes, join_owes, keep_on_owes, next_owes}
use Rattle.hm_tied.proofs.Paid.{one_pays}
use Rattle.hm_tied.proofs.Uses.{free_ties}

-- a row set twice is set by the second
pub set_twice : (was rows new : List Row) (p : ℕ) (one two : Bool) → AreChanged was p (option_map (holding one) (row_of was p)) rows → AreChanged rows p (option_map (holding two) (row_of rows p)) new
    → AreChanged was p (option_map (holding two) (row_of was p)) new
set_twice was rows new p one two first second q = elim (cases_eq p q) [
  | inl same ↦
      let e = eq-eqb p q same in
      let at : row_of rows p ≡ option_map (holding one) (row_of was p) = first p ∙ cond-true (p == p) (option_map (holding one) (row_of was p)) (row_of was p) (eq-eqb p p refl) in
      second q ∙ cond-true (p == q) (option_map (holding two) (row_of rows p)) (row_of rows q) e
      ∙ ap (option_map (holding two)) at ∙ by (row_of was p)
      ∙ sym (cond-true (p == q) (option_map (holding two) (row_of was p)) (row_of was q) e)
  | inr differs ↦
      let e = ne_eqb p q differs in
      second q ∙ cond-false (p == q) (option_map (holding two) (row_of rows p)) (row_of rows q) e ∙ first q
      ∙ cond-false (p == q) (option_map (holding one) (row_of was p)) (row_of was q) e
      ∙ sym (cond-false (p == q) (option_map (holding two) (row_of was p)) (row_of was q) e)
]
  where
    by : (o : Option Row) → option_map (holding two) (option_map (holding one) o) ≡ option_map (holding two) o
    by None = refl
    by (Some r) = refl

-- who has a step has answered
pub has_answered : (o : Option Answer) (b : Bool) → (IsTrue b ↔ (o ≢ None)) → is_some o ≡ b
has_answered None true tells = absurd (tells.0 refl refl)
has_answered None false tells = refl
has_answered (Some answer) true tells = refl
has_answered (Some answer) false tells = absurd (false≢true (tells.1 (λ e. none-some answer (sym e))))

pub unanswered : (o : Option Answer) → is_some o ≡ false → o ≡ None
unanswered None e = refl
unanswered (Some answer) e = absurd (true≢false e)

-- a row that is there, though changed
pub enlisted_still : (was rows : List Row) (p : ℕ) (b : Bool) → AreChanged was p (option_map (holding b) (row_of was p)) rows → IsEnlisted was p → IsEnlisted rows p
enlisted_still was rows p b changed there = subst (λ (o : Option Row). IsSome o) (sym (changed p ∙ cond-true (p == p) (option_map (holding b) (row_of was p)) (row_of was p) (eq-eqb p p refl))) (by (row_of was p) there)
  where
    by : (o : Option Row) → IsSome o → IsSome (option_map (holding b) o)
    by None e = absurd (false≢true e)
    by (Some r) e = e

module _ (J : Past) (legal : IsLegal J) (n : Option Server → ℕ) (roster : Roster) (lists : List (List ℕ)) (p : ℕ) (tied : IsTied J n roster) (passes : Passes roster.rows roster.lists lists (Some p)) where
  -- who was given is open and isn't claimed
  pub given_tied : IsTiedBut J n (record roster { lists = lists }) (owing p)
  given_tied = next_owes J n roster lists (Some p) tied passes

  was_listed : (IsOpen J p) × (IsIn p roster.claimed → ⊥)
  was_listed = elim (passes.some p refl).0 [
    | inl e ↦ (let l = tied.listed Servers p e in (elim l.0 [ inl opens ↦ opens | inr over ↦ absurd (false≢true over.0) ], l.1))
    | inr e ↦ (let l = tied.listed Tables p e in (elim l.0 [ inl opens ↦ opens | inr over ↦ absurd (false≢true over.0) ], l.1))
  ]

  pub given_open : IsOpen J p
  given_open = was_listed.0

  pub given_free : IsIn p roster.claimed → ⊥
  given_free = was_listed.1

  -- where it can go on with a pick it is available
  pub given_available : CanGo J p → ((node : Node) → node_of J p ≡ Some node → has_pick J p node ≡ true) → IsAvailable J roster.claimed roster.claimed p
  given_available go picks = (
    given_free,
    (free_ties J n roster p tied given_open).0 (passes.some p refl).1,
    elim go [
      | inl may ↦ inl (may.0, may.1, may.2, picks may.0 may.1)
      | inr undo ↦ inr undo
    ],
  )

-- nobody was given: nobody is available
pub none_given : (J : Past) (n : Option Server → ℕ) (roster : Roster) (lists : List (List ℕ)) → IsTied J n roster → Passes roster.rows roster.lists lists None
    → IsTied J n (record roster { lists = lists }) × ((q : ℕ) → IsAvailable J roster.claimed roster.claimed q → ⊥)
none_given J n roster lists tied passes =
    let now : IsTied J n (record roster { lists = lists }) = next_owes J n roster lists None tied passes in
    (now, λ q free. passes.none refl q (exact J n (record roster { lists = lists }) now q free))

-- who is given and can go on, but has no pick, is set aside
pub held_aside : (J : Past) → IsLegal J → (n : Option Server → ℕ) (roster : Roster) (lists : List (List ℕ)) (p : ℕ) → IsTiedBut J n roster (owing p) → IsOpen J p → (IsIn p roster.claimed → ⊥)
    → MayStep J p → (MayStepPicked J p → ⊥) → IsClear J [] p → Joins roster.lists lists Held p → IsTied J n (record roster { lists = lists })
held_aside J legal n roster lists p tied opens free may none alone joins = one_pays J n (record roster { lists = lists }) p (join_owes J n roster (owing p) lists Held p legal tied opens free (may, none, alone) joins)

-- a list that isn't ready gains one: the ready stay
pub unready : (queue : Queue) → is_ready queue ≡ false → (is_same queue Servers ≡ false) × (is_same queue Tables ≡ false)
unready Servers e = absurd (true≢false e)
unready Tables e = absurd (true≢false e)
unready Held e = (refl, refl)
unready (Waits h) e = (ne_eqb (h + h + 3) 0 (λ same. omega (arith, same)), ne_eqb (h + h + 3) 1 (λ same. omega (arith, same)))
unready (Suspended s) e = (ne_eqb (s + s + 4) 0 (λ same. omega (arith, same)), ne_eqb (s + s + 4) 1 (λ same. omega (arith, same)))

pub ready_stays : (old new : List (List ℕ)) (queue : Queue) (items : List ℕ) → is_ready queue ≡ false → IsWith old queue items new → ready_count new ≡ ready_count old
ready_stays old new queue items off lists =
    let apart = unready queue off in
    let servers = lists Servers ∙ cond-false (is_same queue Servers) items (members old Servers) apart.0 in
    let tables = lists Tables ∙ cond-false (is_same queue Tables) items (members old Tables) apart.1 in
    ap (λ (l : List ℕ). length l + length (members new Tables)) servers ∙ ap (λ (l : List ℕ). length (members old Servers) + length l) tables

-- whose claim is given up
pub gives_up : (J : Past) (n : Option Server → ℕ) (roster : Roster) (claimed : List ℕ) (lists : List (List ℕ)) (rows : List Row) (p : ℕ)
    → IsTied J n roster → last_answer J p ≡ None → Unclaims p roster.claimed claimed
    → AreChanged roster.rows p (option_map (holding false) (row_of roster.rows p)) rows → Wakes roster.lists lists (Waits p)
    → IsTiedBut J n (record { claimed = claimed; lists = lists; rows = rows }) (owing p)
gives_up = give_up_owes

pub keeps_on : (J : Past) (n : Option Server → ℕ) (roster : Roster) (claimed : List ℕ) (p : ℕ) → IsTied J n roster → last_answer J p ≢ None → Unclaims p roster.claimed claimed
    → IsTiedBut J n (record roster { claimed = claimed }) (owing p)
keeps_on = keep_on_owes

-- a claimed one stands nowhere, and is open
pub claimed_nowhere : (J : Past) (n : Option Server → ℕ) (roster : Roster) (p : ℕ) → IsTied J n roster → IsIn p roster.claimed → StandsNowhere roster.lists p
claimed_nowhere J n roster p tied mine queue there = (tied.listed queue p there).1 mine

pub claimed_enlisted : (J : Past) (n : Option Server → ℕ) (roster : Roster) (p : ℕ) → IsTied J n roster → IsIn p roster.claimed → IsEnlisted roster.rows p
claimed_enlisted J n roster p tied mine = tied.book.opened p (tied.claims p mine).0
