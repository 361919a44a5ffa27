-- Who stands in which list, before and after each call of a scheduler.
use Rattle.std.specs.Prelude.{◌≡◌, ◌≢◌, ℕ, List, Option, Some, None, true, ◌⊎◌}
use Rattle.hm_locks.specs.Book.{IsBlockedBy, IsFree, Row}
use Rattle.hm_sched.specs.declared.queue.Queue.{Queue}
use Rattle.hm_sched.specs.declared.queue.Queue.TheVariants.{Waits, Suspended}
use Rattle.hm_sched.specs.Queues.{IsReady, Stands, StandsIn, StandsNowhere, is_ready}

-- p joins the list
pub record Joins (old new : List (List ℕ)) (queue : Queue) (p : ℕ) : Type 0 where
  pub there : StandsIn new queue p
  pub kept : (k : Queue) (q : ℕ) → StandsIn old k q → StandsIn new k q
  pub only : (k : Queue) (q : ℕ) → StandsIn new k q → StandsIn old k q ⊎ ((k ≡ queue) × (q ≡ p))

-- p leaves the list that it stands in
pub record Leaves (old new : List (List ℕ)) (p : ℕ) : Type 0 where
  pub gone : StandsNowhere new p
  pub kept : (k : Queue) (q : ℕ) → q ≢ p → StandsIn old k q → StandsIn new k q
  pub only : (k : Queue) (q : ℕ) → StandsIn new k q → StandsIn old k q

-- all of the list become ready
pub record Wakes (old new : List (List ℕ)) (queue : Queue) : Type 0 where
  pub gone : (q : ℕ) → StandsIn new queue q → ⊥
  pub kept : (q : ℕ) → Stands old q → Stands new q
  pub only : (k : Queue) (q : ℕ) → StandsIn new k q → StandsIn old k q ⊎ ((is_ready k ≡ true) × StandsIn old queue q)

-- p becomes ready where its call is out
pub record WakesOne (old new : List (List ℕ)) (p : ℕ) : Type 0 where
  pub gone : (s : ℕ) → StandsIn new (Suspended s) p → ⊥
  pub kept : (q : ℕ) → Stands old q → Stands new q
  pub only : (k : Queue) (q : ℕ) → StandsIn new k q → StandsIn old k q ⊎ ((is_ready k ≡ true) × Stands old q)

-- the ready that are passed wait for one who blocks them; the one that is given was ready and is free, and leaves; where none
-- is given, all that were ready are blocked and wait
pub record Passes (rows : List Row) (old new : List (List ℕ)) (given : Option ℕ) : Type 0 where
  pub gone : (q : ℕ) → given ≡ Some q → StandsNowhere new q
  pub kept : (q : ℕ) → given ≢ Some q → Stands old q → Stands new q
  pub only : (k : Queue) (q : ℕ) → StandsIn new k q → StandsIn old k q ⊎ (IsReady old q × ((h : ℕ) × (k ≡ Waits h) × IsBlockedBy rows q h))
  pub none : given ≡ None → (q : ℕ) → IsReady new q → ⊥
  pub all : given ≡ None → (q : ℕ) → IsReady old q → (h : ℕ) × IsBlockedBy rows q h
  pub some : (q : ℕ) → given ≡ Some q → IsReady old q × IsFree rows q
