-- In what order the calls of a scheduler take procedures from one list to others, and in how many steps.
use Rattle.std.specs.Prelude.{◌≡◌, ℕ, ◌+◌, ◌*◌, ◌≤◌, List, [], ◌∷◌, ◌++◌, length, map, Option, None, Bool, false, ◌⊎◌, if◌then◌else◌, option_to_list, IfSome, IfNone, IsSome}
use Rattle.std.specs.Option.{option_map}
use Rattle.hm_lists.specs.Map.{without}
use Rattle.hm_names.specs.declared.pid.Pid.{Pid}
use Rattle.hm_locks.specs.Book.{IsFirst, IsFree, Row, asks_in, row_of}
use Rattle.hm_sched.specs.declared.queue.Queue.{Queue}
use Rattle.hm_sched.specs.declared.queue.Queue.TheVariants.{Servers, Tables, Waits, Suspended}
use Rattle.hm_sched.specs.Queues.{StandsIn, home, is_same, members}

-- those that move
abbrev pub movers : List (ℕ × Queue) → List ℕ
movers moves = map (λ (move : ℕ × Queue). move.0) moves

-- those of them that come to a list, in order
abbrev pub comers : Queue → List (ℕ × Queue) → List ℕ
comers queue [] = []
comers queue (move ∷ more) = if is_same move.1 queue then move.0 ∷ comers queue more else comers queue more

-- the front of a list went to the back of others, in order; the one after it, if there is one, was taken out; the rest is left
pub record Moves (old new : List (List ℕ)) (queue : Queue) (moves : List (ℕ × Queue)) (taken : Option ℕ) : Type 0 where
  pub front : members old queue ≡ movers moves ++ (option_to_list taken ++ members new queue)
  pub others : (k : Queue) → is_same queue k ≡ false → members new k ≡ members old k ++ comers k moves

-- each of a list that was woken, with its ready list
abbrev pub homeward : List (Option Bool) → List ℕ → List (ℕ × Queue)
homeward said [] = []
homeward said (p ∷ more) = (p, home said p) ∷ homeward said more

-- all of a list went to the back of their ready lists, in order
pub record AreWoken (said : List (Option Bool)) (old new : List (List ℕ)) (queue : Queue) : Type 0 where
  pub moves : Moves old new queue (homeward said (members old queue)) None
  pub rest : members new queue ≡ []

-- a pid whose call is out went to the back of its ready list; any other stayed
pub record IsWoken (said : List (Option Bool)) (old new : List (List ℕ)) (p : ℕ) : Type 0 where
  pub moved : (s : ℕ) → StandsIn old (Suspended s) p → (k : Queue)
      → members new k ≡ (if is_same (home said p) k then members old k ++ p ∷ [] else without p (members old k))
  pub stayed : ((s : ℕ) → StandsIn old (Suspended s) p → ⊥) → new ≡ old

-- each waits for the first that it conflicts with
abbrev pub AllWait : List Row → List (ℕ × Queue) → Type 0
AllWait rows [] = Unit {0}
AllWait rows (move ∷ more) = ((h : ℕ) × (move.1 ≡ Waits h) × IsFirst rows move.0 h) × AllWait rows more

-- from the front of a list those that conflict went to wait, and the first that doesn't was taken out; without one nothing is left
pub record PassesOne (rows : List Row) (old new : List (List ℕ)) (queue : Queue) (moves : List (ℕ × Queue)) (given : Option ℕ) : Type 0 where
  pub moved : Moves old new queue moves given
  pub wait : AllWait rows moves
  pub free : IfSome given (IsFree rows)
  pub rest : IfNone given (members new queue ≡ [])

-- all of the servers' list conflict, and the tables' is gone through after it
pub record PassesBoth (rows : List Row) (old new : List (List ℕ)) (moves : List (ℕ × Queue)) (given : Option ℕ) : Type 0 where
  pub between : List (List ℕ)
  pub servers : List (ℕ × Queue)
  pub tables : List (ℕ × Queue)
  pub parts : moves ≡ servers ++ tables
  pub first : PassesOne rows old between Servers servers None
  pub second : PassesOne rows between new Tables tables given

-- how many asks these have
abbrev pub ask_count : List Row → List ℕ → ℕ
ask_count rows [] = 0
ask_count rows (p ∷ more) = length (asks_in (row_of rows p)) + ask_count rows more

-- who comes next: the first of the ready servers', else of the ready tables', that conflicts with none; those in front of it went to
-- wait; and how many steps that took
pub record IsNext (rows : List Row) (old new : List (List ℕ)) (given : Option ℕ) (before after : ℕ) : Type 0 where
  pub moves : List (ℕ × Queue)
  pub passes : (PassesOne rows old new Servers moves given × IsSome given) ⊎ PassesBoth rows old new moves given
  pub steps : after ≤ before + 2 * (length moves + 1) + ask_count rows (movers moves ++ option_to_list given)

-- the same of one list
pub record IsNextOf (rows : List Row) (old new : List (List ℕ)) (queue : Queue) (given : Option ℕ) (before after : ℕ) : Type 0 where
  pub moves : List (ℕ × Queue)
  pub passes : PassesOne rows old new queue moves given
  pub steps : after ≤ before + 2 * length moves + 1 + ask_count rows (movers moves ++ option_to_list given)

-- the number of a procedure that may be there
abbrev pub pid_in : Option Pid → Option ℕ
pid_in pid = option_map (λ (p : Pid). p.0) pid

-- the first of a list was taken out, if there was one
pub record Pops (old new : List (List ℕ)) (queue : Queue) (taken : Option ℕ) : Type 0 where
  pub front : members old queue ≡ option_to_list taken ++ members new queue
  pub none : IfNone taken (members new queue ≡ [])
  pub others : (k : Queue) → is_same queue k ≡ false → members new k ≡ members old k
