-- Timers, by due and then by the order of setting, and how a wheel of lists holds them.
use Rattle.std.specs.Prelude.{◌≡◌, ℕ, zero, suc, ◌+◌, ◌%◌, ◌<◌, ◌≤◌, ◌^◌, List, [], ◌∷◌, ◌++◌, length, map, filter, not, nat_le, if◌then◌else◌, slice_index, Bool, ◌⊎◌}
use Rattle.hm_lists.specs.Chains.{IsIn, list_at}
use Rattle.hm_lists.specs.Map.{Map}
use Rattle.hm_names.specs.declared.pid.Pid.{Pid}

-- pids with their dues
abbrev pub Timers : Type 0
Timers = List (ℕ × ℕ)

-- what callers see: the present tick, the pids that are set, by due and then by the order of setting, the pids that may
-- be set, those below a number, and how much memory there is
pub record View : Type 0 where
  pub now : ℕ
  pub set : Timers
  pub spare : ℕ
  pub room : ℕ

-- the pid is set to a due
abbrev pub Has : Timers → ℕ → ℕ → Type 0
Has [] pid due = ⊥
Has (first ∷ more) pid due = ((pid ≡ first.0) × (due ≡ first.1)) ⊎ Has more pid due

-- it is set
abbrev pub IsSet : Timers → ℕ → Type 0
IsSet timers pid = (due : ℕ) × Has timers pid due

-- it isn't set
abbrev pub IsUnset : Timers → ℕ → Type 0
IsUnset timers pid = (due : ℕ) → Has timers pid due → ⊥

-- another pid, after all that are due no later
abbrev pub put_in : ℕ → ℕ → Timers → Timers
put_in pid due [] = (pid, due) ∷ []
put_in pid due (first ∷ more) = if nat_le first.1 due then first ∷ put_in pid due more else ((pid, due) ∷ first ∷ more)

-- its due isn't past the tick
abbrev pub is_due : ℕ → (ℕ × ℕ) → Bool
is_due to timer = nat_le timer.1 to

-- those that are due
abbrev pub due_by : ℕ → Timers → Timers
due_by to timers = filter (is_due to) timers

-- those that aren't yet
abbrev pub due_after : ℕ → Timers → Timers
due_after to timers = filter (λ timer. not (is_due to timer)) timers

-- the procedure of a timer
abbrev pub pid_of : (ℕ × ℕ) → Pid
pid_of timer = record { 0 = timer.0 }

-- the list of a due
abbrev pub at_due : List (List ℕ) → ℕ → Timers
at_due lists due = map (λ pid. (pid, due)) (list_at lists (due % 512))

-- so many dues from one on
abbrev pub dues_from : ℕ → ℕ → List (List ℕ) → Timers
dues_from zero due lists = []
dues_from (suc count) due lists = at_due lists due ++ dues_from count (due + 1) lists

-- how far ahead a timer may be set
unfoldable pub reach : ℕ
reach = 511

-- the timers of a wheel
abbrev pub timers : ℕ → List (List ℕ) → Timers
timers now lists = dues_from reach (now + 1) lists

-- the lists of a wheel: each pid in the list of its due, which is ahead by 1 to 511
pub record IsWheel (now : ℕ) (dues : List ℕ) (m : Map) : Type 0 where
  pub count : length m.lists ≡ 512
  pub room : length dues ≤ m.spare
  pub small : length dues < 2 ^ 32
  pub known : (l pid : ℕ) → IsIn pid (list_at m.lists l) → pid < length dues
  pub later : (l pid : ℕ) → IsIn pid (list_at m.lists l) → now < slice_index dues pid
  pub near : (l pid : ℕ) → IsIn pid (list_at m.lists l) → slice_index dues pid ≤ now + 511
  pub place : (l pid : ℕ) → IsIn pid (list_at m.lists l) → slice_index dues pid % 512 ≡ l

-- a wheel, and how many are set
pub record IsCounted (now : ℕ) (dues : List ℕ) (m : Map) (count : ℕ) : Type 0 where
  pub wheel : IsWheel now dues m
  pub all : count ≡ length (timers now m.lists)
