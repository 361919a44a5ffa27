-- What a look for the next procedure looks at, and in how many steps.
use Rattle.std.specs.Prelude.{◌≡◌, ℕ, ◌+◌, ◌*◌, ◌≤◌, List, [], ◌∷◌, ◌++◌, map, Option, Some, Bool, true, false, if◌then◌else◌, option_to_list}
use Rattle.hm_locks.specs.Book.{Row}
use Rattle.hm_model.specs.Journal.{Past}
use Rattle.hm_model.specs.Picks.{has_pick}
use Rattle.hm_model.specs.Tree.{Node, node_of}
use Rattle.hm_sched.specs.Moves.{ask_count}
use Rattle.hm_sched.specs.Queues.{StandsIn, members}
use Rattle.hm_sched.specs.declared.queue.Queue.TheVariants.{Servers, Tables, Waits}
use Rattle.hm_tied.specs.Tied.{CanGo}

-- the ready, in the order in which they are looked at
abbrev pub ready_in : List (List ℕ) → List ℕ
ready_in lists = members lists Servers ++ members lists Tables

-- it can't go on, or its step needs a server and none is live
abbrev pub IsStuck : Past → ℕ → Type 0
IsStuck J p = CanGo J p → (node : Node) → node_of J p ≡ Some node → has_pick J p node ≡ false

-- one that was looked at was moved, and waits for what a procedure locks; or it was set aside, since it is stuck
abbrev pub IsPassed : Past → List (List ℕ) → ℕ → Bool → Type 0
IsPassed J lists p true = (h : ℕ) × StandsIn lists (Waits h) p
IsPassed J lists p false = IsStuck J p

-- each of these, of which is told whether it was moved
abbrev pub ArePassed : Past → List (List ℕ) → List (ℕ × Bool) → Type 0
ArePassed J lists [] = Unit {0}
ArePassed J lists (look ∷ more) = IsPassed J lists look.0 look.1 × ArePassed J lists more

-- those that were looked at
abbrev pub pids_in : List (ℕ × Bool) → List ℕ
pids_in looks = map (λ (look : ℕ × Bool). look.0) looks

-- how many of them were moved
abbrev pub moved_in : List (ℕ × Bool) → ℕ
moved_in [] = 0
moved_in (look ∷ more) = (if look.1 then 1 else 0) + moved_in more

-- how many of them were set aside
abbrev pub aside_in : List (ℕ × Bool) → ℕ
aside_in [] = 0
aside_in (look ∷ more) = (if look.1 then 0 else 1) + aside_in more

-- a front of the ready was looked at: those that were moved or set aside, and after them the one that is given, if one is; and in how
-- many steps: two for each that was moved, and two more, one for each ask of those that were looked at, and four for each set aside
pub record Looks (J : Past) (rows : List Row) (old new : List (List ℕ)) (given : Option ℕ) (before after : ℕ) : Type 0 where
  pub looks : List (ℕ × Bool)
  pub front : ready_in old ≡ pids_in looks ++ (option_to_list given ++ ready_in new)
  pub passed : ArePassed J new looks
  pub steps : after ≤ before + 2 * (moved_in looks + 1) + ask_count rows (pids_in looks ++ option_to_list given) + 4 * aside_in looks
