-- What bounds leave as it is, and that where nothing is bounded all is as without them: laws.
use Rattle.std.specs.Prelude.{ℕ, List, Option, ◌↔◌}
use Rattle.hm_names.specs.Server.{Server}
use Rattle.hm_model.specs.Journal.{Past}
use Rattle.hm_model.specs.Rest.{IsAtRest, IsAvailable}
use Rattle.hm_model.specs.Rules.{IsLegal}
use Rattle.hm_sched.specs.Queues.{IsReady}
use Rattle.hm_tied.specs.Bounds.{ArePicked, Bounds, IsAtRestIn, IsAvailableIn, IsUnbounded}
use Rattle.hm_tied.specs.Tied.{Debts, IsTiedBut, Roster}
use Rattle.hm_tied.specs.TiedIn.{Debts as DebtsIn, IsTied as IsTiedIn, IsTiedBut as IsTiedButIn, Roster as RosterIn}

-- whoever is available in bounds is available
abbrev pub AvailableIsLess : Type 0
AvailableIsLess =
    (bounds : Bounds) (J : Past) (taken claimed : List ℕ) (p : ℕ) → IsAvailableIn bounds J taken claimed p → IsAvailable J taken claimed p

-- where nothing is bounded, whoever is available is so in bounds: a live server that fits is there
abbrev pub FreeIsAvailable : Type 0
FreeIsAvailable =
    (bounds : Bounds) (J : Past) (taken claimed : List ℕ) (p : ℕ) → IsUnbounded bounds → IsLegal J
    → IsAvailable J taken claimed p ↔ IsAvailableIn bounds J taken claimed p

-- at rest in bounds, and none waits for a timer or a server: at rest
abbrev pub PickedAreAtRest : Type 0
PickedAreAtRest = (bounds : Bounds) (J : Past) → ArePicked bounds J → IsAtRestIn bounds J → IsAtRest J

-- lists, claims and lock book with bounds
abbrev pub bound : Bounds → Roster → RosterIn
bound bounds roster = record { bounds = bounds; claimed = roster.claimed; lists = roster.lists; rows = roster.rows }

-- what is left to do, where all that are set aside may go on or none
abbrev pub each_late : Debts → DebtsIn
each_late debts = record { owed = debts.owed; slack = debts.slack; over = debts.over; late = λ q. debts.late }

-- what is tied without bounds is tied in any
abbrev pub TiedIsBound : Type 0
TiedIsBound =
    (bounds : Bounds) (J : Past) (number_of : Option Server → ℕ) (roster : Roster) (debts : Debts) → IsTiedBut J number_of roster debts
    → IsTiedButIn J number_of (bound bounds roster) (each_late debts)

-- and where nothing is bounded whoever is available is ready
abbrev pub FreeReadyAreAvailable : Type 0
FreeReadyAreAvailable =
    (bounds : Bounds) (J : Past) (number_of : Option Server → ℕ) (roster : Roster) → IsUnbounded bounds → IsLegal J
    → IsTiedIn J number_of (bound bounds roster)
    → (q : ℕ) → IsAvailable J roster.claimed roster.claimed q → IsReady roster.lists q
