-- Who is ready in a tied state, and what each call of the scheduler and of the lock book leaves to do: laws.
use Rattle.std.specs.Prelude.{◌≡◌, ◌≢◌, ℕ, List, [], ◌∷◌, Option, None, Bool, true, false, not, ◌==◌, ◌&&◌, is_some}
use Rattle.std.specs.Option.{option_map}
use Rattle.hm_names.specs.Server.{Server}
use Rattle.hm_locks.specs.Book.{AreChanged, Row, holding, row_of}
use Rattle.hm_model.specs.Answers.{last_answer}
use Rattle.hm_model.specs.Claims.{Unclaims}
use Rattle.hm_model.specs.Holding.{IsFree}
use Rattle.hm_model.specs.Journal.{Past}
use Rattle.hm_model.specs.Locks.{IsIn}
use Rattle.hm_model.specs.Phase.{ended}
use Rattle.hm_model.specs.Rest.{MayStep}
use Rattle.hm_model.specs.Rules.{IsLegal}
use Rattle.hm_model.specs.Tree.{node_of}
use Rattle.hm_sched.specs.Effects.{Joins, Leaves, Passes, Wakes, WakesOne}
use Rattle.hm_sched.specs.Queues.{IsReady, Stands, StandsIn, StandsNowhere}
use Rattle.hm_sched.specs.declared.queue.Queue.{Queue}
use Rattle.hm_sched.specs.declared.queue.Queue.TheVariants.{Held, Servers, Suspended, Tables, Waits}
use Rattle.hm_tied.specs.Bounds.{Bounds, IsAvailableIn, MayStepIn}
use Rattle.hm_tied.specs.Tied.{CanGo, IsBusy, IsOpen, called_in}
use Rattle.hm_tied.specs.TiedIn.{Debts, IsTied, IsTiedBut, Roster, no_debts}
use Rattle.hm_tied.specs.Calls.{is_given, without}

-- whoever is available is ready
abbrev pub ReadyAreAvailable : Type 0
ReadyAreAvailable =
    (J : Past) (number_of : Option Server → ℕ) (roster : Roster) → IsTied J number_of roster
    → (q : ℕ) → IsAvailableIn roster.bounds J roster.claimed roster.claimed q → IsReady roster.lists q

-- one alone is owed
abbrev pub owing : ℕ → Debts
owing p = record no_debts { owed = λ q. q == p }

-- whom `next` gives belongs into no list yet
abbrev pub NextOwes : Type 0
NextOwes =
    (J : Past) (number_of : Option Server → ℕ) (roster : Roster) (lists : List (List ℕ)) (given : Option ℕ)
    → IsTied J number_of roster → Passes roster.rows roster.lists lists given
    → IsTiedBut J number_of (record roster { lists = lists }) (record no_debts { owed = is_given given })

-- who can go on and has taken its locks may be claimed
abbrev pub ClaimTies : Type 0
ClaimTies =
    (J : Past) (number_of : Option Server → ℕ) (roster : Roster) (rows : List Row) (p : ℕ)
    → IsLegal J → IsTiedBut J number_of roster (owing p) → CanGo J p → StandsNowhere roster.lists p
    → AreChanged roster.rows p (option_map (holding true) (row_of roster.rows p)) rows
    → IsTied J number_of (record roster { claimed = p ∷ roster.claimed; rows = rows })

-- who isn't claimed gives back what it took, unless it has a step
abbrev pub GiveBackTies : Type 0
GiveBackTies =
    (J : Past) (number_of : Option Server → ℕ) (roster : Roster) (rows : List Row) (p : ℕ)
    → IsTiedBut J number_of roster (owing p) → (IsIn p roster.claimed → ⊥)
    → AreChanged roster.rows p (option_map (holding (is_some (last_answer J p))) (row_of roster.rows p)) rows
    → IsTiedBut J number_of (record roster { rows = rows }) (owing p)

-- a claim for a first step that is given up gives its locks back and wakes those who waited for them
abbrev pub GiveUpOwes : Type 0
GiveUpOwes =
    (J : Past) (number_of : Option Server → ℕ) (roster : Roster) (claimed : List ℕ) (lists : List (List ℕ)) (rows : List Row) (p : ℕ)
    → IsTied J number_of roster → last_answer J p ≡ None → Unclaims p roster.claimed claimed
    → AreChanged roster.rows p (option_map (holding false) (row_of roster.rows p)) rows → Wakes roster.lists lists (Waits p)
    → IsTiedBut J number_of (record { bounds = roster.bounds; claimed = claimed; lists = lists; rows = rows }) (owing p)

-- a claim of one with a step that is given up keeps its locks
abbrev pub KeepOnOwes : Type 0
KeepOnOwes =
    (J : Past) (number_of : Option Server → ℕ) (roster : Roster) (claimed : List ℕ) (p : ℕ)
    → IsTied J number_of roster → last_answer J p ≢ None → Unclaims p roster.claimed claimed
    → IsTiedBut J number_of (record roster { claimed = claimed }) (owing p)

-- where one may be put: into a ready list; into that of its server, while it can't go on; aside, while it may make a step for
-- which there is no server to pick
abbrev pub MayJoin : Bounds → Past → (Option Server → ℕ) → ℕ → Queue → Type 0
MayJoin bounds J number_of p Servers = Unit {0}
MayJoin bounds J number_of p Tables = Unit {0}
MayJoin bounds J number_of p Held = MayStep J p × (MayStepIn bounds J p → ⊥) × IsFree J [] p
MayJoin bounds J number_of p (Waits h) = ⊥
MayJoin bounds J number_of p (Suspended s) = (number_of (called_in (node_of J p)) ≡ s) × (CanGo J p → ⊥)

-- one that joins a list isn't owed any more
abbrev pub JoinOwes : Type 0
JoinOwes =
    (J : Past) (number_of : Option Server → ℕ) (roster : Roster) (debts : Debts) (lists : List (List ℕ)) (queue : Queue) (p : ℕ)
    → IsLegal J → IsTiedBut J number_of roster debts → IsOpen J p → (IsIn p roster.claimed → ⊥) → MayJoin roster.bounds J number_of p queue
    → Joins roster.lists lists queue p
    → IsTiedBut J number_of (record roster { lists = lists }) (record debts { owed = without debts.owed p })

-- nor is one that is claimed, stands somewhere already, or isn't busy
abbrev pub OwedIsLess : Type 0
OwedIsLess =
    (J : Past) (number_of : Option Server → ℕ) (roster : Roster) (debts : Debts) (p : ℕ)
    → IsTiedBut J number_of roster debts → ((let bounds = roster.bounds in bounds.waits p ≡ false) → (IsIn p roster.claimed → ⊥) → IsBusy J p → Stands roster.lists p)
    → IsTiedBut J number_of roster (record debts { owed = without debts.owed p })

-- whose call is out and who can't go on may stay there
abbrev pub SlackIsLess : Type 0
SlackIsLess =
    (J : Past) (number_of : Option Server → ℕ) (roster : Roster) (debts : Debts) (p : ℕ)
    → IsTiedBut J number_of roster debts → (CanGo J p → ⊥)
    → IsTiedBut J number_of roster (record debts { slack = without debts.slack p })

-- one that is woken isn't out any more
abbrev pub WakeOwes : Type 0
WakeOwes =
    (J : Past) (number_of : Option Server → ℕ) (roster : Roster) (debts : Debts) (lists : List (List ℕ)) (p : ℕ)
    → IsTiedBut J number_of roster debts → WakesOne roster.lists lists p
    → IsTiedBut J number_of (record roster { lists = lists }) (record debts { slack = without debts.slack p })

-- nor are those whose calls went to a server that is woken
abbrev pub WakeAllOwes : Type 0
WakeAllOwes =
    (J : Past) (number_of : Option Server → ℕ) (roster : Roster) (debts : Debts) (lists : List (List ℕ)) (server : ℕ)
    → IsTiedBut J number_of roster debts → Wakes roster.lists lists (Suspended server)
    → IsTiedBut J number_of (record roster { lists = lists })
    (record debts { slack = λ q. debts.slack q && not (number_of (called_in (node_of J q)) == server) })

-- after the waking of those set aside none of them may go on unseen
abbrev pub WakeHeldOwes : Type 0
WakeHeldOwes =
    (J : Past) (number_of : Option Server → ℕ) (roster : Roster) (debts : Debts) (lists : List (List ℕ))
    → IsTiedBut J number_of roster debts → Wakes roster.lists lists Held
    → IsTiedBut J number_of (record roster { lists = lists }) (record debts { late = λ q. false })

-- of those that may go on only those are still that are set aside
abbrev pub LateIsTold : Type 0
LateIsTold =
    (J : Past) (number_of : Option Server → ℕ) (roster : Roster) (debts : Debts) (late : ℕ → Bool)
    → IsTiedBut J number_of roster debts → ((q : ℕ) → StandsIn roster.lists Held q → debts.late q ≡ true → late q ≡ true)
    → IsTiedBut J number_of roster (record debts { late = late })

-- who has ended leaves its list and the book, and wakes those who waited for it
abbrev pub EndOwes : Type 0
EndOwes =
    (J : Past) (number_of : Option Server → ℕ) (roster : Roster) (debts : Debts) (between lists : List (List ℕ)) (rows : List Row) (p : ℕ)
    → IsLegal J → IsTiedBut J number_of roster debts → ended J p ≡ true → Leaves roster.lists between p
    → AreChanged roster.rows p None rows → Wakes between lists (Waits p)
    → IsTiedBut J number_of (record roster { lists = lists; rows = rows }) (record debts { over = without debts.over p })

-- who hasn't ended stays
abbrev pub OverIsLess : Type 0
OverIsLess =
    (J : Past) (number_of : Option Server → ℕ) (roster : Roster) (debts : Debts) (p : ℕ)
    → IsTiedBut J number_of roster debts → IsOpen J p
    → IsTiedBut J number_of roster (record debts { over = without debts.over p })
