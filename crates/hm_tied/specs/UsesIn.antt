-- What a tied state tells, and how it begins, goes on and is done: laws.
use Rattle.std.specs.Prelude.{◌≡◌, ℕ, ◌+◌, ◌≤◌, List, [], ◌∷◌, Option, Some, None, Bool, true, not, ◌&&◌, ◌||◌, ◌↔◌}
use Rattle.hm_names.specs.Server.{Server}
use Rattle.hm_data.specs.declared.entry.Entry.{Entry}
use Rattle.hm_locks.specs.Book.{IsEnlisted, IsFree, NoneClash, Row, above_in, row_of}
use Rattle.hm_locks.specs.Laws.{IsBookOf}
use Rattle.hm_model.specs.Fleet.{came_up}
use Rattle.hm_model.specs.Holding.{IsFree as IsFreeIn, NoneClash as NoneClashIn}
use Rattle.hm_model.specs.Journal.{Past}
use Rattle.hm_model.specs.Rules.{IsLegal}
use Rattle.hm_model.specs.Tree.{Node, made, node_of}
use Rattle.hm_sched.specs.Queues.{IsReady, Stands, members}
use Rattle.hm_sched.specs.declared.queue.Queue.{Queue}
use Rattle.hm_tied.specs.Bounds.{Bounds}
use Rattle.hm_tied.specs.Tied.{IsOpen}
use Rattle.hm_tied.specs.TiedIn.{Debts, IsTied, IsTiedBut, Roster, no_debts}
use Rattle.hm_tied.specs.Uses.{EnlistsBelow}

-- where no two that hold clash in the book, no two conflict that hold in the journal with the claimed
abbrev pub NoneClashTies : Type 0
NoneClashTies =
    (J : Past) (number_of : Option Server → ℕ) (roster : Roster) → IsTied J number_of roster
    → NoneClash roster.rows → NoneClashIn J roster.claimed

-- who is free in the book is free in the journal with the claimed
abbrev pub FreeTies : Type 0
FreeTies =
    (J : Past) (number_of : Option Server → ℕ) (roster : Roster) (p : ℕ) → IsTied J number_of roster
    → IsOpen J p → IsFree roster.rows p ↔ IsFreeIn J roster.claimed p

-- who is ready is enlisted
abbrev pub ReadyAreEnlisted : Type 0
ReadyAreEnlisted =
    (J : Past) (number_of : Option Server → ℕ) (roster : Roster) → IsTied J number_of roster
    → (q : ℕ) → IsReady roster.lists q → IsEnlisted roster.rows q

-- who is enlisted or stands in a list was made
abbrev pub KnownAreMade : Type 0
KnownAreMade =
    (J : Past) (number_of : Option Server → ℕ) (roster : Roster) (debts : Debts) → IsLegal J → IsTiedBut J number_of roster debts
    → (q : ℕ) → (IsEnlisted roster.rows q → q ≤ made J) × (Stands roster.lists q → q ≤ made J)

-- room for more changes nothing
abbrev pub RoomTies : Type 0
RoomTies =
    (J : Past) (number_of : Option Server → ℕ) (roster : Roster) (debts : Debts) (lists : List (List ℕ))
    → IsTiedBut J number_of roster debts → ((k : Queue) → members lists k ≡ members roster.lists k)
    → IsTiedBut J number_of (record roster { lists = lists }) debts

-- nor do the numbers of servers that never came up
abbrev pub NumbersTie : Type 0
NumbersTie =
    (J : Past) (number_of more_of : Option Server → ℕ) (roster : Roster) (debts : Debts) → IsLegal J → IsTiedBut J number_of roster debts
    → more_of None ≡ number_of None → ((server : Server) → came_up J server ≡ true → more_of (Some server) ≡ number_of (Some server))
    → IsTiedBut J more_of roster debts

-- what is left to do is among what others say, and the same may have ended
pub record AreAmong (debts more : Debts) : Type 0 where
  pub owed : (q : ℕ) → debts.owed q ≡ true → more.owed q ≡ true
  pub slack : (q : ℕ) → debts.slack q ≡ true → more.slack q ≡ true
  pub over : (q : ℕ) → debts.over q ≡ more.over q
  pub late : (q : ℕ) → debts.late q ≡ true → more.late q ≡ true

-- more may be said to be left to do; so where nobody is left, nothing is
abbrev pub DebtsMayRise : Type 0
DebtsMayRise =
    (J : Past) (number_of : Option Server → ℕ) (roster : Roster) (debts more : Debts)
    → IsTiedBut J number_of roster debts → AreAmong debts more → IsTiedBut J number_of roster more

-- whose timer was set and isn't any more
abbrev pub is_woken : Bounds → Bounds → ℕ → Bool
is_woken old new q = old.waits q && not (new.waits q)

-- whatever the groups and the timers become: those are owed whose timers aren't set any more, and those set aside are looked at
abbrev pub BoundsOwe : Type 0
BoundsOwe =
    (J : Past) (number_of : Option Server → ℕ) (roster : Roster) (debts : Debts) (bounds : Bounds) → IsTiedBut J number_of roster debts
    → IsTiedBut J number_of (record roster { bounds = bounds }) (record debts { owed = λ q. debts.owed q || is_woken roster.bounds bounds q; late = λ q. true })

-- where the same servers are allowed, those set aside stay so; and who is set to a timer is owed no longer
abbrev pub TimersOwe : Type 0
TimersOwe =
    (J : Past) (number_of : Option Server → ℕ) (roster : Roster) (debts : Debts) (waits : ℕ → Bool) → IsTiedBut J number_of roster debts
    → (let bounds : Bounds = record roster.bounds { waits = waits } in
    IsTiedBut J number_of (record roster { bounds = bounds }) (record debts { owed = λ q. not (waits q) && (debts.owed q || is_woken roster.bounds bounds q) }))

-- at the start nobody is claimed or stands in a list, and everybody is owed
abbrev pub OpeningOwes : Type 0
OpeningOwes =
    (bounds : Bounds) (J : Past) (number_of : Option Server → ℕ) (lists : List (List ℕ)) (rows : List Row)
    → IsBookOf J [] rows → ((p : ℕ) → IsEnlisted rows p ↔ IsOpen J p) → ((k : Queue) → members lists k ≡ [])
    → IsTiedBut J number_of (record { bounds = bounds; claimed = []; lists = lists; rows = rows }) (record no_debts { owed = λ q. true })

-- they are enlisted one after another
abbrev pub EnlistingBegins : Type 0
EnlistingBegins =
    (entry : Entry) (J : Past) (number_of : Option Server → ℕ) (roster : Roster) → IsLegal (entry ∷ J) → IsTied J number_of roster
    → EnlistsBelow J (entry ∷ J) roster.rows roster.rows (made J + 1)

-- the row of one that hasn't ended tells its ancestors
abbrev pub AncestorsAreTold : Type 0
AncestorsAreTold =
    (J : Past) (number_of : Option Server → ℕ) (roster : Roster) (p : ℕ) (node : Node) → IsTied J number_of roster
    → IsOpen J p → node_of J p ≡ Some node → above_in (row_of roster.rows p) ≡ node.above
