-- How far a desk is that is made from what a journal says.
use Rattle.std.specs.Prelude.{◌≡◌, ℕ, zero, suc, ◌<◌, ◌≤◌, List, [], ◌∷◌, ◌++◌, Some, Bool, true, not, ◌&&◌, ◌↔◌, if◌then◌else◌}
use Rattle.hm_locks.specs.Book.{IsEnlisted, Row, is_holding, row_of}
use Rattle.hm_locks.specs.Laws.{IsRowOf}
use Rattle.hm_model.specs.Holding.{HoldsWith}
use Rattle.hm_model.specs.Journal.{Past}
use Rattle.hm_procedures.specs.Procedures.{is_unfinished}
use Rattle.hm_sched.specs.Queues.{IsReady, StandsNowhere, members, ready_list}
use Rattle.hm_tied.specs.Tied.{Debts, IsOpen, no_debts}
use Rattle.hm_roster.specs.Roster.{Owes, is_of_crash, lists_on}
use Rattle.hm_roster.specs.declared.desk.Desk.{Desk}

-- of the procedures below a number those are enlisted that haven't ended, as the journal says, and those hold that have a step
pub record IsBookBelow (J : Past) (rows : List Row) (n : ℕ) : Type 0 where
  pub says : (p : ℕ) (row : Row) → row_of rows p ≡ Some row → IsRowOf J row
  pub enlisted : (p : ℕ) → IsEnlisted rows p ↔ ((p < n) × IsOpen J p)
  pub holds : (p : ℕ) → (is_holding (row_of rows p) ≡ true) ↔ ((p < n) × HoldsWith J [] p)

-- everybody is owed
abbrev pub all_owed : Debts
all_owed = record no_debts { owed = λ q. true }

-- it belongs to a server's crash, or doesn't
abbrev pub is_home : Bool → Bool → Bool
is_home servers crash = if servers then crash else not crash

-- a procedure, where it is there and hasn't ended, and belongs to a server's crash or doesn't
abbrev pub own_open : Past → Bool → ℕ → List ℕ
own_open J servers p = if is_unfinished J p && is_home servers (is_of_crash J p) then p ∷ [] else []

-- those of the first so many procedures that haven't ended, and belong to a server's crash or don't, in order
abbrev pub open_among : Past → Bool → ℕ → List ℕ
open_among J servers zero = []
open_among J servers (suc k) = open_among J servers k ++ own_open J servers (suc k)

-- of the procedures below a number those are ready that haven't ended, in order, and nobody else stands anywhere
pub record IsReadyBelow (J : Past) (desk : Desk) (n : ℕ) : Type 0 where
  pub tied : Owes J desk all_owed
  pub order : (servers : Bool) (k : ℕ) → n ≡ suc k → members (lists_on desk) (ready_list servers) ≡ open_among J servers k
  pub ready : (q : ℕ) → q < n → IsOpen J q → IsReady (lists_on desk) q
  pub later : (q : ℕ) → n ≤ q → StandsNowhere (lists_on desk) q
