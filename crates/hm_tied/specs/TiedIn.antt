-- What ties the lists of a scheduler and a lock book to a journal.
use Rattle.std.specs.Prelude.{◌≡◌, ℕ, List, Option, Some, Bool, true, false, ◌⊎◌}
use Rattle.hm_names.specs.Server.{Server}
use Rattle.hm_locks.specs.Book.{IsBlockedBy, Row}
use Rattle.hm_model.specs.Inputs.{undoes}
use Rattle.hm_model.specs.Journal.{Past}
use Rattle.hm_model.specs.Locks.{IsIn}
use Rattle.hm_model.specs.Picks.{needs_server}
use Rattle.hm_model.specs.Tree.{Node, node_of}
use Rattle.hm_sched.specs.declared.queue.Queue.{Queue}
use Rattle.hm_sched.specs.declared.queue.Queue.TheVariants.{Held, Suspended, Waits}
use Rattle.hm_sched.specs.Queues.{Stands, StandsIn}
use Rattle.hm_tied.specs.Bounds.{Bounds, Fits}
use Rattle.hm_tied.specs.Tied.{CanGo, IsBookBut, IsBusy, IsCalm, IsOpen, IsOver, called_in, is_opening}

-- nothing of it is to be undone, and its next step needs a server to be picked, while none fits that is allowed; nor is its region
-- being opened
abbrev pub LacksPick : Bounds → Past → ℕ → Type 0
LacksPick bounds before p =
    (node : Node) × (node_of before p ≡ Some node) × (undoes before p node ≡ false) × (needs_server before p node ≡ true)
    × ((server : Server) → Fits bounds before p node server → ⊥) × (is_opening before node.args ≡ false)

-- what keeps procedures back, who is claimed, who stands in which list, and who is enlisted
pub record Roster : Type 0 where
  pub bounds : Bounds
  pub claimed : List ℕ
  pub lists : List (List ℕ)
  pub rows : List Row

-- what is left to do while an event is under way: who may have to be put into a list; who may have to be taken from those whose
-- calls are out; who may have ended and is enlisted still; who of those set aside may go on
pub record Debts : Type 0 where
  pub owed : ℕ → Bool
  pub slack : ℕ → Bool
  pub over : ℕ → Bool
  pub late : ℕ → Bool

-- nothing is left to do
abbrev pub no_debts : Debts
no_debts = record { owed = λ q. false; slack = λ q. false; over = λ q. false; late = λ q. false }

-- lists, claims and lock book say what the journal says, but for what is left to do. The servers that are called have numbers.
pub record IsTiedBut (before : Past) (number_of : Option Server → ℕ) (roster : Roster) (debts : Debts) : Type 0 where
  pub listed : (k : Queue) (q : ℕ) → StandsIn roster.lists k q → (IsOpen before q ⊎ IsOver before debts.over q) × (IsIn q roster.claimed → ⊥)
  pub claims : (q : ℕ) → IsIn q roster.claimed → IsOpen before q × IsCalm before q
  pub waits : (h q : ℕ) → StandsIn roster.lists (Waits h) q → IsBlockedBy roster.rows q h
  pub calls : (s q : ℕ) → StandsIn roster.lists (Suspended s) q → (number_of (called_in (node_of before q)) ≡ s) × ((CanGo before q → ⊥) ⊎ (debts.slack q ≡ true))
  pub aside : (q : ℕ) → StandsIn roster.lists Held q → (LacksPick roster.bounds before q × IsCalm before q) ⊎ (debts.late q ≡ true)
  pub must : (q : ℕ) → (let bounds = roster.bounds in bounds.waits q ≡ false) → (IsIn q roster.claimed → ⊥) → IsBusy before q → Stands roster.lists q ⊎ (debts.owed q ≡ true)
  pub book : IsBookBut before roster.claimed roster.rows debts.over

-- nothing is left to do
abbrev pub IsTied : Past → (Option Server → ℕ) → Roster → Type 0
IsTied before number_of roster = IsTiedBut before number_of roster no_debts
