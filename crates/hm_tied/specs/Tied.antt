-- What ties the lists of a scheduler and a lock book to a journal.
use Rattle.std.specs.Prelude.{◌≡◌, ◌≢◌, ℕ, List, Option, Some, None, Bool, true, false, ◌⊎◌}
use Rattle.hm_names.specs.Server.{Server}
use Rattle.hm_data.specs.declared.answer.Answer.TheVariants as answer_is
use Rattle.hm_data.specs.declared.args.Args.{Args}
use Rattle.hm_data.specs.declared.place.RegionState.TheVariants as place_is
use Rattle.hm_locks.specs.Book.{IsBlockedBy, IsEnlisted, Row, is_holding, row_of}
use Rattle.hm_locks.specs.Laws.{IsRowOf}
use Rattle.hm_model.specs.Answers.{last_answer}
use Rattle.hm_model.specs.Holding.{HoldsWith}
use Rattle.hm_model.specs.Inputs.{place_if, undoes}
use Rattle.hm_model.specs.Journal.{Past}
use Rattle.hm_model.specs.Locks.{IsIn}
use Rattle.hm_model.specs.Phase.{all_stopped, ended}
use Rattle.hm_model.specs.Picks.{has_pick}
use Rattle.hm_model.specs.Rest.{MayStep, MayUndo}
use Rattle.hm_model.specs.Tree.{Node, is_root, node_of}
use Rattle.hm_model.specs.TransitActs.{is_state, told_place}
use Rattle.hm_model.specs.Whereabouts.{called_by, moved_by}
use Rattle.hm_sched.specs.declared.queue.Queue.{Queue}
use Rattle.hm_sched.specs.declared.queue.Queue.TheVariants.{Held, Suspended, Waits}
use Rattle.hm_sched.specs.Queues.{Stands, StandsIn}

-- it is there and hasn't ended
abbrev pub IsOpen : Past → ℕ → Type 0
IsOpen before p = (node_of before p ≢ None) × (ended before p ≡ false)

-- it may make a step, or have one undone
abbrev pub CanGo : Past → ℕ → Type 0
CanGo before p = MayStep before p ⊎ MayUndo before p

-- it waits for the answer to its call, whether that has come or not
abbrev pub Awaits : Past → ℕ → Type 0
Awaits before p = IsOpen before p × ((next : ℕ) × (last_answer before p ≡ Some (answer_is.Await next)))

-- it can go on, or waits for an answer that may come at any time
abbrev pub IsBusy : Past → ℕ → Type 0
IsBusy before p = CanGo before p ⊎ Awaits before p

-- if it is a root, its descendants have ended
abbrev pub IsCalm : Past → ℕ → Type 0
IsCalm before p = is_root before p ≡ true → all_stopped before p ≡ true

-- the region of a transit is being opened
abbrev pub is_opening : Past → Args → Bool
is_opening before args = is_state place_is.Opening (told_place (place_if before (moved_by args)))

-- nothing of it is to be undone, and its next step needs a server to be picked, while none is live; nor is its region being opened
abbrev pub LacksPick : Past → ℕ → Type 0
LacksPick before p =
    (node : Node) × (node_of before p ≡ Some node) × (undoes before p node ≡ false) × (has_pick before p node ≡ false)
    × (is_opening before node.args ≡ false)

-- the server that a procedure, if there is one, calls; none where it calls the storage
abbrev pub called_in : Option Node → Option Server
called_in None = None
called_in (Some node) = called_by node.args

-- who is claimed, who stands in which list, and who is enlisted
pub record Roster : Type 0 where
  pub claimed : List ℕ
  pub lists : List (List ℕ)
  pub rows : List Row

-- what is left to do while an event is under way: who may have to be put into a list; who may have to be taken from those whose
-- calls are out; who may have ended and is enlisted still; whether those that wait for a live server may go on
pub record Debts : Type 0 where
  pub owed : ℕ → Bool
  pub slack : ℕ → Bool
  pub over : ℕ → Bool
  pub late : Bool

-- nothing is left to do
abbrev pub no_debts : Debts
no_debts = record { owed = λ q. false; slack = λ q. false; over = λ q. false; late = false }

-- it is one of those that may have ended, and has
abbrev pub IsOver : Past → (ℕ → Bool) → ℕ → Type 0
IsOver before over p = (over p ≡ true) × (ended before p ≡ true)

-- each that is open is enlisted as the journal says, and those hold that hold in the journal with the claimed; besides, those
-- are enlisted that may have ended
pub record IsBookBut (before : Past) (claimed : List ℕ) (rows : List Row) (over : ℕ → Bool) : Type 0 where
  pub says : (p : ℕ) (row : Row) → row_of rows p ≡ Some row → IsRowOf before row
  pub enlisted : (p : ℕ) → IsEnlisted rows p → IsOpen before p ⊎ IsOver before over p
  pub opened : (p : ℕ) → IsOpen before p → IsEnlisted rows p
  pub left : (p : ℕ) → over p ≡ true → IsEnlisted rows p
  pub holds : (p : ℕ) → is_holding (row_of rows p) ≡ true → HoldsWith before claimed p ⊎ IsOver before over p
  pub held : (p : ℕ) → HoldsWith before claimed p → is_holding (row_of rows p) ≡ true

-- lists, claims and lock book say what the journal says, but for what is left to do. The servers that are called have numbers.
pub record IsTiedBut (before : Past) (number_of : Option Server → ℕ) (roster : Roster) (debts : Debts) : Type 0 where
  pub listed : (k : Queue) (q : ℕ) → StandsIn roster.lists k q → (IsOpen before q ⊎ IsOver before debts.over q) × (IsIn q roster.claimed → ⊥)
  pub claims : (q : ℕ) → IsIn q roster.claimed → IsOpen before q × IsCalm before q
  pub waits : (h q : ℕ) → StandsIn roster.lists (Waits h) q → IsBlockedBy roster.rows q h
  pub calls : (s q : ℕ) → StandsIn roster.lists (Suspended s) q → (number_of (called_in (node_of before q)) ≡ s) × ((CanGo before q → ⊥) ⊎ (debts.slack q ≡ true))
  pub aside : (q : ℕ) → StandsIn roster.lists Held q → (LacksPick before q × IsCalm before q) ⊎ (debts.late ≡ true)
  pub must : (q : ℕ) → (IsIn q roster.claimed → ⊥) → IsBusy before q → Stands roster.lists q ⊎ (debts.owed q ≡ true)
  pub book : IsBookBut before roster.claimed roster.rows debts.over

-- nothing is left to do
abbrev pub IsTied : Past → (Option Server → ℕ) → Roster → Type 0
IsTied before number_of roster = IsTiedBut before number_of roster no_debts
