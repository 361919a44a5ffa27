-- What each kind of entry leaves to do: laws.
use Rattle.std.specs.Prelude.{◌≡◌, ℕ, List, ◌∷◌, Option, Some, Bool, true, false, ◌==◌, ◌||◌}
use Rattle.hm_names.specs.Server.{Server}
use Rattle.hm_names.specs.declared.nonce.Nonce.{Nonce}
use Rattle.hm_names.specs.declared.pid.Pid.{Pid}
use Rattle.hm_data.specs.declared.call.Told.{Told}
use Rattle.hm_data.specs.declared.entry.Entry.TheVariants as entry_is
use Rattle.hm_data.specs.declared.request.Request.{Request}
use Rattle.hm_data.specs.declared.sheet.Sheet.{Sheet}
use Rattle.hm_data.specs.declared.step.StepOut.{StepOut}
use Rattle.hm_locks.specs.Book.{Row}
use Rattle.hm_model.specs.Journal.{Past}
use Rattle.hm_model.specs.Locks.{IsIn}
use Rattle.hm_model.specs.Rules.{IsLegal}
use Rattle.hm_model.specs.Tree.{Node, node_of, root_of}
use Rattle.hm_model.specs.Claims.{Unclaims}
use Rattle.hm_tied.specs.Bounds.{PickAllowed}
use Rattle.hm_tied.specs.TiedIn.{Debts, IsTied, IsTiedBut, Roster, no_debts}
use Rattle.hm_tied.specs.Entries.{Enlists, is_fenced_by, is_new, touched}
use Rattle.hm_tied.specs.Unread.{are_read_by}

-- a step: what it made is owed; it, its parent and its root may go on; it and its root may end; who reads a row that it edits may need no
-- server to be picked any more
abbrev pub step_debts : Past → ℕ → Node → StepOut → Debts
step_debts before p node out = record {
  owed = λ q. is_new before q || touched p node q;
  slack = touched p node;
  over = λ q. (q == p) || (q == node.root);
  late = λ q. are_read_by out.edits (node_of before q);
}

abbrev pub StepOwes : Type 0
StepOwes =
    (pid : Pid) (pick : Option Server) (out : StepOut) (J : Past) (number_of : Option Server → ℕ) (roster : Roster) (claimed : List ℕ) (rows : List Row) (node : Node)
    → IsLegal (entry_is.Step pid pick out ∷ J) → IsTied J number_of roster → IsIn pid.0 roster.claimed → node_of J pid.0 ≡ Some node
    → PickAllowed roster.bounds node pick
    → Unclaims pid.0 roster.claimed claimed → Enlists J (entry_is.Step pid pick out ∷ J) roster.rows rows
    → IsTiedBut (entry_is.Step pid pick out ∷ J) number_of (record { bounds = roster.bounds; claimed = claimed; lists = roster.lists; rows = rows }) (step_debts J pid.0 node out)

-- an undo: its followers and its root are owed, the root may go on or end
abbrev pub undo_debts : Past → ℕ → StepOut → Debts
undo_debts before root out = record {
  owed = λ q. is_new before q || (q == root);
  slack = λ q. q == root;
  over = λ q. q == root;
  late = λ q. are_read_by out.edits (node_of before q);
}

abbrev pub UndoOwes : Type 0
UndoOwes =
    (pid : Pid) (row : ℕ) (out : StepOut) (J : Past) (number_of : Option Server → ℕ) (roster : Roster) (claimed : List ℕ) (rows : List Row)
    → IsLegal (entry_is.Undo pid row out ∷ J) → IsTied J number_of roster → IsIn (root_of J pid.0) roster.claimed
    → Unclaims (root_of J pid.0) roster.claimed claimed → Enlists J (entry_is.Undo pid row out ∷ J) roster.rows rows
    → IsTiedBut (entry_is.Undo pid row out ∷ J) number_of (record { bounds = roster.bounds; claimed = claimed; lists = roster.lists; rows = rows }) (undo_debts J (root_of J pid.0) out)

-- a root that is made is owed; after a server that went down those that were set aside are looked at
abbrev pub root_debts : Past → Bool → Debts
root_debts before late = record no_debts { owed = is_new before; late = λ q. late }

abbrev pub SubmitOwes : Type 0
SubmitOwes =
    (nonce : Nonce) (request : Request) (J : Past) (number_of : Option Server → ℕ) (roster : Roster) (rows : List Row)
    → IsLegal (entry_is.Submit nonce request ∷ J) → IsTied J number_of roster → Enlists J (entry_is.Submit nonce request ∷ J) roster.rows rows
    → IsTiedBut (entry_is.Submit nonce request ∷ J) number_of (record roster { rows = rows }) (root_debts J false)

abbrev pub DownOwes : Type 0
DownOwes =
    (server : Server) (J : Past) (number_of : Option Server → ℕ) (roster : Roster) (rows : List Row)
    → IsLegal (entry_is.Down server ∷ J) → IsTied J number_of roster → Enlists J (entry_is.Down server ∷ J) roster.rows rows
    → IsTiedBut (entry_is.Down server ∷ J) number_of (record roster { rows = rows }) (root_debts J true)

-- a report: the one that called may go on, and those whose calls went to a server that it fences
abbrev pub report_debts : Past → Past → ℕ → Debts
report_debts before after call =
    record no_debts { slack = λ q. (q == call) || is_fenced_by before after (node_of before q) }

abbrev pub ReportOwes : Type 0
ReportOwes =
    (call : Pid) (told : Told) (J : Past) (number_of : Option Server → ℕ) (roster : Roster)
    → IsLegal (entry_is.Report call told ∷ J) → IsTied J number_of roster
    → IsTiedBut (entry_is.Report call told ∷ J) number_of roster (report_debts J (entry_is.Report call told ∷ J) call.0)

-- those set aside may go on
abbrev pub late_debts : Debts
late_debts = record no_debts { late = λ q. true }

abbrev pub UpOwes : Type 0
UpOwes =
    (server : Server) (J : Past) (number_of : Option Server → ℕ) (roster : Roster)
    → IsLegal (entry_is.Up server ∷ J) → IsTied J number_of roster → IsTiedBut (entry_is.Up server ∷ J) number_of roster late_debts

-- an abort leaves nothing to do: whoever is aborted is before the point, where no server is needed
abbrev pub AbortTies : Type 0
AbortTies =
    (pid : Pid) (J : Past) (number_of : Option Server → ℕ) (roster : Roster)
    → IsLegal (entry_is.Abort pid ∷ J) → IsTied J number_of roster → IsTied (entry_is.Abort pid ∷ J) number_of roster

-- so do new sheets: whoever was made runs by the sheets of its root
abbrev pub AdoptTies : Type 0
AdoptTies =
    (sheets : List Sheet) (J : Past) (number_of : Option Server → ℕ) (roster : Roster)
    → IsLegal (entry_is.Adopt sheets ∷ J) → IsTied J number_of roster → IsTied (entry_is.Adopt sheets ∷ J) number_of roster
