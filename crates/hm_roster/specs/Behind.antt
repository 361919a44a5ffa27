-- What is known of a desk after an entry, before it was looked at who may go on or has ended.
use Rattle.std.specs.Prelude.{◌≡◌, ◌≢◌, ℕ, ◌+◌, ◌<◌, ◌∷◌, Option, Some, None, Bool, ◌||◌, ◌==◌}
use Rattle.hm_names.specs.Server.{Server}
use Rattle.hm_names.specs.declared.nonce.Nonce.{Nonce}
use Rattle.hm_names.specs.declared.pid.Pid.{Pid}
use Rattle.hm_data.specs.declared.args.Args.{Args}
use Rattle.hm_data.specs.declared.args.Args.TheVariants as args_are
use Rattle.hm_data.specs.declared.call.Told.{Told}
use Rattle.hm_data.specs.declared.entry.Entry.{Entry}
use Rattle.hm_data.specs.declared.entry.Entry.TheVariants as entry_is
use Rattle.hm_data.specs.declared.request.Request.{Request}
use Rattle.hm_data.specs.declared.step.StepOut.{StepOut}
use Rattle.hm_model.specs.Journal.{Past}
use Rattle.hm_model.specs.Locks.{IsIn}
use Rattle.hm_model.specs.Tree.{Node, made, node_of, root_of}
use Rattle.hm_tied.specs.Entries.{alters, is_new, root_debts, touched}
use Rattle.hm_tied.specs.Tied.{Debts}
use Rattle.hm_roster.specs.Roster.{HasLists, IsBehind, IsEnlistedFor, Owes, claims_on, number_on, pids_on}
use Rattle.hm_roster.specs.declared.desk.Desk.{Desk}

-- the journal has an undo more than it followed, of a step in the tree of a claimed root; the followers are enlisted, from this number on
pub record IsUndoOf (after : Past) (root : Pid) (low : ℕ) (late : Bool) (desk : Desk) : Type 0 where
  pub pid : Pid
  pub row : ℕ
  pub out : StepOut
  pub behind : IsEnlistedFor after (entry_is.Undo pid row out) desk
  pub first : low ≡ made behind.before + 1
  pub roots : root.0 ≡ root_of behind.before pid.0
  pub changes : late ≡ alters out
  pub mine : IsIn root.0 (claims_on desk)

-- the journal has a submission more than it followed, whose root is enlisted
abbrev pub IsSubmitted : Past → Desk → Type 0
IsSubmitted after desk = (nonce : Nonce) × (request : Request) × IsEnlistedFor after (entry_is.Submit nonce request) desk

-- the journal has a server that went down more than it followed, and the root of its crash is enlisted
abbrev pub IsGone : Past → Desk → Type 0
IsGone after desk = (server : Server) × IsEnlistedFor after (entry_is.Down server) desk

-- the journal has a server that came up more than it followed
abbrev pub IsCome : Past → Desk → Type 0
IsCome after desk = (server : Server) × IsBehind after (entry_is.Up server) desk

-- the journal has a report of this call more than it followed
abbrev pub IsHeard : Past → Pid → Desk → Type 0
IsHeard after call desk = (told : Told) × IsBehind after (entry_is.Report call told) desk

-- the server that is to be fenced
abbrev pub server_to_fence : Args → Option Server
server_to_fence (args_are.Root request first) = None
server_to_fence (args_are.Transit region goal to) = None
server_to_fence (args_are.Crash server) = None
server_to_fence (args_are.AddRegions table first bounds) = None
server_to_fence (args_are.DropRegions table ids) = None
server_to_fence (args_are.AssignCall region server) = None
server_to_fence (args_are.CloseCall region server) = None
server_to_fence (args_are.FenceCall server) = Some server
server_to_fence (args_are.LayoutCall root) = None
server_to_fence (args_are.SweepLayout root) = None

-- the same of a procedure that may be there
abbrev pub fenced_in : Option Node → Option Server
fenced_in None = None
fenced_in (Some node) = server_to_fence node.args

-- the number of the list for calls to a server that may be there
abbrev pub number_of_some : Desk → Option Server → Option ℕ
number_of_some desk None = None
number_of_some desk (Some server) = Some (number_on desk (Some server))

-- the journal has an entry more than it followed, which made a root that wasn't looked at yet
pub record IsRooted (after : Past) (late : Bool) (desk : Desk) : Type 0 where
  pub before : Past
  pub entry : Entry
  pub is : after ≡ entry ∷ before
  pub more : made after ≡ made before + 1
  pub there : node_of after (made after) ≢ None
  pub owes : Owes after desk (root_debts before late)
  pub room : made after < pids_on desk
  pub below : HasLists desk

-- what an entry leaves to do that goes on with a procedure: what it made is owed; the procedure, its parent and its root may go
-- on; it and its root may have ended
abbrev pub entry_debts : Past → ℕ → Node → Bool → Debts
entry_debts before p node late = record {
  owed = λ q. is_new before q || touched p node q;
  slack = touched p node;
  over = λ q. (q == p) || (q == node.root);
  late = late;
}

-- the journal has an entry more than it followed, which went on with a procedure and made those from this number on; nobody was
-- looked at yet
pub record IsEntered (after : Past) (p low : ℕ) (late : Bool) (desk : Desk) : Type 0 where
  pub before : Past
  pub entry : Entry
  pub is : after ≡ entry ∷ before
  pub node : Node
  pub there : node_of after p ≡ Some node
  pub owes : Owes after desk (entry_debts before p node late)
  pub first : low ≡ made before + 1
  pub room : made after < pids_on desk
  pub below : HasLists desk
