-- What an executor keeps beside its journal, and how it follows the journal.
use Rattle.std.specs.Prelude.{◌≡◌, ℕ, ◌+◌, ◌<◌, List, ◌∷◌, Option, Some, None, Bool, true, false, ◌&&◌, ◌||◌, nat_lt, nat_le}
use Rattle.std.specs.Option.{option_map}
use Rattle.hm_names.specs.Order.{server_cmp}
use Rattle.hm_names.specs.Server.{Server}
use Rattle.hm_names.specs.declared.pid.Pid.{Pid}
use Rattle.hm_data.specs.declared.args.Args.{Args}
use Rattle.hm_data.specs.declared.args.Args.TheVariants as args_are
use Rattle.hm_data.specs.declared.entry.Entry.{Entry}
use Rattle.hm_data.specs.declared.entry.Entry.TheVariants as entry_is
use Rattle.hm_data.specs.declared.step.StepOut.{StepOut}
use Rattle.hm_index.specs.Index.{find}
use Rattle.hm_locks.specs.Book.{AreChanged, IsFree, Row, holding, row_of}
use Rattle.hm_model.specs.Journal.{Past}
use Rattle.hm_model.specs.Locks.{IsIn}
use Rattle.hm_model.specs.Tree.{Node, made, node_of, root_of}
use Rattle.hm_sched.specs.Queues.{StandsNowhere}
use Rattle.hm_tied.specs.Calls.{owing, without}
use Rattle.hm_tied.specs.Entries.{Enlists, alters}
use Rattle.hm_tied.specs.Tied.{Debts, IsOpen, IsTied, IsTiedBut, Roster}
use Rattle.hm_roster.specs.declared.desk.Desk.{Desk}

-- who is claimed, who stands where, who is enlisted with these rows
abbrev pub roster_with : Desk → List Row → Roster
roster_with desk rows = record { claimed = (let claimed = desk.claimed in claimed.items); lists = (let sched = desk.sched in sched.lists); rows = rows }

-- who is claimed, who stands where, who is enlisted
abbrev pub roster_of : Desk → Roster
roster_of desk = roster_with desk (let book = desk.book in book.rows)

-- the number of the list for calls to a server: that of a server without one is the storage's
abbrev pub number_if : Option ℕ → ℕ
number_if None = 0
number_if (Some number) = number

-- the number of the list for calls to a server, or to the storage
abbrev pub number_in : List (Server × ℕ) → Option Server → ℕ
number_in numbers None = 0
number_in numbers (Some server) = number_if (find server_cmp numbers server)

-- all these numbers are below a count
abbrev pub AreBelow : List (Server × ℕ) → ℕ → Type 0
AreBelow numbers count = (server : Option Server) → number_in numbers server < count

-- the number of the list for calls to a server, or to the storage, on a desk
abbrev pub number_on : Desk → Option Server → ℕ
number_on desk server = let numbers = desk.numbers in number_in numbers.pairs server

-- who is claimed, who stands where, who is enlisted, and for how many procedures and servers there is room
abbrev pub claims_on : Desk → List ℕ
claims_on desk = let claimed = desk.claimed in claimed.items

abbrev pub lists_on : Desk → List (List ℕ)
lists_on desk = let sched = desk.sched in sched.lists

abbrev pub rows_on : Desk → List Row
rows_on desk = let book = desk.book in book.rows

abbrev pub pids_on : Desk → ℕ
pids_on desk = let sched = desk.sched in sched.pids

abbrev pub servers_on : Desk → ℕ
servers_on desk = let sched = desk.sched in sched.servers

-- tied to a journal, but for what is left to do
abbrev pub Owes : Past → Desk → Debts → Type 0
Owes J desk debts = IsTiedBut J (number_on desk) (roster_of desk) debts

-- there is a list for each server
abbrev pub HasLists : Desk → Type 0
HasLists desk = let numbers = desk.numbers in (let sched = desk.sched in AreBelow numbers.pairs sched.servers)

-- it says what a journal says, and has room for each procedure and each server
pub record Follows (J : Past) (desk : Desk) : Type 0 where
  pub tied : IsTied J (number_on desk) (roster_of desk)
  pub room : made J < (let sched = desk.sched in sched.pids)
  pub below : HasLists desk

-- the same claims, numbers and room
pub record IsSameBut (old new : Desk) : Type 0 where
  pub claimed : new.claimed ≡ old.claimed
  pub numbers : new.numbers ≡ old.numbers
  pub pids : (let a = new.sched in a.pids) ≡ (let b = old.sched in b.pids)
  pub servers : (let a = new.sched in a.servers) ≡ (let b = old.sched in b.servers)

-- a procedure was given: it stands nowhere, and took what it asks for, which nobody held
pub record IsGiven (J : Past) (desk : Desk) (p : ℕ) : Type 0 where
  pub was : List Row
  pub tied : IsTiedBut J (number_on desk) (roster_with desk was) (owing p)
  pub nowhere : (let sched = desk.sched in StandsNowhere sched.lists p)
  pub opened : IsOpen J p
  pub unclaimed : (let claimed = desk.claimed in IsIn p claimed.items) → ⊥
  pub known : p < (let sched = desk.sched in sched.pids)
  pub room : made J < (let sched = desk.sched in sched.pids)
  pub below : HasLists desk
  pub taken : (let book = desk.book in AreChanged was p (option_map (holding true) (row_of was p)) book.rows)
  pub alone : IsFree was p

-- a procedure that was looked at isn't owed any more
abbrev pub paid : Debts → ℕ → Debts
paid debts p = record debts { owed = without debts.owed p; slack = without debts.slack p }

-- nor is one that may be there
abbrev pub paid_if : Debts → Option ℕ → Debts
paid_if debts None = debts
paid_if debts (Some p) = paid debts p

-- a test that no number from one on to below another passes
abbrev pub outside : (ℕ → Bool) → ℕ → ℕ → ℕ → Bool
outside test low high q = test q && (nat_lt q low || nat_le high q)

-- nor are all those from one number on to below another
abbrev pub paid_from : Debts → ℕ → ℕ → Debts
paid_from debts low high = record debts { owed = outside debts.owed low high; slack = outside debts.slack low high }

-- one that may have ended isn't owed as such any more
abbrev pub finished : Debts → ℕ → Debts
finished debts p = record debts { over = without debts.over p }

-- it is a server's crash
abbrev pub is_crash : Args → Bool
is_crash (args_are.Root request first) = false
is_crash (args_are.Transit region goal to) = false
is_crash (args_are.Crash server) = true
is_crash (args_are.AddRegions table first bounds) = false
is_crash (args_are.DropRegions table ids) = false
is_crash (args_are.AssignCall region server) = false
is_crash (args_are.CloseCall region server) = false
is_crash (args_are.FenceCall server) = false
is_crash (args_are.LayoutCall root) = false
is_crash (args_are.SweepLayout root) = false

-- the same, if it is there
abbrev pub is_crash_if : Option Node → Bool
is_crash_if None = false
is_crash_if (Some node) = is_crash node.args

-- it belongs to a server's crash
abbrev pub is_of_crash : Past → ℕ → Bool
is_of_crash J p = is_crash_if (node_of J (root_of J p))

-- the journal has one entry more than it followed
abbrev pub IsBehind : Past → Entry → Desk → Type 0
IsBehind after entry desk = (before : Past) × (after ≡ entry ∷ before) × Follows before desk

-- the journal has one entry more than it followed, and those that this makes are enlisted
pub record IsEnlistedFor (after : Past) (entry : Entry) (desk : Desk) : Type 0 where
  pub before : Past
  pub is : after ≡ entry ∷ before
  pub rows : List Row
  pub tied : IsTied before (number_on desk) (roster_with desk rows)
  pub enlists : (let book = desk.book in Enlists before after rows book.rows)
  pub room : made after < (let sched = desk.sched in sched.pids)
  pub below : HasLists desk

-- the journal has a step of a claimed procedure more than it followed, whose children are enlisted, from this number on
pub record IsStepOf (after : Past) (pid : Pid) (low : ℕ) (late : Bool) (desk : Desk) : Type 0 where
  pub pick : Option Server
  pub out : StepOut
  pub behind : IsEnlistedFor after (entry_is.Step pid pick out) desk
  pub first : low ≡ made behind.before + 1
  pub changes : late ≡ alters out
  pub mine : (let claimed = desk.claimed in IsIn pid.0 claimed.items)
