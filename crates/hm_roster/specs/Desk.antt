-- Room on a desk, and what of it stays where other parts change.
use Rattle.std.specs.Prelude.{◌≡◌, ℕ, ◌+◌, ◌<◌, ◌≤◌, ◌^◌, List, Option, Some, None, false, vec_len, vec_capacity}
use Rattle.hm_names.specs.Order.{server_cmp}
use Rattle.hm_names.specs.Server.{Server}
use Rattle.hm_names.specs.declared.pid.Pid.{Pid}
use Rattle.hm_data.specs.declared.args.Args.{Args}
use Rattle.hm_data.specs.declared.entry.Entry.{Entry}
use Rattle.hm_data.specs.declared.entry.Entry.TheVariants as entry_is
use Rattle.hm_index.specs.Index.{find}
use Rattle.hm_locks.specs.Book.{IsEnlisted, Row, row_of}
use Rattle.hm_model.specs.Journal.{Past}
use Rattle.hm_model.specs.Laws.{is_part}
use Rattle.hm_model.specs.Rules.{Allowed}
use Rattle.hm_model.specs.Tree.{made}
use Rattle.hm_procedures.specs.Kept.{args_made}
use Rattle.hm_sched.specs.Queues.{members}
use Rattle.hm_sched.specs.declared.queue.Queue.{Queue}
use Rattle.hm_tied.specs.Tied.{IsTied}
use Rattle.hm_roster.specs.Roster.{HasLists, lists_on, number_on, pids_on, roster_with, rows_on, servers_on}
use Rattle.hm_roster.specs.declared.desk.Desk.{Desk}

-- there is room for one claim more
abbrev pub HasClaimRoom : Desk → Type 0
HasClaimRoom desk = let claimed = desk.claimed in vec_len claimed < vec_capacity claimed

-- how much memory a desk has
abbrev pub room_on : Desk → ℕ
room_on desk =
    let claimed = desk.claimed in (let sched = desk.sched in (let book = desk.book in (let numbers = desk.numbers in vec_capacity claimed + sched.room + book.room + numbers.room)))

-- the same claims, and the same are enlisted and stand where they stood, with as much room or more
pub record IsRoomier (old new : Desk) : Type 0 where
  pub claimed : new.claimed ≡ old.claimed
  pub book : new.book ≡ old.book
  pub lists : (k : Queue) → members (lists_on new) k ≡ members (lists_on old) k
  pub pids : pids_on old ≤ pids_on new
  pub servers : servers_on old ≤ servers_on new

-- the same claims, numbers, lists and room
pub record IsSameButBook (old new : Desk) : Type 0 where
  pub claimed : new.claimed ≡ old.claimed
  pub numbers : new.numbers ≡ old.numbers
  pub sched : new.sched ≡ old.sched

-- the number that a server was given, if it was
abbrev pub given_number : Desk → Server → Option ℕ
given_number desk server = let numbers = desk.numbers in find server_cmp numbers.pairs server

-- a server was given the number of a list that is there
abbrev pub IsNumbered : Desk → Server → Type 0
IsNumbered desk server = (number : ℕ) × (given_number desk server ≡ Some number) × (number < servers_on desk)

-- who was given a number keeps it
abbrev pub NumbersStay : Desk → Desk → Type 0
NumbersStay old new = (server : Server) (number : ℕ) → given_number old server ≡ Some number → given_number new server ≡ Some number

-- the parent of those that an entry makes
abbrev pub parent_made : Entry → Option Pid
parent_made (entry_is.Step pid pick out) = Some pid
parent_made entry = None

-- an entry may follow, no part of a base, that makes procedures which work on these, with this parent
pub record Makes (before : Past) (entry : Entry) (works : List Args) (parent : Option Pid) : Type 0 where
  pub allowed : Allowed before entry
  pub no_part : is_part entry ≡ false
  pub args : args_made before entry ≡ works
  pub above : parent_made entry ≡ parent

-- some entry may
abbrev pub MayMake : Past → List Args → Option Pid → Type 0
MayMake before works parent = (entry : Entry) × Makes before entry works parent

-- after what a journal says so many more are enlisted
pub record HasMore (J : Past) (desk : Desk) (count : ℕ) : Type 0 where
  pub was : List Row
  pub tied : IsTied J (number_on desk) (roster_with desk was)
  pub kept : (p : ℕ) → p ≤ made J → row_of (rows_on desk) p ≡ row_of was p
  pub more : (p : ℕ) → made J < p → p ≤ made J + count → IsEnlisted (rows_on desk) p
  pub rest : (p : ℕ) → made J + count < p → row_of (rows_on desk) p ≡ None
  pub room : made J + count < pids_on desk
  pub few : made J + count < 2 ^ 64
  pub below : HasLists desk
