-- The lists of a scheduler, and who stands where.
use Rattle.std.specs.Prelude.{◌≡◌, ℕ, ◌+◌, ◌<◌, ◌≤◌, ◌^◌, List, length, Option, Some, None, Bool, true, false, ◌==◌, ◌⊎◌, if◌then◌else◌, slice_index_or}
use Rattle.hm_lists.specs.Chains.{IsIn, list_at}
use Rattle.hm_lists.specs.Map.{AreApart, Map}
use Rattle.hm_sched.specs.declared.queue.Queue.{Queue}
use Rattle.hm_sched.specs.declared.queue.Queue.TheVariants.{Servers, Tables, Held, Waits, Suspended}

-- what contracts see: the lists; what `ready` said last of each pid, where it did; the pids and the numbers of servers below
-- which there is room; and how much memory there is
pub record Stations : Type 0 where
  pub lists : List (List ℕ)
  pub said : List (Option Bool)
  pub pids : ℕ
  pub servers : ℕ
  pub room : ℕ

-- the number of a list
abbrev pub number : Queue → ℕ
number Servers = 0
number Tables = 1
number Held = 2
number (Waits p) = p + p + 3
number (Suspended s) = s + s + 4

-- the two are one list
abbrev pub is_same : Queue → Queue → Bool
is_same one other = number one == number other

-- a ready list
abbrev pub is_ready : Queue → Bool
is_ready Servers = true
is_ready Tables = true
is_ready Held = false
is_ready (Waits p) = false
is_ready (Suspended s) = false

-- the list of a server's calls
abbrev pub is_suspended : Queue → Bool
is_suspended Servers = false
is_suspended Tables = false
is_suspended Held = false
is_suspended (Waits p) = false
is_suspended (Suspended s) = true

-- those that stand in a list, in order
abbrev pub members : List (List ℕ) → Queue → List ℕ
members lists queue = list_at lists (number queue)

abbrev pub StandsIn : List (List ℕ) → Queue → ℕ → Type 0
StandsIn lists queue p = IsIn p (members lists queue)

-- it stands in some list
abbrev pub Stands : List (List ℕ) → ℕ → Type 0
Stands lists p = (queue : Queue) × StandsIn lists queue p

-- it stands in none
abbrev pub StandsNowhere : List (List ℕ) → ℕ → Type 0
StandsNowhere lists p = (queue : Queue) → StandsIn lists queue p → ⊥

-- it is ready
abbrev pub IsReady : List (List ℕ) → ℕ → Type 0
IsReady lists p = StandsIn lists Servers p ⊎ StandsIn lists Tables p

-- how many are ready
abbrev pub ready_count : List (List ℕ) → ℕ
ready_count lists = length (members lists Servers) + length (members lists Tables)

-- there is room for those that stand in this list
abbrev pub HasRoom : Stations → Queue → Type 0
HasRoom s Servers = Unit {0}
HasRoom s Tables = Unit {0}
HasRoom s Held = Unit {0}
HasRoom s (Waits p) = p < s.pids
HasRoom s (Suspended n) = n < s.servers

-- the ready list of a servers' crash's procedures, or of others
abbrev pub ready_list : Bool → Queue
ready_list true = Servers
ready_list false = Tables

-- the ready list of a pid of which this was said last
abbrev pub home_of : Option Bool → Queue
home_of None = Tables
home_of (Some servers) = ready_list servers

-- what was said last of a pid
abbrev pub said_of : List (Option Bool) → ℕ → Option Bool
said_of said p = slice_index_or said p None

-- the ready list of a pid
abbrev pub home : List (Option Bool) → ℕ → Queue
home said p = home_of (said_of said p)

-- one list has these members now, and the others have theirs still
abbrev pub IsWith : List (List ℕ) → Queue → List ℕ → List (List ℕ) → Type 0
IsWith old queue items new = (other : Queue) → members new other ≡ (if is_same queue other then items else members old other)

-- the lists are there for all pids and servers, and nobody stands in two
pub record IsKept (map : Map) (pids servers : ℕ) : Type 0 where
  pub waits : pids + pids + 3 ≤ length map.lists
  pub suspended : servers + servers + 3 ≤ length map.lists
  pub small : length map.lists < 2 ^ 32
  pub nodes : pids ≤ map.spare
  pub known : (l p : ℕ) → IsIn p (list_at map.lists l) → p < pids
  pub apart : AreApart map.lists

-- all but the lists is as before
pub record IsSameRoom (old new : Stations) : Type 0 where
  pub said : new.said ≡ old.said
  pub pids : new.pids ≡ old.pids
  pub servers : new.servers ≡ old.servers
  pub room : new.room ≡ old.room
