-- How a lock book is kept: a place for each procedure that was enlisted, a node for each of its asks, and for each
-- resource a list of the nodes that hold it shared and one of those that hold it exclusively.
use Rattle.std.specs.Prelude.{◌≡◌, ◌↔◌, ℕ, ◌+◌, ◌<◌, ◌≤◌, ◌^◌, List, [], ◌∷◌, ◌++◌, length, Option, Some, None, Bool, true, false, slice_get}
use Rattle.std.specs.Option.{option_map, option_and_then, option_flatten}
use Rattle.std.specs.Ordering.{nat_cmp}
use Rattle.hm_index.specs.Index.{find}
use Rattle.hm_lists.specs.Chains.{IsIn, list_at}
use Rattle.hm_model.specs.declared.lock.Ask.{Ask}
use Rattle.hm_model.specs.declared.lock.Resource.{Resource}
use Rattle.hm_locks.specs.declared.draft.Claim.{Claim}
use Rattle.hm_locks.specs.declared.entry.Entry.{Entry}
use Rattle.hm_locks.specs.declared.entry.Standing.{Standing}
use Rattle.hm_locks.specs.declared.entry.Want.{Want}
use Rattle.hm_locks.specs.declared.key.Key.{Key}
use Rattle.hm_locks.specs.Book.{Row}
use Rattle.hm_locks.specs.Keys.{key_of, lock_cmp}

-- an ask, by the key of its resource
abbrev pub claim_of : Ask → Claim
claim_of ask = record { key = key_of ask.resource; exclusive = ask.exclusive }

-- the numbers of resources, how many there are, below which they may be given, for how many more there is room, and how
-- much memory there is
pub record DesksView : Type 0 where
  pub numbers : List (Key × ℕ)
  pub count : ℕ
  pub limit : ℕ
  pub spare : ℕ
  pub room : ℕ

-- the number of a resource
abbrev pub desk_of : List (Key × ℕ) → Resource → Option ℕ
desk_of numbers resource = find lock_cmp numbers (key_of resource)

-- the numbers are below a count, that within a limit, and no two keys have one number
pub record AreDesks (numbers : List (Key × ℕ)) (count limit : ℕ) : Type 0 where
  pub most : count ≤ limit
  pub few : limit + limit < 2 ^ 32
  pub within : (key : Key) (d : ℕ) → find lock_cmp numbers key ≡ Some d → d < count
  pub apart : (a b : Key) (d : ℕ) → find lock_cmp numbers a ≡ Some d → find lock_cmp numbers b ≡ Some d → a ≡ b

-- the list of those that hold the resource of a number so
abbrev pub lane : ℕ → Bool → ℕ
lane desk true = desk + desk + 1
lane desk false = desk + desk

-- the entry at a place
abbrev pub entry_at : List (Option Entry) → ℕ → Option Entry
entry_at entries i = option_flatten (slice_get entries i)

-- the row that an entry makes
abbrev pub row_for : Entry → Row
row_for entry = record { pid = entry.pid; above = entry.above; asks = entry.asked; holds = entry.holds }

-- rows with that of an entry in front
abbrev pub row_before : Option Entry → List Row → List Row
row_before None rows = rows
row_before (Some entry) rows = row_for entry ∷ rows

-- the rows that the entries make
abbrev pub rows_in : List (Option Entry) → List Row
rows_in [] = []
rows_in (entry ∷ more) = row_before entry (rows_in more)

-- the entry of a procedure
abbrev pub entry_of : List (ℕ × ℕ) → List (Option Entry) → ℕ → Option Entry
entry_of places entries p = option_and_then (entry_at entries) (find nat_cmp places p)

-- the entry at a place holds the node
abbrev pub HoldsNode : Option Entry → ℕ → Type 0
HoldsNode None n = ⊥
HoldsNode (Some entry) n = (entry.holds ≡ true) × (entry.first ≤ n) × (n < entry.first + length entry.asked)

-- the want belongs into the list, and its entry holds its node
abbrev pub SitsBy : List (Option Entry) → ℕ → ℕ → Option Want → Type 0
SitsBy entries l n None = ⊥
SitsBy entries l n (Some want) = (lane want.desk want.exclusive ≡ l) × HoldsNode (entry_at entries want.place) n

-- the node belongs into the list and is held
abbrev pub Sits : List (Option Entry) → List Want → ℕ → ℕ → Type 0
Sits entries wants l n = SitsBy entries l n (slice_get wants n)

-- the want is of an entry at a place, and of a claim
abbrev pub IsClaimed : List (Key × ℕ) → ℕ → Claim → Option Want → Type 0
IsClaimed numbers i claim None = ⊥
IsClaimed numbers i claim (Some want) =
    (want.place ≡ i) × (want.exclusive ≡ claim.exclusive) × (find lock_cmp numbers claim.key ≡ Some want.desk)

-- the want is of an entry at a place, and of an ask
abbrev pub IsWanted : List (Key × ℕ) → ℕ → Ask → Option Want → Type 0
IsWanted numbers i ask want = IsClaimed numbers i (claim_of ask) want

-- after the wants stand those of an entry's claims
pub record AreAdded (numbers : List (Key × ℕ)) (place : ℕ) (claims : List Claim) (old new : List Want) : Type 0 where
  pub more : List Want
  pub items : new ≡ old ++ more
  pub count : length more ≡ length claims
  pub wants : (k : ℕ) (claim : Claim) → slice_get claims k ≡ Some claim → IsClaimed numbers place claim (slice_get more k)

-- both lists of what is wanted are there
abbrev pub HasLanes : List (List ℕ) → Want → Type 0
HasLanes lists want = (want.desk + want.desk + 1 < length lists) × (want.desk + want.desk + 1 < 2 ^ 32)

-- the entries are found by their pids
pub record IsFound (places : List (ℕ × ℕ)) (entries : List (Option Entry)) : Type 0 where
  pub placed : (p i : ℕ) → find nat_cmp places p ≡ Some i → i < length entries
  pub mine : (p i : ℕ) (e : Entry) → find nat_cmp places p ≡ Some i → entry_at entries i ≡ Some e → e.pid ≡ p
  pub found : (i : ℕ) (e : Entry) → entry_at entries i ≡ Some e → find nat_cmp places e.pid ≡ Some i

-- each entry has a node for each of its asks, one after another
abbrev pub HaveNodes : List (Option Entry) → List Want → List (Key × ℕ) → Type 0
HaveNodes entries wants numbers =
    (i : ℕ) (e : Entry) (k : ℕ) (a : Ask) → entry_at entries i ≡ Some e → slice_get e.asked k ≡ Some a
    → IsWanted numbers i a (slice_get wants (e.first + k))

-- the entries are found, each has its nodes, and the lists are those of the nodes that are held
pub record IsKept (places : List (ℕ × ℕ)) (entries : List (Option Entry)) (wants : List Want) (numbers : List (Key × ℕ)) (lists : List (List ℕ)) (spare : ℕ) : Type 0 where
  pub index : IsFound places entries
  pub asks : HaveNodes entries wants numbers
  pub ranges : (i : ℕ) (e : Entry) → entry_at entries i ≡ Some e → e.first + length e.asked ≤ length wants
  pub lanes : (n : ℕ) (w : Want) → slice_get wants n ≡ Some w → HasLanes lists w
  pub nodes : length wants ≤ spare
  pub small : length wants < 2 ^ 32
  pub listed : (l n : ℕ) → IsIn n (list_at lists l) → Sits entries wants l n
  pub sits : (l n : ℕ) → Sits entries wants l n → IsIn n (list_at lists l)

-- whether an entry is there and holds
abbrev pub holds_in : Option Entry → Bool
holds_in None = false
holds_in (Some entry) = entry.holds

-- one list is that of the places of the entries that hold, and there is a node for each place
pub record AreListed (entries : List (Option Entry)) (lists : List (List ℕ)) (spare : ℕ) : Type 0 where
  pub one : 0 < length lists
  pub nodes : length entries ≤ spare
  pub small : length entries < 2 ^ 32
  pub listed : (l i : ℕ) → IsIn i (list_at lists l) ↔ ((l ≡ 0) × (holds_in (entry_at entries i) ≡ true))

-- how the entry at a place stands
abbrev pub standing_at : ℕ → Entry → Standing
standing_at i entry = record { place = i; first = entry.first; count = length entry.asked; holds = entry.holds }

-- where a procedure's entry is, which are its nodes, and whether it holds them
abbrev pub standing_of : List (ℕ × ℕ) → List (Option Entry) → ℕ → Option Standing
standing_of places entries p =
    option_and_then (λ i. option_map (standing_at i) (entry_at entries i)) (find nat_cmp places p)

-- the want belongs into the list
abbrev pub WantsList : ℕ → Option Want → Type 0
WantsList l None = ⊥
WantsList l (Some want) = lane want.desk want.exclusive ≡ l

-- the node is one of so many from one on, and belongs into the list
abbrev pub IsAmong : List Want → ℕ → ℕ → ℕ → ℕ → Type 0
IsAmong wants first count l n = (first ≤ n) × (n < first + count) × WantsList l (slice_get wants n)
