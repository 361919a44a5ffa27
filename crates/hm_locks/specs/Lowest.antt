-- The lowest of those that hold what clashes with some asks.
use Rattle.std.specs.Prelude.{ℕ, suc, zero, ◌+◌, List, [], ◌∷◌, Option, Some, None, Bool, true, false, not, ◌==◌, ◌&&◌, nat_lt, if◌then◌else◌, slice_get}
use Rattle.std.specs.List.{list_any}
use Rattle.std.specs.Option.{option_and_then}
use Rattle.hm_lists.specs.Chains.{list_at}
use Rattle.hm_locks.specs.declared.entry.Entry.{Entry}
use Rattle.hm_locks.specs.declared.entry.Want.{Want}
use Rattle.hm_locks.specs.Kept.{entry_at, lane}

-- the number is in the list
abbrev pub has : List ℕ → ℕ → Bool
has numbers one = list_any (λ number. number == one) numbers

-- neither entry's procedure is the other or an ancestor of it
abbrev pub is_apart : Entry → Entry → Bool
is_apart own other = not (own.pid == other.pid) && (not (has own.above other.pid) && not (has other.above own.pid))

-- the pid of an entry that isn't related
abbrev pub apart_pid : Entry → Entry → Option ℕ
apart_pid own other = if is_apart own other then Some other.pid else None

-- the procedure of a node, unless it is related to this one
abbrev pub holder_at : Entry → List (Option Entry) → List Want → ℕ → Option ℕ
holder_at own entries wants n =
    option_and_then (λ (want : Want). option_and_then (apart_pid own) (entry_at entries want.place)) (slice_get wants n)

-- the lower of two that may be there
abbrev pub lower : Option ℕ → Option ℕ → Option ℕ
lower None other = other
lower (Some a) None = Some a
lower (Some a) (Some b) = Some (if nat_lt b a then b else a)

-- the lowest of those that nodes give
abbrev pub lowest_in : (ℕ → Option ℕ) → List ℕ → Option ℕ
lowest_in gives [] = None
lowest_in gives (n ∷ more) = lower (gives n) (lowest_in gives more)

-- the lowest of those that hold what clashes with one want
abbrev pub lowest_by : Bool → (ℕ → Option ℕ) → List (List ℕ) → ℕ → Option ℕ
lowest_by false gives lists desk = lowest_in gives (list_at lists (lane desk true))
lowest_by true gives lists desk =
    lower (lowest_in gives (list_at lists (lane desk true))) (lowest_in gives (list_at lists (lane desk false)))

-- the same of a want that may be there
abbrev pub lowest_for : (ℕ → Option ℕ) → List (List ℕ) → Option Want → Option ℕ
lowest_for gives lists None = None
lowest_for gives lists (Some want) = lowest_by want.exclusive gives lists want.desk

-- the lowest of those that hold what clashes with one of so many wants from one on
abbrev pub lowest_of : (ℕ → Option ℕ) → List (List ℕ) → List Want → ℕ → ℕ → Option ℕ
lowest_of gives lists wants first zero = None
lowest_of gives lists wants first (suc count) =
    lower (lowest_of gives lists wants first count) (lowest_for gives lists (slice_get wants (first + count)))
