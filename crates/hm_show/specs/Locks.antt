-- The table `locks`.
use Rattle.std.specs.Prelude.{ℕ, List, [], ◌∷◌, ◌++◌, Bool, not, ◌&&◌, codes, filter, is_some, map}
use Rattle.std.specs.Fmt.{decimal}
use Rattle.std.specs.List.{filter_map, flat_map}
use Rattle.std.specs.declared.cmp.Ordering.{Ordering}
use Rattle.std.specs.declared.cmp.Ordering.TheVariants.{Less, Equal, Greater}
use Rattle.hm_data.specs.declared.record.Record.{Record}
use Rattle.hm_locks.specs.Keys.{key_of, lock_cmp}
use Rattle.hm_model.specs.Answers.{last_answer}
use Rattle.hm_model.specs.Journal.{Past}
use Rattle.hm_model.specs.Locks.{asks}
use Rattle.hm_model.specs.Phase.{ended}
use Rattle.hm_model.specs.Records.{record_of}
use Rattle.hm_model.specs.declared.lock.Ask.{Ask}
use Rattle.hm_model.specs.declared.lock.Resource.{Resource}
use Rattle.hm_show.specs.Procs.{pids}
use Rattle.hm_show.specs.Tables.{Line, table_of}
use Rattle.hm_show.specs.Words.{mode_text, resource_words}
use Rattle.hm_show.specs.declared.lock_lines.Lock.{Lock}

-- a procedure has a step and hasn't ended: it holds what it asks for
abbrev pub holds : Past → ℕ → Bool
holds past p = is_some (last_answer past p) && not (ended past p)

-- an ask of a procedure
abbrev pub lock_of : ℕ → Ask → Lock
lock_of pid ask = record { ask = ask; pid = pid }

-- what a procedure asks for
abbrev pub locks_of : Record → List Lock
locks_of one = map (lock_of one.pid.0) (asks one.args)

-- namespaces, tables, regions, servers, each in name order
abbrev pub resource_cmp : Resource → Resource → Ordering
resource_cmp a b = lock_cmp (key_of a) (key_of b)

-- a lock beside the first of some by resource, by how their resources compare
abbrev pub with_lock_at : Ordering → Lock → Lock → List Lock → List Lock → List Lock
with_lock_at Less lock first more rest = lock ∷ first ∷ more
with_lock_at Equal lock first more rest = lock ∷ first ∷ more
with_lock_at Greater lock first more rest = first ∷ rest

-- locks by resource, with one more in front of those of its resource
abbrev pub with_lock : Lock → List Lock → List Lock
with_lock lock [] = lock ∷ []
with_lock lock (first ∷ more) = with_lock_at (resource_cmp lock.ask.resource first.ask.resource) lock first more (with_lock lock more)

-- locks by resource, those of one resource in the order in which they stand
abbrev pub by_resource : List Lock → List Lock
by_resource [] = []
by_resource (lock ∷ more) = with_lock lock (by_resource more)

-- the line of a lock
abbrev pub lock_line : Lock → Line
lock_line lock = resource_words lock.ask.resource ++ mode_text lock.ask.exclusive ∷ decimal lock.pid ∷ []

-- what these procedures ask for, in the order of their numbers
abbrev pub asked_by : Past → List ℕ → List Lock
asked_by past numbers = flat_map locks_of (filter_map (record_of past) numbers)

-- what those of them hold that hold what they ask for
abbrev pub held_by : Past → List ℕ → List Lock
held_by past numbers = asked_by past (filter (holds past) numbers)

-- one line for each ask that is held, by resource and then by the number of who holds it
abbrev pub locks_table : Past → List ℕ
locks_table past = table_of (codes "locks") past (map lock_line (by_resource (held_by past (pids past))))
