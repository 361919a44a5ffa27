-- The findings of a journal and of the servers that run, as a list.
use Rattle.std.specs.Prelude.{◌↔◌, ℕ, List, [], ◌∷◌, map, Option, Some, None, if◌then◌else◌}
use Rattle.std.specs.List.{IsDistinct}
use Rattle.std.specs.List.Sorted.{IsStrictlySortedBy}
use Rattle.std.specs.Ordering.{nat_cmp, ordering_then}
use Rattle.std.specs.declared.cmp.Ordering.{Ordering}
use Rattle.hm_names.specs.Order.{bytes_cmp, region_cmp, server_cmp, table_cmp}
use Rattle.hm_names.specs.Server.{Server}
use Rattle.hm_model.specs.Actors.{Actor}
use Rattle.hm_model.specs.Findings.{Finding as Said, Hole as said_hole, Overlap as said_overlap, NotHeld as said_not_held, NoActor as said_no_actor, Stray as said_stray, Twice as said_twice, NoRow as said_no_row, DeadPlace as said_dead_place, IsSo}
use Rattle.hm_model.specs.Fleet.{same_server}
use Rattle.hm_model.specs.Journal.{Past}
use Rattle.hm_model.specs.Locks.{IsIn}
use Rattle.hm_server.specs.Actors.{ActorView, actor_of}
use Rattle.hm_hbck.specs.declared.finding.Finding.{Finding}
use Rattle.hm_hbck.specs.declared.finding.Finding.TheVariants.{Hole, Overlap, NotHeld, NoActor, Stray, Twice, NoRow, DeadPlace}

-- the first of some servers that has a name
abbrev pub running : List ActorView → Server → Option Actor
running [] server = None
running (actor ∷ more) server = if same_server actor.name server then Some (actor_of actor) else running more server

-- no two servers have one name
abbrev pub NamesDiffer : List ActorView → Type 0
NamesDiffer actors = IsDistinct same_server (map (λ actor. actor.name) actors)

-- what a finding says
abbrev pub said : Finding → Said
said (Hole table key) = said_hole table key
said (Overlap one other) = said_overlap one other
said (NotHeld region server) = said_not_held region server
said (NoActor region server) = said_no_actor region server
said (Stray region server) = said_stray region server
said (Twice one at other there) = said_twice one at other there
said (NoRow region server) = said_no_row region server
said (DeadPlace region server) = said_dead_place region server

-- the number of a finding's kind
abbrev pub kind_of : Finding → ℕ
kind_of (Hole table key) = 1
kind_of (Overlap one other) = 2
kind_of (NotHeld region server) = 3
kind_of (NoActor region server) = 4
kind_of (Stray region server) = 5
kind_of (Twice one at other there) = 6
kind_of (NoRow region server) = 7
kind_of (DeadPlace region server) = 8

-- by kind, and then by the names in the order in which they are told
abbrev pub finding_cmp : Finding → Finding → Ordering
finding_cmp (Hole table key) (Hole t k) = ordering_then (table_cmp table t) (bytes_cmp key k)
finding_cmp (Overlap one other) (Overlap a b) = ordering_then (region_cmp one a) (region_cmp other b)
finding_cmp (NotHeld region server) (NotHeld r s) = ordering_then (region_cmp region r) (server_cmp server s)
finding_cmp (NoActor region server) (NoActor r s) = ordering_then (region_cmp region r) (server_cmp server s)
finding_cmp (Stray region server) (Stray r s) = ordering_then (region_cmp region r) (server_cmp server s)
finding_cmp (Twice one at other there) (Twice a s b u) =
    ordering_then (region_cmp one a) (ordering_then (server_cmp at s) (ordering_then (region_cmp other b) (server_cmp there u)))
finding_cmp (NoRow region server) (NoRow r s) = ordering_then (region_cmp region r) (server_cmp server s)
finding_cmp (DeadPlace region server) (DeadPlace r s) = ordering_then (region_cmp region r) (server_cmp server s)
finding_cmp one other = nat_cmp (kind_of one) (kind_of other)

-- exactly the findings that are so, in order, each once
abbrev pub AreFindings : Past → (Server → Option Actor) → List Finding → Type 0
AreFindings J actors list = IsStrictlySortedBy finding_cmp list × ((finding : Finding) → IsIn finding list ↔ IsSo J actors (said finding))
