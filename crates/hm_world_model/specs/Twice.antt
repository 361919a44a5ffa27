-- Double service: what is never so.
use Rattle.std.specs.Prelude.{◌≡◌, ◌≢◌, List, Some, true, false, ◌⊎◌}
use Rattle.hm_names.specs.Region.{Region}
use Rattle.hm_names.specs.Server.{Server}
use Rattle.hm_model.specs.Actors.{Actor, holds}
use Rattle.hm_model.specs.Journal.{Past}
use Rattle.hm_model.specs.Rules.{IsLegal}
use Rattle.hm_model.specs.Single.{touches}
use Rattle.hm_world_model.specs.Events.{Event}
use Rattle.hm_world_model.specs.Outside.{Outside}
use Rattle.hm_world_model.specs.Runs.{IsRun, after}
use Rattle.hm_world_model.specs.Safe.{IsKept}
use Rattle.hm_world_model.specs.World.{World, opened}

-- a server that runs, and that the storage didn't fence, holds the region
abbrev pub Holds : Outside → Server → Region → Type 0
Holds o server region =
    (actor : Actor) × (o.actors server ≡ Some actor) × (holds actor region ≡ true) × (o.storage.fenced server ≡ false)

-- one region, or two of one table whose ranges overlap, are held by two such servers, or two such regions by one
abbrev pub Twice : Past → Outside → Type 0
Twice J o =
    (a b : Region) × (one other : Server) × (touches J a b ≡ true) × ((one ≢ other) ⊎ (a ≢ b)) × Holds o one a × Holds o other b

-- where it is kept, nothing is held twice
abbrev pub KeptIsNeverTwice : Type 0
KeptIsNeverTwice = (w : World) → IsKept w → Twice w.past w.outside → ⊥

-- after every list of events nothing is held twice
abbrev pub NeverTwice : Type 0
NeverTwice =
    (J : Past) → IsLegal J → (events : List Event) → IsRun (opened J) events
    → Twice (after (opened J) events).past (after (opened J) events).outside → ⊥

-- one region is held by two such servers, whatever its range is
abbrev pub IsHeldByTwo : Outside → Type 0
IsHeldByTwo o = (region : Region) × (one other : Server) × (one ≢ other) × Holds o one region × Holds o other region

-- where it is kept, none is
abbrev pub KeptIsHeldByOne : Type 0
KeptIsHeldByOne = (w : World) → IsKept w → IsHeldByTwo w.outside → ⊥

-- nor is one after any list of events
abbrev pub HeldByOne : Type 0
HeldByOne = (J : Past) → IsLegal J → (events : List Event) → IsRun (opened J) events → IsHeldByTwo (after (opened J) events).outside → ⊥
