-- Which findings may come where the servers fit the journal.
use Rattle.hm_model.specs.Base.{HasNoHalfBase}
use Rattle.hm_model.specs.Findings.{DeadPlace, Finding, Hole, IsSo, NoActor, NoRow, NotHeld, Overlap, Stray, Twice}
use Rattle.hm_world_model.specs.Safe.{IsKept}
use Rattle.hm_world_model.specs.World.{World}

-- those that may come: a hole while procedures are unfinished, and regions of servers that died or that a base alone has
abbrev pub MayCome : Finding → Type 0
MayCome (Hole table key) = Unit {0}
MayCome (Overlap a b) = ⊥
MayCome (NotHeld region server) = ⊥
MayCome (NoActor region server) = Unit {0}
MayCome (Stray region server) = ⊥
MayCome (Twice a at b other) = ⊥
MayCome (NoRow region server) = ⊥
MayCome (DeadPlace region server) = Unit {0}

-- no other finding is so of a world
abbrev pub FewCome : Type 0
FewCome =
    (w : World) → IsKept w → HasNoHalfBase w.past → (finding : Finding) → IsSo w.past w.outside.actors finding → MayCome finding
