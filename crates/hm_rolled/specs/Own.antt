-- The master's own journal beside the history that it stands for.
use Rattle.std.specs.Prelude.{◌≡◌, ℕ, ◌+◌, ◌≤◌, ◌++◌, length, drop, Some, ◌↔◌}
use Rattle.hm_model.specs.Base.{IsBegun}
use Rattle.hm_model.specs.Image.{image}
use Rattle.hm_model.specs.Journal.{Past}
use Rattle.hm_model.specs.Rebase.{MayRoll, based}
use Rattle.hm_model.specs.Rules.{IsLegal}
use Rattle.hm_rebase.specs.Alike.{Alike}
use Rattle.hm_world_model.specs.Events.{Ends, Event, Roll, Stop, Works, happens}
use Rattle.hm_world_model.specs.Runs.{May}
use Rattle.hm_world_model.specs.Safe.{IsKept}
use Rattle.hm_world_model.specs.Twice.{Twice}
use Rattle.hm_world_model.specs.World.{World, first, own, rebased_by, whole}

-- where it was rolled it is legal, has begun, and reads as the history, for each length that a stop may leave
abbrev pub OwnIsAlike : Type 0
OwnIsAlike =
    (w : World) → IsKept w → (k : ℕ) → w.durable ≤ k → k ≤ length (whole w) → (r : ℕ) → w.rolled ≡ Some r
    → IsLegal (rebased_by w.rolled (first k (whole w))) × IsBegun (rebased_by w.rolled (first k (whole w)))
    × Alike (first k (whole w)) (rebased_by w.rolled (first k (whole w)))

-- what a stop may leave of the history, rebased as the master's own journal was, is a front of that journal with its tail
abbrev pub FrontsAreOwn : Type 0
FrontsAreOwn =
    (w : World) → IsKept w → (n : ℕ) → n + w.durable ≤ length (whole w)
    → rebased_by w.rolled (drop n (whole w)) ≡ drop n (rebased_by w.rolled (whole w))

-- an event neither rolls the journal nor stops the master
abbrev pub LeavesRolled : Event → Type 0
LeavesRolled (Works Roll) = ⊥
LeavesRolled (Ends (Stop k rolled)) = ⊥
LeavesRolled event = Unit {0}

-- such an event records some entries, or none
abbrev pub EventsRecord : Type 0
EventsRecord =
    (w : World) (event : Event) → LeavesRolled event → (newer : Past) × ((happens w event).past ≡ newer ++ w.past)

-- and what it records is recorded in the master's own journal
abbrev pub OwnGoesOn : Type 0
OwnGoesOn =
    (w : World) (event : Event) → IsKept w → May w event → LeavesRolled event
    → (newer : Past) → (happens w event).past ≡ newer ++ w.past → own (happens w event) ≡ newer ++ own w

-- a roll leaves the image of the history
abbrev pub RollsToImage : Type 0
RollsToImage = (w : World) → May w (Works Roll) → own (happens w (Works Roll)) ≡ based (image w.past)

-- which is the image of the master's own journal too, and that may be replaced by it just where the history may
abbrev pub RollsOwn : Type 0
RollsOwn = (w : World) → IsKept w → (MayRoll w.past ↔ MayRoll (own w)) × (based (image w.past) ≡ based (image (own w)))

-- nothing is held twice, by the ranges of its rows too
abbrev pub NeverTwiceOwn : Type 0
NeverTwiceOwn = (w : World) → IsKept w → Twice (own w) w.outside → ⊥
