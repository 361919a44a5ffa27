-- What a disk in memory has been through, the newest first, and what a stop may have left at each moment.
use Rattle.std.specs.Prelude.{◌≡◌, ◌⊎◌, ℕ, ◌≤◌, List, [], ◌∷◌, length}
use Rattle.std.proofs.Common.{inl, inr}
use Rattle.hm_disk.specs.Disk.{Torn, CutOrWhole}

-- a write of these bytes at this place, a cut to a size, or a sync of this content
abbrev pub Event : Type 0
Event = ((ℕ × List ℕ) ⊎ ℕ) ⊎ List ℕ

-- what a stop may leave after these events
abbrev pub Reaches : List Event → List ℕ → Type 0
Reaches [] c = ⊥
Reaches (inl (inl write) ∷ earlier) c = (d : List ℕ) × Reaches earlier d × Torn write.0 (length write.1) d c
Reaches (inl (inr size) ∷ earlier) c = (d : List ℕ) × Reaches earlier d × CutOrWhole size d c
Reaches (inr content ∷ earlier) c = c ≡ content

-- what a stop may have left at some moment from the t-th on; a moment is a number of events, the first of them the setting up
abbrev pub ReachesSince : List Event → ℕ → List ℕ → Type 0
ReachesSince [] t c = ⊥
ReachesSince (e ∷ earlier) t c = Reaches (e ∷ earlier) c ⊎ ((t ≤ length earlier) × ReachesSince earlier t c)
