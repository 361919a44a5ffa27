-- The ranges of a table's live regions, as callers see them.
use Rattle.std.specs.Prelude.{◌≡◌, ◌⊎◌, ◌↔◌, ℕ, List, [], ◌∷◌, Option, Some, None, Bool, true, false, not, if◌then◌else◌}
use Rattle.std.specs.List.{AllByRecursion}
use Rattle.std.specs.Ordering.{is_lt}
use Rattle.hm_names.specs.Order.{bytes_cmp}
use Rattle.hm_names.specs.Ranges.{ends_behind, holds, overlaps}
use Rattle.hm_names.specs.declared.range.KeyRange.{KeyRange}
use Rattle.hm_model.specs.Locks.{IsIn}

-- the ranges in the order of their starts, for how many more there is room, and how much memory there is
pub record RangesView : Type 0 where
  pub ranges : List KeyRange
  pub spare : ℕ
  pub room : ℕ

-- each range has its start, and ends no later than those after it start
abbrev pub StandApart : List KeyRange → Type 0
StandApart [] = Unit {0}
StandApart (range ∷ more) = (holds range range.start ≡ true) × AllByRecursion (λ other. ends_behind range other.start ≡ false) more × StandApart more

-- a range has its start, and overlaps none of some
abbrev pub FitsAmong : List KeyRange → KeyRange → Type 0
FitsAmong ranges range =
    (holds range range.start ≡ true)
    × ((own : KeyRange) → IsIn own ranges → (overlaps range own ≡ false) × (overlaps own range ≡ false))

-- the ranges with this one at its place, before those that don't start before it
abbrev pub placed : List KeyRange → KeyRange → List KeyRange
placed [] range = range ∷ []
placed (first ∷ more) range = if is_lt (bytes_cmp first.start range.start) then first ∷ placed more range else (range ∷ first ∷ more)

-- the same ranges and this one
abbrev pub TakesIn : KeyRange → List KeyRange → List KeyRange → Type 0
TakesIn range before after = (own : KeyRange) → IsIn own after ↔ ((own ≡ range) ⊎ IsIn own before)

-- a range, if there is one, doesn't overlap another
abbrev pub is_apart_if : Option KeyRange → KeyRange → Bool
is_apart_if None range = true
is_apart_if (Some own) range = not (overlaps own range)
