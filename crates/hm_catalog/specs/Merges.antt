-- The regions of a merge, by their start keys, as the code has them.
use Rattle.std.specs.Prelude.{List, [], ◌∷◌, Option, Some, None, Bool, true}
use Rattle.hm_model.specs.Checks.{is_chain}
use Rattle.hm_model.specs.declared.merged.Merged.{Merged}
use Rattle.hm_catalog.specs.declared.merges.Piece.{Piece}

-- a region that is merged
abbrev pub part_of : Piece → Merged
part_of piece = record { id = piece.id; range = piece.range.now }

-- the regions up to the first place that has none
abbrev pub pieces_of : List (Option Piece) → List Merged
pieces_of [] = []
pieces_of (None ∷ more) = []
pieces_of (Some piece ∷ more) = part_of piece ∷ pieces_of more

-- each end isn't the open one and is the next one's start
abbrev pub are_chained : List Merged → Bool
are_chained [] = true
are_chained (part ∷ more) = is_chain part.range more
