-- Texts cut in two at a separator.
use Rattle.std.specs.Prelude.{ℕ, ◌+◌, ◌-◌, ◌==◌, Option, Some, None, List, length, position, reverse, take, drop}

-- what stands before a place and what stands after it
abbrev pub cut_at : List ℕ → Option ℕ → Option (List ℕ × List ℕ)
cut_at text None = None
cut_at text (Some place) = Some (take place text, drop (place + 1) text)

-- the parts round the first c, if there is one
unfoldable pub cut_first : ℕ → List ℕ → Option (List ℕ × List ℕ)
cut_first c text = cut_at text (position (λ b. b == c) text)

-- a place counted from the end of so many bytes, from the front
abbrev pub from_end : ℕ → Option ℕ → Option ℕ
from_end len None = None
from_end len (Some place) = Some (len - 1 - place)

-- the parts round the last c, if there is one
unfoldable pub cut_last : ℕ → List ℕ → Option (List ℕ × List ℕ)
cut_last c text = cut_at text (from_end (length text) (position (λ b. b == c) (reverse text)))
