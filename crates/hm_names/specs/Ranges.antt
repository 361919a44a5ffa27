-- Ranges of row keys.
use Rattle.std.specs.Prelude.{ℕ, Bool, not, ◌||◌, ◌&&◌, ◌==◌, List, length}
use Rattle.std.specs.Ordering.{is_le, is_lt, nat_cmp}
use Rattle.std.specs.Cmp.Lexicographic.{slice_cmp}
use Rattle.std.specs.Str.{bytes_eq}
use Rattle.hm_names.specs.declared.range.KeyRange.{KeyRange}

-- the end of a range lies after a key: it is above it, or it is empty, which is the open end
abbrev pub ends_behind : KeyRange → List ℕ → Bool
ends_behind r key = (length r.end == 0) || is_lt (slice_cmp nat_cmp key r.end)

-- the range has the key: from its start, included, to its end, excluded
abbrev pub holds : KeyRange → List ℕ → Bool
holds r key = is_le (slice_cmp nat_cmp r.start key) && ends_behind r key

-- the range has the key, and it isn't the first
abbrev pub inner : KeyRange → List ℕ → Bool
inner r key = holds r key && not (bytes_eq r.start key)

-- each range's end lies after the other's start
abbrev pub overlaps : KeyRange → KeyRange → Bool
overlaps a b = ends_behind a b.start && ends_behind b a.start

-- the part of a range below a key
abbrev pub lower_part : KeyRange → List ℕ → KeyRange
lower_part r key = record { start = r.start; end = key }

-- the part of a range from a key on
abbrev pub upper_part : KeyRange → List ℕ → KeyRange
upper_part r key = record { start = key; end = r.end }

-- from the start of one range to the end of another
abbrev pub joined : KeyRange → KeyRange → KeyRange
joined a b = record { start = a.start; end = b.end }
