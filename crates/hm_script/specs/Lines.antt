-- The lines of a script and the words of a line.
use Rattle.std.specs.Prelude.{◌≡◌, ◌≢◌, ◌⊎◌, ℕ, Bool, true, false, ◌==◌, ◌&&◌, not, nat_le, if◌then◌else◌, Option, Some, None, unwrap_or, List, [], ◌∷◌, ◌+◌, ◌++◌, length, filter, position, take, drop}
use Rattle.std.specs.List.{slice_split}

-- the byte before the first line
abbrev pub onto_first : ℕ → List (List ℕ) → List (List ℕ)
onto_first b [] = (b ∷ []) ∷ []
onto_first b (line ∷ lines) = (b ∷ line) ∷ lines

-- a newline comes next
abbrev pub ends_line : List ℕ → Bool
ends_line [] = false
ends_line (b ∷ bytes) = b == 10

-- the lines, each ended by a newline, which the last may lack; a carriage return before a newline is dropped
abbrev pub lines_of : List ℕ → List (List ℕ)
lines_of [] = []
lines_of (b ∷ bytes) = if b == 10 then [] ∷ lines_of bytes else (if (b == 13) && ends_line bytes then lines_of bytes else onto_first b (lines_of bytes))

-- a line, and the same with the carriage return that may stand before its newline
abbrev pub IsLineOf : List ℕ → List ℕ → Type 0
IsLineOf line ended = (ended ≡ line ++ 13 ∷ []) ⊎ ((ended ≡ line) × ((before : List ℕ) → ended ≢ before ++ 13 ∷ []))

-- an empty line, or one that begins with #
abbrev pub is_skipped : List ℕ → Bool
is_skipped [] = true
is_skipped (b ∷ line) = b == 35

-- a byte that may stand in a line: 0x20 to 0x7E
abbrev pub is_right : ℕ → Bool
is_right b = nat_le 32 b && nat_le b 126

-- what stands before a place, or the whole line
abbrev pub front : Option ℕ → List ℕ → List ℕ
front None line = line
front (Some at) line = take at line

-- how many spaces a line begins with, if it has anything else
abbrev pub indent_of : List ℕ → ℕ
indent_of line = unwrap_or (position (λ b. not (b == 32)) line) 0

-- the place of a line's second word, where its first word is `old` and there is a second
abbrev pub after_old : List ℕ → ℕ
after_old line = let end = indent_of line + 3 in end + indent_of (drop end line)

-- the words of a line, which spaces separate
abbrev pub words_of : List ℕ → List (List ℕ)
words_of line = filter (λ word. not (length word == 0)) (slice_split (λ b. b == 32) line)
