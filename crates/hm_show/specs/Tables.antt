-- Tables: what each begins with, and its lines.
use Rattle.std.specs.Prelude.{ℕ, List, [], ◌∷◌, ◌++◌, length, codes}
use Rattle.std.specs.Fmt.{decimal}
use Rattle.std.specs.List.{flat_map}
use Rattle.hm_model.specs.Image.{counted}
use Rattle.hm_model.specs.Journal.{Past}

-- a line: its words
abbrev pub Line : Type 0
Line = List (List ℕ)

-- words with one space between two
abbrev pub spaced : Line → List ℕ
spaced [] = []
spaced (word ∷ []) = word
spaced (word ∷ next ∷ more) = word ++ codes " " ++ spaced (next ∷ more)

-- a line of a table
abbrev pub line_text : Line → List ℕ
line_text words = spaced words ++ codes "\n"

-- what a table of this name begins with: how many entries were recorded, and how many lines follow
abbrev pub head_text : List ℕ → ℕ → ℕ → List ℕ
head_text name entries lines = name ++ codes " at " ++ decimal entries ++ codes ": " ++ decimal lines ++ codes "\n"

-- a table of this name over a journal, with these lines
abbrev pub table_of : List ℕ → Past → List Line → List ℕ
table_of name past lines = head_text name (counted past) (length lines) ++ flat_map line_text lines
