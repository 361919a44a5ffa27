-- Lines of a table, in part.
use Rattle.std.specs.Prelude.{◌≡◌, ◌+◌, List, ◌++◌, Option, Some, None, length, string_bytes}
use Rattle.std.specs.List.{flat_map}
use Rattle.hm_show.specs.Tables.{Line, line_text}
use Rattle.hm_show.specs.declared.lines.Lines.{Lines}

-- these lines, and how many they are
pub record AreLines (lines : List Line) (kept : Lines) : Type 0 where
  pub text : string_bytes kept.text ≡ flat_map line_text lines
  pub count : kept.count ≡ length lines

-- all lines but the rest
pub record AreLinesBut (rest all : List Line) (kept : Lines) : Type 0 where
  pub text : string_bytes kept.text ++ flat_map line_text rest ≡ flat_map line_text all
  pub count : kept.count + length rest ≡ length all

-- one line more
pub record IsMore (line : Line) (old new : Lines) : Type 0 where
  pub text : string_bytes new.text ≡ string_bytes old.text ++ line_text line
  pub count : new.count ≡ old.count + 1

-- one line more, if there is one
abbrev pub IsMoreIf : Option Line → Lines → Lines → Type 0
IsMoreIf None old new = new ≡ old
IsMoreIf (Some line) old new = IsMore line old new
