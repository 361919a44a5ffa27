-- A line of the code as the definitions have it.
use Rattle.hm_model.specs.Lists.{Line}
use Rattle.hm_sheet.specs.declared.lines.Line.{Line as CodeLine}

-- the same act, mark and undo
abbrev pub line_of : CodeLine → Line
line_of line = record { act = line.act; after = line.after; undo = line.undo }
