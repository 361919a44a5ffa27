use Rattle.std.proofs.Common.{◌∙◌, sym, map}
use Rattle.hm_sheet.specs.Lines.{line_of}
use Rattle.hm_sheet.proofs.Walks.{gone}
use Rattle.hm_sheet.proofs.walk.+astray.Goals as goal

pub returns-in_default : goal.returns-in_default
returns-in_default t c =
    sym (gone c.args.rows.now (line_of c.args.line) (map line_of c.args.following.now) c.args.place (sym c.row_at.ensures ∙ c.in_default.is))
