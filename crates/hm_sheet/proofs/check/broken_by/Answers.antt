use Rattle.std.proofs.Common.{◌∙◌, sym, [], ◌∷◌}
use Rattle.hm_model.specs.Validity.{row_rules, is_not}
use Rattle.hm_sheet.proofs.Broken.{rest_broken, front_broken}
use Rattle.hm_sheet.proofs.check.broken_by.Goals as goal

pub returns-in-Some : goal.returns-in-Some
returns-in-Some c =
    sym (front_broken (row_rules c.args.kind c.args.rows.now c.args.place c.args.row) ((8, is_not c.args.place c.args.misfit) ∷ []) c.in-Some.rule (sym c.broken_by_row.ensures ∙ c.in-Some.is))

pub returns-in-None : goal.returns-in-None
returns-in-None c =
    c.broken_by_fit.ensures ∙ sym (rest_broken (row_rules c.args.kind c.args.rows.now c.args.place c.args.row) ((8, is_not c.args.place c.args.misfit) ∷ []) (sym c.broken_by_row.ensures ∙ c.in-None.is))
