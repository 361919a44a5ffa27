use Rattle.std.proofs.Common.{List, ◌∙◌, sym, ap}
use Rattle.hm_data.specs.declared.sheet.Sheet.{Sheet}
use Rattle.hm_model.specs.Sheets.{row_in, sheet_for}
use Rattle.hm_commands.specs.RowNames.{act_of_row}
use Rattle.hm_commands.proofs.Clusters.{act_none, act_some, shown_within}
use Rattle.hm_commands.proofs.telling.act_of.Goals as goal

pub sheets_of-requires : goal.sheets_of-requires
sheets_of-requires c = shown_within c.args.state.now.past c.args.pid.0 c.in-Some.record.now (sym c.in-Some.ensures)

pub returns-in-Some : goal.returns-in-Some
returns-in-Some c =
    c.act_of_kind.ensures ∙ ap (λ (l : List Sheet). act_of_row (row_in (sheet_for l c.in-Some.record.now.kind) c.args.row)) c.sheets_of.ensures
    ∙ sym (act_some c.args.state.now.past c.journal.ensures.legal c.args.pid.0 c.args.row c.in-Some.record.now (sym c.in-Some.ensures))

pub returns-in-None : goal.returns-in-None
returns-in-None c = sym (act_none c.args.state.now.past c.journal.ensures.legal c.args.pid.0 c.args.row (sym c.in-None.ensures))
