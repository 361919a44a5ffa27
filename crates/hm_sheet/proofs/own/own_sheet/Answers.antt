use Rattle.std.proofs.Common.{◌++◌, ◌∙◌, ap, map}
use Rattle.hm_model.specs.Lists.{exact_rows}
use Rattle.hm_sheet.specs.Lines.{line_of}
use Rattle.hm_sheet.specs.Own.{in_turn}
use Rattle.hm_sheet.proofs.OwnValid.{no_fault}
use Rattle.hm_sheet.proofs.own.own_sheet.Goals as goal

pub unreachable-requires : goal.unreachable-requires
unreachable-requires c = no_fault c.args.kind c.requires c.of.result (c.of.ensures ∙ c.in_ok-push_rows.ensures ∙ ap (λ rows. rows ++ in_turn 1 (map line_of c.lines_of.result.now)) (c.in_ok-rows.ensures.items ∙ c.exact_rows.ensures) ∙ ap (λ lines. exact_rows c.args.kind ++ in_turn 1 lines) c.lines_of.ensures.lines) _ _ c.in-Err.ensures.err.1
