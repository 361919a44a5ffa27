use Rattle.std.proofs.Common.{◌∙◌, ◌+◌, ap, min, arith}
use Rattle.hm_sheet.proofs.Sheets.{counted_clause, all_counted}
use Rattle.hm_sheet.proofs.among.count_of.Goals as goal

pub loop-handler-preserved : goal.loop-handler-preserved
loop-handler-preserved g c =
    (omega arith, counted_clause _ _ _ _ _ _ _ _ c.loop-handler-test.true c.handler-item.is (c.saturating_add-count.ensures ∙ ap (λ n. min (c.loop-handler.count + n) 18446744073709551615) c.count_at.ensures) c.loop-handler.invariant.1)

pub returns : goal.returns
returns g c = all_counted _ _ _ _ _ _ c.loop-handler-test.false c.loop-handler.invariant.0 c.loop-handler.invariant.1
