use Rattle.std.proofs.Common.{length, refl}
use Rattle.std.proofs.lemmas.Bool.{false≢true}
use Rattle.std.proofs.lemmas.Option.{slice_get_read}
use Rattle.hm_sheet.proofs.ValidSheets.{valid_at, valid_more}
use Rattle.hm_sheet.proofs.whole.are_valid.Goals as goal

pub returns-then-not-is_valid : goal.returns-then-not-is_valid
returns-then-not-is_valid c =
    let sheets = c.args.sheets.now in
    let here = slice_get_read sheets (length sheets) c.loop-sheet.sheet-index c.sheet-item.result refl c.loop-sheet-test.true c.sheet-item.is in
    (λ e. absurd (false≢true e), λ all. c.if-not-is_valid.ensures.1 (valid_at sheets c.loop-sheet.sheet-index c.sheet-item.result here all))

pub loop-sheet-preserved : goal.loop-sheet-preserved
loop-sheet-preserved c =
    let sheets = c.args.sheets.now in
    let here = slice_get_read sheets (length sheets) c.loop-sheet.sheet-index c.sheet-item.result refl c.loop-sheet-test.true c.sheet-item.is in
    valid_more sheets c.loop-sheet.sheet-index c.sheet-item.result here c.loop-sheet.invariant (c.if-not-is_valid.ensures.0 refl)
