use Rattle.std.proofs.Common.{List, [], ◌∷◌, ◌++◌, ap, length, refl, subst, sym, take, ◌∙◌}
use Rattle.std.proofs.lemmas.Option.{slice_get_read}
use Rattle.hm_data.specs.declared.sheet.Sheet.{Sheet}
use Rattle.hm_model.specs.Validity.{IsValid}
use Rattle.hm_sheet.proofs.ValidSheets.{take_item, valid_at, valid_more}
use Rattle.hm_sheet.proofs.whole.valid_copies.Goals as goal

pub returns-in_default : goal.returns-in_default
returns-in_default c all =
    let sheets = c.args.sheets.now in
    let here = slice_get_read sheets (length sheets) c.loop-sheet.sheet-index c.sheet-item.result refl c.loop-sheet-test.true c.sheet-item.is in
    c.in_default.ensures (subst IsValid (sym c.in_ok-copy.ensures) (valid_at sheets c.loop-sheet.sheet-index c.sheet-item.result here all))

pub loop-sheet-preserved : goal.loop-sheet-preserved
loop-sheet-preserved c =
    let sheets = c.args.sheets.now in
    let place = c.loop-sheet.sheet-index in
    let item = c.sheet-item.result in
    let here = slice_get_read sheets (length sheets) place item refl c.loop-sheet-test.true c.sheet-item.is in
    record {
      same = c.in_ok-push.ensures.items
          ∙ ap (λ (l : List Sheet). l ++ c.in-Some.valid ∷ []) c.loop-sheet.invariant.same
          ∙ ap (λ (v : Sheet). take place sheets ++ v ∷ []) (c.in-Some.ensures.0 ∙ c.in_ok-copy.ensures)
          ∙ sym (take_item sheets place item here);
      valid = valid_more sheets place item here c.loop-sheet.invariant.valid (subst IsValid c.in_ok-copy.ensures c.in-Some.ensures.1);
    }
