use Rattle.std.proofs.Common.{◌∙◌, sym}
use Rattle.hm_sheet.proofs.Sheets.{served_clause, there_clause, passed_clause, first_clause, behind_clause}
use Rattle.hm_sheet.proofs.among.place_of.Goals as goal

pub returns-then-has_sheet-clause-served : goal.returns-then-has_sheet-clause-served
returns-then-has_sheet-clause-served g c =
    served_clause _ _ _ _ _ c.loop-place-test.true c.index-handlers-place.is (sym c.has_sheet.ensures ∙ c.if-has_sheet.true) c.loop-place.invariant.found

pub returns-then-has_sheet-clause-there : goal.returns-then-has_sheet-clause-there
returns-then-has_sheet-clause-there g c =
    there_clause _ _ _ _ _ c.loop-place-test.true c.index-handlers-place.is (sym c.has_sheet.ensures ∙ c.if-has_sheet.true) c.loop-place.invariant.found

pub returns-then-has_sheet-clause-first : goal.returns-then-has_sheet-clause-first
returns-then-has_sheet-clause-first g c =
    first_clause _ _ _ _ _ c.loop-place-test.true c.index-handlers-place.is (sym c.has_sheet.ensures ∙ c.if-has_sheet.true) c.loop-place.invariant.passed

pub loop-place-preserved : goal.loop-place-preserved
loop-place-preserved g c = record {
  found = passed_clause _ _ _ _ _ c.loop-place-test.true c.index-handlers-place.is (sym c.has_sheet.ensures ∙ c.if-has_sheet.false) c.loop-place.invariant.found;
  passed = behind_clause _ _ _ _ _ c.loop-place-test.true c.index-handlers-place.is (sym c.has_sheet.ensures ∙ c.if-has_sheet.false) c.loop-place.invariant.passed;
}
