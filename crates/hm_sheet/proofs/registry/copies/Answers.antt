use Rattle.std.proofs.Common.{sym, subst}
use Rattle.hm_sheet.specs.Words.{AreSheetsOf}
use Rattle.hm_sheet.proofs.Copies.{copies-all, copies-push, holds_next}
use Rattle.hm_sheet.proofs.registry.copies.Goals as goal

pub sheet_copy-requires : goal.sheet_copy-requires
sheet_copy-requires g c = (holds_next _ _ _ c.loop-kind-test.true c.loop-kind.invariant.there).0

pub loop-kind-preserved : goal.loop-kind-preserved
loop-kind-preserved g c = record {
  copied = rw c.in_ok-push.ensures.items (copies-push _ _ _ _ _ c.loop-kind-test.true c.loop-kind.invariant.copied c.in_ok-sheet_copy.ensures.found c.in_ok-sheet_copy.ensures.valid);
  there = (holds_next _ _ _ c.loop-kind-test.true c.loop-kind.invariant.there).1;
}

pub returns : goal.returns
returns g c = subst (AreSheetsOf _ _) (sym c.of.ensures) (copies-all _ _ _ _ c.loop-kind-test.false c.loop-kind.invariant.copied)
