use Rattle.std.proofs.Common.{below_more, arith, ◌∙◌, sym}
use Rattle.hm_sheet.proofs.Broken.{valid_by}
use Rattle.hm_sheet.proofs.check.check_sheet.Goals as goal

pub loop-place-preserved : goal.loop-place-preserved
loop-place-preserved c =
    below_more _ _ c.loop-place.invariant
    (sym (rw (c.from.ensures, c.as_slice-rows.ensures, c.misfit-misfit.ensures) at c.broken_at.ensures) ∙ c.in_default.is)

pub returns-clause-exact : goal.returns-clause-exact
returns-clause-exact c = valid_by c.args.sheet.now (λ place low. c.loop-place.invariant place (omega arith))
