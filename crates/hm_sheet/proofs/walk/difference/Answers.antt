use Rattle.std.proofs.Common.{◌≡◌, ◌≤◌, length, arith, ◌∙◌, sym}
use Rattle.hm_sheet.proofs.Walks.{too_few, too_many}
use Rattle.hm_sheet.proofs.walk.difference.Goals as goal

pub returns-in_default-2 : goal.returns-in_default-2
returns-in_default-2 c =
    let over : length c.args.others.now ≤ c.loop-place.place = grind (arith, c.get.ensures.lookup, c.in_default.is) in
    sym (too_few c.args.rows.now c.args.others.now c.loop-place.place c.loop-place-test.true over) ∙ c.loop-place.invariant

pub returns-then-others-rows : goal.returns-then-others-rows
returns-then-others-rows c =
    let here : c.loop-place.place ≡ length c.args.rows.now = omega arith in
    rw (← here) (sym (too_many c.args.rows.now c.args.others.now c.loop-place.place (omega arith) (omega arith)) ∙ c.loop-place.invariant)
