use Rattle.hm_sheet.specs.Registry.{sheets_by}
use Rattle.hm_commands.proofs.Agreeing.{agrees_more, all_agree, one_differs}
use Rattle.hm_commands.proofs.hands.hands_agree.Goals as goal

pub returns-then-not-are_equal : goal.returns-then-not-are_equal
returns-then-not-are_equal g c = (
  λ yes. cc,
  λ agree. absurd (one_differs _ c.args.hands.now c.first-item.result c.other-item.result c.loop-other.other-index c.are_equal.result
      c.first-item.is c.loop-other-test.true c.other-item.is c.are_equal.ensures c.if-not-are_equal.true agree),
)

pub loop-other-preserved : goal.loop-other-preserved
loop-other-preserved g c =
    agrees_more (λ r. sheets_by (goal.Handler-dyn g) r) c.args.hands.now c.first-item.result c.other-item.result c.loop-other.other-index c.are_equal.result
    c.loop-other-test.true c.other-item.is c.are_equal.ensures c.if-not-are_equal.false c.loop-other.invariant

pub returns : goal.returns
returns g c =
    (λ yes. all_agree _ c.args.hands.now c.first-item.result c.loop-other.other-index c.if-hands-ne17.false c.first-item.is c.loop-other-test.false c.loop-other.invariant, λ agree. cc)
