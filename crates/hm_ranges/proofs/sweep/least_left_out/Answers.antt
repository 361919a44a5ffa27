use Rattle.std.proofs.Common.{map, subst, sym}
use Rattle.std.proofs.lemmas.List.{drop_all}
use Rattle.hm_ranges.proofs.Swept.{IsWalked, end_found, gap_found, next_range, open_found, walk_begins, walk_goes_on}
use Rattle.hm_ranges.proofs.sweep.least_left_out.Goals as goal

pub loop-ranged-init : goal.loop-ranged-init
loop-ranged-init g c = rw c.as_slice-least.ensures (walk_begins (map g.T.Ranged.range_of c.args.ranges.now) c.requires)

pub returns-then-starts_after : goal.returns-then-starts_after
returns-then-starts_after g c =
    gap_found _ _ _ _ (next_range g.T.Ranged.range_of _ c.args.ranges.now _ c.loop-ranged.ranged-index c.ranged-item.result _ _ c.loop-ranged-test.true c.ranged-item.is c.key_range-range.ensures c.loop-ranged.invariant) (sym c.if-starts_after.ensures)

pub returns-then-is_open : goal.returns-then-is_open
returns-then-is_open g c =
    open_found _ _ _ _ (next_range g.T.Ranged.range_of _ c.args.ranges.now _ c.loop-ranged.ranged-index c.ranged-item.result _ _ c.loop-ranged-test.true c.ranged-item.is c.key_range-range.ensures c.loop-ranged.invariant) (sym c.if-starts_after.ensures) (sym c.if-is_open.ensures)

pub loop-ranged-preserved : goal.loop-ranged-preserved
loop-ranged-preserved g c =
    subst (IsWalked (map g.T.Ranged.range_of c.args.ranges.now) _) (sym c.further-least.ensures)
    (walk_goes_on _ _ _ _ (next_range g.T.Ranged.range_of _ c.args.ranges.now _ c.loop-ranged.ranged-index c.ranged-item.result _ _ c.loop-ranged-test.true c.ranged-item.is c.key_range-range.ensures c.loop-ranged.invariant) (sym c.if-starts_after.ensures) (sym c.if-is_open.ensures))

pub returns : goal.returns
returns g c =
    end_found _ _ (subst (λ rest. IsWalked (map g.T.Ranged.range_of c.args.ranges.now) (map g.T.Ranged.range_of rest) c.loop-ranged.least.now) (drop_all c.loop-ranged.ranged-index c.args.ranges.now c.loop-ranged-test.false) c.loop-ranged.invariant)
