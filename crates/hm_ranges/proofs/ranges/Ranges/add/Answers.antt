use Rattle.std.proofs.Common.{◌≡◌, ap, subst, sym, ◌∙◌}
use Rattle.hm_ranges.specs.Ranges.{RangesView, StandApart, TakesIn, placed}
use Rattle.hm_ranges.proofs.Apart.{in_placed, inserted_placed, placed_apart}
use Rattle.hm_ranges.proofs.ranges.Ranges.add.Goals as goal

-- the ranges that were there, as callers see them
same : (c : goal.After-put_at) → c.self.inside.ranges.items ≡ c.args.self.now.ranges
same c = ap (λ (v : RangesView). v.ranges) c.self.view_is

-- the range stands at its place
stands : (c : goal.After-put_at) → c.put_at.new.items.items ≡ placed c.args.self.now.ranges c.args.range
stands c =
    let limit = rw c.deref.ensures.value at c.starting_before-at.ensures.limit in
    let point = rw c.deref.ensures.value at c.starting_before-at.ensures.point in
    c.put_at.ensures.items ∙ inserted_placed c.args.range c.self.inside.ranges.items c.starting_before-at.result limit point
    ∙ ap (λ list. placed list c.args.range) (same c)

pub invariant_of-self : goal.invariant_of-self
invariant_of-self c =
    subst StandApart (sym (stands c)) (placed_apart c.args.self.now.ranges c.args.range (subst StandApart (same c) c.self.invariant) c.requires.fits)

pub returns-clause-ranges : goal.returns-clause-ranges
returns-clause-ranges c = stands c

pub returns-clause-among : goal.returns-clause-among
returns-clause-among c =
    subst (TakesIn c.args.range c.args.self.now.ranges) (sym (stands c)) (in_placed c.args.range c.args.self.now.ranges)
