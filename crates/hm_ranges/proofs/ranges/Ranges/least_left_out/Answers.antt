use Rattle.std.proofs.Common.{ap, map-id, subst, sym, ◌∙◌}
use Rattle.std.specs.Option.{option_copied}
use Rattle.hm_ranges.specs.Holes.{IsLeast, StartsRise}
use Rattle.hm_ranges.specs.Ranges.{RangesView}
use Rattle.hm_ranges.proofs.Apart.{apart_rise}
use Rattle.hm_ranges.proofs.ranges.Ranges.least_left_out.Goals as goal

pub least_left_out-requires : goal.least_left_out-requires
least_left_out-requires c =
    subst StartsRise (sym (map-id c.deref.result.now)) (subst StartsRise (sym c.deref.ensures.value) (apart_rise c.self.inside.ranges.items c.self.invariant))

pub returns : goal.returns
returns c =
    subst (λ list. IsLeast list (option_copied c.least_left_out.result))
    (map-id c.deref.result.now ∙ c.deref.ensures.value ∙ ap (λ (v : RangesView). v.ranges) c.self.view_is) c.least_left_out.ensures
