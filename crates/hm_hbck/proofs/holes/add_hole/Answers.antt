use Rattle.std.proofs.Common.{map, None, Some, subst}
use Rattle.hm_ranges.specs.Holes.{IsLeast}
use Rattle.hm_ranges.proofs.Sorted.{least_sorted}
use Rattle.hm_hbck.proofs.Least.{hole_added, limited_is, no_hole}
use Rattle.hm_hbck.proofs.holes.add_hole.Goals as goal

pub returns-in_default : goal.returns-in_default
returns-in_default c =
    no_hole c.args.catalog.now.rows c.args.table.now c.args.found.now.items
    (least_sorted _ (map (λ range. range.now) c.in_ok-ranges.ranges.items) c.in_ok-ranges.ensures.same None
    (subst (λ list. IsLeast (map (λ range. range.now) list) None) c.deref.ensures.value c.in_default.ensures))

pub returns : goal.returns
returns c =
    let key = c.in-Some.key.now in
    let least = least_sorted _ (map (λ range. range.now) c.in_ok-ranges.ranges.items) c.in_ok-ranges.ensures.same (Some key)
    (subst (λ list. IsLeast (map (λ range. range.now) list) (Some key)) c.deref.ensures.value c.in-Some.ensures) in
    rw (c.in_ok-push.ensures.items, c.in_ok-table.ensures, limited_is key c.in-Ok.key c.in-Ok.ensures)
    (hole_added c.args.catalog.now.rows c.args.table.now key c.args.found.now.items least)
