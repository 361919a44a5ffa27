use Rattle.std.proofs.Common.{sym, ap, ◌∙◌, arith}
use Rattle.std.specs.Option.{option_copied}
use Rattle.hm_places.specs.Places.{place_in}
use Rattle.hm_commands.proofs.Counting.{few_counted, none_counted}
use Rattle.hm_commands.proofs.census.count_regions.Goals as goal

pub loop-key-init : goal.loop-key-init
loop-key-init c =
    none_counted (place_in c.args.places.now.places) c.into_iter-key-iterator.result c.args.catalog.now.rows
    (c.into_iter-key-iterator.ensures.into_iter_gives ∙ c.rows_of-key-items.ensures)

pub overflow_add-regions : goal.overflow_add-regions
overflow_add-regions c =
    let few = few_counted _ _ _ _ _ _ _ _ c.loop-key.invariant c.in-Some.ensures.steps (sym c.region_in.ensures ∙ ap option_copied c.in-Some-region_in.is) in
    omega (arith, few, c.len-most.ensures.count, c.len-most.type_inv)

pub overflow_add-opened : goal.overflow_add-opened
overflow_add-opened c =
    let few = few_counted _ _ _ _ _ _ _ _ c.loop-key.invariant c.in-Some.ensures.steps (sym c.region_in.ensures ∙ ap option_copied c.in-Some-region_in.is) in
    omega (arith, few, c.loop-key.invariant.fewer, c.len-most.ensures.count, c.len-most.type_inv)
