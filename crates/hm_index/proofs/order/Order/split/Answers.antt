use Rattle.std.proofs.Common.{◌≡◌, ◌<◌, [], length, map, ap, refl, sym, arith}
use Rattle.std.proofs.lemmas.List.{length-drop}
use Rattle.std.proofs.lemmas.List.Elements.{All-take}
use Rattle.hm_index.specs.Blocks.{OrderView, block_at, first_mark, split_at}
use Rattle.hm_index.proofs.Laid.{taken, split-insert, packed-split}
use Rattle.hm_index.proofs.Marks.{firsts-split}
use Rattle.hm_index.proofs.order.Order.split.Goals as goal

pub first-requires : goal.first-requires
first-requires c =
    let f = c.self.inside in
    let same = ap (λ (t : OrderView). t.blocks) c.self.view_is in
    let lt : c.args.block < length f.blocks.items = rw same c.requires.block in
    let lower = taken f.blocks.items f.blocks.items c.args.block c.index_mut-lower.result.now refl lt c.index_mut-lower.ensures.value in
    let full = rw (← same) at c.requires.full in
    rw (c.split.ensures.upper, lower) (omega (arith, length-drop 64 (block_at f.blocks.items c.args.block), full))

pub invariant_of-self : goal.invariant_of-self
invariant_of-self c =
    let f = c.self.inside in
    let same = ap (λ (t : OrderView). t.blocks) c.self.view_is in
    let lt : c.args.block < length f.blocks.items = rw same c.requires.block in
    let lower = taken f.blocks.items f.blocks.items c.args.block c.index_mut-lower.result.now refl lt c.index_mut-lower.ensures.value in
    let blocks : c.put_at-2.new.items.items ≡ split_at f.blocks.items c.args.block 64 = rw (c.put_at-2.ensures.items, c.split.ensures.lower, c.split.ensures.upper, lower) (split-insert f.blocks.items c.args.block 64 lt) in
    let full = rw (← same) at c.requires.full in
    let leads : c.put_at.new.items.items ≡ map first_mark (split_at f.blocks.items c.args.block 64) = rw (c.put_at.ensures.items, c.first.ensures, c.split.ensures.upper, lower, c.self.invariant.2) (sym (firsts-split f.blocks.items c.args.block 64 lt (omega arith) (omega (arith, full)))) in
    (rw blocks (packed-split f.blocks.items c.args.block 64 c.self.invariant.0 lt (omega arith) (omega (arith, full))), rw c.pop.ensures.rest (All-take (λ block. block ≡ []) _ f.pool.items c.self.invariant.1), rw blocks leads)

pub returns-clause-blocks : goal.returns-clause-blocks
returns-clause-blocks c =
    let f = c.self.inside in
    let same = ap (λ (t : OrderView). t.blocks) c.self.view_is in
    let lt : c.args.block < length f.blocks.items = rw same c.requires.block in
    let lower = taken f.blocks.items f.blocks.items c.args.block c.index_mut-lower.result.now refl lt c.index_mut-lower.ensures.value in
    rw (c.put_at-2.ensures.items, c.split.ensures.lower, c.split.ensures.upper, lower, ← same) (split-insert f.blocks.items c.args.block 64 lt)
