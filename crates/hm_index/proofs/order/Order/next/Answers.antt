use Rattle.std.proofs.Common.{◌≡◌, ◌+◌, ◌<◌, length, ap, sym, Some, refl, ◌∙◌, get_or, arith}
use Rattle.hm_index.specs.Blocks.{OrderView, block_at, places}
use Rattle.hm_index.proofs.Laid.{taken}
use Rattle.hm_index.proofs.Marks.{next_here, next_block, next_none}
use Rattle.hm_index.proofs.order.Order.next.Goals as goal

pub returns-then-spot-len : goal.returns-then-spot-len
returns-then-spot-len c =
    let same = ap (λ (t : OrderView). t.blocks) c.self.view_is in
    let block = taken c.self.inside.blocks.items c.args.self.now.blocks c.args.spot.block c.index-block.result.now same c.requires.block c.index-block.ensures in
    let within : c.args.spot.at < length (block_at c.args.self.now.blocks c.args.spot.block) = omega (arith, ap length block, c.len.ensures.count, c.if-spot-len.true) in
    ap Some (c.get.ensures ∙ ap (λ l. get_or (places l) c.args.spot.at 0) block) ∙ sym (next_here c.args.self.now.blocks c.args.spot.block c.args.spot.at c.requires.block within)

pub get-requires-then-after-len : goal.get-requires-then-after-len
get-requires-then-after-len c =
    let f = c.self.inside in
    let lt : c.args.spot.block + 1 < length f.blocks.items = omega (arith, c.if-after-len.true, c.len-2.ensures, f.blocks.ok.0) in
    let next = taken f.blocks.items f.blocks.items (c.args.spot.block + 1) c.index.result.now (refl) lt c.index.ensures in
    rw next (c.self.invariant.0.filled (c.args.spot.block + 1) (omega arith) lt)

pub returns-then-after-len : goal.returns-then-after-len
returns-then-after-len c =
    let f = c.self.inside in
    let same = ap (λ (t : OrderView). t.blocks) c.self.view_is in
    let block = taken f.blocks.items c.args.self.now.blocks c.args.spot.block c.index-block.result.now same c.requires.block c.index-block.ensures in
    let lt : c.args.spot.block + 1 < length f.blocks.items = omega (arith, c.if-after-len.true, c.len-2.ensures, f.blocks.ok.0) in
    let more : c.args.spot.block + 1 < length c.args.self.now.blocks = rw (← same) lt in
    let next = taken f.blocks.items c.args.self.now.blocks (c.args.spot.block + 1) c.index.result.now same more c.index.ensures in
    let packed = rw same at c.self.invariant.0 in
    let end : c.args.spot.at ≡ length (block_at c.args.self.now.blocks c.args.spot.block) = omega (arith, ap length block, c.len.ensures.count, c.if-spot-len.false, c.requires.within) in
    ap Some (c.get-then-after-len.ensures ∙ ap (λ l. get_or (places l) 0 0) next) ∙ sym (next_block c.args.self.now.blocks c.args.spot.block c.args.spot.at more end (packed.filled (c.args.spot.block + 1) (omega arith) more))

pub returns : goal.returns
returns c =
    let f = c.self.inside in
    let same = ap (λ (t : OrderView). t.blocks) c.self.view_is in
    let block = taken f.blocks.items c.args.self.now.blocks c.args.spot.block c.index-block.result.now same c.requires.block c.index-block.ensures in
    let none : length f.blocks.items ≡ length c.args.self.now.blocks = ap length same in
    let is : c.args.spot.block + 1 ≡ length c.args.self.now.blocks = omega (arith, c.if-after-len.false, c.len-2.ensures, f.blocks.ok.0, c.requires.block) in
    let end : c.args.spot.at ≡ length (block_at c.args.self.now.blocks c.args.spot.block) = omega (arith, ap length block, c.len.ensures.count, c.if-spot-len.false, c.requires.within) in
    sym (next_none c.args.self.now.blocks c.args.spot.block c.args.spot.at is end)
