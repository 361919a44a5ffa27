use Rattle.std.proofs.Common.{◌+◌, ◌<◌, length, ◌∙◌, ap, sym, get_or, arith}
use Rattle.std.proofs.lemmas.List.{get_or_default}
use Rattle.hm_index.specs.Blocks.{OrderView, laid, places, start}
use Rattle.hm_index.proofs.Laid.{taken, ends}
use Rattle.hm_index.proofs.Marks.{length-places, read_place}
use Rattle.hm_index.proofs.order.Order.get.Goals as goal

pub returns : goal.returns
returns c =
    let same = ap (λ (t : OrderView). t.blocks) c.self.view_is in
    let block = taken c.self.inside.blocks.items c.args.self.now.blocks c.args.spot.block c.index.result.now same c.requires.block c.index.ensures in
    let lt : start c.args.self.now.blocks c.args.spot.block + c.args.spot.at < length (places (laid c.args.self.now.blocks)) = omega (arith, length-places (laid c.args.self.now.blocks), c.requires.within, ends c.args.self.now.blocks c.args.spot.block c.requires.block) in
    c.get.ensures ∙ ap (λ l. get_or (places l) c.args.spot.at 0) block ∙ sym (read_place c.args.self.now.blocks c.args.spot.block c.args.spot.at 0 c.requires.block c.requires.within)
    ∙ get_or_default (places (laid c.args.self.now.blocks)) (start c.args.self.now.blocks c.args.spot.block + c.args.spot.at) 0 c.get.result lt
