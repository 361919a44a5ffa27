use Rattle.std.proofs.Common.{◌+◌, ◌∙◌, Some, ap, sym}
use Rattle.hm_index.specs.Index.{IndexView}
use Rattle.hm_index.specs.Blocks.{picked, laid, places, start}
use Rattle.hm_index.proofs.Pairs.{found, absent}
use Rattle.hm_index.proofs.Picked.{read_is}
use Rattle.hm_index.proofs.Seeks.{found_has, absent_gap}
use Rattle.hm_index.proofs.index.Index.get.Goals as goal

pub returns-in-Ok : goal.returns-in-Ok
returns-in-Ok g c =
    let f = c.self.inside in
    let same = ap (λ (t : IndexView _ _). t.pairs) c.self.view_is in
    let here = found_has g.K.Ord.cmp g.met.K.Ord.total f.pairs.items f.order.blocks c.self.invariant.0.rises c.self.invariant.0.within (g.S.Sought.stands_for c.args.key.now) c.in-Ok.spot.block c.in-Ok.spot.at (rw c.deref.ensures.value at c.in-Ok.ensures.found) in
    let at = start f.order.blocks c.in-Ok.spot.block + c.in-Ok.spot.at in
    let there = read_is g.K.Ord.cmp f.pairs.items (places (laid f.order.blocks)) c.self.invariant.0.within (start f.order.blocks c.in-Ok.spot.block + c.in-Ok.spot.at) c.get.result c.index.result.now here.lt c.get.ensures in
    rw (← same) (sym (found g.K.Ord.cmp g.met.K.Ord.total (picked f.pairs.items (places (laid f.order.blocks))) (g.S.Sought.stands_for c.args.key.now) (start f.order.blocks c.in-Ok.spot.block + c.in-Ok.spot.at) c.self.invariant.0.rises here.has c.index.result.now ∙ ap (λ (p : _ × _). Some p.1) (sym (c.index.ensures ∙ there))))

pub returns-in-Err : goal.returns-in-Err
returns-in-Err g c =
    let f = c.self.inside in
    let same = ap (λ (t : IndexView _ _). t.pairs) c.self.view_is in
    let spot = c.in-Err.field-0 in
    let here = absent_gap g.K.Ord.cmp g.met.K.Ord.total f.pairs.items f.order.blocks c.self.invariant.0.rises c.self.invariant.0.within (g.S.Sought.stands_for c.args.key.now) c.in-Err.field-0.block c.in-Err.field-0.at (rw c.deref.ensures.value at c.in-Err.ensures.absent) in
    rw (← same) (sym (absent g.K.Ord.cmp g.met.K.Ord.total (picked f.pairs.items (places (laid f.order.blocks))) (g.S.Sought.stands_for c.args.key.now) (start f.order.blocks c.in-Err.field-0.block + c.in-Err.field-0.at) here.gap))
