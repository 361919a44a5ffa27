use Rattle.std.proofs.Common.{◌+◌, ap, sym}
use Rattle.hm_index.specs.Index.{IndexView}
use Rattle.hm_index.specs.Blocks.{laid, places, picked, start}
use Rattle.hm_index.proofs.Pairs.{from-has, from-gap}
use Rattle.hm_index.proofs.Seeks.{found_has, absent_gap}
use Rattle.hm_index.proofs.index.Index.iter_from.Goals as goal

pub returns-in-Ok : goal.returns-in-Ok
returns-in-Ok g c =
    let f = c.self.inside in
    let same = ap (λ (t : IndexView _ _). t.pairs) c.self.view_is in
    let here = found_has g.K.Ord.cmp g.met.K.Ord.total f.pairs.items f.order.blocks c.self.invariant.0.rises c.self.invariant.0.within (g.S.Sought.stands_for c.args.key.now) c.in-Ok.spot.block c.in-Ok.spot.at (rw c.deref.ensures.value at c.in-Ok.ensures.found) in
    rw (c.new.ensures, c.deref-in-Ok.ensures.value, ← same)
    (sym (from-has g.K.Ord.cmp g.met.K.Ord.total (picked f.pairs.items (places (laid f.order.blocks))) (g.S.Sought.stands_for c.args.key.now) (start f.order.blocks c.in-Ok.spot.block + c.in-Ok.spot.at) c.self.invariant.0.rises here.has))

pub returns-in-Err : goal.returns-in-Err
returns-in-Err g c =
    let f = c.self.inside in
    let same = ap (λ (t : IndexView _ _). t.pairs) c.self.view_is in
    let here = absent_gap g.K.Ord.cmp g.met.K.Ord.total f.pairs.items f.order.blocks c.self.invariant.0.rises c.self.invariant.0.within (g.S.Sought.stands_for c.args.key.now) c.in-Err.spot.block c.in-Err.spot.at (rw c.deref.ensures.value at c.in-Err.ensures.absent) in
    rw (c.new-in-Err.ensures, c.deref-in-Err.ensures.value, ← same)
    (sym (from-gap g.K.Ord.cmp g.met.K.Ord.total (picked f.pairs.items (places (laid f.order.blocks))) (g.S.Sought.stands_for c.args.key.now) (start f.order.blocks c.in-Err.spot.block + c.in-Err.spot.at) here.gap))
