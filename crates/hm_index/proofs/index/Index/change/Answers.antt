use Rattle.std.proofs.Common.{◌+◌, ap, sym}
use Rattle.hm_index.specs.Index.{IndexView}
use Rattle.hm_index.specs.Blocks.{laid, places, picked, start}
use Rattle.hm_index.proofs.Pairs.{absent}
use Rattle.hm_index.proofs.Marks.{hinted-set}
use Rattle.hm_index.proofs.Places.{key-set}
use Rattle.hm_index.proofs.Seeks.{absent_gap}
use Rattle.hm_index.proofs.Written.{changed_over}
use Rattle.hm_index.proofs.index.Index.change.Goals as goal

pub invariant_of-self : goal.invariant_of-self
invariant_of-self g c =
    let f = c.self.inside in
    let read = c.index_mut.result.now in
    let new = changed_over g.K.Ord.cmp g.met.K.Ord.total f.pairs.items f.order.blocks c.self.invariant.0 (g.S.Sought.stands_for c.args.key.now) c.args.value c.in-Ok.spot.block c.in-Ok.spot.at (rw c.deref.ensures.value at c.in-Ok.ensures.found) c.get-place.result c.get-place.ensures read c.index_mut.ensures.value in
    (new.kept, hinted-set g.K.Hinted.hint_of f.pairs.items (laid f.order.blocks) c.get-place.result (read.0, c.args.value) read (ap (λ (p : g.row.K.Denot × g.row.V.Denot). g.K.Hinted.hint_of p.0) (sym c.index_mut.ensures.value)) c.self.invariant.1)

pub unreachable-requires : goal.unreachable-requires
unreachable-requires g c =
    let f = c.self.inside in
    let same = ap (λ (t : IndexView _ _). t.pairs) c.self.view_is in
    let key = g.S.Sought.stands_for c.args.key.now in
    let here = absent_gap g.K.Ord.cmp g.met.K.Ord.total f.pairs.items f.order.blocks c.self.invariant.0.rises c.self.invariant.0.within key c.in-Err.field-0.block c.in-Err.field-0.at (rw c.deref.ensures.value at c.in-Err.ensures.absent) in
    let none = absent g.K.Ord.cmp g.met.K.Ord.total (picked f.pairs.items (places (laid f.order.blocks))) key (start f.order.blocks c.in-Err.field-0.block + c.in-Err.field-0.at) here.gap in
    let found = rw (← same, none) at c.requires in
    cc

pub returns-clause-order : goal.returns-clause-order
returns-clause-order g c =
    let f = c.self.inside in
    let same = ap (λ (t : IndexView _ _). t.pairs) c.self.view_is in
    rw (← same) (changed_over g.K.Ord.cmp g.met.K.Ord.total f.pairs.items f.order.blocks c.self.invariant.0 (g.S.Sought.stands_for c.args.key.now) c.args.value c.in-Ok.spot.block c.in-Ok.spot.at (rw c.deref.ensures.value at c.in-Ok.ensures.found) c.get-place.result c.get-place.ensures c.index_mut.result.now c.index_mut.ensures.value).order

pub returns-clause-pairs : goal.returns-clause-pairs
returns-clause-pairs g c =
    let f = c.self.inside in
    let same = ap (λ (t : IndexView _ _). t.pairs) c.self.view_is in
    rw (← same) (changed_over g.K.Ord.cmp g.met.K.Ord.total f.pairs.items f.order.blocks c.self.invariant.0 (g.S.Sought.stands_for c.args.key.now) c.args.value c.in-Ok.spot.block c.in-Ok.spot.at (rw c.deref.ensures.value at c.in-Ok.ensures.found) c.get-place.result c.get-place.ensures c.index_mut.result.now c.index_mut.ensures.value).found

pub returns-clause-keys : goal.returns-clause-keys
returns-clause-keys g c = λ n.
    let f = c.self.inside in
    let came = ap (λ (t : IndexView _ _). t.came) c.self.view_is in
    rw (← came) (key-set f.pairs.items c.get-place.result c.index_mut.result.now c.args.value n (sym c.index_mut.ensures.value))

pub returns-clause-rising : goal.returns-clause-rising
returns-clause-rising g c =
    let f = c.self.inside in
    (changed_over g.K.Ord.cmp g.met.K.Ord.total f.pairs.items f.order.blocks c.self.invariant.0 (g.S.Sought.stands_for c.args.key.now) c.args.value c.in-Ok.spot.block c.in-Ok.spot.at (rw c.deref.ensures.value at c.in-Ok.ensures.found) c.get-place.result c.get-place.ensures c.index_mut.result.now c.index_mut.ensures.value).rising
