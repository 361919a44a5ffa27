use Rattle.std.proofs.Common.{◌≡◌, ◌+◌, length, ap, arith}
use Rattle.hm_index.specs.Index.{IndexView}
use Rattle.hm_index.specs.Blocks.{laid, start}
use Rattle.hm_index.proofs.Marks.{tied_hints, hinted-set, hinted-insert}
use Rattle.hm_index.proofs.Places.{slice_get-push, slice_get-end}
use Rattle.hm_index.proofs.Written.{put_over, put_in}
use Rattle.hm_index.proofs.index.Index.put.Goals as goal

pub invariant_of-self : goal.invariant_of-self
invariant_of-self g c =
    let f = c.self.inside in
    let new = put_over g.K.Ord.cmp g.met.K.Ord.total f.pairs.items f.order.blocks c.self.invariant.0 c.args.key c.args.value c.in-Ok.spot.block c.in-Ok.spot.at (rw c.deref.ensures.value at c.in-Ok.ensures.found) c.get-place.result c.get-place.ensures in
    let hint = tied_hints g.K.Ord.cmp g.met.K.Ord.total g.K.Hinted.hint_of g.met.K.Hinted.rises _ c.args.key new.tie in
    (new.kept, hinted-set g.K.Hinted.hint_of f.pairs.items (laid f.order.blocks) c.get-place.result (c.args.key, c.args.value) (c.args.key, c.args.value) hint c.self.invariant.1)

pub returns-in-Ok-clause-order : goal.returns-in-Ok-clause-order
returns-in-Ok-clause-order g c =
    let f = c.self.inside in
    let same = ap (λ (t : IndexView _ _). t.pairs) c.self.view_is in
    rw (← same) (put_over g.K.Ord.cmp g.met.K.Ord.total f.pairs.items f.order.blocks c.self.invariant.0 c.args.key c.args.value c.in-Ok.spot.block c.in-Ok.spot.at (rw c.deref.ensures.value at c.in-Ok.ensures.found) c.get-place.result c.get-place.ensures).order

pub returns-in-Ok-clause-pairs : goal.returns-in-Ok-clause-pairs
returns-in-Ok-clause-pairs g c =
    let f = c.self.inside in
    let same = ap (λ (t : IndexView _ _). t.pairs) c.self.view_is in
    rw (← same) (put_over g.K.Ord.cmp g.met.K.Ord.total f.pairs.items f.order.blocks c.self.invariant.0 c.args.key c.args.value c.in-Ok.spot.block c.in-Ok.spot.at (rw c.deref.ensures.value at c.in-Ok.ensures.found) c.get-place.result c.get-place.ensures).found

pub returns-in-Ok-clause-rising : goal.returns-in-Ok-clause-rising
returns-in-Ok-clause-rising g c =
    let f = c.self.inside in
    (put_over g.K.Ord.cmp g.met.K.Ord.total f.pairs.items f.order.blocks c.self.invariant.0 c.args.key c.args.value c.in-Ok.spot.block c.in-Ok.spot.at (rw c.deref.ensures.value at c.in-Ok.ensures.found) c.get-place.result c.get-place.ensures).rising

pub invariant_of-self-in-Err : goal.invariant_of-self-in-Err
invariant_of-self-in-Err g c =
    let f = c.self.inside in
    let count : c.len-place.result ≡ length f.pairs.items = omega (arith, c.len-place.ensures, f.pairs.ok.0) in (
      rw (c.insert.ensures.order, c.push_reserved.ensures.items, count) (put_in g.K.Ord.cmp g.met.K.Ord.total f.pairs.items f.order.blocks c.self.invariant.0 c.args.key c.args.value c.in-Err.spot.block c.in-Err.spot.at (rw c.deref.ensures.value at c.in-Err.ensures.absent) c.own_hint-hint.result).kept,
      rw (c.insert.ensures.order, c.push_reserved.ensures.items, count, c.own_hint-hint.ensures) (hinted-insert g.K.Hinted.hint_of f.pairs.items (laid f.order.blocks) (start f.order.blocks c.in-Err.spot.block + c.in-Err.spot.at) (c.args.key, c.args.value) c.self.invariant.1),
    )

pub returns-in-Err-clause-order : goal.returns-in-Err-clause-order
returns-in-Err-clause-order g c =
    let f = c.self.inside in
    let same = ap (λ (t : IndexView _ _). t.pairs) c.self.view_is in
    let count : c.len-place.result ≡ length f.pairs.items = omega (arith, c.len-place.ensures, f.pairs.ok.0) in
    rw (c.insert.ensures.order, c.push_reserved.ensures.items, count, ← same) (put_in g.K.Ord.cmp g.met.K.Ord.total f.pairs.items f.order.blocks c.self.invariant.0 c.args.key c.args.value c.in-Err.spot.block c.in-Err.spot.at (rw c.deref.ensures.value at c.in-Err.ensures.absent) c.own_hint-hint.result).order

pub returns-in-Err-clause-pairs : goal.returns-in-Err-clause-pairs
returns-in-Err-clause-pairs g c =
    let f = c.self.inside in
    let same = ap (λ (t : IndexView _ _). t.pairs) c.self.view_is in
    let count : c.len-place.result ≡ length f.pairs.items = omega (arith, c.len-place.ensures, f.pairs.ok.0) in
    rw (c.insert.ensures.order, c.push_reserved.ensures.items, count, ← same) (put_in g.K.Ord.cmp g.met.K.Ord.total f.pairs.items f.order.blocks c.self.invariant.0 c.args.key c.args.value c.in-Err.spot.block c.in-Err.spot.at (rw c.deref.ensures.value at c.in-Err.ensures.absent) c.own_hint-hint.result).found

pub returns-in-Err-clause-came : goal.returns-in-Err-clause-came
returns-in-Err-clause-came g c = λ n.
    let f = c.self.inside in
    let same = ap (λ (t : IndexView _ _). t.came) c.self.view_is in
    let count : c.len-place.result ≡ length f.pairs.items = omega (arith, c.len-place.ensures, f.pairs.ok.0) in
    rw (c.push_reserved.ensures.items, count, ← same) (slice_get-push f.pairs.items (c.args.key, c.args.value) n)

pub returns-in-Err-clause-same : goal.returns-in-Err-clause-same
returns-in-Err-clause-same g c =
    let f = c.self.inside in
    let same = ap (λ (t : IndexView _ _). t.came) c.self.view_is in
    let count : c.len-place.result ≡ length f.pairs.items = omega (arith, c.len-place.ensures, f.pairs.ok.0) in
    rw (count, ← same, slice_get-end f.pairs.items) tt

pub returns-in-Err-clause-known : goal.returns-in-Err-clause-known
returns-in-Err-clause-known g c = λ known.
    let f = c.self.inside in
    let same = ap (λ (t : IndexView _ _). t.pairs) c.self.view_is in
    let new = put_in g.K.Ord.cmp g.met.K.Ord.total f.pairs.items f.order.blocks c.self.invariant.0 c.args.key c.args.value c.in-Err.spot.block c.in-Err.spot.at (rw c.deref.ensures.value at c.in-Err.ensures.absent) c.own_hint-hint.result in
    let found = rw (← same, new.none) at known in
    cc

pub returns-in-Err-clause-rising : goal.returns-in-Err-clause-rising
returns-in-Err-clause-rising g c =
    let f = c.self.inside in
    let count : c.len-place.result ≡ length f.pairs.items = omega (arith, c.len-place.ensures, f.pairs.ok.0) in
    rw (c.insert.ensures.order, c.push_reserved.ensures.items, count) (put_in g.K.Ord.cmp g.met.K.Ord.total f.pairs.items f.order.blocks c.self.invariant.0 c.args.key c.args.value c.in-Err.spot.block c.in-Err.spot.at (rw c.deref.ensures.value at c.in-Err.ensures.absent) c.own_hint-hint.result).rising
