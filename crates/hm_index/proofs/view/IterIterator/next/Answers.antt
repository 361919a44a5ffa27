use Rattle.std.proofs.Common.{◌+◌, ◌∙◌, length, ap, refl, sym, arith}
use Rattle.hm_index.specs.Blocks.{laid, places, picked, start}
use Rattle.hm_index.proofs.Marks.{below, length-places}
use Rattle.hm_index.proofs.Picked.{at_none, there, left_none, gives}
use Rattle.hm_index.proofs.view.IterIterator.next.Goals as goal

pub returns-in_err-place-clause-steps : goal.returns-in_err-place-clause-steps
returns-in_err-place-clause-steps g c =
    let f = c.self.inside in
    let n = start f.order.now.blocks f.spot.block + f.spot.at in
    let none = sym c.self.view_is ∙ left_none (picked f.pairs.now (places (laid f.order.now.blocks))) n (at_none f.pairs.now (places (laid f.order.now.blocks)) n c.self.invariant.0.within (sym c.next.ensures ∙ c.in_err-place.was)) in
    rw c.from_residual.ensures (none, none)

pub following-self-inside-requires-clause-more : goal.following-self-inside-requires-clause-more
following-self-inside-requires-clause-more g c =
    let f = c.self.inside in
    omega (arith, length-places (laid f.order.now.blocks), below (places (laid f.order.now.blocks)) (start f.order.now.blocks f.spot.block + f.spot.at) c.in_ok-place.place (sym c.next.ensures ∙ c.in_ok-place.was))

pub pair_at-requires : goal.pair_at-requires
pair_at-requires g c =
    let f = c.self.inside in
    there f.pairs.now (places (laid f.order.now.blocks)) (start f.order.now.blocks f.spot.block + f.spot.at) c.in_ok-place.place c.self.invariant.0.within (sym c.next.ensures ∙ c.in_ok-place.was)

pub returns-clause-steps : goal.returns-clause-steps
returns-clause-steps g c =
    let f = c.self.inside in
    let n = start f.order.now.blocks f.spot.block + f.spot.at in
    sym c.self.view_is ∙ gives f.pairs.now (places (laid f.order.now.blocks)) n c.in_ok-place.place c.pair_at.result.now c.self.invariant.0.within (sym c.next.ensures ∙ c.in_ok-place.was) c.pair_at.ensures
    ∙ rw c.following-self-inside.ensures.next refl

pub returns-clause-goes : goal.returns-clause-goes
returns-clause-goes g c =
    let f = c.self.inside in
    let n = start f.order.now.blocks f.spot.block + f.spot.at in
    let steps = sym c.self.view_is ∙ gives f.pairs.now (places (laid f.order.now.blocks)) n c.in_ok-place.place c.pair_at.result.now c.self.invariant.0.within (sym c.next.ensures ∙ c.in_ok-place.was) c.pair_at.ensures in
    record { on = λ finite. (tt, tt, rw c.following-self-inside.ensures.next (omega (arith, ap length steps))); keeps = tt; rests = λ finite. tt }
