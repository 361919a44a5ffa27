use Rattle.std.proofs.Common.{◌∙◌, sym}
use Rattle.hm_index.specs.Blocks.{laid, places}
use Rattle.hm_index.proofs.Picked.{at_none, there, stands}
use Rattle.hm_index.proofs.view.View.get.Goals as goal

pub returns-in_err-place : goal.returns-in_err-place
returns-in_err-place g c =
    let f = c.self.inside in
    rw (c.from_residual.ensures, ← c.self.view_is) (sym (at_none f.pairs.now (places (laid f.order.now.blocks)) c.args.number c.self.invariant.within (sym c.at.ensures ∙ c.in_err-place.was)))

pub pair_at-requires : goal.pair_at-requires
pair_at-requires g c =
    let f = c.self.inside in
    there f.pairs.now (places (laid f.order.now.blocks)) c.args.number c.in_ok-place.place c.self.invariant.within (sym c.at.ensures ∙ c.in_ok-place.was)

pub returns : goal.returns
returns g c =
    let f = c.self.inside in
    rw (← c.self.view_is) (sym (stands f.pairs.now (places (laid f.order.now.blocks)) c.args.number c.in_ok-place.place c.pair_at.result.now c.self.invariant.within (sym c.at.ensures ∙ c.in_ok-place.was) c.pair_at.ensures))
