use Rattle.std.proofs.Common.{rules, subst, sym, ◌∙◌}
use Rattle.std.specs.Prelude.{IsSome}
use Rattle.hm_gate.specs.Seats.{Ends}
use Rattle.hm_gate.proofs.Chairs.{out-in, whole-in, ends-out}
use Rattle.hm_gate.proofs.Ends.{ends-taken}
use Rattle.hm_gate.proofs.Keeps.{some-one}
use Rattle.hm_gate.proofs.gate.Gate.close.Goals as goal

pub unwrap-value-requires : goal.unwrap-value-requires
unwrap-value-requires g c = let k = g.V.Kept in
    let r = ends-taken k.shown _ _ _ c.seat.inside.place.me.0 _ _ _ (out-in _ _ c.seat.view_is c.requires.out) (whole-in _ _ c.seat.view_is c.requires.whole) c.seat.invariant.unspent c.close_with-closed.ensures.values.2 c.take.ensures.value in
    subst (λ o. IsSome o) (sym r.1) (search rules)

pub returns : goal.returns
returns g c = let k = g.V.Kept in
    let r = ends-taken k.shown _ _ _ c.seat.inside.place.me.0 _ _ _ (out-in _ _ c.seat.view_is c.requires.out) (whole-in _ _ c.seat.view_is c.requires.whole) c.seat.invariant.unspent c.close_with-closed.ensures.values.2 c.take.ensures.value in
    ends-out k.shown _ _ _ c.seat.view_is (subst (λ x. Ends k.shown c.seat.inside.place.me.0 x) (some-one _ _ (sym r.1 ∙ c.unwrap-value.ensures)) r.2)
