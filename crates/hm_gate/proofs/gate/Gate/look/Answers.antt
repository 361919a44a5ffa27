use Rattle.std.proofs.Common.{rules, ap, ◌∙◌}
use Rattle.std.specs.Prelude.{Some}
use Rattle.hm_gate.proofs.Chairs.{waits-in}
use Rattle.hm_gate.proofs.Keeps.{looks, hand-waits, in-hand}
use Rattle.hm_gate.proofs.gate.Gate.look.Goals as goal

pub load-found-requires : goal.load-found-requires
load-found-requires g c = let k = g.V.Kept in let w = c.requires.waits in let waits = waits-in _ _ w.0 c.seat.view_is w.2 in (
  search rules,
  search rules,
  looks k.shown _ _ _ _ _ w.0 waits (c.seat.invariant.handed ∙ hand-waits c.seat.inside.place.me.0 w.0 waits),
)

pub exchange-requires : goal.exchange-requires
exchange-requires g c = let w = c.requires.waits in let waits = waits-in _ _ w.0 c.seat.view_is w.2 in let told = (c.load-found.ensures.2 w.0 waits).0 (c.if-found-ticket.true ∙ w.1) in (
  search rules,
  (Some told.0, in-hand c.load-found.new.seat.me.1 (Some told.0) (ap (λ m. m.1) told.2)),
)
