use Rattle.std.proofs.Common.{rules}
use Rattle.hm_gate.proofs.Chairs.{raises-in, advances-in}
use Rattle.hm_gate.proofs.gate.Gate.leave.Goals as goal

pub store-requires : goal.store-requires
store-requires g c = let w = c.requires.inside.1 in (
  search rules,
  search rules,
  raises-in g.V.Kept.shown _ _ _ _ _ _ _ w.0 c.args.held.value (g.V.Kept.shown c.args.held.entered.value).outs c.seat.view_is c.seat.invariant.handed w.1 c.requires.may _ _ c.exchange-nothing.ensures.3 c.count-seen.ensures,
)

pub fetch_add-requires : goal.fetch_add-requires
fetch_add-requires g c = let w = c.requires.inside.1 in (
  search rules,
  search rules,
  advances-in g.V.Kept.shown _ _ _ _ _ _ _ w.0 c.args.held.value (g.V.Kept.shown c.args.held.entered.value).outs c.seat.view_is c.seat.invariant.handed w.1 c.requires.may _ _ c.exchange-nothing.ensures.3 c.store.ensures.2,
)
