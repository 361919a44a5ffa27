use Rattle.std.proofs.Common.{rules}
use Rattle.hm_gate.proofs.Chairs.{out-in}
use Rattle.hm_gate.proofs.Keeps.{draws}
use Rattle.hm_gate.proofs.gate.Gate.draw.Goals as goal

pub fetch_add-requires : goal.fetch_add-requires
fetch_add-requires g c = let k = g.V.Kept in (search rules, search rules, draws k.shown _ _ _ _ _ (out-in _ _ c.seat.view_is c.requires.out) c.seat.invariant.unspent)
