use Rattle.std.proofs.Common.{rules}
use Rattle.hm_gate.proofs.Chairs.{out-in, parts-in}
use Rattle.hm_gate.proofs.Ends.{cuts}
use Rattle.hm_gate.proofs.gate.Gate.split_seat.Goals as goal

pub split_seat-place-requires : goal.split_seat-place-requires
split_seat-place-requires g c = let k = g.V.Kept in (search rules, search rules, cuts k.shown _ _ _ _ (out-in _ _ c.seat.view_is c.requires.out) (parts-in _ _ c.seat.view_is c.requires.parts))
