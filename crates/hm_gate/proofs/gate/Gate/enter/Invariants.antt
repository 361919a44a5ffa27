use Rattle.std.proofs.Common.{◌≡◌}
use Rattle.hm_gate.proofs.gate.Gate.enter.Given as goal

abbrev pub invariant-loop : goal.invariant-loop
invariant-loop g l = (l.seat.gate ≡ l.initial.seat.gate) × (l.seat.view ≡ l.initial.seat.view)
