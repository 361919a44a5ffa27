use Rattle.std.proofs.Common.{◌≡◌, ◌+◌, length}
use Rattle.std.specs.Prelude.{All}
use Rattle.hm_gate.specs.Ready.{IsReady}
use Rattle.hm_rows_gate.proofs.adding.join_all.Given as goal

abbrev pub invariant-loop-other : goal.invariant-loop-other
invariant-loop-other l = IsReady l.gate l.seat × (l.seat.view.parts + length l.seats.items ≡ l.initial.seat.view.parts + length l.initial.seats.items) × (l.seat.view.seats ≡ l.initial.seat.view.seats)
    × All (λ s. IsReady l.gate s × (s.view.parts ≡ 1)) l.seats.items

abbrev pub decreases-loop-other : goal.decreases-loop-other
decreases-loop-other l = goal.left-loop-other l
