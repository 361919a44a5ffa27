use Rattle.std.proofs.Common.{◌≡◌, ◌-◌, ◌+◌, ◌≤◌, length}
use Rattle.std.specs.Prelude.{All}
use Rattle.hm_gate.specs.Ready.{IsReady}
use Rattle.hm_rows_gate.proofs.adding.cut.Given as goal

abbrev pub invariant-loop-made : goal.invariant-loop-made
invariant-loop-made l = (l.made ≤ l.count) × IsReady l.gate l.seat × (l.seat.view.parts + l.made ≡ l.count + 1) × (l.seat.view.seats ≡ l.initial.seat.view.seats)
    × All (λ s. IsReady l.gate s × (s.view.parts ≡ 1)) l.seats.items × (length l.seats.items ≡ l.made)

abbrev pub decreases-loop-made : goal.decreases-loop-made
decreases-loop-made l = l.count - l.made
