-- Seats that may go in.
use Rattle.std.specs.Prelude.{◌≡◌}
use Rattle.atomic_table.specs.Seated.{TableId}
use Rattle.hm_gate.specs.Chair.{Chair}
use Rattle.hm_gate.specs.Gate.{IsOutside}

-- the seat is of this gate, and outside
abbrev pub IsReady : {I T : Type 0} → TableId → Chair I T → Type 0
IsReady gate seat = (seat.gate ≡ gate) × IsOutside seat.view
