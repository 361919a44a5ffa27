use Rattle.std.proofs.Common.{◌≡◌, ◌+◌, [], ◌∷◌, length}
use Rattle.std.specs.Prelude.{All}
use Rattle.hm_gate.specs.Ready.{IsReady}
use Rattle.hm_sheet.specs.Own.{own_sheet}
use Rattle.hm_workers.specs.Ends.{IsFree, Knows}
use Rattle.hm_rows_workers.specs.Tasks.{in_each}
use Rattle.hm_rows_workers.proofs.runs.join_all.Given as goal

abbrev pub invariant-loop-other : goal.invariant-loop-other
invariant-loop-other l = IsReady l.gate l.seat × (l.seat.view.parts + length l.pairs.items ≡ l.initial.seat.view.parts + length l.initial.pairs.items) × (l.seat.view.seats ≡ l.initial.seat.view.seats)
    × All (λ p. IsReady l.gate p.0 × IsFree p.0.view × (p.0.view.parts ≡ 1) × Knows (λ _. in_each (own_sheet 26 ∷ [])) p.0.view (in_each p.1.sheets)) l.pairs.items

abbrev pub decreases-loop-other : goal.decreases-loop-other
decreases-loop-other l = goal.left-loop-other l
