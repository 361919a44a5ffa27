use Rattle.std.proofs.Common.{◌≤◌, length, map}
use Rattle.std.specs.List.{AllByRecursion}
use Rattle.hm_rows_sheets.proofs.asks.have_ids.Given as goal

abbrev pub invariant-loop-rest : goal.invariant-loop-rest
invariant-loop-rest l = AllByRecursion (λ id. 1 ≤ id) (map (λ region. region.id) l.rest) → AllByRecursion (λ id. 1 ≤ id) (map (λ region. region.id) l.regions)

abbrev pub decreases-loop-rest : goal.decreases-loop-rest
decreases-loop-rest l = length l.rest
