use Rattle.std.proofs.Common.{◌≡◌, ◌+◌, drop}
use Rattle.hm_views.specs.Runs.{leading}
use Rattle.hm_views.proofs.pieces.run_of.Given as goal

abbrev pub invariant-loop-place : goal.invariant-loop-place
invariant-loop-place l = leading l.table l.regions ≡ l.place + leading l.table (drop l.place l.regions)
