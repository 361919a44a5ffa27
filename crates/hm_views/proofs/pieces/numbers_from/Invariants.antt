use Rattle.std.proofs.Common.{◌≡◌}
use Rattle.hm_model.specs.Pieces.{numbers_from}
use Rattle.hm_views.proofs.pieces.numbers_from.Given as goal

abbrev pub invariant-loop-place : goal.invariant-loop-place
invariant-loop-place l = l.numbers.items ≡ numbers_from l.first l.place
