use Rattle.std.proofs.Common.{◌≡◌, ◌++◌, length}
use Rattle.hm_model.specs.Pieces.{dropping}
use Rattle.hm_views.proofs.pieces.dropping.Given as goal

abbrev pub invariant-loop-rest : goal.invariant-loop-rest
invariant-loop-rest l = l.children.items ++ dropping l.table l.rest ≡ dropping l.table l.ids

abbrev pub decreases-loop-rest : goal.decreases-loop-rest
decreases-loop-rest l = length l.rest
