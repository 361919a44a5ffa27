use Rattle.std.proofs.Common.{◌≡◌, ◌+◌, ◌≤◌, ◌++◌, length}
use Rattle.hm_model.specs.Pieces.{adding}
use Rattle.hm_views.proofs.pieces.adding.Given as goal

abbrev pub invariant-loop-rest : goal.invariant-loop-rest
invariant-loop-rest l = record {
  so_far : l.children.items ++ adding (length l.rest) l.table l.next l.rest ≡ adding (length l.bounds) l.table l.first l.bounds;
  low : l.next + length l.rest ≤ l.first + length l.bounds;
}

abbrev pub decreases-loop-rest : goal.decreases-loop-rest
decreases-loop-rest l = length l.rest
