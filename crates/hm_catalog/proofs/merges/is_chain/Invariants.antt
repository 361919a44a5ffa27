use Rattle.std.proofs.Common.{◌≡◌, length}
use Rattle.hm_model.specs.Checks.{is_chain as is_chained}
use Rattle.hm_catalog.specs.Merges.{are_chained, pieces_of}
use Rattle.hm_catalog.proofs.merges.is_chain.Given as goal

abbrev pub invariant-loop-piece : goal.invariant-loop-piece
invariant-loop-piece l = is_chained l.range (pieces_of l.rest) ≡ are_chained (pieces_of l.pieces)

abbrev pub decreases-loop-piece : goal.decreases-loop-piece
decreases-loop-piece l = length l.rest
