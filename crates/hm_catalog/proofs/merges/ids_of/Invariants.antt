use Rattle.std.proofs.Common.{◌≡◌, ◌++◌, drop, map}
use Rattle.hm_catalog.specs.Merges.{pieces_of}
use Rattle.hm_catalog.proofs.merges.ids_of.Given as goal

abbrev pub invariant-loop-piece : goal.invariant-loop-piece
invariant-loop-piece l = l.ids.items ++ map (λ part. part.id) (pieces_of (drop l.piece-index l.pieces)) ≡ map (λ part. part.id) (pieces_of l.pieces)
