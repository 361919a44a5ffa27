use Rattle.std.proofs.Common.{[]}
use Rattle.std.proofs.lemmas.List.Elements.{All-nil}
use Rattle.hm_batch.specs.Pieces.{pieces_of, IsPiece}
use Rattle.hm_batch.proofs.batch.Batch.new.Goals as goal

pub invariant_of-result : goal.invariant_of-result
unfolding pieces_of
invariant_of-result c = ([], record { notes_are = c.in_ok-with_capacity.ensures.items; bytes_are = c.new.ensures.items; each = All-nil IsPiece })
