use Rattle.std.proofs.Common.{◌≡◌, ◌≤◌, ◌++◌, take}
use Rattle.std.specs.List.{flat_map}
use Rattle.hm_commands.specs.Pieces.{piece_text}
use Rattle.hm_top.proofs.piece.put_all.Given as goal

abbrev pub invariant-loop-piece : goal.invariant-loop-piece
invariant-loop-piece g l = record {
  written : g.K.Sink.tells → g.K.Sink.got l.out ≡ g.K.Sink.got l.fn.out ++ flat_map piece_text (take l.piece-index l.pieces);
  later : g.K.Sink.faults l.fn.out ≤ g.K.Sink.faults l.out;
}
