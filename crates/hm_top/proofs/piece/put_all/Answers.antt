use Rattle.std.proofs.Common.{subst}
use Rattle.hm_commands.specs.Pieces.{piece_text}
use Rattle.hm_commands.specs.declared.piece.Piece.{Piece}
use Rattle.hm_top.specs.Got.{IsPartOf}
use Rattle.hm_top.proofs.Pieces.{on_err, written_part}
use Rattle.hm_top.proofs.piece.put_all.Goals as goal

pub returns-in_err-put-clause-part : goal.returns-in_err-put-clause-part
returns-in_err-put-clause-part g c told =
    let k = g.K.Sink in
    on_err _
    (written_part c.args.pieces.now c.loop-piece.piece-index (k.got c.args.out.now) (k.got c.loop-piece.out) (k.got c.put.new.out) c.loop-piece-test.true (c.loop-piece.invariant.written told) c.piece-item.result
    (subst (λ (p : Piece). IsPartOf (k.got c.loop-piece.out) (k.got c.put.new.out) (piece_text p)) c.piece-item.is (c.in_err-put.ensures.part told)))
