use Rattle.std.proofs.Common.{arith, length, ◌+◌, refl}
use Rattle.hm_model.specs.Pieces.{adding}
use Rattle.hm_views.proofs.InPieces.{adding_cut, one_more}
use Rattle.hm_views.proofs.pieces.adding.Goals as goal

pub loop-rest-preserved : goal.loop-rest-preserved
loop-rest-preserved c =
    let rest = c.loop-rest.rest.now in
    let behind = c.split_at-in-loop-rest.result.1.now in
    let done = c.split_at-in-loop-rest.result.0.now in
    let next = c.loop-rest.next + length done in
    record {
      so_far = one_more c.loop-rest.children.items c.push.new.self.items c.in_ok-add_piece.field-0 (adding (length rest) c.args.table.now c.loop-rest.next rest) (adding (length behind) c.args.table.now next behind) (adding (length c.args.bounds.now) c.args.table.now c.args.first c.args.bounds.now) c.in_ok-push.ensures.items (adding_cut c.args.table.now c.loop-rest.next next rest c.split_at.result.0.now done behind c.min-in-loop-rest.result c.min.result c.in_ok-add_piece.field-0 c.loop-rest-test.true c.min.ensures c.min-in-loop-rest.ensures c.split_at.ensures.front c.split_at-in-loop-rest.ensures.front c.split_at-in-loop-rest.ensures.back refl c.in_ok-add_piece.ensures) c.loop-rest.invariant.so_far;
      low = omega (arith, c.loop-rest.invariant.low, c.split_at-in-loop-rest.ensures.back_len, c.split_at-in-loop-rest.ensures.front_len);
    }
