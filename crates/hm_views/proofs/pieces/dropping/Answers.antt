use Rattle.std.proofs.Common.{arith, length, ◌<◌}
use Rattle.std.proofs.lemmas.Grind.{common_steps}
use Rattle.hm_model.specs.Pieces.{dropping}
use Rattle.hm_views.proofs.InPieces.{dropping_cut, one_more}
use Rattle.hm_views.proofs.pieces.dropping.Goals as goal

pub loop-rest-preserved : goal.loop-rest-preserved
loop-rest-preserved c =
    let ids = c.loop-rest.rest.now in
    let some : 0 < length ids = grind (arith, common_steps) in
    let behind = c.split_at.result.1.now in
    one_more c.loop-rest.children.items c.push.new.self.items c.in_ok-drop_piece.field-0 (dropping c.args.table.now ids) (dropping c.args.table.now behind) (dropping c.args.table.now c.args.ids.now) c.in_ok-push.ensures.items (dropping_cut c.args.table.now ids c.split_at.result.0.now behind c.min.result c.in_ok-drop_piece.field-0 some c.min.ensures c.split_at.ensures.front c.split_at.ensures.back c.in_ok-drop_piece.ensures) c.loop-rest.invariant
