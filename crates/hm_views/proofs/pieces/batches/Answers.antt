use Rattle.std.proofs.Common.{arith, length, map, ◌<◌, ap}
use Rattle.std.proofs.lemmas.Grind.{common_steps}
use Rattle.hm_data.specs.declared.args.Child.TheVariants as child_is
use Rattle.hm_names.specs.Region.{Region}
use Rattle.hm_model.specs.Pieces.{batches}
use Rattle.hm_views.proofs.InPieces.{batches_cut, one_more}
use Rattle.hm_views.proofs.pieces.batches.Goals as goal

pub loop-rest-preserved : goal.loop-rest-preserved
loop-rest-preserved c =
    let rest = c.loop-rest.rest.now in
    let some : 0 < length rest = grind (arith, common_steps) in
    let behind = c.split_at.result.1.now in
    one_more c.loop-rest.children.items c.push.new.self.items c.in_ok-batch.field-0 (map (λ batch. child_is.Transits batch.table batch.ids c.args.goal) (batches rest)) (map (λ batch. child_is.Transits batch.table batch.ids c.args.goal) (batches behind)) (map (λ batch. child_is.Transits batch.table batch.ids c.args.goal) (batches c.args.regions.now)) c.in_ok-push.ensures.items (batches_cut c.args.goal rest c.split_at.result.0.now behind c.index-rest-0.result _ c.run_of-count.result c.in_ok-ids.ids.items c.in_ok-batch.field-0 some c.index-rest-0.is (ap (λ (r : Region). r.table) c.first.view_is) c.run_of-count.ensures.count c.split_at.ensures.front c.split_at.ensures.back c.in_ok-ids.ensures c.in_ok-batch.ensures) c.loop-rest.invariant
