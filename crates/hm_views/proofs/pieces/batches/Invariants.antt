use Rattle.std.proofs.Common.{◌≡◌, ◌++◌, length, map}
use Rattle.hm_data.specs.declared.args.Child.TheVariants as child_is
use Rattle.hm_model.specs.Pieces.{batches}
use Rattle.hm_views.proofs.pieces.batches.Given as goal

abbrev pub invariant-loop-rest : goal.invariant-loop-rest
invariant-loop-rest l =
    l.children.items ++ map (λ batch. child_is.Transits batch.table batch.ids l.goal) (batches l.rest)
    ≡ map (λ batch. child_is.Transits batch.table batch.ids l.goal) (batches l.regions)

abbrev pub decreases-loop-rest : goal.decreases-loop-rest
decreases-loop-rest l = length l.rest
