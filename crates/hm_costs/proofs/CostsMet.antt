-- Each cost is met by a root of a journal that is played.
use Rattle.hm_costs.proofs.MetOne as one
use Rattle.hm_costs.proofs.MetThree as three
use Rattle.hm_costs.proofs.MetTwo as two
use Rattle.hm_costs.proofs.MetTested.{all_met, root}
use Rattle.hm_costs.specs.Met.{CostsAreMet}
use Rattle.std.proofs.Common.{[], ◌∷◌, refl}

pub costs_are_met_is : CostsAreMet
costs_are_met_is = all_met (
    root one.deleted one.deleted_played 12 1 3
    ∷ root one.deleted one.deleted_played 13 2 3
    ∷ root one.created one.created_played 1 3 18
    ∷ root one.deleted one.deleted_played 10 4 5
    ∷ root one.moved one.moved_played 9 5 11
    ∷ root one.disabled one.disabled_played 6 6 10
    ∷ root one.deleted one.deleted_played 9 7 3
    ∷ root one.merged one.merged_played 6 8 27
    ∷ root one.merged one.merged_played 14 9 26
    ∷ root one.moved one.moved_played 12 10 13
    ∷ root one.crashed one.crashed_played 6 11 13
    ∷ root one.undone one.undone_played 11 10 7
    ∷ root one.undone one.undone_played 10 27 4
    ∷ root two.created two.created_played 1 3 24
    ∷ root two.enabled two.enabled_played 13 5 17
    ∷ root two.enabled two.enabled_played 8 6 15
    ∷ root two.crashed two.crashed_played 8 11 19
    ∷ root three.merged three.merged_played 10 9 31
    ∷ []
    ) refl
