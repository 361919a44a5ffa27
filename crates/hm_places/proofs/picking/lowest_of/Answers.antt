use Rattle.std.proofs.Common.{◌∙◌, ap}
use Rattle.std.specs.Option.{option_copied}
use Rattle.hm_model.specs.Loads.{load_in}
use Rattle.hm_model.specs.Choice.{lowest, without}
use Rattle.hm_places.proofs.Live.{live_are}
use Rattle.hm_places.proofs.Lowest.{none_left}
use Rattle.hm_places.proofs.picking.lowest_of.Goals as goal

pub returns-in-Some-best : goal.returns-in-Some-best
returns-in-Some-best c =
    let rest = none_left c.args.live.now c.loop-number.number-index c.loop-number-test.false in
    let last = rw (rest, c.in-Some-best.is) at c.loop-number.invariant.lowest in
    last ∙ ap (λ names. lowest (load_in c.args.places.now.places) (without (option_copied c.args.avoid) names)) (live_are c.args.rows.now.came c.args.rows.now.pairs c.args.live.now c.requires.live c.requires.rising)

pub returns-in-None : goal.returns-in-None
returns-in-None c =
    let rest = none_left c.args.live.now c.loop-number.number-index c.loop-number-test.false in
    let last = rw (rest, c.in-None.is) at c.loop-number.invariant.lowest in
    last ∙ ap (λ names. lowest (load_in c.args.places.now.places) (without (option_copied c.args.avoid) names)) (live_are c.args.rows.now.came c.args.rows.now.pairs c.args.live.now c.requires.live c.requires.rising)
