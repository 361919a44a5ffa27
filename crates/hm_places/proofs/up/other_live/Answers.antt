use Rattle.std.proofs.Common.{◌∙◌, ap, not, sym}
use Rattle.std.specs.List.{list_any}
use Rattle.hm_model.specs.Fleet.{same_server}
use Rattle.hm_places.proofs.Live.{live_are}
use Rattle.hm_places.proofs.Newer.{other_met, other_none}
use Rattle.hm_places.proofs.up.other_live.Goals as goal

pub returns : goal.returns
returns c =
    sym (other_none c.args.rows.now.came c.args.server.now c.args.live.now c.loop-number.number-index c.loop-number-test.false) ∙ c.loop-number.invariant
    ∙ ap (list_any (λ other. not (same_server c.args.server.now other))) (live_are c.args.rows.now.came c.args.rows.now.pairs c.args.live.now c.requires.live c.requires.rising)

pub returns-in-loop-number : goal.returns-in-loop-number
returns-in-loop-number c =
    sym (other_met c.args.rows.now.came c.args.server.now c.in-Some.field-0.now c.args.live.now c.loop-number.number-index c.loop-number-test.true (sym c.in-Some.ensures) (sym c.is_one.ensures ∙ c.if-not-is_one.true)) ∙ c.loop-number.invariant
    ∙ ap (list_any (λ other. not (same_server c.args.server.now other))) (live_are c.args.rows.now.came c.args.rows.now.pairs c.args.live.now c.requires.live c.requires.rising)
