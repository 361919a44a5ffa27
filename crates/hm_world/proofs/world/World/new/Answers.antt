use Rattle.std.proofs.Common.{ap, subst, sym}
use Rattle.hm_fleet.specs.Fleet.{outside_of}
use Rattle.hm_model.specs.Journal.{Past}
use Rattle.hm_model.specs.Rules.{IsLegal}
use Rattle.hm_world_model.specs.World.{shown_storage}
use Rattle.hm_world.specs.Sound.{HaveDue, IsSound}
use Rattle.hm_world.proofs.Keeps.{sound_opened}
use Rattle.hm_world.proofs.world.World.new.Goals as goal

pub invariant_of-result : goal.invariant_of-result
invariant_of-result g c =
    let kept = g.R.Recorder.kept c.args.recorder in
    let fleet = c.in-Ok.fleet in
    let due = c.in-Ok.due in
    subst (λ r. IsSound (g.R.Recorder.kept r) fleet due.items) (sym c.in-Ok-new.ensures.recorder)
    (sound_opened kept fleet due.items (shown_storage c.args.state.past) c.requires.going c.requires.tailless
    (subst IsLegal (sym c.requires.same) c.journal.ensures.legal)
    (ap shown_storage c.requires.same)
    c.in-Ok.ensures.outside c.in-Ok.ensures.still.0 c.in-Ok.ensures.still.1
    (subst (λ (J : Past). HaveDue J (outside_of fleet) due.items) (sym c.requires.same) c.in-Ok.ensures.due))
