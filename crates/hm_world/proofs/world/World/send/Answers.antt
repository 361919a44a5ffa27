use Rattle.std.proofs.Common.{Some, ◌≡◌, ◌∙◌, ap, subst, sym}
use Rattle.hm_hall.specs.Recording.{halt_of}
use Rattle.hm_model.specs.Journal.{Past}
use Rattle.hm_model.specs.Reports.{call_of}
use Rattle.hm_names.specs.declared.pid.Pid.{Pid}
use Rattle.hm_world.specs.Scene.{WorldView}
use Rattle.hm_world.proofs.Keeps.{sound_sent}
use Rattle.hm_world.proofs.world.World.send.Goals as goal

pub invariant_of-self-2 : goal.invariant_of-self-2
invariant_of-self-2 g c =
    let kept = g.R.Recorder.kept in
    let call = c.in_ok-call.call in
    let going = ap (λ (v : WorldView _). halt_of (kept v.recorder)) c.self.view_is ∙ ap (λ r. halt_of (kept r)) c.first_due.ensures.recorder ∙ c.requires.going in
    let recorded = subst (λ (p : Pid). call_of c.state.result.now.past p.0 ≡ Some call) (sym c.in_ok-call.ensures.id) c.in_ok-call.ensures.recorded in
    sound_sent (kept c.self.inside.exec.recorder) c.self.inside.fleet c.send.new.self c.self.inside.due.items c.self.invariant going call
    (subst (λ (J : Past). call_of J call.id.0 ≡ Some call) (sym c.state.ensures) recorded) c.in_ok-send.ensures.wire c.in_ok-send.ensures.outside c.in_ok-send.ensures.waiting
