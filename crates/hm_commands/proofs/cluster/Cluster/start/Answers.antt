use Rattle.std.proofs.Common.{Err, refl, sym, ap, ◌∙◌, subst}
use Rattle.hm_exec.specs.Fleet.{CanUp, CannotUp}
use Rattle.hm_exec.specs.declared.answers.UpWhy.TheVariants as up_why
use Rattle.hm_model.specs.Journal.{Past}
use Rattle.hm_world.specs.Scene.{WorldView, past_in}
use Rattle.hm_commands.specs.View.{scene_in}
use Rattle.hm_commands.proofs.cluster.Cluster.start.Goals as goal

pub start_new-requires-clause-can : goal.start_new-requires-clause-can
start_new-requires-clause-can g c =
    subst (λ (J : Past). CanUp J c.args.server) (sym c.state.ensures ∙ ap (λ (w : WorldView _). past_in (scene_in w)) c.self.view_is) c.in-Ok.ensures.can

pub returns-in-Err-clause-comes : goal.returns-in-Err-clause-comes
returns-in-Err-clause-comes g c =
    let cannot = subst (λ (J : Past). CannotUp J c.args.server c.in-Err.why) (sym c.state.ensures ∙ ap (λ (w : WorldView _). past_in (scene_in w)) c.self.view_is) c.in-Err.ensures.cannot in
    (Err (up_why.Up c.in-Err.why), ((c.requires.going, cannot, refl), refl), sym c.tell_up.ensures)
