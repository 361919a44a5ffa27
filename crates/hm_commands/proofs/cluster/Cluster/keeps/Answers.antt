use Rattle.std.proofs.Common.{ap, ◌∙◌, subst, sym}
use Rattle.hm_model.specs.Base.{IsBegun}
use Rattle.hm_model.specs.Journal.{back}
use Rattle.hm_model.specs.Rules.{IsLegal}
use Rattle.hm_world.specs.Scene.{WorldView, past_in, world_of}
use Rattle.hm_world_model.specs.Twice.{Twice}
use Rattle.hm_commands.specs.Scenes.{whole}
use Rattle.hm_commands.specs.View.{scene_in}
use Rattle.hm_commands.proofs.Clusters.{whole_back}
use Rattle.hm_commands.proofs.cluster.Cluster.keeps.Goals as goal

pub returns-clause-once : goal.returns-clause-once
returns-clause-once g c =
    subst (λ (w : WorldView _). Twice (past_in (scene_in w)) (let at = scene_in w in at.outside) → ⊥) c.self.view_is (c.never_twice.ensures.kept (world_of (scene_in c.self.inside.world)) c.keeps.ensures.kept)

pub returns-clause-legal : goal.returns-clause-legal
returns-clause-legal g c =
    subst (λ (w : WorldView _). IsLegal (back (whole (scene_in w)))) c.self.view_is (subst IsLegal (sym (whole_back (scene_in c.self.inside.world))) c.keeps.ensures.legal)

pub returns-clause-begun : goal.returns-clause-begun
returns-clause-begun g c = subst IsBegun (sym c.state.ensures ∙ ap (λ (w : WorldView _). past_in (scene_in w)) c.self.view_is) c.journal.ensures.begun

pub returns-clause-whole : goal.returns-clause-whole
returns-clause-whole g c =
    subst (λ (w : WorldView _). IsBegun (back (whole (scene_in w)))) c.self.view_is (subst IsBegun (sym (whole_back (scene_in c.self.inside.world))) c.keeps.ensures.begun)
