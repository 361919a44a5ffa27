use Rattle.std.proofs.Common.{subst, sym}
use Rattle.hm_fleet.specs.Fleet.{outside_of}
use Rattle.hm_hall.specs.Recording.{past_in}
use Rattle.hm_model.specs.Base.{IsBegun}
use Rattle.hm_model.specs.Rules.{IsLegal}
use Rattle.hm_world.specs.Scene.{WorldView, scene_of, world_of}
use Rattle.hm_world_model.specs.Safe.{IsKept}
use Rattle.hm_world_model.specs.World.{whole}
use Rattle.hm_world.proofs.Laws.{begun_whole, kept_of, legal_whole}
use Rattle.hm_world.proofs.world.World.keeps.Goals as goal

pub returns-clause-kept : goal.returns-clause-kept
returns-clause-kept g c =
    subst (λ (v : WorldView _). IsKept (world_of (scene_of g.R.Recorder.kept v))) c.self.view_is
    (kept_of (g.R.Recorder.kept c.self.inside.exec.recorder) c.self.inside.exec.claimed c.self.inside.fleet c.self.inside.due.items c.self.invariant c.claims_stand.ensures.apart c.claims_stand.ensures.able)

pub returns-clause-legal : goal.returns-clause-legal
returns-clause-legal g c =
    let kept = g.R.Recorder.kept c.self.inside.exec.recorder in
    subst (λ (v : WorldView _). IsLegal (whole (world_of (scene_of g.R.Recorder.kept v)))) c.self.view_is
    (legal_whole kept.tail (past_in kept) (outside_of c.self.inside.fleet) c.self.invariant.safe.safe c.self.invariant.safe.tailed)

pub returns-clause-begun : goal.returns-clause-begun
returns-clause-begun g c =
    let kept = g.R.Recorder.kept c.self.inside.exec.recorder in
    subst (λ (v : WorldView _). IsBegun (whole (world_of (scene_of g.R.Recorder.kept v)))) c.self.view_is
    (begun_whole kept.tail (past_in kept) (subst IsBegun (sym c.state.ensures) c.journal.ensures.begun) c.self.invariant.safe.other)
