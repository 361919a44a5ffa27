use Rattle.std.proofs.Common.{suc, refl, sym, ◌∙◌, subst}
use Rattle.hm_world.specs.Scene.{Scene}
use Rattle.hm_commands.specs.Scenes.{journal_at}
use Rattle.hm_commands.specs.Tasks.{IsDone, Tasks, Works}
use Rattle.hm_commands.specs.View.{scene_in}
use Rattle.hm_commands.specs.declared.tasks.Worked.{Worked}
use Rattle.hm_commands.proofs.Growth.{done_going}
use Rattle.hm_commands.proofs.Ran.{ran_idle, ran_on, run_none}
use Rattle.hm_commands.proofs.Serving.{serve_behind}
use Rattle.hm_commands.proofs.Working.{tasks_more}
use Rattle.hm_commands.proofs.cluster.Cluster.settle.Goals as goal

pub loop-why-init : goal.loop-why-init
loop-why-init g c =
    let at = scene_in c.args.self.now in
    record { tasks = (0, refl); going = c.requires.going; opened = refl; ran = ran_idle _ (journal_at at) (journal_at at) refl (run_none _ _); each = c.requires.each }

pub task-requires-clause-hands : goal.task-requires-clause-hands
task-requires-clause-hands g c =
    let old = scene_in c.args.self.now in
    let was = scene_in c.loop-why.self in
    serve_behind _ _ c.loop-why.invariant.tasks.0 old was c.requires.hands c.loop-why.invariant.ran.2.alike c.loop-why.invariant.tasks.1

pub loop-why-preserved : goal.loop-why-preserved
loop-why-preserved g c =
    let old = scene_in c.args.self.now in
    let was = scene_in c.loop-why.self in
    let new = scene_in c.task.new.self in
    let so_far = c.loop-why.invariant.tasks in
    let works = subst (λ (w : Worked). Works was w new) c.in-Ok-Done.field-0-is c.in-Ok-Done.ensures.works in
    record {
      tasks = (suc so_far.0, tasks_more so_far.0 old was new so_far.1 works);
      going = done_going was new works;
      opened = c.task.ensures.opened ∙ c.loop-why.invariant.opened;
      ran = ran_on (journal_at old) (journal_at was) (journal_at new) _ _ _ _ _ _ c.loop-why.invariant.ran c.task.ensures.ran;
      each = c.task.ensures.each;
    }

pub rested-requires : goal.rested-requires
rested-requires g c =
    let was = scene_in c.loop-why.self in
    let new = scene_in c.task.new.self in
    let idle = subst (λ (w : Worked). Works was w new) c.in-Ok-Idle.field-0-is c.in-Ok-Idle.ensures.works in
    record { done = subst IsDone (sym idle.1) idle.0 }

pub returns-in-Err-clause-comes : goal.returns-in-Err-clause-comes
returns-in-Err-clause-comes g c = (c.loop-why.invariant.tasks.0, scene_in c.loop-why.self, c.loop-why.invariant.tasks.1, c.in-Err.ensures.err)

pub returns-in-Err-clause-ran : goal.returns-in-Err-clause-ran
returns-in-Err-clause-ran g c =
    ran_on (journal_at (scene_in c.args.self.now)) (journal_at (scene_in c.loop-why.self)) (journal_at (scene_in c.task.new.self)) _ _ _ _ _ _ c.loop-why.invariant.ran c.task.ensures.ran

pub returns-in-Ok-Halted-clause-comes : goal.returns-in-Ok-Halted-clause-comes
returns-in-Ok-Halted-clause-comes g c =
    let was = scene_in c.loop-why.self in
    let new = scene_in c.task.new.self in
    (c.loop-why.invariant.tasks.0, was, c.loop-why.invariant.tasks.1, subst (λ (w : Worked). Works was w new) c.in-Ok-Halted.field-0-is c.in-Ok-Halted.ensures.works)

pub returns-in-Ok-Halted-clause-ran : goal.returns-in-Ok-Halted-clause-ran
returns-in-Ok-Halted-clause-ran g c =
    ran_on (journal_at (scene_in c.args.self.now)) (journal_at (scene_in c.loop-why.self)) (journal_at (scene_in c.task.new.self)) _ _ _ _ _ _ c.loop-why.invariant.ran c.task.ensures.ran

pub returns-in-Ok-Idle-clause-comes : goal.returns-in-Ok-Idle-clause-comes
returns-in-Ok-Idle-clause-comes g c =
    let old = scene_in c.args.self.now in
    let was = scene_in c.loop-why.self in
    let new = scene_in c.task.new.self in
    let idle = subst (λ (w : Worked). Works was w new) c.in-Ok-Idle.field-0-is c.in-Ok-Idle.ensures.works in
    c.rested.ensures old c.loop-why.invariant.tasks.0 (subst (λ (s : Scene). Tasks c.loop-why.invariant.tasks.0 old s) (sym idle.1) c.loop-why.invariant.tasks.1)

pub returns-in-Ok-Idle-clause-ran : goal.returns-in-Ok-Idle-clause-ran
returns-in-Ok-Idle-clause-ran g c =
    ran_on (journal_at (scene_in c.args.self.now)) (journal_at (scene_in c.loop-why.self)) (journal_at (scene_in c.task.new.self)) _ _ _ _ _ _ c.loop-why.invariant.ran c.task.ensures.ran
