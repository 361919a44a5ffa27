use Rattle.std.proofs.Common.{◌≡◌, ◌+◌, ℕ, suc, refl, sym, ◌∙◌, subst, arith}
use Rattle.hm_world.specs.Scene.{Scene}
use Rattle.hm_commands.specs.Scenes.{journal_at}
use Rattle.hm_commands.specs.Tasks.{IsDone, Tasks, Works}
use Rattle.hm_commands.specs.View.{scene_in}
use Rattle.hm_commands.specs.declared.tasks.Worked.{Worked}
use Rattle.hm_commands.proofs.Growth.{done_going}
use Rattle.hm_commands.proofs.Ran.{ran_idle, ran_on, run_none}
use Rattle.hm_commands.proofs.Serving.{serve_behind}
use Rattle.hm_commands.proofs.Working.{tasks_more}
use Rattle.hm_commands.proofs.cluster.Cluster.step.Goals as goal

pub loop-done-init : goal.loop-done-init
loop-done-init g c =
    let at = scene_in c.args.self.now in
    record { tasks = refl; within = omega arith; going = c.requires.going; opened = refl; ran = ran_idle _ (journal_at at) (journal_at at) refl (run_none _ _); each = c.requires.each }

pub task-requires-clause-hands : goal.task-requires-clause-hands
task-requires-clause-hands g c =
    let old = scene_in c.args.self.now in
    let was = scene_in c.loop-done.self in
    serve_behind _ _ c.loop-done.done old was c.requires.hands c.loop-done.invariant.ran.2.alike c.loop-done.invariant.tasks

pub loop-done-preserved : goal.loop-done-preserved
loop-done-preserved g c =
    let old = scene_in c.args.self.now in
    let was = scene_in c.loop-done.self in
    let new = scene_in c.task.new.self in
    let works = subst (λ (w : Worked). Works was w new) c.in-Ok-Done.field-0-is c.in-Ok-Done.ensures.works in
    let next : suc c.loop-done.done ≡ c.loop-done.done + 1 = omega arith in
    record {
      tasks = subst (λ (n : ℕ). Tasks n old new) next (tasks_more c.loop-done.done old was new c.loop-done.invariant.tasks works);
      within = let below = c.loop-done-test.true in omega (arith, below);
      going = done_going was new works;
      opened = c.task.ensures.opened ∙ c.loop-done.invariant.opened;
      ran = ran_on (journal_at old) (journal_at was) (journal_at new) _ _ _ _ _ _ c.loop-done.invariant.ran c.task.ensures.ran;
      each = c.task.ensures.each;
    }

pub returns-in-Err-clause-comes : goal.returns-in-Err-clause-comes
returns-in-Err-clause-comes g c = (c.loop-done.done, scene_in c.loop-done.self, c.loop-done.invariant.tasks, c.loop-done-test.true, c.in-Err.ensures.err)

pub returns-in-Err-clause-ran : goal.returns-in-Err-clause-ran
returns-in-Err-clause-ran g c =
    ran_on (journal_at (scene_in c.args.self.now)) (journal_at (scene_in c.loop-done.self)) (journal_at (scene_in c.task.new.self)) _ _ _ _ _ _ c.loop-done.invariant.ran c.task.ensures.ran

pub returns-in-Ok-Halted-clause-comes : goal.returns-in-Ok-Halted-clause-comes
returns-in-Ok-Halted-clause-comes g c =
    let was = scene_in c.loop-done.self in
    let new = scene_in c.task.new.self in
    (c.loop-done.done, was, c.loop-done.invariant.tasks, c.loop-done-test.true, subst (λ (w : Worked). Works was w new) c.in-Ok-Halted.field-0-is c.in-Ok-Halted.ensures.works)

pub returns-in-Ok-Halted-clause-ran : goal.returns-in-Ok-Halted-clause-ran
returns-in-Ok-Halted-clause-ran g c =
    ran_on (journal_at (scene_in c.args.self.now)) (journal_at (scene_in c.loop-done.self)) (journal_at (scene_in c.task.new.self)) _ _ _ _ _ _ c.loop-done.invariant.ran c.task.ensures.ran

pub returns-in-Ok-Idle-clause-comes : goal.returns-in-Ok-Idle-clause-comes
returns-in-Ok-Idle-clause-comes g c =
    let old = scene_in c.args.self.now in
    let was = scene_in c.loop-done.self in
    let new = scene_in c.task.new.self in
    let idle = subst (λ (w : Worked). Works was w new) c.in-Ok-Idle.field-0-is c.in-Ok-Idle.ensures.works in
    let below = c.loop-done-test.true in (
      subst (λ (s : Scene). Tasks c.loop-done.done old s) (sym idle.1) c.loop-done.invariant.tasks,
      omega (arith, below),
      λ less. subst IsDone (sym idle.1) idle.0,
      c.counted.ensures.count,
    )

pub returns-in-Ok-Idle-clause-ran : goal.returns-in-Ok-Idle-clause-ran
returns-in-Ok-Idle-clause-ran g c =
    ran_on (journal_at (scene_in c.args.self.now)) (journal_at (scene_in c.loop-done.self)) (journal_at (scene_in c.task.new.self)) _ _ _ _ _ _ c.loop-done.invariant.ran c.task.ensures.ran

pub returns-clause-comes : goal.returns-clause-comes
returns-clause-comes g c =
    let over = c.loop-done-test.false in
    let new = scene_in c.loop-done.self in
    (c.loop-done.invariant.tasks, c.loop-done.invariant.within, λ less. absurd {A = IsDone new} (omega (arith, less, over)), c.counted-2.ensures.count)
