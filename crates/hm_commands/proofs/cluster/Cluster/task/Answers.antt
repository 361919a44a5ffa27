use Rattle.std.proofs.Common.{◌≡◌, ◌+◌, ◌++◌, ◌≤◌, List, Ok, Result, sym, ap, ◌∙◌, subst}
use Rattle.std.specs.Prelude.{IfOk, OnErr}
use Rattle.hm_data.specs.declared.entry.Entry.{Entry}
use Rattle.hm_journal.specs.View.{JournalView}
use Rattle.hm_world_model.specs.Safe.{IsKept}
use Rattle.hm_hall.specs.declared.hall.Task.{Task}
use Rattle.hm_world.specs.Scene.{WorldView, world_of}
use Rattle.hm_world.specs.Taking.{Takes}
use Rattle.hm_commands.specs.Scenes.{journal_at}
use Rattle.hm_commands.specs.Tasks.{LacksMemory, RunsTo, Works, left_to_do}
use Rattle.hm_commands.specs.View.{scene_in}
use Rattle.hm_commands.specs.declared.tasks.Worked.{Worked}
use Rattle.hm_commands.specs.declared.tasks.Worked.TheVariants as worked_is
use Rattle.hm_commands.proofs.Claims.{one_claimed}
use Rattle.hm_commands.proofs.Clusters.{carry_can, carry_lacks, carry_works, claim_lacks, idle_works, on_err_so, run_lacks, run_steps, run_works}
use Rattle.hm_commands.proofs.Ran.{ran_idle, ran_none, run_none}
use Rattle.hm_commands.proofs.Working.{step_less}
use Rattle.hm_commands.proofs.cluster.Cluster.task.Goals as goal

pub work-requires-clause-claimed : goal.work-requires-clause-claimed
work-requires-clause-claimed g c =
    let old = scene_in c.self.inside.world in
    let mid = scene_in c.take.new.world in
    let takes = subst (λ (t : Task). Takes old (Ok t) mid) c.in-Ok-Run.field-0-is c.in-Ok-Run.ensures.takes in
    one_claimed c.in-Ok-Run.taken.pid.0 c.self.inside.world.claimed c.take.new.world.claimed c.self.invariant takes.0.4

pub carry-requires-clause-can : goal.carry-requires-clause-can
carry-requires-clause-can g c =
    let old = scene_in c.self.inside.world in
    let mid = scene_in c.take.new.world in
    let takes = subst (λ (t : Task). Takes old (Ok t) mid) c.in-Ok-Carry.field-0-is c.in-Ok-Carry.ensures.takes in
    carry_can old mid mid takes

pub returns-in-Ok-Run-clause-works : goal.returns-in-Ok-Run-clause-works
returns-in-Ok-Run-clause-works g c =
    let old = scene_in c.self.inside.world in
    let mid = scene_in c.take.new.world in
    let new = scene_in c.work.new.world in
    let takes = subst (λ (t : Task). Takes old (Ok t) mid) c.in-Ok-Run.field-0-is c.in-Ok-Run.ensures.takes in
    subst (λ (w : WorldView _). IfOk c.work.result (λ worked. Works (scene_in w) worked new)) c.self.view_is
    (run_works old mid new c.in-Ok-Run.taken takes (c.work.ensures.claimed ∙ sym c.self.invariant) c.work.result c.work.ensures.runs)

pub returns-in-Ok-Run-clause-less : goal.returns-in-Ok-Run-clause-less
returns-in-Ok-Run-clause-less g c is =
    let old = scene_in c.self.inside.world in
    let mid = scene_in c.take.new.world in
    let new = scene_in c.work.new.world in
    let takes = subst (λ (t : Task). Takes old (Ok t) mid) c.in-Ok-Run.field-0-is c.in-Ok-Run.ensures.takes in
    let runs = subst (λ (r : Result Worked _). IfOk r (λ worked. RunsTo mid c.in-Ok-Run.taken worked new)) is c.work.ensures.runs in
    let steps = run_steps old mid new c.in-Ok-Run.taken takes (c.work.ensures.claimed ∙ sym c.self.invariant) worked_is.Done runs in
    let kept = subst (λ (w : WorldView _). IsKept (world_of (scene_in w))) (sym c.self.view_is) c.keeps.ensures.kept in
    subst (λ (w : WorldView _). left_to_do new + 1 ≤ left_to_do (scene_in w)) c.self.view_is (step_less old new kept steps)

pub returns-in-Ok-Run-clause-err : goal.returns-in-Ok-Run-clause-err
returns-in-Ok-Run-clause-err g c =
    let old = scene_in c.self.inside.world in
    let mid = scene_in c.take.new.world in
    let new = scene_in c.work.new.world in
    let takes = subst (λ (t : Task). Takes old (Ok t) mid) c.in-Ok-Run.field-0-is c.in-Ok-Run.ensures.takes in
    subst (λ (w : WorldView _). OnErr c.work.result (LacksMemory (scene_in w) new)) c.self.view_is
    (on_err_so c.work.result (run_lacks old mid new c.in-Ok-Run.taken takes (c.work.ensures.claimed ∙ sym c.self.invariant) c.self.invariant) c.work.ensures.err)

pub returns-in-Ok-Carry-clause-works : goal.returns-in-Ok-Carry-clause-works
returns-in-Ok-Carry-clause-works g c =
    let old = scene_in c.self.inside.world in
    let mid = scene_in c.take.new.world in
    let new = scene_in c.carry.new.world in
    let takes = subst (λ (t : Task). Takes old (Ok t) mid) c.in-Ok-Carry.field-0-is c.in-Ok-Carry.ensures.takes in
    subst (λ (w : WorldView _). IfOk c.carry.result (λ worked. Works (scene_in w) worked new)) c.self.view_is
    (carry_works old mid new takes c.carry.result c.carry.ensures.carried)

pub returns-in-Ok-Carry-clause-err : goal.returns-in-Ok-Carry-clause-err
returns-in-Ok-Carry-clause-err g c =
    let old = scene_in c.self.inside.world in
    let mid = scene_in c.take.new.world in
    let new = scene_in c.carry.new.world in
    let takes = subst (λ (t : Task). Takes old (Ok t) mid) c.in-Ok-Carry.field-0-is c.in-Ok-Carry.ensures.takes in
    let going = ap (λ (w : WorldView _). w.recorder.kept.halted) c.self.view_is ∙ c.requires.going in
    subst (λ (w : WorldView _). OnErr c.carry.result (LacksMemory (scene_in w) new)) c.self.view_is
    (on_err_so c.carry.result (carry_lacks old mid new takes going) c.carry.ensures.err)

pub returns-in-Ok-Carry-clause-ran : goal.returns-in-Ok-Carry-clause-ran
returns-in-Ok-Carry-clause-ran g c =
    let old = scene_in c.self.inside.world in
    let mid = scene_in c.take.new.world in
    let new = scene_in c.carry.new.world in
    let takes = subst (λ (t : Task). Takes old (Ok t) mid) c.in-Ok-Carry.field-0-is c.in-Ok-Carry.ensures.takes in
    let same : journal_at mid ≡ journal_at (scene_in c.args.self.now) = ap journal_at takes.0.1 ∙ ap (λ (w : WorldView _). journal_at (scene_in w)) c.self.view_is in
    let adds = c.carry.ensures.added in
    ran_none _ (journal_at (scene_in c.args.self.now)) (journal_at new) (adds.0, adds.1 ∙ ap (λ (l : List Entry). l ++ adds.0) same, adds.2) (run_none _ _)

pub returns-in-Ok-Idle-clause-works : goal.returns-in-Ok-Idle-clause-works
returns-in-Ok-Idle-clause-works g c =
    let old = scene_in c.self.inside.world in
    let mid = scene_in c.take.new.world in
    let takes = subst (λ (t : Task). Takes old (Ok t) mid) c.in-Ok-Idle.field-0-is c.in-Ok-Idle.ensures.takes in
    subst (λ (w : WorldView _). Works (scene_in w) worked_is.Idle mid) c.self.view_is (idle_works old mid c.self.invariant takes)

pub returns-in-Ok-Idle-clause-ran : goal.returns-in-Ok-Idle-clause-ran
returns-in-Ok-Idle-clause-ran g c =
    ran_idle _ (journal_at (scene_in c.args.self.now)) (journal_at (scene_in c.take.new.world))
    (ap (λ (j : JournalView _). j.kept.entries) c.take.ensures.recorder ∙ ap (λ (w : WorldView _). journal_at (scene_in w)) c.self.view_is) (run_none _ _)

pub returns-in-Err-clause-err : goal.returns-in-Err-clause-err
returns-in-Err-clause-err g c =
    let old = scene_in c.self.inside.world in
    let going = ap (λ (w : WorldView _). w.recorder.kept.halted) c.self.view_is ∙ c.requires.going in
    subst (λ (w : WorldView _). LacksMemory (scene_in w) (scene_in c.take.new.world)) c.self.view_is (claim_lacks old (scene_in c.take.new.world) c.in-Err.field-0 going c.self.invariant c.in-Err.ensures.takes)

pub returns-in-Err-clause-ran : goal.returns-in-Err-clause-ran
returns-in-Err-clause-ran g c =
    ran_idle _ (journal_at (scene_in c.args.self.now)) (journal_at (scene_in c.take.new.world))
    (ap (λ (j : JournalView _). j.kept.entries) c.take.ensures.recorder ∙ ap (λ (w : WorldView _). journal_at (scene_in w)) c.self.view_is) (run_none _ _)
