-- Tasks: what the run does for `step` and `settle`.
use Rattle.std.specs.Prelude.{◌≡◌, ◌⊎◌, ◌+◌, ◌*◌, ◌-◌, ℕ, zero, suc, Some, Ok, Err, true}
use Rattle.hm_data.specs.declared.step.StepOut.{StepOut}
use Rattle.hm_hall.specs.Recording.{bytes_of}
use Rattle.hm_hall.specs.declared.fault.Halt.{Halt}
use Rattle.hm_hall.specs.declared.fault.HallFault.{HallFault}
use Rattle.hm_hall.specs.declared.hall.Task.TheVariants as task_is
use Rattle.hm_hall.specs.declared.taken.Given.TheVariants as given_is
use Rattle.hm_hall.specs.declared.taken.Taken.{Taken}
use Rattle.hm_model.specs.Rest.{IsAtRest}
use Rattle.hm_world_model.specs.Measure.{left_to_carry}
use Rattle.hm_exec.specs.Claiming.{IsAnswer}
use Rattle.hm_world.specs.Carrying.{Carries}
use Rattle.hm_world.specs.Scene.{GoesOn, Scene, past_in, world_of}
use Rattle.hm_world.specs.Taking.{Gives, IsStill, Returns, Takes}
use Rattle.hm_commands.specs.Scenes.{claimed_at, kept_at}
use Rattle.hm_commands.specs.Telling.{halt_of_fault}
use Rattle.hm_commands.specs.declared.tasks.Worked.{Worked}
use Rattle.hm_commands.specs.declared.tasks.Worked.TheVariants as worked_is

-- nothing is left to do: no procedure is available, nothing travels, and no call is due
abbrev pub IsDone : Scene → Type 0
IsDone at = IsAtRest (past_in at) × IsStill at

-- what became of a handler's answer: it was recorded; or recording it halted the run, and the claim was put back
abbrev pub Becomes : Scene → Taken → StepOut → Worked → Scene → Type 0
Becomes mid taken out worked_is.Done new = (number : ℕ) × Gives mid taken out (Ok (given_is.Kept number)) new
Becomes mid taken out (worked_is.Halted why) new =
    (fault : HallFault) × (late : Scene) × Gives mid taken out (Err (taken, fault)) late × Returns late taken new × (halt_of_fault fault ≡ Some why)
Becomes mid taken out worked_is.Idle new = ⊥

-- the handler of what was taken was run, and that became of its answer
abbrev pub RunsTo : Scene → Taken → Worked → Scene → Type 0
RunsTo mid taken worked new = (out : StepOut) × IsAnswer (past_in mid) taken.was out × Becomes mid taken out worked new

-- a step: a procedure that is available was claimed, its handler was run, and the claim ended
pub record Steps (old : Scene) (worked : Worked) (new : Scene) : Type 0 where
  pub taken : Taken
  pub mid : Scene
  pub takes : Takes old (Ok (task_is.Run taken)) mid
  pub runs : RunsTo mid taken worked new
  pub claimed : claimed_at new ≡ claimed_at old

-- what became of a call or a report that can be carried: it was; or recording the report halted the run
abbrev pub Carried : Scene → Worked → Scene → Type 0
Carried old worked_is.Done new = Carries old (Ok true) new
Carried old (worked_is.Halted why) new = (fault : HallFault) × Carries old (Err fault) new × (halt_of_fault fault ≡ Some why)
Carried old worked_is.Idle new = ⊥

-- what became of the next task: a step where a procedure is available, else a message where one can be carried, else nothing
abbrev pub Works : Scene → Worked → Scene → Type 0
Works old worked_is.Done new = Steps old worked_is.Done new ⊎ (Takes old (Ok task_is.Carry) old × Carried old worked_is.Done new)
Works old (worked_is.Halted why) new =
    Steps old (worked_is.Halted why) new ⊎ (Takes old (Ok task_is.Carry) old × Carried old (worked_is.Halted why) new)
Works old worked_is.Idle new = IsDone old × (new ≡ old)

-- so many tasks were done, one after another
abbrev pub Tasks : ℕ → Scene → Scene → Type 0
Tasks zero old new = new ≡ old
Tasks (suc count) old new = (mid : Scene) × Works old worked_is.Done mid × Tasks count mid new

-- the next task halted the run
abbrev pub Breaks : Scene → Halt → Scene → Type 0
Breaks old why new = Works old (worked_is.Halted why) new

-- memory ran out in the next task, which left all as it was
abbrev pub LacksMemory : Scene → Scene → Type 0
LacksMemory old new = GoesOn old × (IsDone old → ⊥) × (new ≡ old)

-- how much can be done before nothing is left: each entry takes five bytes at least
abbrev pub left_to_do : Scene → ℕ
left_to_do at = let kept = kept_at at in 4 * (kept.hard - bytes_of kept.entries) + left_to_carry (world_of at)
