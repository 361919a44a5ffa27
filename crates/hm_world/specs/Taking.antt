-- What taking a task answers, and what giving back an answer does.
use Rattle.std.specs.Prelude.{◌≡◌, ◌≢◌, [], Result, Ok, Err, Some, None}
use Rattle.hm_data.specs.declared.step.StepOut.{StepOut}
use Rattle.hm_hall.specs.declared.fault.HallFault.{HallFault}
use Rattle.hm_hall.specs.declared.hall.Task.{Task}
use Rattle.hm_hall.specs.declared.hall.Task.TheVariants as task_is
use Rattle.hm_hall.specs.declared.taken.Given.{Given}
use Rattle.hm_hall.specs.declared.taken.Taken.{Taken}
use Rattle.hm_exec.specs.Claiming.{AnswersClaim, AnswersCommit, PutsBack}
use Rattle.hm_world.specs.Carrying.{CanCarry, OnlyExec}
use Rattle.hm_world.specs.Scene.{NoneIsDue, Scene}

-- nothing travels, and no call is due
abbrev pub IsStill : Scene → Type 0
IsStill at = (at.waiting ≡ []) × (at.wire ≡ []) × NoneIsDue at

-- no procedure is available, and nothing changes
abbrev pub FindsNone : Scene → Scene → Type 0
FindsNone old new = AnswersClaim old.exec (Ok None) old.exec × (new ≡ old)

-- what `take` answers, and what is left: a procedure that is available; else that something can be carried; else that somebody is
-- claimed; else that there is nothing to do
abbrev pub Takes : Scene → Result Task HallFault → Scene → Type 0
Takes old (Ok (task_is.Run taken)) new = AnswersClaim old.exec (Ok (Some taken)) new.exec × OnlyExec old new
Takes old (Ok task_is.Carry) new = FindsNone old new × CanCarry old
Takes old (Ok task_is.Flush) new = ⊥
Takes old (Ok task_is.Busy) new = FindsNone old new × IsStill old × (let exec = old.exec in exec.claimed ≢ [])
Takes old (Ok task_is.Idle) new = FindsNone old new × IsStill old × (let exec = old.exec in exec.claimed ≡ [])
Takes old (Err fault) new = AnswersClaim old.exec (Err fault) new.exec × OnlyExec old new

-- what `give` answers, and what is left
abbrev pub Gives : Scene → Taken → StepOut → Result Given (Taken × HallFault) → Scene → Type 0
Gives old taken out result new = AnswersCommit old.exec taken out result new.exec × OnlyExec old new

-- a claim is put back
abbrev pub Returns : Scene → Taken → Scene → Type 0
Returns old taken new = PutsBack old.exec taken new.exec × OnlyExec old new
