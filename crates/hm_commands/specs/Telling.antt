-- How what a call of the world answers is told. Want of memory has no line.
use Rattle.std.specs.Prelude.{ℕ, Bool, true, false, Option, Some, None, Result, Ok, Err}
use Rattle.std.specs.Option.{option_map}
use Rattle.hm_names.specs.Server.{Server}
use Rattle.hm_names.specs.declared.pid.Pid.{Pid}
use Rattle.hm_hall.specs.declared.fault.Halt.{Halt}
use Rattle.hm_hall.specs.declared.fault.Halt.TheVariants as halt_is
use Rattle.hm_hall.specs.declared.fault.HallFault.{HallFault}
use Rattle.hm_hall.specs.declared.fault.HallFault.TheVariants as fault_is
use Rattle.hm_model.specs.Journal.{Past}
use Rattle.hm_places.specs.declared.refused.DownRefused.TheVariants as down_is
use Rattle.hm_places.specs.declared.refused.UpRefused.TheVariants as up_is
use Rattle.hm_refusals.specs.declared.aborts.AbortRefused.{AbortRefused}
use Rattle.hm_refusals.specs.declared.aborts.AbortRefused.TheVariants as abort_is
use Rattle.hm_refusals.specs.declared.submissions.Refused.{Refused}
use Rattle.hm_refusals.specs.declared.submissions.Refused.TheVariants as refused_is
use Rattle.hm_exec.specs.declared.answers.Accepted.{Accepted}
use Rattle.hm_exec.specs.declared.answers.DownWhy.{DownWhy}
use Rattle.hm_exec.specs.declared.answers.DownWhy.TheVariants as down_why
use Rattle.hm_exec.specs.declared.answers.UpWhy.{UpWhy}
use Rattle.hm_exec.specs.declared.answers.UpWhy.TheVariants as up_why
use Rattle.hm_commands.specs.RowNames.{act_at}
use Rattle.hm_commands.specs.declared.answer.Answer.{Answer}
use Rattle.hm_commands.specs.declared.answer.Answer.TheVariants as answer_is
use Rattle.hm_commands.specs.declared.answer.Refusal.{Refusal}
use Rattle.hm_commands.specs.declared.answer.Refusal.TheVariants as refusal_is

-- what halts a run at a fault
abbrev pub halt_of_fault : HallFault → Option Halt
halt_of_fault fault_is.LogFault = Some halt_is.LogFault
halt_of_fault (fault_is.JournalFull bytes) = Some (halt_is.JournalFull bytes)
halt_of_fault (fault_is.Halted why) = Some why
halt_of_fault fault_is.Memory = None

-- a fault
abbrev pub told_fault : HallFault → Option Answer
told_fault fault = option_map answer_is.Halted (halt_of_fault fault)

-- a refusal
abbrev pub refused : Refusal → Option Answer
refused why = Some (answer_is.Refused why)

-- a journal that takes no submission: its hard mark halts the run so, its soft mark doesn't
abbrev pub told_full : Option Halt → ℕ → Option Answer
told_full None bytes = refused (refusal_is.JournalFull bytes)
told_full (Some why) bytes = Some (answer_is.Halted why)

-- an accepted submission
abbrev pub told_accepted : Pid → Bool → Option Answer
told_accepted pid true = Some (answer_is.Repeated pid.0)
told_accepted pid false = Some (answer_is.Pid pid.0)

-- a submission, after which the run is halted so
abbrev pub told_submit : Option Halt → Result Accepted Refused → Option Answer
told_submit halted (Ok accepted) = told_accepted accepted.pid accepted.repeated
told_submit halted (Err (refused_is.NonceClash pid)) = refused (refusal_is.NonceClash pid.0)
told_submit halted (Err (refused_is.BadArgs number)) = refused (refusal_is.BadArgs number)
told_submit halted (Err (refused_is.TooManyRegions drawn)) = refused (refusal_is.TooManyRegions drawn)
told_submit halted (Err (refused_is.JournalFull bytes)) = told_full halted bytes
told_submit halted (Err (refused_is.Halted why)) = Some (answer_is.Halted why)
told_submit halted (Err refused_is.LogFault) = Some (answer_is.Halted halt_is.LogFault)
told_submit halted (Err refused_is.Memory) = None

-- an abort of a procedure of this journal
abbrev pub told_abort : Past → Pid → Result Bool AbortRefused → Option Answer
told_abort J pid (Ok true) = Some (answer_is.AbortingAlready pid.0)
told_abort J pid (Ok false) = Some (answer_is.Aborting pid.0)
told_abort J pid (Err abort_is.Unknown) = refused refusal_is.Unknown
told_abort J pid (Err (abort_is.Child root)) = refused (refusal_is.Child root.0)
told_abort J pid (Err (abort_is.Finished phase)) = refused (refusal_is.Finished phase)
told_abort J pid (Err (abort_is.TooLate row)) = refused (refusal_is.TooLate (act_at J pid.0 row))
told_abort J pid (Err (abort_is.Fault fault)) = told_fault fault

-- a server that comes up
abbrev pub told_up : Server → Result (Option (Server × Pid)) UpWhy → Option Answer
told_up server (Ok None) = Some (answer_is.Up server)
told_up server (Ok (Some (older, pid))) = Some (answer_is.UpInPlaceOf older pid.0 server)
told_up server (Err (up_why.Up (up_is.OldStart start))) = refused (refusal_is.OldStart start)
told_up server (Err (up_why.Up up_is.Known)) = refused refusal_is.Known
told_up server (Err (up_why.Up up_is.Memory)) = None
told_up server (Err (up_why.Fault fault)) = told_fault fault

-- a server that is held to be dead
abbrev pub told_down : Server → Result Pid DownWhy → Option Answer
told_down server (Ok pid) = Some (answer_is.Expired server pid.0)
told_down server (Err (down_why.Down down_is.Unknown)) = refused refusal_is.Unknown
told_down server (Err (down_why.Down down_is.AlreadyDown)) = refused refusal_is.AlreadyDown
told_down server (Err (down_why.Fault fault)) = told_fault fault

-- a server that was to die: whether it ran
abbrev pub told_death : Server → Bool → Option Answer
told_death server true = Some (answer_is.Dead server)
told_death server false = refused refusal_is.NoServer

-- somebody who is to refuse calls: whether it runs
abbrev pub told_arming : Result Bool Halt → Option Answer
told_arming (Ok true) = Some answer_is.Armed
told_arming (Ok false) = refused refusal_is.NoServer
told_arming (Err why) = Some (answer_is.Halted why)

-- what travels once more
abbrev pub told_repeat : Result ℕ HallFault → Option Answer
told_repeat (Ok count) = Some (answer_is.Resent count)
told_repeat (Err fault) = told_fault fault
