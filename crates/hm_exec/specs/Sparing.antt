-- The answers of each call with which its recorder is left as it was: its journal, its marks, what halted it, and its counts.
use Rattle.std.specs.Prelude.{◌≡◌, Bool, true, Option, Result, Ok, Err}
use Rattle.hm_names.specs.Server.{Server}
use Rattle.hm_names.specs.declared.pid.Pid.{Pid}
use Rattle.hm_hall.specs.declared.fault.HallFault.{HallFault}
use Rattle.hm_hall.specs.declared.fault.HallFault.TheVariants as fault_is
use Rattle.hm_hall.specs.declared.taken.Given.{Given}
use Rattle.hm_hall.specs.declared.taken.Given.TheVariants as given_is
use Rattle.hm_hall.specs.declared.taken.Taken.{Taken}
use Rattle.hm_refusals.specs.declared.aborts.AbortRefused.{AbortRefused}
use Rattle.hm_refusals.specs.declared.aborts.AbortRefused.TheVariants as abort_is
use Rattle.hm_refusals.specs.declared.submissions.Refused.{Refused}
use Rattle.hm_refusals.specs.declared.submissions.Refused.TheVariants as refused_is
use Rattle.hm_exec.specs.declared.answers.Accepted.{Accepted}
use Rattle.hm_exec.specs.declared.answers.DownWhy.{DownWhy}
use Rattle.hm_exec.specs.declared.answers.DownWhy.TheVariants as down_why
use Rattle.hm_exec.specs.declared.answers.Heard.{Heard}
use Rattle.hm_exec.specs.declared.answers.Heard.TheVariants as heard_is
use Rattle.hm_exec.specs.declared.answers.UpWhy.{UpWhy}
use Rattle.hm_exec.specs.declared.answers.UpWhy.TheVariants as up_why

-- the fault is an earlier one, which halted the recorder
abbrev pub SparesAt : HallFault → Type 0
SparesAt (fault_is.Halted why) = Unit {0}
SparesAt fault_is.LogFault = ⊥
SparesAt (fault_is.JournalFull bytes) = ⊥
SparesAt fault_is.Memory = ⊥

-- an answer that is stale isn't recorded
abbrev pub SparesCommit : Result Given (Taken × HallFault) → Type 0
SparesCommit (Ok (given_is.Kept number)) = ⊥
SparesCommit (Ok (given_is.Stale was now)) = Unit {0}
SparesCommit (Err (taken, fault)) = SparesAt fault

-- a report that is ignored isn't recorded
abbrev pub SparesReport : Result Heard HallFault → Type 0
SparesReport (Ok (heard_is.Accepted number)) = ⊥
SparesReport (Ok (heard_is.Ignored why)) = Unit {0}
SparesReport (Err fault) = SparesAt fault

-- nor is a submission that is repeated, or against what the journal says
abbrev pub SparesSubmit : Result Accepted Refused → Type 0
SparesSubmit (Ok accepted) = accepted.repeated ≡ true
SparesSubmit (Err (refused_is.Halted why)) = Unit {0}
SparesSubmit (Err (refused_is.BadArgs number)) = Unit {0}
SparesSubmit (Err (refused_is.NonceClash pid)) = Unit {0}
SparesSubmit (Err (refused_is.TooManyRegions count)) = Unit {0}
SparesSubmit (Err (refused_is.JournalFull bytes)) = ⊥
SparesSubmit (Err refused_is.Memory) = ⊥
SparesSubmit (Err refused_is.LogFault) = ⊥

-- nor an abort of a procedure that was aborted before, or that is refused
abbrev pub SparesAbort : Result Bool AbortRefused → Type 0
SparesAbort (Ok before) = before ≡ true
SparesAbort (Err (abort_is.Fault fault)) = SparesAt fault
SparesAbort (Err why) = Unit {0}

-- nor a server that may not come up, or may not go down
abbrev pub SparesUp : Result (Option (Server × Pid)) UpWhy → Type 0
SparesUp (Ok down) = ⊥
SparesUp (Err (up_why.Up why)) = Unit {0}
SparesUp (Err (up_why.Fault fault)) = SparesAt fault

-- nor a server that may not go down
abbrev pub SparesDown : Result Pid DownWhy → Type 0
SparesDown (Ok pid) = ⊥
SparesDown (Err (down_why.Down why)) = Unit {0}
SparesDown (Err (down_why.Fault fault)) = SparesAt fault
