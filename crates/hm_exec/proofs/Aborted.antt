-- What aborts and reports are answered.
use Rattle.std.proofs.Common.{◌≡◌, Result, Ok, Err, false, refl, subst, sym}
use Rattle.std.specs.Result.{IsErrAnd}
use Rattle.hm_names.specs.declared.pid.Pid.{Pid}
use Rattle.hm_data.specs.declared.call.ReportMsg.{ReportMsg}
use Rattle.hm_data.specs.declared.entry.Entry.TheVariants as entry_is
use Rattle.hm_hall.specs.declared.fault.HallFault.{HallFault}
use Rattle.hm_hall.specs.declared.fault.HallFault.TheVariants as fault_is
use Rattle.hm_refusals.specs.Aborts.{IsAborted, IsAgainst}
use Rattle.hm_refusals.specs.Reports.{IsHeard}
use Rattle.hm_refusals.specs.declared.aborts.AbortRefused.{AbortRefused}
use Rattle.hm_refusals.specs.declared.aborts.AbortRefused.TheVariants as abort_is
use Rattle.hm_exec.specs.Hearing.{AnswersReport, report_entry}
use Rattle.hm_exec.specs.declared.answers.Heard.{Heard}
use Rattle.hm_exec.specs.Moment.{FaultsAt, IsGoing, Moment, past_of}
use Rattle.hm_exec.specs.Submitting.{AnswersAbort}

-- an abort that is refused by what the journal says
pub abort_refused : (at : Moment) (pid : Pid) (why : AbortRefused) → IsGoing at → IsAgainst (past_of at) pid.0 why → AnswersAbort at pid (Err why) at
abort_refused at pid (abort_is.Fault fault) going against = absurd against
abort_refused at pid why going against = (going, against, refl)

-- one that isn't recorded
pub abort_faults : (old new : Moment) (pid : Pid) (fault : HallFault) → IsAborted (past_of old) pid.0 false → FaultsAt old (entry_is.Abort pid) fault new → AnswersAbort old pid (Err (abort_is.Fault fault)) new
abort_faults old new pid (fault_is.Halted why) is faults = faults
abort_faults old new pid fault is faults = (is, faults)

-- a report that isn't recorded
pub report_faults : (old new : Moment) (message : ReportMsg) (fault : HallFault) → IsHeard (past_of old) message → FaultsAt old (report_entry message) fault new → AnswersReport old message (Err fault) new
report_faults old new message (fault_is.Halted why) is faults = faults
report_faults old new message fault is faults = (is, faults)

-- the same, as a failed call passes it on
pub report_passed : (old new : Moment) (message : ReportMsg) (fault : HallFault) (result : Result Heard HallFault) → IsErrAnd result (λ why. why ≡ fault) → IsHeard (past_of old) message → FaultsAt old (report_entry message) fault new
    → AnswersReport old message result new
report_passed old new message fault (Ok heard) told is faults = absurd told
report_passed old new message fault (Err why) told is faults = subst (λ f. AnswersReport old message (Err f) new) (sym told) (report_faults old new message fault is faults)
