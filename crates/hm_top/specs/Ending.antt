-- Which status follows from how a run went.
use Rattle.std.specs.Prelude.{Option, Some, None, Result, Ok, Err}
use Rattle.hm_hall.specs.declared.fault.Halt.{Halt}
use Rattle.hm_hall.specs.declared.fault.Halt.TheVariants as halt_is
use Rattle.hm_journal.specs.declared.why.JournalWhy.{JournalWhy}
use Rattle.hm_journal.specs.declared.why.JournalWhy.TheVariants as journal_why_is
use Rattle.hm_top.specs.declared.status.EarlyEnd.{EarlyEnd}
use Rattle.hm_top.specs.declared.status.EarlyEnd.TheVariants as early_is
use Rattle.hm_top.specs.declared.talking.Stop.{Stop}
use Rattle.hm_top.specs.declared.talking.Stop.TheVariants as stop_is
use Rattle.hm_top.specs.declared.status.LogWhy.{LogWhy}
use Rattle.hm_top.specs.declared.status.LogWhy.TheVariants as log_why_is
use Rattle.hm_top.specs.declared.status.RunStatus.{RunStatus}
use Rattle.hm_top.specs.declared.status.RunStatus.TheVariants.{Done, LogFault, LogRefused, WriteFault, JournalFull, Memory}

-- how a refusal of the journal is told
abbrev pub log_why_of : JournalWhy → Option LogWhy
log_why_of journal_why_is.Fault = None
log_why_of (journal_why_is.NotALog place) = Some (log_why_is.NotALog place)
log_why_of (journal_why_is.BadFrame place) = Some (log_why_is.BadFrame place)
log_why_of (journal_why_is.BadEntry number at) = Some (log_why_is.BadEntry number at)
log_why_of (journal_why_is.Illegal number rule) = Some (log_why_is.Illegal number rule)
log_why_of (journal_why_is.SheetsDiffer kind) = Some (log_why_is.SheetsDiffer kind)
log_why_of journal_why_is.Memory = None

-- the status of an opening that failed
abbrev pub unopened_status : JournalWhy → RunStatus
unopened_status journal_why_is.Fault = LogFault
unopened_status (journal_why_is.NotALog place) = LogRefused (log_why_is.NotALog place)
unopened_status (journal_why_is.BadFrame place) = LogRefused (log_why_is.BadFrame place)
unopened_status (journal_why_is.BadEntry number at) = LogRefused (log_why_is.BadEntry number at)
unopened_status (journal_why_is.Illegal number rule) = LogRefused (log_why_is.Illegal number rule)
unopened_status (journal_why_is.SheetsDiffer kind) = LogRefused (log_why_is.SheetsDiffer kind)
unopened_status journal_why_is.Memory = Memory

-- the status of a run that was halted by this, or by nothing
abbrev pub halted_status : Option Halt → RunStatus
halted_status None = Done
halted_status (Some halt_is.LogFault) = LogFault
halted_status (Some (halt_is.JournalFull bytes)) = JournalFull bytes

-- the status of a run that ended early
abbrev pub early_status : EarlyEnd → RunStatus
early_status (early_is.Halted why) = halted_status (Some why)
early_status early_is.WriteFault = WriteFault
early_status early_is.Memory = Memory

-- the status of a run that ended so, halted by this or by nothing
abbrev pub ended_status : Result (Unit {0}) EarlyEnd → Option Halt → RunStatus
ended_status (Ok done) halted = halted_status halted
ended_status (Err end) halted = early_status end

-- the status of a run that was stopped so
abbrev pub stop_status : Stop → RunStatus
stop_status stop_is.NoRoom = Memory
stop_status (stop_is.Early end) = early_status end
