-- What a report is answered, and what is left.
use Rattle.std.specs.Prelude.{◌≡◌, Result, Ok, Err}
use Rattle.hm_data.specs.declared.call.ReportMsg.{ReportMsg}
use Rattle.hm_data.specs.declared.entry.Entry.{Entry}
use Rattle.hm_data.specs.declared.entry.Entry.TheVariants as entry_is
use Rattle.hm_hall.specs.Recording.{Records}
use Rattle.hm_hall.specs.declared.fault.HallFault.{HallFault}
use Rattle.hm_hall.specs.declared.fault.HallFault.TheVariants as fault_is
use Rattle.hm_refusals.specs.Reports.{IsHeard, IsIgnored}
use Rattle.hm_exec.specs.declared.answers.Heard.{Heard}
use Rattle.hm_exec.specs.declared.answers.Heard.TheVariants as heard_is
use Rattle.hm_exec.specs.Moment.{FaultsAt, IsAdded, IsGoing, IsHalted, Moment, past_of}

-- the entry of a report
abbrev pub report_entry : ReportMsg → Entry
report_entry message = entry_is.Report message.call message.told

-- what `report` answers, and what is left: who is ignored changes nothing
abbrev pub AnswersReport : Moment → ReportMsg → Result Heard HallFault → Moment → Type 0
AnswersReport old message (Ok (heard_is.Accepted number)) new =
    IsHeard (past_of old) message × IsAdded old (report_entry message) new × Records old.kept (report_entry message) (Ok number) new.kept
AnswersReport old message (Ok (heard_is.Ignored why)) new = IsGoing old × IsIgnored (past_of old) message why × (new ≡ old)
AnswersReport old message (Err (fault_is.Halted why)) new = IsHalted old why new
AnswersReport old message (Err fault) new = IsHeard (past_of old) message × FaultsAt old (report_entry message) fault new
