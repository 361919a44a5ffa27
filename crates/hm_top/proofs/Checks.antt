-- How looking at a log ends.
use Rattle.std.proofs.Common.{◌≡◌, ℕ, List, ◌++◌, refl, sym, subst}
use Rattle.hm_data.specs.declared.sheet.Sheet.{Sheet}
use Rattle.hm_journal.specs.Verdict.{Refuses}
use Rattle.hm_journal.specs.declared.why.JournalWhy.{JournalWhy}
use Rattle.hm_journal.specs.declared.why.JournalWhy.TheVariants as why_is
use Rattle.hm_commands.specs.Answer.{answer_text}
use Rattle.hm_commands.specs.declared.answer.Answer.{Answer}
use Rattle.hm_top.specs.declared.status.RunStatus.{RunStatus}
use Rattle.hm_top.specs.declared.status.RunStatus.TheVariants.{Done, WriteFault, Memory}
use Rattle.hm_top.specs.Checking.{EndsCheck, HasEntries, legal_text}
use Rattle.hm_top.specs.Ending.{unopened_status}
use Rattle.hm_top.specs.Got.{IsPartOf}
use Rattle.hm_top.specs.Ports.{DiskUse, SinkUse}
use Rattle.hm_top.specs.Run.{before_line}
use Rattle.hm_top.proofs.Lines.{none_said, one_said, one_short}

module _ (out : SinkUse) (disk : DiskUse) (sheets : List Sheet) (read : disk.only_read) where
  abbrev ends : RunStatus → Type 0
  ends = EndsCheck out disk sheets (before_line out)

  why_told : (out.tells → out.after ≡ out.before) → (why : JournalWhy) → (why ≡ why_is.Fault → disk.failed) → (disk.tells → Refuses sheets disk.before why) → ends (unopened_status why)
  why_told quiet why_is.Fault failed refuses = (read, (failed refl, λ told. none_said out.before out.after (quiet told)))
  why_told quiet why_is.Memory failed refuses = (read, λ told. none_said out.before out.after (quiet told))
  why_told quiet why failed refuses = (read, ((why, refl, refuses), λ told. none_said out.before out.after (quiet told)))

  -- no legal journal was found
  pub unchecked : (out.tells → out.after ≡ out.before) → (status : RunStatus) (why : JournalWhy) → status ≡ unopened_status why → (why ≡ why_is.Fault → disk.failed) → (disk.tells → Refuses sheets disk.before why) → ends status
  unchecked quiet status why is failed refuses = subst ends (sym is) (why_told quiet why failed refuses)

  -- there was no memory for the line
  pub check_lacks : (out.tells → out.after ≡ out.before) → EndsCheck out disk sheets (before_line out) Memory
  check_lacks quiet = (read, λ told. none_said out.before out.after (quiet told))

  module _ (entries : ℕ) (has : HasEntries out disk sheets (before_line out) entries) (line : Answer) (text : answer_text line ≡ legal_text entries) where
    pub checked : (out.tells → out.after ≡ out.before ++ answer_text line) → EndsCheck out disk sheets (before_line out) Done
    checked said = (read, (entries, has, (line, text, λ told. one_said out.before out.after line (said told))))

    pub check_cut : out.failed → (out.tells → IsPartOf out.before out.after (answer_text line)) → EndsCheck out disk sheets (before_line out) WriteFault
    check_cut failed part = (read, (failed, (entries, has, (line, text, λ told. one_short out.before out.after line (part told)))))
