-- How `check` ends.
use Rattle.std.specs.Prelude.{◌≡◌, ℕ, List, [], ◌++◌, codes, Some}
use Rattle.std.specs.Fmt.{decimal}
use Rattle.hm_data.specs.declared.entry.Entry.{Entry}
use Rattle.hm_data.specs.declared.sheet.Sheet.{Sheet}
use Rattle.hm_model.specs.Image.{counted}
use Rattle.hm_model.specs.Journal.{back}
use Rattle.hm_journal.specs.Stored.{IsOnDiskByKind}
use Rattle.hm_journal.specs.Verdict.{Refuses}
use Rattle.hm_journal.specs.declared.why.JournalWhy.{JournalWhy}
use Rattle.hm_commands.specs.declared.answer.Answer.{Answer}
use Rattle.hm_top.specs.declared.status.RunStatus.{RunStatus}
use Rattle.hm_top.specs.declared.status.RunStatus.TheVariants.{Done, LogFault, LogRefused, WriteFault, Memory}
use Rattle.hm_top.specs.Ending.{log_why_of}
use Rattle.hm_top.specs.Got.{SaysLine}
use Rattle.hm_top.specs.Ports.{DiskUse, SinkUse}

-- what `check` says of a legal journal of so many entries
abbrev pub legal_text : ℕ → List ℕ
legal_text entries = codes "legal " ++ decimal entries ++ codes "\n"

module _ (out : SinkUse) (disk : DiskUse) (sheets : List Sheet) (said : RunStatus → List Answer → Type 0) where
  -- the disk holds a legal journal of so many entries, with those that its base stands for, which has these sheets
  abbrev pub HasEntries : ℕ → Type 0
  HasEntries entries = disk.tells → (journal : List Entry) × IsOnDiskByKind sheets disk.before journal × (entries ≡ counted (back journal))

  -- its line, under a status
  abbrev pub SaysLegal : RunStatus → Type 0
  SaysLegal status = (entries : ℕ) × HasEntries entries × SaysLine said status (legal_text entries)

  -- a status of what was found on the disk
  abbrev pub EndsChecking : RunStatus → Type 0
  EndsChecking Done = SaysLegal Done
  EndsChecking LogFault = disk.failed × said LogFault []
  EndsChecking (LogRefused why) =
      ((cause : JournalWhy) × (log_why_of cause ≡ Some why) × (disk.tells → Refuses sheets disk.before cause)) × said (LogRefused why) []
  EndsChecking WriteFault = out.failed × SaysLegal WriteFault
  EndsChecking Memory = said Memory []
  EndsChecking _ = ⊥

  -- and the disk was only read
  abbrev pub EndsCheck : RunStatus → Type 0
  EndsCheck status = disk.only_read × EndsChecking status
