-- What a run left of the disk that it was handed.
use Rattle.std.specs.Prelude.{◌≡◌, ◌≢◌, ◌⊎◌, ◌+◌, ◌-◌, ◌*◌, ℕ, List, ◌++◌, length, Some}
use Rattle.hm_data.specs.declared.entry.Entry.{Entry}
use Rattle.hm_model.specs.Journal.{back}
use Rattle.hm_model.specs.Rebase.{up_to}
use Rattle.hm_hall.specs.declared.fault.Halt.TheVariants as halt_is
use Rattle.hm_log.specs.Format.{IsClean}
use Rattle.hm_log.specs.Opening.{IsInPlace, IsMaking}
use Rattle.hm_journal.specs.Since.{IsFront}
use Rattle.hm_journal.specs.Stored.{AllStored, IsOnDisk, IsOpening, SameFrames, Spares}
use Rattle.hm_journal.specs.Verdict.{IsUnjudged, Refuses}
use Rattle.hm_journal.specs.declared.why.JournalWhy.{JournalWhy}
use Rattle.hm_journal.specs.declared.why.JournalWhy.TheVariants as why_is
use Rattle.hm_top.specs.declared.status.LogWhy.{LogWhy}
use Rattle.hm_top.specs.declared.status.RunStatus.{RunStatus}
use Rattle.hm_top.specs.declared.status.RunStatus.TheVariants.{LogRefused}
use Rattle.hm_top.specs.Faith.{KeepsFaith}
use Rattle.hm_world.specs.Scene.{Scene}
use Rattle.hm_commands.specs.Hands.{HandsUse, SumRisesBy, sheets_used, steps_in}
use Rattle.hm_commands.specs.Scenes.{halt_at, journal_at, kept_at, whole}
use Rattle.hm_top.specs.Ports.{DiskUse}

-- its counts didn't fall and its setting stays, and where its log needed no move so many changes at most were counted
abbrev pub CountsTo : DiskUse → ℕ → Type 0
CountsTo disk most = disk.used × (disk.tells → IsInPlace disk.before → disk.called most)

module _ (disk : DiskUse) (hands : HandsUse) where
  -- up to some moment a stop left the disk handed in, or a log in the making, and then a front of the new no shorter than the old
  abbrev pub StopsLeave : List Entry → Scene → Type 0
  StopsLeave old new = disk.stops.leave_then (λ bytes. disk.stops.before bytes ⊎ IsMaking disk.before bytes) (IsFront (length old) (whole new))

  -- the disk held the old journal, and holds the new one, which begins so and keeps faith; what stops, counts and runs say of it
  pub record IsLeft (old : List Entry) (new : Scene) : Type 0 where
    pub added : List Entry
    pub longer : journal_at new ≡ old ++ added
    pub faith : (mark : ℕ) → KeepsFaith (up_to (back (whole new)) mark)
    pub held : disk.tells → IsOnDisk (sheets_used hands) disk.before old
    pub holds : disk.tells → AllStored disk.stops.after (kept_at new)
    pub stops : disk.tells → StopsLeave old new
    pub called : CountsTo disk (1 + 2 * (length (whole new) - length old))
    pub clean : disk.tells → IsClean disk.before → disk.called (2 * (length (whole new) - length old))
    pub ran : SumRisesBy (steps_in added) hands.runs_before hands.runs_after
    pub cause : halt_at new ≡ Some halt_is.LogFault → disk.failed

  -- each stop left what one in the middle of an opening may leave
  abbrev pub StopsInOpening : Type 0
  StopsInOpening = disk.stops.leave_only (IsOpening (sheets_used hands) disk.before disk.stops.before)

  -- an opening that failed spared the journal that the disk held
  abbrev pub IsSpared : Type 0
  IsSpared = CountsTo disk 3 × (disk.tells → Spares (sheets_used hands) disk.before disk.stops.before disk.after disk.stops.after × StopsInOpening)

  -- the log wasn't opened, for this reason, and its frames are as they were
  abbrev pub IsNotOpened : JournalWhy → Type 0
  IsNotOpened why = CountsTo disk 3 × (disk.tells → Refuses (sheets_used hands) disk.before why × SameFrames disk.before disk.after disk.stops.after × StopsInOpening)

  -- a journal that the disk holds, and that is taken, isn't refused
  abbrev pub AcceptsJournal : (List Entry → Type 0) → RunStatus → Type 0
  AcceptsJournal takes status =
      disk.tells → (journal : List Entry) → IsOnDisk (sheets_used hands) disk.before journal → takes journal → (why : LogWhy) → status ≡ LogRefused why → ⊥

  -- the log couldn't be opened, for this reason
  pub record FailedToOpen (why : JournalWhy) : Type 0 where
    pub spared : IsSpared
    pub judged : why ≢ why_is.Fault → IsNotOpened why
    pub failed : why ≡ why_is.Fault → disk.failed
    pub unjudged : disk.tells → (journal : List Entry) → IsOnDisk (sheets_used hands) disk.before journal → IsUnjudged why
