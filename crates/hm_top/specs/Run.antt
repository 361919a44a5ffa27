-- What a run says where the outside tells its content, and how each status comes. Which clause of `run` is where, in this
-- folder where no crate is named:
--   words and their forms             Words
--   `check`, `gen`                    Checking, Generating
--   a session, from its end           Session
--   the opening, each server in turn  Opening
--   commands in turn, what remains    Answering
--   one command, its answer, its mark Transcript
--   what becomes of a command         Commands, Tasks, Balancing of hm_commands
--   how an answer is told             Telling, Answer of hm_commands
--   what the journal keeps to         Faith
--   what is left of the disk          Left
--   why a log is refused              Verdict of hm_journal
--   codes of statuses                 Status
--   ports and registries              Ports, Hands of hm_commands
use Rattle.std.specs.Prelude.{◌≡◌, ◌⊎◌, ℕ, List, [], None, Ok, Err}
use Rattle.hm_ports.specs.declared.source.Source as Source
use Rattle.hm_ports.specs.declared.sink.Sink as Sink
use Rattle.hm_disk.specs.declared.disk.Disk as Disk
use Rattle.hm_log.specs.Format.{IsNotALog}
use Rattle.hm_data.specs.declared.entry.Entry.{Entry}
use Rattle.hm_journal.specs.declared.limits.Limits.{Limits}
use Rattle.hm_journal.specs.Stored.{IsOnDisk}
use Rattle.hm_gen.specs.Generated.{generated}
use Rattle.hm_script.specs.declared.command.Command.{Command}
use Rattle.hm_script.specs.declared.bad.Bad.{Bad}
use Rattle.hm_script.specs.declared.bad.Why.TheVariants as why_is
use Rattle.hm_world.specs.Scene.{Scene}
use Rattle.hm_commands.specs.Hands.{HandsUse, RunBy, sheets_used}
use Rattle.hm_commands.specs.declared.answer.Answer.{Answer}
use Rattle.hm_top.specs.declared.status.RunStatus.{RunStatus}
use Rattle.hm_top.specs.declared.status.RunStatus.TheVariants.{Done, Usage, BadScript, ReadFault, JournalFull, Memory}
use Rattle.hm_top.specs.declared.words.Form.{Form}
use Rattle.hm_top.specs.declared.words.Form.TheVariants as form_is
use Rattle.hm_top.specs.Checking.{EndsCheck}
use Rattle.hm_top.specs.Generating.{EndsGen, IsFresh, made_session}
use Rattle.hm_top.specs.Got.{Got, GotAnswers}
use Rattle.hm_top.specs.Left.{AcceptsJournal}
use Rattle.hm_top.specs.Ports.{DiskUse, SinkUse, SourceUse, disk_use, sink_use, source_use}
use Rattle.hm_top.specs.Script.{IsBad, IsScript}
use Rattle.hm_top.specs.Session.{AreAnswered, EndedBy, Outcome, Session}
use Rattle.hm_top.specs.Words.{form_of}

-- what the sink has of the answers under a status, before the last line
abbrev pub before_line : SinkUse → RunStatus → List Answer → Type 0
before_line out status answers = out.tells → GotAnswers out.before out.after status answers

-- and after it
abbrev pub behind_line : SinkUse → RunStatus → List Answer → Type 0
behind_line out status answers = out.tells → Got out.failed out.before out.after status answers

-- what a run was handed, and what it left
pub record Run : Type 1 where
  pub words : List (List ℕ)
  pub limits : Limits
  pub script : SourceUse
  pub out : SinkUse
  pub disk : DiskUse
  pub hands : HandsUse
  pub marks : List ℕ

-- which journals are taken
abbrev pub taken_by : Form → List Entry → Type 0
taken_by (form_is.Gen seed count) journal = IsFresh journal
taken_by form journal = Unit {0}

module _ (run : Run) where
  open run use {words, limits, script, out, disk, hands, marks}

  -- the words ask for this
  abbrev pub AskFor : Form → Type 0
  AskFor form = form_of words ≡ Ok form

  -- the script's bytes are these commands, and all of them were read
  abbrev pub IsRead : List Command → Type 0
  IsRead commands = script.tells → IsScript script.before commands × (script.after ≡ [])

  -- bytes are no script for this reason; they are the script's, and all of them were read where it isn't too long
  abbrev pub IsBadScript : Bad → Type 0
  IsBadScript bad = ((bytes : List ℕ) × IsBad bytes bad) × (script.tells → IsBad script.before bad × ((bad.why ≡ why_is.TooLong) ⊎ (script.after ≡ [])))

  module _ (said : SinkUse → RunStatus → List Answer → Type 0) where
    -- the commands of the script, answered over any journal
    abbrev pub session_of : Session
    session_of = record { takes = λ old. Unit {0}; given = IsRead; said = said out; limits = limits; out = out; disk = disk; hands = hands; marks = marks }

    -- no line was said, and the disk is as handed in
    abbrev pub IsIdle : RunStatus → Type 0
    IsIdle status = disk.untouched × (marks ≡ []) × said out status []

    -- how `run` ended: the script is judged before the log; memory may run out in reading the script
    abbrev pub EndsRun : RunStatus → Type 0
    EndsRun (BadScript bad) = IsBadScript bad × IsIdle (BadScript bad)
    EndsRun ReadFault = script.failed × IsIdle ReadFault
    EndsRun Memory = IsIdle Memory ⊎ Outcome session_of Memory
    EndsRun status = Outcome session_of status

    -- how each form of words ended; only `run` reads a script
    abbrev pub EndsAs : Form → RunStatus → Type 0
    EndsAs form_is.Run status = EndsRun status
    EndsAs form_is.Check status = script.untouched × (marks ≡ []) × EndsCheck out disk (sheets_used hands) (said out) status
    EndsAs (form_is.Gen seed count) status = script.untouched × EndsGen limits disk hands marks seed count out (said out) status

    -- how it ended: the words are judged first
    abbrev pub EndsBy : RunStatus → Type 0
    EndsBy (Usage word) = (form_of words ≡ Err word) × script.untouched × IsIdle (Usage word)
    EndsBy status = (form : Form) × AskFor form × EndsAs form status

  -- how a run ended before its last line
  abbrev pub EndsUnfinished : RunStatus → Type 0
  EndsUnfinished = EndsBy before_line

  -- and after it
  abbrev pub Ends : RunStatus → Type 0
  Ends = EndsBy behind_line

  -- a journal that the disk holds isn't refused
  abbrev pub Accepts : RunStatus → Type 0
  Accepts status = (form : Form) → AskFor form → AcceptsJournal disk hands (taken_by form) status

  -- where nothing is wrong and nothing failed it is done, unless the journal is full or memory ran out
  abbrev pub IsComplete : RunStatus → Type 0
  IsComplete status =
      script.tells → disk.tells → (form : Form) (journal : List Entry) → AskFor form → (form ≡ form_is.Run → (commands : List Command) × IsScript script.before commands)
      → IsOnDisk (sheets_used hands) disk.before journal → taken_by form journal → ¬ script.failed → ¬ out.failed → ¬ disk.failed
      → (status ≡ Done) ⊎ (((bytes : ℕ) × (status ≡ JournalFull bytes)) ⊎ (status ≡ Memory))

  -- where memory ran out for the commands of a session: in opening what may be a log; over a journal, for its executor or their marks; or for a live server or the next of them
  abbrev pub RanOutIn : Session → List Command → Type 0
  RanOutIn session commands =
      (disk.tells → (place : ℕ) → IsNotALog disk.before place → ⊥)
      ⊎ (((old : List Entry) × (disk.tells → IsOnDisk (sheets_used hands) disk.before old))
      ⊎ ((old : List Entry) × (new : Scene) × AreAnswered session Memory commands old new))

  -- where memory ran out: before the log was looked at; in looking at it; or for the commands, or the line after those that are made
  abbrev pub RanOut : Form → Type 0
  RanOut form_is.Run = disk.untouched ⊎ ((commands : List Command) × IsRead commands × RanOutIn (session_of behind_line) commands)
  RanOut form_is.Check = disk.only_read
  RanOut (form_is.Gen seed count) =
      let made = made_session limits disk hands marks seed count in
      disk.untouched ⊎ (RanOutIn made (generated seed count) ⊎ EndedBy made Done None)

  -- what each run keeps to; the registries have the sheets that they had, and no count of runs fell
  pub record KeepsTo (status : RunStatus) : Type 0 where
    pub ends : Ends status
    pub complete : IsComplete status
    pub accepts : Accepts status
    pub run_by : RunBy hands 0

-- of each run over such ends
abbrev pub EachRun : {S K D Setting : Type 0} → Source.Ghosts S → Sink.Ghosts K → Disk.Ghosts D Setting → (Run → Type 0) → Type 0
EachRun {S} {K} {D} source sink disk P =
    (words : List (List ℕ)) (limits : Limits) (s0 s1 : S) (k0 k1 : K) (d0 d1 : D) (hands : HandsUse) (marks : List ℕ)
    → P (record { words = words; limits = limits; script = source_use source s0 s1; out = sink_use sink k0 k1; disk = disk_use disk d0 d1; hands = hands; marks = marks })
