-- How `gen` ends.
use Rattle.std.specs.Prelude.{◌≡◌, ◌⊎◌, ◌<◌, ◌≤◌, ℕ, List, [], ◌++◌, codes, Option, Some, None}
use Rattle.std.specs.Fmt.{decimal}
use Rattle.hm_data.specs.declared.entry.Entry.{Entry}
use Rattle.hm_hall.specs.declared.fault.Halt.{Halt}
use Rattle.hm_journal.specs.declared.limits.Limits.{Limits}
use Rattle.hm_model.specs.Image.{counted}
use Rattle.hm_model.specs.Journal.{back}
use Rattle.hm_gen.specs.Generated.{generated}
use Rattle.hm_world.specs.Scene.{Scene, past_in}
use Rattle.hm_commands.specs.Census.{census_of}
use Rattle.hm_commands.specs.Hands.{HandsUse, sheets_used}
use Rattle.hm_commands.specs.Scenes.{halt_at}
use Rattle.hm_commands.specs.declared.answer.Answer.{Answer}
use Rattle.hm_commands.specs.declared.census.Census.{Census}
use Rattle.hm_top.specs.declared.status.LogWhy.TheVariants as log_why_is
use Rattle.hm_top.specs.declared.status.RunStatus.{RunStatus}
use Rattle.hm_top.specs.declared.status.RunStatus.TheVariants.{Done, LogRefused, WriteFault, Memory}
use Rattle.hm_top.specs.Ending.{halted_status}
use Rattle.hm_top.specs.Got.{SaysLine}
use Rattle.hm_top.specs.Left.{IsLeft}
use Rattle.hm_top.specs.Ports.{DiskUse, SinkUse}
use Rattle.hm_top.specs.Session.{EndedBy, Outcome, Session}
use Rattle.hm_top.specs.Standing.{begun}

-- what was made, and how many entries the journal has
abbrev pub made_text : (seed count entries : ℕ) → List ℕ
made_text seed count entries = codes "gen " ++ decimal seed ++ codes " " ++ decimal count ++ codes ": entries " ++ decimal entries

-- what is counted in it
abbrev pub census_text : Census → List ℕ
census_text census =
    codes " procedures " ++ decimal census.procedures ++ codes " regions " ++ decimal census.regions ++ codes " open " ++ decimal census.opened ++ codes "\n"

-- the line of a script that was made of a seed for so many regions
abbrev pub gen_text : (seed count entries : ℕ) → Census → List ℕ
gen_text seed count entries census = made_text seed count entries ++ census_text census

-- the same, of where a run is
abbrev pub text_at : (seed count : ℕ) → Scene → List ℕ
text_at seed count at = gen_text seed count (counted (past_in at)) (census_of (past_in at))

-- what is said where a script was answered and left a run so: its line where nothing halted it
abbrev pub TellsAs : SinkUse → (RunStatus → List Answer → Type 0) → (seed count : ℕ) → Option Halt → Scene → RunStatus → Type 0
TellsAs out said seed count None at Done = SaysLine said Done (text_at seed count at)
TellsAs out said seed count None at WriteFault = out.failed × SaysLine said WriteFault (text_at seed count at)
TellsAs out said seed count None at Memory = said Memory []
TellsAs out said seed count None at status = ⊥
TellsAs out said seed count (Some why) at status = (status ≡ halted_status (Some why)) × said status []

-- the same, of what halted it
abbrev pub TellsOf : SinkUse → (RunStatus → List Answer → Type 0) → (seed count : ℕ) → Scene → RunStatus → Type 0
TellsOf out said seed count at status = TellsAs out said seed count (halt_at at) at status

-- the journal is at most one entry long, those counted for which its base stands
abbrev pub IsFresh : List Entry → Type 0
IsFresh journal = counted (back journal) ≤ 1

-- no sink
abbrev pub nowhere : SinkUse
nowhere = record { tells = ⊥; before = []; after = []; failed = ⊥ }

module _ (limits : Limits) (disk : DiskUse) (hands : HandsUse) (marks : List ℕ) (seed count : ℕ) where
  -- the script that is made, over a fresh journal, answered without a line
  abbrev pub made_session : Session
  made_session = record {
    takes = IsFresh;
    given = λ commands. commands ≡ generated seed count;
    said = λ status answers. Unit {0};
    limits = limits;
    out = nowhere;
    disk = disk;
    hands = hands;
    marks = marks;
  }

  -- all of it was answered
  abbrev pub IsMade : Type 0
  IsMade = EndedBy made_session Done None

  -- the disk held a journal that is so long, and not fresh, and holds it
  abbrev pub IsNotFresh : ℕ → Type 0
  IsNotFresh entries = (old : List Entry) × IsLeft disk hands old (begun limits (sheets_used hands) old) × (entries ≡ counted (back old)) × (1 < entries) × (marks ≡ [])

  -- a log is refused since its journal isn't fresh, or as by `run`
  abbrev pub IsRefused : RunStatus → Type 0
  IsRefused status = Outcome made_session status ⊎ ((entries : ℕ) × (status ≡ LogRefused (log_why_is.NotEmpty entries)) × IsNotFresh entries)

  module _ (out : SinkUse) (said : RunStatus → List Answer → Type 0) where
    -- how it ended
    abbrev pub EndsGen : RunStatus → Type 0
    EndsGen Done = (made : IsMade) × SaysLine said Done (text_at seed count made.0.new)
    EndsGen WriteFault = out.failed × ((made : IsMade) × SaysLine said WriteFault (text_at seed count made.0.new))
    EndsGen (LogRefused why) = said (LogRefused why) [] × IsRefused (LogRefused why)
    EndsGen Memory = said Memory [] × ((disk.untouched × (marks ≡ [])) ⊎ (Outcome made_session Memory ⊎ IsMade))
    EndsGen status = said status [] × Outcome made_session status
