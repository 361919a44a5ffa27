-- What answering commands over the ports says and leaves, and how each status of it comes.
use Rattle.std.specs.Prelude.{◌≡◌, ◌⊎◌, ℕ, List, [], Option, Some, None}
use Rattle.hm_data.specs.declared.entry.Entry.{Entry}
use Rattle.hm_hall.specs.declared.fault.Halt.{Halt}
use Rattle.hm_hall.specs.declared.fault.Halt.TheVariants as halt_is
use Rattle.hm_journal.specs.declared.limits.Limits.{Limits}
use Rattle.hm_journal.specs.declared.why.JournalWhy.{JournalWhy}
use Rattle.hm_journal.specs.declared.why.JournalWhy.TheVariants as journal_why_is
use Rattle.hm_script.specs.declared.command.Command.{Command}
use Rattle.hm_world.specs.Scene.{Scene}
use Rattle.hm_commands.specs.Hands.{HandsUse, sheets_used}
use Rattle.hm_commands.specs.Scenes.{halt_at}
use Rattle.hm_commands.specs.declared.answer.Answer.{Answer}
use Rattle.hm_top.specs.declared.status.RunStatus.{RunStatus}
use Rattle.hm_top.specs.declared.status.RunStatus.TheVariants.{Done, LogFault, LogRefused, WriteFault, JournalFull, Memory}
use Rattle.hm_top.specs.Answering.{Converses}
use Rattle.hm_top.specs.Ending.{log_why_of}
use Rattle.hm_top.specs.Left.{IsLeft, IsNotOpened, IsSpared}
use Rattle.hm_top.specs.Ports.{DiskUse, SinkUse}
use Rattle.hm_top.specs.Standing.{begun}

-- commands answered over the ports: over which journals and which commands they are, what the sink has of answers under a status, and the marks
pub record Session : Type 1 where
  pub takes : List Entry → Type 0
  pub given : List Command → Type 0
  pub said : RunStatus → List Answer → Type 0
  pub limits : Limits
  pub out : SinkUse
  pub disk : DiskUse
  pub hands : HandsUse
  pub marks : List ℕ

module _ (session : Session) where
  open session use {takes, given, said, limits, out, disk, hands, marks}

  -- the servers that are live were held to be dead, then these commands answered in turn, but for what of both remains under this status
  abbrev pub AreAnswered : RunStatus → List Command → List Entry → Scene → Type 0
  AreAnswered status commands old new = Converses (said status) status commands (begun limits (sheets_used hands) old) marks new

  -- the log was opened, and commands were answered, but for what remains under this status
  pub record WasOpened (status : RunStatus) : Type 0 where
    pub commands : List Command
    pub given_are : given commands
    pub old : List Entry
    pub taken : takes old
    pub new : Scene
    pub answering : AreAnswered status commands old new
    pub left : IsLeft disk hands old new

  -- the same, and this halted the run after its lines, or nothing
  abbrev pub EndedBy : RunStatus → Option Halt → Type 0
  EndedBy status halted = (opened : WasOpened status) × (halt_at opened.new ≡ halted)

  -- there were commands, and no line was said
  abbrev pub IsSilent : RunStatus → Type 0
  IsSilent status = (marks ≡ []) × said status [] × ((commands : List Command) × given commands)

  -- the log was opened, no line was said, and memory ran out for the executor or for the marks of the commands
  abbrev pub HasNoRoom : Type 0
  HasNoRoom =
      (marks ≡ []) × said Memory [] × ((commands : List Command) × given commands) × ((old : List Entry) × IsLeft disk hands old (begun limits (sheets_used hands) old))

  -- how it ended
  abbrev pub Outcome : RunStatus → Type 0
  Outcome Done = EndedBy Done None
  Outcome LogFault = disk.failed × ((IsSilent LogFault × IsSpared disk hands) ⊎ EndedBy LogFault (Some halt_is.LogFault))
  Outcome (JournalFull bytes) = EndedBy (JournalFull bytes) (Some (halt_is.JournalFull bytes))
  Outcome (LogRefused why) = IsSilent (LogRefused why) × ((cause : JournalWhy) × (log_why_of cause ≡ Some why) × IsNotOpened disk hands cause)
  Outcome WriteFault = out.failed × WasOpened WriteFault
  Outcome Memory = (IsSilent Memory × IsSpared disk hands × IsNotOpened disk hands journal_why_is.Memory) ⊎ (HasNoRoom ⊎ WasOpened Memory)
  Outcome _ = ⊥
