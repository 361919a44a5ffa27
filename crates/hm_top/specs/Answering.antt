-- What opening a log and answering commands in turn says and leaves, by how it ends.
use Rattle.std.specs.Prelude.{◌≡◌, ◌⊎◌, ℕ, List, [], ◌∷◌, ◌++◌, None, Result, Ok, Err}
use Rattle.hm_names.specs.Server.{Server}
use Rattle.hm_hall.specs.declared.fault.Halt.{Halt}
use Rattle.hm_hall.specs.declared.fault.Halt.TheVariants as halt_is
use Rattle.hm_model.specs.Fleet.{servers_of}
use Rattle.hm_script.specs.declared.command.Command.{Command}
use Rattle.hm_world.specs.Scene.{Scene, past_in}
use Rattle.hm_commands.specs.Commands.{IsUnanswered}
use Rattle.hm_commands.specs.declared.answer.Answer.{Answer}
use Rattle.hm_top.specs.declared.status.EarlyEnd.{EarlyEnd}
use Rattle.hm_top.specs.declared.status.EarlyEnd.TheVariants as early_is
use Rattle.hm_top.specs.declared.status.RunStatus.{RunStatus}
use Rattle.hm_top.specs.declared.status.RunStatus.TheVariants.{Done, LogFault, WriteFault, JournalFull, Memory}
use Rattle.hm_top.specs.Ending.{ended_status}
use Rattle.hm_top.specs.Got.{GotAnswers}
use Rattle.hm_top.specs.Opening.{Downs, HaltsOpening, OpeningLacksMemory, opening_lines}
use Rattle.hm_top.specs.Transcript.{Transcript}

-- memory ran out for the next of these commands, and new is left
abbrev pub RunsOut : List Command → Scene → Scene → Type 0
RunsOut [] old new = ⊥
RunsOut (command ∷ more) old new = IsUnanswered command old new

-- what remains of commands after such an end: nothing; or the sink failed; or memory ran out for the next of them
abbrev pub EndsAt : Result (Unit {0}) EarlyEnd → List Command → Scene → Scene → Type 0
EndsAt (Ok done) rest at new = (rest ≡ []) × (new ≡ at)
EndsAt (Err (early_is.Halted why)) rest at new = ⊥
EndsAt (Err early_is.WriteFault) rest at new = new ≡ at
EndsAt (Err early_is.Memory) rest at new = RunsOut rest at new

-- the first of these commands were answered in turn, with these marks and answers, and the rest is left
pub record AnswersInTurn (commands rest : List Command) (old : Scene) (marks : List ℕ) (answers : List Answer) (mid : Scene) : Type 0 where
  pub answered : List Command
  pub parts : commands ≡ answered ++ rest
  pub transcript : Transcript answered old marks answers mid

-- after an opening commands were answered in turn from old on; the sink has of the answers what it has where it ends so, and new is left
pub record IsAnsweringOn (tells : Type 0) (before after : List ℕ) (ended : Result (Unit {0}) EarlyEnd) (commands : List Command) (old : Scene) (marks : List ℕ) (new : Scene) : Type 0 where
  pub rest : List Command
  pub answers : List Answer
  pub mid : Scene
  pub turns : AnswersInTurn commands rest old marks answers mid
  pub said : tells → GotAnswers before after (ended_status ended None) answers
  pub ends : EndsAt ended rest mid new

-- no server and no command remains, and nothing changed since
abbrev pub NoneRemains : List Server → List Command → Scene → Scene → Type 0
NoneRemains left rest at new = (left ≡ []) × (rest ≡ []) × (new ≡ at)

-- nothing remains, or the opening was halted so, and no command was answered
abbrev pub NoneRemainsOrHalts : Halt → List Server → (answered rest : List Command) → Scene → Scene → Type 0
NoneRemainsOrHalts why left answered rest at new = NoneRemains left rest at new ⊎ ((answered ≡ []) × HaltsOpening left at why new)

-- what a status leaves of servers and commands: none; or the opening was halted; or the sink failed; or memory ran out for the next of them
abbrev pub Remains : RunStatus → List Server → (answered rest : List Command) → Scene → Scene → Type 0
Remains Done left answered rest at new = NoneRemains left rest at new
Remains LogFault left answered rest at new = NoneRemainsOrHalts halt_is.LogFault left answered rest at new
Remains (JournalFull bytes) left answered rest at new = NoneRemainsOrHalts (halt_is.JournalFull bytes) left answered rest at new
Remains WriteFault left answered rest at new = ((left ≡ []) ⊎ (answered ≡ [])) × (new ≡ at)
Remains Memory left answered rest at new = ((left ≡ []) × RunsOut rest at new) ⊎ ((answered ≡ []) × OpeningLacksMemory left at new)
Remains status left answered rest at new = ⊥

-- the opening came so far: the first of the servers that ever came up were looked at, of each that was live a line says that it is held to be dead, and these are left
pub record OpensSoFar (old : Scene) (left : List Server) (lines : List Answer) (start : Scene) : Type 0 where
  pub passed : List Server
  pub servers : servers_of (past_in old) ≡ passed ++ left
  pub downs : Downs passed old lines start

-- from old on servers were looked at, then commands answered in turn with these marks; `said` holds of all lines, and what this status leaves of both remains
pub record Converses (said : List Answer → Type 0) (status : RunStatus) (commands : List Command) (old : Scene) (marks : List ℕ) (new : Scene) : Type 0 where
  pub left : List Server
  pub lines : List Answer
  pub start : Scene
  pub opening : OpensSoFar old left lines start
  pub rest : List Command
  pub answers : List Answer
  pub mid : Scene
  pub turns : AnswersInTurn commands rest start marks answers mid
  pub remains : Remains status left turns.answered rest mid new
  pub said_are : said (opening_lines old lines ++ answers)

-- an opening and then commands, however that ended: the sink has of their lines what it has where it ends so
abbrev pub IsAnswering : (tells : Type 0) (before after : List ℕ) → Result (Unit {0}) EarlyEnd → List Command → Scene → List ℕ → Scene → Type 0
IsAnswering tells before after ended commands old marks new =
    (let status = ended_status ended None in Converses (λ answers. tells → GotAnswers before after status answers) status commands old marks new)
