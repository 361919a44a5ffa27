-- That those who are called refuse no more often than they were told to, and that each report travelled.
use Rattle.std.specs.Prelude.{◌≡◌, ◌≤◌, ◌+◌, ◌*◌, ℕ, List, [], ◌∷◌, length, Option}
use Rattle.hm_names.specs.Server.{Server}
use Rattle.hm_data.specs.declared.call.Peer.{Peer}
use Rattle.hm_hall.specs.Recording.{Recording}
use Rattle.hm_model.specs.Rules.{IsLegal}
use Rattle.hm_script.specs.declared.command.Command.{Command}
use Rattle.hm_script.specs.declared.command.Command.TheVariants as command_is
use Rattle.hm_world.specs.Scene.{Scene, past_in}
use Rattle.hm_commands.specs.Commands.{Answers, Comes, Expires}
use Rattle.hm_commands.specs.Scenes.{new_scene}
use Rattle.hm_commands.specs.declared.answer.Answer.{Answer}
use Rattle.hm_commands.specs.declared.answer.Answer.TheVariants as answer_is
use Rattle.hm_terms.specs.Refusals.{IsWithin, granted, granted_by, refused_by}
use Rattle.hm_terms.specs.Travels.{Travelled, reported_in}

-- where a journal was just opened nobody is to refuse: each keeps to the refusals that the journal reports
abbrev pub NewIsWithin : Type 0
NewIsWithin = (kept : Recording) (peer : Peer) → IsWithin peer (length (refused_by peer (past_in (new_scene kept)))) (new_scene kept)

-- after a command each keeps to what it kept to, and to what the command granted
abbrev pub CommandsStayWithin : Type 0
CommandsStayWithin =
    (command : Command) (old : Scene) (answer : Option Answer) (new : Scene) → Comes command old answer new
    → (peer : Peer) (n : ℕ) → IsWithin peer n old → IsWithin peer (n + granted peer command answer) new

-- so it does where a server is held to be dead, for no command
abbrev pub DownsStayWithin : Type 0
DownsStayWithin =
    (server : Server) (old : Scene) (answer : Option Answer) (new : Scene) → Expires server old answer new
    → (peer : Peer) (n : ℕ) → IsWithin peer n old → IsWithin peer n new

-- so a legal journal reports no more refusals
abbrev pub WithinIsFew : Type 0
WithinIsFew = (peer : Peer) (n : ℕ) (at : Scene) → IsLegal (past_in at) → IsWithin peer n at → length (refused_by peer (past_in at)) ≤ n

-- these commands were answered so, one after another
abbrev pub AnswersInTurn : List Command → Scene → List Answer → Scene → Type 0
AnswersInTurn [] old answers new = (answers ≡ []) × (new ≡ old)
AnswersInTurn (command ∷ commands) old answers new =
    (mid : Scene) × (answer : Answer) × (rest : List Answer)
    × Answers command old answer mid × (answers ≡ answer ∷ rest) × AnswersInTurn commands mid rest new

-- of no one more refusals are reported than commands granted since the journal was opened
abbrev pub RefusalsAreGranted : Type 0
RefusalsAreGranted =
    (kept : Recording) (commands : List Command) (answers : List Answer) (new : Scene) → AnswersInTurn commands (new_scene kept) answers new
    → IsLegal (past_in new) → (peer : Peer)
    → length (refused_by peer (past_in new)) ≤ length (refused_by peer (past_in (new_scene kept))) + granted_by peer commands answers

-- where a journal was just opened all that it reports was reported before
abbrev pub NewHasTravelled : Type 0
NewHasTravelled = (kept : Recording) → Travelled (reported_in (past_in (new_scene kept))) (new_scene kept)

-- whatever a command reports was made of a call that was sent
abbrev pub CommandsBring : Type 0
CommandsBring =
    (command : Command) (old : Scene) (answer : Option Answer) (new : Scene) → Comes command old answer new
    → (before : List ℕ) → Travelled before old → Travelled before new

-- so does a server that is held to be dead, for no command
abbrev pub DownsBring : Type 0
DownsBring =
    (server : Server) (old : Scene) (answer : Option Answer) (new : Scene) → Expires server old answer new
    → (before : List ℕ) → Travelled before old → Travelled before new

-- what `repeat` counts are a call and a report at least for each report of a legal journal since it was opened
abbrev pub RepeatsCallAndReport : Type 0
RepeatsCallAndReport =
    (before : List ℕ) (old : Scene) (count : ℕ) (new : Scene) → Answers command_is.Repeat old (answer_is.Resent count) new
    → IsLegal (past_in old) → Travelled before old → 2 * length (reported_in (past_in old)) ≤ 2 * length before + count

-- after commands a `repeat` counts at least twice the reports since the journal was opened
abbrev pub RepeatsTwiceTheReports : Type 0
RepeatsTwiceTheReports =
    (kept : Recording) (commands : List Command) (answers : List Answer) (mid : Scene) → AnswersInTurn commands (new_scene kept) answers mid
    → (count : ℕ) (new : Scene) → Answers command_is.Repeat mid (answer_is.Resent count) new → IsLegal (past_in mid)
    → 2 * length (reported_in (past_in mid)) ≤ 2 * length (reported_in (past_in (new_scene kept))) + count
