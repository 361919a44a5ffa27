-- That nobody refuses more often in a run than its lines granted.
use Rattle.std.specs.Prelude.{◌≡◌, ◌⊎◌, ◌≤◌, ◌+◌, ℕ, List, length}
use Rattle.hm_names.specs.Server.{Server}
use Rattle.hm_data.specs.declared.call.Peer.{Peer}
use Rattle.hm_hall.specs.Recording.{Recording}
use Rattle.hm_model.specs.Rules.{IsLegal}
use Rattle.hm_script.specs.declared.command.Command.{Command}
use Rattle.hm_world.specs.Scene.{Scene, past_in}
use Rattle.hm_commands.specs.Commands.{IsUnanswered}
use Rattle.hm_commands.specs.Scenes.{new_scene}
use Rattle.hm_commands.specs.declared.answer.Answer.{Answer}
use Rattle.hm_terms.specs.Refusals.{granted_by, refused_by}
use Rattle.hm_top.specs.Opening.{Downs}
use Rattle.hm_top.specs.Transcript.{Transcript}

-- nothing came after the last answer, or memory ran out for one command more
abbrev pub EndsThere : Scene → Scene → Type 0
EndsThere mid new = (new ≡ mid) ⊎ ((command : Command) × IsUnanswered command mid new)

-- after a run's opening and its commands no one's refusals are more than before and what the commands granted
abbrev pub RunsRefuseAsGranted : Type 0
RunsRefuseAsGranted =
    (kept : Recording) (passed : List Server) (lines : List Answer) (start : Scene) → Downs passed (new_scene kept) lines start
    → (commands : List Command) (marks : List ℕ) (answers : List Answer) (mid : Scene) → Transcript commands start marks answers mid
    → (new : Scene) → EndsThere mid new → IsLegal (past_in new) → (peer : Peer)
    → length (refused_by peer (past_in new)) ≤ length (refused_by peer (past_in (new_scene kept))) + granted_by peer commands answers
