-- That what a run sends again is a call and a report at least for each report that it recorded.
use Rattle.std.specs.Prelude.{◌≤◌, ◌+◌, ◌*◌, ℕ, List, ◌∷◌, length}
use Rattle.hm_names.specs.Server.{Server}
use Rattle.hm_hall.specs.Recording.{Recording}
use Rattle.hm_model.specs.Journal.{Past}
use Rattle.hm_model.specs.Rebase.{up_to}
use Rattle.hm_model.specs.Rules.{IsLegal}
use Rattle.hm_script.specs.declared.command.Command.{Command}
use Rattle.hm_world.specs.Scene.{Scene, past_in}
use Rattle.hm_commands.specs.Scenes.{new_scene}
use Rattle.hm_commands.specs.declared.answer.Answer.{Answer}
use Rattle.hm_commands.specs.declared.answer.Answer.TheVariants as answer_is
use Rattle.hm_terms.specs.Travels.{reported_in}
use Rattle.hm_top.specs.Grants.{EndsThere}
use Rattle.hm_top.specs.Opening.{Downs}
use Rattle.hm_top.specs.Transcript.{Transcript}

-- each line `repeated M` among these answers has M at least twice the reports of the journal up to its mark, but for so many of before
abbrev pub EachRepeatsTwice : ℕ → Past → List ℕ → List Answer → Type 0
EachRepeatsTwice before J (mark ∷ marks) (answer_is.Resent count ∷ answers) =
    (2 * length (reported_in (up_to J mark)) ≤ 2 * before + count) × EachRepeatsTwice before J marks answers
EachRepeatsTwice before J (mark ∷ marks) (answer ∷ answers) = EachRepeatsTwice before J marks answers
EachRepeatsTwice before J marks answers = Unit {0}

-- after a run's opening and its commands each line `repeated M` has M at least twice the reports since the journal was opened
abbrev pub RunsRepeatTwice : Type 0
RunsRepeatTwice =
    (kept : Recording) (passed : List Server) (lines : List Answer) (start : Scene) → Downs passed (new_scene kept) lines start
    → (commands : List Command) (marks : List ℕ) (answers : List Answer) (mid : Scene) → Transcript commands start marks answers mid
    → (new : Scene) → EndsThere mid new → IsLegal (past_in new)
    → EachRepeatsTwice (length (reported_in (past_in (new_scene kept)))) (past_in new) marks answers
