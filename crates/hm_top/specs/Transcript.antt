-- What is said to a list of commands.
use Rattle.std.specs.Prelude.{◌≡◌, ℕ, List, [], ◌∷◌, ◌++◌, All}
use Rattle.std.specs.List.{flat_map}
use Rattle.hm_data.specs.declared.entry.Entry.{Entry}
use Rattle.hm_model.specs.Image.{counted}
use Rattle.hm_script.specs.declared.command.Command.{Command}
use Rattle.hm_world.specs.Scene.{Scene, past_in}
use Rattle.hm_world_model.specs.Twice.{Twice}
use Rattle.hm_commands.specs.Answer.{answer_text}
use Rattle.hm_commands.specs.Commands.{Answers, MayAdd}
use Rattle.hm_commands.specs.Scenes.{journal_at}
use Rattle.hm_commands.specs.declared.answer.Answer.{Answer}

-- the text of answers, one after another
abbrev pub text_of : List Answer → List ℕ
text_of answers = flat_map answer_text answers

-- one command answered, what was recorded for it, and how many entries the journal has then as its mark; and no region is held twice
pub record Exchange (command : Command) (old mid : Scene) (marks later : List ℕ) (answers rest : List Answer) : Type 0 where
  pub answer : Answer
  pub fits : Answers command old answer mid
  pub added : List Entry
  pub may : All (MayAdd command) added
  pub grown : journal_at mid ≡ journal_at old ++ added
  pub once : Twice (past_in mid) mid.outside → ⊥
  pub mark : marks ≡ counted (past_in mid) ∷ later
  pub said : answers ≡ answer ∷ rest

-- From old, these commands have these answers, one each, with these marks, and leave new.
abbrev pub Transcript : List Command → Scene → List ℕ → List Answer → Scene → Type 0
Transcript [] old marks answers new = (marks ≡ []) × (answers ≡ []) × (new ≡ old)
Transcript (command ∷ commands) old marks answers new =
    (mid : Scene) × (later : List ℕ) × (rest : List Answer) × Exchange command old mid marks later answers rest × Transcript commands mid later rest new
