-- What a sink got of a text.
use Rattle.std.specs.Prelude.{◌≡◌, ◌⊎◌, ◌<◌, ℕ, List, [], ◌∷◌, ◌++◌, length, take}
use Rattle.hm_commands.specs.Answer.{answer_text}
use Rattle.hm_commands.specs.declared.answer.Answer.{Answer}
use Rattle.hm_top.specs.declared.status.RunStatus.{RunStatus}
use Rattle.hm_top.specs.declared.status.RunStatus.TheVariants.{Done, WriteFault, Memory}
use Rattle.hm_top.specs.Status.{last_line}
use Rattle.hm_top.specs.Transcript.{text_of}

-- a front of the text, and not all of it
abbrev pub IsPartOf : (old new text : List ℕ) → Type 0
IsPartOf old new text = (n : ℕ) × (n < length text) × (new ≡ old ++ take n text)

-- a text of which a part may lack only where the sink's faults rose
abbrev pub IsLast : (rose : Type 0) (old new text : List ℕ) → Type 0
IsLast rose old new text = (new ≡ old ++ text) ⊎ (rose × IsPartOf old new text)

-- the text of all answers but the last, and a part of that one's
pub record IsShort (old new : List ℕ) (answers : List Answer) : Type 0 where
  pub before : List Answer
  pub last : Answer
  pub parts : answers ≡ before ++ last ∷ []
  pub got : IsPartOf (old ++ text_of before) new (answer_text last)

-- What the sink got of the answers, before the last line: their text, of which the last lacks a part where the sink failed.
abbrev pub GotAnswers : (old new : List ℕ) → RunStatus → List Answer → Type 0
GotAnswers old new WriteFault answers = IsShort old new answers
GotAnswers old new status answers = new ≡ old ++ text_of answers

-- what the sink got in the end: the answers and the last line, which may lack a part where it failed; or less, failing at an answer
abbrev pub Got : (rose : Type 0) (old new : List ℕ) → RunStatus → List Answer → Type 0
Got rose old new Done answers = new ≡ old ++ text_of answers
Got rose old new WriteFault answers = IsShort old new answers
Got rose old new Memory answers = new ≡ old ++ text_of answers
Got rose old new status answers = IsLast rose (old ++ text_of answers) new (last_line status)

-- one line was said under a status, of this text
abbrev pub SaysLine : (RunStatus → List Answer → Type 0) → RunStatus → List ℕ → Type 0
SaysLine said status text = (line : Answer) × (answer_text line ≡ text) × said status (line ∷ [])
