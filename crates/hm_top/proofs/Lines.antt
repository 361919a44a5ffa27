-- One line, said or cut short.
use Rattle.std.proofs.Common.{◌≡◌, ℕ, List, [], ◌∷◌, ◌++◌, sym, ap, ◌∙◌, append-nil}
use Rattle.hm_commands.specs.Answer.{answer_text}
use Rattle.hm_commands.specs.declared.answer.Answer.{Answer}
use Rattle.hm_top.specs.Got.{IsPartOf, IsShort}
use Rattle.hm_top.specs.Transcript.{text_of}
use Rattle.hm_top.proofs.Sessions.{short_more}

-- no line
pub none_said : (before after : List ℕ) → after ≡ before → after ≡ before ++ text_of []
none_said before after quiet = quiet ∙ sym (append-nil before)

-- one line, whole
pub one_said : (before after : List ℕ) (line : Answer) → after ≡ before ++ answer_text line → after ≡ before ++ text_of (line ∷ [])
one_said before after line said = said ∙ ap (λ l. before ++ l) (sym (append-nil (answer_text line)))

-- one line, but for a part
pub one_short : (before after : List ℕ) (line : Answer) → IsPartOf before after (answer_text line) → IsShort before after (line ∷ [])
one_short before after line part = short_more before before after [] line (sym (append-nil before)) part
