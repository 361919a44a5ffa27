-- How answering goes on.
use Rattle.std.proofs.Common.{◌≡◌, ℕ, List, [], ◌∷◌, ◌++◌, length, Some, Ok, Err, refl, sym, ap, ◌∙◌, append_assoc, append-nil, subst, arith}
use Rattle.std.proofs.lemmas.Grind.{flat_map-append}
use Rattle.hm_model.specs.Image.{counted}
use Rattle.hm_script.specs.declared.command.Command.{Command}
use Rattle.hm_world.specs.Scene.{Scene, past_in}
use Rattle.hm_world_model.specs.Twice.{Twice}
use Rattle.hm_commands.specs.Answer.{answer_text}
use Rattle.hm_commands.specs.Commands.{Answers, IsUnanswered}
use Rattle.hm_commands.specs.declared.answer.Answer.{Answer}
use Rattle.hm_commands.proofs.Growth.{comes_grows}
use Rattle.hm_top.specs.declared.status.EarlyEnd.TheVariants as early_is
use Rattle.hm_top.specs.Answering.{IsAnsweringOn, RunsOut}
use Rattle.hm_top.specs.Got.{IsPartOf, IsShort}
use Rattle.hm_top.specs.Transcript.{Transcript, text_of}

-- one more command at the end
pub transcript_more : (commands : List Command) (command : Command) (answer : Answer) (old mid new : Scene) (marks : List ℕ) (answers : List Answer)
    → Transcript commands old marks answers mid → Answers command mid answer new → (Twice (past_in new) new.outside → ⊥)
    → Transcript (commands ++ command ∷ []) old (marks ++ counted (past_in new) ∷ []) (answers ++ answer ∷ []) new
transcript_more [] command answer old mid new marks answers t fits once =
    let now = subst (λ (s : Scene). Answers command s answer new) t.2 fits in
    let grows = comes_grows old new command (Some answer) now in (
      new,
      [],
      [],
      record {
        answer = answer;
        fits = now;
        added = grows.added;
        may = grows.each;
        grown = grows.grown;
        once = once;
        mark = ap (λ m. m ++ counted (past_in new) ∷ []) t.0;
        said = ap (λ s. s ++ answer ∷ []) t.1;
      },
      (refl, refl, refl),
    )
transcript_more (begin ∷ commands) command answer old mid new marks answers t fits once =
    let first = t.3 in (
      t.0,
      t.1 ++ counted (past_in new) ∷ [],
      t.2 ++ answer ∷ [],
      record {
        answer = first.answer;
        fits = first.fits;
        added = first.added;
        may = first.may;
        grown = first.grown;
        once = first.once;
        mark = ap (λ m. m ++ counted (past_in new) ∷ []) first.mark;
        said = ap (λ s. s ++ answer ∷ []) first.said;
      },
      transcript_more commands command answer t.0 mid new t.1 t.2 t.4 fits once,
    )

-- one answer more after answers that the sink has whole
module _ (before mid after : List ℕ) (answers : List Answer) (answer : Answer) (whole : mid ≡ before ++ text_of answers) where
  pub short_more : IsPartOf mid after (answer_text answer) → IsShort before after (answers ++ answer ∷ [])
  short_more part = record { before = answers; last = answer; parts = refl; got = subst (λ m. IsPartOf m after (answer_text answer)) whole part }

  pub whole_more : after ≡ mid ++ answer_text answer → after ≡ before ++ text_of (answers ++ answer ∷ [])
  whole_more said =
      said ∙ ap (λ l. l ++ answer_text answer) whole ∙ append_assoc before (text_of answers) (answer_text answer)
      ∙ ap (λ l. before ++ l) (sym (flat_map-append answer_text answers (answer ∷ []) ∙ ap (λ l. text_of answers ++ l) (append-nil (answer_text answer))))

-- these commands were answered, and the sink has the answers whole
pub record SoFar (tells : Type 0) (before after : List ℕ) (commands : List Command) (old : Scene) (marks : List ℕ) (mid : Scene) : Type 0 where
  pub answers : List Answer
  pub transcript : Transcript commands old marks answers mid
  pub said : tells → after ≡ before ++ text_of answers

-- none was answered yet
pub none_answered : {tells : Type 0} {got : List ℕ} (old : Scene) {marks : List ℕ} → marks ≡ [] → SoFar tells got got [] old marks old
none_answered {got} old none = record { answers = []; transcript = (none, refl, refl); said = λ told. sym (append-nil got) }

-- all were answered
pub all_answered : {tells : Type 0} {got0 got1 : List ℕ} {commands done : List Command} {old mid : Scene} {before : List ℕ} → SoFar tells got0 got1 done old before mid
    → (rest : List Command) → commands ≡ done ++ rest → rest ≡ [] → IsAnsweringOn tells got0 got1 (Ok tt) commands old before mid
all_answered {done} {mid} so_far rest parts none = record {
  rest = rest;
  answers = so_far.answers;
  mid = mid;
  turns = record { answered = done; parts = parts; transcript = so_far.transcript };
  said = so_far.said;
  ends = (none, refl);
}

-- So many commands were answered, and there is a next one.
module _ {tells : Type 0} {got0 got1 : List ℕ} {commands done : List Command} (rest : List Command) {old mid : Scene} {before : List ℕ} (so_far : SoFar tells got0 got1 done old before mid)
    (parts : commands ≡ done ++ rest) {command : Command} {more : List Command} (next : rest ≡ command ∷ more) where
  -- memory ran out in it
  pub stopped_within : (new : Scene) → IsUnanswered command mid new → IsAnsweringOn tells got0 got1 (Err early_is.Memory) commands old before new
  stopped_within new left = record {
    rest = rest;
    answers = so_far.answers;
    mid = mid;
    turns = record { answered = done; parts = parts; transcript = so_far.transcript };
    said = so_far.said;
    ends = subst (λ l. RunsOut l mid new) (sym next) left;
  }

  -- it was answered
  module _ (answer : Answer) (new : Scene) {marks : List ℕ} (fits : Answers command mid answer new) (once : Twice (past_in new) new.outside → ⊥) (marked : marks ≡ before ++ counted (past_in new) ∷ []) where
    transcript : Transcript (done ++ command ∷ []) old marks (so_far.answers ++ answer ∷ []) new
    transcript =
        subst (λ m. Transcript (done ++ command ∷ []) old m (so_far.answers ++ answer ∷ []) new) (sym marked)
        (transcript_more done command answer old mid new before so_far.answers so_far.transcript fits once)

    -- and the sink has its text
    pub said_more : {got2 : List ℕ} → (tells → got2 ≡ got1 ++ answer_text answer) → SoFar tells got0 got2 (done ++ command ∷ []) old marks new
    said_more {got2} said = record {
      answers = so_far.answers ++ answer ∷ [];
      transcript = transcript;
      said = λ told. whole_more got0 got1 got2 so_far.answers answer (so_far.said told) (said told);
    }

    -- and the sink has a part of it
    pub said_less : {got2 : List ℕ} → (tells → IsPartOf got1 got2 (answer_text answer)) → IsAnsweringOn tells got0 got2 (Err early_is.WriteFault) commands old marks new
    said_less {got2} part = record {
      rest = more;
      answers = so_far.answers ++ answer ∷ [];
      mid = new;
      turns = record { answered = done ++ command ∷ []; parts = parts ∙ ap (λ l. done ++ l) next ∙ sym (append_assoc done (command ∷ []) more); transcript = transcript };
      said = λ told. short_more got0 got1 got2 so_far.answers answer (so_far.said told) (part told);
      ends = refl;
    }

-- a list that is over
pub none_left : (items : List Command) → length items ≡ 0 → items ≡ []
none_left [] over = refl
none_left (item ∷ items) over = absurd (omega arith)
