-- What is known of a procedure's last answer, and of the causes of failures.
use Rattle.std.proofs.Common.{◌≡◌, ◌≢◌, ℕ, Bool, true, false, cond, Option, Some, None, is_some, refl, sym}
use Rattle.std.proofs.lemmas.Bool.{false≢true, true≢false}
use Rattle.std.proofs.lemmas.Option.{none-some}
use Rattle.hm_data.specs.declared.answer.Answer.{Answer}
use Rattle.hm_data.specs.declared.answer.Answer.TheVariants as answer_is
use Rattle.hm_data.specs.declared.answer.Cause.{Cause}
use Rattle.hm_data.specs.declared.call.Told.{Told}
use Rattle.hm_model.specs.Answers.{done_with, failing, is_stopped, no_row, row_after}
use Rattle.hm_model.specs.Phase.{or_else}

-- who is done has stopped
pub done_stops : (last : Option Answer) → is_some (done_with last) ≡ true → is_stopped last ≡ true
done_stops None h = absurd (false≢true h)
done_stops (Some (answer_is.Done told)) h = refl
done_stops (Some answer) h = absurd (false≢true h)

-- who goes on isn't done
pub running_undone : (last : Option Answer) → is_stopped last ≡ false → done_with last ≡ None
running_undone (Some (answer_is.Done told)) h = absurd (true≢false h)
running_undone None h = refl
running_undone (Some answer) h = refl

-- who has stopped is at no row
pub stopped_row : (first : ℕ) (last : Option Answer) → is_stopped last ≡ true → row_after first last ≡ no_row
stopped_row first None h = absurd (false≢true h)
stopped_row first (Some (answer_is.Done told)) h = refl
stopped_row first (Some (answer_is.Fail cause)) h = refl
stopped_row first (Some answer_is.Undone) h = refl
stopped_row first (Some answer) h = absurd (false≢true h)

-- to be done, or to go on, is no failure
pub done_or_on : (done : Bool) (told : Told) (next : ℕ) → failing (cond done (answer_is.Done told) (answer_is.More next)) ≡ None
done_or_on true told next = refl
done_or_on false told next = refl

-- of two causes one is there, or none
pub or_some : (one other : Option Cause) → one ≢ None → or_else one other ≢ None
or_some None other some = absurd (some refl)
or_some (Some cause) other some = some

pub or_none : (one other : Option Cause) → or_else one other ≡ None → (one ≡ None) × (other ≡ None)
or_none None other h = (refl, h)
or_none (Some cause) other h = absurd (none-some cause (sym h))
