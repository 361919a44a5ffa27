-- The forms of what a step answers.
use Rattle.std.specs.Prelude.{ℕ, List, [], ◌∷◌, Option, Some, None, ◌==◌, if◌then◌else◌}
use Rattle.hm_data.specs.declared.answer.Answer.{Answer}
use Rattle.hm_data.specs.declared.answer.Answer.TheVariants as answer_is
use Rattle.hm_data.specs.declared.answer.Cause.{Cause}
use Rattle.hm_data.specs.declared.args.Child.{Child}
use Rattle.hm_data.specs.declared.call.Told.{Told}
use Rattle.hm_data.specs.declared.call.Told.TheVariants as told_is
use Rattle.hm_data.specs.declared.call.Verb.{Verb}
use Rattle.hm_data.specs.declared.catalog.Edit.{Edit}
use Rattle.hm_data.specs.declared.place.Place.{Place}
use Rattle.hm_data.specs.declared.step.StepOut.{StepOut}
use Rattle.hm_model.specs.Answers.{no_row}

-- an answer with edits, and nothing else
abbrev pub gives : Answer → List Edit → StepOut
gives answer edits = record { answer = answer; edits = edits; children = []; call = None; place = None; followers = [] }

-- the end, where no row follows, and else that row
abbrev pub on_to : ℕ → Answer
on_to next = if next == no_row then answer_is.Done told_is.Nothing else answer_is.More next

-- a failure
abbrev pub fails : Cause → StepOut
fails cause = gives (answer_is.Fail cause) []

-- on to the next row, or the end
abbrev pub goes_on : ℕ → StepOut
goes_on next = gives (on_to next) []

-- the end
abbrev pub ends_with : Told → StepOut
ends_with told = gives (answer_is.Done told) []

-- a check: the first cause against it, or on to the next row
abbrev pub checked : ℕ → Option Cause → StepOut
checked next None = gives (answer_is.More next) []
checked next (Some cause) = fails cause

-- edits, and on to the next row or the end
abbrev pub edits_rows : ℕ → List Edit → StepOut
edits_rows next edits = gives (on_to next) edits

-- children, for whose end is waited; on to the next row where there are none
abbrev pub spawns : ℕ → List Child → StepOut
spawns next [] = gives (answer_is.More next) []
spawns next (child ∷ more) = record {
  answer = answer_is.Wait next;
  edits = [];
  children = child ∷ more;
  call = None;
  place = None;
  followers = [];
}

-- a call, whose report is awaited
abbrev pub calls : ℕ → Verb → StepOut
calls next verb = record {
  answer = answer_is.Await next;
  edits = [];
  children = [];
  call = Some verb;
  place = None;
  followers = [];
}

-- an answer that gives the region a place, or leaves it its own
abbrev pub places : Answer → Option Place → StepOut
places answer place = record {
  answer = answer;
  edits = [];
  children = [];
  call = None;
  place = place;
  followers = [];
}

-- what is done of a part of the args; a procedure that has no such part goes on
abbrev pub given : {A : Type 0} → Option A → ℕ → (A → StepOut) → StepOut
given None next act = goes_on next
given (Some part) next act = act part
