-- What was answered: by the steps, to the calls, to the one who aborts.
use Rattle.std.specs.Prelude.{ℕ, [], ◌∷◌, Option, Some, None, Bool, true, false, ◌==◌, if◌then◌else◌}
use Rattle.hm_data.specs.declared.answer.Answer.{Answer}
use Rattle.hm_data.specs.declared.answer.Answer.TheVariants as answer_is
use Rattle.hm_data.specs.declared.answer.Cause.{Cause}
use Rattle.hm_data.specs.declared.call.Told.{Told}
use Rattle.hm_data.specs.declared.entry.Entry.TheVariants as entry_is
use Rattle.hm_model.specs.Journal.{Past}
use Rattle.hm_model.specs.Kinds.{first_row_of}
use Rattle.hm_model.specs.Tree.{Node}

-- what the last step of a procedure answered
abbrev pub last_answer : Past → ℕ → Option Answer
last_answer [] p = None
last_answer (entry_is.Step pid pick out ∷ before) p = if p == pid.0 then Some out.answer else last_answer before p
last_answer (entry_is.Base part ∷ before) p = None
last_answer (entry ∷ before) p = last_answer before p

-- the report of a procedure's call
abbrev pub report_of : Past → ℕ → Option Told
report_of [] p = None
report_of (entry_is.Report call told ∷ before) p = if p == call.0 then Some told else report_of before p
report_of (entry_is.Base part ∷ before) p = None
report_of (entry ∷ before) p = report_of before p

-- somebody aborted the procedure
abbrev pub is_aborted : Past → ℕ → Bool
is_aborted [] p = false
is_aborted (entry_is.Abort pid ∷ before) p = if p == pid.0 then true else is_aborted before p
is_aborted (entry_is.Base part ∷ before) p = false
is_aborted (entry ∷ before) p = is_aborted before p

-- the row that follows the last one, and as `next` in a sheet the end
abbrev pub no_row : ℕ
no_row = 255

-- the row that comes next after an answer: the first one where no step was made, and `no_row` after the end
abbrev pub row_after : ℕ → Option Answer → ℕ
row_after first None = first
row_after first (Some (answer_is.More next)) = next
row_after first (Some (answer_is.Wait next)) = next
row_after first (Some (answer_is.Await next)) = next
row_after first (Some (answer_is.Done told)) = no_row
row_after first (Some (answer_is.Fail cause)) = no_row
row_after first (Some answer_is.Undone) = no_row

-- the row that a procedure runs next
abbrev pub row_of : Past → ℕ → Node → ℕ
row_of before p node = row_after (first_row_of node.args) (last_answer before p)

-- an answer that ends a procedure
abbrev pub is_stop : Answer → Bool
is_stop (answer_is.Done told) = true
is_stop (answer_is.Fail cause) = true
is_stop answer_is.Undone = true
is_stop answer = false

-- the last step ended the procedure
abbrev pub is_stopped : Option Answer → Bool
is_stopped None = false
is_stopped (Some answer) = is_stop answer

-- what a procedure ended with, where it ended well
abbrev pub done_with : Option Answer → Option Told
done_with None = None
done_with (Some (answer_is.More next)) = None
done_with (Some (answer_is.Wait next)) = None
done_with (Some (answer_is.Await next)) = None
done_with (Some (answer_is.Done told)) = Some told
done_with (Some (answer_is.Fail cause)) = None
done_with (Some answer_is.Undone) = None

-- why an answer is a failure
abbrev pub failing : Answer → Option Cause
failing (answer_is.Fail cause) = Some cause
failing answer = None
