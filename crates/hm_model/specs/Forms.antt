-- What steps and undos of legal journals answer, whatever their kinds: laws.
use Rattle.std.specs.Prelude.{None, Option, [], ℕ, ◌∷◌, ◌≡◌, ◌≢◌, ◌⊎◌}
use Rattle.hm_data.specs.declared.answer.Answer.TheVariants as answer_is
use Rattle.hm_data.specs.declared.entry.Entry.TheVariants as entry_is
use Rattle.hm_data.specs.declared.step.StepOut.{StepOut}
use Rattle.hm_names.specs.Server.{Server}
use Rattle.hm_names.specs.declared.pid.Pid.{Pid}
use Rattle.hm_model.specs.Journal.{Past}
use Rattle.hm_model.specs.Rules.{IsLegal}

-- a step that makes children waits for them, one that calls awaits the answer; it makes no followers and undoes nothing
pub record IsStepped (out : StepOut) : Type 0 where
  pub children : (out.children ≡ []) ⊎ ((next : ℕ) × (out.answer ≡ answer_is.Wait next))
  pub call : (out.call ≡ None) ⊎ ((next : ℕ) × (out.answer ≡ answer_is.Await next))
  pub followerless : out.followers ≡ []
  pub undoes_nothing : out.answer ≢ answer_is.Undone

-- an undo makes no children, calls nobody and places nothing
pub record IsUndone (out : StepOut) : Type 0 where
  pub answer : out.answer ≡ answer_is.Undone
  pub childless : out.children ≡ []
  pub uncalled : out.call ≡ None
  pub unplaced : out.place ≡ None

-- each legal step answers so
abbrev pub StepsAreFormed : Type 0
StepsAreFormed =
    (pid : Pid) (pick : Option Server) (out : StepOut) (before : Past) → IsLegal (entry_is.Step pid pick out ∷ before) → IsStepped out

-- and each legal undo so
abbrev pub UndosAreFormed : Type 0
UndosAreFormed =
    (pid : Pid) (row : ℕ) (out : StepOut) (before : Past) → IsLegal (entry_is.Undo pid row out ∷ before) → IsUndone out
