-- Who may make a step, by the procedure as it is shown.
use Rattle.std.proofs.Common.{◌≡◌, ◌≢◌, ◌↔◌, ◌⊎◌, ℕ, Bool, true, false, not, IsTrue, List, Option, Some, None, refl, sym, ◌∙◌, subst}
use Rattle.std.specs.Prelude.{MatchOption, is_some}
use Rattle.std.proofs.lemmas.Bool.{false≢true}
use Rattle.std.proofs.lemmas.Option.{none-some}
use Rattle.hm_names.specs.declared.pid.Pid.{Pid}
use Rattle.hm_data.specs.declared.record.Phase.TheVariants as phase_is
use Rattle.hm_data.specs.declared.record.Record.{Record}
use Rattle.hm_locks.specs.Book.{IsEnlisted, IsFirst, IsFree, Row}
use Rattle.hm_model.specs.Answers.{report_of}
use Rattle.hm_model.specs.Inputs.{fenced_if}
use Rattle.hm_model.specs.Journal.{Past}
use Rattle.hm_model.specs.Records.{record_of}
use Rattle.hm_model.specs.Rest.{MayStep}
use Rattle.hm_model.specs.Rules.{IsLegal}
use Rattle.hm_model.specs.Whereabouts.{called_by}
use Rattle.hm_model.proofs.Running.{ready_runs, run_open}
use Rattle.hm_records.specs.Book.{ListOpen}
use Rattle.hm_judge.proofs.Found.{gone_of, nobody, shown_of, there_of}

-- its call was answered, or goes to a server that is fenced
abbrev pub IsAnsweredBy : Past → ℕ → Record → Type 0
IsAnsweredBy J p its = (report_of J p ≢ None) ⊎ (fenced_if J (called_by its.args) ≡ true)

-- one that is shown may make a step
abbrev pub IsReadyBy : Past → ℕ → Record → Type 0
IsReadyBy J p its = (its.phase ≡ phase_is.Runnable) ⊎ ((its.phase ≡ phase_is.Awaiting) × IsAnsweredBy J p its)

pub may_iff : (J : Past) (p : ℕ) (its : Record) → Some its ≡ record_of J p → MayStep J p ↔ IsReadyBy J p its
may_iff J p its some = (
  λ may. subst (IsReadyBy J p) (sym (shown_of J p its some may.0 may.1)) may.2,
  λ ready. let t = there_of J p its some in (t.0, t.1, subst (IsReadyBy J p) t.2 ready),
)

pub may_not : (J : Past) (p : ℕ) → None ≡ record_of J p → MayStep J p → ⊥
may_not J p none may = nobody J p (gone_of J p none) may.0 may.1

pub not_true : (b : Bool) → not b ≡ true → b ≡ false
not_true true e = sym e
not_true false e = refl

-- one that may make a step hasn't ended, so it is enlisted
pub steps_listed : (J : Past) → IsLegal J → (rows : List Row) → ListOpen J rows → (p : ℕ) → MayStep J p → IsEnlisted rows p
steps_listed J legal rows lists p may = (lists p).1 (λ none. none-some may.0 (sym none ∙ may.1), run_open J legal p may.0 may.1 (ready_runs J p may.0 may.2))

-- it is free exactly where there is no first that stands in its way
pub free_iff : (rows : List Row) (p : ℕ) (first : Option Pid) (none : Bool) → is_some first ≡ not none → MatchOption first (IsFree rows p) (λ h. IsFirst rows p h.0) → IsTrue none ↔ IsFree rows p
free_iff rows p None true said free = (λ none. free, λ free. refl)
free_iff rows p None false said free = absurd (false≢true said)
free_iff rows p (Some h) true said blocks = absurd (false≢true (sym said))
free_iff rows p (Some h) false said blocks = (λ none. absurd (false≢true none), λ free. absurd (free h.0 blocks.0))
