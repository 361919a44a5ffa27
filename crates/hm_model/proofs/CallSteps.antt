-- One step of a procedure that makes a call, by its row alone.
use Rattle.std.proofs.Common.{Bool, List, None, Option, Some, [], ap, false, inl, inr, not, refl, slice_get, subst, sym, true, ℕ, ◌==◌, ◌∙◌, ◌≡◌, ◌≢◌, ◌⊎◌}
use Rattle.std.proofs.lemmas.Bool.{and_right, cond-false, cond-true, false≢true, true≢false}
use Rattle.std.proofs.lemmas.Option.{none-some, same_Some}
use Rattle.hm_names.specs.Server.{Server}
use Rattle.hm_data.specs.declared.act.Act.TheVariants as act_is
use Rattle.hm_data.specs.declared.answer.Answer.{Answer}
use Rattle.hm_data.specs.declared.answer.Answer.TheVariants as answer_is
use Rattle.hm_data.specs.declared.answer.Cause.{Cause}
use Rattle.hm_data.specs.declared.answer.Cause.TheVariants as cause_is
use Rattle.hm_data.specs.declared.args.Args.{Args}
use Rattle.hm_data.specs.declared.args.Args.TheVariants as args_are
use Rattle.hm_data.specs.declared.call.Told.{Told}
use Rattle.hm_data.specs.declared.call.Told.TheVariants as told_is
use Rattle.hm_data.specs.declared.call.Verb.{Verb}
use Rattle.hm_data.specs.declared.call.Verb.TheVariants as verb_is
use Rattle.hm_data.specs.declared.sheet.Row.{Row}
use Rattle.hm_data.specs.declared.step.StepIn.{StepIn}
use Rattle.hm_data.specs.declared.step.StepOut.{StepOut}
use Rattle.hm_data.specs.Numbers.{told_number}
use Rattle.hm_model.specs.Acts.{act_answer}
use Rattle.hm_model.specs.Answers.{last_answer, report_of, row_after, row_of}
use Rattle.hm_model.specs.CallActs.{ends_as_told, settle_layout, unless_gone}
use Rattle.hm_model.specs.Evaluation.{is_cut_off, row_answer}
use Rattle.hm_model.specs.Fleet.{is_fenced}
use Rattle.hm_model.specs.Rest.{IsAnswered}
use Rattle.hm_model.specs.Journal.{Past}
use Rattle.hm_model.specs.Kinds.{kind_of}
use Rattle.hm_model.specs.Lists.{exact_rows, fixed}
use Rattle.hm_model.specs.Outs.{calls, ends_with}
use Rattle.hm_model.specs.Inputs.{fenced_if, step_input}
use Rattle.hm_model.specs.Outs.{fails}
use Rattle.hm_model.specs.Tree.{Node}
use Rattle.hm_model.specs.Whereabouts.{called_by}
use Rattle.hm_model.specs.Verbs.{verb_in}
use Rattle.hm_model.specs.Wanted.{server_of}
use Rattle.hm_model.specs.Reports.{fits_verb}
use Rattle.hm_model.proofs.PlainActs.{is_caller}

abbrev pub node_at : List ℕ → ℕ → Args → ℕ → Node
node_at above root args first = record { above = above; root = root; args = args; first = first }

-- it calls the storage to lay out files
abbrev pub is_laying : Args → Bool
is_laying (args_are.LayoutCall own) = true
is_laying args = false

pub laying_not_caller : (args : Args) → is_laying args ≡ true → is_caller args ≡ false
laying_not_caller (args_are.LayoutCall own) h = refl
laying_not_caller args h = absurd (false≢true h)

-- whose server is called is of that server
pub called_server : (args : Args) (server : Server) → called_by args ≡ Some server → server_of args ≡ Some server
called_server (args_are.AssignCall region server) s is = is
called_server (args_are.CloseCall region server) s is = is
called_server args s is = absurd (none-some s is)

-- a fencing is only ever told as done
pub fenced_only : (server : Server) (told : Told) → fits_verb (verb_is.Fence server) told ≡ true → (told_number told == told_number told_is.Fenced) ≡ true
fenced_only server told_is.Fenced fits = refl
fenced_only server told fits = absurd (false≢true fits)

-- the answer ends the procedure: its server is fenced, it has the report, or it failed
abbrev pub Ending : Past → ℕ → Args → Option Answer → Answer → Type 0
Ending J p args was answer =
    ((answer ≡ answer_is.Done told_is.Gone) × (fenced_if J (called_by args) ≡ true))
    ⊎ (((told : Told) × (answer ≡ answer_is.Done told) × (report_of J p ≡ Some told) × (was ≡ Some (answer_is.Await 1)))
    ⊎ ((cause : Cause) × (answer ≡ answer_is.Fail cause) × (is_laying args ≡ true)))

-- it makes its call at its first step, or ends
pub record CallOut (J : Past) (p : ℕ) (args : Args) (verb : Verb) (was : Option Answer) (out : StepOut) : Type 0 where
  pub unplaced : out.place ≡ None
  pub childless : out.children ≡ []
  pub editless : out.edits ≡ []
  pub does : ((was ≡ None) × (out.call ≡ Some verb) × (out.answer ≡ answer_is.Await 1)) ⊎ ((out.call ≡ None) × Ending J p args was out.answer)

-- it has made no step, or made its call and that was answered
abbrev pub CallReady : Past → ℕ → Node → Option Answer → Type 0
CallReady J p node was = (was ≡ None) ⊎ ((was ≡ Some (answer_is.Await 1)) × IsAnswered J p node)

pub uncut : (row : Row) (at : StepIn) → row.after ≡ true → row_answer row at ≡ act_answer row.act row.next at
uncut row at late = cond-false (is_cut_off row at) (fails cause_is.Aborted) (act_answer row.act row.next at) (and_right at.aborted (not row.after) (ap not late))

module _ (J : Past) (p : ℕ) (args : Args) (verb : Verb) (was : Option Answer) (out : StepOut) where
  by_out : (made : StepOut) → out ≡ made → CallOut J p args verb was made → CallOut J p args verb was out
  by_out made is h = subst (CallOut J p args verb was) (sym is) h

  ends_out : (told : Told) → Ending J p args was (answer_is.Done told) → out ≡ ends_with told → CallOut J p args verb was out
  ends_out told ending is = by_out (ends_with told) is (record { unplaced = refl; childless = refl; editless = refl; does = inr (refl, ending) })

  fails_out : (cause : Cause) → is_laying args ≡ true → out ≡ fails cause → CallOut J p args verb was out
  fails_out cause other is = by_out (fails cause) is (record { unplaced = refl; childless = refl; editless = refl; does = inr (refl, inr (inr (cause, refl, other))) })

  asks_out : was ≡ None → (b : Bool) → fenced_if J (called_by args) ≡ b → out ≡ unless_gone b (calls 1 verb) → CallOut J p args verb was out
  asks_out first true fenced is = ends_out told_is.Gone (inl (refl, fenced)) is
  asks_out first false fenced is = by_out (calls 1 verb) is (record { unplaced = refl; childless = refl; editless = refl; does = inl (first, refl, refl) })

  told_out : was ≡ Some (answer_is.Await 1) → (o : Option Told) → report_of J p ≡ o → o ≢ None → out ≡ ends_as_told o → CallOut J p args verb was out
  told_out waits None told some is = absurd (some refl)
  told_out waits (Some t) told some is = ends_out t (inr (inl (t, refl, told, waits))) is

  settles_out : was ≡ Some (answer_is.Await 1) → (b : Bool) → fenced_if J (called_by args) ≡ b → (report_of J p ≢ None) ⊎ (fenced_if J (called_by args) ≡ true) → out ≡ unless_gone b (ends_as_told (report_of J p)) → CallOut J p args verb was out
  settles_out waits true fenced answered is = ends_out told_is.Gone (inl (refl, fenced)) is
  settles_out waits false fenced answered is = told_out waits (report_of J p) refl (elim answered [ inl some ↦ some | inr gone ↦ absurd (true≢false (sym gone ∙ fenced)) ]) is

  laid_out : was ≡ Some (answer_is.Await 1) → is_laying args ≡ true → (o : Option Told) → report_of J p ≡ o → o ≢ None → out ≡ settle_layout o → CallOut J p args verb was out
  laid_out waits other None told some is = absurd (some refl)
  laid_out waits other (Some told_is.Nothing) told some is = ends_out told_is.Nothing (inr (inl (told_is.Nothing, refl, told, waits))) is
  laid_out waits other (Some told_is.Opened) told some is = ends_out told_is.Opened (inr (inl (told_is.Opened, refl, told, waits))) is
  laid_out waits other (Some told_is.FailedOpen) told some is = ends_out told_is.FailedOpen (inr (inl (told_is.FailedOpen, refl, told, waits))) is
  laid_out waits other (Some told_is.Closed) told some is = ends_out told_is.Closed (inr (inl (told_is.Closed, refl, told, waits))) is
  laid_out waits other (Some told_is.Gone) told some is = ends_out told_is.Gone (inr (inl (told_is.Gone, refl, told, waits))) is
  laid_out waits other (Some told_is.Fenced) told some is = ends_out told_is.Fenced (inr (inl (told_is.Fenced, refl, told, waits))) is
  laid_out waits other (Some told_is.LaidOut) told some is = ends_out told_is.LaidOut (inr (inl (told_is.LaidOut, refl, told, waits))) is
  laid_out waits other (Some told_is.Refused) told some is = fails_out cause_is.LayoutRefused other is
  laid_out waits other (Some told_is.Swept) told some is = ends_out told_is.Swept (inr (inl (told_is.Swept, refl, told, waits))) is

-- what nobody who isn't at a region server can be answered by
answered_told : (J : Past) (p : ℕ) → (report_of J p ≢ None) ⊎ (false ≡ true) → report_of J p ≢ None
answered_told J p (inl some) = some
answered_told J p (inr never) = absurd (false≢true never)

row_at : (kind place : ℕ) (row expected : Row) (n : ℕ) → n ≡ place → slice_get (exact_rows kind) place ≡ Some expected → slice_get (exact_rows kind) n ≡ Some row → row ≡ expected
row_at kind place row expected n e there is = same_Some row expected (sym is ∙ ap (slice_get (exact_rows kind)) e ∙ there)

module _ (J : Past) (p : ℕ) (pick : Option Server) (out : StepOut) (row : Row) (above : List ℕ) (root first : ℕ) where
  -- the answer at a row after the point, by its act
  late_out : (args : Args) (expected : Row) → row ≡ expected → expected.after ≡ true → out ≡ row_answer row (step_input J p (node_at above root args first) pick) → out ≡ act_answer expected.act expected.next (step_input J p (node_at above root args first) pick)
  late_out args expected same late is = is ∙ ap (λ x. row_answer x (step_input J p (node_at above root args first) pick)) same ∙ uncut expected (step_input J p (node_at above root args first) pick) late

  early_out : (args : Args) (verb : Verb) (expected : Row) → row ≡ expected → is_laying args ≡ true → (b : Bool) → is_cut_off expected (step_input J p (node_at above root args first) pick) ≡ b
      → (out ≡ act_answer expected.act expected.next (step_input J p (node_at above root args first) pick) → CallOut J p args verb (last_answer J p) out)
      → out ≡ row_answer row (step_input J p (node_at above root args first) pick) → CallOut J p args verb (last_answer J p) out
  early_out args verb expected same other true cut then is = fails_out J p args verb (last_answer J p) out cause_is.Aborted other (is ∙ ap (λ x. row_answer x (step_input J p (node_at above root args first) pick)) same ∙ cond-true (is_cut_off expected (step_input J p (node_at above root args first) pick)) _ _ cut)
  early_out args verb expected same other false cut then is = then (is ∙ ap (λ x. row_answer x (step_input J p (node_at above root args first) pick)) same ∙ cond-false (is_cut_off expected (step_input J p (node_at above root args first) pick)) _ _ cut)

  -- a step of a procedure that is for a call
  pub caller_step : (args : Args) (verb : Verb) → verb_in args ≡ Some verb → CallReady J p (node_at above root args first) (last_answer J p)
      → slice_get (exact_rows (kind_of args)) (row_of J p (node_at above root args first)) ≡ Some row
      → out ≡ row_answer row (step_input J p (node_at above root args first) pick) → CallOut J p args verb (last_answer J p) out
  caller_step (args_are.AssignCall region server) verb v (inl none) at is =
      asks_out J p (args_are.AssignCall region server) verb (last_answer J p) out none (is_fenced J server) refl
      (late_out (args_are.AssignCall region server) (fixed act_is.CallAssign 1 true) (row_at 23 0 row _ (row_of J p (node_at above root (args_are.AssignCall region server) first)) (ap (row_after 0) none) refl at) refl is ∙ ap (λ w. unless_gone (is_fenced J server) (calls 1 w)) (same_Some _ verb v))
  caller_step (args_are.AssignCall region server) verb v (inr waits) at is =
      settles_out J p (args_are.AssignCall region server) verb (last_answer J p) out waits.0 (is_fenced J server) refl waits.1
      (late_out (args_are.AssignCall region server) (fixed act_is.Settle 255 true) (row_at 23 1 row _ (row_of J p (node_at above root (args_are.AssignCall region server) first)) (ap (row_after 0) waits.0) refl at) refl is)
  caller_step (args_are.CloseCall region server) verb v (inl none) at is =
      asks_out J p (args_are.CloseCall region server) verb (last_answer J p) out none (is_fenced J server) refl
      (late_out (args_are.CloseCall region server) (fixed act_is.CallClose 1 true) (row_at 24 0 row _ (row_of J p (node_at above root (args_are.CloseCall region server) first)) (ap (row_after 0) none) refl at) refl is ∙ ap (λ w. unless_gone (is_fenced J server) (calls 1 w)) (same_Some _ verb v))
  caller_step (args_are.CloseCall region server) verb v (inr waits) at is =
      settles_out J p (args_are.CloseCall region server) verb (last_answer J p) out waits.0 (is_fenced J server) refl waits.1
      (late_out (args_are.CloseCall region server) (fixed act_is.Settle 255 true) (row_at 24 1 row _ (row_of J p (node_at above root (args_are.CloseCall region server) first)) (ap (row_after 0) waits.0) refl at) refl is)
  caller_step (args_are.FenceCall server) verb v (inl none) at is =
      asks_out J p (args_are.FenceCall server) verb (last_answer J p) out none false refl
      (late_out (args_are.FenceCall server) (fixed act_is.CallFence 1 true) (row_at 25 0 row _ (row_of J p (node_at above root (args_are.FenceCall server) first)) (ap (row_after 0) none) refl at) refl is ∙ ap (calls 1) (same_Some _ verb v))
  caller_step (args_are.FenceCall server) verb v (inr waits) at is =
      told_out J p (args_are.FenceCall server) verb (last_answer J p) out waits.0 (report_of J p) refl (answered_told J p waits.1)
      (late_out (args_are.FenceCall server) (fixed act_is.Settle 255 true) (row_at 25 1 row _ (row_of J p (node_at above root (args_are.FenceCall server) first)) (ap (row_after 0) waits.0) refl at) refl is)
  caller_step (args_are.SweepLayout own) verb v (inl none) at is =
      asks_out J p (args_are.SweepLayout own) verb (last_answer J p) out none false refl
      (late_out (args_are.SweepLayout own) (fixed act_is.CallSweep 1 true) (row_at 27 0 row _ (row_of J p (node_at above root (args_are.SweepLayout own) first)) (ap (row_after 0) none) refl at) refl is ∙ ap (calls 1) (same_Some _ verb v))
  caller_step (args_are.SweepLayout own) verb v (inr waits) at is =
      told_out J p (args_are.SweepLayout own) verb (last_answer J p) out waits.0 (report_of J p) refl (answered_told J p waits.1)
      (late_out (args_are.SweepLayout own) (fixed act_is.Settle 255 true) (row_at 27 1 row _ (row_of J p (node_at above root (args_are.SweepLayout own) first)) (ap (row_after 0) waits.0) refl at) refl is)
  caller_step (args_are.LayoutCall own) verb v (inl none) at is =
      early_out (args_are.LayoutCall own) verb (fixed act_is.CallLayout 1 false) (row_at 26 0 row _ (row_of J p (node_at above root (args_are.LayoutCall own) first)) (ap (row_after 0) none) refl at) refl _ refl
      (λ x. asks_out J p (args_are.LayoutCall own) verb (last_answer J p) out none false refl (x ∙ ap (calls 1) (same_Some _ verb v))) is
  caller_step (args_are.LayoutCall own) verb v (inr waits) at is =
      early_out (args_are.LayoutCall own) verb (fixed act_is.SettleLayout 255 false) (row_at 26 1 row _ (row_of J p (node_at above root (args_are.LayoutCall own) first)) (ap (row_after 0) waits.0) refl at) refl _ refl
      (λ x. laid_out J p (args_are.LayoutCall own) verb (last_answer J p) out waits.0 refl (report_of J p) refl (answered_told J p waits.1) x) is
  caller_step args verb v ready at is = absurd (none-some verb v)
