-- Whether an entry may follow, by its evaluation, where its other rules hold.
use Rattle.std.proofs.Common.{◌≡◌, ◌≢◌, ◌↔◌, ℕ, List, [], ◌∷◌, Bool, true, IsTrue, IfOk, IfErr, OnOk, Result, Ok, Err, Option, Some, None, refl, inl, inr, ap, sym, subst, ◌∙◌, arith}
use Rattle.std.proofs.lemmas.Bool.{true≢false}
use Rattle.std.proofs.lemmas.Result.{on_ok_weaker}
use Rattle.hm_names.specs.Server.{Server}
use Rattle.hm_names.specs.declared.pid.Pid.{Pid}
use Rattle.hm_data.specs.declared.entry.Entry.{Entry}
use Rattle.hm_data.specs.declared.entry.Entry.TheVariants as entry_is
use Rattle.hm_data.specs.declared.step.StepIn.{StepIn}
use Rattle.hm_data.specs.declared.step.StepOut.{StepOut}
use Rattle.hm_model.specs.Editions.{sheets_in}
use Rattle.hm_model.specs.Evaluation.{answer_of}
use Rattle.hm_model.specs.Inputs.{IsEvaluated, answers, input}
use Rattle.hm_model.specs.Journal.{Past}
use Rattle.hm_model.specs.Rules.{AllHold, Allowed, Breaks, IsLegal, unbegun}
use Rattle.hm_model.specs.Tree.{Node, node_of, root_of}
use Rattle.hm_judge.specs.Inputs.{CanEvaluate, IsInput}
use Rattle.hm_judge.specs.Judge.{AllHoldBut, HoldsBut, IsEvaluation, IsRefusal, IsRefusedBy, IsUnrefused, IsWhy}
use Rattle.hm_judge.specs.declared.why.NotAllowed.{NotAllowed}
use Rattle.hm_judge.specs.declared.why.NotAllowed.TheVariants as not_allowed
use Rattle.hm_judge.proofs.Editions.{seen_sheets}

-- the rule that nothing has begun is no evaluation
unbegun_other : (J : Past) (rule : ℕ) → 1 ≢ rule → 18 ≢ rule → unbegun J ≡ rule → ⊥
unbegun_other [] rule one more e = one e
unbegun_other (entry ∷ before) rule one more e = more e

not_step : (J : Past) → unbegun J ≡ 8 → ⊥
not_step J e = unbegun_other J 8 (λ e. omega (arith, e)) (λ e. omega (arith, e)) e

not_undo : (J : Past) → unbegun J ≡ 10 → ⊥
not_undo J e = unbegun_other J 10 (λ e. omega (arith, e)) (λ e. omega (arith, e)) e

-- who can be called is there
pub there_of : (J : Past) (p : ℕ) (pick : Option Server) → CanEvaluate J p pick → (x : Node) × (node_of J p ≡ Some x)
there_of J p pick (inl steps) = (steps.0.0, steps.0.1)
there_of J p pick (inr turns) = (turns.0, turns.1)

-- a call answers what the sheets of the edition that it sees say there
pub evaluated_if : {E : Type 0} (J : Past) → IsLegal J → (p : ℕ) (pick : Option Server) (at : StepIn) (out : StepOut) (r : Result Bool E) → CanEvaluate J p pick → IsInput J p pick at
    → IfOk r (λ same. IsTrue same ↔ (answer_of (sheets_in J at.edition) at ≡ Some out)) → IfOk r (λ same. IsTrue same ↔ IsEvaluated J p pick out)
evaluated_if J legal p pick at out (Ok same) can is said =
    let there = there_of J p pick can in (
      λ on. (there.0, there.1, own there.0 there.1 ∙ said.0 on),
      λ ev. said.1 (sym (own ev.0 ev.1) ∙ ev.2),
    )
  where
    own : (node : Node) → node_of J p ≡ Some node → answers J p node pick ≡ answer_of (sheets_in J at.edition) at
    own node there =
        ap (λ sheets. answer_of sheets (input J p node pick)) (seen_sheets J legal p node there pick at (is node there))
        ∙ ap (answer_of (sheets_in J at.edition)) (sym (is node there))
evaluated_if J legal p pick at out (Err e) can is said = tt

-- a step whose other rules hold can be evaluated
pub can_step : (J : Past) (pid : Pid) (pick : Option Server) (out : StepOut) → HoldsBut J (entry_is.Step pid pick out) → CanEvaluate J pid.0 pick
can_step J pid pick out holds = inl (holds.1.0 (λ e. omega (arith, e)), holds.1.1.1.0 (λ e. omega (arith, e)))

-- so can the root of what is undone
pub can_undo : (J : Past) (pid : Pid) (row : ℕ) (out : StepOut) → HoldsBut J (entry_is.Undo pid row out) → CanEvaluate J (root_of J pid.0) None
can_undo J pid row out holds = let latest = holds.1.0 (λ e. omega (arith, e)) in inr (latest.0, latest.1, latest.2)

-- it may follow where its evaluation is the same
pub allowed_by : {E X : Type 0} (J : Past) (entry : Entry) (It : Type 0) (same : Result Bool E) (r : Result X NotAllowed) → (It → Allowed J entry) → IfOk same (λ b. IsTrue b ↔ It)
    → OnOk r (same ≡ Ok true) → OnOk r (Allowed J entry)
allowed_by J entry It same r allows said ok = on_ok_weaker r (λ is. let both : IsTrue true ↔ It = subst (λ s. IfOk s (λ b. IsTrue b ↔ It)) is said in allows (both.0 refl)) ok

-- else it is refused by that, or for want of memory
pub refused_by : {E X : Type 0} (J : Past) (entry : Entry) (It : Type 0) (number : ℕ) (same : Result Bool E) (r : Result X NotAllowed) → ((It → ⊥) → IsRefusedBy J entry number) → IsEvaluation entry number → IsUnrefused J entry
    → IfOk same (λ b. IsTrue b ↔ It) → IfErr r (IsRefusal number same) → IfErr r (IsWhy J entry)
refused_by J entry It number same (Ok x) breaks is rest said refusal = tt
refused_by J entry It number (Ok b) (Err (not_allowed.Rule k)) breaks is rest said refusal = subst (IsRefusedBy J entry) (sym refusal.1) (breaks (λ it. true≢false (sym (said.1 it) ∙ refusal.0)))
refused_by J entry It number (Err e) (Err (not_allowed.Rule k)) breaks is rest said refusal = absurd refusal
refused_by J entry It number (Ok b) (Err not_allowed.Memory) breaks is rest said refusal = absurd refusal
refused_by J entry It number (Err e) (Err not_allowed.Memory) breaks is rest said refusal = ((number, is), rest)

module _ (J : Past) (pid : Pid) (pick : Option Server) (out : StepOut) (holds : HoldsBut J (entry_is.Step pid pick out)) where
  pub allows_step : IsEvaluated J pid.0 pick out → Allowed J (entry_is.Step pid pick out)
  allows_step ev =
      (holds.0 (not_step J), (holds.1.0 (λ e. omega (arith, e)), (holds.1.1.0 (λ e. omega (arith, e)), (holds.1.1.1.0 (λ e. omega (arith, e)), (ev, tt)))))

  pub breaks_step : (IsEvaluated J pid.0 pick out → ⊥) → Breaks J (entry_is.Step pid pick out) 8
  breaks_step differs =
      inr (holds.0 (not_step J), inr (holds.1.0 (λ e. omega (arith, e)), inr (holds.1.1.0 (λ e. omega (arith, e)), inr (holds.1.1.1.0 (λ e. omega (arith, e)), inl (refl, differs)))))

module _ (J : Past) (pid : Pid) (row : ℕ) (out : StepOut) (holds : HoldsBut J (entry_is.Undo pid row out)) where
  pub allows_undo : IsEvaluated J (root_of J pid.0) None out → Allowed J (entry_is.Undo pid row out)
  allows_undo ev = (holds.0 (not_undo J), (holds.1.0 (λ e. omega (arith, e)), (ev, tt)))

  pub breaks_undo : (IsEvaluated J (root_of J pid.0) None out → ⊥) → Breaks J (entry_is.Undo pid row out) 10
  breaks_undo differs = inr (holds.0 (not_undo J), inr (holds.1.0 (λ e. omega (arith, e)), inl (refl, differs)))

-- an entry without an evaluation may follow where its rules hold
pub allows_each : (entry : Entry) (numbered : List (ℕ × Type 0)) → ((rule : ℕ) → IsEvaluation entry rule → ⊥) → AllHoldBut entry numbered → AllHold numbered
allows_each entry [] none all = tt
allows_each entry ((number, it) ∷ more) none all = (all.0 (none number), allows_each entry more none all.1)
