-- What a legal step is: of whom, at which row, and what it answers there.
use Rattle.std.proofs.Common.{◌≡◌, ℕ, [], ◌∷◌, Bool, true, false, not, ◌&&◌, Option, Some, None, is_some, refl, ap, sym, ◌∙◌, subst, inl, inr, slice_get}
use Rattle.std.proofs.lemmas.Bool.{and_left, and_right, cases_Bool, false≢true}
use Rattle.std.proofs.lemmas.Option.{same_Some}
use Rattle.hm_names.specs.Server.{Server}
use Rattle.hm_names.specs.declared.pid.Pid.{Pid}
use Rattle.hm_data.specs.declared.answer.Answer.{Answer}
use Rattle.hm_data.specs.declared.answer.Answer.TheVariants as answer_is
use Rattle.hm_data.specs.declared.answer.Cause.{Cause}
use Rattle.hm_data.specs.declared.entry.Entry.TheVariants as entry_is
use Rattle.hm_data.specs.declared.record.Phase.{Phase}
use Rattle.hm_data.specs.declared.record.Phase.TheVariants as phase_is
use Rattle.hm_data.specs.declared.sheet.Row.{Row}
use Rattle.hm_data.specs.declared.sheet.Sheet.{Sheet}
use Rattle.hm_data.specs.declared.step.StepOut.{StepOut}
use Rattle.hm_model.specs.Answers.{is_stopped, last_answer, row_of}
use Rattle.hm_model.specs.Evaluation.{answer_of, picks_at, picks_by, row_answer}
use Rattle.hm_model.specs.Rest.{IsAnswered, IsReady}
use Rattle.hm_model.specs.Lists.{exact_rows}
use Rattle.hm_model.specs.Inputs.{turn_input, undoes}
use Rattle.hm_model.specs.Journal.{Past}
use Rattle.hm_model.specs.Kinds.{kind_of}
use Rattle.hm_model.specs.Rules.{IsLegal}
use Rattle.hm_model.specs.Phase.{all_stopped, cause, children_ended, own_phase, phase_table, rolled_back}
use Rattle.hm_model.specs.Picks.{PicksRight, is_pick_right, needs_server}
use Rattle.hm_model.specs.Procedures.{sheet_at, sheet_by, sheet_of}
use Rattle.hm_model.specs.Sheets.{row_in, sheet_for, sheets_by}
use Rattle.hm_model.specs.Inputs.{IsEvaluated, step_input, input}
use Rattle.hm_model.specs.Tree.{Node, is_top, node_of}
use Rattle.hm_model.specs.Undo.{is_empty, stack}
use Rattle.hm_model.specs.Validity.{IsValid}
use Rattle.hm_model.proofs.ExactRows.{IsLed, sheet_is, valid_by}
use Rattle.hm_model.proofs.Said.{said_by}

-- when a procedure may step, by its last answer
abbrev pub ReadyBy : Past → ℕ → Node → Option Answer → Type 0
ReadyBy J p node None = Unit {0}
ReadyBy J p node (Some (answer_is.More next)) = Unit {0}
ReadyBy J p node (Some (answer_is.Wait next)) = children_ended J p ≡ true
ReadyBy J p node (Some (answer_is.Await next)) = IsAnswered J p node
ReadyBy J p node (Some (answer_is.Done told)) = ⊥
ReadyBy J p node (Some (answer_is.Fail cause)) = ⊥
ReadyBy J p node (Some answer_is.Undone) = ⊥

-- a phase that isn't one of failures
abbrev Goes : Phase → Type 0
Goes x = ((c : Cause) → x ≡ phase_is.Failed c → ⊥) × ((c : Cause) → x ≡ phase_is.RolledBack c → ⊥)

own_goes : (c : Option Cause) (rolled top : Bool) (own x : Phase) → Goes x → phase_table c rolled top own ≡ x → (own ≡ x) × (top ≡ true → c ≡ None)
own_goes None rolled top own x goes is = (is, λ t. refl)
own_goes (Some c) true top own x goes is = absurd (goes.1 c (sym is))
own_goes (Some c) false true own x goes is = absurd (goes.0 c (sym is))
own_goes (Some c) false false own x goes is = (is, λ t. absurd (false≢true t))

runs_goes : Goes phase_is.Runnable
runs_goes = (λ c e. cc, λ c e. cc)

awaits_goes : Goes phase_is.Awaiting
awaits_goes = (λ c e. cc, λ c e. cc)

ready_runs : (J : Past) (p : ℕ) (node : Node) (was : Option Answer) (b : Bool) → children_ended J p ≡ b → own_phase was b ≡ phase_is.Runnable → ReadyBy J p node was
ready_runs J p node None b e is = tt
ready_runs J p node (Some (answer_is.More next)) b e is = tt
ready_runs J p node (Some (answer_is.Wait next)) true e is = e
ready_runs J p node (Some (answer_is.Wait next)) false e is = cc
ready_runs J p node (Some (answer_is.Await next)) b e is = cc
ready_runs J p node (Some (answer_is.Done told)) b e is = cc
ready_runs J p node (Some (answer_is.Fail cause)) b e is = cc
ready_runs J p node (Some answer_is.Undone) b e is = cc

ready_awaits : (J : Past) (p : ℕ) (node : Node) (was : Option Answer) (b : Bool) → own_phase was b ≡ phase_is.Awaiting → IsAnswered J p node → ReadyBy J p node was
ready_awaits J p node None b is answered = cc
ready_awaits J p node (Some (answer_is.More next)) b is answered = cc
ready_awaits J p node (Some (answer_is.Wait next)) true is answered = cc
ready_awaits J p node (Some (answer_is.Wait next)) false is answered = cc
ready_awaits J p node (Some (answer_is.Await next)) b is answered = answered
ready_awaits J p node (Some (answer_is.Done told)) b is answered = cc
ready_awaits J p node (Some (answer_is.Fail cause)) b is answered = cc
ready_awaits J p node (Some answer_is.Undone) b is answered = cc

can_ready : (J : Past) (p : ℕ) (node : Node) → IsReady J p node → ReadyBy J p node (last_answer J p) × (is_top node.above ≡ true → cause J node.root ≡ None)
can_ready J p node can = elim can [
  | inl runs ↦
      let o = own_goes (cause J node.root) (rolled_back J node.root) (is_top node.above) (own_phase (last_answer J p) (children_ended J p)) phase_is.Runnable runs_goes runs in
      (ready_runs J p node (last_answer J p) (children_ended J p) refl o.0, o.1)
  | inr waits ↦
      let o = own_goes (cause J node.root) (rolled_back J node.root) (is_top node.above) (own_phase (last_answer J p) (children_ended J p)) phase_is.Awaiting awaits_goes waits.0 in
      (ready_awaits J p node (last_answer J p) (children_ended J p) o.0 waits.1, o.1)
]

pub ready_stops : (J : Past) (p : ℕ) (node : Node) (was : Option Answer) → ReadyBy J p node was → is_stopped was ≡ false
ready_stops J p node None h = refl
ready_stops J p node (Some (answer_is.More next)) h = refl
ready_stops J p node (Some (answer_is.Wait next)) h = refl
ready_stops J p node (Some (answer_is.Await next)) h = refl
ready_stops J p node (Some (answer_is.Done told)) h = absurd h
ready_stops J p node (Some (answer_is.Fail cause)) h = absurd h
ready_stops J p node (Some answer_is.Undone) h = absurd h

-- what is known of a legal step
pub record StepFacts (J : Past) (p : ℕ) (pick : Option Server) (out : StepOut) : Type 0 where
  pub node : Node
  pub node_is : node_of J p ≡ Some node
  pub ready : ReadyBy J p node (last_answer J p)
  pub uncaused : is_top node.above ≡ true → cause J p ≡ None
  pub sheet : Sheet
  pub sheet_is : sheet_for (sheets_by J node.root) (kind_of node.args) ≡ Some sheet
  pub valid : IsValid sheet
  pub of_kind : sheet.kind ≡ kind_of node.args
  pub row : Row
  pub row_is : slice_get sheet.rows (row_of J p node) ≡ Some row
  pub out_is : out ≡ row_answer row (step_input J p node pick)
  pub right : is_pick_right J p node pick (picks_at (Some row) (step_input J p node None)) ≡ true

module _ (J : Past) (p : ℕ) (node : Node) (node_is : node_of J p ≡ Some node) (at_top : is_top node.above ≡ true → node.root ≡ p) (can : IsReady J p node) where
  no_cause : is_top node.above ≡ true → cause J p ≡ None
  no_cause top = ap (cause J) (sym (at_top top)) ∙ (can_ready J p node can).1 top

  undoes_not : undoes J p node ≡ false
  undoes_not = elim (cases_Bool (is_top node.above)) [
    | inl top ↦ and_right (is_top node.above) _ (and_left (is_some (cause J p)) (all_stopped J p && not (is_empty (stack J p))) (ap is_some (no_cause top)))
    | inr below ↦ and_left (is_top node.above) _ below
  ]

  sight_is : (pick : Option Server) → input J p node pick ≡ step_input J p node pick
  sight_is pick = ap (λ b. turn_input J b (stack J p) (step_input J p node pick)) undoes_not

  sheet_there : sheet_by J p ≡ sheet_for (sheets_by J node.root) (kind_of node.args)
  sheet_there = ap (λ n. elim n as (λ x. Option Sheet) [ None ↦ None | Some x ↦ sheet_of J p x ]) node_is

  module _ (led : exact_rows (kind_of node.args) ≡ [] → (sheet : Sheet) → sheet_for (sheets_by J node.root) (kind_of node.args) ≡ Some sheet → is_stopped (last_answer J p) ≡ false → IsLed (kind_of node.args) sheet.rows (row_of J p node)) where
    step_facts : (pick : Option Server) (out : StepOut) → IsLegal J → PicksRight J p pick → IsEvaluated J p pick out → StepFacts J p pick out
    step_facts pick out legal picks answer =
        let same : answer.0 ≡ node = same_Some answer.0 node (sym answer.1 ∙ node_is) in
        let said = said_by (sheet_for (sheets_by J node.root) (kind_of node.args)) (step_input J p node pick) out (ap (answer_of (sheets_by J node.root)) (sym (sight_is pick)) ∙ subst (λ (n : Node). answer_of (sheets_by J n.root) (input J p n pick) ≡ Some out) same answer.2) in
        let found = said.1 in
        let valid = sheet_is (sheets_by J node.root) (valid_by J legal node.root) (kind_of node.args) said.0 found in
        let other : picks.0 ≡ node = same_Some picks.0 node (sym picks.1 ∙ node_is) in
        let needs : needs_server J p node ≡ picks_at (Some said.2) (step_input J p node None) =
        ap (λ at. picks_by (sheet_at J at) at) (sight_is None) ∙ ap (λ s. picks_at (row_in s (row_of J p node)) (step_input J p node None)) (sheet_there ∙ said.1) ∙ ap (λ r. picks_at r (step_input J p node None)) said.3 in
        let ready = (can_ready J p node can).0 in
        record {
          node = node;
          node_is = node_is;
          ready = ready;
          uncaused = no_cause;
          sheet = said.0;
          sheet_is = found;
          valid = valid.0;
          of_kind = valid.1;
          row = said.2;
          row_is = said.3;
          out_is = said.4;
          right = ap (is_pick_right J p node pick) (sym needs) ∙ subst (λ n. is_pick_right J p n pick (needs_server J p n) ≡ true) other picks.2;
        }

-- a legal step, where a procedure without ancestors is its own root, and rows lead on
pub legal_step : (pid : Pid) (pick : Option Server) (out : StepOut) (J : Past) → ((node : Node) → node_of J pid.0 ≡ Some node → is_top node.above ≡ true → node.root ≡ pid.0)
    → ((node : Node) → node_of J pid.0 ≡ Some node → exact_rows (kind_of node.args) ≡ [] → (sheet : Sheet) → sheet_for (sheets_by J node.root) (kind_of node.args) ≡ Some sheet → is_stopped (last_answer J pid.0) ≡ false → IsLed (kind_of node.args) sheet.rows (row_of J pid.0 node))
    → IsLegal (entry_is.Step pid pick out ∷ J) → StepFacts J pid.0 pick out
legal_step pid pick out J at_top led legal =
    let may = legal.1.1.0 in
    step_facts J pid.0 may.0 may.1 (at_top may.0 may.1) may.2 (led may.0 may.1) pick out legal.0 legal.1.1.1.1.0 legal.1.1.1.1.1.0
