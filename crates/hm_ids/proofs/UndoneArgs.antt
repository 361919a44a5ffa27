-- An undo makes what follows of the args of the procedure whose step is undone.
use Rattle.std.proofs.Common.{◌≡◌, ℕ, List, [], ◌∷◌, false, not, ◌&&◌, Some, None, is_some, ap, sym, ◌∙◌, subst}
use Rattle.std.proofs.lemmas.Bool.{and_parts, true≢false, not-true}
use Rattle.std.proofs.lemmas.Option.{same_Some}
use Rattle.hm_names.specs.declared.pid.Pid.{Pid}
use Rattle.hm_data.specs.declared.act.Back.{Back}
use Rattle.hm_data.specs.declared.entry.Entry.TheVariants as entry_is
use Rattle.hm_data.specs.declared.step.StepIn.{StepIn}
use Rattle.hm_data.specs.declared.step.StepOut.{StepOut}
use Rattle.hm_model.proofs.Said.{said_by}
use Rattle.hm_model.proofs.UndoMakes.{AllThere, stacked_all}
use Rattle.hm_model.specs.Evaluation.{answer_of}
use Rattle.hm_model.specs.Inputs.{input, latest_input, step_input, turn_input, undo_input}
use Rattle.hm_model.specs.Journal.{Past}
use Rattle.hm_model.specs.Phase.{all_stopped, cause}
use Rattle.hm_model.specs.Rules.{IsLegal}
use Rattle.hm_model.specs.Sheets.{sheet_for, sheets_by}
use Rattle.hm_model.specs.Tree.{Node, is_top, node_of, root_of}
use Rattle.hm_model.specs.Undo.{Undoable, is_empty, stack}
use Rattle.hm_model.specs.Undoing.{undo_out}

-- what is undone is a step of a procedure that is there, and it is undone with its args
pub record IsUndoneOf (J : Past) (out : StepOut) : Type 0 where
  pub latest : Undoable
  pub node : Node
  pub node_is : node_of J latest.pid ≡ Some node
  pub undo : Back
  pub root : Pid
  pub out_is : out ≡ undo_out undo node.args root latest.edits

by_latest : (J : Past) (r : ℕ) (top : Node) (out : StepOut) (steps : List Undoable) → is_empty steps ≡ false → AllThere J r steps → answer_of (sheets_by J top.root) (latest_input J steps (step_input J r top None)) ≡ Some out → IsUndoneOf J out
by_latest J r top out [] some all is = absurd (true≢false some)
by_latest J r top out (latest ∷ below) some all is =
    let its = all.0.0 in
    let at : StepIn = undo_input latest its (step_input J r top None) in
    let is_at : latest_input J (latest ∷ below) (step_input J r top None) ≡ at = ap (λ n. elim n as (λ x. StepIn) [ None ↦ step_input J r top None | Some y ↦ undo_input latest y (step_input J r top None) ]) all.0.1 in
    let said = said_by (sheet_for (sheets_by J top.root) at.kind) at out (ap (answer_of (sheets_by J top.root)) (sym is_at) ∙ is) in
    record { latest = latest; node = its; node_is = all.0.1; undo = said.2.undo; root = at.root; out_is = said.4 }

pub undone_of : (pid : Pid) (row : ℕ) (out : StepOut) (J : Past) → IsLegal (entry_is.Undo pid row out ∷ J) → IsUndoneOf J out
undone_of pid row out J legal =
    let latest = legal.1.1.0 in
    let answer = legal.1.1.1.0 in
    let r = root_of J pid.0 in
    let same : answer.0 ≡ latest.0 = same_Some answer.0 latest.0 (sym answer.1 ∙ latest.1) in
    let parts = and_parts (is_top latest.0.above) (is_some (cause J r) && (all_stopped J r && not (is_empty (stack J r)))) latest.2 in
    let more = and_parts (is_some (cause J r)) (all_stopped J r && not (is_empty (stack J r))) parts.1 in
    let last = and_parts (all_stopped J r) (not (is_empty (stack J r))) more.1 in
    by_latest J r latest.0 out (stack J r) (not-true (is_empty (stack J r)) last.1) (stacked_all J legal.0 r)
    (ap (λ b. answer_of (sheets_by J latest.0.root) (turn_input J b (stack J r) (step_input J r latest.0 None))) (sym latest.2)
    ∙ subst (λ (n : Node). answer_of (sheets_by J n.root) (input J r n None) ≡ Some out) same answer.2)
