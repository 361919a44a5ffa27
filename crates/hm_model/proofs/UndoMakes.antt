-- What an undo makes.
use Rattle.std.proofs.Common.{◌≡◌, ℕ, List, [], ◌∷◌, Bool, true, false, not, ◌&&◌, ◌==◌, cond, Option, Some, None, is_some, refl, ap, sym, ◌∙◌, subst}
use Rattle.std.proofs.lemmas.Bool.{and_parts, eqb-true, true≢false, not-true}
use Rattle.std.proofs.lemmas.Option.{same_Some}
use Rattle.hm_names.specs.declared.pid.Pid.{Pid}
use Rattle.hm_data.specs.declared.place.Goal.TheVariants as goal_is
use Rattle.hm_data.specs.declared.act.Back.{Back}
use Rattle.hm_data.specs.declared.act.Back.TheVariants as back_is
use Rattle.hm_data.specs.declared.args.Args.{Args}
use Rattle.hm_data.specs.declared.catalog.Edit.{Edit}
use Rattle.hm_data.specs.declared.entry.Entry.{Entry}
use Rattle.hm_data.specs.declared.entry.Entry.TheVariants as entry_is
use Rattle.hm_data.specs.declared.sheet.Sheet.{Sheet}
use Rattle.hm_data.specs.declared.step.StepIn.{StepIn}
use Rattle.hm_data.specs.declared.step.StepOut.{StepOut}
use Rattle.hm_data.specs.declared.step.Turn.TheVariants as turn_is
use Rattle.hm_model.specs.Inputs.{latest_input, turn_input, undo_input}
use Rattle.hm_model.specs.Answers.{failing}
use Rattle.hm_model.specs.Journal.{Past}
use Rattle.hm_model.specs.Kinds.{kind_of}
use Rattle.hm_model.specs.Rules.{IsLegal}
use Rattle.hm_model.specs.Phase.{all_stopped, cause}
use Rattle.hm_model.specs.Sheets.{row_in, sheet_for, sheets_by, undo_by, undo_of_next}
use Rattle.hm_model.specs.Inputs.{step_input, input}
use Rattle.hm_model.specs.Evaluation.{answer_by, answer_of, turn_answer}
use Rattle.hm_model.specs.Undoing.{closed_by, undo_followers, undo_out}
use Rattle.hm_model.specs.Tree.{Node, is_top, node_of, root_in, root_of}
use Rattle.hm_model.specs.Undo.{Undoable, is_empty, pushed, rest_of, row_if_there, stack}
use Rattle.hm_model.proofs.Grown.{nodes_stay}
use Rattle.hm_model.proofs.Trees.{at_top, grown_all, sheets_stay, step_of}
use Rattle.hm_model.proofs.Said.{said_by}
use Rattle.hm_model.proofs.PlainActs.{all_quiet, quiet_transits}

-- each of the steps is of a procedure of a root's tree that is there, and is undone as its row says
abbrev pub AllThere : Past → ℕ → List Undoable → Type 0
AllThere J r [] = Unit {0}
AllThere J r (step ∷ below) =
    ((node : Node) × (node_of J step.pid ≡ Some node) × (undo_by (row_in (sheet_for (sheets_by J node.root) (kind_of node.args)) step.row) ≡ step.undo) × (node.root ≡ r)) × AllThere J r below

there_later : (entry : Entry) (J : Past) → IsLegal (entry ∷ J) → (r : ℕ) (steps : List Undoable) → AllThere J r steps → AllThere (entry ∷ J) r steps
there_later entry J legal r [] all = tt
there_later entry J legal r (step ∷ below) all =
    let its = all.0.0 in
    ((its, nodes_stay entry J legal step.pid its all.0.1, ap (λ l. undo_by (row_in (sheet_for l (kind_of its.args)) step.row)) (sheets_stay entry J legal step.pid its all.0.1) ∙ all.0.2, all.0.3), there_later entry J legal r below all.1)

there_rest : (J : Past) (r : ℕ) (steps : List Undoable) → AllThere J r steps → AllThere J r (rest_of steps)
there_rest J r [] all = tt
there_rest J r (step ∷ below) all = all.1

there_pushed : (J : Past) (r : ℕ) (undo : Back) (failed : Bool) (p row : ℕ) (edits : List Edit) (below : List Undoable) (node : Node) → node_of J p ≡ Some node → undo_by (row_in (sheet_for (sheets_by J node.root) (kind_of node.args)) row) ≡ undo → node.root ≡ r → AllThere J r below → AllThere J r (pushed undo failed p row edits below)
there_pushed J r back_is.Nothing failed p row edits below node is by of all = all
there_pushed J r back_is.Edits true p row edits below node is by of all = all
there_pushed J r back_is.Edits false p row edits below node is by of all = ((node, is, by, of), all)
there_pushed J r back_is.Sweep true p row edits below node is by of all = all
there_pushed J r back_is.Sweep false p row edits below node is by of all = ((node, is, by, of), all)
there_pushed J r back_is.Reopen true p row edits below node is by of all = all
there_pushed J r back_is.Reopen false p row edits below node is by of all = ((node, is, by, of), all)

there_if : (J : Past) (r : ℕ) (b : Bool) (one other : List Undoable) → (b ≡ true → AllThere J r one) → AllThere J r other → AllThere J r (cond b one other)
there_if J r true one other h k = h refl
there_if J r false one other h k = k

pub stacked_all : (J : Past) → IsLegal J → (r : ℕ) → AllThere J r (stack J r)
stacked_all [] legal r = tt
stacked_all (entry_is.Step pid pick out ∷ J) legal r =
    let now = entry_is.Step pid pick out ∷ J in
    let step = step_of pid pick out J (grown_all J legal.0) legal in
    let old = there_later (entry_is.Step pid pick out) J legal r (stack J r) (stacked_all J legal.0 r) in
    there_if now r (root_of J pid.0 == r) (pushed (undo_of_next J pid.0 (node_of J pid.0)) (is_some (failing out.answer)) pid.0 (row_if_there J pid.0 (node_of J pid.0)) out.edits (stack J r)) (stack J r)
    (λ own. there_pushed now r (undo_of_next J pid.0 (node_of J pid.0)) (is_some (failing out.answer)) pid.0 (row_if_there J pid.0 (node_of J pid.0)) out.edits (stack J r) step.node (nodes_stay (entry_is.Step pid pick out) J legal pid.0 step.node step.node_is) (ap (λ n. undo_by (row_in (sheet_for (sheets_by J step.node.root) (kind_of step.node.args)) (row_if_there J pid.0 n))) step.node_is ∙ sym (ap (undo_of_next J pid.0) step.node_is)) (ap root_in (sym step.node_is) ∙ eqb-true (root_of J pid.0) r own) old)
    old
stacked_all (entry_is.Undo pid row out ∷ J) legal r =
    let now = entry_is.Undo pid row out ∷ J in
    let old = there_later (entry_is.Undo pid row out) J legal r (stack J r) (stacked_all J legal.0 r) in
    there_if now r (root_of J pid.0 == r) (rest_of (stack J r)) (stack J r) (λ own. there_rest now r (stack J r) old) old
stacked_all (entry_is.Base part ∷ J) legal r = tt
stacked_all (entry ∷ J) legal r = there_later entry J legal r (stack J r) (stacked_all J legal.0 r)

quiet_followers : (undo : Back) (args : Args) (root : Pid) → all_quiet (undo_followers undo args root) ≡ true
quiet_followers back_is.Reopen args root = quiet_transits goal_is.Assign (closed_by args)
quiet_followers undo args root = refl

said_undone : (sheet : Option Sheet) (at : StepIn) (edits : List Edit) (out : StepOut) → at.turn ≡ turn_is.Undo edits → answer_by sheet at ≡ Some out → (undo : Back) × (undo ≡ undo_by (row_in sheet at.row)) × (out ≡ undo_out undo at.args at.root edits)
said_undone sheet at edits out turn is = let said = said_by sheet at out is in (said.2.undo, sym (ap (λ s. undo_by (row_in s at.row)) said.1 ∙ ap undo_by said.3), said.4 ∙ ap (turn_answer said.2 at) turn)

-- an undo is the undo of a step that is there
pub record IsUndoOf (J : Past) (r : ℕ) (out : StepOut) : Type 0 where
  pub latest : Undoable
  pub below : List Undoable
  pub stack_is : stack J r ≡ latest ∷ below
  pub undo : Back
  pub undo_is : undo ≡ latest.undo
  pub args : Args
  pub root : Pid
  pub out_is : out ≡ undo_out undo args root latest.edits

by_stack : (J : Past) (r : ℕ) (node : Node) (out : StepOut) (steps : List Undoable) → stack J r ≡ steps → is_empty steps ≡ false → AllThere J r steps → answer_of (sheets_by J r) (latest_input J steps (step_input J r node None)) ≡ Some out → IsUndoOf J r out
by_stack J r node out [] e some all is = absurd (true≢false some)
by_stack J r node out (latest ∷ below) e some all is =
    let its = all.0.0 in
    let at : StepIn = undo_input latest its (step_input J r node None) in
    let is_at : latest_input J (latest ∷ below) (step_input J r node None) ≡ at = ap (λ n. elim n as (λ x. StepIn) [ None ↦ step_input J r node None | Some y ↦ undo_input latest y (step_input J r node None) ]) all.0.1 in
    let said = said_undone (sheet_for (sheets_by J r) at.kind) at latest.edits out refl (ap (answer_of (sheets_by J r)) (sym is_at) ∙ is) in
    record { latest = latest; below = below; stack_is = e; undo = said.0; undo_is = said.1 ∙ ap (λ s. undo_by (row_in (sheet_for (sheets_by J s) at.kind) at.row)) (sym all.0.3) ∙ all.0.2; args = at.args; root = at.root; out_is = said.2 }

pub undo_of : (pid : Pid) (row : ℕ) (out : StepOut) (J : Past) → IsLegal (entry_is.Undo pid row out ∷ J) → IsUndoOf J (root_of J pid.0) out
undo_of pid row out J legal =
    let latest = legal.1.1.0 in
    let answer = legal.1.1.1.0 in
    let r = root_of J pid.0 in
    let same : answer.0 ≡ latest.0 = same_Some answer.0 latest.0 (sym answer.1 ∙ latest.1) in
    let parts = and_parts (is_top latest.0.above) (is_some (cause J r) && (all_stopped J r && not (is_empty (stack J r)))) latest.2 in
    let more = and_parts (is_some (cause J r)) (all_stopped J r && not (is_empty (stack J r))) parts.1 in
    let last = and_parts (all_stopped J r) (not (is_empty (stack J r))) more.1 in
    by_stack J r latest.0 out (stack J r) refl (not-true (is_empty (stack J r)) last.1) (stacked_all J legal.0 r)
    (ap (λ s. answer_of (sheets_by J s) (turn_input J true (stack J r) (step_input J r latest.0 None))) (sym (at_top J (grown_all J legal.0) r latest.0 latest.1 parts.0))
    ∙ ap (λ b. answer_of (sheets_by J latest.0.root) (turn_input J b (stack J r) (step_input J r latest.0 None))) (sym latest.2)
    ∙ subst (λ (n : Node). answer_of (sheets_by J n.root) (input J r n None) ≡ Some out) same answer.2)

-- so it makes no calls to region servers
pub undo_quiet : (pid : Pid) (row : ℕ) (out : StepOut) (J : Past) → IsLegal (entry_is.Undo pid row out ∷ J) → all_quiet out.followers ≡ true
undo_quiet pid row out J legal = let u = undo_of pid row out J legal in ap (λ (o : StepOut). all_quiet o.followers) u.out_is ∙ quiet_followers u.undo u.args u.root
