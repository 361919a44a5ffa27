-- What the next call of a procedure's handler sees, by the procedure as it is shown.
use Rattle.std.proofs.Common.{◌≡◌, ◌↔◌, Bool, true, false, IsTrue, Option, Some, None, ap, sym, ◌∙◌}
use Rattle.std.proofs.lemmas.Option.{same_Some}
use Rattle.hm_names.specs.Server.{Server}
use Rattle.hm_names.specs.declared.pid.Pid.{Pid}
use Rattle.hm_data.specs.declared.record.Record.{Record}
use Rattle.hm_data.specs.declared.step.StepIn.{StepIn}
use Rattle.hm_model.specs.Inputs.{latest_input, step_input, turn_input, undo_input, undoes}
use Rattle.hm_model.specs.Journal.{Past}
use Rattle.hm_model.specs.Records.{record_of}
use Rattle.hm_model.specs.Rest.{MayUndo}
use Rattle.hm_model.specs.Tree.{Node, node_of}
use Rattle.hm_model.specs.Undo.{Undoable, stack}
use Rattle.hm_judge.specs.Inputs.{IsInput, seen_by}
use Rattle.hm_judge.specs.Turns.{IsLatestOf, turned_to}
use Rattle.hm_judge.specs.declared.turns.Latest.{Latest}
use Rattle.hm_judge.proofs.Found.{shown_of}
use Rattle.hm_judge.proofs.Picking.{undoes_not}

-- who is shown sees this of a step of its own
seen_step : (J : Past) (pid : Pid) (its : Record) (pick : Option Server) → Some its ≡ record_of J pid.0 → (x : Node) → node_of J pid.0 ≡ Some x → seen_by J pid its pick ≡ step_input J pid.0 x pick
seen_step J pid its pick some x is = ap (λ r. seen_by J pid r pick) (shown_of J pid.0 its some x is)

-- where nothing is undone of it, that is what the next call sees
pub sees_step : (J : Past) (pid : Pid) (its : Record) (pick : Option Server) (at : StepIn) (turns : Bool) → Some its ≡ record_of J pid.0 → turns ≡ false → (IsTrue turns ↔ MayUndo J pid.0)
    → at ≡ seen_by J pid its pick → IsInput J pid.0 pick at
sees_step J pid its pick at turns some off tells said x is =
    said ∙ seen_step J pid its pick some x is
    ∙ sym (ap (λ b. turn_input J b (stack J pid.0) (step_input J pid.0 x pick)) (undoes_not J pid.0 x is turns off tells))

-- where its latest step is undone, that is
pub sees_undo : (J : Past) (pid : Pid) (its : Record) (pick : Option Server) (at : StepIn) (latest : Latest) → Some its ≡ record_of J pid.0 → MayUndo J pid.0 → IsLatestOf J pid.0 latest
    → at ≡ turned_to (seen_by J pid its pick) latest → IsInput J pid.0 pick at
sees_undo J pid its pick at latest some may last said x is =
    let own : StepIn = step_input J pid.0 x pick in
    let on : undoes J pid.0 x ≡ true = ap (undoes J pid.0) (same_Some x may.0 (sym is ∙ may.1)) ∙ may.2 in
    let step : Undoable = last.0 in
    said
    ∙ ap (turned_to (seen_by J pid its pick)) last.5
    ∙ ap (undo_input step last.3) (seen_step J pid its pick some x is)
    ∙ sym (ap (λ n. elim n as (λ y. StepIn) [ None ↦ own | Some node ↦ undo_input step node own ]) last.4)
    ∙ sym (ap (λ steps. latest_input J steps own) last.2)
    ∙ sym (ap (λ b. turn_input J b (stack J pid.0) own) on)
