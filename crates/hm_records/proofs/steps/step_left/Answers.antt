use Rattle.std.proofs.Common.{◌≡◌, ◌⊎◌, List, Some, true, false, is_some, ap, sym, ◌∙◌, inl, inr}
use Rattle.std.specs.Option.{option_copied}
use Rattle.hm_names.specs.declared.pid.Pid.{Pid}
use Rattle.hm_data.specs.declared.catalog.Edit.{Edit}
use Rattle.hm_data.specs.declared.record.Record.{Record}
use Rattle.hm_data.specs.declared.sheet.Sheet.{Sheet}
use Rattle.hm_data.specs.declared.step.StepOut.{StepOut}
use Rattle.hm_model.specs.Answers.{failing}
use Rattle.hm_model.specs.Journal.{Past}
use Rattle.hm_model.specs.Records.{record_of}
use Rattle.hm_model.specs.Sheets.{row_in, sheet_for, undo_by}
use Rattle.hm_undo.specs.Laws.{has_undo}
use Rattle.hm_undo.specs.declared.slot.Step.{Step}
use Rattle.hm_records.specs.Parts.{step_left}
use Rattle.hm_records.proofs.Undos.{nothing_left, one_left, shown_within}
use Rattle.hm_records.proofs.steps.step_left.Goals as goal
use Rattle.hm_records.proofs.steps.step_left.Goals.{then-not-has_undo-via-then-not-has_undo, then-not-has_undo-via-else-not-has_undo+then-is_failure}

pub sheets_of-requires : goal.sheets_of-requires
sheets_of-requires c =
    let J : Past = c.args.records.now.past in
    let pid : Pid = c.in-Step.pid in
    let told = sym (ap option_copied c.in-Some.is) ∙ c.find.ensures ∙ ap (λ (l : Past). record_of l pid.0) c.procedures.ensures.past in
    shown_within J c.procedures.ensures.legal pid c.in-Some.record.now told

pub returns-then-not-has_undo : goal.returns-then-not-has_undo
returns-then-not-has_undo c =
    let J : Past = c.args.records.now.past in
    let pid : Pid = c.in-Step.pid in
    let out : StepOut = c.in-Step.out in
    let shown : Record = c.in-Some.record.now in
    let told = sym (ap option_copied c.in-Some.is) ∙ c.find.ensures ∙ ap (λ (l : Past). record_of l pid.0) c.procedures.ensures.past in
    let its = c.undo_at-undo.ensures ∙ ap (λ (l : List Sheet). undo_by (row_in (sheet_for l shown.kind) shown.row)) c.sheets_of.ensures in
    let why : (has_undo c.undo_at-undo.result ≡ false) ⊎ (is_some (failing out.answer) ≡ true) = elim c.then-not-has_undo.branch [
      | then-not-has_undo-via-then-not-has_undo w ↦ inl (sym c.has_undo.ensures ∙ w.if-not-has_undo.true)
      | then-not-has_undo-via-else-not-has_undo+then-is_failure w ↦ inr (sym w.is_failure.ensures ∙ w.if-is_failure.true)
    ] in
    sym (ap (step_left J) c.in-Step.is ∙ nothing_left J c.procedures.ensures.legal pid shown told c.in-Step.pick out c.undo_at-undo.result its why)

pub returns : goal.returns
returns c =
    let J : Past = c.args.records.now.past in
    let pid : Pid = c.in-Step.pid in
    let out : StepOut = c.in-Step.out in
    let shown : Record = c.in-Some.record.now in
    let told = sym (ap option_copied c.in-Some.is) ∙ c.find.ensures ∙ ap (λ (l : Past). record_of l pid.0) c.procedures.ensures.past in
    let its = c.undo_at-undo.ensures ∙ ap (λ (l : List Sheet). undo_by (row_in (sheet_for l shown.kind) shown.row)) c.sheets_of.ensures in
    ap (λ (edits : List Edit). Some (let step : Step = record { pid = pid; row = shown.row; edits = edits } in step)) c.in_ok-copy.ensures
    ∙ sym (ap (step_left J) c.in-Step.is ∙ one_left J c.procedures.ensures.legal pid shown told c.in-Step.pick out c.undo_at-undo.result its
    (sym c.has_undo.ensures ∙ c.if-not-has_undo.false) (sym c.is_failure.ensures ∙ c.if-is_failure.false))
