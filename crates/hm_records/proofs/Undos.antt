-- The step that an entry leaves to be undone, by what is shown of its procedure: its root's sheets are those of its edition.
use Rattle.std.proofs.Common.{◌≡◌, ◌≤◌, ◌⊎◌, ℕ, Bool, true, false, not, ◌&&◌, if◌then◌else◌, Option, None, Some, is_some, refl, ap, sym, subst, ◌∙◌, inl, inr}
use Rattle.std.specs.Option.{option_map}
use Rattle.std.proofs.lemmas.Option.{none-some, same_Some}
use Rattle.hm_names.specs.Server.{Server}
use Rattle.hm_names.specs.declared.pid.Pid.{Pid}
use Rattle.hm_data.specs.declared.act.Back.{Back}
use Rattle.hm_data.specs.declared.entry.Entry.TheVariants as entry_is
use Rattle.hm_data.specs.declared.record.Record.{Record}
use Rattle.hm_data.specs.declared.step.StepOut.{StepOut}
use Rattle.hm_model.specs.Answers.{failing, row_of}
use Rattle.hm_model.specs.Journal.{Past}
use Rattle.hm_model.specs.Kinds.{kind_of}
use Rattle.hm_model.specs.Editions.{editions, sheets_in}
use Rattle.hm_model.specs.Records.{record_at, record_of}
use Rattle.hm_model.specs.Rules.{IsLegal}
use Rattle.hm_model.specs.Sheets.{row_in, sheet_for, undo_by, undo_of_next}
use Rattle.hm_model.specs.Tree.{Node, is_root_in, is_top, node_of}
use Rattle.hm_model.specs.Undo.{row_if_there}
use Rattle.hm_model.proofs.Editions.{edition_within, root_has}
use Rattle.hm_model.proofs.Forest.{rooted_all}
use Rattle.hm_undo.specs.Laws.{has_undo, leaves_undo, next_step}
use Rattle.hm_undo.specs.declared.slot.Step.{Step}
use Rattle.hm_records.specs.Parts.{step_left}

-- a procedure that is shown is there
shown_there : (J : Past) (p : ℕ) (shown : Record) (o : Option Node) → node_of J p ≡ o → Some shown ≡ option_map (record_at J p) o → (x : Node) × (node_of J p ≡ Some x) × (record_at J p x ≡ shown)
shown_there J p shown None e is = absurd (none-some shown (sym is))
shown_there J p shown (Some x) e is = (x, e, same_Some (record_at J p x) shown (sym is))

-- a test of two, by each
both_pass : (a b : Bool) → a ≡ true → b ≡ false → (a && not b) ≡ true
both_pass a b ea eb = ap (λ t. t && not b) ea ∙ ap not eb

one_fails : (a b : Bool) → (a ≡ false) ⊎ (b ≡ true) → (a && not b) ≡ false
one_fails false b h = refl
one_fails true true h = refl
one_fails true false (inl e) = e
one_fails true false (inr e) = sym e

module _ (J : Past) (legal : IsLegal J) (pid : Pid) (shown : Record) (is : Some shown ≡ record_of J pid.0) where
  abbrev its_undo : Back
  its_undo = undo_by (row_in (sheet_for (sheets_in J shown.edition) shown.kind) shown.row)

  there : (x : Node) × (node_of J pid.0 ≡ Some x) × (record_at J pid.0 x ≡ shown)
  there = shown_there J pid.0 shown (node_of J pid.0) refl is

  undo_is : undo_of_next J pid.0 (node_of J pid.0) ≡ its_undo
  undo_is =
      let x = there.0 in
      let root = rooted_all J legal pid.0 x there.1 in
      ap (undo_of_next J pid.0) there.1
      ∙ ap (λ sheets. undo_by (row_in (sheet_for sheets (kind_of x.args)) (row_of J pid.0 x))) (root_has J legal x.root (ap is_root_in root.there ∙ ap is_top root.at_top)).0
      ∙ ap (λ (r : Record). undo_by (row_in (sheet_for (sheets_in J r.edition) r.kind) r.row)) there.2

  -- the edition that is shown is one of the journal's
  pub shown_within : shown.edition ≤ editions J
  shown_within = subst (λ (r : Record). r.edition ≤ editions J) there.2 (edition_within J (let x = there.0 in x.root))

  row_is : row_if_there J pid.0 (node_of J pid.0) ≡ shown.row
  row_is = ap (row_if_there J pid.0) there.1 ∙ ap (λ (r : Record). r.row) there.2

  module _ (pick : Option Server) (out : StepOut) (undo : Back) (its : undo ≡ its_undo) where
    leaves_is : leaves_undo J pid out ≡ (has_undo undo && not (is_some (failing out.answer)))
    leaves_is = ap (λ u. has_undo u && not (is_some (failing out.answer))) (undo_is ∙ sym its)

    -- it is left where its row has an undo and it didn't fail
    pub one_left : has_undo undo ≡ true → is_some (failing out.answer) ≡ false
        → step_left J (entry_is.Step pid pick out) ≡ Some (let step : Step = record { pid = pid; row = shown.row; edits = out.edits } in step)
    one_left has goes =
        ap (λ b. if b then Some (next_step J pid out) else None) (leaves_is ∙ both_pass (has_undo undo) (is_some (failing out.answer)) has goes)
        ∙ ap (λ row. Some (let step : Step = record { pid = pid; row = row; edits = out.edits } in step)) row_is

    -- and is not where it has none, or it did
    pub nothing_left : (has_undo undo ≡ false) ⊎ (is_some (failing out.answer) ≡ true) → step_left J (entry_is.Step pid pick out) ≡ None
    nothing_left h = ap (λ b. if b then Some (next_step J pid out) else None) (leaves_is ∙ one_fails (has_undo undo) (is_some (failing out.answer)) h)
