-- A row that places a region is after the point, so who may be aborted lacks no server to be picked.
use Rattle.std.proofs.Common.{Bool, List, None, Option, Some, [], ap, false, inl, inr, not, refl, slice_get, subst, suc, sym, true, zero, ℕ, ◌&&◌, ◌||◌, ◌∙◌, ◌∷◌, ◌≡◌, ◌⊎◌}
use Rattle.std.proofs.lemmas.Bool.{and_parts, cases_Bool, false≢true}
use Rattle.std.proofs.lemmas.Option.{none-some, same_Some}
use Rattle.hm_names.specs.declared.pid.Pid.{Pid}
use Rattle.hm_data.specs.declared.act.Act.{Act}
use Rattle.hm_data.specs.declared.act.Act.TheVariants as act_is
use Rattle.hm_data.specs.declared.args.Args.{Args}
use Rattle.hm_data.specs.declared.args.Args.TheVariants as args_are
use Rattle.hm_data.specs.declared.entry.Entry.TheVariants as entry_is
use Rattle.hm_data.specs.declared.request.Request.TheVariants as request_is
use Rattle.hm_data.specs.declared.sheet.Row.{Row}
use Rattle.hm_data.specs.declared.sheet.Sheet.{Sheet}
use Rattle.hm_model.specs.Answers.{is_stopped, last_answer, row_of}
use Rattle.hm_model.specs.Evaluation.{is_picking}
use Rattle.hm_model.specs.Journal.{Past}
use Rattle.hm_model.specs.Kinds.{first_row_of, kind_of}
use Rattle.hm_model.specs.Lists.{exact_rows}
use Rattle.hm_model.specs.Rules.{IsBeforePoint, IsLegal}
use Rattle.hm_model.specs.Sheets.{next_row, row_in, sheet_for, sheets_by}
use Rattle.hm_model.specs.Tree.{Node, node_of}
use Rattle.hm_model.proofs.ExactRows.{exact_is, led_row, sheet_is, valid_by}
use Rattle.hm_model.proofs.Trees.{grown_all}
use Rattle.hm_model.proofs.PlainActs.{is_plain}
use Rattle.hm_model.proofs.ValidSheets.{valid_end}
use Rattle.hm_model.proofs.Small.{implied}
use Rattle.hm_model.proofs.Answered.{stopped_row}
use Rattle.hm_tied.specs.Tied.{LacksPick}
use Rattle.hm_tied.proofs.Picking.{lacking_row}

-- where a row places a region it is after the point
abbrev is_marked : Row → Bool
is_marked row = not (is_picking row.act) || row.after

abbrev all_marked : List Row → Bool
all_marked [] = true
all_marked (row ∷ rows) = is_marked row && all_marked rows

marked_at : (rows : List Row) (place : ℕ) (row : Row) → all_marked rows ≡ true → slice_get rows place ≡ Some row → is_marked row ≡ true
marked_at [] place row all is = absurd (none-some row is)
marked_at (first ∷ rows) zero row all is = subst (λ r. is_marked r ≡ true) (same_Some first row is) (and_parts (is_marked first) (all_marked rows) all).0
marked_at (first ∷ rows) (suc place) row all is = marked_at rows place row (and_parts (is_marked first) (all_marked rows) all).1 is

-- a plain act places none
unplacing : (act : Act) → is_plain act ≡ true → is_picking act ≡ false
unplacing act_is.GetAssignCandidate plain = absurd (false≢true plain)
unplacing act plain = refl

-- a kind has no exact rows, or such that are marked
exact_marked : (args : Args) → (exact_rows (kind_of args) ≡ []) ⊎ ((first : Row) × (more : List Row) × (exact_rows (kind_of args) ≡ first ∷ more) × (all_marked (first ∷ more) ≡ true))
exact_marked (args_are.Root (request_is.Move region to) first) = inr (_, _, refl, refl)
exact_marked (args_are.Root request first) = inl refl
exact_marked (args_are.AddRegions table first bounds) = inl refl
exact_marked (args_are.DropRegions table ids) = inl refl
exact_marked args = inr (_, _, refl, refl)

-- the next row of a procedure that places a region is after the point
pub placing_is_late : (J : Past) → IsLegal J → (p : ℕ) (x : Node) → node_of J p ≡ Some x → (row : Row) → next_row J p x ≡ Some row → is_picking row.act ≡ true → row.after ≡ true
placing_is_late J legal p x is row next places = by (sheet_for (sheets_by J x.root) (kind_of x.args)) refl next
  where
    by : (o : Option Sheet) → sheet_for (sheets_by J x.root) (kind_of x.args) ≡ o → row_in o (row_of J p x) ≡ Some row → row.after ≡ true
    by None found here = absurd (none-some row here)
    by (Some sheet) found here =
        let valid = sheet_is (sheets_by J x.root) (valid_by J legal x.root) (kind_of x.args) sheet found in
        elim (exact_marked x.args) [
          | inr exact ↦
              let rows = exact_is sheet valid.0 (kind_of x.args) valid.1 exact.0 exact.1 exact.2 in
              implied (is_picking row.act) row.after places (marked_at (exact.0 ∷ exact.1) (row_of J p x) row exact.3 (ap (λ l. slice_get l (row_of J p x)) (sym rows) ∙ here))
          | inl lined ↦ elim (cases_Bool (is_stopped (last_answer J p))) [
            | inl stops ↦ absurd (valid_end sheet valid.0 row (ap (slice_get sheet.rows) (sym (stopped_row (first_row_of x.args) (last_answer J p) stops)) ∙ here))
            | inr runs ↦
                let led = led_row (kind_of x.args) sheet valid.0 (row_of J p x) ((grown_all J legal).led p x is lined sheet found runs) row here in
                absurd (false≢true (sym (unplacing row.act led.plain) ∙ places))
          ]
        ]

-- so who may be aborted lacks no server
pub unaborted : (pid : Pid) (J : Past) → IsLegal (entry_is.Abort pid ∷ J) → LacksPick J pid.0 → ⊥
unaborted pid J legal lack =
    let before : IsBeforePoint J pid.0 = legal.1.1.1.0 in
    let same : before.0 ≡ lack.0 = same_Some before.0 lack.0 (sym before.1 ∙ lack.1) in
    let found = lacking_row J pid.0 lack.0 lack.1 lack.2 lack.3 in
    let one : found.0 ≡ before.2 = same_Some found.0 before.2 (sym found.1 ∙ ap (next_row J pid.0) (sym same) ∙ before.3) in
    let late = placing_is_late J legal.0 pid.0 lack.0 lack.1 found.0 found.1 found.2 in
    false≢true (sym before.4 ∙ ap (λ (r : Row). r.after) (sym one) ∙ late)
