-- While a step is made whose pick is allowed, whoever lacks a server that fits and is allowed goes on lacking one.
use Rattle.std.proofs.Common.{◌≡◌, ◌≢◌, ℕ, zero, suc, ◌&&◌, not, ◌∷◌, true, false, Option, Some, None, refl, ap, sym, ◌∙◌, inl, inr, slice_get, is_some, arith}
use Rattle.std.proofs.lemmas.Bool.{and_from, and_left, and_parts, and_right, cases_Bool, true≢false}
use Rattle.std.proofs.lemmas.Option.{none-some, same_Some}
use Rattle.hm_names.specs.Region.{Region}
use Rattle.hm_names.specs.Server.{Server}
use Rattle.hm_names.specs.declared.pid.Pid.{Pid}
use Rattle.hm_data.specs.declared.act.Act.TheVariants as act_is
use Rattle.hm_data.specs.declared.answer.Answer.{Answer}
use Rattle.hm_data.specs.declared.answer.Answer.TheVariants as answer_is
use Rattle.hm_data.specs.declared.args.Args.{Args}
use Rattle.hm_data.specs.declared.args.Args.TheVariants as args_are
use Rattle.hm_data.specs.declared.entry.Entry.TheVariants as entry_is
use Rattle.hm_data.specs.declared.request.Request.{Request}
use Rattle.hm_data.specs.declared.request.Request.TheVariants as request_is
use Rattle.hm_data.specs.declared.sheet.Row.{Row}
use Rattle.hm_data.specs.declared.sheet.Sheet.{Sheet}
use Rattle.hm_data.specs.declared.step.StepOut.{StepOut}
use Rattle.hm_model.specs.Answers.{last_answer, row_after, row_of}
use Rattle.hm_model.specs.Evaluation.{is_picking}
use Rattle.hm_model.specs.Fleet.{is_live}
use Rattle.hm_model.specs.Inputs.{place_if, undoes}
use Rattle.hm_model.specs.Journal.{Past}
use Rattle.hm_model.specs.Kinds.{first_row_of, kind_of}
use Rattle.hm_model.specs.Lists.{exact_rows, fixed}
use Rattle.hm_model.specs.Phase.{all_stopped, cause}
use Rattle.hm_model.specs.Picks.{is_another, is_as_wanted}
use Rattle.hm_model.specs.Places.{tries_of}
use Rattle.hm_model.specs.Rules.{IsLegal}
use Rattle.hm_model.specs.Sheets.{next_row, row_in, sheet_for, sheets_by}
use Rattle.hm_model.specs.TransitActs.{told_place}
use Rattle.hm_model.specs.Tree.{Node, is_top}
use Rattle.hm_model.specs.Undo.{is_empty, stack}
use Rattle.hm_model.specs.Wanted.{wanted_of}
use Rattle.hm_model.specs.Whereabouts.{moved_by}
use Rattle.hm_model.proofs.ExactRows.{valid_by, exact_is, sheet_is}
use Rattle.hm_model.proofs.Free.{step_free}
use Rattle.hm_model.proofs.LegalSteps.{StepFacts}
use Rattle.hm_model.proofs.Trees.{grown_all}
use Rattle.hm_single.proofs.Aimless.{NamesNone, aimless_all}
use Rattle.hm_single.proofs.All.{kept_all}
use Rattle.hm_single.proofs.Kept.{IsGoing}
use Rattle.hm_single.proofs.Kin.{goes_holds, transits_conflict}
use Rattle.hm_single.proofs.Own.{step}
use Rattle.hm_single.proofs.Placing.{moved_kind}
use Rattle.hm_tied.specs.Bounds.{Bounds, PickAllowed, allows_in}
use Rattle.hm_tied.specs.TiedIn.{LacksPick}
use Rattle.hm_tied.proofs.OpeningsIn.{IsPicked}
use Rattle.hm_tied.proofs.PickingIn.{fits_is, lacking_row}

-- who begins by looking for a server wants none
wants_nobody : (args : Args) (region : Region) → NamesNone args → moved_by args ≡ Some region → first_row_of args ≡ 0 → wanted_of args ≡ None
wants_nobody (args_are.Root request first) region names m zero_row = by request m zero_row
  where
    by : (request : Request) → moved_by (args_are.Root request first) ≡ Some region → first_row_of (args_are.Root request first) ≡ 0 → wanted_of (args_are.Root request first) ≡ None
    by (request_is.Move own to) m zero_row = absurd (omega (arith, zero_row))
    by (request_is.CreateNamespace ns) m zero_row = refl
    by (request_is.DropNamespace ns) m zero_row = refl
    by (request_is.CreateTable table keys) m zero_row = refl
    by (request_is.DeleteTable table) m zero_row = refl
    by (request_is.EnableTable table) m zero_row = refl
    by (request_is.DisableTable table) m zero_row = refl
    by (request_is.ModifyTable table version) m zero_row = refl
    by (request_is.SplitRegion own key) m zero_row = refl
    by (request_is.MergeRegions regions) m zero_row = refl
wants_nobody (args_are.Transit own goal to) region names m zero_row = names
wants_nobody (args_are.Crash server) region names m zero_row = refl
wants_nobody (args_are.AddRegions table first bounds) region names m zero_row = refl
wants_nobody (args_are.DropRegions table ids) region names m zero_row = refl
wants_nobody (args_are.AssignCall own server) region names m zero_row = refl
wants_nobody (args_are.CloseCall own server) region names m zero_row = refl
wants_nobody (args_are.FenceCall server) region names m zero_row = refl
wants_nobody (args_are.LayoutCall root) region names m zero_row = refl
wants_nobody (args_are.SweepLayout root) region names m zero_row = refl

-- a transit whose next row places its region runs the first one
first_row : (J : Past) → IsLegal J → (q : ℕ) (x : Node) (region : Region) → moved_by x.args ≡ Some region → (row : Row) → next_row J q x ≡ Some row → is_picking row.act ≡ true → row_of J q x ≡ 0
first_row J legal q x region m row next picks = at_sheet (sheet_for (sheets_by J x.root) (kind_of x.args)) refl next
  where
    off : (r : Row) → Some r ≡ Some row → is_picking r.act ≡ false → ⊥
    off r e shut = true≢false (sym picks ∙ ap (λ (s : Row). is_picking s.act) (sym (same_Some r row e)) ∙ shut)

    by : (n : ℕ) → slice_get (exact_rows 10) n ≡ Some row → n ≡ 0
    by zero e = refl
    by (suc zero) e = absurd (off (fixed act_is.Open 2 true) e refl)
    by (suc (suc zero)) e = absurd (off (fixed act_is.ConfirmOpened 0 true) e refl)
    by (suc (suc (suc zero))) e = absurd (off (fixed act_is.Close 4 true) e refl)
    by (suc (suc (suc (suc zero)))) e = absurd (off (fixed act_is.ConfirmClosed 0 true) e refl)
    by (suc (suc (suc (suc (suc zero))))) e = absurd (off (fixed act_is.CheckMove 3 false) e refl)
    by (suc (suc (suc (suc (suc (suc n)))))) e = absurd (none-some row e)

    at_sheet : (o : Option Sheet) → sheet_for (sheets_by J x.root) (kind_of x.args) ≡ o → row_in o (row_of J q x) ≡ Some row → row_of J q x ≡ 0
    at_sheet None found here = absurd (none-some row here)
    at_sheet (Some sheet) found here =
        let valid = sheet_is (sheets_by J x.root) (valid_by J legal x.root) (kind_of x.args) sheet found in
        by (row_of J q x) (ap (λ l. slice_get l (row_of J q x)) (sym (exact_is sheet valid.0 10 (valid.1 ∙ moved_kind x.args region m) _ _ refl)) ∙ here)

-- who runs the first row, and isn't there for the first time, goes on
going_first : (first : ℕ) (o : Option Answer) → o ≢ None → row_after first o ≡ 0 → IsGoing o
going_first first None some row = absurd (some refl)
going_first first (Some (answer_is.More n)) some row = tt
going_first first (Some (answer_is.Wait n)) some row = tt
going_first first (Some (answer_is.Await n)) some row = tt
going_first first (Some (answer_is.Done told)) some row = absurd (omega (arith, row))
going_first first (Some (answer_is.Fail cause)) some row = absurd (omega (arith, row))
going_first first (Some answer_is.Undone) some row = absurd (omega (arith, row))

module _ (pid : Pid) (pick : Option Server) (out : StepOut) (J : Past) (legal : IsLegal (entry_is.Step pid pick out ∷ J)) where
  abbrev its : StepFacts J pid.0 pick out
  its = step pid pick out J legal

  undone : undoes J pid.0 its.node ≡ false
  undone = elim (cases_Bool (is_top its.node.above)) [
    | inl top ↦ and_right (is_top its.node.above) (is_some (cause J pid.0) && (all_stopped J pid.0 && not (is_empty (stack J pid.0)))) (and_left (is_some (cause J pid.0)) (all_stopped J pid.0 && not (is_empty (stack J pid.0))) (ap is_some (its.uncaused top)))
    | inr below ↦ and_left (is_top its.node.above) (is_some (cause J pid.0) && (all_stopped J pid.0 && not (is_empty (stack J pid.0)))) below
  ]

  pub none_fits : (bounds : Bounds) (q : ℕ) → q ≢ pid.0 → (lack : LacksPick bounds J q) → PickAllowed bounds its.node pick
      → (region : Region) → (let x = lack.0 in moved_by x.args ≡ Some region) → moved_by its.node.args ≡ Some region → IsPicked pid pick out J legal → ⊥
  none_fits bounds q differs lack allowed region m own chosen =
      lack.4 chosen.0 (
        ap (λ o. allows_in bounds o chosen.0) (m ∙ sym own) ∙ allowed chosen.0 chosen.1,
        fits_is J q x lack.2 chosen.0
            ∙ and_from (is_live J chosen.0) (is_as_wanted J (wanted_of x.args) (tries_of J q) chosen.0 && is_another J (told_place (place_if J (moved_by x.args))) chosen.0) fit.0
            (and_from (is_as_wanted J (wanted_of x.args) (tries_of J q) chosen.0) (is_another J (told_place (place_if J (moved_by x.args))) chosen.0) wanted
            (ap (λ o. is_another J (told_place (place_if J o)) chosen.0) (m ∙ sym own) ∙ more.1)),
      )
    where
      x : Node
      x = lack.0

      fit : (is_live J chosen.0 ≡ true) × ((is_as_wanted J (wanted_of its.node.args) (tries_of J pid.0) chosen.0 && is_another J (told_place (place_if J (moved_by its.node.args))) chosen.0) ≡ true)
      fit = and_parts (is_live J chosen.0) (is_as_wanted J (wanted_of its.node.args) (tries_of J pid.0) chosen.0 && is_another J (told_place (place_if J (moved_by its.node.args))) chosen.0)
          (sym (fits_is J pid.0 its.node undone chosen.0) ∙ chosen.2)

      more : (is_as_wanted J (wanted_of its.node.args) (tries_of J pid.0) chosen.0 ≡ true) × (is_another J (told_place (place_if J (moved_by its.node.args))) chosen.0 ≡ true)
      more = and_parts (is_as_wanted J (wanted_of its.node.args) (tries_of J pid.0) chosen.0) (is_another J (told_place (place_if J (moved_by its.node.args))) chosen.0) fit.1

      row : row_of J q x ≡ 0
      row = let found = lacking_row J q x lack.1 lack.2 lack.3 in first_row J legal.0 q x region m found.0 found.1 found.2

      by_last : (o : Option Answer) → last_answer J q ≡ o → is_as_wanted J (wanted_of x.args) (tries_of J q) chosen.0 ≡ true
      by_last None e =
          ap (λ w. is_as_wanted J w (tries_of J q) chosen.0) (wants_nobody x.args region (aimless_all J legal.0 q x lack.1) m (sym (ap (row_after (first_row_of x.args)) e) ∙ row))
      by_last (Some answer) e = absurd (step_free pid pick out J legal q
          (goes_holds J (grown_all J legal.0) (kept_all J legal.0) q region (x, lack.1, m) (going_first (first_row_of x.args) (last_answer J q) (λ none. none-some answer (sym none ∙ e)) row))
          (transits_conflict J (grown_all J legal.0) pid.0 q region (λ same. differs (sym same)) (its.node, its.node_is, own) (x, lack.1, m)))

      wanted : is_as_wanted J (wanted_of x.args) (tries_of J q) chosen.0 ≡ true
      wanted = by_last (last_answer J q) refl
