-- Where a root that lists its rows is when it steps, and what follows.
use Rattle.std.proofs.Common.{◌≡◌, ◌≢◌, ℕ, ◌==◌, ◌&&◌, List, [], ◌∷◌, Bool, true, false, cond, Option, Some, None, is_none, refl, ap, sym, ◌∙◌, subst, inl, inr, ◌⊎◌, slice_get}
use Rattle.std.proofs.lemmas.Bool.{and_from, and_right, cond-false, cond-true, eq-eqb, true≢false}
use Rattle.std.proofs.lemmas.Option.{none-some, same_Some}
use Rattle.hm_names.specs.Server.{Server}
use Rattle.hm_names.specs.declared.pid.Pid.{Pid}
use Rattle.hm_data.specs.declared.act.Act.{Act}
use Rattle.hm_data.specs.declared.act.Back.TheVariants as back_is
use Rattle.hm_data.specs.declared.answer.Answer.{Answer}
use Rattle.hm_data.specs.declared.answer.Answer.TheVariants as answer_is
use Rattle.hm_data.specs.declared.answer.Cause.TheVariants as cause_is
use Rattle.hm_data.specs.declared.args.Args.{Args}
use Rattle.hm_data.specs.declared.catalog.CatKey.{CatKey}
use Rattle.hm_data.specs.declared.catalog.Edit.{Edit}
use Rattle.hm_data.specs.declared.entry.Entry.TheVariants as entry_is
use Rattle.hm_data.specs.declared.sheet.Row.{Row}
use Rattle.hm_data.specs.declared.sheet.Sheet.{Sheet}
use Rattle.hm_data.specs.declared.step.StepOut.{StepOut}
use Rattle.hm_model.specs.Acts.{act_answer}
use Rattle.hm_model.specs.Answers.{is_stopped, last_answer, no_row, row_after, row_of}
use Rattle.hm_model.specs.Catalog.{Catalog, cat, edited, was}
use Rattle.hm_model.specs.Evaluation.{is_cut_off}
use Rattle.hm_model.specs.Inputs.{step_input}
use Rattle.hm_model.specs.Journal.{Past}
use Rattle.hm_model.specs.Kinds.{first_row_of, kind_of}
use Rattle.hm_model.specs.Lists.{Line, exact_rows, orders_of}
use Rattle.hm_model.specs.Locks.{IsIn}
use Rattle.hm_model.specs.Outs.{fails}
use Rattle.hm_model.specs.Phase.{root_ended}
use Rattle.hm_model.specs.Reads.{guards}
use Rattle.hm_model.specs.Rules.{IsLegal}
use Rattle.hm_model.specs.Sheets.{next_row, row_in, sheet_for, sheets_by}
use Rattle.hm_model.specs.Tree.{Node, args_in, is_top}
use Rattle.hm_model.proofs.ExactRows.{IsLedRow, led_row, start_leads}
use Rattle.hm_model.proofs.LegalSteps.{StepFacts, ready_stops}
use Rattle.hm_model.proofs.PlainActs.{GoesTo, is_plain, plain_act}
use Rattle.hm_model.proofs.StepDoes.{Does}
use Rattle.hm_model.proofs.Trees.{answer_now, does_of, grown_all, step_of}
use Rattle.hm_model.proofs.ValidSheets.{Leads, valid_end}
use Rattle.hm_kinds.proofs.Covering.{rows_table}
use Rattle.hm_kinds.proofs.Roots.{Stage, serves}
use Rattle.hm_serial.proofs.FallAll.{falls_all}
use Rattle.hm_kinds.proofs.Kids.{made_at}
use Rattle.hm_serial.proofs.Standing.{quiet_tree, step_open}
use Rattle.hm_serial.proofs.StandAll.{stands_all}
use Rattle.hm_serial.proofs.Stands.{At, LedBy}
use Rattle.hm_single.proofs.Makes.{GoalIs, kids_goal}

-- the act of the row that a procedure runs next
abbrev pub RunsNext : Past → ℕ → Node → Act → Type 0
RunsNext J r node act = (row : Row) × (next_row J r node ≡ Some row) × (row.act ≡ act)

module _ (pid : Pid) (pick : Option Server) (out : StepOut) (J : Past) (legal : IsLegal (entry_is.Step pid pick out ∷ J)) where
  abbrev pub J' : Past
  J' = entry_is.Step pid pick out ∷ J

  abbrev pub step : StepFacts J pid.0 pick out
  step = step_of pid pick out J (grown_all J legal.0) legal

  abbrev pub does : Does J pid.0 step.node.args (last_answer J pid.0) step.sheet.rows out
  does = does_of pid pick out J (grown_all J legal.0) step

  runs_now : is_stopped (last_answer J pid.0) ≡ false
  runs_now = ready_stops J pid.0 step.node (last_answer J pid.0) step.ready

  -- its row is one of its kind's lines
  pub led_now : exact_rows (kind_of step.node.args) ≡ [] → IsLedRow (kind_of step.node.args) step.sheet.rows step.row
  led_now exact = led_row (kind_of step.node.args) step.sheet step.valid (row_of J pid.0 step.node) ((grown_all J legal.0).led pid.0 step.node step.node_is exact step.sheet step.sheet_is runs_now) step.row step.row_is

  pub cut_or : (out ≡ fails cause_is.Aborted) ⊎ (out ≡ act_answer step.row.act step.row.next (step_input J pid.0 step.node pick))
  cut_or = by (is_cut_off step.row (step_input J pid.0 step.node pick)) step.out_is
    where
      by : (b : Bool) → out ≡ cond b (fails cause_is.Aborted) (act_answer step.row.act step.row.next (step_input J pid.0 step.node pick)) → (out ≡ fails cause_is.Aborted) ⊎ (out ≡ act_answer step.row.act step.row.next (step_input J pid.0 step.node pick))
      by true is = inl is
      by false is = inr is

  -- whom it makes
  pub goals_plain : is_plain step.row.act ≡ true → (i : ℕ) (made : Args) → slice_get (args_in out.children) i ≡ Some made → GoalIs step.row.act made
  goals_plain plain i made is = elim cut_or [
    | inl cut ↦ absurd (none-some made (ap (λ (o : StepOut). slice_get (args_in o.children) i) (sym cut) ∙ is))
    | inr acts ↦ made_at (GoalIs step.row.act) (act_answer step.row.act step.row.next (step_input J pid.0 step.node pick)).children (kids_goal step.row.act plain step.row.next (step_input J pid.0 step.node pick)) i made (ap (λ (o : StepOut). slice_get (args_in o.children) i) (sym acts) ∙ is)
  ]

  pub goals : exact_rows (kind_of step.node.args) ≡ [] → (i : ℕ) (made : Args) → slice_get (args_in out.children) i ≡ Some made → GoalIs step.row.act made
  goals exact i made is = goals_plain (led_now exact).plain i made is

  -- a root's own step
  module _ (top : step.node.above ≡ []) (exact : exact_rows (kind_of step.node.args) ≡ []) where
    none_rows : rows_table step.node.args ≡ None
    none_rows = (falls_all J legal.0).falls.tops pid.0 step.node (step.node_is, top)

    pub root_is : step.node.root ≡ pid.0
    root_is = (grown_all J legal.0).tops pid.0 step.node step.node_is top

    -- where it stands: the line of its row and those after it
    pub record Own : Type 0 where
      pub base : Catalog
      pub then : List Edit
      pub line : Line
      pub behind : List Line
      pub stage : Stage step.node.args base (line ∷ behind) then
      pub now : (key : CatKey) → guards step.node.args key ≡ true → cat J key ≡ edited then key (base key)
      pub begun : last_answer J pid.0 ≢ None → base ≡ was J pid.0
      pub was_is : was (entry_is.Step pid pick out ∷ J) pid.0 ≡ base
      pub fresh : last_answer J pid.0 ≡ None → (base ≡ cat J) × IsIn (line ∷ behind) (orders_of (kind_of step.node.args))
      pub act_is : step.row.act ≡ line.act
      pub after_is : step.row.after ≡ line.after
      pub undo_is : (step.row.undo ≡ line.undo) ⊎ (step.row.undo ≡ back_is.Nothing)
      pub led : LedBy J pid.0 step.node (line ∷ behind)
      pub leads : Leads step.sheet.rows step.row.next behind

    from_lines : (base : Catalog) (then : List Edit) (lines : List Line) → Leads step.sheet.rows (row_of J pid.0 step.node) lines → Stage step.node.args base lines then
        → ((key : CatKey) → guards step.node.args key ≡ true → cat J key ≡ edited then key (base key)) → (last_answer J pid.0 ≢ None → base ≡ was J pid.0) → was (entry_is.Step pid pick out ∷ J) pid.0 ≡ base → (last_answer J pid.0 ≡ None → (base ≡ cat J) × IsIn lines (orders_of (kind_of step.node.args))) → Own
    from_lines base then [] leads stage now begun was_is fresh = absurd (valid_end step.sheet step.valid step.row (ap (slice_get step.sheet.rows) (sym leads) ∙ step.row_is))
    from_lines base then (line ∷ behind) leads stage now begun was_is fresh =
        let same : leads.0 ≡ step.row = same_Some leads.0 step.row (sym leads.1 ∙ step.row_is) in
        record {
          base = base;
          then = then;
          line = line;
          behind = behind;
          stage = stage;
          now = now;
          begun = begun;
          was_is = was_is;
          fresh = fresh;
          act_is = ap (λ (r : Row). r.act) (sym same) ∙ leads.2.0;
          after_is = ap (λ (r : Row). r.after) (sym same) ∙ leads.2.1;
          undo_is = subst (λ (r : Row). (r.undo ≡ line.undo) ⊎ (r.undo ≡ back_is.Nothing)) same leads.2.2;
          led = λ sheet found. subst (λ (s : Sheet). Leads s.rows (row_of J pid.0 step.node) (line ∷ behind)) (same_Some step.sheet sheet (sym step.sheet_is ∙ found)) leads;
          leads = subst (λ (r : Row). Leads step.sheet.rows r.next behind) same leads.4;
        }

    pub own : Own
    own = by (last_answer J pid.0) refl
      where
        listed : (a : Answer) → last_answer J pid.0 ≡ Some a → At J pid.0 step.node → Own
        listed a some at = elim at.stands [
          | inr other ↦ absurd (other.0 exact)
          | inl l ↦ from_lines (was J pid.0) at.then l.lines (l.leads step.sheet step.sheet_is) l.stage (λ key g. elim (at.now key g) [
            | inl is ↦ is
            | inr p ↦ absurd (true≢false (sym (quiet_tree J (grown_all J legal.0) pid.0 step.node step.ready p.0 p.1 p.2 p.3 p.4) ∙ p.5))
          ]) (λ begun. refl) (cond-false ((pid.0 == pid.0) && is_none (last_answer J pid.0)) (cat J) (was J pid.0) (and_right (pid.0 == pid.0) (is_none (last_answer J pid.0)) (ap is_none some))) (λ none. absurd (none-some a (sym none ∙ some)))
        ]

        by : (o : Option Answer) → last_answer J pid.0 ≡ o → Own
        by None none =
            let starts = start_leads step.node.args exact step.sheet step.valid step.of_kind in
            from_lines (cat J) [] starts.0 (subst (λ o. Leads step.sheet.rows (row_after (first_row_of step.node.args) o) starts.0) (sym none) starts.2)
            ((serves step.node.args exact none_rows).begins (cat J) starts.0 starts.1) (λ key g. refl) (λ begun. absurd (begun none)) (cond-true ((pid.0 == pid.0) && is_none (last_answer J pid.0)) (cat J) (was J pid.0) (and_from (pid.0 == pid.0) (is_none (last_answer J pid.0)) (eq-eqb pid.0 pid.0 refl) (ap is_none none))) (λ none. (refl, starts.1))
        by (Some a) some = listed a some (((stands_all J legal.0).tree pid.0 step.node ((step.node_is, top), (λ none. none-some a (sym none ∙ some)), subst (λ r. root_ended J r ≡ false) root_is (step_open pid pick out J (grown_all J legal.0) step does))).stage (step.uncaused (ap is_top top)) runs_now)

    -- after it a row follows, of the next line
    pub record Follows (act : Act) : Type 0 where
      pub acts : out ≡ act_answer step.row.act step.row.next (step_input J pid.0 step.node pick)
      pub next : Line
      pub more : List Line
      pub stage : Stage step.node.args own.base (own.line ∷ next ∷ more) own.then
      pub behind_is : own.behind ≡ next ∷ more
      pub act_is : next.act ≡ act
      pub leads : Leads step.sheet.rows (row_of J' pid.0 step.node) (next ∷ more)

    lines_follow : (act : Act) → row_of J' pid.0 step.node ≡ step.row.next → out ≡ act_answer step.row.act step.row.next (step_input J pid.0 step.node pick) → (row : Row) → slice_get step.sheet.rows step.row.next ≡ Some row → row.act ≡ act
        → (behind : List Line) → own.behind ≡ behind → Leads step.sheet.rows step.row.next behind → Follows act
    lines_follow act place acts row at its [] e leads = absurd (valid_end step.sheet step.valid row (ap (slice_get step.sheet.rows) (sym leads) ∙ at))
    lines_follow act place acts row at its (next ∷ more) e leads = record {
      acts = acts;
      next = next;
      more = more;
      behind_is = e;
      stage = subst (λ b. Stage step.node.args own.base (own.line ∷ b) own.then) e own.stage;
      act_is = sym leads.2.0 ∙ ap (λ (r : Row). r.act) (same_Some leads.0 row (sym leads.1 ∙ at)) ∙ its;
      leads = subst (λ n. Leads step.sheet.rows n (next ∷ more)) (sym place) leads;
    }

    ended_row : (row : Row) → slice_get step.sheet.rows no_row ≡ Some row → ⊥
    ended_row row at = valid_end step.sheet step.valid row at

    pub follows : (act : Act) → RunsNext J' pid.0 step.node act → Follows act
    follows act runs = elim cut_or [
      | inl cut ↦ absurd (ended_row runs.0 (ap (λ (o : StepOut). slice_get step.sheet.rows (row_after (first_row_of step.node.args) (Some o.answer))) (sym cut) ∙ there))
      | inr acts ↦ by acts out.answer refl (subst (λ (o : StepOut). GoesTo step.row.next o.answer) (sym acts) (plain_act step.row.act (led_now exact).plain step.row.next (step_input J pid.0 step.node pick)).goes)
    ]
      where
        there : slice_get step.sheet.rows (row_after (first_row_of step.node.args) (Some out.answer)) ≡ Some runs.0
        there = sym (ap (λ o. row_in (sheet_for (sheets_by J step.node.root) (kind_of step.node.args)) (row_after (first_row_of step.node.args) o)) (answer_now pid pick out J) ∙ ap (λ s. row_in s (row_after (first_row_of step.node.args) (Some out.answer))) step.sheet_is) ∙ runs.1

        at : (a : Answer) → out.answer ≡ a → slice_get step.sheet.rows (row_after (first_row_of step.node.args) (Some a)) ≡ Some runs.0
        at a e = ap (λ x. slice_get step.sheet.rows (row_after (first_row_of step.node.args) (Some x))) (sym e) ∙ there

        placed : (a : Answer) → out.answer ≡ a → row_of J' pid.0 step.node ≡ row_after (first_row_of step.node.args) (Some a)
        placed a e = ap (row_after (first_row_of step.node.args)) (answer_now pid pick out J) ∙ ap (λ x. row_after (first_row_of step.node.args) (Some x)) e

        goes : out ≡ act_answer step.row.act step.row.next (step_input J pid.0 step.node pick) → (n : ℕ) → row_of J' pid.0 step.node ≡ n → n ≡ step.row.next → slice_get step.sheet.rows n ≡ Some runs.0 → Follows act
        goes acts n place is found = lines_follow act (place ∙ is) acts runs.0 (ap (slice_get step.sheet.rows) (sym is) ∙ found) runs.2 own.behind refl own.leads

        by : out ≡ act_answer step.row.act step.row.next (step_input J pid.0 step.node pick) → (a : Answer) → out.answer ≡ a → GoesTo step.row.next out.answer → Follows act
        by acts (answer_is.More n) e g = goes acts n (placed (answer_is.More n) e) (subst (GoesTo step.row.next) e g) (at (answer_is.More n) e)
        by acts (answer_is.Wait n) e g = goes acts n (placed (answer_is.Wait n) e) (subst (GoesTo step.row.next) e g) (at (answer_is.Wait n) e)
        by acts (answer_is.Await n) e g = absurd (subst (GoesTo step.row.next) e g)
        by acts answer e g = absurd (ended_row runs.0 (at answer e))
