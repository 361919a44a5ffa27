-- Steps of procedures that make a call are paid for.
use Rattle.std.proofs.Common.{◌≡◌, ℕ, ◌+◌, ◌≤◌, ◌∷◌, true, false, not, Option, Some, None, refl, ap, sym, ◌∙◌, subst, arith, inl, inr, slice_get, ◌⊎◌}
use Rattle.std.proofs.lemmas.Bool.{cases_Bool, cond-false, false≢true, true≢false, and_left}
use Rattle.std.proofs.lemmas.Option.{none-some, same_Some}
use Rattle.hm_names.specs.Server.{Server}
use Rattle.hm_names.specs.declared.pid.Pid.{Pid}
use Rattle.hm_data.specs.declared.act.Act.TheVariants as act_is
use Rattle.hm_data.specs.declared.answer.Answer.{Answer}
use Rattle.hm_data.specs.declared.answer.Answer.TheVariants as answer_is
use Rattle.hm_data.specs.declared.answer.Cause.{Cause}
use Rattle.hm_data.specs.declared.answer.Cause.TheVariants as cause_is
use Rattle.hm_data.specs.declared.args.Args.{Args}
use Rattle.hm_data.specs.declared.args.Args.TheVariants as args_are
use Rattle.hm_data.specs.declared.call.Told.{Told}
use Rattle.hm_data.specs.declared.call.Told.TheVariants as told_is
use Rattle.hm_data.specs.declared.call.Verb.{Verb}
use Rattle.hm_data.specs.declared.entry.Entry.TheVariants as entry_is
use Rattle.hm_data.specs.declared.sheet.Row.{Row}
use Rattle.hm_data.specs.declared.step.StepOut.{StepOut}
use Rattle.hm_model.specs.Acts.{act_answer}
use Rattle.hm_model.specs.Answers.{failing, is_aborted, is_stopped, last_answer, report_of, row_of, row_after, no_row}
use Rattle.hm_model.specs.CallActs.{layout_told, settle_layout}
use Rattle.hm_model.specs.Entries.{is_refusal}
use Rattle.hm_model.specs.Evaluation.{is_cut_off, row_answer}
use Rattle.hm_model.specs.Fleet.{is_fenced, is_live}
use Rattle.hm_model.specs.Inputs.{fenced_if, step_input}
use Rattle.hm_model.specs.Journal.{Past}
use Rattle.hm_model.specs.Kinds.{kind_of, first_row_of}
use Rattle.hm_model.specs.Lists.{exact_rows, fixed}
use Rattle.hm_model.specs.Outs.{calls, fails, given}
use Rattle.hm_model.specs.Reports.{fits_verb, verb_of}
use Rattle.hm_model.specs.Rules.{IsLegal}
use Rattle.hm_model.specs.Tree.{Node, args_in, node_of}
use Rattle.hm_model.specs.Verbs.{verb_in}
use Rattle.hm_model.specs.Whereabouts.{called_by}
use Rattle.hm_model.proofs.CallSteps.{CallOut, Ending, is_laying}
use Rattle.hm_model.proofs.LegalSteps.{StepFacts, ready_stops}
use Rattle.hm_model.proofs.StepDoes.{exact_row_is, CallerAt, Does}
use Rattle.hm_model.proofs.Trees.{Grown, answer_now, does_of, grown_all, step_of}
use Rattle.hm_costs.proofs.At.{At, CallAt, CallGoes, at_calls, call_due, Fresh}
use Rattle.hm_costs.proofs.Prices.{IsPaid}
use Rattle.hm_costs.proofs.Spend.{price}
use Rattle.hm_costs.proofs.Sums.{total}
use Rattle.hm_names.specs.Region.{Region}
use Rattle.hm_data.specs.declared.call.Verb.TheVariants as verb_is
use Rattle.hm_model.specs.Wanted.{layout_of}

pub due_some : (last : Option Answer) (report : Option Told) → is_stopped last ≡ false → 1 ≤ call_due last report
due_some None report runs = omega arith
due_some (Some (answer_is.More n)) report runs = omega arith
due_some (Some (answer_is.Wait n)) report runs = omega arith
due_some (Some (answer_is.Await n)) None runs = omega arith
due_some (Some (answer_is.Await n)) (Some told) runs = omega arith
due_some (Some answer) report runs = absurd (true≢false runs)

-- a report that opens nothing else and is no refusal
opened_only : (region : Region) (told : Told) → fits_verb (verb_is.AssignRegion region) told ≡ true → is_refusal told ≡ false → told ≡ told_is.Opened
opened_only region told_is.Opened fits clean = refl
opened_only region told_is.FailedOpen fits clean = absurd (true≢false clean)
opened_only region told fits clean = absurd (false≢true fits)

module _ (pid : Pid) (pick : Option Server) (out : StepOut) (J : Past) (legal : IsLegal (entry_is.Step pid pick out ∷ J)) (me : Node) (is_me : node_of J pid.0 ≡ Some me) (unfenced : (server : Server) → is_live J server ≡ true → is_fenced J server ≡ false) (unaborted : is_aborted J pid.0 ≡ false) (budget : ℕ) (verb : Verb) (v : verb_in me.args ≡ Some verb) (at : CallAt J pid.0 me budget) where
  call_grown : Grown J
  call_grown = grown_all J legal.0

  call_step : StepFacts J pid.0 pick out
  call_step = step_of pid pick out J call_grown legal

  call_is_me : call_step.node ≡ me
  call_is_me = same_Some call_step.node me (sym call_step.node_is ∙ is_me)

  call_runs : is_stopped (last_answer J pid.0) ≡ false
  call_runs = ready_stops J pid.0 call_step.node (last_answer J pid.0) call_step.ready

  call_does : Does J pid.0 call_step.node.args (last_answer J pid.0) call_step.sheet.rows out
  call_does = does_of pid pick out J call_grown call_step

  call_out : CallOut J pid.0 me.args verb (last_answer J pid.0) out
  call_out = subst (λ (n : Node). CallOut J pid.0 n.args verb (last_answer J pid.0) out) call_is_me (call_does.calls verb (ap (λ (n : Node). verb_in n.args) call_is_me ∙ v))

  last_now : (a : Answer) → out.answer ≡ a → last_answer (entry_is.Step pid pick out ∷ J) pid.0 ≡ Some a
  last_now a e = answer_now pid pick out J ∙ ap Some e

  no_children : total price (args_in out.children) ≡ 0
  no_children = ap (λ c. total price (args_in c)) call_out.childless

  -- who made no call has no report
  unreported : last_answer J pid.0 ≡ None → report_of J pid.0 ≡ None
  unreported none = by (report_of J pid.0) refl
    where
      by : (o : Option Told) → report_of J pid.0 ≡ o → o ≡ None
      by None e = refl
      by (Some told) e =
          let f = call_grown.fits pid.0 told e in
          let uncalled = subst (CallerAt verb (verb_of J pid.0)) none (call_grown.calls pid.0 me is_me verb v) in
          absurd (none-some f.0 (sym uncalled ∙ f.1))

  goes_on : (a : Answer) → out.answer ≡ a → (is_stopped (Some a) ≡ true → (args : Args) → me.args ≡ args → CallGoes J pid.0 me args → CallGoes (entry_is.Step pid pick out ∷ J) pid.0 me args) → (is_stopped (Some a) ≡ false → (args : Args) → me.args ≡ args → CallGoes J pid.0 me args → CallGoes (entry_is.Step pid pick out ∷ J) pid.0 me args) → CallGoes (entry_is.Step pid pick out ∷ J) pid.0 me me.args
  goes_on a e stops runs = elim (cases_Bool (is_stopped (Some a))) [
    | inl on ↦ stops on me.args refl at.goes
    | inr off ↦ runs off me.args refl at.goes
  ]

  call_runs_on : (a : Answer) → out.answer ≡ a → is_stopped (Some a) ≡ false → (args : Args) → CallGoes J pid.0 me args → CallGoes (entry_is.Step pid pick out ∷ J) pid.0 me args
  call_runs_on a e runs (args_are.AssignCall region server) h = (h.0, λ stops. absurd (true≢false (sym stops ∙ ap is_stopped (last_now a e) ∙ runs)))
  call_runs_on a e runs (args_are.FenceCall server) h = (h.0, λ stops. absurd (true≢false (sym stops ∙ ap is_stopped (last_now a e) ∙ runs)))
  call_runs_on a e runs (args_are.LayoutCall root) h = h
  call_runs_on a e runs args h = tt

  done_no_fail : (t : Told) (c : Cause) → answer_is.Done t ≡ answer_is.Fail c → ⊥
  done_no_fail t c e = cc

  call_ends : (t : Told) → out.answer ≡ answer_is.Done t → Ending J pid.0 me.args (last_answer J pid.0) (answer_is.Done t) → (args : Args) → me.args ≡ args → CallGoes J pid.0 me args → CallGoes (entry_is.Step pid pick out ∷ J) pid.0 me args
  call_ends t e ending (args_are.AssignCall region server) is h = (
    h.0,
    λ stops. last_now (answer_is.Done t) e ∙ ap (λ x. Some (answer_is.Done x)) (elim ending [
      | inl gone ↦ absurd (true≢false (sym (ap (λ a. fenced_if J (called_by a)) (sym is) ∙ gone.1) ∙ unfenced server h.0))
      | inr other ↦ elim other [
        | inl told ↦
            let same : t ≡ told.0 = told_same t told.0 told.1 in
            let f = call_grown.fits pid.0 told.0 told.2 in
            let w = call_grown.verbs pid.0 f.0 f.1 in
            let own : w.0 ≡ me = same_Some w.0 me (sym w.1 ∙ is_me) in
            let verb_is : f.0 ≡ verb_is.AssignRegion region = same_Some f.0 _ (sym w.2 ∙ ap (λ (n : Node). verb_in n.args) own ∙ ap verb_in is) in
            same ∙ opened_only region told.0 (ap (λ u. fits_verb u told.0) (sym verb_is) ∙ f.2) (at.clean told.0 told.2)
        | inr failed ↦ absurd (done_no_fail t failed.0 failed.1)
      ]
    ]),
  )
    where
      told_same : (t u : Told) → answer_is.Done t ≡ answer_is.Done u → t ≡ u
      told_same t u e = cc
  call_ends t e ending (args_are.FenceCall server) is h = (
    h.0,
    λ stops. elim ending [
      | inl gone ↦ absurd (false≢true (ap (λ a. fenced_if J (called_by a)) (sym is) ∙ gone.1))
      | inr other ↦ elim other [
        | inl told ↦ h.0 told.0 told.2
        | inr failed ↦ absurd (done_no_fail t failed.0 failed.1)
      ]
    ],
  )
  call_ends t e ending (args_are.LayoutCall root) is h = h
  call_ends t e ending args is h = tt

  settled : (o : Option Told) → report_of J pid.0 ≡ o → failing (settle_layout (report_of J pid.0)).answer ≡ None
  settled None e = ap (λ o. failing (settle_layout o).answer) e
  settled (Some told) e = ap (λ o. failing (settle_layout o).answer) e ∙ by told (at.clean told e)
    where
      by : (t : Told) → is_refusal t ≡ false → failing (layout_told t).answer ≡ None
      by told_is.Refused clean = absurd (true≢false clean)
      by told clean = refl

  layout_at : (row : Row) (place : ℕ) → row_of J pid.0 me ≡ place → slice_get (exact_rows 26) place ≡ Some row → (own : Pid) → me.args ≡ args_are.LayoutCall own → failing (act_answer row.act row.next (step_input J pid.0 me pick)).answer ≡ None → failing out.answer ≡ None
  layout_at row place here there own is fine =
      let kind : kind_of call_step.node.args ≡ 26 = ap (λ (n : Node). kind_of n.args) call_is_me ∙ ap kind_of is in
      let found = exact_row_is J pid.0 pick out call_step 26 kind _ _ refl in
      let same : call_step.row ≡ row = same_Some call_step.row row (sym found ∙ ap (λ (n : Node). slice_get (exact_rows 26) (row_of J pid.0 n)) call_is_me ∙ ap (slice_get (exact_rows 26)) here ∙ there) in
      let said : out ≡ row_answer row (step_input J pid.0 me pick) = call_step.out_is ∙ ap (λ n. row_answer call_step.row (step_input J pid.0 n pick)) call_is_me ∙ ap (λ w. row_answer w (step_input J pid.0 me pick)) same in
      ap (λ (o : StepOut). failing o.answer) said ∙ ap (λ (o : StepOut). failing o.answer) (cond-false (is_cut_off row (step_input J pid.0 me pick)) (fails cause_is.Aborted) (act_answer row.act row.next (step_input J pid.0 me pick)) (and_left (is_aborted J pid.0) (not row.after) unaborted)) ∙ fine

  -- a call to lay out files fails only where that was refused
  layout_fine : (own : Pid) → me.args ≡ args_are.LayoutCall own → (last : Option Answer) → last_answer J pid.0 ≡ last → is_stopped last ≡ false → CallerAt verb (verb_of J pid.0) last → failing out.answer ≡ None
  layout_fine own is None e runs at_call = layout_at (fixed act_is.CallLayout 1 false) 0 (ap (λ o. row_after (first_row_of me.args) o) e ∙ ap first_row_of is) refl own is (ap (λ a. failing (given (layout_of a) 1 (λ root. calls 1 (verb_is.Layout root))).answer) is)
  layout_fine own is (Some (answer_is.Await n)) e runs at_call = layout_at (fixed act_is.SettleLayout no_row false) 1 (ap (λ o. row_after (first_row_of me.args) o) e ∙ at_call.0) refl own is (settled (report_of J pid.0) refl)
  layout_fine own is (Some (answer_is.More n)) e runs at_call = absurd at_call
  layout_fine own is (Some (answer_is.Wait n)) e runs at_call = absurd at_call
  layout_fine own is (Some answer) e runs at_call = absurd (true≢false runs)

  call_fine : failing out.answer ≡ None
  call_fine = elim call_out.does [
    | inl asks ↦ ap failing asks.2
    | inr ends ↦ elim ends.1 [
      | inl gone ↦ ap failing gone.0
      | inr other ↦ elim other [
        | inl told ↦ ap failing told.1
        | inr failed ↦ by me.args refl failed.2
      ]
    ]
  ]
    where
      by : (args : Args) → me.args ≡ args → is_laying me.args ≡ true → failing out.answer ≡ None
      by (args_are.LayoutCall own) is laying = layout_fine own is (last_answer J pid.0) refl call_runs (call_grown.calls pid.0 me is_me verb v)
      by args is laying = absurd (false≢true (sym (ap is_laying is) ∙ laying))

  call_after : (a : Answer) → out.answer ≡ a → (rest : ℕ) → call_due (Some a) (report_of J pid.0) ≤ rest → CallGoes (entry_is.Step pid pick out ∷ J) pid.0 me me.args → At (entry_is.Step pid pick out ∷ J) pid.0 me rest
  call_after a e rest due goes = at_calls (entry_is.Step pid pick out ∷ J) pid.0 me rest verb v (record {
    due = let l = ap (λ o. call_due o (report_of J pid.0)) (last_now a e) in omega (arith, l, due);
    clean = at.clean;
    goes = goes;
  })

  -- what a step of a call leaves
  call_pays : (rest : ℕ) → 1 + rest ≤ budget → At (entry_is.Step pid pick out ∷ J) pid.0 me rest → IsPaid At Fresh price pid pick out J me budget
  call_pays rest pays own = record {
    fails = λ c failed. absurd (none-some c (sym call_fine ∙ failed));
    rest = rest;
    pays = let none = no_children in omega (arith, pays, none);
    own = λ fine. own;
    children = λ fine i args is. absurd (none-some args (ap (λ c. slice_get (args_in c) i) (sym call_out.childless) ∙ is));
  }

  pub call_paid : IsPaid At Fresh price pid pick out J me budget
  call_paid = elim call_out.does [
    | inl asks ↦
        let due = at.due in
        let start = ap (λ o. call_due o (report_of J pid.0)) asks.0 in
        let two = ap (λ o. call_due (Some (answer_is.Await 1)) o) (unreported asks.0) in
        call_pays 2 (omega (arith, due, start)) (call_after (answer_is.Await 1) asks.2 2 (omega (arith, two)) (call_runs_on (answer_is.Await 1) asks.2 refl me.args at.goes))
    | inr ends ↦ elim (ends_so out.answer ends.1) [
      | inl done ↦
          let due = at.due in
          let some = due_some (last_answer J pid.0) (report_of J pid.0) call_runs in
          call_pays 0 (omega (arith, due, some)) (call_after (answer_is.Done done.0) done.1 0 (omega arith) (call_ends done.0 done.1 (subst (Ending J pid.0 me.args (last_answer J pid.0)) done.1 ends.1) me.args refl at.goes))
      | inr failed ↦ absurd (none-some failed.0 (sym call_fine ∙ ap failing failed.1))
    ]
  ]
    where
      ends_so : (a : Answer) → Ending J pid.0 me.args (last_answer J pid.0) a → ((t : Told) × (a ≡ answer_is.Done t)) ⊎ ((c : Cause) × (a ≡ answer_is.Fail c))
      ends_so a (inl gone) = inl (told_is.Gone, gone.0)
      ends_so a (inr (inl told)) = inl (told.0, told.1)
      ends_so a (inr (inr failed)) = inr (failed.0, failed.1)
