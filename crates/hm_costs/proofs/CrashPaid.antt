-- Steps of crashes are paid for.
use Rattle.std.proofs.Common.{◌≡◌, ℕ, ◌+◌, ◌-◌, ◌≤◌, List, [], ◌∷◌, length, take, drop, true, false, not, Option, Some, None, option_map, refl, ap, sym, ◌∙◌, subst, arith, inl, inr, slice_get, length-drop}
use Rattle.std.proofs.lemmas.Bool.{and_left, cond-false, true≢false}
use Rattle.std.proofs.lemmas.Option.{none-some, same_Some}
use Rattle.hm_names.specs.Region.{Region}
use Rattle.hm_names.specs.Server.{Server}
use Rattle.hm_names.specs.declared.pid.Pid.{Pid}
use Rattle.hm_data.specs.declared.act.Act.TheVariants as act_is
use Rattle.hm_data.specs.declared.answer.Answer.{Answer}
use Rattle.hm_data.specs.declared.answer.Answer.TheVariants as answer_is
use Rattle.hm_data.specs.declared.answer.Cause.TheVariants as cause_is
use Rattle.hm_data.specs.declared.args.Args.{Args}
use Rattle.hm_data.specs.declared.args.Args.TheVariants as args_are
use Rattle.hm_data.specs.declared.args.Child.{Child}
use Rattle.hm_data.specs.declared.args.Child.TheVariants as child_is
use Rattle.hm_data.specs.declared.call.Told.TheVariants as told_is
use Rattle.hm_data.specs.declared.call.Verb.TheVariants as verb_is
use Rattle.hm_data.specs.declared.entry.Entry.TheVariants as entry_is
use Rattle.hm_data.specs.declared.place.Goal.TheVariants as goal_is
use Rattle.hm_data.specs.declared.sheet.Row.{Row}
use Rattle.hm_data.specs.declared.step.StepIn.{StepIn}
use Rattle.hm_data.specs.declared.step.StepOut.{StepOut}
use Rattle.hm_model.specs.Acts.{act_answer}
use Rattle.hm_model.specs.Answers.{failing, is_aborted, is_stopped, last_answer, row_after, row_of}
use Rattle.hm_model.specs.CrashActs.{fence, reassign_all}
use Rattle.hm_model.specs.Evaluation.{is_cut_off, row_answer}
use Rattle.hm_model.specs.Fleet.{is_fenced}
use Rattle.hm_model.specs.Inputs.{regions_on, step_input}
use Rattle.hm_model.specs.Journal.{Past}
use Rattle.hm_model.specs.Kinds.{kind_of}
use Rattle.hm_model.specs.Lists.{exact_rows, fixed}
use Rattle.hm_model.specs.Outs.{fails, spawns}
use Rattle.hm_model.specs.Pieces.{transits}
use Rattle.hm_model.specs.Places.{at_server, is_at, place_of, placed_by, region_if}
use Rattle.hm_model.specs.Rules.{IsLegal}
use Rattle.hm_model.specs.Tree.{Node, args_in, child_of, made, node_of}
use Rattle.hm_model.specs.Whereabouts.{crashed_in, moved_by}
use Rattle.hm_model.proofs.LegalSteps.{ReadyBy, StepFacts}
use Rattle.hm_model.proofs.Trees.{Grown, answer_now, child_stopped, does_of, grown_all, node_new, step_of}
use Rattle.hm_costs.proofs.At.{At, CrashAt, Fresh, at_crash}
use Rattle.hm_model.proofs.StepDoes.{exact_row_is}
use Rattle.hm_costs.proofs.LinedPaid.{child_at}
use Rattle.hm_costs.proofs.Live.{dead_stays}
use Rattle.hm_costs.proofs.Lost.{CrashDue, Moving, Within, at_listed, at_most, both_lengths, moving_due, listed_at, take_or_drop}
use Rattle.hm_model.proofs.InOrder.{at_order}
use Rattle.hm_model.proofs.Listed.{transit_made}
use Rattle.hm_costs.proofs.Prices.{AllAt, IsPaid}
use Rattle.hm_costs.proofs.Spend.{AreChildren, IsChild, price, transits_spent}
use Rattle.hm_costs.proofs.Sums.{total}
use Rattle.hm_costs.proofs.TransitPaid.{new_unstepped}
use Rattle.hm_costs.proofs.Each.{each_at}

module _ (pid : Pid) (pick : Option Server) (out : StepOut) (J : Past) (legal : IsLegal (entry_is.Step pid pick out ∷ J)) (r : ℕ) (all : AllAt At Fresh price J r) (me : Node) (is_me : node_of J pid.0 ≡ Some me) (of : me.root ≡ r) (unaborted : is_aborted J pid.0 ≡ false) (budget : ℕ) (server : Server) (crash : me.args ≡ args_are.Crash server) (at : CrashAt J pid.0 me server budget) where
  abbrev Paid : Type 0
  Paid = IsPaid At Fresh price pid pick out J me budget

  crash_grown : Grown J
  crash_grown = grown_all J legal.0

  crash_step : StepFacts J pid.0 pick out
  crash_step = step_of pid pick out J crash_grown legal

  crash_me : crash_step.node ≡ me
  crash_me = same_Some crash_step.node me (sym crash_step.node_is ∙ is_me)

  abbrev looks : StepIn
  looks = step_input J pid.0 me pick

  said_at : (row : Row) (place : ℕ) → row_of J pid.0 me ≡ place → slice_get (exact_rows 11) place ≡ Some row → out ≡ act_answer row.act row.next looks
  said_at row place here there =
      let found = exact_row_is J pid.0 pick out crash_step 11 (ap (λ (n : Node). kind_of n.args) crash_me ∙ ap kind_of crash) _ _ refl in
      let same : crash_step.row ≡ row = same_Some crash_step.row row (sym found ∙ ap (λ (n : Node). slice_get (exact_rows 11) (row_of J pid.0 n)) crash_me ∙ ap (slice_get (exact_rows 11)) here ∙ there) in
      crash_step.out_is ∙ ap (λ n. row_answer crash_step.row (step_input J pid.0 n pick)) crash_me ∙ ap (λ w. row_answer w looks) same ∙ cond-false (is_cut_off row looks) (fails cause_is.Aborted) (act_answer row.act row.next looks) (and_left (is_aborted J pid.0) (not row.after) unaborted)

  unplaced : out.place ≡ None
  unplaced = (does_of pid pick out J crash_grown crash_step).unplaced (ap (λ (n : Node). moved_by n.args) crash_me ∙ ap moved_by crash)

  places_stay : (y : Region) → place_of (entry_is.Step pid pick out ∷ J) y ≡ place_of J y
  places_stay y = ap (λ o. placed_by y (region_if (node_of J pid.0)) o (place_of J y)) unplaced

  row_is : (n : ℕ) (last : Option Answer) → last_answer J pid.0 ≡ last → row_after 0 last ≡ n → row_of J pid.0 me ≡ n
  row_is n last e row = ap (λ a. row_after (Rattle.hm_model.specs.Kinds.first_row_of a) (last_answer J pid.0)) crash ∙ ap (row_after 0) e ∙ row

  crash_now : (rest : ℕ) (a : Answer) → out.answer ≡ a → CrashDue (entry_is.Step pid pick out ∷ J) pid.0 me server rest (Some a) → At (entry_is.Step pid pick out ∷ J) pid.0 me rest
  crash_now rest a e due = at_crash (entry_is.Step pid pick out ∷ J) pid.0 me rest server crash (record { dead = dead_stays (entry_is.Step pid pick out) J legal server at.dead; due = subst (CrashDue (entry_is.Step pid pick out ∷ J) pid.0 me server rest) (sym (answer_now pid pick out J ∙ ap Some e)) due })

  made_node : (i : ℕ) (args : Args) → slice_get (args_in out.children) i ≡ Some args → node_of (entry_is.Step pid pick out ∷ J) (made J + i + 1) ≡ Some (child_of pid.0 me args)
  made_node i args is =
      let e : made J + i + 1 - made J - 1 ≡ i = omega arith in
      node_new pid pick out J me is_me (made J + i + 1) (omega arith) ∙ ap (option_map (child_of pid.0 me)) (ap (slice_get (args_in out.children)) e ∙ is)

  waits_paid : (rest : ℕ) → out.answer ≡ answer_is.Wait 1 → 1 + rest + total price (args_in out.children) ≤ budget → AreChildren me.args (args_in out.children) → CrashDue (entry_is.Step pid pick out ∷ J) pid.0 me server rest (Some (answer_is.Wait 1)) → Paid
  waits_paid rest e pays children due = record {
    fails = λ c failed. absurd (none-some c (sym (ap failing e) ∙ failed));
    rest = rest;
    pays = pays;
    own = λ fine. crash_now rest (answer_is.Wait 1) e due;
    children = λ fine i args is. child_at pid pick out J legal me is_me (made J + i + 1) (omega arith) args (each_at (IsChild me.args) (args_in out.children) children i args is);
  }

  fence_paid : last_answer J pid.0 ≡ None → CrashDue J pid.0 me server budget None → Paid
  fence_paid none due =
      let is : out ≡ spawns 1 (child_is.One (args_are.FenceCall server) ∷ []) = said_at (fixed act_is.Fence 1 true) 0 (row_is 0 None none refl) refl ∙ ap (fence 1) crash in
      let children = ap (λ (o : StepOut). o.children) is in
      let sum : total price (args_in out.children) ≡ 3 = ap (λ c. total price (args_in c)) children in
      let enough = due.1 in
      let first : slice_get (args_in out.children) 0 ≡ Some (args_are.FenceCall server) = ap (λ c. slice_get (args_in c) 0) children in
      waits_paid (moving_due (length due.0)) (ap (λ (o : StepOut). o.answer) is) (omega (arith, sum, enough)) (subst (λ c. AreChildren me.args (args_in c)) (sym children) (ap Rattle.hm_model.specs.Wanted.server_of crash, tt))
      (refl, due.0, omega arith, inl ((λ y here. due.2 y (ap (is_at server) (sym (places_stay y)) ∙ here)), made J + 0 + 1, made_node 0 (args_are.FenceCall server) first))

  -- its children have ended, so its server is fenced, and all regions that are still there are of those that were left
  remains : (rest : List Region) → last_answer J pid.0 ≡ Some (answer_is.Wait 1) → Moving J pid.0 me server rest → (is_fenced J server ≡ true) × Within J server rest
  remains rest waits (inl fencing) =
      let ended = subst (ReadyBy J pid.0 crash_step.node) waits crash_step.ready in
      let stopped = child_stopped J crash_grown pid.0 ended fencing.1 _ fencing.2 me.above refl in
      let goes = ((all fencing.1 _ fencing.2 of).1.calls (verb_is.Fence server) refl).goes in
      (goes.1 stopped, fencing.0)
  remains rest waits (inr moving) =
      let ended = subst (ReadyBy J pid.0 crash_step.node) waits crash_step.ready in (
        moving.0,
        λ y here. elim (moving.1 y here) [
          | inl among ↦ among
          | inr child ↦ absurd (true≢false (sym (child_stopped J crash_grown pid.0 ended child.0 _ child.1 me.above refl) ∙ child.2))
        ],
      )

  reassign_paid : last_answer J pid.0 ≡ Some (answer_is.Wait 1) → (rest : List Region) → moving_due (length rest) ≤ budget → Moving J pid.0 me server rest → Paid
  reassign_paid waits rest enough moving = by (transits goal_is.Assign (take 64 (at_server J server))) refl
    where
      by : (children : List Child) → transits goal_is.Assign (take 64 (at_server J server)) ≡ children → Paid
      by [] e =
          let said = said_at (fixed act_is.Reassign 1 true) 1 (row_is 1 (Some (answer_is.Wait 1)) waits refl) refl ∙ ap (λ a. reassign_all 1 (transits goal_is.Assign (regions_on J (crashed_in a)))) crash in
          let is = said ∙ ap (reassign_all 1) e in
          record {
            fails = λ c failed. absurd (none-some c (sym (ap (λ (o : StepOut). failing o.answer) is) ∙ failed));
            rest = 0;
            pays = let sum = ap (λ (o : StepOut). total price (args_in o.children)) is in omega (arith, sum, enough);
            own = λ fine. crash_now 0 (answer_is.Done told_is.Nothing) (ap (λ (o : StepOut). o.answer) is) tt;
            children = λ fine i args found. absurd (none-some args (ap (λ (o : StepOut). slice_get (args_in o.children) i) (sym is) ∙ found));
          }
      by (child ∷ more) e =
          let said = said_at (fixed act_is.Reassign 1 true) 1 (row_is 1 (Some (answer_is.Wait 1)) waits refl) refl ∙ ap (λ a. reassign_all 1 (transits goal_is.Assign (regions_on J (crashed_in a)))) crash in
          let is = said ∙ ap (reassign_all 1) e in
          let children : out.children ≡ transits goal_is.Assign (take 64 (at_server J server)) = ap (λ (o : StepOut). o.children) is ∙ sym e in
          let left_over = remains rest waits moving in
          let few = at_most (at_server J server) rest (at_order J server) (λ y among. left_over.1 y (listed_at J server y among)) in
          let spent = transits_spent me.args goal_is.Assign tt (take 64 (at_server J server)) in
          let sum : total price (args_in out.children) ≡ total price (args_in (transits goal_is.Assign (take 64 (at_server J server)))) = ap (λ c. total price (args_in c)) children in
          let each = spent.0 in
          let both = both_lengths 64 (at_server J server) in
          let fewer = length-drop 64 (at_server J server) in
          let some : 1 ≤ length (take 64 (at_server J server)) = some_taken (take 64 (at_server J server)) child more e in
          waits_paid (moving_due (length (drop 64 (at_server J server)))) (ap (λ (o : StepOut). o.answer) is) (omega (arith, sum, each, both, fewer, few, enough, some)) (subst (λ c. AreChildren me.args (args_in c)) (sym children) spent.1) (
            refl,
            drop 64 (at_server J server),
            omega arith,
            inr (
              left_over.0,
              λ y here. elim (take_or_drop y 64 (at_server J server) (at_listed J server y (ap (is_at server) (sym (places_stay y)) ∙ here))) [
                | inr dropped ↦ inl dropped
                | inl taken ↦
                    let m = transit_made goal_is.Assign y (take 64 (at_server J server)) taken in
                    let there = made_node m.0 (args_are.Transit y goal_is.Assign None) (ap (λ c. slice_get (args_in c) m.0) children ∙ m.1) in
                    inr (made J + m.0 + 1, there, ap is_stopped (new_unstepped pid pick out J legal me is_me (made J + m.0 + 1) (omega arith)).0)
              ],
            ),
          )
        where
          some_taken : (list : List Region) (child : Child) (more : List Child) → transits goal_is.Assign list ≡ child ∷ more → 1 ≤ length list
          some_taken [] child more e = absurd (none_made child more e)
            where
              none_made : (child : Child) (more : List Child) → [] ≡ child ∷ more → ⊥
              none_made child more e = cc
          some_taken (x ∷ list) child more e = omega arith

  by_last : (last : Option Answer) → last_answer J pid.0 ≡ last → CrashDue J pid.0 me server budget last → Paid
  by_last None e due = fence_paid e due
  by_last (Some (answer_is.Wait n)) e due = reassign_paid (e ∙ ap (λ k. Some (answer_is.Wait k)) due.0) due.1 due.2 due.3
  by_last (Some (answer_is.Done told)) e due = absurd (subst (ReadyBy J pid.0 crash_step.node) e crash_step.ready)
  by_last (Some answer) e due = absurd due

  pub crash_paid : Paid
  crash_paid = by_last (last_answer J pid.0) refl at.due
