-- After a crash has ended no region is at its server.
use Rattle.std.proofs.Common.{◌≡◌, ℕ, zero, suc, List, [], ◌∷◌, true, false, take, Option, Some, None, refl, ap, sym, ◌∙◌, inl, inr, slice_get}
use Rattle.std.proofs.lemmas.Bool.{cases_Bool, cases_eq, false≢true, true≢false}
use Rattle.std.proofs.lemmas.Option.{none-some, same_Some}
use Rattle.hm_names.specs.Region.{Region}
use Rattle.hm_names.specs.Server.{Server}
use Rattle.hm_names.specs.declared.pid.Pid.{Pid}
use Rattle.hm_data.specs.declared.act.Act.TheVariants as act_is
use Rattle.hm_data.specs.declared.args.Args.TheVariants as args_are
use Rattle.hm_data.specs.declared.args.Child.{Child}
use Rattle.hm_data.specs.declared.entry.Entry.{Entry}
use Rattle.hm_data.specs.declared.entry.Entry.TheVariants as entry_is
use Rattle.hm_data.specs.declared.place.Goal.TheVariants as goal_is
use Rattle.hm_data.specs.declared.sheet.Row.{Row}
use Rattle.hm_data.specs.declared.step.StepIn.{StepIn}
use Rattle.hm_data.specs.declared.step.StepOut.{StepOut}
use Rattle.hm_model.specs.Acts.{act_answer}
use Rattle.hm_model.specs.Answers.{done_with, is_stop, is_stopped, last_answer, row_of}
use Rattle.hm_model.specs.CrashActs.{fence, reassign_all}
use Rattle.hm_model.specs.Inputs.{regions_on, step_input}
use Rattle.hm_model.specs.Journal.{Past}
use Rattle.hm_model.specs.Kinds.{kind_of}
use Rattle.hm_model.specs.Lists.{exact_rows, fixed}
use Rattle.hm_model.specs.Locks.{IsIn}
use Rattle.hm_model.specs.Phase.{rolled_back, root_over}
use Rattle.hm_model.specs.Pieces.{transits}
use Rattle.hm_model.specs.Places.{at_server, is_at, place_of, placed_by, region_if}
use Rattle.hm_model.specs.Rules.{IsLegal}
use Rattle.hm_model.specs.Tree.{Node, args_in, node_of}
use Rattle.hm_model.specs.Whereabouts.{crashed_in, moved_by}
use Rattle.hm_model.proofs.Grown.{nodes_stay}
use Rattle.hm_model.proofs.LegalSteps.{StepFacts}
use Rattle.hm_model.proofs.Listed.{transit_made}
use Rattle.hm_model.proofs.StepDoes.{exact_row_is}
use Rattle.hm_model.proofs.Trees.{answer_now, does_of, grown_all, other_answer, step_of}
use Rattle.hm_model.proofs.Answered.{done_stops}
use Rattle.hm_model.proofs.CallSteps.{uncut}
use Rattle.hm_costs.specs.Theorem.{CrashesEmpty}
use Rattle.hm_costs.proofs.CrashFine.{uncaused_all}
use Rattle.hm_costs.proofs.Dead.{fencers_all}
use Rattle.hm_costs.proofs.Live.{IsDead, fence_in}
use Rattle.hm_costs.proofs.Lost.{at_listed}
use Rattle.hm_costs.proofs.Opening.{none_comes}

abbrev IsEmptied : Past → Type 0
IsEmptied J =
    (r : ℕ) (top : Node) (server : Server) → node_of J r ≡ Some top → top.args ≡ args_are.Crash server → is_stopped (last_answer J r) ≡ true
    → (region : Region) → is_at server (place_of J region) ≡ false

-- where it had stopped before
still_empty : (entry : Entry) (J : Past) → IsLegal (entry ∷ J) → (r : ℕ) → last_answer (entry ∷ J) r ≡ last_answer J r → IsEmptied J
    → (top : Node) (server : Server) → node_of (entry ∷ J) r ≡ Some top → top.args ≡ args_are.Crash server → is_stopped (last_answer (entry ∷ J) r) ≡ true → (region : Region) → is_at server (place_of (entry ∷ J) region) ≡ false
still_empty entry J legal r same before top server is crash stops region = by (node_of J r) refl
  where
    by : (o : Option Node) → node_of J r ≡ o → is_at server (place_of (entry ∷ J) region) ≡ false
    by None e = absurd (false≢true (ap is_stopped (sym (same ∙ (grown_all J legal.0).unmade r e)) ∙ stops))
    by (Some y) e =
        let one : y ≡ top = same_Some y top (sym (nodes_stay entry J legal r y e) ∙ is) in
        let own = ap (λ (n : Node). n.args) one ∙ crash in
        let dead : IsDead J server = fencers_all J legal.0 r y e server (ap fence_in own) in
        elim (cases_Bool (is_at server (place_of (entry ∷ J) region))) [
          | inr off ↦ off
          | inl on ↦ absurd (true≢false (sym (none_comes entry J legal r y e server dead region on) ∙ before r y server e own (ap is_stopped (sym same) ∙ stops) region))
        ]

-- the step that ends a crash finds none there
module _ (pid : Pid) (pick : Option Server) (out : StepOut) (J : Past) (legal : IsLegal (entry_is.Step pid pick out ∷ J)) (server : Server) where
  step : StepFacts J pid.0 pick out
  step = step_of pid pick out J (grown_all J legal.0) legal

  module _ (crash : step.node.args ≡ args_are.Crash server) (stops : is_stop out.answer ≡ true) where
    abbrev seen : StepIn
    seen = step_input J pid.0 step.node pick

    found : slice_get (exact_rows 11) (row_of J pid.0 step.node) ≡ Some step.row
    found = exact_row_is J pid.0 pick out step 11 (ap kind_of crash) _ _ refl

    said : (row : Row) → row ≡ step.row → row.after ≡ true → out ≡ act_answer row.act row.next seen
    said row same late = step.out_is ∙ ap (λ (r : Row). Rattle.hm_model.specs.Evaluation.row_answer r seen) (sym same) ∙ uncut row seen late

    none_left : (list : List Region) → transits goal_is.Assign (take 64 list) ≡ [] → (region : Region) → IsIn region list → ⊥
    none_left [] e region among = among
    none_left (first ∷ more) e region among =
        let m = transit_made goal_is.Assign first (take 64 (first ∷ more)) (inl refl) in
        none-some _ (ap (λ c. slice_get (args_in c) m.0) (sym e) ∙ m.1)

    by_row : (n : ℕ) → slice_get (exact_rows 11) n ≡ Some step.row → (region : Region) → is_at server (place_of J region) ≡ true → ⊥
    by_row zero is region at =
        let answers = said (fixed act_is.Fence 1 true) (same_Some _ step.row is) refl ∙ ap (fence 1) crash in
        false≢true (ap (λ (o : StepOut). is_stop o.answer) (sym answers) ∙ stops)
    by_row (suc zero) is region at = by (transits goal_is.Assign (take 64 (at_server J server))) refl
      where
        answers : out ≡ reassign_all 1 (transits goal_is.Assign (take 64 (at_server J server)))
        answers = said (fixed act_is.Reassign 1 true) (same_Some _ step.row is) refl ∙ ap (λ a. reassign_all 1 (transits goal_is.Assign (regions_on J (crashed_in a)))) crash

        by : (children : List Child) → transits goal_is.Assign (take 64 (at_server J server)) ≡ children → ⊥
        by [] e = none_left (at_server J server) e region (at_listed J server region at)
        by (child ∷ more) e = false≢true (ap (λ (o : StepOut). is_stop o.answer) (sym (answers ∙ ap (reassign_all 1) e)) ∙ stops)
    by_row (suc (suc n)) is region at = none-some step.row is

    now_empty : (region : Region) → is_at server (place_of (entry_is.Step pid pick out ∷ J) region) ≡ false
    now_empty region = elim (cases_Bool (is_at server (place_of J region))) [
      | inl on ↦ absurd (by_row (row_of J pid.0 step.node) found region on)
      | inr off ↦ ap (λ o. is_at server (placed_by region (region_if (node_of J pid.0)) o (place_of J region))) ((does_of pid pick out J (grown_all J legal.0) step).unplaced (ap moved_by crash)) ∙ off
    ]

emptied_all : (J : Past) → IsLegal J → IsEmptied J
emptied_all [] legal = λ r top server is. absurd (none-some top is)
emptied_all (entry_is.Step pid pick out ∷ J) legal = λ r top server is crash stops region. elim (cases_eq r pid.0) [
  | inr other ↦ still_empty (entry_is.Step pid pick out) J legal r (other_answer pid pick out J r other) (emptied_all J legal.0) top server is crash stops region
  | inl mine ↦
      let me = step pid pick out J legal server in
      let one : me.node ≡ top = same_Some me.node top (sym (nodes_stay (entry_is.Step pid pick out) J legal pid.0 me.node me.node_is) ∙ ap (node_of (entry_is.Step pid pick out ∷ J)) (sym mine) ∙ is) in
      now_empty pid pick out J legal server (ap (λ (n : Node). n.args) one ∙ crash) (sym (ap is_stopped (ap (last_answer (entry_is.Step pid pick out ∷ J)) mine ∙ answer_now pid pick out J)) ∙ stops) region
]
emptied_all (entry_is.Base part ∷ J) legal = λ r top server is. absurd (none-some top is)
emptied_all (entry ∷ J) legal = λ r. still_empty entry J legal r refl (emptied_all J legal.0)

pub crashes_empty_is : CrashesEmpty
crashes_empty_is J legal r top server is crash ended region =
    emptied_all J legal r top server is crash
    (done_stops (last_answer J r) (sym (ap (λ c. root_over c (rolled_back J r) (done_with (last_answer J r))) (uncaused_all J legal r top is server crash)) ∙ ended))
    region
