-- While a root asks for a region alone, the region has no place once one of its Unassigns under the root has ended.
use Rattle.std.proofs.Common.{◌≡◌, ◌≢◌, ℕ, ◌<◌, [], ◌∷◌, true, false, Option, Some, refl, ap, sym, ◌∙◌, inl, inr, arith}
use Rattle.std.proofs.lemmas.Bool.{cases_Bool, cases_eq, false≢true, true≢false}
use Rattle.std.proofs.lemmas.Option.{none-some, same_Some}
use Rattle.hm_names.specs.Region.{Region}
use Rattle.hm_names.specs.Server.{Server}
use Rattle.hm_names.specs.declared.pid.Pid.{Pid}
use Rattle.hm_data.specs.declared.catalog.CatKey.TheVariants as key_is
use Rattle.hm_data.specs.declared.entry.Entry.TheVariants as entry_is
use Rattle.hm_data.specs.declared.step.StepOut.{StepOut}
use Rattle.hm_model.specs.Answers.{is_stop, is_stopped, last_answer}
use Rattle.hm_model.specs.Journal.{Past}
use Rattle.hm_model.specs.Phase.{root_ended}
use Rattle.hm_model.specs.Places.{place_of}
use Rattle.hm_model.specs.Reads.{covers}
use Rattle.hm_model.specs.Reports.{is_the_region}
use Rattle.hm_model.specs.Rules.{IsLegal}
use Rattle.hm_model.specs.TransitActs.{is_placed}
use Rattle.hm_model.specs.Tree.{Node, made, node_of}
use Rattle.hm_model.specs.Whereabouts.{moved_by}
use Rattle.hm_model.proofs.KeyTests.{same_region-refl}
use Rattle.hm_model.proofs.LegalSteps.{StepFacts}
use Rattle.hm_model.proofs.StepDoes.{Does}
use Rattle.hm_model.proofs.Tops.{TopIs}
use Rattle.hm_model.proofs.Trees.{Grown, IsRooted, answer_now, does_of, down_rooted, grown_all, is_there, le_or_lt, node_same, old_or_new, other_answer, start_none, step_of, still, still_there, submit_rooted, undo_rooted}
use Rattle.hm_serial.proofs.Apart.{step_top}
use Rattle.hm_serial.proofs.Fallen.{root_of_node}
use Rattle.hm_serial.proofs.Standing.{rooted_left, step_left, step_open}
use Rattle.hm_single.specs.Calls.{MovesIn, OneUnassigned}
use Rattle.hm_single.specs.Theorem.{UnassignedAreUnplaced}
use Rattle.hm_single.proofs.Stage.{the_region}
use Rattle.hm_single.proofs.Unassigned.{at_all, goes_placed, place_same, shut_all, still_open, stranger, undo_open, unplaced_now, worked_all}

abbrev AllOut : Past → Type 0
AllOut J =
    (root : ℕ) (top : Node) → TopIs J root top → root_ended J root ≡ false → (region : Region) → covers top.args (key_is.Region region) ≡ true
    → OneUnassigned J root region → is_placed (place_of J region) ≡ false

-- entries that make only roots, and leave places
calm_out : (J J' : Past) → IsRooted J J' → Grown J → ((region : Region) → place_of J' region ≡ place_of J region)
    → ((root : ℕ) (top : Node) → TopIs J root top → root_ended J' root ≡ false → root_ended J root ≡ false) → AllOut J → AllOut J'
calm_out J J' rooted grown places running before root top at open_still region c one =
    elim (old_or_new J J' rooted grown one.0.0 one.0.1 one.0.2.0) [
      | inr new ↦ absurd (false≢true (sym (ap is_stopped new.3) ∙ one.0.3))
      | inl old ↦ elim (old_or_new J J' rooted grown root top at.0) [
        | inr new ↦ absurd (not_new old new.4)
        | inl was ↦
            ap is_placed (places region) ∙ before root top (was, at.1) (running root top (was, at.1) open_still) region c (
              (one.0.0, one.0.1, (old, one.0.2.1, one.0.2.2), ap is_stopped (sym (rooted.last one.0.0)) ∙ one.0.3),
              λ p x m. one.1 p x (still J J' rooted grown p x m.0, m.1, m.2),
            )
      ]
    ]
  where
    not_new : node_of J one.0.0 ≡ Some one.0.1 → made J < root → ⊥
    not_new old lt =
        let r = root_of_node J grown one.0.0 one.0.1 old in
        let le = is_there J grown root r.0 (ap (node_of J) (sym one.0.2.1) ∙ r.1.0) in
        omega (arith, lt, le)

module _ (pid : Pid) (pick : Option Server) (out : StepOut) (J : Past) (legal : IsLegal (entry_is.Step pid pick out ∷ J)) (before : AllOut J) where
  abbrev J' : Past
  J' = entry_is.Step pid pick out ∷ J

  abbrev grown : Grown J
  grown = grown_all J legal.0

  abbrev step : StepFacts J pid.0 pick out
  step = step_of pid pick out J (grown_all J legal.0) legal

  abbrev does : Does J pid.0 step.node.args (last_answer J pid.0) step.sheet.rows out
  does = does_of pid pick out J (grown_all J legal.0) step

  module _ (root : ℕ) (top : Node) (at : TopIs (entry_is.Step pid pick out ∷ J) root top) (running : root_ended (entry_is.Step pid pick out ∷ J) root ≡ false) (region : Region) (c : covers top.args (key_is.Region region) ≡ true)
      (one : OneUnassigned (entry_is.Step pid pick out ∷ J) root region) where
    old_top : TopIs J root top
    old_top = step_top pid pick out J step root top at

    was_running : root_ended J root ≡ false
    was_running = elim (cases_eq root step.node.root) [
      | inl mine ↦ ap (root_ended J) mine ∙ step_open pid pick out J grown step does
      | inr other ↦ still_open J (entry_is.Step pid pick out ∷ J) root (step_left pid pick out J grown step does root top old_top other) running
    ]

    -- the one that has ended is another than who steps: it had ended before
    ended_before : one.0.0 ≢ pid.0 → MovesIn J root region one.0.0 one.0.1 × (is_stopped (last_answer J one.0.0) ≡ true)
    ended_before differs = elim (le_or_lt one.0.0 (made J)) [
      | inl le ↦ ((sym (node_same pid pick out J one.0.0 le) ∙ one.0.2.0, one.0.2.1, one.0.2.2), ap is_stopped (sym (other_answer pid pick out J one.0.0 differs)) ∙ one.0.3)
      | inr lt ↦ absurd (false≢true (sym (ap is_stopped (other_answer pid pick out J one.0.0 differs ∙ grown.unmade one.0.0 (grown.numbered one.0.0 lt))) ∙ one.0.3))
    ]

    out_before : one.0.0 ≢ pid.0 → is_placed (place_of J region) ≡ false
    out_before differs =
        let was = ended_before differs in
        before root top old_top was_running region c ((one.0.0, one.0.1, was.0, was.1), λ p x m. one.1 p x (still_there pid pick out J grown step does p x m.0, m.1, m.2))

    here : node_of (entry_is.Step pid pick out ∷ J) pid.0 ≡ Some step.node
    here = still_there pid pick out J grown step does pid.0 step.node step.node_is

    -- who steps moves another region, or none
    stays : is_the_region region (moved_by step.node.args) ≡ false → is_placed (place_of (entry_is.Step pid pick out ∷ J) region) ≡ false
    stays off = ap is_placed (place_same pid pick out J legal (shut_all J legal.0) region off) ∙ out_before differs
      where
        differs : one.0.0 ≢ pid.0
        differs same =
            let mine : step.node ≡ one.0.1 = same_Some step.node one.0.1 (sym here ∙ ap (node_of (entry_is.Step pid pick out ∷ J)) (sym same) ∙ one.0.2.0) in
            true≢false (sym (ap (λ (n : Node). is_the_region region (moved_by n.args)) mine ∙ ap (is_the_region region) one.0.2.2 ∙ same_region-refl region) ∙ off)

    -- it moves the region: it is of the root's tree, and an Unassign
    moved : moved_by step.node.args ≡ Some region → is_placed (place_of (entry_is.Step pid pick out ∷ J) region) ≡ false
    moved m = elim (cases_eq step.node.root root) [
      | inl own ↦
          let its = one.1 pid.0 step.node (here, own, m) in
          let place = at_all J legal.0 pid.0 step.node region its.0 step.node_is its.1 in
          elim (cases_Bool (is_stop out.answer)) [
            | inl stops ↦ unplaced_now pid pick out J legal region its.0 its.1 place stops
            | inr goes ↦ absurd (true≢false (sym (goes_placed pid pick out J legal region its.0 its.1 place goes) ∙ out_before (λ same. runs_on goes same)))
          ]
      | inr other ↦
          let differs : one.0.0 ≢ pid.0 = (λ same. other (ap (λ (n : Node). n.root) (same_Some step.node one.0.1 (sym here ∙ ap (node_of (entry_is.Step pid pick out ∷ J)) (sym same) ∙ one.0.2.0)) ∙ one.0.2.1)) in
          let was = ended_before differs in
          let w = worked_all J legal.0 root top old_top was_running region c one.0.0 one.0.1 was.0 (λ none. false≢true (sym (ap is_stopped none) ∙ was.1)) in
          absurd (stranger pid pick out J legal (worked_all J legal.0) root top (old_top, w.begun, was_running) region c m other)
    ]
      where
        runs_on : is_stop out.answer ≡ false → one.0.0 ≡ pid.0 → ⊥
        runs_on goes same = true≢false (sym one.0.3 ∙ ap (λ p. is_stopped (last_answer (entry_is.Step pid pick out ∷ J) p)) same ∙ ap is_stopped (answer_now pid pick out J) ∙ goes)

  step_out : AllOut (entry_is.Step pid pick out ∷ J)
  step_out root top at running region c one = elim (the_region region (moved_by step.node.args)) [
    | inl m ↦ moved root top at running region c one m
    | inr off ↦ stays root top at running region c one off
  ]

out_all : (J : Past) → IsLegal J → AllOut J
out_all [] legal root top at running region c one = absurd (none-some top at.0)
out_all (entry_is.Start sheets ∷ J) legal root top at running region c one = absurd (none-some top (sym (start_none J legal.1.0.0 root) ∙ at.0))
out_all (entry_is.Submit nonce request ∷ J) legal root top at running region c one =
    let g = grown_all J legal.0 in
    let rooted = submit_rooted nonce request J g in
    calm_out J (entry_is.Submit nonce request ∷ J) rooted g (λ r. refl) (λ r t is h. still_open J (entry_is.Submit nonce request ∷ J) r (rooted_left J (entry_is.Submit nonce request ∷ J) rooted g r t is refl refl refl) h) (out_all J legal.0) root top at running region c one
out_all (entry_is.Step pid pick out ∷ J) legal root top at running region c one = step_out pid pick out J legal (out_all J legal.0) root top at running region c one
out_all (entry_is.Undo pid row out ∷ J) legal root top at running region c one =
    let g = grown_all J legal.0 in
    calm_out J (entry_is.Undo pid row out ∷ J) (undo_rooted pid row out J g) g (λ r. refl) (undo_open pid row out J legal) (out_all J legal.0) root top at running region c one
out_all (entry_is.Down server ∷ J) legal root top at running region c one =
    let g = grown_all J legal.0 in
    let rooted = down_rooted server J g in
    calm_out J (entry_is.Down server ∷ J) rooted g (λ r. refl) (λ r t is h. still_open J (entry_is.Down server ∷ J) r (rooted_left J (entry_is.Down server ∷ J) rooted g r t is refl refl refl) h) (out_all J legal.0) root top at running region c one
out_all (entry_is.Base part ∷ J) legal root top at running region c one = absurd (none-some top at.0)
out_all (entry ∷ J) legal root top at running region c one = out_all J legal.0 root top at running region c one

pub unassigned : UnassignedAreUnplaced
unassigned J legal root top top_is nil running region c one = out_all J legal root top (top_is, nil) running region c one
