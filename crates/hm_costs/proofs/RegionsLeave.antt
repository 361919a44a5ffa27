-- No region comes to a server that went down, and those that its crash moves leave it.
use Rattle.std.proofs.Common.{◌≡◌, ℕ, zero, suc, List, [], ◌∷◌, Bool, true, false, not, cond, Option, Some, None, refl, ap, sym, ◌∙◌, inl, inr, ◌⊎◌}
use Rattle.std.proofs.lemmas.Bool.{and_from, and_parts, cases_Bool, cases_eq, false≢true, not-true, or_left, true≢false}
use Rattle.std.proofs.lemmas.Option.{same_Some}
use Rattle.hm_names.specs.Region.{Region}
use Rattle.hm_names.specs.Server.{Server}
use Rattle.hm_names.specs.declared.pid.Pid.{Pid}
use Rattle.hm_data.specs.declared.answer.Answer.TheVariants as answer_is
use Rattle.hm_data.specs.declared.answer.Cause.TheVariants as cause_is
use Rattle.hm_data.specs.declared.args.Args.TheVariants as args_are
use Rattle.hm_data.specs.declared.args.Child.TheVariants as child_is
use Rattle.hm_data.specs.declared.call.Told.TheVariants as told_is
use Rattle.hm_data.specs.declared.entry.Entry.{Entry}
use Rattle.hm_data.specs.declared.entry.Entry.TheVariants as entry_is
use Rattle.hm_data.specs.declared.place.Goal.TheVariants as goal_is
use Rattle.hm_data.specs.declared.place.Place.{Place}
use Rattle.hm_data.specs.declared.place.RegionState.TheVariants as place_is
use Rattle.hm_data.specs.declared.step.StepOut.{StepOut}
use Rattle.hm_model.specs.Answers.{is_aborted, is_stopped, last_answer, row_of}
use Rattle.hm_model.specs.Fleet.{is_fenced, is_live}
use Rattle.hm_model.specs.Inputs.{fenced_if}
use Rattle.hm_model.specs.Journal.{Past}
use Rattle.hm_model.specs.Outs.{ends_with, fails, given, places, spawns}
use Rattle.hm_model.specs.Places.{is_at, is_the_server, place_of}
use Rattle.hm_model.specs.Rules.{IsLegal}
use Rattle.hm_model.specs.TransitActs.{candidate, close_at, close_or_go, is_open, is_placed, is_state, is_told, lost_if, may_open_in, nowhere, opened_or_not}
use Rattle.hm_model.specs.Tree.{Node, child_of, is_root_in, node_of}
use Rattle.hm_model.specs.Whereabouts.{called_by}
use Rattle.hm_model.proofs.Forest.{forest_all}
use Rattle.hm_model.proofs.Grown.{nodes_stay}
use Rattle.hm_model.proofs.NameTies.{same_server-is}
use Rattle.hm_model.proofs.Trees.{answer_now, other_answer}
use Rattle.hm_costs.proofs.At.{At, Fresh, TransitAt}
use Rattle.hm_costs.proofs.Live.{IsDead}
use Rattle.hm_costs.proofs.Lost.{Covered, Within}
use Rattle.hm_costs.proofs.Moves.{Says, answers, place_now, seen}
use Rattle.hm_costs.proofs.Opening.{none_comes}
use Rattle.hm_costs.proofs.Prices.{AllAt}
use Rattle.hm_model.proofs.Parted.{no_node}
use Rattle.hm_model.proofs.Small.{cons_nil}
use Rattle.std.proofs.lemmas.Option.{none-some}
use Rattle.hm_costs.proofs.Spend.{price}

-- the regions at a server that went down are among those that were there: a transit places its region at a live server, and
-- what it opens or closes there was there before
pub within_stays : (entry : Entry) (J : Past) → IsLegal (entry ∷ J) → (p : ℕ) (y : Node) → node_of J p ≡ Some y → (server : Server) → IsDead J server → (rest : List Region) → Within J server rest → Within (entry ∷ J) server rest
within_stays entry J legal p own is server dead rest within = λ y at. within y (none_comes entry J legal p own is server dead y at)

-- where the server is fenced a transit of the crash that ends leaves its region elsewhere
module _ (pid : Pid) (pick : Option Server) (out : StepOut) (J : Past) (legal : IsLegal (entry_is.Step pid pick out ∷ J)) (q : ℕ) (x : Node) (region : Region) (is_me : node_of J pid.0 ≡ Some (child_of q x (args_are.Transit region goal_is.Assign None))) (server : Server) (dead : IsDead J server) (fenced : is_fenced J server ≡ true) (budget : ℕ) (at : TransitAt J pid.0 (child_of q x (args_are.Transit region goal_is.Assign None)) region budget) (stops : is_stopped (Some out.answer) ≡ true) (there : is_at server (place_of (entry_is.Step pid pick out ∷ J) region) ≡ true) where
  abbrev me : Node
  me = child_of q x (args_are.Transit region goal_is.Assign None)

  was_there : is_at server (place_of J region) ≡ true
  was_there = none_comes (entry_is.Step pid pick out) J legal pid.0 me is_me server dead region there

  at_it : (o : Option Server) → is_the_server server o ≡ true → o ≡ Some server
  at_it None h = absurd (false≢true h)
  at_it (Some other) h = ap Some (sym (same_server-is server other h))

  own_server : (place_of J region).server ≡ Some server
  own_server = at_it (place_of J region).server (and_parts (is_placed (place_of J region)) (is_the_server server (place_of J region).server) was_there).1

  sees_it : (seen pid pick out J legal me is_me region refl).fenced ≡ true
  sees_it = or_left (fenced_if J (place_of J region).server) (fenced_if J (called_by me.args)) (ap (fenced_if J) own_server ∙ fenced)

  goes : (n : ℕ) → out.answer ≡ answer_is.More n → ⊥
  goes n e = true≢false (sym stops ∙ ap (λ a. is_stopped (Some a)) e)

  waits : (n : ℕ) → out.answer ≡ answer_is.Wait n → ⊥
  waits n e = true≢false (sym stops ∙ ap (λ a. is_stopped (Some a)) e)

  placed_off : (place : Place) → out.place ≡ Some place → is_at server place ≡ false → ⊥
  placed_off place e off = true≢false (sym there ∙ ap (is_at server) (place_now pid pick out J legal me is_me region refl place e) ∙ off)

  by_may : (may : Bool) → out ≡ candidate 1 may (place_of J region) (seen pid pick out J legal me is_me region refl).fenced pick → ⊥
  by_may false is =
      let lost = and_from (is_placed (place_of J region)) (seen pid pick out J legal me is_me region refl).fenced (and_parts (is_placed (place_of J region)) (is_the_server server (place_of J region).server) was_there).0 sees_it in
      placed_off (nowhere place_is.AbnormallyClosed) (ap (λ (o : StepOut). o.place) is ∙ ap lost_if lost) refl
  by_may true is = at_open (is_open (place_of J region) (seen pid pick out J legal me is_me region refl).fenced) refl is
    where
      at_open : (opened : Bool) → is_open (place_of J region) (seen pid pick out J legal me is_me region refl).fenced ≡ opened → out ≡ cond opened (ends_with told_is.Nothing) (places (answer_is.More 1) (Some (record { state = place_is.Opening; server = pick }))) → ⊥
      at_open true e is = true≢false (sym sees_it ∙ not-true (seen pid pick out J legal me is_me region refl).fenced (and_parts (is_state place_is.Opened (place_of J region)) (not (seen pid pick out J legal me is_me region refl).fenced) e).1)
      at_open false e is = goes 1 (ap (λ (o : StepOut). o.answer) is)

  by_server : (o : Option Server) → out ≡ given o 2 (λ server. spawns 2 (child_is.One (args_are.AssignCall region server) ∷ [])) → ⊥
  by_server None is = goes 2 (ap (λ (o : StepOut). o.answer) is)
  by_server (Some other) is = waits 2 (ap (λ (o : StepOut). o.answer) is)

  by_told : (b : Bool) → row_of J pid.0 me ≡ 2 → out ≡ opened_or_not 0 (place_of J region).server b → ⊥
  by_told true here is =
      let opens = at.opening (inr here) in
      true≢false (sym opens.2 ∙ ap (is_live J) (same_Some opens.0 server (sym opens.1 ∙ own_server)) ∙ dead.1)
  by_told false here is = goes 0 (ap (λ (o : StepOut). o.answer) is)

  by_close : (b : Bool) → out ≡ close_or_go 4 goal_is.Assign region (place_of J region) b → ⊥
  by_close false is = goes 0 (ap (λ (o : StepOut). o.answer) is)
  by_close true is = by (place_of J region).server is
    where
      by : (o : Option Server) → out ≡ given o 4 (close_at 4 region) → ⊥
      by None is = goes 4 (ap (λ (o : StepOut). o.answer) is)
      by (Some other) is = waits 4 (ap (λ (o : StepOut). o.answer) is)

  leaves : ⊥
  leaves = by (row_of J pid.0 me) refl (answers pid pick out J legal me is_me region refl (row_of J pid.0 me) refl)
    where
      by : (n : ℕ) → row_of J pid.0 me ≡ n → ((out ≡ fails cause_is.Aborted) × (is_aborted J pid.0 ≡ true)) ⊎ Says pid pick out J legal me is_me region refl n → ⊥
      by n here (inl cut) = false≢true (sym (ap is_root_in is_me) ∙ (forest_all J legal.0).aborted pid.0 cut.1)
      by zero here (inr is) = by_may (may_open_in (seen pid pick out J legal me is_me region refl).rows region) is
      by (suc zero) here (inr is) = by_server (place_of J region).server is
      by (suc (suc zero)) here (inr is) = by_told (is_told told_is.Opened (seen pid pick out J legal me is_me region refl).ends) here is
      by (suc (suc (suc zero))) here (inr is) = by_close (is_open (place_of J region) (seen pid pick out J legal me is_me region refl).fenced) is
      by (suc (suc (suc (suc zero)))) here (inr is) = goes 0 (ap (λ (o : StepOut). o.answer) is)
      by (suc (suc (suc (suc (suc zero))))) here (inr is) = cons_nil q x.above (at.first here).1
      by (suc (suc (suc (suc (suc (suc n)))))) here (inr is) = is

-- so the regions at a server that is fenced are still among some, or moved by a transit of the crash that goes on
module _ (J : Past) (r : ℕ) (all : AllAt At Fresh price J r) (q : ℕ) (x : Node) (of : x.root ≡ r) (server : Server) (dead : IsDead J server) (fenced : is_fenced J server ≡ true) (rest : List Region) where
  -- a transit of the crash that stops at an entry leaves no region there
  stops_off : (entry : Entry) → IsLegal (entry ∷ J) → (y : Region) → is_at server (place_of (entry ∷ J) y) ≡ true → (c : ℕ) → node_of J c ≡ Some (child_of q x (args_are.Transit y goal_is.Assign None)) → is_stopped (last_answer J c) ≡ false → is_stopped (last_answer (entry ∷ J) c) ≡ true → ⊥
  stops_off (entry_is.Step pid pick out) legal y there c is runs stops = elim (cases_eq c pid.0) [
    | inr other ↦ true≢false (sym stops ∙ ap is_stopped (other_answer pid pick out J c other) ∙ runs)
    | inl mine ↦
        let me = ap (node_of J) (sym mine) ∙ is in
        let own = all pid.0 _ me of in
        leaves pid pick out J legal q x y me server dead fenced own.0 (own.1.moves y refl) (sym (ap is_stopped (answer_now pid pick out J)) ∙ ap (λ k. is_stopped (last_answer (entry_is.Step pid pick out ∷ J) k)) (sym mine) ∙ stops) there
  ]
  stops_off (entry_is.Base part) legal y there c is runs stops = none-some _ (sym (no_node part J legal.1.0 c) ∙ is)
  stops_off entry legal y there c is runs stops = true≢false (sym stops ∙ runs)

  pub covered_stays : (entry : Entry) → IsLegal (entry ∷ J) → node_of J q ≡ Some x → Covered J q x server rest → Covered (entry ∷ J) q x server rest
  covered_stays entry legal is covered = λ y there. elim (covered y (none_comes entry J legal q x is server dead y there)) [
    | inl among ↦ inl among
    | inr c ↦ elim (cases_Bool (is_stopped (last_answer (entry ∷ J) c.0))) [
      | inr runs ↦ inr (c.0, nodes_stay entry J legal c.0 _ c.1, runs)
      | inl stops ↦ absurd (stops_off entry legal y there c.0 c.1 c.2 stops)
    ]
  ]
