-- What is handed out of a procedure that can go on: what its handler's next call sees, with a pick that is right.
use Rattle.std.proofs.Common.{◌≡◌, ◌≤◌, ◌==◌, ◌&&◌, ◌||◌, ◌⊎◌, ℕ, List, [], ◌∷◌, Bool, true, false, not, if◌then◌else◌, Option, Some, None, refl, inl, inr, ap, sym, ◌∙◌, subst}
use Rattle.std.proofs.lemmas.Bool.{and_parts, cases_Bool, true≢false}
use Rattle.std.proofs.lemmas.Option.{none-some, same_Some}
use Rattle.hm_names.specs.Server.{Server}
use Rattle.hm_names.specs.declared.pid.Pid.{Pid}
use Rattle.hm_data.specs.declared.step.StepIn.{StepIn}
use Rattle.hm_model.specs.Evaluation.{CanRun}
use Rattle.hm_model.specs.Fleet.{is_live, same_server}
use Rattle.hm_model.specs.Inputs.{input, latest_input, step_input, turn_input, undo_input, undoes}
use Rattle.hm_model.specs.Journal.{Past}
use Rattle.hm_model.specs.Picks.{PicksRight, fits_input, has_pick, is_another, is_as_wanted, is_pick_right, needs_server}
use Rattle.hm_model.specs.Places.{tries_of}
use Rattle.hm_model.specs.Rest.{MayStepPicked, MayUndo}
use Rattle.hm_model.specs.Rules.{IsLegal}
use Rattle.hm_model.specs.Editions.{editions, sheets_in}
use Rattle.hm_model.specs.Tree.{Node, node_of}
use Rattle.hm_model.specs.Undo.{Undoable, stack}
use Rattle.hm_model.specs.Wanted.{wanted_of}
use Rattle.hm_model.proofs.NameTies.{same_server-is}
use Rattle.hm_model.specs.Choice.{candidate, chosen, place_told, wanted_first}
use Rattle.hm_single.specs.Picking.{PicksAreThere}
use Rattle.hm_judge.specs.Inputs.{CanEvaluate, IsInput}
use Rattle.hm_judge.specs.Laws.{CandidatesFit}
use Rattle.hm_judge.proofs.Picking.{needs_none}
use Rattle.hm_exec.specs.Claiming.{IsHandedOut}

-- where one is wanted on the first try, no other is as wanted
only_wanted : (J : Past) (o : Option Server) (tries : ℕ) (server wanted : Server) → wanted_first J o tries ≡ Some wanted → is_as_wanted J o tries server ≡ true → server ≡ wanted
only_wanted J None tries server wanted is fits = absurd (none-some wanted is)
only_wanted J (Some named) tries server wanted is fits = by (tries == 0) (is_live J named) refl refl is fits
  where
    by : (first live : Bool) → (tries == 0) ≡ first → is_live J named ≡ live → (if first && live then Some named else None) ≡ Some wanted
        → (not first || (not live || same_server server named)) ≡ true → server ≡ wanted
    by true true f l one same = same_server-is server named same ∙ same_Some named wanted one
    by true false f l one same = absurd (none-some wanted one)
    by false live f l one same = absurd (none-some wanted one)

module _ (J : Past) (legal : IsLegal J) (p : ℕ) (x : Node) (is : node_of J p ≡ Some x) where
  -- where a server is needed, no step is undone
  steps_on : needs_server J p x ≡ true → undoes J p x ≡ false
  steps_on needed = elim (cases_Bool (undoes J p x)) [
    | inl undoing ↦ absurd (true≢false (sym needed ∙ needs_none J legal p x undoing))
    | inr on ↦ on
  ]

  -- the wanted one on the first try isn't the one at which the region just failed to open
  wanted_is_another : PicksAreThere → MayStepPicked J p → needs_server J p x ≡ true → (wanted : Server) → wanted_first J (wanted_of x.args) (tries_of J p) ≡ Some wanted
      → is_another J (place_told J x.args) wanted ≡ true
  wanted_is_another there may needed wanted first =
      let found = there J legal p x is may needed in
      let seen : fits_input J (step_input J p x None) found.0 ≡ true = sym (ap (λ b. fits_input J (turn_input J b (stack J p) (step_input J p x None)) found.0) (steps_on needed)) ∙ found.1 in
      let rest = (and_parts (is_live J found.0) (is_as_wanted J (wanted_of x.args) (tries_of J p) found.0 && is_another J (place_told J x.args) found.0) seen).1 in
      let both = and_parts (is_as_wanted J (wanted_of x.args) (tries_of J p) found.0) (is_another J (place_told J x.args) found.0) rest in
      subst (λ s. is_another J (place_told J x.args) s ≡ true) (only_wanted J (wanted_of x.args) (tries_of J p) found.0 wanted first both.0) both.1

  -- where no server is needed none is picked, which is right
  right_none : needs_server J p x ≡ false → PicksRight J p (candidate J p x)
  right_none needless =
      (x, is, ap (λ b. is_pick_right J p x (if b then chosen J x (tries_of J p) else None) b) needless)

  -- the server that is picked is right
  right_step : CandidatesFit → PicksAreThere → MayStepPicked J p → PicksRight J p (candidate J p x)
  right_step fit there may = elim (cases_Bool (needs_server J p x)) [
    | inl needed ↦ fit J p x legal is (ap (has_pick J p) (same_Some x may.0 (sym is ∙ may.1)) ∙ may.3) (wanted_is_another there may needed)
    | inr needless ↦ right_none needless
  ]

  pub right_pick : CandidatesFit → PicksAreThere → MayStepPicked J p ⊎ MayUndo J p → PicksRight J p (candidate J p x)
  right_pick fit there (inl may) = right_step fit there may
  right_pick fit there (inr may) = right_none (needs_none J legal p x (ap (undoes J p) (same_Some x may.0 (sym is ∙ may.1)) ∙ may.2))

-- the pick that is seen is the one that was chosen
latest_pick : (J : Past) (steps : List Undoable) (at : StepIn) → (latest_input J steps at).pick ≡ at.pick
latest_pick J [] at = refl
latest_pick J (latest ∷ below) at = by (node_of J latest.pid)
  where
    by : (o : Option Node) → (elim o as (λ n. StepIn) [ None ↦ at | Some its ↦ undo_input latest its at ]).pick ≡ at.pick
    by None = refl
    by (Some its) = refl

pub pick_seen : (J : Past) (p : ℕ) (x : Node) (pick : Option Server) → (input J p x pick).pick ≡ pick
pick_seen J p x pick = by (undoes J p x)
  where
    by : (b : Bool) → (turn_input J b (stack J p) (step_input J p x pick)).pick ≡ pick
    by true = latest_pick J (stack J p) (step_input J p x pick)
    by false = refl

-- who can go on is there
pub goer : (J : Past) (p : ℕ) → MayStepPicked J p ⊎ MayUndo J p → (x : Node) × (node_of J p ≡ Some x)
goer J p (inl may) = (may.0, may.1)
goer J p (inr may) = (may.0, may.1)

-- with a pick that is right its handler can be called
can_be_called : (J : Past) (p : ℕ) (pick : Option Server) → PicksRight J p pick → MayStepPicked J p ⊎ MayUndo J p → CanEvaluate J p pick
can_be_called J p pick right (inl may) = inl ((may.0, may.1, may.2), right)
can_be_called J p pick right (inr may) = inr may

-- what is handed out of it
pub handed : CandidatesFit → PicksAreThere → (J : Past) → IsLegal J → (pid : Pid) (pick : Option Server) (was : StepIn) → MayStepPicked J pid.0 ⊎ MayUndo J pid.0
    → ((node : Node) → node_of J pid.0 ≡ Some node → pick ≡ candidate J pid.0 node) → IsInput J pid.0 pick was → was.edition ≤ editions J → (CanEvaluate J pid.0 pick → CanRun (sheets_in J was.edition) was)
    → IsHandedOut J (record { pid = pid; was = was })
handed fit there J legal pid pick was may chosen sees within runs =
    let x = goer J pid.0 may in
    let right = subst (PicksRight J pid.0) (sym (chosen x.0 x.1)) (right_pick J legal pid.0 x.0 x.1 fit there may) in
    let seen = sees x.0 x.1 in
    let same : was.pick ≡ pick = ap (λ (w : StepIn). w.pick) seen ∙ pick_seen J pid.0 x.0 pick in
    record {
      sees = (x.0, x.1, subst (λ o. was ≡ input J pid.0 x.0 o) (sym same) seen);
      picks = subst (PicksRight J pid.0) (sym same) right;
      chosen = λ node is. same ∙ chosen node is;
      edition = within;
      runs = runs (can_be_called J pid.0 pick right may);
    }
