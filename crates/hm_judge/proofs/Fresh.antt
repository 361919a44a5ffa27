-- What a handler answered to an input that is its procedure's still may follow.
use Rattle.std.proofs.Common.{◌≡◌, ℕ, [], Bool, true, false, not, if◌then◌else◌, Option, Some, None, inl, inr, ◌⊎◌, refl, ap, sym, ◌∙◌}
use Rattle.std.proofs.lemmas.Bool.{and_parts, true≢false}
use Rattle.std.proofs.lemmas.Option.{same_Some}
use Rattle.hm_names.specs.Server.{Server}
use Rattle.hm_data.specs.declared.step.StepIn.{StepIn}
use Rattle.hm_model.specs.Evaluation.{answer_of, is_step}
use Rattle.hm_model.specs.Inputs.{answers, input, latest_input, step_input, turn_input, undo_input, undoes}
use Rattle.hm_model.specs.Journal.{Past}
use Rattle.hm_model.specs.Phase.{root_ended}
use Rattle.hm_model.specs.Picks.{PicksRight, needs_server, pick_fits}
use Rattle.hm_model.specs.Procedures.{latest, left_to_undo}
use Rattle.hm_model.specs.Rest.{MayStep, MayUndo}
use Rattle.hm_model.specs.Rules.{IsLatest, IsLegal}
use Rattle.hm_model.specs.Sheets.{sheets_by}
use Rattle.hm_model.specs.Tree.{Node, node_of, root_in, root_of}
use Rattle.hm_model.specs.Undo.{stack}
use Rattle.hm_model.proofs.Tops.{ended_top}
use Rattle.hm_model.proofs.UndoMakes.{stacked_all}
use Rattle.hm_model.proofs.Small.{top_is}
use Rattle.hm_judge.specs.Fresh.{FreshStepsFollow, FreshUndosFollow}
use Rattle.hm_judge.proofs.Asking.{steps_only}
use Rattle.hm_judge.proofs.Editions.{made_begun}
use Rattle.hm_judge.proofs.OwnSteps.{HasLatest, latest_own}
use Rattle.hm_judge.proofs.Picking.{needs_none, turned}
use Rattle.hm_judge.proofs.Undoing.{undoes_open, undoes_parts}

-- the turn of an input is a step
abbrev is_step_turn : StepIn → Bool
is_step_turn at = is_step at.turn

module _ (J : Past) (legal : IsLegal J) (p : ℕ) (node : Node) (is : node_of J p ≡ Some node) (pick : Option Server) where
  -- where it may undo, something is undone of it
  undoes_this : (may : MayUndo J p) → undoes J p node ≡ true
  undoes_this may = ap (undoes J p) (same_Some node may.0 (sym is ∙ may.1)) ∙ may.2

  -- then its turn is no step
  undo_turn : undoes J p node ≡ true → is_step_turn (input J p node pick) ≡ false
  undo_turn on = turned J p (undoes J p node) (stack J p) (step_input J p node pick) on (stacked_all J legal p) (ap not (undoes_parts J p node on).3)

  -- else it is one
  step_turn : undoes J p node ≡ false → is_step_turn (input J p node pick) ≡ true
  step_turn off = ap (λ b. is_step_turn (turn_input J b (stack J p) (step_input J p node pick))) off

  -- where its turn is a step, it may make one
  may_step : MayStep J p ⊎ MayUndo J p → is_step_turn (input J p node pick) ≡ true → MayStep J p
  may_step (inl may) step = may
  may_step (inr may) step = absurd (true≢false (sym step ∙ undo_turn (undoes_this may)))

  -- where it isn't, something is undone of it
  may_undo : MayStep J p ⊎ MayUndo J p → is_step_turn (input J p node pick) ≡ false → undoes J p node ≡ true
  may_undo (inl may) undo =
      let off : undoes J p node ≡ false = ap (undoes J p) (same_Some node may.0 (sym is ∙ may.1)) ∙ steps_only J legal p may in
      absurd (true≢false (sym (step_turn off) ∙ undo))
  may_undo (inr may) undo = undoes_this may

-- where something is undone, no server is picked
unpicked : (J : Past) → IsLegal J → (p : ℕ) (node : Node) → node_of J p ≡ Some node → undoes J p node ≡ true → (pick : Option Server) → PicksRight J p pick → pick ≡ None
unpicked J legal p node is on None right = refl
unpicked J legal p node is on (Some server) right =
    let same : right.0 ≡ node = same_Some right.0 node (sym right.1 ∙ is) in
    let needed = (and_parts (needs_server J p right.0) (pick_fits J p right.0 server) right.2).0 in
    absurd (true≢false (sym needed ∙ ap (needs_server J p) same ∙ needs_none J legal p node on))

module _ (J : Past) (legal : IsLegal J) (p : ℕ) (node : Node) (is : node_of J p ≡ Some node) (on : undoes J p node ≡ true) where
  -- the latest step that is left
  last : HasLatest J p
  last = latest_own J legal p (undoes_parts J p node on).3

  -- its undo is what is seen
  seen_undo : (own : StepIn) → turn_input J (undoes J p node) (stack J p) own ≡ undo_input last.step last.its own
  seen_undo own =
      ap (λ b. turn_input J b (stack J p) own) on
      ∙ ap (λ steps. latest_input J steps own) last.stack_is
      ∙ ap (λ n. elim n as (λ x. StepIn) [ None ↦ own | Some its ↦ undo_input last.step its own ]) last.its_is

  -- its procedure is in the tree of the root
  root_last : root_of J last.step.pid ≡ p
  root_last = ap root_in last.its_is ∙ last.root_is

  -- the root hasn't ended
  unended : root_ended J p ≡ false
  unended = sym (ended_top J p node is (top_is node.above (undoes_parts J p node on).0)) ∙ (undoes_open J p (node, is, on)).1

  -- the step is still to be undone
  left_last : latest (left_to_undo J p) ≡ Some last.step
  left_last = ap (λ b. latest (if b then [] else stack J p)) unended ∙ ap latest last.stack_is

  -- so it is the latest that can be undone
  is_latest : (q row : ℕ) → q ≡ last.step.pid → row ≡ last.step.row → root_of J q ≡ p → IsLatest J q row
  is_latest q row q_is row_is root = (node, ap (node_of J) root ∙ is, ap (λ r. undoes J r node) root ∙ on, last.step, ap (λ r. latest (left_to_undo J r)) root ∙ left_last, sym q_is, sym row_is)

-- what was answered to a step may follow
pub fresh_steps : FreshStepsFollow
fresh_steps J pid node was out legal is can right sees turn clear said =
    let step : is_step_turn (input J pid.0 node was.pick) ≡ true = sym (ap is_step_turn sees) ∙ ap is_step turn in
    let evaluated : answers J pid.0 node was.pick ≡ Some out = ap (answer_of (sheets_by J node.root)) (sym sees) ∙ said in
    (made_begun J pid.0 node is, (may_step J legal pid.0 node is was.pick can step, (clear, (right, ((node, is, evaluated), tt)))))

-- so may what undoes one
pub fresh_undos : FreshUndosFollow
fresh_undos J pid node was edits out legal is can right sees turn said =
    let undo : is_step_turn (input J pid.0 node was.pick) ≡ false = sym (ap is_step_turn sees) ∙ ap is_step turn in
    let on = may_undo J legal pid.0 node is was.pick can undo in
    let step = (last J legal pid.0 node is on).step in
    let seen : was ≡ undo_input step (last J legal pid.0 node is on).its (step_input J pid.0 node was.pick) = sees ∙ seen_undo J legal pid.0 node is on (step_input J pid.0 node was.pick) in
    let number : was.pid.0 ≡ step.pid = ap (λ (at : StepIn). at.pid.0) seen in
    let root : root_of J was.pid.0 ≡ pid.0 = ap (root_of J) number ∙ root_last J legal pid.0 node is on in
    let picks : was.pick ≡ None = unpicked J legal pid.0 node is on was.pick right in
    let evaluated : answers J (root_of J was.pid.0) node None ≡ Some out = ap (λ r. answers J r node None) root ∙ ap (answers J pid.0 node) (sym picks) ∙ ap (answer_of (sheets_by J node.root)) (sym sees) ∙ said in
    let newest = is_latest J legal pid.0 node is on was.pid.0 was.row number (ap (λ (at : StepIn). at.row) seen) root in
    ((made_begun J pid.0 node is, (newest, ((node, ap (node_of J) root ∙ is, evaluated), tt))), root)
