-- A step or an undo, as an entry in the tree of its procedure.
use Rattle.std.proofs.Common.{◌≡◌, ◌≢◌, ℕ, ◌+◌, ◌-◌, ◌<◌, ◌&&◌, ◌==◌, ◌∷◌, Bool, true, false, not, if◌then◌else◌, Option, Some, None, is_some, length, slice_get, refl, ap, sym, ◌∙◌, inl, inr, ◌⊎◌, arith}
use Rattle.std.specs.Option.{option_map}
use Rattle.std.proofs.lemmas.Bool.{and_parts, and_right, cases_Bool, cond-false, false≢true, ne_eqb, not-true, true≢false}
use Rattle.std.proofs.lemmas.Option.{none-some, same_Some}
use Rattle.hm_names.specs.Server.{Server}
use Rattle.hm_names.specs.declared.pid.Pid.{Pid}
use Rattle.hm_data.specs.declared.args.Args.{Args}
use Rattle.hm_data.specs.declared.answer.Answer.{Answer}
use Rattle.hm_data.specs.declared.answer.Cause.{Cause}
use Rattle.hm_data.specs.declared.answer.Answer.TheVariants as answer_is
use Rattle.hm_data.specs.declared.entry.Entry.{Entry}
use Rattle.hm_data.specs.declared.entry.Entry.TheVariants as entry_is
use Rattle.hm_data.specs.declared.record.Phase.TheVariants as phase_is
use Rattle.hm_data.specs.declared.step.StepOut.{StepOut}
use Rattle.hm_model.specs.Answers.{done_with, is_stop, is_stopped, last_answer}
use Rattle.hm_model.specs.Apart.{tree_of}
use Rattle.hm_model.specs.Counts.{one_if}
use Rattle.hm_model.specs.Journal.{Past}
use Rattle.hm_model.specs.Phase.{all_stopped, cause, children_ended, ended, ended_node, is_parent, own_phase, phase, phase_table, rolled_back, root_ended, root_over}
use Rattle.hm_model.specs.Rules.{IsLegal}
use Rattle.hm_model.specs.Tree.{Node, args_in, is_top, made, node_of, root_in, root_node, root_of}
use Rattle.hm_model.specs.Undo.{is_empty, stack}
use Rattle.hm_model.proofs.Apart.{others_stay}
use Rattle.hm_model.proofs.Forest.{forest_all, rooted_all, roots_wait, top_is_own}
use Rattle.hm_model.proofs.Grown.{grown_all, made_up_to, not_stepped, step_old, undo_new, undo_old}
use Rattle.hm_model.proofs.LegalSteps.{ready_stops}
use Rattle.hm_model.proofs.Trees.{grown_all as trees_all, new_child, step_of}
use Rattle.hm_model.proofs.Waiting.{children_change, children_tell}
use Rattle.hm_model.proofs.Small.{top_is}
use Rattle.hm_procedures.specs.Changes.{is_this}
use Rattle.hm_procedures.proofs.Blank.{IsBlank, blank_new}
use Rattle.hm_procedures.proofs.Counts.{not_over}
use Rattle.hm_procedures.proofs.Facts.{children_law, parent_shown, this_parent}
use Rattle.hm_procedures.proofs.Shown.{IsInTree, open_keeps, own_there, unrolled}

-- a new root can run
pub root_runs : (J : Past) (p : ℕ) (args : Args) (first : ℕ) → IsBlank J p → phase J p (root_node p args first) ≡ phase_is.Runnable
root_runs J p args first blank =
    ap (λ c. phase_table c (rolled_back J p) true (own_phase (last_answer J p) (children_ended J p))) blank.cause_is
    ∙ ap (λ l. own_phase l (children_ended J p)) blank.last

-- the other trees stay as they are
pub others : (entry : Entry) (J : Past) → IsLegal (entry ∷ J) → (r : ℕ) → tree_of J entry ≡ r → (p : ℕ) (node : Node) → node_of J p ≡ Some node → node.root ≢ r → phase (entry ∷ J) p node ≡ phase J p node
others entry J legal r tree p node is other =
    let root = rooted_all J legal.0 p node is in
    (others_stay entry J legal node.root root.root root.there root.at_top (λ e. other (e ∙ tree))).phases p node is refl

pub others_end : (entry : Entry) (J : Past) → IsLegal (entry ∷ J) → (r : ℕ) → tree_of J entry ≡ r → (p : ℕ) (node : Node) → node_of J p ≡ Some node → is_top node.above ≡ true → p ≢ r → ended (entry ∷ J) p ≡ ended J p
others_end entry J legal r tree p node is top other =
    (others_stay entry J legal p node is (top_is node.above top) (λ e. other (e ∙ tree))).ends p node is (top_is_own J (forest_all J legal.0) p node is (top_is node.above top))

same_count : {a b c d : ℕ} → a + b ≡ c + d → b ≡ 0 → d ≡ 0 → a ≡ c
same_count sum none more = omega (arith, sum, none, more)

module _ (pid : Pid) (pick : Option Server) (out : StepOut) (J : Past) (legal : IsLegal (entry_is.Step pid pick out ∷ J)) (me : Node) (is_me : node_of J pid.0 ≡ Some me) where
  abbrev after : Past
  after = entry_is.Step pid pick out ∷ J

  pub step_tree : tree_of J (entry_is.Step pid pick out) ≡ me.root
  step_tree = ap root_in is_me

  pub ran : is_stopped (last_answer J pid.0) ≡ false
  ran = let step = step_of pid pick out J (trees_all J legal.0) legal in ready_stops J pid.0 step.node (last_answer J pid.0) step.ready

  below_differs : is_top me.above ≡ false → pid.0 ≢ me.root
  below_differs below same =
      let root = rooted_all J legal.0 pid.0 me is_me in
      let own = same_Some me root.root (sym is_me ∙ ap (node_of J) same ∙ root.there) in
      true≢false (sym (ap (λ (n : Node). is_top n.above) own ∙ ap is_top root.at_top) ∙ below)

  pub tree_open : (cause J me.root ≡ None) ⊎ (rolled_back J me.root ≡ false)
  tree_open =
      let step = step_of pid pick out J (trees_all J legal.0) legal in
      let same : step.node ≡ me = same_Some step.node me (sym step.node_is ∙ is_me) in
      elim (cases_Bool (is_top me.above)) [
        | inl top ↦
            let own = top_is_own J (forest_all J legal.0) pid.0 me is_me (top_is me.above top) in
            inl (ap (cause J) own ∙ step.uncaused (ap (λ (n : Node). is_top n.above) same ∙ top))
        | inr below ↦ inr (unrolled J me.root (open_keeps J legal.0 me.root pid.0 me is_me refl (below_differs below) ran))
      ]

  -- the root hasn't ended
  not_done : (last : Option Answer) → is_stopped last ≡ false → done_with last ≡ None
  not_done None e = refl
  not_done (Some (answer_is.More n)) e = refl
  not_done (Some (answer_is.Wait n)) e = refl
  not_done (Some (answer_is.Await n)) e = refl
  not_done (Some (answer_is.Done told)) e = absurd (true≢false e)
  not_done (Some (answer_is.Fail cause)) e = refl
  not_done (Some answer_is.Undone) e = refl

  root_goes : done_with (last_answer J me.root) ≡ None
  root_goes = elim (cases_Bool (is_top me.above)) [
    | inl top ↦ ap (λ r. done_with (last_answer J r)) (top_is_own J (forest_all J legal.0) pid.0 me is_me (top_is me.above top)) ∙ not_done (last_answer J pid.0) ran
    | inr below ↦ (let waits = roots_wait J legal.0 pid.0 me is_me (λ e. true≢false (sym (ap is_top e) ∙ below)) ran in ap done_with waits.1)
  ]

  pub step_open : ended J me.root ≡ false
  step_open =
      let root = rooted_all J legal.0 pid.0 me is_me in
      ap (ended_node J me.root) root.there
      ∙ ap (λ t. if is_top t then root_ended J me.root else is_stopped (last_answer J me.root)) root.at_top
      ∙ not_over (cause J me.root) (rolled_back J me.root) (done_with (last_answer J me.root)) tree_open root_goes

  same_children : (p : ℕ) → p ≢ pid.0 → is_parent p me.above ≡ false → children_ended after p ≡ children_ended J p
  same_children p not_pid not_parent =
      let none : one_if (is_parent p me.above && is_stop out.answer) ≡ 0 = ap (λ b. one_if (b && is_stop out.answer)) not_parent in
      let none' : one_if (is_this (parent_shown me.above) p && is_stop out.answer) ≡ 0 = ap (λ b. one_if (b && is_stop out.answer)) (sym (this_parent me.above p)) ∙ none in
      let more : (if p == pid.0 then length (args_in out.children) else 0) ≡ 0 = cond-false (p == pid.0) (length (args_in out.children)) 0 (ne_eqb p pid.0 not_pid) in
      children_tell after p ∙ ap (λ n. n == 0) (same_count (children_law pid pick out J legal me is_me p) none' more) ∙ sym (children_tell J p)

  child_runs : (p : ℕ) (node : Node) → made J < p → node_of after p ≡ Some node → phase after p node ≡ phase_is.Runnable
  child_runs p node lt is =
      let c = new_child pid pick out J me is_me p lt node is in
      let blank = blank_new (entry_is.Step pid pick out) J legal p lt in
      let root = rooted_all J legal.0 pid.0 me is_me in
      let few = (made_up_to J (grown_all J legal.0) me.root root.root root.there).1 in
      let of : node.root ≡ me.root = ap (λ (n : Node). n.root) c.2 in
      let keeps = unrolled after node.root (open_keeps after legal node.root p node is refl (λ e. omega (arith, lt, few, e, of)) (ap is_stopped blank.last)) in
      ap (λ (n : Node). phase_table (cause after node.root) (rolled_back after node.root) (is_top n.above) (own_phase (last_answer after p) (children_ended after p))) c.2
      ∙ own_there (cause after node.root) (rolled_back after node.root) (own_phase (last_answer after p) (children_ended after p)) (inr keeps)
      ∙ ap (λ l. own_phase l (children_ended after p)) blank.last

  pub in_tree_step : IsInTree J after pid me
  in_tree_step = record {
    legal = legal.0;
    legal' = legal;
    is_me = is_me;
    old = λ p le. step_old pid pick out J p le;
    last = λ p differs. not_stepped pid pick out J p differs;
    children = same_children;
    before = tree_open;
    others = others (entry_is.Step pid pick out) J legal me.root step_tree;
    new = child_runs;
  }

module _ (pid : Pid) (row : ℕ) (out : StepOut) (J : Past) (legal : IsLegal (entry_is.Undo pid row out ∷ J)) where
  abbrev behind : Past
  behind = entry_is.Undo pid row out ∷ J

  abbrev r : ℕ
  r = root_of J pid.0

  -- the procedure of the step that is undone is there
  pub undone_there : (me : Node) × (node_of J pid.0 ≡ Some me)
  undone_there = by (node_of J pid.0) refl
    where
      by : (o : Option Node) → node_of J pid.0 ≡ o → (me : Node) × (node_of J pid.0 ≡ Some me)
      by (Some me) e = (me, e)
      by None e = absurd (none-some legal.1.1.0.0 (sym (ap (node_of J) (ap root_in e) ∙ (grown_all J legal.0).none) ∙ legal.1.1.0.1))

  -- its root has failed, its descendants have ended, and something is left to undo
  pub fallen : (is_some (cause J r) ≡ true) × (all_stopped J r ≡ true) × (is_empty (stack J r) ≡ false)
  fallen =
      let root = legal.1.1.0.0 in
      let parts = and_parts (is_top root.above) (is_some (cause J r) && (all_stopped J r && not (is_empty (stack J r)))) legal.1.1.0.2 in
      let more = and_parts (is_some (cause J r)) (all_stopped J r && not (is_empty (stack J r))) parts.1 in
      let last = and_parts (all_stopped J r) (not (is_empty (stack J r))) more.1 in
      (more.0, last.0, not-true (is_empty (stack J r)) last.1)

  module _ (me : Node) (is_me : node_of J pid.0 ≡ Some me) where
    pub undo_tree : tree_of J (entry_is.Undo pid row out) ≡ me.root
    undo_tree = ap root_in is_me

    unrolled_undo : rolled_back J me.root ≡ false
    unrolled_undo = ap (rolled_back J) (sym undo_tree) ∙ and_right (all_stopped J r) (is_empty (stack J r)) fallen.2

    pub undo_open : ended J me.root ≡ false
    undo_open =
        let root = rooted_all J legal.0 pid.0 me is_me in
        ap (ended_node J me.root) root.there
        ∙ ap (λ t. if is_top t then root_ended J me.root else is_stopped (last_answer J me.root)) root.at_top
        ∙ by (cause J me.root) (ap (λ s. is_some (cause J s)) (sym undo_tree) ∙ fallen.0) (rolled_back J me.root) unrolled_undo
      where
        by : (c : Option Cause) → is_some c ≡ true → (b : Bool) → b ≡ false → root_over c b (done_with (last_answer J me.root)) ≡ false
        by None e b f = absurd (false≢true e)
        by (Some c) e b f = f

    root_new : (p : ℕ) (node : Node) → made J < p → node_of behind p ≡ Some node → phase behind p node ≡ phase_is.Runnable
    root_new p node lt is = by (slice_get (args_in out.followers) (p - made J - 1)) (sym (undo_new pid row out J p lt) ∙ is)
      where
        by : (o : Option Args) → option_map (λ args. root_node p args 1) o ≡ Some node → phase behind p node ≡ phase_is.Runnable
        by None e = absurd (none-some node e)
        by (Some args) e = ap (phase behind p) (sym (same_Some (root_node p args 1) node e)) ∙ root_runs behind p args 1 (blank_new (entry_is.Undo pid row out) J legal p lt)

    pub in_tree_undo : IsInTree J behind pid me
    in_tree_undo = record {
      legal = legal.0;
      legal' = legal;
      is_me = is_me;
      old = λ p le. undo_old pid row out J p le;
      last = λ p differs. refl;
      children = λ p a b. children_tell behind p ∙ ap (λ n. n == 0) (same_count (children_change (entry_is.Undo pid row out) J legal p) refl refl) ∙ sym (children_tell J p);
      before = inr unrolled_undo;
      others = others (entry_is.Undo pid row out) J legal me.root undo_tree;
      new = root_new;
    }
