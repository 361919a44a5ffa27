-- Whoever can go on stays able to.
use Rattle.std.proofs.Common.{Bool, None, Option, Some, ap, arith, false, if◌then◌else◌, inl, inr, length, refl, subst, sym, true, ℕ, ◌&&◌, ◌+◌, ◌==◌, ◌∙◌, ◌∷◌, ◌≡◌, ◌≢◌}
use Rattle.std.proofs.lemmas.Bool.{cases_Bool, cases_eq, cond-false, eqb-true, ne_eqb, true≢false}
use Rattle.std.proofs.lemmas.Option.{none-some, same_Some}
use Rattle.hm_names.specs.Server.{Server}
use Rattle.hm_names.specs.declared.pid.Pid.{Pid}
use Rattle.hm_data.specs.declared.answer.Answer.{Answer}
use Rattle.hm_data.specs.declared.answer.Answer.TheVariants as answer_is
use Rattle.hm_data.specs.declared.answer.Cause.{Cause}
use Rattle.hm_data.specs.declared.entry.Entry.{Entry}
use Rattle.hm_data.specs.declared.entry.Entry.TheVariants as entry_is
use Rattle.hm_data.specs.declared.record.Phase.{Phase}
use Rattle.hm_data.specs.declared.step.StepOut.{StepOut}
use Rattle.hm_model.specs.Answers.{is_stopped, last_answer, report_of}
use Rattle.hm_model.specs.Apart.{tree_of}
use Rattle.hm_model.specs.Inputs.{undoes}
use Rattle.hm_model.specs.Journal.{Past}
use Rattle.hm_model.specs.Phase.{all_stopped, cause, children_ended, own_phase, phase, phase_table, rolled_back}
use Rattle.hm_model.specs.Rest.{IsAnswered, IsReady, MayStep}
use Rattle.hm_model.specs.Rules.{IsLegal}
use Rattle.hm_model.specs.Tree.{Node, args_in, is_top, node_of, root_of}
use Rattle.hm_model.specs.Undo.{is_empty, stack}
use Rattle.hm_model.specs.Whereabouts.{called_by}
use Rattle.hm_model.proofs.Forest.{rooted_all}
use Rattle.hm_model.proofs.Grown.{nodes_stay, not_stepped}
use Rattle.hm_model.proofs.Waiting.{children_change, children_tell}
use Rattle.hm_tied.specs.Ables.{AblesStay, ClaimedStayAble}
use Rattle.hm_tied.specs.Tied.{CanGo, IsCalm}
use Rattle.hm_model.proofs.CameUp.{fenced_stays}
use Rattle.hm_model.proofs.Parted.{by_parts, no_node}
use Rattle.hm_model.proofs.Running.{Runs, calm_stopped, ready_runs, run_facts, run_last, top_or_below, undo_facts}
use Rattle.hm_tied.proofs.Picking.{fenced_still}
use Rattle.hm_tied.proofs.Staying.{below_none, old_tree, same_tree, same_undoes}
use Rattle.hm_tied.proofs.Stepping.{other_tree}
use Rattle.hm_tied.proofs.Undoing.{below_is}

-- a call that has a report keeps one
reports_stay : (entry : Entry) (J : Past) → IsLegal (entry ∷ J) → (q : ℕ) → report_of J q ≢ None → report_of (entry ∷ J) q ≢ None
reports_stay (entry_is.Base part) J legal q some = absurd (some (by_parts (λ j. report_of j q ≡ None) refl (λ own older. refl) part J legal.1.0))
reports_stay (entry_is.Report call told) J legal q some = λ none. elim (cases_Bool (q == call.0)) [
  | inl own ↦ none-some told (sym none ∙ ap (λ b. if b then Some told else report_of J q) own)
  | inr other ↦ some (sym (cond-false (q == call.0) (Some told) (report_of J q) other) ∙ none)
]
reports_stay entry J legal q some = some

-- who is answered stays so
answered_stays : (entry : Entry) (J : Past) → IsLegal (entry ∷ J) → (q : ℕ) (x : Node) → IsAnswered J q x → IsAnswered (entry ∷ J) q x
answered_stays entry J legal q x (inl some) = inl (reports_stay entry J legal q some)
answered_stays entry J legal q x (inr fenced) = inr (fenced_still J (entry ∷ J) (fenced_stays entry J) (called_by x.args) fenced)

-- who can go on is there
go_node : (J : Past) (q : ℕ) → CanGo J q → (x : Node) × (node_of J q ≡ Some x)
go_node J q (inl may) = (may.0, may.1)
go_node J q (inr undo) = (undo.0, undo.1)

-- one below a root goes on by a step of its own
runs_below : (J : Past) (q : ℕ) (x : Node) → node_of J q ≡ Some x → is_top x.above ≡ false → CanGo J q → Runs (phase J q x)
runs_below J q x is below (inl may) = subst (λ n. Runs (phase J q n)) (same_Some may.0 x (sym may.1 ∙ is)) (ready_runs J q may.0 may.2)
runs_below J q x is below (inr undo) =
    let same = same_Some undo.0 x (sym undo.1 ∙ is) in
    absurd (true≢false (sym (ap (λ (n : Node). is_top n.above) (sym same) ∙ (undo_facts J q undo.0 undo.2).0) ∙ below))

-- while one below a root hasn't stopped, its tree isn't rolled back, and its phase is what its own last step says
below_phase : (J : Past) → IsLegal J → (q : ℕ) (x : Node) → node_of J q ≡ Some x → is_top x.above ≡ false → is_stopped (last_answer J q) ≡ false → phase J q x ≡ own_phase (last_answer J q) (children_ended J q)
below_phase J legal q x is below going =
    ap (λ b. phase_table (cause J x.root) (rolled_back J x.root) b (own_phase (last_answer J q) (children_ended J q))) below
    ∙ ap (λ b. phase_table (cause J x.root) b false (own_phase (last_answer J q) (children_ended J q))) unrolled
    ∙ own (cause J x.root) (own_phase (last_answer J q) (children_ended J q))
  where
    own : (c : Option Cause) (phase : Phase) → phase_table c false false phase ≡ phase
    own None phase = refl
    own (Some c) phase = refl

    differs : q ≢ x.root
    differs same =
        let root = rooted_all J legal q x is in
        let own = same_Some x root.root (sym is ∙ ap (node_of J) same ∙ root.there) in
        true≢false (sym (ap (λ (n : Node). is_top n.above) own ∙ ap is_top root.at_top) ∙ below)

    unrolled : rolled_back J x.root ≡ false
    unrolled = elim (cases_Bool (all_stopped J x.root)) [
      | inl all ↦ absurd (true≢false (sym (calm_stopped J legal x.root q x is refl differs all) ∙ going))
      | inr off ↦ ap (λ b. b && is_empty (stack J x.root)) off
    ]

-- what it says is the same while children that have ended don't come to go on
own_same : (o : Option Answer) (before after : Bool) → Runs (own_phase o before) → (before ≡ true → after ≡ true) → own_phase o after ≡ own_phase o before
own_same None before after runs stay = refl
own_same (Some (answer_is.More n)) before after runs stay = refl
own_same (Some (answer_is.Wait n)) true after runs stay = ap (own_phase (Some (answer_is.Wait n))) (stay refl)
own_same (Some (answer_is.Wait n)) false after runs stay = elim runs [ inl e ↦ cc | inr e ↦ cc ]
own_same (Some (answer_is.Await n)) before after runs stay = refl
own_same (Some (answer_is.Done told)) before after runs stay = refl
own_same (Some (answer_is.Fail c)) before after runs stay = refl
own_same (Some answer_is.Undone) before after runs stay = refl

-- where its phase is as before, and what is left to undo of it, it goes on
go_on : (entry : Entry) (J : Past) → IsLegal (entry ∷ J) → (q : ℕ) (x : Node) → node_of J q ≡ Some x → phase (entry ∷ J) q x ≡ phase J q x → undoes (entry ∷ J) q x ≡ undoes J q x → CanGo J q → CanGo (entry ∷ J) q
go_on entry J legal q x is phases undos (inl may) =
    let ready : IsReady J q x = subst (IsReady J q) (same_Some may.0 x (sym may.1 ∙ is)) may.2 in
    inl (x, nodes_stay entry J legal q x is, elim ready [ inl runs ↦ inl (phases ∙ runs) | inr waits ↦ inr (phases ∙ waits.0, answered_stays entry J legal q x waits.1) ])
go_on entry J legal q x is phases undos (inr undo) =
    inr (x, nodes_stay entry J legal q x is, undos ∙ ap (undoes J q) (sym (same_Some undo.0 x (sym undo.1 ∙ is))) ∙ undo.2)

-- who is of another tree goes on
other_on : (entry : Entry) (J : Past) → IsLegal (entry ∷ J) → (q : ℕ) (x : Node) → node_of J q ≡ Some x → x.root ≢ tree_of J entry → CanGo J q → CanGo (entry ∷ J) q
other_on entry J legal q x is other =
    let tree = same_tree entry J legal q x is other in
    go_on entry J legal q x is (tree.phases q x is refl) (same_undoes entry J legal q x is other)

module _ (pid : Pid) (pick : Option Server) (out : StepOut) (J : Past) (legal : IsLegal (entry_is.Step pid pick out ∷ J)) (q : ℕ) (differs : q ≢ pid.0) (x : Node) (is : node_of J q ≡ Some x) where
  abbrev after : Past
  after = entry_is.Step pid pick out ∷ J

  -- a step makes children of its own procedure alone
  children_still : children_ended J q ≡ true → children_ended after q ≡ true
  children_still all =
      let none : (if pid.0 == q then length (args_in out.children) else 0) ≡ 0 = ap (λ b. if b then length (args_in out.children) else 0) (ne_eqb pid.0 q (λ same. differs (sym same))) in
      children_tell after q ∙ ap (λ n. n == 0) (no_more _ (children_change (entry_is.Step pid pick out) J legal q) (eqb-true _ 0 (sym (children_tell J q) ∙ all)) none)
    where
      no_more : {a c d : ℕ} (b : ℕ) → a + b ≡ c + d → c ≡ 0 → d ≡ 0 → a ≡ 0
      no_more b change none made = omega (arith, change, none, made)

  -- one below a root goes on as its own last step says
  below_on : is_top x.above ≡ false → CanGo J q → CanGo after q
  below_on below go = go_on (entry_is.Step pid pick out) J legal q x is phases (below_none after q x below ∙ sym (below_none J q x below)) go
    where
      runs : Runs (phase J q x)
      runs = runs_below J q x is below go

      going : is_stopped (last_answer J q) ≡ false
      going = (run_last J legal.0 q x is runs).0

      last : last_answer after q ≡ last_answer J q
      last = not_stepped pid pick out J q differs

      phases : phase after q x ≡ phase J q x
      phases =
          below_phase after legal q x (nodes_stay (entry_is.Step pid pick out) J legal q x is) below (ap is_stopped last ∙ going)
          ∙ ap (λ o. own_phase o (children_ended after q)) last
          ∙ own_same (last_answer J q) (children_ended J q) (children_ended after q) (run_facts J legal.0 q x is runs).0 children_still
          ∙ sym (below_phase J legal.0 q x is below going)

  -- who doesn't make the step goes on
  step_on : IsCalm J q → CanGo J q → CanGo after q
  step_on calm go = elim (top_or_below x.above) [
    | inl top ↦ (let may : MayStep J pid.0 = legal.1.1.0 in other_on (entry_is.Step pid pick out) J legal q x is (other_tree pid pick out J legal may.0 may.1 q x is differs calm top) go)
    | inr below ↦ below_on below.0 go
  ]

-- who is below the root of what is undone can't go on, and all others but that root do
undo_on : (pid : Pid) (row : ℕ) (out : StepOut) (J : Past) → IsLegal (entry_is.Undo pid row out ∷ J) → (q : ℕ) (x : Node) → node_of J q ≡ Some x → q ≢ root_of J pid.0 → CanGo J q → CanGo (entry_is.Undo pid row out ∷ J) q
undo_on pid row out J legal q x is differs go = elim (cases_eq x.root (root_of J pid.0)) [
  | inr other ↦ other_on (entry_is.Undo pid row out) J legal q x is other go
  | inl of ↦
      let rest = below_is pid row out J legal q x is of differs in
      absurd (true≢false (sym rest.1 ∙ (run_last J legal.0 q x is (runs_below J q x is rest.0 go)).0))
]

pub ables_stay : AblesStay
ables_stay (entry_is.Submit nonce request) J p legal go calm apart = let x = go_node J p go in other_on (entry_is.Submit nonce request) J legal p x.0 x.1 (old_tree J legal.0 p x.0 x.1) go
ables_stay (entry_is.Step pid pick out) J p legal go calm apart = let x = go_node J p go in step_on pid pick out J legal p apart x.0 x.1 calm go
ables_stay (entry_is.Undo pid row out) J p legal go calm apart = let x = go_node J p go in undo_on pid row out J legal p x.0 x.1 apart go
ables_stay (entry_is.Down server) J p legal go calm apart = let x = go_node J p go in other_on (entry_is.Down server) J legal p x.0 x.1 (old_tree J legal.0 p x.0 x.1) go
ables_stay (entry_is.Base part) J p legal go calm apart = let x = go_node J p go in absurd (none-some x.0 (sym (no_node part J legal.1.0 p) ∙ x.1))
ables_stay entry J p legal go calm apart = let x = go_node J p go in go_on entry J legal p x.0 x.1 refl refl go

pub claimed_stay_able : ClaimedStayAble
claimed_stay_able entry J number_of roster legal tied able q among = ables_stay entry J q legal (able q among) (tied.claims q among).1
