-- Who holds a region, and whom a transit conflicts with.
use Rattle.std.proofs.Common.{◌≡◌, ◌≢◌, ℕ, zero, suc, ◌+◌, List, [], ◌∷◌, Bool, true, false, not, ◌||◌, ◌==◌, cond, Option, Some, None, is_some, refl, ap, sym, ◌∙◌, subst, inl, inr}
use Rattle.std.proofs.lemmas.Bool.{and_from, cases_Bool, cases_eq, eq-eqb, eqb-true, false≢true, not_from_false, or_left, or_right, true≢false}
use Rattle.std.proofs.lemmas.Option.{none-some, same_Some}
use Rattle.hm_names.specs.Region.{Region}
use Rattle.hm_data.specs.declared.answer.Answer.{Answer}
use Rattle.hm_data.specs.declared.answer.Answer.TheVariants as answer_is
use Rattle.hm_data.specs.declared.args.Args.{Args}
use Rattle.hm_model.specs.Answers.{done_with, is_stopped, last_answer}
use Rattle.hm_model.specs.Holding.{HoldsWith, InConflict}
use Rattle.hm_model.specs.Journal.{Past}
use Rattle.hm_model.specs.Locks.{AsksClash, IsAbove, IsIn, exclusive}
use Rattle.hm_model.specs.Phase.{all_below, all_stopped, cause, ended, ended_node, in_tree, rolled_back, root_ended, root_over, stopped_in}
use Rattle.hm_model.specs.Tree.{Node, is_top, made, node_of}
use Rattle.hm_model.specs.Undo.{is_empty, stack}
use Rattle.hm_model.specs.Whereabouts.{moved_by}
use Rattle.hm_model.specs.declared.lock.Resource.TheVariants as resource_is
use Rattle.hm_single.specs.Calls.{Moves}
use Rattle.hm_model.specs.Verbs.{verb_in}
use Rattle.hm_model.proofs.StepDoes.{bears, bears_by}
use Rattle.hm_model.proofs.Trees.{Grown, IsWaiting}
use Rattle.hm_single.proofs.Kept.{IsGoing, IsMove, Lasting, fail_in, going_some}
use Rattle.hm_model.proofs.PlainActs.{is_caller}
use Rattle.hm_model.proofs.Small.{top_is}
use Rattle.hm_model.proofs.Transits.{asks_region, caller_facts}

-- a child of a transit calls a region server
bears_moved : (up made : Args) (r : Region) → moved_by up ≡ Some r → bears up made ≡ true → is_caller made ≡ true
bears_moved up made r m h = sym (ap (λ o. bears_by (is_some o) (is_some (verb_in up)) (is_caller made)) m) ∙ h

-- one that calls a region server has no children
bears_none : (up made : Args) → is_caller up ≡ true → bears up made ≡ true → ⊥
bears_none up made caller h =
    let f = caller_facts up caller in
    false≢true (sym (ap (λ o. bears_by (is_some o) (is_some (verb_in up)) (is_caller made)) f.0 ∙ ap (λ b. bears_by false b (is_caller made)) f.1) ∙ h)

-- whose child calls a region server is a transit
bears_caller : (up made : Args) → is_caller made ≡ true → bears up made ≡ true → (o : Option Region) → moved_by up ≡ o → (r : Region) × (moved_by up ≡ Some r)
bears_caller up made caller h (Some r) e = (r, e)
bears_caller up made caller h None e = absurd (by (is_some (verb_in up)) (sym (ap (λ o. bears_by (is_some o) (is_some (verb_in up)) (is_caller made)) e ∙ ap (bears_by false (is_some (verb_in up))) caller) ∙ h))
  where
    by : (b : Bool) → bears_by false b true ≡ true → ⊥
    by true k = false≢true k
    by false k = false≢true k

-- who moves no region has no such child
pub bears_unmoved : (up made : Args) → moved_by up ≡ None → is_caller made ≡ true → bears up made ≡ true → ⊥
bears_unmoved up made e caller h = let r = bears_caller up made caller h None e in none-some r.0 (sym e ∙ r.1)

pub moved_not_caller : (args : Args) (r : Region) → moved_by args ≡ Some r → is_caller args ≡ true → ⊥
moved_not_caller args r m caller = none-some r (sym (caller_facts args caller).0 ∙ m)

module _ (J : Past) (grown : Grown J) where
  -- a transit is an ancestor only of what calls a region server
  above_caller : (p : ℕ) (r : Region) → Moves J p r → (above : List ℕ) (q : ℕ) (node : Node) → node_of J q ≡ Some node → node.above ≡ above → IsIn p above → is_caller node.args ≡ true
  above_caller p r m [] q node is e among = absurd among
  above_caller p r m (u ∷ rest) q node is e (inl same) =
      let up = grown.ups q node is u rest e in
      let one : m.0 ≡ up.0 = same_Some m.0 up.0 (sym m.1 ∙ ap (node_of J) same ∙ up.1) in
      bears_moved up.0.args node.args r (ap (λ (n : Node). moved_by n.args) (sym one) ∙ m.2) up.4
  above_caller p r m (u ∷ rest) q node is e (inr among) =
      let up = grown.ups q node is u rest e in
      absurd (bears_none up.0.args node.args (above_caller p r m rest u up.0 up.1 up.2 among) up.4)

  not_above : (p q : ℕ) (r s : Region) → Moves J p r → Moves J q s → IsAbove p (node_of J q) → ⊥
  not_above p q r s m n among = moved_not_caller n.0.args s n.2 (above_caller p r m n.0.above q n.0 n.1 refl (subst (IsAbove p) n.1 among))

  clashes : (p q : ℕ) (r : Region) → Moves J p r → Moves J q r → AsksClash (node_of J p) (node_of J q)
  clashes p q r m n = subst (λ x. AsksClash x (node_of J q)) (sym m.1) (subst (AsksClash (Some m.0)) (sym n.1)
      (exclusive (resource_is.Region r), exclusive (resource_is.Region r), asks_region m.0.args r m.2, asks_region n.0.args r n.2, refl, refl))

  -- two transits of one region conflict
  pub transits_conflict : (p q : ℕ) (r : Region) → p ≢ q → Moves J p r → Moves J q r → InConflict J p q
  transits_conflict p q r differ m n = (differ, (not_above p q r r m n, not_above q p r r n m, clashes p q r m n))

  -- all of the tree of a root that is a transit but itself call region servers
  kin : (p : ℕ) → IsMove J p → (above : List ℕ) (q : ℕ) (node : Node) → node_of J q ≡ Some node → node.above ≡ above → node.root ≡ p → q ≢ p → (is_caller node.args ≡ true) × ((rest : List ℕ) × (node.above ≡ p ∷ rest))
  kin p move [] q node is e root differs = absurd (differs (sym (grown.tops q node is e) ∙ root))
  kin p move (u ∷ rest) q node is e root differs =
      let up = grown.ups q node is u rest e in
      elim (cases_eq u p) [
        | inl same ↦
            let one : move.node ≡ up.0 = same_Some move.node up.0 (sym move.node_is ∙ ap (node_of J) (sym same) ∙ up.1) in
            (bears_moved up.0.args node.args move.region (ap (λ (n : Node). moved_by n.args) (sym one) ∙ move.moved) up.4, (rest, e ∙ ap (λ x. x ∷ rest) same))
        | inr other ↦ absurd (bears_none up.0.args node.args (kin p move rest u up.0 up.1 up.2 (up.3 ∙ root) other).0 up.4)
      ]

  pub kin_of : (p : ℕ) → IsMove J p → (q : ℕ) (node : Node) → node_of J q ≡ Some node → node.root ≡ p → q ≢ p → (is_caller node.args ≡ true) × ((rest : List ℕ) × (node.above ≡ p ∷ rest))
  kin_of p move q node is root differs = kin p move node.above q node is refl root differs

  -- the root of a procedure is there
  root_at : (above : List ℕ) (q : ℕ) (node : Node) → node_of J q ≡ Some node → node.above ≡ above → (top : Node) × (node_of J node.root ≡ Some top)
  root_at [] q node is e = (node, ap (node_of J) (grown.tops q node is e) ∙ is)
  root_at (u ∷ rest) q node is e =
      let up = grown.ups q node is u rest e in
      let top = root_at rest u up.0 up.1 up.2 in
      (top.0, ap (node_of J) (sym up.3) ∙ top.1)

  pub root_there : (q : ℕ) (node : Node) → node_of J q ≡ Some node → (top : Node) × (node_of J node.root ≡ Some top)
  root_there q node is = root_at node.above q node is refl

  all_from : (n : ℕ) (test : ℕ → Bool) → ((q : ℕ) → test q ≡ true) → all_below n test ≡ true
  all_from zero test each = refl
  all_from (suc n) test each = and_from (test n) (all_below n test) (each n) (all_from n test each)

  -- where such a root has stopped, all of its tree have
  stopped_one : (p : ℕ) → IsMove J p → (IsWaiting (last_answer J p) → ⊥) → (q : ℕ) (o : Option Node) → node_of J q ≡ o → (not (in_tree p o) || ((q == p) || is_stopped (last_answer J q))) ≡ true
  stopped_one p move idle q None e = refl
  stopped_one p move idle q (Some node) e = elim (cases_Bool (node.root == p)) [
    | inr off ↦ or_left (not (node.root == p)) _ (not_from_false (node.root == p) off)
    | inl on ↦ or_right (not (node.root == p)) _ (elim (cases_eq q p) [
      | inl same ↦ or_left (q == p) _ (eq-eqb q p same)
      | inr differs ↦ or_right (q == p) _ (elim (cases_Bool (is_stopped (last_answer J q))) [
        | inl stopped ↦ stopped
        | inr runs ↦
            let k = kin_of p move q node e (eqb-true node.root p on) differs in
            absurd (idle (grown.waits q node e p k.1.0 k.1.1 runs))
      ])
    ])
  ]

  all_stop : (p : ℕ) → IsMove J p → (IsWaiting (last_answer J p) → ⊥) → all_stopped J p ≡ true
  all_stop p move idle = all_from (made J + 1) (stopped_in J p) (λ q. stopped_one p move idle q (node_of J q) refl)

  module _ (kept : Lasting J) where
    ended_is : (p : ℕ) (node : Node) → node_of J p ≡ Some node → ended J p ≡ cond (is_top node.above) (root_ended J p) (is_stopped (last_answer J p))
    ended_is p node is = ap (ended_node J p) is

    move_of : (p : ℕ) (r : Region) (m : Moves J p r) → is_top m.0.above ≡ true → IsMove J p
    move_of p r m top = record { node = m.0; node_is = m.1; region = r; moved = m.2; top = top_is m.0.above top }

    root_runs : (p : ℕ) → IsMove J p → IsGoing (last_answer J p) → root_ended J p ≡ false
    root_runs p move going = by (last_answer J p) going (kept.caused p move)
      where
        by : (o : Option Answer) → IsGoing o → cause J p ≡ fail_in o → root_over (cause J p) (rolled_back J p) (done_with o) ≡ false
        by (Some (answer_is.More n)) g c = ap (λ x. root_over x (rolled_back J p) None) c
        by (Some (answer_is.Wait n)) g c = ap (λ x. root_over x (rolled_back J p) None) c
        by (Some (answer_is.Await n)) g c = ap (λ x. root_over x (rolled_back J p) None) c
        by (Some (answer_is.Done told)) g c = absurd g
        by (Some (answer_is.Fail cause)) g c = absurd g
        by (Some answer_is.Undone) g c = absurd g
        by None g c = absurd g

    pub going_runs : (o : Option Answer) → IsGoing o → is_stopped o ≡ false
    going_runs (Some (answer_is.More n)) h = refl
    going_runs (Some (answer_is.Wait n)) h = refl
    going_runs (Some (answer_is.Await n)) h = refl
    going_runs (Some (answer_is.Done told)) h = absurd h
    going_runs (Some (answer_is.Fail cause)) h = absurd h
    going_runs (Some answer_is.Undone) h = absurd h
    going_runs None h = absurd h

    -- a transit whose last step didn't end it holds
    pub goes_holds : (p : ℕ) (r : Region) → Moves J p r → IsGoing (last_answer J p) → HoldsWith J [] p
    goes_holds p r m going = (
      λ none. none-some m.0 (sym none ∙ m.1),
      ended_is p m.0 m.1 ∙ by (is_top m.0.above) refl,
      inl (going_some (last_answer J p) going),
    )
      where
        by : (b : Bool) → is_top m.0.above ≡ b → cond b (root_ended J p) (is_stopped (last_answer J p)) ≡ false
        by true top = root_runs p (move_of p r m top) going
        by false below = going_runs (last_answer J p) going

    -- and one that holds goes on
    pub holds_goes : (p : ℕ) (r : Region) → Moves J p r → HoldsWith J [] p → IsGoing (last_answer J p)
    holds_goes p r m holds = by (last_answer J p) refl
      where
        begun : last_answer J p ≢ None
        begun = elim holds.2 [ inl some ↦ some | inr never ↦ absurd never ]

        over : (answer : Answer) → last_answer J p ≡ Some answer → is_stopped (Some answer) ≡ true → (IsMove J p → root_ended J p ≡ true) → ⊥
        over answer e stops root = by_top (is_top m.0.above) refl (sym (ended_is p m.0 m.1) ∙ holds.1)
          where
            by_top : (b : Bool) → is_top m.0.above ≡ b → cond b (root_ended J p) (is_stopped (last_answer J p)) ≡ false → ⊥
            by_top true top h = true≢false (sym (root (move_of p r m top)) ∙ h)
            by_top false below h = true≢false (sym (ap is_stopped e ∙ stops) ∙ h)

        by : (o : Option Answer) → last_answer J p ≡ o → IsGoing o
        by None e = absurd (begun e)
        by (Some (answer_is.More n)) e = tt
        by (Some (answer_is.Wait n)) e = tt
        by (Some (answer_is.Await n)) e = tt
        by (Some (answer_is.Done told)) e = over (answer_is.Done told) e refl (λ move. ap (λ x. root_over x (rolled_back J p) (done_with (last_answer J p))) (kept.caused p move ∙ ap fail_in e) ∙ ap (λ x. is_some (done_with x)) e)
        by (Some (answer_is.Fail c)) e = over (answer_is.Fail c) e refl (λ move. ap (λ x. root_over x (rolled_back J p) (done_with (last_answer J p))) (kept.caused p move ∙ ap fail_in e) ∙ and_from (all_stopped J p) (is_empty (stack J p)) (all_stop p move (λ w. subst IsWaiting e w)) (ap is_empty (kept.stacks p move)))
        by (Some answer_is.Undone) e = subst Rattle.hm_single.proofs.Kept.IsSoundLast e (kept.sound p r m)
