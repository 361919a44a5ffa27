-- Who goes on below a procedure that hasn't stopped, and below a root that hasn't ended.
use Rattle.std.proofs.Common.{◌≡◌, ℕ, zero, suc, ◌+◌, ◌<◌, ◌≤◌, List, [], ◌∷◌, ◌==◌, ◌&&◌, ◌||◌, not, Bool, true, false, Option, Some, None, is_some, refl, ap, sym, ◌∙◌, subst, inl, inr, ◌⊎◌, arith}
use Rattle.std.proofs.lemmas.Bool.{and_from, and_parts, cases_Bool, eq-eqb, eqb-true, false≢true, not-false, not-true, not_from_false, or_parts, true≢false}
use Rattle.std.proofs.lemmas.Option.{same_Some}
use Rattle.hm_data.specs.declared.answer.Answer.{Answer}
use Rattle.hm_data.specs.declared.answer.Answer.TheVariants as answer_is
use Rattle.hm_data.specs.declared.answer.Cause.{Cause}
use Rattle.hm_data.specs.declared.record.Phase.{Phase}
use Rattle.hm_data.specs.declared.record.Phase.TheVariants as phase_is
use Rattle.hm_model.specs.Answers.{done_with, is_stopped, last_answer}
use Rattle.hm_model.specs.Journal.{Past}
use Rattle.hm_model.specs.Phase.{all_below, all_stopped, cause, child_in, children_ended, in_tree, is_parent, own_phase, phase, phase_table, rolled_back, root_ended, root_over, stopped_in}
use Rattle.hm_model.specs.Rest.{MayUndo}
use Rattle.hm_model.specs.Rules.{IsLegal}
use Rattle.hm_model.specs.Tree.{Node, is_top, made, node_of}
use Rattle.hm_model.specs.Undo.{is_empty, stack}
use Rattle.hm_model.proofs.Counting.{find_below}
use Rattle.hm_model.proofs.Trees.{Grown, grown_all, is_there}
use Rattle.hm_model.proofs.Small.{cons_nil, none_told, top_not}
use Rattle.hm_world_model.proofs.Apart.{unrolled}
use Rattle.hm_world_model.proofs.Lineage.{lineage_all}

-- the phase of one that hasn't stopped is its own, if it is no root of a tree that failed
module _ (J : Past) (legal : IsLegal J) (p : ℕ) (x : Node) (is : node_of J p ≡ Some x) (runs : is_stopped (last_answer J p) ≡ false) (uncaused : x.above ≡ [] → cause J p ≡ None) where
  pub phase_own : phase J p x ≡ own_phase (last_answer J p) (children_ended J p)
  phase_own = by x.above refl
    where
      own : Phase
      own = own_phase (last_answer J p) (children_ended J p)

      untop : (c : Option Cause) → phase_table c false false (own_phase (last_answer J p) (children_ended J p)) ≡ own_phase (last_answer J p) (children_ended J p)
      untop None = refl
      untop (Some c) = refl

      by : (above : List ℕ) → x.above ≡ above → phase J p x ≡ own_phase (last_answer J p) (children_ended J p)
      by [] e = ap (λ c. phase_table c (rolled_back J x.root) (is_top x.above) (own_phase (last_answer J p) (children_ended J p))) (ap (cause J) ((grown_all J legal).tops p x is e) ∙ uncaused e)
      by (u ∷ rest) e =
          let below = λ (none : x.above ≡ []). cons_nil u rest (sym e ∙ none) in
          ap (λ b. phase_table (cause J x.root) b (is_top x.above) (own_phase (last_answer J p) (children_ended J p))) (unrolled J legal p x is below runs)
          ∙ ap (λ b. phase_table (cause J x.root) false b (own_phase (last_answer J p) (children_ended J p))) (top_not x.above below)
          ∙ untop (cause J x.root)

  -- where its children have ended it is runnable, or awaits the answer to a call
  pub goes : children_ended J p ≡ true → (phase J p x ≡ phase_is.Runnable) ⊎ ((phase J p x ≡ phase_is.Awaiting) × ((n : ℕ) × (last_answer J p ≡ Some (answer_is.Await n))))
  goes ended = elim (by (last_answer J p) (children_ended J p) runs ended) [ inl a ↦ inl (phase_own ∙ a) | inr b ↦ inr (phase_own ∙ b.0, b.1) ]
    where
      by : (o : Option Answer) (b : Bool) → is_stopped o ≡ false → b ≡ true → (own_phase o b ≡ phase_is.Runnable) ⊎ ((own_phase o b ≡ phase_is.Awaiting) × ((n : ℕ) × (o ≡ Some (answer_is.Await n))))
      by None b on e = inl refl
      by (Some (answer_is.More n)) b on e = inl refl
      by (Some (answer_is.Wait n)) b on e = inl (ap (own_phase (Some (answer_is.Wait n))) e)
      by (Some (answer_is.Await n)) b on e = inr (refl, (n, refl))
      by (Some (answer_is.Done told)) b on e = absurd (true≢false on)
      by (Some (answer_is.Fail c)) b on e = absurd (true≢false on)
      by (Some answer_is.Undone) b on e = absurd (true≢false on)

-- a child that hasn't stopped
pub record OpenChild (J : Past) (p : ℕ) : Type 0 where
  pub child : ℕ
  pub node : Node
  pub there : node_of J child ≡ Some node
  pub rest : List ℕ
  pub above : node.above ≡ p ∷ rest
  pub runs : is_stopped (last_answer J child) ≡ false

-- who goes on: it hasn't stopped, its children have ended, and it is no root of a tree that failed
pub record Goer (J : Past) (r : ℕ) : Type 0 where
  pub pid : ℕ
  pub node : Node
  pub there : node_of J pid ≡ Some node
  pub root : node.root ≡ r
  pub runs : is_stopped (last_answer J pid) ≡ false
  pub ended : children_ended J pid ≡ true
  pub uncaused : node.above ≡ [] → cause J pid ≡ None

module _ (J : Past) (legal : IsLegal J) where
  grown : Grown J
  grown = grown_all J legal

  open_child : (p q : ℕ) → (child_in p (node_of J q) && not (is_stopped (last_answer J q))) ≡ true → OpenChild J p
  open_child p q on = by (node_of J q) refl
    where
      parts : (child_in p (node_of J q) ≡ true) × (not (is_stopped (last_answer J q)) ≡ true)
      parts = and_parts (child_in p (node_of J q)) (not (is_stopped (last_answer J q))) on

      by_above : (y : Node) → node_of J q ≡ Some y → (above : List ℕ) → y.above ≡ above → is_parent p above ≡ true → OpenChild J p
      by_above y e [] a h = absurd (false≢true h)
      by_above y e (u ∷ rest) a h = record { child = q; node = y; there = e; rest = rest; above = a ∙ ap (λ k. k ∷ rest) (eqb-true u p h); runs = not-true (is_stopped (last_answer J q)) parts.1 }

      by : (o : Option Node) → node_of J q ≡ o → OpenChild J p
      by None e = absurd (false≢true (sym (ap (child_in p) e) ∙ parts.0))
      by (Some y) e = by_above y e y.above refl (sym (ap (child_in p) e) ∙ parts.0)

  pub children : (p : ℕ) → (children_ended J p ≡ true) ⊎ OpenChild J p
  children p = elim (find_below (made J + 1) (λ q. child_in p (node_of J q) && not (is_stopped (last_answer J q)))) [
    | inl found ↦ inr (open_child p found.0 found.2)
    | inr none ↦ inl (all_off (made J + 1) none)
  ]
    where
      flip : (a b : Bool) → (a && not b) ≡ false → (not a || b) ≡ true
      flip true true h = refl
      flip true false h = absurd (true≢false h)
      flip false b h = refl

      all_off : (n : ℕ) → ((q : ℕ) → q < n → (child_in p (node_of J q) && not (is_stopped (last_answer J q))) ≡ false) → all_below n (λ q. not (child_in p (node_of J q)) || is_stopped (last_answer J q)) ≡ true
      all_off zero none = refl
      all_off (suc n) none = and_from (not (child_in p (node_of J n)) || is_stopped (last_answer J n)) _ (flip (child_in p (node_of J n)) (is_stopped (last_answer J n)) (none n (omega arith))) (all_off n (λ q lt. none q (omega (arith, lt))))

  -- the latest below one that hasn't stopped, or itself
  descend : (fuel q : ℕ) (x : Node) → node_of J q ≡ Some x → is_stopped (last_answer J q) ≡ false → made J ≤ q + fuel → (x.above ≡ [] → cause J q ≡ None) → Goer J x.root
  descend zero q x is runs close uncaused = elim (children q) [
    | inl ended ↦ record { pid = q; node = x; there = is; root = refl; runs = runs; ended = ended; uncaused = uncaused }
    | inr c ↦ (
        let le = is_there J (grown_all J legal) c.child c.node c.there in
        let lt = (grown_all J legal).later c.child c.node c.there q c.rest c.above in
        absurd (omega (arith, le, lt, close))
        )
  ]
  descend (suc fuel) q x is runs close uncaused = elim (children q) [
    | inl ended ↦ record { pid = q; node = x; there = is; root = refl; runs = runs; ended = ended; uncaused = uncaused }
    | inr c ↦ (
        let lt = (grown_all J legal).later c.child c.node c.there q c.rest c.above in
        let up = (grown_all J legal).ups c.child c.node c.there q c.rest c.above in
        let root : c.node.root ≡ x.root = sym up.3 ∙ ap (λ (n : Node). n.root) (same_Some up.0 x (sym up.1 ∙ is)) in
        subst (Goer J) root (descend fuel c.child c.node c.there c.runs (omega (arith, lt, close)) (λ top. absurd (cons_nil q c.rest (sym c.above ∙ top))))
        )
  ]

  goer_from : (q : ℕ) (x : Node) → node_of J q ≡ Some x → is_stopped (last_answer J q) ≡ false → (x.above ≡ [] → cause J q ≡ None) → Goer J x.root
  goer_from q x is runs uncaused = descend (made J) q x is runs (omega arith) uncaused

  -- in the tree of a root that hasn't ended somebody goes on, or a step is to be undone
  pub tree_goes : (r : ℕ) (top : Node) → node_of J r ≡ Some top → top.above ≡ [] → root_ended J r ≡ false → Goer J r ⊎ MayUndo J r
  tree_goes r top is at_top open_root = by (cause J r) refl
    where
      own : top.root ≡ r
      own = (grown_all J legal).tops r top is at_top

      sound : (c : Option Cause) → cause J r ≡ c → c ≡ None → Goer J r
      sound c e none = by_stop (is_stopped (last_answer J r)) refl
        where
          undone : is_some (done_with (last_answer J r)) ≡ false
          undone = ap (λ k. root_over k (rolled_back J r) (done_with (last_answer J r))) (sym (e ∙ none)) ∙ open_root

          by_stop : (b : Bool) → is_stopped (last_answer J r) ≡ b → Goer J r
          by_stop false runs = subst (Goer J) own (goer_from r top is runs (λ t. e ∙ none))
          by_stop true stopped = absurd ((lineage_all J legal).done r top is stopped (ap (cause J) own ∙ e ∙ none) (none_told (done_with (last_answer J r)) undone))

      below : (q : ℕ) → stopped_in J r q ≡ false → Goer J r
      below q off = by_node (node_of J q) refl
        where
          parts : (not (in_tree r (node_of J q)) ≡ false) × (((q == r) || is_stopped (last_answer J q)) ≡ false)
          parts = or_parts (not (in_tree r (node_of J q))) ((q == r) || is_stopped (last_answer J q)) off

          more : ((q == r) ≡ false) × (is_stopped (last_answer J q) ≡ false)
          more = or_parts (q == r) (is_stopped (last_answer J q)) parts.1

          by_node : (o : Option Node) → node_of J q ≡ o → Goer J r
          by_node None e = absurd (false≢true (sym (ap (in_tree r) e) ∙ not-false (in_tree r (node_of J q)) parts.0))
          by_node (Some y) e =
              let root : y.root ≡ r = eqb-true y.root r (sym (ap (in_tree r) e) ∙ not-false (in_tree r (node_of J q)) parts.0) in
              subst (Goer J) root (goer_from q y e more.1 (λ t. absurd (true≢false (sym (eq-eqb q r (sym ((grown_all J legal).tops q y e t) ∙ root)) ∙ more.0))))

      failed : (c : Cause) → cause J r ≡ Some c → Goer J r ⊎ MayUndo J r
      failed c e = elim (cases_Bool (all_stopped J r)) [
        | inr off ↦ elim (find_below (made J + 1) (λ q. not (stopped_in J r q))) [
          | inl found ↦ inl (below found.0 (not-true (stopped_in J r found.0) found.2))
          | inr none ↦ absurd (true≢false (sym (all_on (made J + 1) (λ q lt. not-false (stopped_in J r q) (none q lt))) ∙ off))
        ]
        | inl all ↦
            let empty : is_empty (stack J r) ≡ false = ap (λ b. b && is_empty (stack J r)) (sym all) ∙ ap (λ k. root_over k (rolled_back J r) (done_with (last_answer J r))) (sym e) ∙ open_root in
            inr (top, is, and_from (is_top top.above) _ (ap is_top at_top) (and_from (is_some (cause J r)) _ (ap is_some e) (and_from (all_stopped J r) (not (is_empty (stack J r))) all (not_from_false (is_empty (stack J r)) empty))))
      ]
        where
          all_on : (n : ℕ) → ((q : ℕ) → q < n → stopped_in J r q ≡ true) → all_below n (stopped_in J r) ≡ true
          all_on zero each = refl
          all_on (suc n) each = and_from (stopped_in J r n) (all_below n (stopped_in J r)) (each n (omega arith)) (all_on n (λ q lt. each q (omega (arith, lt))))

      by : (c : Option Cause) → cause J r ≡ c → Goer J r ⊎ MayUndo J r
      by None e = inl (sound None e refl)
      by (Some c) e = failed c e
