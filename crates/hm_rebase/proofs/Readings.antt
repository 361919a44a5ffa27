-- What is read of procedures in journals that read alike.
use Rattle.std.proofs.Common.{◌≡◌, ℕ, zero, suc, ◌+◌, ◌<◌, ◌≤◌, List, [], ◌∷◌, ◌++◌, true, false, not, ◌&&◌, ◌||◌, cond, ◌==◌, nat_lt, Option, Some, None, is_some, refl, ap, sym, ◌∙◌, subst, inl, inr, arith}
use Rattle.std.proofs.lemmas.Bool.{ne_eqb}
use Rattle.hm_data.specs.declared.sheet.Sheet.{Sheet}
use Rattle.hm_model.specs.Answers.{done_with, is_stopped, last_answer, row_of, row_after}
use Rattle.hm_model.specs.Forest.{Stands}
use Rattle.hm_model.specs.Inputs.{ends_below, ends_of, is_new_child, made_at_step, undoes}
use Rattle.hm_model.specs.Journal.{Past}
use Rattle.hm_model.specs.Kinds.{first_row_of, kind_of}
use Rattle.hm_model.specs.Phase.{all_below, all_stopped, cause, child_in, children_ended, end_of, ended, ended_node, in_tree, is_parent, own_phase, phase, phase_table, rolled_back, root_ended, root_over, stopped_in}
use Rattle.hm_model.specs.Procedures.{offset, sheet_by, sheet_of}
use Rattle.hm_model.specs.Rules.{IsLegal}
use Rattle.hm_model.specs.Sheets.{next_row, row_in, sheet_for, sheets_by}
use Rattle.hm_model.specs.Tree.{Node, is_root, is_root_in, is_top, made, node_of, root_in, root_of}
use Rattle.hm_model.specs.Undo.{is_empty, stack}
use Rattle.hm_model.proofs.Forest.{forest_all, rooted_all}
use Rattle.hm_model.proofs.Trees.{le_or_lt}
use Rattle.hm_rebase.specs.Alike.{Alike}
use Rattle.hm_rebase.proofs.Bounds.{all_same, none_below, root_above, root_before}
use Rattle.std.proofs.Math.Bool.{and-false}

module _ (J K : Past) (legal_J : IsLegal J) (legal_K : IsLegal K) (alike : Alike J K) where
  -- whoever goes on in one of them is the same in both
  pub high_of : (p : ℕ) (node : Node) → node_of J p ≡ Some node → ended J p ≡ false → offset K < p
  high_of p node is open_yet = elim (le_or_lt p (offset K)) [
    | inr lt ↦ lt
    | inl le ↦ (let over = alike.over p node le is in cc)
  ]

  -- and so is the root of who is the same
  pub root_high : (p : ℕ) (node : Node) → offset K < p → node_of J p ≡ Some node → offset K < node.root
  root_high p node high is = root_above K legal_K p node (sym (alike.same p high).node ∙ is)

  stopped_same : (r : ℕ) → offset K < r → (q : ℕ) → stopped_in J r q ≡ stopped_in K r q
  stopped_same r high q = elim (le_or_lt q (offset K)) [
    | inr lt ↦
        let s = alike.same q lt in
        ap (λ o. not (in_tree r o) || ((q == r) || is_stopped (last_answer J q))) s.node
        ∙ ap (λ a. not (in_tree r (node_of K q)) || ((q == r) || is_stopped a)) s.answer
    | inl le ↦
        low le (node_of J q) refl
        ∙ ap (λ o. not (in_tree r o) || ((q == r) || is_stopped (last_answer K q))) (sym (none_below K legal_K q le))
  ]
    where
      low : q ≤ offset K → (o : Option Node) → node_of J q ≡ o → (not (in_tree r (node_of J q)) || ((q == r) || is_stopped (last_answer J q))) ≡ true
      low le None e = ap (λ o. not (in_tree r o) || ((q == r) || is_stopped (last_answer J q))) e
      low le (Some x) e =
          ap (λ o. not (in_tree r o) || ((q == r) || is_stopped (last_answer J q))) e
          ∙ ap (λ b. not b || ((q == r) || is_stopped (last_answer J q))) (ne_eqb x.root r (λ same. let first = root_before J legal_J q x e in omega (arith, first, le, high, same)))

  pub all_stopped_same : (r : ℕ) → offset K < r → all_stopped J r ≡ all_stopped K r
  all_stopped_same r high = all_same (made J + 1) (stopped_in J r) (stopped_in K r) (stopped_same r high) ∙ ap (λ n. all_below (n + 1) (stopped_in K r)) alike.last

  pub rolled_back_same : (r : ℕ) → offset K < r → rolled_back J r ≡ rolled_back K r
  rolled_back_same r high = ap (λ b. b && is_empty (stack J r)) (all_stopped_same r high) ∙ ap (λ s. all_stopped K r && is_empty s) (alike.same r high).left

  pub root_ended_same : (r : ℕ) → offset K < r → root_ended J r ≡ root_ended K r
  root_ended_same r high =
      let s = alike.same r high in
      ap (λ c. root_over c (rolled_back J r) (done_with (last_answer J r))) s.failure
      ∙ ap (λ b. root_over (cause K r) b (done_with (last_answer J r))) (rolled_back_same r high)
      ∙ ap (λ a. root_over (cause K r) (rolled_back K r) (done_with a)) s.answer

  pub ended_same : (p : ℕ) → offset K < p → ended J p ≡ ended K p
  ended_same p high = ap (ended_node J p) (alike.same p high).node ∙ by (node_of K p)
    where
      by : (o : Option Node) → ended_node J p o ≡ ended_node K p o
      by None = refl
      by (Some node) =
          ap (λ b. cond (is_top node.above) b (is_stopped (last_answer J p))) (root_ended_same p high)
          ∙ ap (λ a. cond (is_top node.above) (root_ended K p) (is_stopped a)) (alike.same p high).answer

  -- who is the same has no older children
  old_child : (p q : ℕ) → offset K < p → q ≤ offset K → child_in p (node_of J q) ≡ false
  old_child p q high le = by (node_of J q) refl
    where
      by_above : (x : Node) → node_of J q ≡ Some x → (above : List ℕ) → x.above ≡ above → is_parent p above ≡ false
      by_above x e [] a = refl
      by_above x e (up ∷ above) a =
          let s = subst (λ l. Stands J q l x.root) a ((forest_all J legal_J).stands q x e) in
          let earlier = s.4 in
          ne_eqb up p (λ same. omega (arith, earlier, le, high, same))

      by : (o : Option Node) → node_of J q ≡ o → child_in p (node_of J q) ≡ false
      by None e = ap (child_in p) e
      by (Some x) e = ap (child_in p) e ∙ by_above x e x.above refl

  child_same : (p q : ℕ) → offset K < p → (not (child_in p (node_of J q)) || is_stopped (last_answer J q)) ≡ (not (child_in p (node_of K q)) || is_stopped (last_answer K q))
  child_same p q high = elim (le_or_lt q (offset K)) [
    | inr lt ↦
        let s = alike.same q lt in
        ap (λ o. not (child_in p o) || is_stopped (last_answer J q)) s.node ∙ ap (λ a. not (child_in p (node_of K q)) || is_stopped a) s.answer
    | inl le ↦
        ap (λ b. not b || is_stopped (last_answer J q)) (old_child p q high le)
        ∙ ap (λ o. not (child_in p o) || is_stopped (last_answer K q)) (sym (none_below K legal_K q le))
  ]

  pub children_ended_same : (p : ℕ) → offset K < p → children_ended J p ≡ children_ended K p
  children_ended_same p high =
      all_same (made J + 1) (λ q. not (child_in p (node_of J q)) || is_stopped (last_answer J q)) (λ q. not (child_in p (node_of K q)) || is_stopped (last_answer K q)) (λ q. child_same p q high)
      ∙ ap (λ n. all_below (n + 1) (λ q. not (child_in p (node_of K q)) || is_stopped (last_answer K q))) alike.last

  pub phase_same : (p : ℕ) (node : Node) → offset K < p → offset K < node.root → phase J p node ≡ phase K p node
  phase_same p node high above =
      let s = alike.same p high in
      ap (λ c. phase_table c (rolled_back J node.root) (is_top node.above) (own_phase (last_answer J p) (children_ended J p))) (alike.same node.root above).failure
      ∙ ap (λ b. phase_table (cause K node.root) b (is_top node.above) (own_phase (last_answer J p) (children_ended J p))) (rolled_back_same node.root above)
      ∙ ap (λ a. phase_table (cause K node.root) (rolled_back K node.root) (is_top node.above) (own_phase a (children_ended J p))) s.answer
      ∙ ap (λ b. phase_table (cause K node.root) (rolled_back K node.root) (is_top node.above) (own_phase (last_answer K p) b)) (children_ended_same p high)

  pub row_same : (p : ℕ) (node : Node) → offset K < p → row_of J p node ≡ row_of K p node
  row_same p node high = ap (row_after (first_row_of node.args)) (alike.same p high).answer

  -- a procedure's root has the same sheets
  pub root_sheets : (p : ℕ) (node : Node) → node_of J p ≡ Some node → offset K < node.root → sheets_by J node.root ≡ sheets_by K node.root
  root_sheets p node is above = let h = rooted_all J legal_J p node is in (alike.same node.root above).sheets h.root h.there h.at_top

  pub next_row_same : (p : ℕ) (node : Node) → node_of J p ≡ Some node → offset K < p → offset K < node.root → next_row J p node ≡ next_row K p node
  next_row_same p node is high above =
      ap (λ l. row_in (sheet_for l (kind_of node.args)) (row_of J p node)) (root_sheets p node is above)
      ∙ ap (row_in (sheet_for (sheets_by K node.root) (kind_of node.args))) (row_same p node high)

  pub undoes_same : (p : ℕ) (node : Node) → offset K < p → undoes J p node ≡ undoes K p node
  undoes_same p node high =
      let s = alike.same p high in
      ap (λ c. is_top node.above && (is_some c && (all_stopped J p && not (is_empty (stack J p))))) s.failure
      ∙ ap (λ b. is_top node.above && (is_some (cause K p) && (b && not (is_empty (stack J p))))) (all_stopped_same p high)
      ∙ ap (λ l. is_top node.above && (is_some (cause K p) && (all_stopped K p && not (is_empty l)))) s.left

  new_child_same : (p q : ℕ) → offset K < p → is_new_child J p q ≡ is_new_child K p q
  new_child_same p q high = elim (le_or_lt q (offset K)) [
    | inr lt ↦ ap (λ m. nat_lt m q && child_in p (node_of J q)) (alike.same p high).stepped ∙ ap (λ o. nat_lt (made_at_step K p) q && child_in p o) (alike.same q lt).node
    | inl le ↦
        ap (λ b. nat_lt (made_at_step J p) q && b) (old_child p q high le) ∙ and-false (nat_lt (made_at_step J p) q)
        ∙ sym (ap (λ o. nat_lt (made_at_step K p) q && child_in p o) (none_below K legal_K q le) ∙ and-false (nat_lt (made_at_step K p) q))
  ]

  end_same : (p q : ℕ) → offset K < p → cond (is_new_child J p q) (end_of q (done_with (last_answer J q))) [] ≡ cond (is_new_child K p q) (end_of q (done_with (last_answer K q))) []
  end_same p q high = ap (λ b. cond b (end_of q (done_with (last_answer J q))) []) (new_child_same p q high) ∙ elim (le_or_lt q (offset K)) [
    | inr lt ↦ ap (λ a. cond (is_new_child K p q) (end_of q (done_with a)) []) (alike.same q lt).answer
    | inl le ↦
        let none : is_new_child K p q ≡ false = ap (λ o. nat_lt (made_at_step K p) q && child_in p o) (none_below K legal_K q le) ∙ and-false (nat_lt (made_at_step K p) q) in
        ap (λ b. cond b (end_of q (done_with (last_answer J q))) []) none ∙ sym (ap (λ b. cond b (end_of q (done_with (last_answer K q))) []) none)
  ]

  ends_below_same : (p n : ℕ) → offset K < p → ends_below J p n ≡ ends_below K p n
  ends_below_same p zero high = refl
  ends_below_same p (suc n) high =
      ap (λ l. l ++ cond (is_new_child J p n) (end_of n (done_with (last_answer J n))) []) (ends_below_same p n high)
      ∙ ap (λ l. ends_below K p n ++ l) (end_same p n high)

  pub ends_same : (p : ℕ) → offset K < p → ends_of J p ≡ ends_of K p
  ends_same p high = ends_below_same p (made J + 1) high ∙ ap (λ n. ends_below K p (n + 1)) alike.last

  pub root_of_same : (p : ℕ) → offset K < p → root_of J p ≡ root_of K p
  root_of_same p high = ap root_in (alike.same p high).node

  pub is_root_same : (p : ℕ) → offset K < p → is_root J p ≡ is_root K p
  is_root_same p high = ap is_root_in (alike.same p high).node

  pub sheet_by_same : (p : ℕ) → offset K < p → sheet_by J p ≡ sheet_by K p
  sheet_by_same p high = by (node_of K p) refl
    where
      by : (o : Option Node) → node_of K p ≡ o → sheet_by J p ≡ sheet_by K p
      by None e =
          ap (λ o. elim o as (λ n. Option Sheet) [ None ↦ None | Some node ↦ sheet_of J p node ]) ((alike.same p high).node ∙ e)
          ∙ sym (ap (λ o. elim o as (λ n. Option Sheet) [ None ↦ None | Some node ↦ sheet_of K p node ]) e)
      by (Some x) e =
          ap (λ o. elim o as (λ n. Option Sheet) [ None ↦ None | Some node ↦ sheet_of J p node ]) ((alike.same p high).node ∙ e)
          ∙ ap (λ l. sheet_for l (kind_of x.args)) (root_sheets p x ((alike.same p high).node ∙ e) (root_above K legal_K p x e))
          ∙ sym (ap (λ o. elim o as (λ n. Option Sheet) [ None ↦ None | Some node ↦ sheet_of K p node ]) e)
