-- What an entry leaves alone of other trees.
use Rattle.hm_model.proofs.Parted.{no_node}
use Rattle.std.proofs.Common.{Bool, List, None, Option, Some, [], ap, arith, false, if◌then◌else◌, inl, inr, is_none, not, refl, slice_get, subst, sym, true, ℕ, ◌&&◌, ◌+◌, ◌-◌, ◌==◌, ◌||◌, ◌∙◌, ◌∷◌, ◌≡◌, ◌≢◌}
use Rattle.std.specs.Option.{option_map, option_or}
use Rattle.std.proofs.lemmas.Bool.{and_left, cases_eq, cases_lt, cond-false, eq-eqb, false≢true, ne_eqb, true≢false}
use Rattle.std.proofs.lemmas.Option.{none-some, same_Some}
use Rattle.hm_data.specs.declared.args.Args.{Args}
use Rattle.hm_data.specs.declared.args.Args.TheVariants as args_are
use Rattle.hm_data.specs.declared.entry.Entry.{Entry}
use Rattle.hm_data.specs.declared.entry.Entry.TheVariants as entry_is
use Rattle.hm_data.specs.declared.step.StepOut.{StepOut}
use Rattle.hm_names.specs.Server.{Server}
use Rattle.hm_names.specs.declared.pid.Pid.{Pid}
use Rattle.hm_model.specs.Answers.{done_with, is_aborted, is_stopped, last_answer, report_of}
use Rattle.hm_model.specs.Apart.{IsSame, IsSameTree, tree_of}
use Rattle.hm_model.specs.Catalog.{cat, was}
use Rattle.hm_model.specs.Forest.{IsForest, Stands}
use Rattle.hm_model.specs.Journal.{Past}
use Rattle.hm_model.specs.Laws.{IsGrown}
use Rattle.hm_model.specs.Phase.{all_stopped, cause, child_in, children_ended, ended, ended_node, in_tree, is_parent, own_phase, phase, phase_table, root_ended, root_over, stopped_in}
use Rattle.hm_model.specs.Places.{has_failed, one_more, tries_of}
use Rattle.hm_model.specs.Reports.{verb_of}
use Rattle.hm_model.specs.Rules.{IsLegal}
use Rattle.hm_model.specs.Tree.{Node, args_in, child_of, children_of, is_top, made, node_of, root_in, root_node, root_of, submitted}
use Rattle.hm_model.specs.Undo.{is_empty, stack}
use Rattle.hm_model.proofs.Forest.{forest_all}
use Rattle.hm_model.proofs.Trees.{all_below_at, all_below_from}
use Rattle.hm_model.proofs.Grown.{down_new, down_old, grown_all, made_up_to, nodes_stay, not_stepped, step_new, step_old, submit_new, submit_old, undo_new, undo_old}
use Rattle.hm_model.proofs.Small.{from_test, implied, top_is}

-- a child that is there
pub child_is : (pid : ℕ) (up : Option Node) (args : Option Args) (node : Node) → children_of pid up args ≡ Some node → (x : Node) × (a : Args) × (up ≡ Some x) × (args ≡ Some a) × (node ≡ child_of pid x a)
child_is pid None args node is = absurd (none-some node is)
child_is pid (Some x) None node is = absurd (none-some node is)
child_is pid (Some x) (Some a) node is = (x, a, refl, refl, sym (same_Some (child_of pid x a) node is))

same_test : (a b : Bool) → (a ≡ true → b ≡ true) → (b ≡ true → a ≡ true) → a ≡ b
same_test true b to from = sym (to refl)
same_test false true to from = from refl
same_test false false to from = refl

-- each other procedure of the tree has stopped
abbrev AllStopped : Past → ℕ → Type 0
AllStopped J r = (q : ℕ) (x : Node) → node_of J q ≡ Some x → x.root ≡ r → q ≢ r → is_stopped (last_answer J q) ≡ true

to_test : (a b c : Bool) → (a ≡ true → b ≡ false → c ≡ true) → (not a || (b || c)) ≡ true
to_test false b c h = refl
to_test true true c h = refl
to_test true false c h = h refl refl

all_tells : (J : Past) → IsGrown J → (r : ℕ) → all_stopped J r ≡ true → AllStopped J r
all_tells J grown r all q x is of differs =
    let few = (made_up_to J grown q x is).1 in
    from_test (in_tree r (node_of J q)) (q == r) (is_stopped (last_answer J q)) (ap (in_tree r) is ∙ eq-eqb x.root r of) (ne_eqb q r differs) (all_below_at (made J + 1) (stopped_in J r) q all (omega (arith, few)))

all_from : (J : Past) (r : ℕ) → AllStopped J r → all_stopped J r ≡ true
all_from J r each = all_below_from (made J + 1) (stopped_in J r) (λ q lt. one q (node_of J q) refl)
  where
    one : (q : ℕ) (o : Option Node) → node_of J q ≡ o → (not (in_tree r o) || ((q == r) || is_stopped (last_answer J q))) ≡ true
    one q None e = refl
    one q (Some x) e = to_test (x.root == r) (q == r) (is_stopped (last_answer J q)) (λ of differs. each q x e (elim (cases_eq x.root r) [ inl same ↦ same | inr other ↦ absurd (true≢false (sym of ∙ ne_eqb x.root r other)) ]) (λ same. absurd (true≢false (sym (eq-eqb q r same) ∙ differs))))

to_child : (a b : Bool) → (a ≡ true → b ≡ true) → (not a || b) ≡ true
to_child false b h = refl
to_child true b h = h refl

child_tells : (J : Past) → IsGrown J → (p : ℕ) → children_ended J p ≡ true → (q : ℕ) (x : Node) → node_of J q ≡ Some x → is_parent p x.above ≡ true → is_stopped (last_answer J q) ≡ true
child_tells J grown p all q x is parent =
    let few = (made_up_to J grown q x is).1 in
    implied (child_in p (node_of J q)) (is_stopped (last_answer J q)) (ap (child_in p) is ∙ parent) (all_below_at (made J + 1) (λ q. not (child_in p (node_of J q)) || is_stopped (last_answer J q)) q all (omega (arith, few)))

child_from : (J : Past) (p : ℕ) → ((q : ℕ) (x : Node) → node_of J q ≡ Some x → is_parent p x.above ≡ true → is_stopped (last_answer J q) ≡ true) → children_ended J p ≡ true
child_from J p each = all_below_from (made J + 1) (λ q. not (child_in p (node_of J q)) || is_stopped (last_answer J q)) (λ q lt. one q (node_of J q) refl)
  where
    one : (q : ℕ) (o : Option Node) → node_of J q ≡ o → (not (child_in p o) || is_stopped (last_answer J q)) ≡ true
    one q None e = refl
    one q (Some x) e = to_child (is_parent p x.above) (is_stopped (last_answer J q)) (each q x e)

-- a child is of its parent's tree
child_tree : (J : Past) → IsForest J → (p : ℕ) (node : Node) → node_of J p ≡ Some node → (q : ℕ) (x : Node) → node_of J q ≡ Some x → is_parent p x.above ≡ true → x.root ≡ node.root
child_tree J forest p node is q x there parent = by x.above refl parent
  where
    by : (above : List ℕ) → x.above ≡ above → is_parent p above ≡ true → x.root ≡ node.root
    by [] e h = absurd (false≢true h)
    by (up ∷ above) e h =
        let s = subst (λ l. Stands J q l x.root) e (forest.stands q x there) in
        let same : up ≡ p = elim (cases_eq up p) [ inl here ↦ here | inr other ↦ absurd (false≢true (sym (ne_eqb up p other) ∙ h)) ] in
        sym s.3 ∙ ap (λ n. n.root) (same_Some s.0 node (sym s.1 ∙ ap (node_of J) same ∙ is))

-- what follows where the procedures of a tree are the same, and what is told of them
module _ (J J' : Past) (grown : IsGrown J) (grown' : IsGrown J') (forest : IsForest J) (forest' : IsForest J') (s : ℕ) (stays : (q : ℕ) (x : Node) → node_of J q ≡ Some x → node_of J' q ≡ Some x) (members : (q : ℕ) (x : Node) → node_of J' q ≡ Some x → x.root ≡ s → node_of J q ≡ Some x) (same : (q : ℕ) (x : Node) → node_of J q ≡ Some x → x.root ≡ s → IsSame J J' q) (cause_is : cause J' s ≡ cause J s) (stack_is : stack J' s ≡ stack J s) (was_is : was J' s ≡ was J s) where
  same_stopped : all_stopped J' s ≡ all_stopped J s
  same_stopped = same_test (all_stopped J' s) (all_stopped J s)
      (λ h. all_from J s (λ q x is of differs. ap is_stopped (sym (same q x is of).last) ∙ all_tells J' grown' s h q x (stays q x is) of differs))
      (λ h. all_from J' s (λ q x is of differs. let old = members q x is of in ap is_stopped (same q x old of).last ∙ all_tells J grown s h q x old of differs))

  same_children : (p : ℕ) (node : Node) → node_of J p ≡ Some node → node.root ≡ s → children_ended J' p ≡ children_ended J p
  same_children p node is of = same_test (children_ended J' p) (children_ended J p)
      (λ h. child_from J p (λ q x there parent. ap is_stopped (sym (same q x there (child_tree J forest p node is q x there parent ∙ of)).last) ∙ child_tells J' grown' p h q x (stays q x there) parent))
      (λ h. child_from J' p (λ q x there parent.
      let its = child_tree J' forest' p node (stays p node is) q x there parent ∙ of in
      let old = members q x there its in
      ap is_stopped (same q x old its).last ∙ child_tells J grown p h q x old parent))

  same_phase : (p : ℕ) (node : Node) → node_of J p ≡ Some node → node.root ≡ s → phase J' p node ≡ phase J p node
  same_phase p node is of =
      ap (λ r. phase_table (cause J' r) (all_stopped J' r && is_empty (stack J' r)) (is_top node.above) (own_phase (last_answer J' p) (children_ended J' p))) of
      ∙ ap (λ c. phase_table c (all_stopped J' s && is_empty (stack J' s)) (is_top node.above) (own_phase (last_answer J' p) (children_ended J' p))) cause_is
      ∙ ap (λ b. phase_table (cause J s) (b && is_empty (stack J' s)) (is_top node.above) (own_phase (last_answer J' p) (children_ended J' p))) same_stopped
      ∙ ap (λ l. phase_table (cause J s) (all_stopped J s && is_empty l) (is_top node.above) (own_phase (last_answer J' p) (children_ended J' p))) stack_is
      ∙ ap (λ l. phase_table (cause J s) (all_stopped J s && is_empty (stack J s)) (is_top node.above) (own_phase l (children_ended J' p))) (same p node is of).last
      ∙ ap (λ b. phase_table (cause J s) (all_stopped J s && is_empty (stack J s)) (is_top node.above) (own_phase (last_answer J p) b)) (same_children p node is of)
      ∙ ap (λ r. phase_table (cause J r) (all_stopped J r && is_empty (stack J r)) (is_top node.above) (own_phase (last_answer J p) (children_ended J p))) (sym of)

  same_root_ended : (top : Node) → node_of J s ≡ Some top → top.root ≡ s → root_ended J' s ≡ root_ended J s
  same_root_ended top is of =
      ap (λ c. root_over c (all_stopped J' s && is_empty (stack J' s)) (done_with (last_answer J' s))) cause_is
      ∙ ap (λ b. root_over (cause J s) (b && is_empty (stack J' s)) (done_with (last_answer J' s))) same_stopped
      ∙ ap (λ l. root_over (cause J s) (all_stopped J s && is_empty l) (done_with (last_answer J' s))) stack_is
      ∙ ap (λ l. root_over (cause J s) (all_stopped J s && is_empty (stack J s)) (done_with l)) (same s top is of).last

  same_ended : (p : ℕ) (node : Node) → node_of J p ≡ Some node → node.root ≡ s → ended J' p ≡ ended J p
  same_ended p node is of = ap (ended_node J' p) (stays p node is) ∙ by (is_top node.above) refl ∙ ap (ended_node J p) (sym is)
    where
      by : (b : Bool) → is_top node.above ≡ b → (if is_top node.above then root_ended J' p else is_stopped (last_answer J' p)) ≡ (if is_top node.above then root_ended J p else is_stopped (last_answer J p))
      by false e = rw e (ap is_stopped (same p node is of).last)
      by true e =
          let own : node.root ≡ p = subst (λ l. Stands J p l node.root) (top_is node.above e) (forest.stands p node is) in
          let here : p ≡ s = sym own ∙ of in
          rw e (ap (root_ended J') here ∙ same_root_ended node (ap (node_of J) (sym here) ∙ is) of ∙ ap (root_ended J) (sym here))

  pub same_tree : IsSameTree J J' s
  same_tree = record {
    members = members;
    same = same;
    cause_is = cause_is;
    stack_is = stack_is;
    was_is = was_is;
    stopped = same_stopped;
    children = same_children;
    phases = same_phase;
    ends = same_ended;
  }

-- entries that leave the procedures as they are, and of this tree all that is told
same_plain : (J J' : Past) → IsGrown J → IsGrown J' → IsForest J → IsForest J' → (s : ℕ) → ((q : ℕ) → node_of J' q ≡ node_of J q) → ((q : ℕ) (x : Node) → node_of J q ≡ Some x → x.root ≡ s → IsSame J J' q) → cause J' s ≡ cause J s → stack J' s ≡ stack J s → was J' s ≡ was J s → IsSameTree J J' s
same_plain J J' grown grown' forest forest' s nodes same cause_is stack_is was_is =
    same_tree J J' grown grown' forest forest' s (λ q x is. nodes q ∙ is) (λ q x is of. sym (nodes q) ∙ is) same cause_is stack_is was_is

untouched : (J J' : Past) → ((q : ℕ) → last_answer J' q ≡ last_answer J q) → ((q : ℕ) → verb_of J' q ≡ verb_of J q) → ((q : ℕ) → report_of J' q ≡ report_of J q) → ((q : ℕ) → is_aborted J' q ≡ is_aborted J q) → ((q : ℕ) → tries_of J' q ≡ tries_of J q) → (q : ℕ) → IsSame J J' q
untouched J J' lasts verbs reports aborts tries q = record { last = lasts q; verb = verbs q; report = reports q; aborted = aborts q; tries = tries q }

-- who belongs to a tree isn't of another
not_own : (J : Past) (p q : ℕ) (x : Node) (s : ℕ) → node_of J q ≡ Some x → x.root ≡ s → s ≢ root_of J p → q ≢ p
not_own J p q x s is of other same = other (sym of ∙ ap root_in (sym is) ∙ ap (root_of J) same)

module _ (before : Past) (legal : IsLegal before) (s : ℕ) (top : Node) (is_top_of : node_of before s ≡ Some top) (at_top : top.above ≡ []) where
  own_root : top.root ≡ s
  own_root = subst (λ l. Stands before s l top.root) at_top ((forest_all before legal).stands s top is_top_of)

  step_other : (pid : Pid) (pick : Option Server) (out : StepOut) → IsLegal (entry_is.Step pid pick out ∷ before) → s ≢ root_of before pid.0 → IsSameTree before (entry_is.Step pid pick out ∷ before) s
  step_other pid pick out after other =
      let not_tree : (root_of before pid.0 == s) ≡ false = ne_eqb (root_of before pid.0) s (λ e. other (sym e)) in
      same_tree before (entry_is.Step pid pick out ∷ before) (grown_all before legal) (grown_all (entry_is.Step pid pick out ∷ before) after) (forest_all before legal) (forest_all (entry_is.Step pid pick out ∷ before) after) s
      (nodes_stay (entry_is.Step pid pick out) before after)
      (λ q x is of. elim (cases_lt (made before) q) [
        | inl lt ↦
            let c = child_is pid.0 (node_of before pid.0) (slice_get (args_in out.children) (q - made before - 1)) x (sym (step_new pid pick out before q lt) ∙ is) in
            absurd (other (sym of ∙ ap (λ n. n.root) c.4 ∙ ap root_in (sym c.2)))
        | inr le ↦ sym (step_old pid pick out before q le) ∙ is
      ])
      (λ q x is of.
      let differs = not_own before pid.0 q x s is of other in
      record {
        last = not_stepped pid pick out before q differs;
        verb = cond-false (q == pid.0) (option_or out.call (verb_of before q)) (verb_of before q) (ne_eqb q pid.0 differs);
        report = refl;
        aborted = refl;
        tries = cond-false ((q == pid.0) && has_failed out.place) (one_more (tries_of before q)) (tries_of before q) (and_left (q == pid.0) (has_failed out.place) (ne_eqb q pid.0 differs));
      })
      (cond-false (root_of before pid.0 == s) _ _ not_tree)
      (cond-false (root_of before pid.0 == s) _ _ not_tree)
      (let differs = not_own before pid.0 s top s is_top_of own_root other in cond-false ((s == pid.0) && is_none (last_answer before pid.0)) (cat before) (was before s) (and_left (s == pid.0) (is_none (last_answer before pid.0)) (ne_eqb s pid.0 differs)))

  undo_other : (pid : Pid) (row : ℕ) (out : StepOut) → IsLegal (entry_is.Undo pid row out ∷ before) → s ≢ root_of before pid.0 → IsSameTree before (entry_is.Undo pid row out ∷ before) s
  undo_other pid row out after other =
      let few = (made_up_to before (grown_all before legal) s top is_top_of).1 in
      same_tree before (entry_is.Undo pid row out ∷ before) (grown_all before legal) (grown_all (entry_is.Undo pid row out ∷ before) after) (forest_all before legal) (forest_all (entry_is.Undo pid row out ∷ before) after) s
      (nodes_stay (entry_is.Undo pid row out) before after)
      (λ q x is of. elim (cases_lt (made before) q) [
        | inl lt ↦ (let root = follower q x (slice_get (args_in out.followers) (q - made before - 1)) (sym (undo_new pid row out before q lt) ∙ is) in absurd (omega (arith, lt, few, root, of)))
        | inr le ↦ sym (undo_old pid row out before q le) ∙ is
      ])
      (λ q x is of. untouched before (entry_is.Undo pid row out ∷ before) (λ p. refl) (λ p. refl) (λ p. refl) (λ p. refl) (λ p. refl) q)
      refl
      (cond-false (root_of before pid.0 == s) _ _ (ne_eqb (root_of before pid.0) s (λ e. other (sym e))))
      refl
    where
      follower : (q : ℕ) (x : Node) (o : Option Args) → option_map (λ args. root_node q args 1) o ≡ Some x → x.root ≡ q
      follower q x None e = absurd (none-some x e)
      follower q x (Some args) e = sym (ap (λ n. n.root) (same_Some (root_node q args 1) x e))

-- one more root, and nothing else
root_other : (J J' : Past) → IsGrown J → IsGrown J' → IsForest J → IsForest J' → (s : ℕ) → s ≢ made J + 1 → ((q : ℕ) (x : Node) → node_of J q ≡ Some x → node_of J' q ≡ Some x) → ((q : ℕ) → q ≢ made J + 1 → node_of J' q ≡ node_of J q) → ((q : ℕ) (x : Node) → q ≡ made J + 1 → node_of J' q ≡ Some x → x.root ≡ q) → ((q : ℕ) → IsSame J J' q) → cause J' s ≡ cause J s → stack J' s ≡ stack J s → was J' s ≡ was J s → IsSameTree J J' s
root_other J J' grown grown' forest forest' s other stays old new same cause_is stack_is was_is =
    same_tree J J' grown grown' forest forest' s stays
    (λ q x is of. elim (cases_eq q (made J + 1)) [
      | inl fresh ↦ absurd (other (sym of ∙ new q x fresh is ∙ fresh))
      | inr differs ↦ sym (old q differs) ∙ is
    ])
    (λ q x is of. same q) cause_is stack_is was_is

pub others_stay : (entry : Entry) (before : Past) → IsLegal (entry ∷ before) → (s : ℕ) (top : Node) → node_of before s ≡ Some top → top.above ≡ [] → s ≢ tree_of before entry → IsSameTree before (entry ∷ before) s
others_stay (entry_is.Submit nonce request) before legal s top is at_top other =
    root_other before (entry_is.Submit nonce request ∷ before) (grown_all before legal.0) (grown_all (entry_is.Submit nonce request ∷ before) legal) (forest_all before legal.0) (forest_all (entry_is.Submit nonce request ∷ before) legal) s other
    (nodes_stay (entry_is.Submit nonce request) before legal)
    (λ q differs. submit_old nonce request before q differs)
    (λ q x fresh there. sym (ap (λ n. n.root) (same_Some (submitted before request q) x (sym (submit_new nonce request before q fresh) ∙ there))))
    (untouched before (entry_is.Submit nonce request ∷ before) (λ p. refl) (λ p. refl) (λ p. refl) (λ p. refl) (λ p. refl)) refl refl refl
others_stay (entry_is.Step pid pick out) before legal s top is at_top other = step_other before legal.0 s top is at_top pid pick out legal other
others_stay (entry_is.Undo pid row out) before legal s top is at_top other = undo_other before legal.0 s top is at_top pid row out legal other
others_stay (entry_is.Report call told) before legal s top is at_top other =
    same_plain before (entry_is.Report call told ∷ before) (grown_all before legal.0) (grown_all (entry_is.Report call told ∷ before) legal) (forest_all before legal.0) (forest_all (entry_is.Report call told ∷ before) legal) s (λ q. refl)
    (λ q x there of. record {
      last = refl;
      verb = refl;
      report = cond-false (q == call.0) (Some told) (report_of before q) (ne_eqb q call.0 (not_own before call.0 q x s there of other));
      aborted = refl;
      tries = refl;
    }) refl refl refl
others_stay (entry_is.Down server) before legal s top is at_top other =
    root_other before (entry_is.Down server ∷ before) (grown_all before legal.0) (grown_all (entry_is.Down server ∷ before) legal) (forest_all before legal.0) (forest_all (entry_is.Down server ∷ before) legal) s other
    (nodes_stay (entry_is.Down server) before legal)
    (λ q differs. down_old server before q differs)
    (λ q x fresh there. sym (ap (λ n. n.root) (same_Some (root_node q (args_are.Crash server) 1) x (sym (down_new server before q fresh) ∙ there))))
    (untouched before (entry_is.Down server ∷ before) (λ p. refl) (λ p. refl) (λ p. refl) (λ p. refl) (λ p. refl)) refl refl refl
others_stay (entry_is.Abort pid) before legal s top is at_top other =
    same_plain before (entry_is.Abort pid ∷ before) (grown_all before legal.0) (grown_all (entry_is.Abort pid ∷ before) legal) (forest_all before legal.0) (forest_all (entry_is.Abort pid ∷ before) legal) s (λ q. refl)
    (λ q x there of. record {
      last = refl;
      verb = refl;
      report = refl;
      aborted = cond-false (q == pid.0) true (is_aborted before q) (ne_eqb q pid.0 (not_own before pid.0 q x s there of other));
      tries = refl;
    }) refl refl refl
others_stay (entry_is.Base part) before legal s top is at_top other = absurd (none-some top (sym (no_node part before legal.1.0 s) ∙ is))
others_stay entry before legal s top is at_top other =
    same_plain before (entry ∷ before) (grown_all before legal.0) (grown_all (entry ∷ before) legal) (forest_all before legal.0) (forest_all (entry ∷ before) legal) s (λ q. refl)
    (λ q x there of. untouched before (entry ∷ before) (λ p. refl) (λ p. refl) (λ p. refl) (λ p. refl) (λ p. refl) q) refl refl refl
