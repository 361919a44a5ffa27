-- The phases after a step or an undo: who is shown anew is shown right, and all others stay.
use Rattle.std.proofs.Common.{◌≡◌, ◌≢◌, ℕ, ◌+◌, ◌<◌, ◌≤◌, ◌&&◌, ◌||◌, ◌==◌, List, [], ◌∷◌, Bool, true, false, not, if◌then◌else◌, Option, Some, None, is_none, is_some, nat_lt, refl, ap, sym, ◌∙◌, subst, inl, inr, ◌⊎◌, arith}
use Rattle.std.proofs.lemmas.Bool.{cases_Bool, cases_eq, cases_lt, cond-false, cond-true, eq-eqb, false≢true, le-ltb, lt-ltb, ne_eqb, true≢false}
use Rattle.std.proofs.lemmas.Option.{same_Some}
use Rattle.hm_names.specs.declared.pid.Pid.{Pid}
use Rattle.hm_data.specs.declared.answer.Cause.{Cause}
use Rattle.hm_data.specs.declared.record.Phase.{Phase}
use Rattle.hm_data.specs.declared.record.Phase.TheVariants as phase_is
use Rattle.hm_model.specs.Answers.{done_with, is_stopped, last_answer}
use Rattle.hm_model.specs.Forest.{Stands}
use Rattle.hm_model.specs.Inputs.{undoes}
use Rattle.hm_model.specs.Journal.{Past}
use Rattle.hm_model.specs.Phase.{all_stopped, cause, children_ended, ended, ended_node, in_tree, is_parent, own_phase, phase, phase_table, rolled_back, root_ended, root_over, stopped_in}
use Rattle.hm_model.specs.Rules.{IsLegal}
use Rattle.hm_model.specs.Tree.{Node, is_top, made, node_of, pid_of}
use Rattle.hm_model.specs.Undo.{is_empty, stack}
use Rattle.hm_model.specs.Waiting.{open_children, open_under}
use Rattle.hm_model.proofs.Forest.{forest_all, rooted_all, top_is_own}
use Rattle.hm_model.proofs.Grown.{grown_all, made_up_to}
use Rattle.hm_model.proofs.Trees.{all_below_at}
use Rattle.hm_model.proofs.Waiting.{children_tell, under_tells}
use Rattle.hm_model.proofs.Small.{top_is}
use Rattle.hm_procedures.specs.Changes.{has_ended, is_rolled_back, is_shown, is_this, is_touched, is_undoing, phase_by, shown_if}
use Rattle.hm_procedures.specs.Kept.{kept_at, kept_in}
use Rattle.hm_procedures.specs.declared.kept.Tracked.{Tracked}
use Rattle.hm_procedures.proofs.Facts.{parent_shown, shown_top, this_parent}

-- a descendant that goes on keeps its tree from being rolled back
from_test : (a b c : Bool) → a ≡ true → b ≡ false → (not a || (b || c)) ≡ true → c ≡ true
from_test true false c ea eb h = h
from_test true true c ea eb h = absurd (true≢false eb)
from_test false b c ea eb h = absurd (false≢true ea)

pub open_keeps : (J : Past) → IsLegal J → (r q : ℕ) (x : Node) → node_of J q ≡ Some x → x.root ≡ r → q ≢ r → is_stopped (last_answer J q) ≡ false → all_stopped J r ≡ false
open_keeps J legal r q x is of differs runs = elim (cases_Bool (all_stopped J r)) [
  | inr off ↦ off
  | inl on ↦
      let few = (made_up_to J (grown_all J legal) q x is).1 in
      absurd (true≢false (sym (from_test (in_tree r (node_of J q)) (q == r) (is_stopped (last_answer J q)) (ap (in_tree r) is ∙ eq-eqb x.root r of) (ne_eqb q r differs) (all_below_at (made J + 1) (stopped_in J r) q on (omega (arith, few)))) ∙ runs))
]

pub unrolled : (J : Past) (r : ℕ) → all_stopped J r ≡ false → rolled_back J r ≡ false
unrolled J r off = ap (λ b. b && is_empty (stack J r)) off

-- in a tree that hasn't failed or isn't rolled back a descendant's phase is its own
pub own_there : (c : Option Cause) (back : Bool) (own : Phase) → (c ≡ None) ⊎ (back ≡ false) → phase_table c back false own ≡ own
own_there None back own h = refl
own_there (Some c) true own h = elim h [ inl e ↦ cc | inr e ↦ cc ]
own_there (Some c) false own h = refl

-- the phase, by what is kept
pub phase_kept : (J : Past) (shown : Phase) (p : ℕ) (node : Node) (r : ℕ) (rolled : Bool) → node.root ≡ r → rolled ≡ rolled_back J r → phase_by (cause J r) rolled (kept_in shown J p node) ≡ phase J p node
phase_kept J shown p node r rolled of is =
    ap (λ b. phase_table (cause J r) b (is_none (parent_shown node.above)) (own_phase (last_answer J p) (open_children J p == 0))) is
    ∙ ap (λ b. phase_table (cause J r) (rolled_back J r) b (own_phase (last_answer J p) (open_children J p == 0))) (shown_top node.above)
    ∙ ap (λ b. phase_table (cause J r) (rolled_back J r) (is_top node.above) (own_phase (last_answer J p) b)) (sym (children_tell J p))
    ∙ ap (λ s. phase_table (cause J s) (rolled_back J s) (is_top node.above) (own_phase (last_answer J p) (children_ended J p))) (sym of)

pub rolled_kept : (J : Past) (r : ℕ) (nothing_left : Bool) → nothing_left ≡ is_empty (stack J r) → ((open_under J r == 0) && nothing_left) ≡ rolled_back J r
rolled_kept J r nothing_left left = ap (λ b. (open_under J r == 0) && b) left ∙ ap (λ b. b && is_empty (stack J r)) (sym (under_tells J r))

-- the parent of a procedure is of its tree
pub parent_is : (J : Past) → IsLegal J → (q : ℕ) (x : Node) → node_of J q ≡ Some x → (p : ℕ) → is_parent p x.above ≡ true → (up : Node) × (node_of J p ≡ Some up) × (up.root ≡ x.root) × (p < q)
parent_is J legal q x is p parent = by x.above refl parent
  where
    by : (above : List ℕ) → x.above ≡ above → is_parent p above ≡ true → (up : Node) × (node_of J p ≡ Some up) × (up.root ≡ x.root) × (p < q)
    by [] e h = absurd (false≢true h)
    by (u ∷ above) e h =
        let s = subst (λ l. Stands J q l x.root) e ((forest_all J legal).stands q x is) in
        let same : u ≡ p = elim (cases_eq u p) [ inl here ↦ here | inr other ↦ absurd (false≢true (sym (ne_eqb u p other) ∙ h)) ] in
        (s.0, ap (node_of J) (sym same) ∙ s.1, s.3, subst (λ n. n < q) same s.4)

-- the phases before an entry, with those of the procedures that it makes
abbrev pub phase_before : Past → ℕ → Node → Phase
phase_before J p node = if nat_lt (made J) p then phase_is.Runnable else phase J p node

-- an entry in the tree of a procedure
pub record IsInTree (J J' : Past) (pid : Pid) (me : Node) : Type 0 where
  pub legal : IsLegal J
  pub legal' : IsLegal J'
  pub is_me : node_of J pid.0 ≡ Some me
  pub old : (p : ℕ) → p ≤ made J → node_of J' p ≡ node_of J p
  pub last : (p : ℕ) → p ≢ pid.0 → last_answer J' p ≡ last_answer J p
  pub children : (p : ℕ) → p ≢ pid.0 → is_parent p me.above ≡ false → children_ended J' p ≡ children_ended J p
  pub before : (cause J me.root ≡ None) ⊎ (rolled_back J me.root ≡ false)
  pub others : (p : ℕ) (node : Node) → node_of J p ≡ Some node → node.root ≢ me.root → phase J' p node ≡ phase J p node
  pub new : (p : ℕ) (node : Node) → made J < p → node_of J' p ≡ Some node → phase J' p node ≡ phase_is.Runnable

or_left : (a b : Bool) → (a || b) ≡ false → (a ≡ false) × (b ≡ false)
or_left false b e = (refl, e)
or_left true b e = absurd (true≢false e)

or_parts : (a b : Bool) → (a || b) ≡ true → (a ≡ true) ⊎ (b ≡ true)
or_parts true b e = inl refl
or_parts false b e = inr e

pub eq_from : (a b : ℕ) → (a == b) ≡ true → a ≡ b
eq_from a b e = elim (cases_eq a b) [ inl same ↦ same | inr other ↦ absurd (false≢true (sym (ne_eqb a b other) ∙ e)) ]

ne_from : (a b : ℕ) → (a == b) ≡ false → a ≢ b
ne_from a b e same = true≢false (sym (eq-eqb a b same) ∙ e)

module _ (J J' : Past) (pid : Pid) (me : Node) (tree : IsInTree J J' pid me) where
  module _ (p : ℕ) (node : Node) (is : node_of J' p ≡ Some node) where
    abbrev its : Tracked
    its = kept_in (phase_before J p node) J' p node

    -- a descendant that isn't touched stays in its phase
    apart : node.root ≡ me.root → is_touched pid (parent_shown me.above) (pid_of me.root) p ≡ false → (cause J' me.root ≡ None) ⊎ (rolled_back J' me.root ≡ false) → (p ≤ made J) → phase J' p node ≡ phase J p node
    apart of untouched after le =
        let a = or_left (pid.0 == p) (is_this (parent_shown me.above) p || (me.root == p)) untouched in
        let b = or_left (is_this (parent_shown me.above) p) (me.root == p) a.1 in
        let not_pid : p ≢ pid.0 = λ e. ne_from pid.0 p a.0 (sym e) in
        let not_parent : is_parent p me.above ≡ false = this_parent me.above p ∙ b.0 in
        let there : node_of J p ≡ Some node = sym (tree.old p le) ∙ is in
        let below : is_top node.above ≡ false = elim (cases_Bool (is_top node.above)) [
          | inr off ↦ off
          | inl on ↦ absurd (ne_from me.root p b.1 (sym of ∙ top_is_own J (forest_all J tree.legal) p node there (top_is node.above on)))
        ] in
        ap (λ t. phase_table (cause J' node.root) (rolled_back J' node.root) t (own_phase (last_answer J' p) (children_ended J' p))) below
        ∙ ap (λ r. phase_table (cause J' r) (rolled_back J' r) false (own_phase (last_answer J' p) (children_ended J' p))) of
        ∙ own_there (cause J' me.root) (rolled_back J' me.root) (own_phase (last_answer J' p) (children_ended J' p)) after
        ∙ ap (λ l. own_phase l (children_ended J' p)) (tree.last p not_pid)
        ∙ ap (own_phase (last_answer J p)) (tree.children p not_pid not_parent)
        ∙ sym (own_there (cause J me.root) (rolled_back J me.root) (own_phase (last_answer J p) (children_ended J p)) tree.before)
        ∙ ap (λ r. phase_table (cause J r) (rolled_back J r) false (own_phase (last_answer J p) (children_ended J p))) (sym of)
        ∙ ap (λ t. phase_table (cause J node.root) (rolled_back J node.root) t (own_phase (last_answer J p) (children_ended J p))) (sym below)

    -- who is not shown anew is right
    stays : (cause J' me.root ≡ None) ⊎ (rolled_back J' me.root ≡ false) → is_touched pid (parent_shown me.above) (pid_of me.root) p ≡ false → phase_before J p node ≡ phase J' p node
    stays after untouched = elim (cases_lt (made J) p) [
      | inl lt ↦ cond-true (nat_lt (made J) p) phase_is.Runnable (phase J p node) (lt-ltb (made J) p lt) ∙ sym (tree.new p node lt is)
      | inr le ↦ cond-false (nat_lt (made J) p) phase_is.Runnable (phase J p node) (le-ltb (made J) p le) ∙ elim (cases_eq node.root me.root) [
        | inl of ↦ sym (apart of untouched after le)
        | inr other ↦ sym (tree.others p node (sym (tree.old p le) ∙ is) other)
      ]
    ]

    -- who belongs to another tree is right
    beside : node.root ≢ me.root → phase_before J p node ≡ phase J' p node
    beside other = elim (cases_lt (made J) p) [
      | inl lt ↦ cond-true (nat_lt (made J) p) phase_is.Runnable (phase J p node) (lt-ltb (made J) p lt) ∙ sym (tree.new p node lt is)
      | inr le ↦ cond-false (nat_lt (made J) p) phase_is.Runnable (phase J p node) (le-ltb (made J) p le) ∙ sym (tree.others p node (sym (tree.old p le) ∙ is) other)
    ]

    -- who is touched is of the tree
    of_tree : is_touched pid (parent_shown me.above) (pid_of me.root) p ≡ true → node.root ≡ me.root
    of_tree touched = elim (or_parts (pid.0 == p) (is_this (parent_shown me.above) p || (me.root == p)) touched) [
      | inl own ↦ ap (λ (n : Node). n.root) (same_Some node me (sym (old_is p node is (eq_from pid.0 p own) me tree.is_me) ∙ ap (node_of J) (sym (eq_from pid.0 p own)) ∙ tree.is_me))
      | inr more ↦ elim (or_parts (is_this (parent_shown me.above) p) (me.root == p) more) [
        | inl parent ↦ (let up = parent_is J tree.legal pid.0 me tree.is_me p (this_parent me.above p ∙ parent) in
            ap (λ (n : Node). n.root) (same_Some node up.0 (sym (there_is p node is up.0 up.1) ∙ up.1)) ∙ up.2)
        | inr root ↦ (let top = rooted_all J tree.legal pid.0 me tree.is_me in
            let here : node_of J p ≡ Some top.root = ap (node_of J) (sym (eq_from me.root p root)) ∙ top.there in
            ap (λ (n : Node). n.root) (same_Some node top.root (sym (there_is p node is top.root here) ∙ here)) ∙ top.own)
      ]
    ]
      where
        there_is : (q : ℕ) (x : Node) → node_of J' q ≡ Some x → (y : Node) → node_of J q ≡ Some y → node_of J q ≡ Some x
        there_is q x now y was = sym (tree.old q (made_up_to J (grown_all J tree.legal) q y was).1) ∙ now

        old_is : (q : ℕ) (x : Node) → node_of J' q ≡ Some x → pid.0 ≡ q → (y : Node) → node_of J pid.0 ≡ Some y → node_of J q ≡ Some x
        old_is q x now same y was = there_is q x now y (ap (node_of J) (sym same) ∙ was)

    -- who is shown anew or not: all are right
    pub shows : (rolled : Bool) → rolled ≡ rolled_back J' me.root
        → shown_if (is_shown (cause J' me.root) rolled pid (parent_shown me.above) (pid_of me.root) p its) (cause J' me.root) rolled its ≡ kept_at J' p node
    shows rolled is_rolled = ap (λ x. kept_in x J' p node) (by (cause J' me.root) rolled refl is_rolled)
      where
        picked : (b : Bool) → (b ≡ true → node.root ≡ me.root) → (b ≡ false → phase_before J p node ≡ phase J' p node) → (if b then phase_by (cause J' me.root) rolled its else phase_before J p node) ≡ phase J' p node
        picked true on off = phase_kept J' (phase_before J p node) p node me.root rolled (on refl) is_rolled
        picked false on off = off refl

        by : (c : Option Cause) (b : Bool) → cause J' me.root ≡ c → b ≡ rolled_back J' me.root → (if is_shown c b pid (parent_shown me.above) (pid_of me.root) p its then phase_by (cause J' me.root) rolled its else phase_before J p node) ≡ phase J' p node
        by None b e same = picked (is_touched pid (parent_shown me.above) (pid_of me.root) p) of_tree (stays (inl e))
        by (Some c) true e same = picked (node.root == me.root) (eq_from node.root me.root) (λ off. beside (ne_from node.root me.root off))
        by (Some c) false e same = picked (is_touched pid (parent_shown me.above) (pid_of me.root) p) of_tree (stays (inr (sym same)))

-- what is kept tells who has ended
pub ended_kept : (J : Past) → IsLegal J → (p : ℕ) (node : Node) → node_of J p ≡ Some node → has_ended (kept_at J p node) ≡ ended J p
ended_kept J legal p node is = by (is_top node.above) refl ∙ sym (ap (ended_node J p) is)
  where
    over : (c : Option Cause) (rolled : Bool) (own : Phase) (told : Option _) → root_over c (is_rolled_back (phase_table c rolled true own)) told ≡ root_over c rolled told
    over None rolled own told = refl
    over (Some c) true own told = refl
    over (Some c) false own told = refl

    by : (b : Bool) → is_top node.above ≡ b → has_ended (kept_at J p node) ≡ (if is_top node.above then root_ended J p else is_stopped (last_answer J p))
    by false e =
        ap (λ b. if b then root_over (cause J p) (is_rolled_back (phase J p node)) (done_with (last_answer J p)) else is_stopped (last_answer J p)) (shown_top node.above ∙ e)
        ∙ ap (λ b. if b then root_ended J p else is_stopped (last_answer J p)) (sym e)
    by true e =
        let own = top_is_own J (forest_all J legal) p node is (top_is node.above e) in
        let in_phase : phase J p node ≡ phase_table (cause J p) (rolled_back J p) true (own_phase (last_answer J p) (children_ended J p)) =
        ap (λ r. phase_table (cause J r) (rolled_back J r) (is_top node.above) (own_phase (last_answer J p) (children_ended J p))) own ∙ ap (λ t. phase_table (cause J p) (rolled_back J p) t (own_phase (last_answer J p) (children_ended J p))) e in
        ap (λ b. if b then root_over (cause J p) (is_rolled_back (phase J p node)) (done_with (last_answer J p)) else is_stopped (last_answer J p)) (shown_top node.above ∙ e)
        ∙ ap (λ x. root_over (cause J p) (is_rolled_back x) (done_with (last_answer J p))) in_phase
        ∙ over (cause J p) (rolled_back J p) (own_phase (last_answer J p) (children_ended J p)) (done_with (last_answer J p))
        ∙ ap (λ b. if b then root_ended J p else is_stopped (last_answer J p)) (sym e)

-- and who undoes
pub undoes_kept : (J : Past) → IsLegal J → (p : ℕ) (node : Node) → node_of J p ≡ Some node → is_undoing (kept_at J p node) ≡ undoes J p node
undoes_kept J legal p node is =
    ap (λ b. b && (is_some (cause J p) && ((open_under J p == 0) && not (is_rolled_back (phase J p node))))) (shown_top node.above)
    ∙ ap (λ b. is_top node.above && (is_some (cause J p) && (b && not (is_rolled_back (phase J p node))))) (sym (under_tells J p))
    ∙ by (is_top node.above) refl
  where
    left : (c : Option Cause) (stopped empty : Bool) (own : Phase) → (is_some c && (stopped && not (is_rolled_back (phase_table c (stopped && empty) true own)))) ≡ (is_some c && (stopped && not empty))
    left None stopped empty own = refl
    left (Some c) false empty own = refl
    left (Some c) true true own = refl
    left (Some c) true false own = refl

    by : (b : Bool) → is_top node.above ≡ b → (is_top node.above && (is_some (cause J p) && (all_stopped J p && not (is_rolled_back (phase J p node))))) ≡ undoes J p node
    by false e = ap (λ b. b && (is_some (cause J p) && (all_stopped J p && not (is_rolled_back (phase J p node))))) e ∙ sym (ap (λ b. b && (is_some (cause J p) && (all_stopped J p && not (is_empty (stack J p))))) e)
    by true e =
        let own = top_is_own J (forest_all J legal) p node is (top_is node.above e) in
        let in_phase : phase J p node ≡ phase_table (cause J p) (rolled_back J p) true (own_phase (last_answer J p) (children_ended J p)) =
        ap (λ r. phase_table (cause J r) (rolled_back J r) (is_top node.above) (own_phase (last_answer J p) (children_ended J p))) own ∙ ap (λ t. phase_table (cause J p) (rolled_back J p) t (own_phase (last_answer J p) (children_ended J p))) e in
        ap (λ x. is_top node.above && (is_some (cause J p) && (all_stopped J p && not (is_rolled_back x)))) in_phase
        ∙ ap (λ b. is_top node.above && b) (left (cause J p) (all_stopped J p) (is_empty (stack J p)) (own_phase (last_answer J p) (children_ended J p)))
