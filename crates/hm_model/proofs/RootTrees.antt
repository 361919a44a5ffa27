-- Roots of trees: each procedure has one, one that isn't there has no tree, and the tree of one that has ended stands still.
use Rattle.std.proofs.Common.{◌≡◌, ◌≢◌, ℕ, ◌+◌, [], ◌∷◌, length, Bool, true, false, ◌||◌, ◌==◌, nat_lt, nat_le, Option, Some, None, is_some, refl, ap, sym, ◌∙◌, arith, inl, inr}
use Rattle.std.proofs.lemmas.Bool.{and_parts, cases_Bool, cases_eq, cond-false, cond-true, eq-eqb, leb-true, ltb-true, ne_eqb, or_from, true≢false}
use Rattle.std.proofs.lemmas.Option.{none-some}
use Rattle.hm_names.specs.Server.{Server}
use Rattle.hm_names.specs.declared.pid.Pid.{Pid}
use Rattle.hm_data.specs.declared.answer.Cause.{Cause}
use Rattle.hm_data.specs.declared.call.Told.{Told}
use Rattle.hm_data.specs.declared.entry.Entry.{Entry}
use Rattle.hm_data.specs.declared.entry.Entry.TheVariants as entry_is
use Rattle.hm_data.specs.declared.step.StepOut.{StepOut}
use Rattle.hm_model.specs.Answers.{done_with, is_stopped, last_answer}
use Rattle.hm_model.specs.Counts.{one_if}
use Rattle.hm_model.specs.Entries.{entries_of, makes}
use Rattle.hm_model.specs.Journal.{Past}
use Rattle.hm_model.specs.Phase.{all_stopped, cause, in_tree, rolled_back, root_ended, root_over, stopped_in}
use Rattle.hm_model.specs.Rules.{IsLegal}
use Rattle.hm_model.specs.Tree.{Node, args_in, made, node_of, root_in, root_of}
use Rattle.hm_model.specs.Undo.{is_empty, stack}
use Rattle.hm_model.proofs.Forest.{rooted_all, roots_wait}
use Rattle.hm_model.proofs.Grown.{grown_all as made_all, nodes_stay}
use Rattle.hm_model.proofs.Trees.{grown_all, is_there, some_of, all_below_at}
use Rattle.hm_model.proofs.Small.{from_test}

pub zero_if_false : (b : Bool) (n : ℕ) → b ≡ false → n + one_if b ≡ n
zero_if_false b n off = ap (λ x. n + one_if x) off ∙ omega arith

-- a procedure is of the tree of a root that is there
pub tree_root : (J : Past) → IsLegal J → (q : ℕ) (x : Node) → node_of J q ≡ Some x → (top : Node) × (node_of J x.root ≡ Some top) × (top.above ≡ []) × (top.root ≡ x.root)
tree_root J legal q x is = let h = rooted_all J legal q x is in (h.root, h.there, h.at_top, h.own)

pub of_tree : (J : Past) → IsLegal J → (q : ℕ) (x : Node) → node_of J q ≡ Some x → (r : ℕ) → x.root ≡ r → node_of J r ≡ None → ⊥
of_tree J legal q x is r of none = let t = tree_root J legal q x is in none-some t.0 (sym none ∙ ap (node_of J) (sym of) ∙ t.1)

-- whose root is there isn't of the tree of one that isn't
not_of : (J : Past) → IsLegal J → (q : ℕ) (x : Node) → node_of J q ≡ Some x → (r : ℕ) → node_of J r ≡ None → (root_of J q == r) ≡ false
not_of J legal q x is r none = ne_eqb (root_of J q) r (λ e. of_tree J legal q x is r (ap root_in (sym is) ∙ e) none)

pub step_root : (pid : Pid) (pick : Option Server) (out : StepOut) (J : Past) (legal : IsLegal (entry_is.Step pid pick out ∷ J)) → (me : Node) × (node_of J pid.0 ≡ Some me)
step_root pid pick out J legal = let may = legal.1.1.0 in (may.0, may.1)

-- an undo is of a root that is there
pub undo_root : (pid : Pid) (row : ℕ) (out : StepOut) (J : Past) (legal : IsLegal (entry_is.Undo pid row out ∷ J)) → (top : Node) × (node_of J (root_of J pid.0) ≡ Some top)
undo_root pid row out J legal = let latest = legal.1.1.0 in (latest.0, latest.1)

pub call_root : (call : Pid) (told : Told) (J : Past) (legal : IsLegal (entry_is.Report call told ∷ J)) → (me : Node) × (node_of J call.0 ≡ Some me)
call_root call told J legal =
    let verb = some_of _ legal.1.1.0.0 in
    let v = (grown_all J legal.0).verbs call.0 verb.0 verb.1 in
    (v.0, v.1)

unmade_before : (entry : Entry) (J : Past) → IsLegal (entry ∷ J) → (r : ℕ) → node_of (entry ∷ J) r ≡ None → node_of J r ≡ None
unmade_before entry J legal r none = by (node_of J r) refl
  where
    by : (o : Option Node) → node_of J r ≡ o → o ≡ None
    by None e = refl
    by (Some x) e = absurd (none-some x (sym none ∙ nodes_stay entry J legal r x e))

-- who isn't there is no follower of an undo
unmade_follower : (pid : Pid) (row : ℕ) (out : StepOut) (J : Past) → IsLegal (entry_is.Undo pid row out ∷ J) → (r : ℕ) → node_of (entry_is.Undo pid row out ∷ J) r ≡ None → makes J out.followers r ≡ false
unmade_follower pid row out J legal r none = elim (cases_Bool (makes J out.followers r)) [
  | inr off ↦ off
  | inl on ↦
      let p = and_parts (nat_lt (made J) r) (nat_le r (made J + length (args_in out.followers))) on in
      let lt = ltb-true (made J) r p.0 in
      let le = leb-true r (made J + length (args_in out.followers)) p.1 in
      let low = (made_all J legal.0).low in
      let there = (made_all (entry_is.Undo pid row out ∷ J) legal).there r (omega (arith, lt, low)) le in
      absurd (none-some there.0 (sym none ∙ there.1))
]

-- who isn't there has no tree
pub record IsAbsent (J : Past) (r : ℕ) : Type 0 where
  pub caused : cause J r ≡ None
  pub stacked : stack J r ≡ []
  pub entries : entries_of J r ≡ 0

pub absent_all : (J : Past) → IsLegal J → (r : ℕ) → node_of J r ≡ None → IsAbsent J r
absent_all [] legal r none = record { caused = refl; stacked = refl; entries = refl }
absent_all (entry_is.Submit nonce request ∷ J) legal r none =
    let a = absent_all J legal.0 r (unmade_before (entry_is.Submit nonce request) J legal r none) in
    record {
      caused = a.caused;
      stacked = a.stacked;
      entries = elim (cases_eq r (made J + 1)) [
        | inl new ↦ absurd (none-some _ (sym none ∙ cond-true (r == made J + 1) _ (node_of J r) (eq-eqb r (made J + 1) new)))
        | inr old ↦ zero_if_false (r == made J + 1) (entries_of J r) (ne_eqb r (made J + 1) old) ∙ a.entries
      ];
    }
absent_all (entry_is.Step pid pick out ∷ J) legal r none =
    let was = unmade_before (entry_is.Step pid pick out) J legal r none in
    let a = absent_all J legal.0 r was in
    let me = step_root pid pick out J legal in
    let off = not_of J legal.0 pid.0 me.0 me.1 r was in
    record {
      caused = cond-false (root_of J pid.0 == r) _ (cause J r) off ∙ a.caused;
      stacked = cond-false (root_of J pid.0 == r) _ (stack J r) off ∙ a.stacked;
      entries = zero_if_false (root_of J pid.0 == r) (entries_of J r) off ∙ a.entries;
    }
absent_all (entry_is.Undo pid row out ∷ J) legal r none =
    let was = unmade_before (entry_is.Undo pid row out) J legal r none in
    let a = absent_all J legal.0 r was in
    let top = undo_root pid row out J legal in
    let off : (root_of J pid.0 == r) ≡ false = ne_eqb (root_of J pid.0) r (λ e. none-some top.0 (sym was ∙ ap (node_of J) (sym e) ∙ top.1)) in
    record {
      caused = a.caused;
      stacked = cond-false (root_of J pid.0 == r) _ (stack J r) off ∙ a.stacked;
      entries = zero_if_false ((root_of J pid.0 == r) || makes J out.followers r) (entries_of J r) (or_from (root_of J pid.0 == r) (makes J out.followers r) off (unmade_follower pid row out J legal r none)) ∙ a.entries;
    }
absent_all (entry_is.Report call told ∷ J) legal r none =
    let a = absent_all J legal.0 r none in
    let me = call_root call told J legal in
    record { caused = a.caused; stacked = a.stacked; entries = zero_if_false (root_of J call.0 == r) (entries_of J r) (not_of J legal.0 call.0 me.0 me.1 r none) ∙ a.entries }
absent_all (entry_is.Down server ∷ J) legal r none =
    let a = absent_all J legal.0 r (unmade_before (entry_is.Down server) J legal r none) in
    record {
      caused = a.caused;
      stacked = a.stacked;
      entries = elim (cases_eq r (made J + 1)) [
        | inl new ↦ absurd (none-some _ (sym none ∙ cond-true (r == made J + 1) _ (node_of J r) (eq-eqb r (made J + 1) new)))
        | inr old ↦ zero_if_false (r == made J + 1) (entries_of J r) (ne_eqb r (made J + 1) old) ∙ a.entries
      ];
    }
absent_all (entry_is.Base part ∷ J) legal r none = record { caused = refl; stacked = refl; entries = refl }
absent_all (entry ∷ J) legal r none = let a = absent_all J legal.0 r none in record { caused = a.caused; stacked = a.stacked; entries = a.entries }

-- without a cause a root has ended where it is done
pub ended_by : (J : Past) (r : ℕ) → cause J r ≡ None → root_ended J r ≡ is_some (done_with (last_answer J r))
ended_by J r none = ap (λ c. root_over c (rolled_back J r) (done_with (last_answer J r))) none

-- a tree whose root has ended has no procedure that can go on
pub over_stopped : (J : Past) → IsLegal J → (r : ℕ) (top : Node) → node_of J r ≡ Some top → top.above ≡ [] → root_ended J r ≡ true → (q : ℕ) (x : Node) → node_of J q ≡ Some x → x.root ≡ r → q ≢ r → is_stopped (last_answer J q) ≡ true
over_stopped J legal r top is at_top over q x at of differs = elim (cases_Bool (is_stopped (last_answer J q))) [
  | inl on ↦ on
  | inr runs ↦ absurd (by (cause J r) refl runs)
]
  where
    by : (c : Option Cause) → cause J r ≡ c → is_stopped (last_answer J q) ≡ false → ⊥
    by None e runs =
        let w = roots_wait J legal q x at (λ none. differs (sym ((grown_all J legal).tops q x at none) ∙ of)) runs in
        true≢false (sym over ∙ ended_by J r e ∙ ap (λ o. is_some (done_with o)) (ap (last_answer J) (sym of) ∙ w.1))
    by (Some c) e runs =
        let rolled : rolled_back J r ≡ true = ap (λ o. root_over o (rolled_back J r) (done_with (last_answer J r))) (sym e) ∙ over in
        let all = (and_parts (all_stopped J r) (is_empty (stack J r)) rolled).0 in
        let le = is_there J (grown_all J legal) q x at in
        let here = all_below_at (made J + 1) (stopped_in J r) q all (omega (arith, le)) in
        true≢false (sym (from_test (in_tree r (node_of J q)) (q == r) (is_stopped (last_answer J q)) (ap (in_tree r) at ∙ eq-eqb x.root r of) (ne_eqb q r differs) here) ∙ runs)
