-- How many children and descendants haven't ended.
use Rattle.hm_model.specs.Base.{PartFits}
use Rattle.hm_data.specs.declared.part.Part.{Part}
use Rattle.hm_model.proofs.Parted.{by_parts, count_none}
use Rattle.std.proofs.Common.{Bool, None, Option, Some, [], ap, arith, false, if◌then◌else◌, inl, inr, length, not, refl, slice_get, suc, sym, true, zero, ℕ, ◌&&◌, ◌+◌, ◌-◌, ◌<◌, ◌==◌, ◌||◌, ◌∙◌, ◌∷◌, ◌≡◌, ◌≢◌, ◌≤◌}
use Rattle.std.specs.Option.{option_map}
use Rattle.std.proofs.lemmas.Bool.{and_left, cases_eq, ne_eqb}
use Rattle.std.proofs.lemmas.Option.{none-some, same_Some}
use Rattle.hm_data.specs.declared.args.Args.{Args}
use Rattle.hm_data.specs.declared.args.Args.TheVariants as args_are
use Rattle.hm_data.specs.declared.entry.Entry.{Entry}
use Rattle.hm_data.specs.declared.entry.Entry.TheVariants as entry_is
use Rattle.hm_data.specs.declared.request.Request.{Request}
use Rattle.hm_data.specs.declared.step.StepOut.{StepOut}
use Rattle.hm_names.specs.Server.{Server}
use Rattle.hm_names.specs.declared.nonce.Nonce.{Nonce}
use Rattle.hm_names.specs.declared.pid.Pid.{Pid}
use Rattle.hm_model.specs.Answers.{is_stop, is_stopped, last_answer}
use Rattle.hm_model.specs.Counts.{count_below, one_if}
use Rattle.hm_model.specs.Journal.{Past}
use Rattle.hm_model.specs.Laws.{IsGrown}
use Rattle.hm_model.specs.Phase.{all_below, all_stopped, child_in, children_ended, in_tree, is_parent, stopped_in}
use Rattle.hm_model.specs.Rules.{IsLegal}
use Rattle.hm_model.specs.Tree.{Node, args_in, child_of, made, node_of, root_node, submitted}
use Rattle.hm_model.specs.Waiting.{added, ends_one, is_open_child, is_open_under, open_children, open_under}
use Rattle.hm_model.proofs.Apart.{child_is}
use Rattle.hm_model.proofs.Counting.{count_same}
use Rattle.hm_model.proofs.Forest.{rooted_all}
use Rattle.hm_model.proofs.Grown.{down_new, down_old, grown_all, made_up_to, not_stepped, step_new, step_old, stepped, submit_new, submit_old, undo_new, undo_old}
use Rattle.hm_model.proofs.Trees.{grown_all as trees_all, step_of}
use Rattle.hm_model.proofs.LegalSteps.{ready_stops}
use Rattle.std.proofs.Math.Bool.{and-true, and_assoc, not-not}

-- none is counted exactly where each passes the other test
none_counted : (n : ℕ) (all some : ℕ → Bool) → ((q : ℕ) → some q ≡ not (all q)) → all_below n all ≡ (count_below some n == 0)
none_counted zero all some each = refl
none_counted (suc n) all some each = ap (λ b. b && all_below n all) (sym (not-not (all n)) ∙ ap not (sym (each n))) ∙ by (some n) (count_below some n) (all_below n all) (none_counted n all some each)
  where
    by : (b : Bool) (rest : ℕ) (a : Bool) → a ≡ (rest == 0) → (not b && a) ≡ (rest + one_if b == 0)
    by true rest a e = sym (ne_eqb (rest + 1) 0 (λ h. omega (arith, h)))
    by false rest a e = e ∙ ap (λ n. n == 0) {x = rest} {y = rest + 0} (omega arith)

pub children_tell : (J : Past) (p : ℕ) → children_ended J p ≡ (open_children J p == 0)
children_tell J p = none_counted (made J + 1) (λ q. not (child_in p (node_of J q)) || is_stopped (last_answer J q)) (is_open_child J p) (λ q. by (child_in p (node_of J q)) (is_stopped (last_answer J q)))
  where
    by : (a b : Bool) → (a && not b) ≡ not (not a || b)
    by true b = refl
    by false b = refl

pub under_tells : (J : Past) (r : ℕ) → all_stopped J r ≡ (open_under J r == 0)
under_tells J r = none_counted (made J + 1) (stopped_in J r) (is_open_under J r) (λ q. by (in_tree r (node_of J q)) (q == r) (is_stopped (last_answer J q)))
  where
    by : (a b c : Bool) → (a && (not b && not c)) ≡ not (not a || (b || c))
    by true true c = refl
    by true false c = refl
    by false b c = refl

-- more numbers that all pass the test, or none of them
count_more : (m n : ℕ) (test : ℕ → Bool) (b : Bool) → ((q : ℕ) → n ≤ q → q < n + m → test q ≡ b) → count_below test (n + m) ≡ count_below test n + (if b then m else 0)
count_more zero n test b each =
    let e : n + 0 ≡ n = omega arith in
    ap (count_below test) e ∙ none b
  where
    none : (b : Bool) → count_below test n ≡ count_below test n + (if b then 0 else 0)
    none true = omega arith
    none false = omega arith
count_more (suc m) n test b each =
    let e : n + suc m ≡ suc (n + m) = omega arith in
    let rest = count_more m n test b (λ q ge lt. each q ge (omega (arith, lt))) in
    ap (count_below test) e ∙ by b rest (ap one_if (each (n + m) (omega arith) (omega arith)))
  where
    by : (b : Bool) → count_below test (n + m) ≡ count_below test n + (if b then m else 0) → one_if (test (n + m)) ≡ one_if b → count_below test (suc (n + m)) ≡ count_below test n + (if b then suc m else 0)
    by true rest here = omega (arith, rest, here)
    by false rest here = omega (arith, rest, here)

-- one test that one number leaves, where it ends
count_ends : (n : ℕ) (one other : ℕ → Bool) (p : ℕ) (ends : Bool) → p < n → ((q : ℕ) → q < n → q ≢ p → other q ≡ one q) → other p ≡ (one p && not ends) → count_below other n + one_if (one p && ends) ≡ count_below one n
count_ends zero one other p ends lt same own = absurd (omega (arith, lt))
count_ends (suc n) one other p ends lt same own = elim (cases_eq p n) [
  | inl here ↦
      let rest = count_same n other one (λ q l. same q (omega (arith, l)) (λ e. omega (arith, l, e, here))) in
      let last : one_if (other n) + one_if (one p && ends) ≡ one_if (one n) = ap (λ b. one_if b + one_if (one p && ends)) (ap other (sym here) ∙ own) ∙ by (one p) ends ∙ ap (λ q. one_if (one q)) here in
      omega (arith, rest, last)
  | inr differs ↦
      let rest = count_ends n one other p ends (omega (arith, lt, differs)) (λ q l. same q (omega (arith, l))) own in
      let here : one_if (other n) ≡ one_if (one n) = ap one_if (same n (omega arith) (λ e. differs (sym e))) in
      omega (arith, rest, here)
]
  where
    by : (a b : Bool) → one_if (a && not b) + one_if (a && b) ≡ one_if a
    by true true = refl
    by true false = refl
    by false b = refl

-- more roots, which no count counts
module _ (J J' : Past) (m : ℕ) (made_is : made J' ≡ made J + m) (one other : ℕ → Bool) (old : (q : ℕ) → q ≤ made J → other q ≡ one q) (new : (q : ℕ) → made J < q → q ≤ made J + m → other q ≡ false) where
  count_still : count_below other (made J' + 1) ≡ count_below one (made J + 1)
  count_still =
      let place : made J' + 1 ≡ made J + 1 + m = omega (arith, made_is) in
      let more = count_more m (made J + 1) other false (λ q ge lt. new q (omega (arith, ge)) (omega (arith, lt))) in
      let same = count_same (made J + 1) other one (λ q lt. old q (omega (arith, lt))) in
      ap (count_below other) place ∙ omega (arith, more, same)

-- a step: its children are counted where it is of those whose children are
module _ (pid : Pid) (pick : Option Server) (out : StepOut) (before : Past) (legal : IsLegal (entry_is.Step pid pick out ∷ before)) where
  abbrev after : Past
  after = entry_is.Step pid pick out ∷ before

  grown : IsGrown before
  grown = grown_all before legal.0

  abbrev me : Node
  me = legal.1.1.0.0

  is_me : node_of before pid.0 ≡ Some me
  is_me = legal.1.1.0.1

  ran : is_stopped (last_answer before pid.0) ≡ false
  ran = let step = step_of pid pick out before (trees_all before legal.0) legal in ready_stops before pid.0 step.node (last_answer before pid.0) step.ready

  low : pid.0 < made before + 1
  low = let few = (made_up_to before grown pid.0 me is_me).1 in omega (arith, few)

  new_child : (q : ℕ) → made before < q → q ≤ made before + length (args_in out.children) → (a : Args) × (node_of after q ≡ Some (child_of pid.0 me a)) × (last_answer after q ≡ None)
  new_child q lt le =
      let few = grown.low in
      let there = (grown_all after legal).there q (omega (arith, lt, few)) le in
      let c = child_is pid.0 (node_of before pid.0) (slice_get (args_in out.children) (q - made before - 1)) there.0 (sym (step_new pid pick out before q lt) ∙ there.1) in
      let own : c.0 ≡ me = same_Some c.0 me (sym c.2 ∙ is_me) in
      let differs : q ≢ pid.0 = λ e. omega (arith, e, low, lt) in (
        c.1,
        there.1 ∙ ap Some (c.4 ∙ ap (λ n. child_of pid.0 n c.1) own),
        not_stepped pid pick out before q differs ∙ grown.unmade q (grown.numbered q lt),
      )

  module _ (one other : ℕ → Bool) (b : Bool) (same : (q : ℕ) → q ≤ made before → q ≢ pid.0 → other q ≡ one q) (own : other pid.0 ≡ (one pid.0 && not (is_stop out.answer))) (new : (q : ℕ) → made before < q → q ≤ made before + length (args_in out.children) → other q ≡ b) where
    count_step : count_below other (made after + 1) + one_if (one pid.0 && is_stop out.answer) ≡ count_below one (made before + 1) + (if b then length (args_in out.children) else 0)
    count_step =
        let place : made after + 1 ≡ made before + 1 + length (args_in out.children) = omega arith in
        let more = count_more (length (args_in out.children)) (made before + 1) other b (λ q ge lt. new q (omega (arith, ge)) (omega (arith, lt))) in
        let ends = count_ends (made before + 1) one other pid.0 (is_stop out.answer) low (λ q lt differs. same q (omega (arith, lt)) differs) own in
        ap (λ n. count_below other n + one_if (one pid.0 && is_stop out.answer)) place ∙ omega (arith, more, ends)

  parts_own : (a : Bool) → (a && not (is_stop out.answer)) ≡ ((a && not (is_stopped (last_answer before pid.0))) && not (is_stop out.answer))
  parts_own a = ap (λ b. b && not (is_stop out.answer)) (sym (and-true a) ∙ ap (λ s. a && not s) (sym ran))

  parts_end : (a : Bool) → ((a && not (is_stopped (last_answer before pid.0))) && is_stop out.answer) ≡ (a && is_stop out.answer)
  parts_end a = ap (λ b. b && is_stop out.answer) (ap (λ s. a && not s) ran ∙ and-true a)

  here : node_of after pid.0 ≡ node_of before pid.0
  here = step_old pid pick out before pid.0 (made_up_to before grown pid.0 me is_me).1

  children_step : (p : ℕ) → open_children after p + one_if (child_in p (node_of before pid.0) && is_stop out.answer) ≡ open_children before p + (if pid.0 == p then length (args_in out.children) else 0)
  children_step p =
      ap (λ b. open_children after p + one_if b) (sym (parts_end (child_in p (node_of before pid.0))))
      ∙ count_step (is_open_child before p) (is_open_child after p) (pid.0 == p)
      (λ q le differs. ap (λ o. child_in p o && not (is_stopped (last_answer after q))) (step_old pid pick out before q le) ∙ ap (λ l. child_in p (node_of before q) && not (is_stopped l)) (not_stepped pid pick out before q differs))
      (ap (λ o. child_in p o && not (is_stopped (last_answer after pid.0))) here ∙ ap (λ l. child_in p (node_of before pid.0) && not (is_stopped l)) (stepped pid pick out before) ∙ parts_own (child_in p (node_of before pid.0)))
      (λ q lt le. let c = new_child q lt le in ap (λ o. child_in p o && not (is_stopped (last_answer after q))) c.1 ∙ ap (λ l. (pid.0 == p) && not (is_stopped l)) c.2 ∙ and-true (pid.0 == p))

  under_step : (r : ℕ) → open_under after r + one_if ((in_tree r (node_of before pid.0) && not (pid.0 == r)) && is_stop out.answer) ≡ open_under before r + (if in_tree r (node_of before pid.0) then length (args_in out.children) else 0)
  under_step r =
      ap (λ b. open_under after r + one_if b) (sym (parts_end (in_tree r (node_of before pid.0) && not (pid.0 == r))) ∙ ap (λ b. b && is_stop out.answer) (and_assoc (in_tree r (node_of before pid.0)) (not (pid.0 == r)) (not (is_stopped (last_answer before pid.0)))))
      ∙ count_step (is_open_under before r) (is_open_under after r) (in_tree r (node_of before pid.0))
      (λ q le differs. ap (λ o. in_tree r o && (not (q == r) && not (is_stopped (last_answer after q)))) (step_old pid pick out before q le) ∙ ap (λ l. in_tree r (node_of before q) && (not (q == r) && not (is_stopped l))) (not_stepped pid pick out before q differs))
      (ap (λ o. in_tree r o && (not (pid.0 == r) && not (is_stopped (last_answer after pid.0)))) here
      ∙ ap (λ l. in_tree r (node_of before pid.0) && (not (pid.0 == r) && not (is_stopped l))) (stepped pid pick out before)
      ∙ sym (and_assoc (in_tree r (node_of before pid.0)) (not (pid.0 == r)) (not (is_stop out.answer)))
      ∙ parts_own (in_tree r (node_of before pid.0) && not (pid.0 == r))
      ∙ ap (λ b. b && not (is_stop out.answer)) (and_assoc (in_tree r (node_of before pid.0)) (not (pid.0 == r)) (not (is_stopped (last_answer before pid.0)))))
      (λ q lt le.
      let c = new_child q lt le in
      ap (λ o. in_tree r o && (not (q == r) && not (is_stopped (last_answer after q)))) c.1
      ∙ ap (λ l. (me.root == r) && (not (q == r) && not (is_stopped l))) c.2
      ∙ apart q lt
      ∙ ap (in_tree r) (sym is_me))
    where
      -- a new child isn't the root of its tree
      apart : (q : ℕ) → made before < q → ((me.root == r) && (not (q == r) && true)) ≡ (me.root == r)
      apart q lt = elim (cases_eq me.root r) [
        | inl of ↦
            let root = rooted_all before legal.0 pid.0 me is_me in
            let few = (made_up_to before grown me.root root.root root.there).1 in
            let differs : q ≢ r = λ e. omega (arith, lt, few, of, e) in
            ap (λ b. (me.root == r) && (not b && true)) (ne_eqb q r differs) ∙ and-true (me.root == r)
        | inr other ↦ ap (λ b. b && (not (q == r) && true)) (ne_eqb me.root r other) ∙ sym (ne_eqb me.root r other)
      ]

-- a new root is no child, and no descendant
no_child : (p : ℕ) (x : Node) → x.above ≡ [] → is_parent p x.above ≡ false
no_child p x e = ap (is_parent p) e

under_root : (q r : ℕ) (root : ℕ) (c : Bool) → root ≡ q → ((root == r) && (not (q == r) && c)) ≡ false
under_root q r root c e = ap (λ n. (n == r) && (not (q == r) && c)) e ∙ by (q == r) c
  where
    by : (a b : Bool) → (a && (not a && b)) ≡ false
    by true b = refl
    by false b = refl

-- an entry that makes roots alone
abbrev MakesRoots : Past → Past → ℕ → Type 0
MakesRoots J J' m =
    (made J' ≡ made J + m)
    × ((q : ℕ) → q ≤ made J → node_of J' q ≡ node_of J q)
    × ((q : ℕ) → made J < q → (x : Node) → node_of J' q ≡ Some x → (x.above ≡ []) × (x.root ≡ q))
    × ((q : ℕ) → last_answer J' q ≡ last_answer J q)

module _ (J J' : Past) (m : ℕ) (makes : MakesRoots J J' m) where
  new_no_child : (p q : ℕ) → made J < q → is_open_child J' p q ≡ false
  new_no_child p q lt = by (node_of J' q) refl
    where
      by : (o : Option Node) → node_of J' q ≡ o → (child_in p o && not (is_stopped (last_answer J' q))) ≡ false
      by None e = refl
      by (Some x) e = and_left (is_parent p x.above) (not (is_stopped (last_answer J' q))) (no_child p x (makes.2 q lt x e).0)

  new_not_under : (r q : ℕ) → made J < q → is_open_under J' r q ≡ false
  new_not_under r q lt = by (node_of J' q) refl
    where
      by : (o : Option Node) → node_of J' q ≡ o → (in_tree r o && (not (q == r) && not (is_stopped (last_answer J' q)))) ≡ false
      by None e = refl
      by (Some x) e = under_root q r x.root (not (is_stopped (last_answer J' q))) (makes.2 q lt x e).1

  children_still : (p : ℕ) → open_children J' p ≡ open_children J p
  children_still p =
      count_still J J' m makes.0 (is_open_child J p) (is_open_child J' p)
      (λ q le. ap (λ o. child_in p o && not (is_stopped (last_answer J' q))) (makes.1 q le) ∙ ap (λ l. child_in p (node_of J q) && not (is_stopped l)) (makes.3 q))
      (λ q lt le. new_no_child p q lt)

  under_still : (r : ℕ) → open_under J' r ≡ open_under J r
  under_still r =
      count_still J J' m makes.0 (is_open_under J r) (is_open_under J' r)
      (λ q le. ap (λ o. in_tree r o && (not (q == r) && not (is_stopped (last_answer J' q)))) (makes.1 q le) ∙ ap (λ l. in_tree r (node_of J q) && (not (q == r) && not (is_stopped l))) (makes.3 q))
      (λ q lt le. new_not_under r q lt)

-- nothing is made
plain_makes : (J J' : Past) → IsGrown J → made J' ≡ made J → ((q : ℕ) → node_of J' q ≡ node_of J q) → ((q : ℕ) → last_answer J' q ≡ last_answer J q) → MakesRoots J J' 0
plain_makes J J' grown made_is nodes lasts = (omega (arith, made_is), λ q le. nodes q, λ q lt x e. absurd (none-some x (sym (nodes q ∙ grown.numbered q lt) ∙ e)), lasts)

submit_makes : (nonce : Nonce) (request : Request) (before : Past) → IsGrown before → MakesRoots before (entry_is.Submit nonce request ∷ before) 1
submit_makes nonce request before grown = (
  refl,
  λ q le. submit_old nonce request before q (λ e. omega (arith, le, e)),
  λ q lt x is. elim (cases_eq q (made before + 1)) [
    | inl new ↦ (let e = same_Some (submitted before request q) x (sym (submit_new nonce request before q new) ∙ is) in (ap (λ n. n.above) (sym e), ap (λ n. n.root) (sym e)))
    | inr old ↦ absurd (none-some x (sym (submit_old nonce request before q old ∙ grown.numbered q lt) ∙ is))
  ],
  λ q. refl,
)

down_makes : (server : Server) (before : Past) → IsGrown before → MakesRoots before (entry_is.Down server ∷ before) 1
down_makes server before grown = (
  refl,
  λ q le. down_old server before q (λ e. omega (arith, le, e)),
  λ q lt x is. elim (cases_eq q (made before + 1)) [
    | inl new ↦ (let e = same_Some (root_node q (args_are.Crash server) 1) x (sym (down_new server before q new) ∙ is) in (ap (λ n. n.above) (sym e), ap (λ n. n.root) (sym e)))
    | inr old ↦ absurd (none-some x (sym (down_old server before q old ∙ grown.numbered q lt) ∙ is))
  ],
  λ q. refl,
)

undo_makes : (pid : Pid) (row : ℕ) (out : StepOut) (before : Past) → MakesRoots before (entry_is.Undo pid row out ∷ before) (length (args_in out.followers))
undo_makes pid row out before = (
  refl,
  undo_old pid row out before,
  λ q lt x is. by q x (slice_get (args_in out.followers) (q - made before - 1)) (sym (undo_new pid row out before q lt) ∙ is),
  λ q. refl,
)
  where
    by : (q : ℕ) (x : Node) (o : Option Args) → option_map (λ args. root_node q args 1) o ≡ Some x → (x.above ≡ []) × (x.root ≡ q)
    by q x None e = absurd (none-some x e)
    by q x (Some args) e = let same = same_Some (root_node q args 1) x e in (ap (λ n. n.above) (sym same), ap (λ n. n.root) (sym same))

both_still : (J J' : Past) (m : ℕ) → MakesRoots J J' m → ((p : ℕ) → open_children J' p + 0 ≡ open_children J p + 0) × ((r : ℕ) → open_under J' r + 0 ≡ open_under J r + 0)
both_still J J' m makes = (λ p. ap (λ n. n + 0) (children_still J J' m makes p), λ r. ap (λ n. n + 0) (under_still J J' m makes r))

-- parts make none, and there is none before them
none_open : (part : Part) (before : Past) → PartFits part before → ((p : ℕ) → open_children before p ≡ 0) × ((r : ℕ) → open_under before r ≡ 0)
none_open = by_parts (λ J. ((p : ℕ) → open_children J p ≡ 0) × ((r : ℕ) → open_under J r ≡ 0)) (λ p. refl, λ r. refl) (λ own older. (λ p. count_none (made (entry_is.Base own ∷ older) + 1), λ r. count_none (made (entry_is.Base own ∷ older) + 1)))

pub children_change : (entry : Entry) (before : Past) → IsLegal (entry ∷ before) → (p : ℕ) → open_children (entry ∷ before) p + one_if (ends_one (λ q. child_in p (node_of before q)) entry) ≡ open_children before p + added (λ q. q == p) entry
children_change (entry_is.Submit nonce request) before legal = (both_still before (entry_is.Submit nonce request ∷ before) 1 (submit_makes nonce request before (grown_all before legal.0))).0
children_change (entry_is.Undo pid row out) before legal = (both_still before (entry_is.Undo pid row out ∷ before) (length (args_in out.followers)) (undo_makes pid row out before)).0
children_change (entry_is.Down server) before legal = (both_still before (entry_is.Down server ∷ before) 1 (down_makes server before (grown_all before legal.0))).0
children_change (entry_is.Base part) before legal = λ p. omega (arith, count_none (made (entry_is.Base part ∷ before) + 1), (none_open part before legal.1.0).0 p)
children_change (entry_is.Step pid pick out) before legal = children_step pid pick out before legal
children_change entry before legal = (both_still before (entry ∷ before) 0 (plain_makes before (entry ∷ before) (grown_all before legal.0) refl (λ q. refl) (λ q. refl))).0

pub under_change : (entry : Entry) (before : Past) → IsLegal (entry ∷ before) → (r : ℕ) → open_under (entry ∷ before) r + one_if (ends_one (λ q. in_tree r (node_of before q) && not (q == r)) entry) ≡ open_under before r + added (λ q. in_tree r (node_of before q)) entry
under_change (entry_is.Submit nonce request) before legal = (both_still before (entry_is.Submit nonce request ∷ before) 1 (submit_makes nonce request before (grown_all before legal.0))).1
under_change (entry_is.Undo pid row out) before legal = (both_still before (entry_is.Undo pid row out ∷ before) (length (args_in out.followers)) (undo_makes pid row out before)).1
under_change (entry_is.Down server) before legal = (both_still before (entry_is.Down server ∷ before) 1 (down_makes server before (grown_all before legal.0))).1
under_change (entry_is.Base part) before legal = λ r. omega (arith, count_none (made (entry_is.Base part ∷ before) + 1), (none_open part before legal.1.0).1 r)
under_change (entry_is.Step pid pick out) before legal = under_step pid pick out before legal
under_change entry before legal = (both_still before (entry ∷ before) 0 (plain_makes before (entry ∷ before) (grown_all before legal.0) refl (λ q. refl) (λ q. refl))).1
