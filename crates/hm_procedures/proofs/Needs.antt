-- What taking in a step or an undo needs of what is kept: it is there, and counts neither wrap nor fall short.
use Rattle.std.proofs.Common.{◌≡◌, ◌≢◌, ℕ, suc, ◌+◌, ◌-◌, ◌<◌, ◌≤◌, ◌^◌, ◌&&◌, ◌==◌, List, [], ◌∷◌, ◌++◌, map, length-append, true, if◌then◌else◌, Option, Some, None, is_some, length, slice_get, refl, ap, sym, ◌∙◌, subst, arith}
use Rattle.std.specs.Option.{option_map}
use Rattle.std.proofs.lemmas.Bool.{cond-false, eq-eqb, false≢true, ne_eqb}
use Rattle.std.proofs.lemmas.Option.{same_Some, slice_get_within}
use Rattle.hm_names.specs.Server.{Server}
use Rattle.hm_names.specs.declared.pid.Pid.{Pid}
use Rattle.hm_data.specs.declared.call.Told.{Told}
use Rattle.hm_data.specs.declared.entry.Entry.TheVariants as entry_is
use Rattle.hm_data.specs.declared.part.Part.{Part}
use Rattle.hm_data.specs.declared.part.Part.TheVariants as part_is
use Rattle.hm_data.specs.declared.step.StepOut.{StepOut}
use Rattle.hm_model.specs.Answers.{is_stop}
use Rattle.hm_model.specs.Base.{PartFits}
use Rattle.hm_model.specs.Counts.{one_if}
use Rattle.hm_model.specs.Journal.{Past}
use Rattle.hm_model.specs.Phase.{is_parent}
use Rattle.hm_model.specs.Procedures.{offset}
use Rattle.hm_model.specs.Reports.{verb_of}
use Rattle.hm_model.specs.Rules.{IsLegal}
use Rattle.hm_model.specs.Tree.{Node, args_in, is_root_in, made, node_of, pid_of}
use Rattle.hm_model.specs.Waiting.{is_open_child, is_open_under, open_children, open_under}
use Rattle.hm_model.proofs.Forest.{rooted_all}
use Rattle.hm_model.proofs.Grown.{grown_all, made_up_to}
use Rattle.hm_model.proofs.Trees.{grown_all as trees_all, some_of}
use Rattle.hm_data.specs.declared.args.Args.{Args}
use Rattle.hm_procedures.specs.Book.{HasRoot}
use Rattle.hm_procedures.specs.Changes.{added, is_this}
use Rattle.hm_procedures.specs.Kept.{IsKept, kept_at, kept_of, root_shown}
use Rattle.hm_procedures.specs.declared.kept.Tracked.{Tracked}
use Rattle.hm_procedures.proofs.Counts.{count_most, is_open}
use Rattle.hm_procedures.proofs.Enters.{behind_low, none_made, same_length}
use Rattle.hm_procedures.proofs.Facts.{children_law, parent_shown, this_parent, under_law}
use Rattle.hm_procedures.proofs.Places.{slice_get-low}
use Rattle.hm_procedures.proofs.Shown.{parent_is}

module _ (J : Past) (kept : List Tracked) (roots : List Pid) (left : ℕ) (was : IsKept J kept roots left) where
  pub roots_long : length roots ≡ length kept
  roots_long = same_length (λ i. root_shown) roots kept was.roots_are

  pub few_roots : left ≤ offset J + length kept + 1
  few_roots = let most = count_most (made J + 1) (is_open J) in let count = was.count in let are = was.left_are in omega (arith, most, count, are)

  -- who is there is kept
  pub kept_here : (p : ℕ) (x : Node) → node_of J p ≡ Some x → (offset J < p) × (p ≤ offset J + length kept) × (slice_get kept (p - offset J - 1) ≡ Some (kept_at J p x))
  kept_here p x is =
      let low = behind_low J was.legal p x is in
      let most = (made_up_to J (grown_all J was.legal) p x is).1 in
      let up : offset J + (p - offset J - 1) + 1 ≡ p = omega (arith, low) in
      let count = was.count in
      (low, omega (arith, most, count), was.kept_are (p - offset J - 1) ∙ ap (kept_of J) up ∙ ap (option_map (kept_at J p)) is)

  pub root_here : (p : ℕ) (x : Node) → node_of J p ≡ Some x → (offset J < x.root) × (x.root ≤ offset J + length kept) × (slice_get roots (x.root - offset J - 1) ≡ Some (pid_of x.root)) × ((top : Node) × (node_of J x.root ≡ Some top))
  root_here p x is =
      let top = rooted_all J was.legal p x is in
      let here = kept_here x.root top.root top.there in
      (here.0, here.1, was.roots_are (x.root - offset J - 1) ∙ ap (option_map root_shown) here.2 ∙ ap (λ n. Some (pid_of n)) top.own, (top.root, top.there))

  pub parent_here : (p : ℕ) (x : Node) → node_of J p ≡ Some x → (up : Pid) → parent_shown x.above ≡ Some up → (offset J < up.0) × (up.0 ≤ offset J + length kept) × ((y : Node) × (node_of J up.0 ≡ Some y) × (up.0 < p))
  parent_here p x is up shown =
      let is_up : is_parent up.0 x.above ≡ true = this_parent x.above up.0 ∙ ap (λ o. is_this o up.0) shown ∙ eq-eqb up.0 up.0 refl in
      let y = parent_is J was.legal p x is up.0 is_up in
      let here = kept_here up.0 y.0 y.1 in
      (here.0, here.1, (y.0, y.1, y.3))

  pub few_children : (p : ℕ) (x : Node) → node_of J p ≡ Some x → (one : Tracked) → slice_get kept (p - offset J - 1) ≡ Some one → one.open_children ≤ offset J + length kept + 1
  few_children p x is one here =
      let same = ap (λ (k : Tracked). k.open_children) (same_Some one (kept_at J p x) (sym here ∙ (kept_here p x is).2)) in
      let most = count_most (made J + 1) (is_open_child J p) in
      let count = was.count in
      omega (arith, same, most, count)

  module _ (pid : Pid) (pick : Option Server) (out : StepOut) (legal : IsLegal (entry_is.Step pid pick out ∷ J)) (me : Node) (is_me : node_of J pid.0 ≡ Some me) where
    abbrev count : ℕ
    count = length (args_in out.children)

    -- the parent has a child to end
    pub parent_open : is_stop out.answer ≡ true → (up : Pid) → parent_shown me.above ≡ Some up → (k : Tracked) → slice_get kept (up.0 - offset J - 1) ≡ Some k → 1 ≤ k.open_children
    parent_open stops up shown k here =
        let y = parent_here pid.0 me is_me up shown in
        let differs : up.0 ≢ pid.0 = λ same. (let lt = y.2.2 in omega (arith, lt, same)) in
        let value : k.open_children ≡ open_children J up.0 = ap (λ (x : Tracked). x.open_children) (same_Some k (kept_at J up.0 y.2.0) (sym here ∙ (kept_here up.0 y.2.0 y.2.1).2)) in
        let law = children_law pid pick out J legal me is_me up.0 in
        let none : (if up.0 == pid.0 then count else 0) ≡ 0 = cond-false (up.0 == pid.0) count 0 (ne_eqb up.0 pid.0 differs) in
        let ends : one_if (is_this (parent_shown me.above) up.0 && is_stop out.answer) ≡ 1 = ap (λ o. one_if (is_this o up.0 && is_stop out.answer)) shown ∙ ap (λ b. one_if (b && is_stop out.answer)) (eq-eqb up.0 up.0 refl) ∙ ap one_if stops in
        omega (arith, value, law, ends, none)

    root_under : (k : Tracked) → slice_get kept (me.root - offset J - 1) ≡ Some k → k.open_under ≡ open_under J me.root
    root_under k here =
        let top = root_here pid.0 me is_me in
        ap (λ (x : Tracked). x.open_under) (same_Some k (kept_at J me.root top.3.0) (sym here ∙ (kept_here me.root top.3.0 top.3.1).2))

    pub few_under : (k : Tracked) → slice_get kept (me.root - offset J - 1) ≡ Some k → k.open_under ≤ offset J + length kept + 1
    few_under k here =
        let same = root_under k here in
        let most = count_most (made J + 1) (is_open_under J me.root) in
        let long = was.count in
        omega (arith, same, most, long)

    pub under_open : (is_stop out.answer && is_some (parent_shown me.above)) ≡ true → (k : Tracked) → slice_get kept (me.root - offset J - 1) ≡ Some k → 1 ≤ k.open_under + count
    under_open ends k here =
        let same = root_under k here in
        let law = under_law pid pick out J legal me is_me me.root in
        let own = eq-eqb me.root me.root refl in
        let one_ends : one_if ((me.root == me.root) && (is_stop out.answer && is_some (parent_shown me.above))) ≡ 1 = ap (λ b. one_if (b && (is_stop out.answer && is_some (parent_shown me.above)))) own ∙ ap one_if ends in
        let more : (if me.root == me.root then count else 0) ≡ count = ap (λ b. if b then count else 0) own in
        omega (arith, same, law, one_ends, more)

-- a call that is reported is that of a procedure, and so is who is aborted
pub report_there : (call : Pid) (told : Told) (J : Past) → IsLegal (entry_is.Report call told ∷ J) → (x : Node) × (node_of J call.0 ≡ Some x)
report_there call told J legal = let verb = some_of (verb_of J call.0) legal.1.1.0.0 in let own = (trees_all J legal.0).verbs call.0 verb.0 verb.1 in (own.0, own.1)

pub abort_there : (pid : Pid) (J : Past) → IsLegal (entry_is.Abort pid ∷ J) → (x : Node) × (node_of J pid.0 ≡ Some x)
abort_there pid J legal = by (node_of J pid.0) refl legal.1.1.0.0
  where
    by : (o : Option Node) → node_of J pid.0 ≡ o → is_root_in o ≡ true → (x : Node) × (node_of J pid.0 ≡ Some x)
    by None e h = absurd (false≢true h)
    by (Some x) e h = (x, e)

long_map : (xs : List Tracked) → length (map root_shown xs) ≡ length xs
long_map [] = refl
long_map (x ∷ xs) = ap suc (long_map xs)

-- roots and what is kept grow alike
pub roots_more : (low : ℕ) (roots : List Pid) (kept : List Tracked) (up : Option (Pid × Pid)) (edition : ℕ) (ys : List Args) (roots' : List Pid) (kept' : List Tracked) → length roots ≡ length kept
    → roots' ≡ roots ++ map root_shown (added (low + length kept) up edition ys) → kept' ≡ kept ++ added (low + length kept) up edition ys → length roots' ≡ length kept'
roots_more low roots kept up edition ys roots' kept' same are is =
    let new : List Tracked = added (low + length kept) up edition ys in
    ap length are ∙ length-append roots (map root_shown new) ∙ ap (λ n. n + length (map root_shown new)) same ∙ ap (λ n. length kept + n) (long_map new)
    ∙ sym (ap length is ∙ length-append kept new)

pub roots_still : (from : ℕ) (up : Option (Pid × Pid)) (roots more roots' : List Pid) → roots' ≡ roots ++ more → HasRoot from roots up → HasRoot from roots' up
roots_still from None roots more roots' is has = tt
roots_still from (Some up) roots more roots' is has =
    let place : ℕ = let root = up.1 in root.0 - from - 1 in
    (has.0, ap (λ l. slice_get l place) is ∙ slice_get-low roots more place (slice_get_within roots place up.1 has.1) ∙ has.1)

-- the last of a base is no more than 2 ^ 48
part_most : (part : Part) (before : Past) → PartFits part before → made before ≤ 2 ^ 48 → made (entry_is.Base part ∷ before) ≤ 2 ^ 48
part_most (part_is.Head entries last parts sheets) before fits was = fits.2
part_most part before fits was = was

pub offset_most : (J : Past) → IsLegal J → offset J ≤ 2 ^ 48
offset_most [] legal = omega arith
offset_most (entry_is.Base part ∷ before) legal = part_most part before legal.1.0 (subst (λ n. n ≤ 2 ^ 48) (sym (none_made part before legal.1.0)) (offset_most before legal.0))
offset_most (entry ∷ before) legal = offset_most before legal.0
