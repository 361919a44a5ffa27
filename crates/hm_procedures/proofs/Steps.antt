-- What is kept, after a step and after an undo.
use Rattle.std.proofs.Common.{◌≡◌, ◌≢◌, ℕ, ◌+◌, ◌-◌, ◌<◌, ◌≤◌, ◌&&◌, ◌==◌, List, [], ◌∷◌, ◌++◌, Bool, true, false, not, if◌then◌else◌, Option, Some, None, length, map, nat_lt, slice_get, refl, ap, sym, ◌∙◌, inl, inr, arith}
use Rattle.std.specs.Option.{option_map}
use Rattle.std.proofs.lemmas.Bool.{and_from, cases_Bool, cond-false, cond-true, le-ltb, lt-ltb}
use Rattle.std.proofs.lemmas.Option.{none-some, same_Some}
use Rattle.hm_names.specs.Server.{Server}
use Rattle.hm_names.specs.declared.pid.Pid.{Pid}
use Rattle.hm_data.specs.declared.args.Args.{Args}
use Rattle.hm_data.specs.declared.entry.Entry.{Entry}
use Rattle.hm_data.specs.declared.entry.Entry.TheVariants as entry_is
use Rattle.hm_data.specs.declared.record.Phase.TheVariants as phase_is
use Rattle.hm_data.specs.declared.step.StepOut.{StepOut}
use Rattle.hm_model.specs.Apart.{tree_of}
use Rattle.hm_model.specs.Counts.{one_if}
use Rattle.hm_model.specs.Editions.{edition_of, editions}
use Rattle.hm_model.specs.Journal.{Past}
use Rattle.hm_model.specs.Phase.{ended, phase}
use Rattle.hm_model.specs.Procedures.{offset}
use Rattle.hm_model.specs.Records.{unfinished}
use Rattle.hm_model.specs.Rules.{IsLegal}
use Rattle.hm_model.specs.Tree.{Node, args_in, child_of, is_root, is_root_in, is_top, made, node_of, pid_of, root_node}
use Rattle.hm_model.specs.Undo.{is_empty, stack}
use Rattle.hm_model.proofs.Editions.{made_in_force}
use Rattle.hm_model.proofs.Forest.{rooted_all}
use Rattle.hm_model.proofs.Grown.{grown_all, made_up_to, nodes_stay, step_old, undo_new, undo_old}
use Rattle.hm_model.proofs.Trees.{new_child, node_new}
use Rattle.hm_procedures.specs.Changes.{added, has_ended, is_shown, noted, shown_if}
use Rattle.hm_procedures.specs.Kept.{IsKept, kept_at, kept_in, kept_of, root_shown}
use Rattle.hm_procedures.specs.declared.kept.Tracked.{Tracked}
use Rattle.hm_procedures.proofs.Blank.{blank_new}
use Rattle.hm_procedures.proofs.Counts.{closed, is_open, no_root, one_may, open_root}
use Rattle.hm_procedures.proofs.Enters.{behind_low, count_more, more_made, root_within, roots_added, same_length, shown_as}
use Rattle.hm_procedures.proofs.Facts.{fresh_child, fresh_root, on_step, parent_shown, still_undo}
use Rattle.hm_procedures.proofs.InTrees.{in_tree_step, in_tree_undo, others_end, step_open, step_tree, undo_open, undo_tree}
use Rattle.hm_procedures.proofs.Shown.{IsInTree, ended_kept, phase_before, rolled_kept, shows}

-- how the phases of a tree are shown, by its root
abbrev pub Shows : ℕ → List Tracked → List Tracked → Pid → Option Pid → Pid → Bool → Type 0
Shows from mid new pid parent root nothing_left =
    (top : Tracked) → slice_get mid (root.0 - from - 1) ≡ Some top → (q : ℕ)
    → slice_get new q ≡ option_map (λ one. shown_if (is_shown top.cause ((top.open_under == 0) && nothing_left) pid parent root (from + q + 1) one) top.cause ((top.open_under == 0) && nothing_left) one) (slice_get mid q)

pub new_runs : (J : Past) (p : ℕ) (x : Node) → made J < p → phase_before J p x ≡ phase_is.Runnable
new_runs J p x lt = cond-true (nat_lt (made J) p) phase_is.Runnable (phase J p x) (lt-ltb (made J) p lt)

pub old_phase : (J : Past) (p : ℕ) (x : Node) → p ≤ made J → phase_before J p x ≡ phase J p x
old_phase J p x le = cond-false (nat_lt (made J) p) phase_is.Runnable (phase J p x) (le-ltb (made J) p le)

-- an entry in the tree of a procedure, shown
module _ (entry : Entry) (J : Past) (legal : IsLegal (entry ∷ J)) (off_is : offset (entry ∷ J) ≡ offset J) (pid : Pid) (me : Node) (tree : IsInTree J (entry ∷ J) pid me)
    (mid new : List Tracked) (roots : List Pid) (nothing_left : Bool)
    (are : (q : ℕ) → slice_get mid q ≡ shown_as (phase_before J) (entry ∷ J) (offset J + q + 1))
    (roots_are : (q : ℕ) → slice_get roots q ≡ option_map root_shown (slice_get mid q))
    (left : nothing_left ≡ is_empty (stack (entry ∷ J) me.root))
    (shown : Shows (offset J) mid new pid (parent_shown me.above) (pid_of me.root) nothing_left) where
  abbrev now : Past
  now = entry ∷ J

  root_is : (x : Node) × (node_of now me.root ≡ Some x) × (x.above ≡ []) × (offset J < me.root) × (node_of J me.root ≡ Some x)
  root_is =
      let top = rooted_all J legal.0 pid.0 me tree.is_me in
      (top.root, nodes_stay entry J legal me.root top.root top.there, top.at_top, behind_low J legal.0 me.root top.root top.there, top.there)

  abbrev top_kept : Tracked
  top_kept = kept_in (phase_before J me.root root_is.0) now me.root root_is.0

  top_is_kept : slice_get mid (me.root - offset J - 1) ≡ Some top_kept
  top_is_kept =
      let ge = root_is.3 in
      let up : offset J + (me.root - offset J - 1) + 1 ≡ me.root = omega (arith, ge) in
      are (me.root - offset J - 1) ∙ ap (shown_as (phase_before J) now) up ∙ ap (option_map (λ x. kept_in (phase_before J me.root x) now me.root x)) root_is.1

  abbrev rolled : Bool
  rolled = (top_kept.open_under == 0) && nothing_left

  abbrev shown_at : ℕ → Tracked → Tracked
  shown_at = λ q one. shown_if (is_shown top_kept.cause rolled pid (parent_shown me.above) (pid_of me.root) (offset J + q + 1) one) top_kept.cause rolled one

  pub kept_shown : (q : ℕ) → slice_get new q ≡ kept_of now (offset J + q + 1)
  kept_shown q = shown top_kept top_is_kept q ∙ ap (option_map (shown_at q)) (are q) ∙ by (node_of now (offset J + q + 1)) refl
    where
      by : (o : Option Node) → node_of now (offset J + q + 1) ≡ o → option_map (shown_at q) (option_map (λ x. kept_in (phase_before J (offset J + q + 1) x) now (offset J + q + 1) x) o) ≡ option_map (kept_at now (offset J + q + 1)) o
      by None e = refl
      by (Some x) e = ap Some (shows J now pid me tree (offset J + q + 1) x e rolled (rolled_kept now me.root nothing_left left))

  pub roots_kept : (q : ℕ) → slice_get roots q ≡ option_map root_shown (slice_get new q)
  roots_kept q = roots_are q ∙ by (slice_get mid q) ∙ sym (ap (option_map root_shown) (shown top_kept top_is_kept q))
    where
      by : (o : Option Tracked) → option_map root_shown o ≡ option_map root_shown (option_map (shown_at q) o)
      by None = refl
      by (Some one) = refl

  pub long_shown : length new ≡ length mid
  long_shown = same_length shown_at new mid (shown top_kept top_is_kept)

  -- whether the root has ended, as it is kept
  pub ended_shown : (over : Bool) → ((one : Tracked) → slice_get new (me.root - offset J - 1) ≡ Some one → over ≡ has_ended one) → over ≡ ended now me.root
  ended_shown over told =
      let ge = root_is.3 in
      let up : offset J + (me.root - offset J - 1) + 1 ≡ me.root = omega (arith, ge) in
      told (kept_at now me.root root_is.0) (kept_shown (me.root - offset J - 1) ∙ ap (kept_of now) up ∙ ap (option_map (kept_at now me.root)) root_is.1)
      ∙ ended_kept now legal me.root root_is.0 root_is.1

  module _ (tree_is : tree_of J entry ≡ me.root) (goes : ended J me.root ≡ false) (m : ℕ) (made_is : made now ≡ made J + m) (b : Bool) (news : (q : ℕ) → made J < q → q ≤ made J + m → is_open now q ≡ b) where
    -- how many roots haven't ended
    pub left_shown : unfinished now + one_if (ended now me.root) ≡ unfinished J + (if b then m else 0)
    left_shown =
        one_may J now m made_is b news me.root (made_up_to J (grown_all J legal.0) me.root root_is.0 root_is.4).1
        (and_from (is_root J me.root) (not (ended J me.root)) (ap is_root_in root_is.4 ∙ ap is_top root_is.2) (ap not goes))
        (ap is_root_in root_is.1 ∙ ap is_top root_is.2)
        (λ q le differs. by q le differs (node_of J q) refl)
      where
        by : (q : ℕ) → q ≤ made J → q ≢ me.root → (o : Option Node) → node_of J q ≡ o → is_open now q ≡ is_open J q
        by q le differs None e = closed now q (tree.old q le ∙ e) ∙ sym (closed J q e)
        by q le differs (Some x) e = elim (cases_Bool (is_top x.above)) [
          | inl top ↦
              ap (λ n. is_root_in n && not (ended now q)) (tree.old q le)
              ∙ ap (λ o. is_root J q && not o) (others_end entry J legal me.root tree_is q x e top differs)
          | inr below ↦ no_root now q x (tree.old q le ∙ e) below ∙ sym (no_root J q x e below)
        ]

    pub tree_kept : offset J + length mid ≡ made now → (count left_now : ℕ) → count ≡ unfinished J + (if b then m else 0) → left_now + one_if (ended now me.root) ≡ count → IsKept now new roots left_now
    tree_kept long count left_now count_is left_is = record {
      legal = legal;
      count = (let same = same_length shown_at new mid (shown top_kept top_is_kept) in omega (arith, same, long, off_is));
      kept_are = λ q. kept_shown q ∙ ap (λ n. kept_of now (n + q + 1)) (sym off_is);
      roots_are = roots_kept;
      left_are = (let law = left_shown in omega (arith, law, count_is, left_is));
    }

module _ (J : Past) (kept : List Tracked) (roots : List Pid) (left : ℕ) (was : IsKept J kept roots left) where
  -- a step
  module _ (pid : Pid) (pick : Option Server) (out : StepOut) (legal : IsLegal (entry_is.Step pid pick out ∷ J)) (me : Node) (is_me : node_of J pid.0 ≡ Some me)
      (three : List Tracked)
      (each : (q : ℕ) → slice_get three q ≡ option_map (noted (offset J + q + 1) pid (parent_shown me.above) (pid_of me.root) out (made J) (length (args_in out.children))) (slice_get kept q)) where
    abbrev after : Past
    after = entry_is.Step pid pick out ∷ J

    abbrev step : ℕ → Tracked → Tracked
    step = λ q k. noted (offset J + q + 1) pid (parent_shown me.above) (pid_of me.root) out (made J) (length (args_in out.children)) k

    pub long : length three ≡ length kept
    long = same_length step three kept each

    three_roots : (q : ℕ) → slice_get roots q ≡ option_map root_shown (slice_get three q)
    three_roots q = was.roots_are q ∙ by (slice_get kept q) ∙ sym (ap (option_map root_shown) (each q))
      where
        by : (o : Option Tracked) → option_map root_shown o ≡ option_map root_shown (option_map (step q) o)
        by None = refl
        by (Some k) = refl

    old : (q : ℕ) → q < length three → slice_get three q ≡ shown_as (phase_before J) after (offset J + q + 1)
    old q lt =
        let few : offset J + q + 1 ≤ made J = (let n = long in let count = was.count in omega (arith, lt, n, count)) in
        each q ∙ ap (option_map (step q)) (was.kept_are q) ∙ by few (node_of J (offset J + q + 1))
        ∙ sym (ap (option_map (λ x. kept_in (phase_before J (offset J + q + 1) x) after (offset J + q + 1) x)) (step_old pid pick out J (offset J + q + 1) few))
      where
        by : offset J + q + 1 ≤ made J → (o : Option Node) → option_map (step q) (option_map (kept_at J (offset J + q + 1)) o) ≡ option_map (λ x. kept_in (phase_before J (offset J + q + 1) x) after (offset J + q + 1) x) o
        by few None = refl
        by few (Some x) = ap Some (on_step pid pick out J legal me is_me (phase J (offset J + q + 1) x) (offset J + q + 1) x ∙ ap (λ f. kept_in f after (offset J + q + 1) x) (sym (old_phase J (offset J + q + 1) x few)))

    -- who steps, as it is kept then
    pub step_here : slice_get three (pid.0 - offset J - 1) ≡ Some (kept_in (phase_before J pid.0 me) after pid.0 me)
    step_here =
        let low = behind_low J was.legal pid.0 me is_me in
        let most = (made_up_to J (grown_all J was.legal) pid.0 me is_me).1 in
        let n = long in
        let count = was.count in
        let up : offset J + (pid.0 - offset J - 1) + 1 ≡ pid.0 = omega (arith, low) in
        old (pid.0 - offset J - 1) (omega (arith, low, most, n, count))
        ∙ ap (shown_as (phase_before J) after) up
        ∙ ap (option_map (λ x. kept_in (phase_before J pid.0 x) after pid.0 x)) (step_old pid pick out J pid.0 most ∙ is_me)

    abbrev pub mid : List Tracked
    mid = three ++ added (made J) (Some (pid, pid_of me.root)) (edition_of J me.root) (args_in out.children)

    pub mid_are : (q : ℕ) → slice_get mid q ≡ shown_as (phase_before J) after (offset J + q + 1)
    mid_are = more_made after (offset J) (made J) (Some (pid, pid_of me.root)) (edition_of J me.root) (λ p a. child_of pid.0 me a) (λ p a lt is blank. fresh_child after p pid me a (edition_of J me.root) refl blank) (phase_before J) three (ap (λ n. offset J + n) long ∙ was.count) (args_in out.children) old (λ p lt. node_new pid pick out J me is_me p lt)
        (λ p lt. blank_new (entry_is.Step pid pick out) J legal p lt) (λ p x lt is. new_runs J p x lt)

    abbrev pub roots_mid : List Pid
    roots_mid = roots ++ map root_shown (added (made J) (Some (pid, pid_of me.root)) (edition_of J me.root) (args_in out.children))

    pub roots_are_mid : (q : ℕ) → slice_get roots_mid q ≡ option_map root_shown (slice_get mid q)
    roots_are_mid = roots_added roots three (added (made J) (Some (pid, pid_of me.root)) (edition_of J me.root) (args_in out.children)) three_roots

    no_new_root : (q : ℕ) → made J < q → q ≤ made J + length (args_in out.children) → is_open after q ≡ false
    no_new_root q lt le =
        let least = (grown_all J legal.0).low in
        let there = (grown_all after legal).there q (omega (arith, lt, least)) le in
        let c = new_child pid pick out J me is_me q lt there.0 there.1 in
        no_root after q there.0 there.1 (ap (λ (n : Node). is_top n.above) c.2)

    pub step_long : (new : List Tracked) (nothing_left : Bool) → nothing_left ≡ is_empty (stack after me.root) → Shows (offset J) mid new pid (parent_shown me.above) (pid_of me.root) nothing_left → length new ≡ length mid
    step_long new nothing_left is_left shown = long_shown (entry_is.Step pid pick out) J legal refl pid me (in_tree_step pid pick out J legal me is_me) mid new roots_mid nothing_left mid_are roots_are_mid is_left shown

    module _ (new : List Tracked) (nothing_left over : Bool) (left_now : ℕ) (is_left : nothing_left ≡ is_empty (stack after me.root)) (shown : Shows (offset J) mid new pid (parent_shown me.above) (pid_of me.root) nothing_left)
        (told : (k : Tracked) → slice_get new (me.root - offset J - 1) ≡ Some k → over ≡ has_ended k) where
      pub step_over : over ≡ ended after me.root
      step_over = ended_shown (entry_is.Step pid pick out) J legal refl pid me (in_tree_step pid pick out J legal me is_me) mid new roots_mid nothing_left mid_are roots_are_mid is_left shown over told

      step_law : unfinished after + one_if (ended after me.root) ≡ unfinished J + 0
      step_law = left_shown (entry_is.Step pid pick out) J legal refl pid me (in_tree_step pid pick out J legal me is_me) mid new roots_mid nothing_left mid_are roots_are_mid is_left shown (step_tree pid pick out J legal me is_me) (step_open pid pick out J legal me is_me) (length (args_in out.children)) refl false no_new_root

      -- no more end than hadn't ended
      pub step_enough : one_if over ≤ left
      step_enough = let law = step_law in let e = was.left_are in let o = ap one_if step_over in omega (arith, law, e, o)

      pub step_kept : left_now + one_if over ≡ left → IsKept after new roots_mid left_now
      step_kept less = tree_kept (entry_is.Step pid pick out) J legal refl pid me (in_tree_step pid pick out J legal me is_me) mid new roots_mid nothing_left mid_are roots_are_mid is_left shown (step_tree pid pick out J legal me is_me) (step_open pid pick out J legal me is_me) (length (args_in out.children)) refl false no_new_root
          (let more = count_more three (made J) (Some (pid, pid_of me.root)) (edition_of J me.root) (args_in out.children) in let n = long in let count = was.count in omega (arith, more, n, count)) left left_now (was.left_are ∙ omega arith) (ap (λ b. left_now + one_if b) (sym step_over) ∙ less)

  -- an undo
  module _ (pid : Pid) (row : ℕ) (out : StepOut) (legal : IsLegal (entry_is.Undo pid row out ∷ J)) (me : Node) (is_me : node_of J pid.0 ≡ Some me) where
    abbrev behind : Past
    behind = entry_is.Undo pid row out ∷ J

    old_undo : (q : ℕ) → q < length kept → slice_get kept q ≡ shown_as (phase_before J) behind (offset J + q + 1)
    old_undo q lt =
        let few : offset J + q + 1 ≤ made J = (let count = was.count in omega (arith, lt, count)) in
        was.kept_are q ∙ by few (node_of J (offset J + q + 1)) refl
        ∙ sym (ap (option_map (λ x. kept_in (phase_before J (offset J + q + 1) x) behind (offset J + q + 1) x)) (undo_old pid row out J (offset J + q + 1) few))
      where
        by : offset J + q + 1 ≤ made J → (o : Option Node) → node_of J (offset J + q + 1) ≡ o → option_map (kept_at J (offset J + q + 1)) o ≡ option_map (λ x. kept_in (phase_before J (offset J + q + 1) x) behind (offset J + q + 1) x) o
        by few None e = refl
        by few (Some x) e =
            ap Some (sym (ap (λ f. kept_in f behind (offset J + q + 1) x) (old_phase J (offset J + q + 1) x few)
            ∙ still_undo (phase J (offset J + q + 1) x) J (offset J + q + 1) x pid row out legal (root_within J was.legal (offset J + q + 1) x e)))

    -- a follower is of the edition in force
    follower_edition : (p : ℕ) → made J < p → (x : Node) → node_of behind p ≡ Some x → is_top x.above ≡ true → edition_of behind p ≡ editions J
    follower_edition p lt x is top = (made_in_force (entry_is.Undo pid row out) J legal p lt (ap is_root_in is ∙ top)).1

    abbrev pub mid_undo : List Tracked
    mid_undo = kept ++ added (made J) None (editions J) (args_in out.followers)

    pub mid_undo_are : (q : ℕ) → slice_get mid_undo q ≡ shown_as (phase_before J) behind (offset J + q + 1)
    mid_undo_are = more_made behind (offset J) (made J) None (editions J) (λ p a. root_node p a 1) (λ p a lt is blank. fresh_root behind p a 1 (editions J) (follower_edition p lt (root_node p a 1) is refl) blank) (phase_before J) kept was.count (args_in out.followers) old_undo (λ p lt. undo_new pid row out J p lt)
        (λ p lt. blank_new (entry_is.Undo pid row out) J legal p lt) (λ p x lt is. new_runs J p x lt)

    abbrev pub roots_undo : List Pid
    roots_undo = roots ++ map root_shown (added (made J) None (editions J) (args_in out.followers))

    pub roots_undo_are : (q : ℕ) → slice_get roots_undo q ≡ option_map root_shown (slice_get mid_undo q)
    roots_undo_are = roots_added roots kept (added (made J) None (editions J) (args_in out.followers)) was.roots_are

    new_root : (q : ℕ) → made J < q → q ≤ made J + length (args_in out.followers) → is_open behind q ≡ true
    new_root q lt le =
        let least = (grown_all J legal.0).low in
        let there = (grown_all behind legal).there q (omega (arith, lt, least)) le in
        by there.0 there.1 (slice_get (args_in out.followers) (q - made J - 1)) (sym (undo_new pid row out J q lt) ∙ there.1)
      where
        by : (x : Node) → node_of behind q ≡ Some x → (o : Option Args) → option_map (λ a. root_node q a 1) o ≡ Some x → is_open behind q ≡ true
        by x is None e = absurd (none-some x e)
        by x is (Some a) e = open_root behind q x is (ap (λ (n : Node). is_top n.above) (sym (same_Some (root_node q a 1) x e))) (blank_new (entry_is.Undo pid row out) J legal q lt)

    pub undo_long : (new : List Tracked) (nothing_left : Bool) → nothing_left ≡ is_empty (stack behind me.root) → Shows (offset J) mid_undo new pid (parent_shown me.above) (pid_of me.root) nothing_left → length new ≡ length mid_undo
    undo_long new nothing_left is_left shown = long_shown (entry_is.Undo pid row out) J legal refl pid me (in_tree_undo pid row out J legal me is_me) mid_undo new roots_undo nothing_left mid_undo_are roots_undo_are is_left shown

    module _ (new : List Tracked) (nothing_left over : Bool) (left_now : ℕ) (is_left : nothing_left ≡ is_empty (stack behind me.root)) (shown : Shows (offset J) mid_undo new pid (parent_shown me.above) (pid_of me.root) nothing_left)
        (told : (k : Tracked) → slice_get new (me.root - offset J - 1) ≡ Some k → over ≡ has_ended k) where
      pub undo_over : over ≡ ended behind me.root
      undo_over = ended_shown (entry_is.Undo pid row out) J legal refl pid me (in_tree_undo pid row out J legal me is_me) mid_undo new roots_undo nothing_left mid_undo_are roots_undo_are is_left shown over told

      undo_law : unfinished behind + one_if (ended behind me.root) ≡ unfinished J + length (args_in out.followers)
      undo_law = left_shown (entry_is.Undo pid row out) J legal refl pid me (in_tree_undo pid row out J legal me is_me) mid_undo new roots_undo nothing_left mid_undo_are roots_undo_are is_left shown (undo_tree pid row out J legal me is_me) (undo_open pid row out J legal me is_me) (length (args_in out.followers)) refl true new_root

      pub undo_enough : one_if over ≤ left + length (args_in out.followers)
      undo_enough = let law = undo_law in let e = was.left_are in let o = ap one_if undo_over in omega (arith, law, e, o)

      pub undo_kept : left_now + one_if over ≡ left + length (args_in out.followers) → IsKept behind new roots_undo left_now
      undo_kept less = tree_kept (entry_is.Undo pid row out) J legal refl pid me (in_tree_undo pid row out J legal me is_me) mid_undo new roots_undo nothing_left mid_undo_are roots_undo_are is_left shown (undo_tree pid row out J legal me is_me) (undo_open pid row out J legal me is_me) (length (args_in out.followers)) refl true new_root
          (let more = count_more kept (made J) None (editions J) (args_in out.followers) in let count = was.count in omega (arith, more, count)) (left + length (args_in out.followers)) left_now (ap (λ n. n + length (args_in out.followers)) was.left_are) (ap (λ b. left_now + one_if b) (sym undo_over) ∙ less)
