-- The lock book after an entry.
use Rattle.std.proofs.Common.{◌≡◌, ◌≢◌, ℕ, zero, suc, ◌+◌, ◌-◌, ◌<◌, ◌≤◌, ◌&&◌, [], ◌∷◌, List, map, Bool, true, false, if◌then◌else◌, nat_lt, Option, Some, None, is_some, slice_get, refl, ap, sym, ◌∙◌, inl, inr, subst, arith}
use Rattle.std.specs.Option.{option_map}
use Rattle.std.proofs.lemmas.Bool.{cases_Bool, cases_eq, cases_lt, cond-false, cond-true, le-ltb, lt-ltb, true≢false}
use Rattle.std.proofs.lemmas.Bool.Decides.{nat_tests}
use Rattle.std.proofs.lemmas.Option.{none-some, same_Some}
use Rattle.hm_names.specs.Server.{Server}
use Rattle.hm_names.specs.declared.pid.Pid.{Pid}
use Rattle.hm_names.specs.declared.table.TableName.{TableName}
use Rattle.hm_data.specs.declared.args.Args.{Args}
use Rattle.hm_data.specs.declared.args.Args.TheVariants as args_are
use Rattle.hm_data.specs.declared.entry.Entry.{Entry}
use Rattle.hm_data.specs.declared.entry.Entry.TheVariants as entry_is
use Rattle.hm_data.specs.declared.step.StepOut.{StepOut}
use Rattle.hm_locks.specs.Book.{Row, above_in, drafted, row_of}
use Rattle.hm_model.specs.declared.lock.Ask.{Ask}
use Rattle.hm_model.specs.Answers.{last_answer}
use Rattle.hm_model.specs.Apart.{tree_of}
use Rattle.hm_model.specs.Journal.{Past}
use Rattle.hm_model.specs.Kinds.{table_of_request}
use Rattle.hm_model.specs.Locks.{asks}
use Rattle.hm_model.specs.Phase.{ended}
use Rattle.hm_model.specs.Rules.{IsLegal}
use Rattle.hm_model.specs.Tree.{Node, args_in, child_of, children_of, first_of, made, node_of, pid_of, root_node}
use Rattle.hm_model.proofs.Grown.{down_new, down_old, grown_all, ids_within, step_new, submit_new, submit_old, undo_new}
use Rattle.hm_model.proofs.Highs.{own_all}
use Rattle.hm_model.proofs.PlainActs.{is_high, quiet_low}
use Rattle.hm_model.proofs.Trees.{grown_all as trees_all, node_new, step_of}
use Rattle.hm_model.proofs.UndoMakes.{undo_quiet}
use Rattle.hm_procedures.specs.Kept.{args_made}
use Rattle.hm_records.specs.Book.{AreRows, AreRowsWith, draft_of, drafts_of, enlisted, has_first, or_drafted, or_taken, row_at, book_row, stepper_of, unless_ended}
use Rattle.hm_records.proofs.Enlisted.{ends_by, row_still, row_was_over, unstepped_open}
use Rattle.hm_records.proofs.Trees.{none_answers, stepper_open, stepper_there}

get_map : {X Y : Type 0} (f : X → Y) (xs : List X) (k : ℕ) → slice_get (map f xs) k ≡ option_map f (slice_get xs k)
get_map f [] k = refl
get_map f (x ∷ xs) zero = refl
get_map f (x ∷ xs) (suc k) = get_map f xs k

get_behind : {X : Type 0} (x : X) (k : ℕ) → 1 ≤ k → slice_get (x ∷ []) k ≡ None
get_behind x zero le = absurd (omega (arith, le))
get_behind x (suc k) le = refl

-- the first id of a request can be drawn
pub first_fits : (J : Past) → IsLegal J → (o : Option TableName) → (nat_lt 0 (first_of J o) && nat_lt (first_of J o) 4294967296) ≡ true
first_fits J legal None = refl
first_fits J legal (Some table) = let few = ids_within J legal table in grind (arith, nat_tests, few)

-- who is no root has nothing to draw
low_fits : (args : Args) → is_high args ≡ false → has_first args ≡ true
low_fits (args_are.Root request first) low = absurd (true≢false low)
low_fits args low = refl

-- who has ancestors has some
cons_nil : (u : ℕ) (above : List ℕ) → u ∷ above ≡ [] → ⊥
cons_nil u above e = cc

-- a child isn't a root
child_low : (pid : Pid) (pick : Option Server) (out : StepOut) (J : Past) → IsLegal (entry_is.Step pid pick out ∷ J) → (i : ℕ) (args : Args) → slice_get (args_in out.children) i ≡ Some args → is_high args ≡ false
child_low pid pick out J legal i args is =
    let step = step_of pid pick out J (trees_all J legal.0) legal in
    let at : made J + 1 + i - made J - 1 ≡ i = omega arith in
    let there : node_of (entry_is.Step pid pick out ∷ J) (made J + 1 + i) ≡ Some (child_of pid.0 step.node args) =
    node_new pid pick out J step.node step.node_is (made J + 1 + i) (omega arith) ∙ ap (λ k. option_map (child_of pid.0 step.node) (slice_get (args_in out.children) k)) at ∙ ap (option_map (child_of pid.0 step.node)) is in
    elim (cases_Bool (is_high args)) [
      | inr off ↦ off
      | inl on ↦ absurd (cons_nil pid.0 step.node.above ((own_all (entry_is.Step pid pick out ∷ J) legal (made J + 1 + i) (child_of pid.0 step.node args) there).high on))
    ]

-- so can those of all procedures that an entry makes
pub made_fits : (entry : Entry) (J : Past) → IsLegal (entry ∷ J) → (k : ℕ) (args : Args) → slice_get (enlisted entry (args_made J entry)) k ≡ Some args → has_first args ≡ true
made_fits (entry_is.Submit nonce request) J legal zero args is = ap has_first (sym (same_Some (args_are.Root request (first_of J (table_of_request request))) args is)) ∙ first_fits J legal.0 (table_of_request request)
made_fits (entry_is.Submit nonce request) J legal (suc k) args is = absurd (none-some args is)
made_fits (entry_is.Step pid pick out) J legal k args is =
    low_fits args (child_low pid pick out J legal k args is)
made_fits (entry_is.Undo pid row out) J legal k args is = low_fits args (quiet_low out.followers (undo_quiet pid row out J legal) k args is)
made_fits (entry_is.Down server) J legal zero args is = ap has_first (sym (same_Some (args_are.Crash server) args is))
made_fits (entry_is.Down server) J legal (suc k) args is = absurd (none-some args is)
made_fits entry J legal k args is = absurd (none-some args is)

-- a node that is new has the row of its draft
drafts_row : (p : ℕ) (above : List ℕ) (args : Args) (root first : ℕ) → has_first args ≡ true
    → book_row false false p (Some (record { above = above; root = root; args = args; first = first })) ≡ Some (drafted p (draft_of above args))
drafts_row p above args root first fits = ap (λ (l : List Ask). Some (let row : Row = record { pid = p; above = above; asks = l; holds = false } in row)) (sym (ap (λ b. if b then asks args else []) fits))

-- a root that is made, or none where it is another's number
one_row : (J : Past) (p : ℕ) → made J < p → (args : Args) (first : ℕ) → has_first args ≡ true → (o : Option Node)
    → (p ≡ made J + 1 → o ≡ Some (root_node p args first)) → (p ≢ made J + 1 → o ≡ None)
    → book_row false false p o ≡ option_map (drafted p) (slice_get (draft_of [] args ∷ []) (p - made J - 1))
one_row J p behind args first fits o own other = elim (cases_eq p (made J + 1)) [
  | inl here ↦
      (let zeroth : p - made J - 1 ≡ 0 = omega (arith, here) in
      ap (book_row false false p) (own here) ∙ drafts_row p [] args p first fits ∙ sym (ap (λ k. option_map (drafted p) (slice_get (draft_of [] args ∷ []) k)) zeroth))
  | inr there ↦
      ap (book_row false false p) (other there) ∙ sym (ap (option_map (drafted p)) (get_behind (draft_of [] args) (p - made J - 1) (omega (arith, behind, there))))
]

-- children and followers
many_rows : (p : ℕ) (above : List ℕ) (root : ℕ) (first : ℕ) (made : List Args) (k : ℕ) → ((args : Args) → slice_get made k ≡ Some args → has_first args ≡ true)
    → book_row false false p (option_map (λ (args : Args). let node : Node = record { above = above; root = root; args = args; first = first } in node) (slice_get made k))
    ≡ option_map (drafted p) (slice_get (map (draft_of above) made) k)
many_rows p above root first made k fits = by (slice_get made k) refl ∙ sym (ap (option_map (drafted p)) (get_map (draft_of above) made k))
  where
    by : (o : Option Args) → slice_get made k ≡ o
        → book_row false false p (option_map (λ (args : Args). let node : Node = record { above = above; root = root; args = args; first = first } in node) (slice_get made k))
        ≡ option_map (drafted p) (option_map (draft_of above) (slice_get made k))
    by None is = ap (λ o. book_row false false p (option_map (λ (args : Args). let node : Node = record { above = above; root = root; args = args; first = first } in node) o)) is ∙ sym (ap (λ o. option_map (drafted p) (option_map (draft_of above) o)) is)
    by (Some args) is =
        ap (λ o. book_row false false p (option_map (λ (args : Args). let node : Node = record { above = above; root = root; args = args; first = first } in node) o)) is
        ∙ drafts_row p above args root first (fits args is)
        ∙ sym (ap (λ o. option_map (drafted p) (option_map (draft_of above) o)) is)

-- what the row of a procedure that goes on tells of its ancestors
above_is : (J : Past) (p : ℕ) (x : Node) → node_of J p ≡ Some x → ended J p ≡ false → above_in (row_at J p) ≡ x.above
above_is J p x is goes =
    ap (λ o. above_in (book_row (ended J p) (is_some (last_answer J p)) p o)) is ∙ ap (λ b. above_in (book_row b (is_some (last_answer J p)) p (Some x))) goes

-- the procedures that an entry makes have the rows of its drafts
fresh_row : (entry : Entry) (J : Past) → IsLegal (entry ∷ J) → (p : ℕ) → made J < p
    → book_row false false p (node_of (entry ∷ J) p) ≡ option_map (drafted p) (slice_get (drafts_of J entry) (p - made J - 1))
fresh_row (entry_is.Submit nonce request) J legal p behind =
    one_row J p behind (args_are.Root request (first_of J (table_of_request request))) (first_of J (table_of_request request)) (first_fits J legal.0 (table_of_request request))
    (node_of (entry_is.Submit nonce request ∷ J) p) (submit_new nonce request J p) (λ e. submit_old nonce request J p e ∙ (grown_all J legal.0).numbered p behind)
fresh_row (entry_is.Step pid pick out) J legal p behind =
    let me = stepper_there pid pick out J legal in
    let entry = entry_is.Step pid pick out in
    ap (book_row false false p) (step_new pid pick out J p behind ∙ ap (λ up. children_of pid.0 up (slice_get (args_in out.children) (p - made J - 1))) me.1)
    ∙ many_rows p (pid.0 ∷ me.0.above) me.0.root me.0.first (args_in out.children) (p - made J - 1) (made_fits entry J legal (p - made J - 1))
    ∙ sym (ap (λ (l : List ℕ). option_map (drafted p) (slice_get (map (draft_of (pid.0 ∷ l)) (args_in out.children)) (p - made J - 1))) (above_is J pid.0 me.0 me.1 (stepper_open pid pick out J legal)))
fresh_row (entry_is.Undo pid row out) J legal p behind =
    ap (book_row false false p) (undo_new pid row out J p behind) ∙ many_rows p [] p 1 (args_in out.followers) (p - made J - 1) (made_fits (entry_is.Undo pid row out) J legal (p - made J - 1))
fresh_row (entry_is.Down server) J legal p behind =
    one_row J p behind (args_are.Crash server) 1 refl (node_of (entry_is.Down server ∷ J) p) (down_new server J p) (λ e. down_old server J p e ∙ (grown_all J legal.0).numbered p behind)
fresh_row (entry_is.Base part) J legal p behind = refl
fresh_row entry J legal p behind = ap (book_row false false p) ((grown_all J legal.0).numbered p behind)

module _ (entry : Entry) (J : Past) (legal : IsLegal (entry ∷ J)) (p : ℕ) where
  abbrev after : Past
  after = entry ∷ J

  abbrev between : Option Row
  between = or_drafted (made J) (drafts_of J entry) p (or_taken (stepper_of entry) p (row_at J p))

  -- one that the entry makes
  module _ (behind : made J < p) where
    unstepped : last_answer after p ≡ None
    unstepped = none_answers entry J legal p ((grown_all J legal.0).numbered p behind)

    new_open : ended after p ≡ false
    new_open = unstepped_open after legal p unstepped

    new_row : between ≡ row_at after p
    new_row =
        cond-true (nat_lt (made J) p) (option_map (drafted p) (slice_get (drafts_of J entry) (p - made J - 1))) (or_taken (stepper_of entry) p (row_at J p)) (lt-ltb (made J) p behind)
        ∙ sym (fresh_row entry J legal p behind)
        ∙ sym (ap (λ b. book_row b (is_some (last_answer after p)) p (node_of after p)) new_open ∙ ap (λ o. book_row false (is_some o) p (node_of after p)) unstepped)

  old_row : p ≤ made J → between ≡ or_taken (stepper_of entry) p (row_at J p)
  old_row within = cond-false (nat_lt (made J) p) (option_map (drafted p) (slice_get (drafts_of J entry) (p - made J - 1))) (or_taken (stepper_of entry) p (row_at J p)) (le-ltb (made J) p within)

  -- the row is left out where its procedure has ended
  pub left_out : unless_ended (ended after p) between ≡ row_at after p
  left_out = elim (cases_lt (made J) p) [
    | inl behind ↦ ap (λ b. unless_ended b between) (new_open behind) ∙ new_row behind
    | inr within ↦ ap (unless_ended (ended after p)) (old_row within) ∙ sym (row_still entry J legal p within)
  ]

  -- it may be left in where neither the root of the entry's tree nor the procedure of its step is it
  pub left_in : p ≢ tree_of J entry → ((pid : Pid) → stepper_of entry ≡ Some pid → pid.0 ≢ p) → between ≡ row_at after p
  left_in apart other = elim (cases_lt (made J) p) [
    | inl behind ↦ new_row behind
    | inr within ↦ elim (cases_Bool (ended after p)) [
      | inr goes ↦ sym (ap (λ b. unless_ended b between) goes) ∙ left_out
      | inl over ↦ (let none = row_was_over entry J legal p (had_ended over) in
          old_row within ∙ none ∙ sym (row_still entry J legal p within ∙ ap (λ b. unless_ended b (or_taken (stepper_of entry) p (row_at J p))) over))
    ]
  ]
    where
      had_ended : ended after p ≡ true → ended J p ≡ true
      had_ended over = elim (cases_Bool (ended J p)) [
        | inl was ↦ was
        | inr goes ↦ absurd (true≢false (sym over ∙ ends_by entry J legal p apart other goes))
      ]

unless_twice : (b : Bool) (row : Option Row) → unless_ended b (unless_ended b row) ≡ unless_ended b row
unless_twice true row = refl
unless_twice false row = refl

-- the rows after an entry, from which the root of its tree and the procedure of its step were taken where they have ended
module _ (entry : Entry) (J : Past) (legal : IsLegal (entry ∷ J)) (mid once : List Row) (with_it : AreRowsWith J entry mid)
    (own : row_of once (tree_of J entry) ≡ unless_ended (ended (entry ∷ J) (tree_of J entry)) (row_of mid (tree_of J entry)))
    (others : (p : ℕ) → p ≢ tree_of J entry → row_of once p ≡ row_of mid p) where
  at_tree : (p : ℕ) → p ≡ tree_of J entry → row_of once p ≡ unless_ended (ended (entry ∷ J) p) (row_of mid p)
  at_tree p here = subst (λ q. row_of once q ≡ unless_ended (ended (entry ∷ J) q) (row_of mid q)) (sym here) own

  left_at : (p : ℕ) (rows : List Row) → row_of rows p ≡ unless_ended (ended (entry ∷ J) p) (row_of mid p) → row_of rows p ≡ row_at (entry ∷ J) p
  left_at p rows is = is ∙ ap (unless_ended (ended (entry ∷ J) p)) (with_it p) ∙ left_out entry J legal p

  pub rootless_rows : stepper_of entry ≡ None → AreRows (entry ∷ J) once
  rootless_rows none p = elim (cases_eq p (tree_of J entry)) [
    | inl here ↦ left_at p once (at_tree p here)
    | inr there ↦ others p there ∙ with_it p ∙ left_in entry J legal p there (λ pid is. absurd (none-some pid (sym none ∙ is)))
  ]

  pub stepped_rows : (pid : Pid) → stepper_of entry ≡ Some pid → (twice : List Row) → row_of twice pid.0 ≡ unless_ended (ended (entry ∷ J) pid.0) (row_of once pid.0)
      → ((p : ℕ) → p ≢ pid.0 → row_of twice p ≡ row_of once p) → AreRows (entry ∷ J) twice
  stepped_rows pid is twice again rest p = elim (cases_eq p pid.0) [
    | inl here ↦
        left_at p twice
        (subst (λ q. row_of twice q ≡ unless_ended (ended (entry ∷ J) q) (row_of mid q)) (sym here)
        (elim (cases_eq pid.0 (tree_of J entry)) [
          | inl same ↦ again ∙ ap (unless_ended (ended (entry ∷ J) pid.0)) (at_tree pid.0 same) ∙ unless_twice (ended (entry ∷ J) pid.0) (row_of mid pid.0)
          | inr apart ↦ again ∙ ap (unless_ended (ended (entry ∷ J) pid.0)) (others pid.0 apart)
        ]))
    | inr there ↦ rest p there ∙ elim (cases_eq p (tree_of J entry)) [
      | inl same ↦ left_at p once (at_tree p same)
      | inr apart ↦ others p apart ∙ with_it p ∙ left_in entry J legal p apart (λ other at same. there (sym same ∙ ap (λ (q : Pid). q.0) (same_Some other pid (sym at ∙ is))))
    ]
  ]

-- the same of a journal that is told to have one entry more, and the root of its tree
module _ (past before : Past) (entry : Entry) (tree : Pid) (past_is : past ≡ entry ∷ before) (tree_is : tree ≡ pid_of (tree_of before entry)) (legal : IsLegal past)
    (mid once : List Row) (with_it : AreRowsWith before entry mid)
    (own : row_of once tree.0 ≡ unless_ended (ended past tree.0) (row_of mid tree.0)) (others : (p : ℕ) → p ≢ tree.0 → row_of once p ≡ row_of mid p) where
  legal_there : IsLegal (entry ∷ before)
  legal_there = subst IsLegal past_is legal

  root_is : tree.0 ≡ tree_of before entry
  root_is = ap (λ (q : Pid). q.0) tree_is

  own_there : row_of once (tree_of before entry) ≡ unless_ended (ended (entry ∷ before) (tree_of before entry)) (row_of mid (tree_of before entry))
  own_there = subst (λ q. row_of once q ≡ unless_ended (ended (entry ∷ before) q) (row_of mid q)) root_is (subst (λ (l : Past). row_of once tree.0 ≡ unless_ended (ended l tree.0) (row_of mid tree.0)) past_is own)

  others_there : (p : ℕ) → p ≢ tree_of before entry → row_of once p ≡ row_of mid p
  others_there p apart = others p (λ e. apart (e ∙ root_is))

  pub left_rows : stepper_of entry ≡ None → AreRows past once
  left_rows none = subst (λ (l : Past). AreRows l once) (sym past_is) (rootless_rows entry before legal_there mid once with_it own_there others_there none)

  pub left_rows_stepped : (pid : Pid) → stepper_of entry ≡ Some pid → (twice : List Row) → row_of twice pid.0 ≡ unless_ended (ended past pid.0) (row_of once pid.0)
      → ((p : ℕ) → p ≢ pid.0 → row_of twice p ≡ row_of once p) → AreRows past twice
  left_rows_stepped pid is twice again rest =
      subst (λ (l : Past). AreRows l twice) (sym past_is)
      (stepped_rows entry before legal_there mid once with_it own_there others_there pid is twice
      (subst (λ (l : Past). row_of twice pid.0 ≡ unless_ended (ended l pid.0) (row_of once pid.0)) past_is again) rest)
