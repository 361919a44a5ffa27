-- Each procedure of a tree that edits works on the table of its root, and so do the steps that are left to undo.
use Rattle.std.proofs.Common.{◌≡◌, ℕ, ◌+◌, ◌-◌, ◌==◌, List, [], ◌∷◌, Bool, true, false, cond, Option, Some, None, is_some, refl, ap, sym, ◌∙◌, subst, inl, inr, ◌⊎◌, slice_get, arith}
use Rattle.std.proofs.lemmas.Bool.{cases_eq, cond-false, cond-true, eq-eqb, ne_eqb}
use Rattle.std.proofs.lemmas.Option.{none-some, same_Some}
use Rattle.hm_names.specs.Server.{Server}
use Rattle.hm_names.specs.declared.pid.Pid.{Pid}
use Rattle.hm_names.specs.declared.table.TableName.{TableName}
use Rattle.hm_data.specs.declared.act.Back.{Back}
use Rattle.hm_data.specs.declared.act.Back.TheVariants as back_is
use Rattle.hm_data.specs.declared.args.Args.{Args}
use Rattle.hm_data.specs.declared.args.Args.TheVariants as args_are
use Rattle.hm_data.specs.declared.catalog.Edit.{Edit}
use Rattle.hm_data.specs.declared.entry.Entry.{Entry}
use Rattle.hm_data.specs.declared.entry.Entry.TheVariants as entry_is
use Rattle.hm_data.specs.declared.step.StepOut.{StepOut}
use Rattle.hm_model.specs.Answers.{failing, last_answer, row_of}
use Rattle.hm_model.specs.Inputs.{step_input}
use Rattle.hm_model.specs.Journal.{Past}
use Rattle.hm_model.specs.Kinds.{kind_of, table_of_request}
use Rattle.hm_model.specs.Lists.{exact_rows}
use Rattle.hm_model.specs.Rules.{IsLegal}
use Rattle.hm_model.specs.Sheets.{undo_of_next}
use Rattle.hm_model.specs.Tree.{Node, args_in, first_of, made, node_of, root_in, root_node, root_of}
use Rattle.hm_model.specs.Undo.{Undoable, pushed, rest_of, row_if_there, stack}
use Rattle.hm_model.specs.Undoing.{undo_edits}
use Rattle.hm_model.specs.Verbs.{verb_in}
use Rattle.hm_model.specs.Views.{table_of}
use Rattle.hm_model.specs.Whereabouts.{moved_by}
use Rattle.hm_model.proofs.ExactRows.{led_row, row_passes}
use Rattle.hm_model.proofs.Grown.{nodes_stay}
use Rattle.hm_model.proofs.LegalSteps.{StepFacts, ready_stops}
use Rattle.hm_model.proofs.PlainActs.{is_caller, is_plain}
use Rattle.hm_model.proofs.StepDoes.{Does, bears_by, calls as calls_part, crash as crash_part, lined as lined_part, moves as moves_part, part_of, row_by, exact_row_is}
use Rattle.hm_model.proofs.Trees.{Grown, does_of, grown_all, le_or_lt, new_child, node_same, step_of}
use Rattle.hm_model.proofs.UndoMakes.{undo_of}
use Rattle.hm_costs.proofs.Dead.{IsFollower, follower_is, plain_children}
use Rattle.hm_costs.proofs.Edits.{AreEditsOf, ClosesItsOwn, act_edits, asked_closes, edits_as, edits_turned}
use Rattle.hm_model.proofs.Transits.{caller_facts}
use Rattle.hm_costs.proofs.Spend.{AreChildren, IsChild}
use Rattle.hm_model.proofs.RootTrees.{absent_all, tree_root}
use Rattle.hm_model.proofs.Small.{cons_nil}
use Rattle.hm_costs.proofs.Each.{each_at}

-- what roots are: requests, followers of undos, and crashes
abbrev pub IsTop : Args → Type 0
IsTop (args_are.Root request first) = Unit {0}
IsTop (args_are.Crash server) = Unit {0}
IsTop args = IsFollower args

-- what a procedure says of itself
pub record IsOwn (x : Node) : Type 0 where
  pub closes : ClosesItsOwn x.args
  pub top : x.above ≡ [] → IsTop x.args

-- one that calls nobody and moves no region has the table of its root
abbrev pub IsOfTable : Args → Args → Type 0
IsOfTable top args = moved_by args ≡ None → verb_in args ≡ None → (table : TableName) → table_of args ≡ Some table → table_of top ≡ Some table

-- each step that is left to undo edited regions' rows of the table alone
abbrev pub AllUndoOf : Option TableName → List Undoable → Type 0
AllUndoOf table [] = Unit {0}
AllUndoOf table (step ∷ below) = AreEditsOf table step.edits × AllUndoOf table below

-- what procedures say of themselves, of which table they are, and what is left to undo
pub record Tabled (J : Past) : Type 0 where
  pub own : (q : ℕ) (x : Node) → node_of J q ≡ Some x → IsOwn x
  pub tables : (q : ℕ) (x top : Node) → node_of J q ≡ Some x → node_of J x.root ≡ Some top → IsOfTable top.args x.args
  pub undone : (r : ℕ) (top : Node) → node_of J r ≡ Some top → AllUndoOf (table_of top.args) (stack J r)

-- entries that make only roots, and undo nothing
tabled_rooted : (entry : Entry) (J : Past) (legal : IsLegal (entry ∷ J)) → Tabled J → ((r : ℕ) (top : Node) → node_of J r ≡ Some top → AllUndoOf (table_of top.args) (stack J r) → AllUndoOf (table_of top.args) (stack (entry ∷ J) r)) → ((r : ℕ) → node_of J r ≡ None → stack (entry ∷ J) r ≡ []) → ((q : ℕ) (x : Node) → node_of (entry ∷ J) q ≡ Some x → (node_of J q ≡ Some x) ⊎ ((node_of J q ≡ None) × (x.root ≡ q) × IsOwn x)) → Tabled (entry ∷ J)
tabled_rooted entry J legal old stacks empty new = record {
  own = λ q x is. elim (new q x is) [ inl was ↦ old.own q x was | inr root ↦ root.2 ];
  tables = λ q x top is top_is unmoved uncalled table e. elim (new q x is) [
    | inl was ↦
        let t = tree_root J legal.0 q x was in
        let one : t.0 ≡ top = same_Some t.0 top (sym (nodes_stay entry J legal x.root t.0 t.1) ∙ top_is) in
        subst (λ (n : Node). table_of n.args ≡ Some table) one (old.tables q x t.0 was t.1 unmoved uncalled table e)
    | inr root ↦
        let one : x ≡ top = same_Some x top (sym is ∙ ap (node_of (entry ∷ J)) (sym root.1) ∙ top_is) in
        subst (λ (n : Node). table_of n.args ≡ Some table) one e
  ];
  undone = λ r top is. elim (new r top is) [
    | inl was ↦ stacks r top was (old.undone r top was)
    | inr root ↦ subst (AllUndoOf (table_of top.args)) (sym (empty r root.0)) tt
  ];
}

-- an entry that makes nothing
tabled_same : (entry : Entry) (J : Past) (legal : IsLegal (entry ∷ J)) → Tabled J → ((q : ℕ) → node_of (entry ∷ J) q ≡ node_of J q) → ((r : ℕ) → stack (entry ∷ J) r ≡ stack J r) → Tabled (entry ∷ J)
tabled_same entry J legal old nodes stacks = tabled_rooted entry J legal old (λ r top is all. subst (AllUndoOf (table_of top.args)) (sym (stacks r)) all) (λ r none. stacks r ∙ (absent_all J legal.0 r none).stacked) (λ q x is. inl (sym (nodes q) ∙ is))

-- a submission and a server that goes down make one root
one_root : (J : Past) → Grown J → (args : Args) (first : ℕ) → ClosesItsOwn args → IsTop args → (q : ℕ) (x : Node) → cond (q == made J + 1) (Some (root_node q args first)) (node_of J q) ≡ Some x → (node_of J q ≡ Some x) ⊎ ((node_of J q ≡ None) × (x.root ≡ q) × IsOwn x)
one_root J grown args first closes top q x is = elim (cases_eq q (made J + 1)) [
  | inl new ↦
      let one : root_node q args first ≡ x = same_Some (root_node q args first) x (sym (cond-true (q == made J + 1) (Some (root_node q args first)) (node_of J q) (eq-eqb q (made J + 1) new)) ∙ is) in
      inr (grown.numbered q (omega (arith, new)), ap (λ (n : Node). n.root) (sym one), subst IsOwn one (record { closes = closes; top = λ e. top }))
  | inr old ↦ inl (sym (cond-false (q == made J + 1) (Some (root_node q args first)) (node_of J q) (ne_eqb q (made J + 1) old)) ∙ is)
]

-- a follower of an undo
own_follower : (x : Node) → IsFollower x.args → IsOwn x
own_follower x is = let b = by x.args is in record { closes = b.0; top = b.1 }
  where
    by : (args : Args) → IsFollower args → ClosesItsOwn args × (x.above ≡ [] → IsTop args)
    by (args_are.Transit region goal to) is = (tt, (λ e. is))
    by (args_are.SweepLayout root) is = (tt, (λ e. is))
    by args is = absurd is

-- what is left to undo after a step and after an undo
rest_undone : (table : Option TableName) (steps : List Undoable) → AllUndoOf table steps → AllUndoOf table (rest_of steps)
rest_undone table [] all = tt
rest_undone table (step ∷ below) all = all.1

undo_same : (b : Bool) (table : Option TableName) (steps : List Undoable) → AllUndoOf table steps → AllUndoOf table (cond b (rest_of steps) steps)
undo_same true table steps all = rest_undone table steps all
undo_same false table steps all = all

undo_none : (b : Bool) (steps : List Undoable) → steps ≡ [] → cond b (rest_of steps) steps ≡ []
undo_none true steps none = ap rest_of none
undo_none false steps none = none

pushed_undone : (table : Option TableName) (back : Back) (failed : Bool) (p row : ℕ) (edits : List Edit) (below : List Undoable) → AreEditsOf table edits → AllUndoOf table below → AllUndoOf table (pushed back failed p row edits below)
pushed_undone table back_is.Nothing failed p row edits below all more = more
pushed_undone table undo true p row edits below all more = more
pushed_undone table undo false p row edits below all more = (all, more)

-- a step
module _ (pid : Pid) (pick : Option Server) (out : StepOut) (J : Past) (legal : IsLegal (entry_is.Step pid pick out ∷ J)) (old : Tabled J) where
  grown : Grown J
  grown = grown_all J legal.0

  step : StepFacts J pid.0 pick out
  step = step_of pid pick out J grown legal

  does : Does J pid.0 step.node.args (last_answer J pid.0) step.sheet.rows out
  does = does_of pid pick out J grown step

  root : (top : Node) × (node_of J step.node.root ≡ Some top) × (top.above ≡ []) × (top.root ≡ step.node.root)
  root = tree_root J legal.0 pid.0 step.node step.node_is

  abbrev Here : Args → Type 0
  Here args = (IsChild step.node.args args × (moved_by step.node.args ≡ None) × (verb_in step.node.args ≡ None)) ⊎ (is_caller args ≡ true)

  plain_here : is_plain step.row.act ≡ true → AreEditsOf (table_of step.node.args) out.edits × AreChildren step.node.args (args_in out.children)
  plain_here plain = (
    subst (λ (o : StepOut). AreEditsOf (table_of step.node.args) o.edits) (sym step.out_is) (row_by (λ o. AreEditsOf (table_of step.node.args) o.edits) step.row (step_input J pid.0 step.node pick) (λ c. tt) (act_edits step.row.act plain step.row.next (step_input J pid.0 step.node pick) (old.own pid.0 step.node step.node_is).closes)),
    subst (λ (o : StepOut). AreChildren step.node.args (args_in o.children)) (sym step.out_is) (plain_children step.row (step_input J pid.0 step.node pick) plain),
  )

  -- it edits regions' rows of its root's table alone, and what it makes
  here : AreEditsOf (table_of root.0.args) out.edits × ((i : ℕ) (args : Args) → slice_get (args_in out.children) i ≡ Some args → Here args)
  here = elim (part_of step.node.args) [
    | lined_part exact unmoved uncalled ↦
        let runs = ready_stops J pid.0 step.node (last_answer J pid.0) step.ready in
        plainly unmoved uncalled (led_row (kind_of step.node.args) step.sheet step.valid (row_of J pid.0 step.node) (grown.led pid.0 step.node step.node_is exact step.sheet step.sheet_is runs) step.row step.row_is).plain
    | crash_part kind unmoved uncalled ↦ plainly unmoved uncalled (row_passes (λ row. is_plain row.act) (exact_rows 11) refl (row_of J pid.0 step.node) step.row (exact_row_is J pid.0 pick out step 11 kind _ _ refl))
    | moves_part r m kind uncalled ↦ (
      subst (AreEditsOf (table_of root.0.args)) (sym (does.editless r m)) tt,
      λ i args is. inr (sym (ap (λ o. bears_by (is_some o) (is_some (verb_in step.node.args)) (is_caller args)) m) ∙ does.bearing i args is),
    )
    | calls_part verb v unmoved exact ↦
        let call = does.calls verb v in (
          subst (AreEditsOf (table_of root.0.args)) (sym call.editless) tt,
          λ i args is. absurd (none-some args (ap (λ c. slice_get (args_in c) i) (sym call.childless) ∙ is)),
        )
  ]
    where
      plainly : moved_by step.node.args ≡ None → verb_in step.node.args ≡ None → is_plain step.row.act ≡ true → AreEditsOf (table_of root.0.args) out.edits × ((i : ℕ) (args : Args) → slice_get (args_in out.children) i ≡ Some args → Here args)
      plainly unmoved uncalled plain =
          let p = plain_here plain in (
            edits_as (table_of step.node.args) (table_of root.0.args) (λ table e. old.tables pid.0 step.node root.0 step.node_is root.1 unmoved uncalled table e) out.edits p.0,
            λ i args is. inl (each_at (IsChild step.node.args) (args_in out.children) p.1 i args is, unmoved, uncalled),
          )

  edits_of_root : (top : Node) → node_of J (root_of J pid.0) ≡ Some top → AreEditsOf (table_of top.args) out.edits
  edits_of_root top is = subst (λ (n : Node). AreEditsOf (table_of n.args) out.edits) (same_Some root.0 top (sym root.1 ∙ ap (node_of J) (sym (ap root_in step.node_is)) ∙ is)) here.0

  closes_child : (args : Args) → Here args → ClosesItsOwn args
  closes_child (args_are.Root request first) (inl h) = absurd h.0
  closes_child (args_are.Root request first) (inr h) = absurd (cc h)
  closes_child args h = tt

  child_table : (args : Args) → Here args → IsOfTable root.0.args args
  child_table args (inr h) unmoved uncalled table e = absurd (cc ((caller_facts args h).1, uncalled))
  child_table (args_are.AddRegions own first bounds) (inl h) unmoved uncalled table e = old.tables pid.0 step.node root.0 step.node_is root.1 h.1 h.2 table (h.0 ∙ e)
  child_table (args_are.DropRegions own ids) (inl h) unmoved uncalled table e = old.tables pid.0 step.node root.0 step.node_is root.1 h.1 h.2 table (h.0 ∙ e)
  child_table (args_are.Root request first) (inl h) unmoved uncalled table e = absurd h.0
  child_table (args_are.Transit region goal to) (inl h) unmoved uncalled table e = absurd (none-some region (sym unmoved))
  child_table (args_are.Crash server) (inl h) unmoved uncalled table e = absurd h.0
  child_table (args_are.AssignCall region server) (inl h) unmoved uncalled table e = absurd h.0
  child_table (args_are.CloseCall region server) (inl h) unmoved uncalled table e = absurd h.0
  child_table (args_are.FenceCall server) (inl h) unmoved uncalled table e = absurd (none-some table e)
  child_table (args_are.LayoutCall own) (inl h) unmoved uncalled table e = absurd (none-some table e)
  child_table (args_are.SweepLayout own) (inl h) unmoved uncalled table e = absurd h.0

  old_top : (q : ℕ) (x top : Node) → node_of J q ≡ Some x → node_of (entry_is.Step pid pick out ∷ J) x.root ≡ Some top → node_of J x.root ≡ Some top
  old_top q x top is top_is =
      let t = tree_root J legal.0 q x is in
      t.1 ∙ ap Some (same_Some t.0 top (sym (nodes_stay (entry_is.Step pid pick out) J legal x.root t.0 t.1) ∙ top_is))

  tabled_step : Tabled (entry_is.Step pid pick out ∷ J)
  tabled_step = record {
    own = λ q x is. elim (le_or_lt q (made J)) [
      | inl le ↦ old.own q x (sym (node_same pid pick out J q le) ∙ is)
      | inr lt ↦
          let c = new_child pid pick out J step.node step.node_is q lt x is in
          let h = here.1 (q - made J - 1) c.0 c.1 in
          subst IsOwn (sym c.2) (record { closes = closes_child c.0 h; top = λ e. absurd (cons_nil pid.0 step.node.above e) })
    ];
    tables = λ q x top is top_is. elim (le_or_lt q (made J)) [
      | inl le ↦
          let was = sym (node_same pid pick out J q le) ∙ is in
          old.tables q x top was (old_top q x top was top_is)
      | inr lt ↦
          let c = new_child pid pick out J step.node step.node_is q lt x is in
          let at : node_of (entry_is.Step pid pick out ∷ J) step.node.root ≡ Some top = ap (λ (n : Node). node_of (entry_is.Step pid pick out ∷ J) n.root) (sym c.2) ∙ top_is in
          let one : root.0 ≡ top = same_Some root.0 top (sym root.1 ∙ old_top pid.0 step.node top step.node_is at) in
          subst (λ (n : Node). IsOfTable top.args n.args) (sym c.2) (subst (λ (n : Node). IsOfTable n.args c.0) one (child_table c.0 (here.1 (q - made J - 1) c.0 c.1)))
    ];
    undone = λ r top is. elim (le_or_lt r (made J)) [
      | inr lt ↦
          let none = grown.numbered r lt in
          let far : root_of J pid.0 ≡ r → ⊥ = (λ e. none-some root.0 (sym none ∙ ap (node_of J) (sym e ∙ ap root_in step.node_is) ∙ root.1)) in
          subst (AllUndoOf (table_of top.args)) (sym (cond-false (root_of J pid.0 == r) _ (stack J r) (ne_eqb (root_of J pid.0) r far) ∙ (absent_all J legal.0 r none).stacked)) tt
      | inl le ↦
          let was = sym (node_same pid pick out J r le) ∙ is in
          elim (cases_eq (root_of J pid.0) r) [
            | inr other ↦ subst (AllUndoOf (table_of top.args)) (sym (cond-false (root_of J pid.0 == r) _ (stack J r) (ne_eqb (root_of J pid.0) r other))) (old.undone r top was)
            | inl mine ↦
                let one : root.0 ≡ top = same_Some root.0 top (sym root.1 ∙ ap (node_of J) (sym (ap root_in step.node_is) ∙ mine) ∙ was) in
                subst (AllUndoOf (table_of top.args)) (sym (cond-true (root_of J pid.0 == r) _ (stack J r) (eq-eqb (root_of J pid.0) r mine)))
                (pushed_undone (table_of top.args) (undo_of_next J pid.0 (node_of J pid.0)) (is_some (failing out.answer)) pid.0 (row_if_there J pid.0 (node_of J pid.0)) out.edits (stack J r) (subst (λ (n : Node). AreEditsOf (table_of n.args) out.edits) one here.0) (old.undone r top was))
          ]
    ];
  }

-- so it is in every legal journal
pub tabled_all : (J : Past) → IsLegal J → Tabled J
tabled_all [] legal = record { own = λ q x is. absurd (none-some x is); tables = λ q x top is. absurd (none-some x is); undone = λ r top is. tt }
tabled_all (entry_is.Submit nonce request ∷ J) legal = tabled_rooted (entry_is.Submit nonce request) J legal (tabled_all J legal.0) (λ r top is all. all) (λ r none. (absent_all J legal.0 r none).stacked) (λ q x is. one_root J (grown_all J legal.0) (args_are.Root request (first_of J (table_of_request request))) (first_of J (table_of_request request)) (asked_closes request (first_of J (table_of_request request)) legal.1.1.0) tt q x is)
tabled_all (entry_is.Step pid pick out ∷ J) legal = tabled_step pid pick out J legal (tabled_all J legal.0)
tabled_all (entry_is.Undo pid row out ∷ J) legal =
    tabled_rooted (entry_is.Undo pid row out) J legal (tabled_all J legal.0) (λ r top is all. undo_same (root_of J pid.0 == r) (table_of top.args) (stack J r) all) (λ r none. undo_none (root_of J pid.0 == r) (stack J r) (absent_all J legal.0 r none).stacked)
    (λ q x is. by q x is (node_of J q) refl)
  where
    by : (q : ℕ) (x : Node) → node_of (entry_is.Undo pid row out ∷ J) q ≡ Some x → (o : Option Node) → node_of J q ≡ o → (node_of J q ≡ Some x) ⊎ ((node_of J q ≡ None) × (x.root ≡ q) × IsOwn x)
    by q x is (Some y) e = inl (e ∙ sym (nodes_stay (entry_is.Undo pid row out) J legal q y e) ∙ is)
    by q x is None e = elim (Rattle.hm_model.proofs.Trees.old_or_new J (entry_is.Undo pid row out ∷ J) (Rattle.hm_model.proofs.Trees.undo_rooted pid row out J (grown_all J legal.0)) (grown_all J legal.0) q x is) [
      | inl was ↦ inl was
      | inr new ↦ inr (e, ap (λ (n : Node). n.root) new.2, own_follower x (follower_is pid row out J legal q x e is))
    ]
tabled_all (entry_is.Down server ∷ J) legal = tabled_rooted (entry_is.Down server) J legal (tabled_all J legal.0) (λ r top is all. all) (λ r none. (absent_all J legal.0 r none).stacked) (λ q x is. one_root J (grown_all J legal.0) (args_are.Crash server) 1 tt tt q x is)
tabled_all (entry_is.Base part ∷ J) legal = record { own = λ q x is. absurd (none-some x is); tables = λ q x top is. absurd (none-some x is); undone = λ r top is. tt }
tabled_all (entry ∷ J) legal = tabled_same entry J legal (tabled_all J legal.0) (λ q. refl) (λ r. refl)

-- a step edits regions' rows of its root's table alone
pub step_edits : (pid : Pid) (pick : Option Server) (out : StepOut) (J : Past) → IsLegal (entry_is.Step pid pick out ∷ J) → (top : Node) → node_of J (root_of J pid.0) ≡ Some top → AreEditsOf (table_of top.args) out.edits
step_edits pid pick out J legal = edits_of_root pid pick out J legal (tabled_all J legal.0)

-- so does an undo
pub undo_edits_of : (pid : Pid) (row : ℕ) (out : StepOut) (J : Past) → IsLegal (entry_is.Undo pid row out ∷ J) → (top : Node) → node_of J (root_of J pid.0) ≡ Some top → AreEditsOf (table_of top.args) out.edits
undo_edits_of pid row out J legal top is =
    let u = undo_of pid row out J legal in
    let all = subst (AllUndoOf (table_of top.args)) u.stack_is ((tabled_all J legal.0).undone (root_of J pid.0) top is) in
    subst (λ (o : StepOut). AreEditsOf (table_of top.args) o.edits) (sym u.out_is) (by u.undo u.latest.edits all.0)
  where
    by : (back : Back) (edits : List Edit) → AreEditsOf (table_of top.args) edits → AreEditsOf (table_of top.args) (undo_edits back edits)
    by back_is.Edits edits all = edits_turned (table_of top.args) edits all
    by undo edits all = tt
