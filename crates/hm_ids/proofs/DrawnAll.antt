-- In every legal journal a region's row has an id that its table has drawn.
use Rattle.hm_data.specs.declared.catalog.CatRow.TheVariants as row_is
use Rattle.hm_names.specs.Region.{Region}
use Rattle.hm_model.proofs.Rising.{table_new}
use Rattle.hm_model.proofs.KeyTests.{same_table-is}
use Rattle.std.proofs.lemmas.Bool.{cases_Bool}
use Rattle.hm_model.specs.Base.{PartFits}
use Rattle.hm_data.specs.declared.part.Part.{Part}
use Rattle.hm_data.specs.declared.part.Part.TheVariants as part_is
use Rattle.hm_model.specs.Parts.{part_row}
use Rattle.std.proofs.Common.{◌≡◌, ℕ, ◌+◌, ◌-◌, ◌≤◌, Bool, true, false, cond, nat_lt, ◌==◌, List, [], ◌∷◌, Option, Some, None, refl, sym, ap, subst, ◌∙◌, inl, inr, arith, slice_get}
use Rattle.std.specs.Option.{option_map}
use Rattle.std.proofs.lemmas.Bool.{cases_eq, cond-true, cond-false, eq-eqb, ne_eqb, lt-ltb, le-ltb}
use Rattle.std.proofs.lemmas.Option.{none-some, same_Some}
use Rattle.hm_names.specs.Server.{Server}
use Rattle.hm_names.specs.declared.nonce.Nonce.{Nonce}
use Rattle.hm_names.specs.declared.pid.Pid.{Pid}
use Rattle.hm_names.specs.declared.table.TableName.{TableName}
use Rattle.hm_data.specs.declared.args.Args.{Args}
use Rattle.hm_data.specs.declared.args.Args.TheVariants as args_are
use Rattle.hm_data.specs.declared.catalog.CatKey.{CatKey}
use Rattle.hm_data.specs.declared.catalog.CatKey.TheVariants as key_is
use Rattle.hm_data.specs.declared.catalog.CatRow.{CatRow}
use Rattle.hm_data.specs.declared.catalog.Edit.{Edit}
use Rattle.hm_data.specs.declared.entry.Entry.TheVariants as entry_is
use Rattle.hm_data.specs.declared.request.Request.{Request}
use Rattle.hm_data.specs.declared.act.Back.{Back}
use Rattle.hm_data.specs.declared.act.Back.TheVariants as back_is
use Rattle.hm_data.specs.declared.step.StepOut.{StepOut}
use Rattle.hm_model.proofs.KeyTests.{cases_key, same_table-refl}
use Rattle.hm_model.proofs.Trees.{grown_all, le_or_lt, new_child, node_same, step_of}
use Rattle.hm_model.proofs.UndoMakes.{undo_of}
use Rattle.hm_model.specs.Catalog.{Catalog, at_start, cat, edited, keep, keys_of, row_at, rows_at}
use Rattle.hm_model.specs.Inputs.{step_input}
use Rattle.hm_model.specs.Journal.{Past}
use Rattle.hm_model.specs.Keys.{same_key, same_table}
use Rattle.hm_model.specs.Kinds.{table_of_request}
use Rattle.hm_model.specs.Reads.{reads}
use Rattle.hm_model.specs.Rules.{IsLegal}
use Rattle.hm_model.specs.Tree.{Node, args_in, drawn, first_of, ids_for, made, new_ids, node_of, root_node, root_of, submitted}
use Rattle.hm_model.specs.Undo.{Undoable, pushed, rest_of, stack}
use Rattle.hm_kinds.proofs.Kids.{AllMade, made_at}
use Rattle.hm_ids.proofs.Drawn.{AllDrawn, ArgsDrawn, IsDrawnAt, IsFine, SeenDrawn, fine_row, followers_fine, undo_drawn}
use Rattle.hm_ids.specs.Drawn.{RegionIdsAreDrawn}

abbrev pub StackDrawn : (TableName → ℕ → Type 0) → List Undoable → Type 0
StackDrawn d [] = Unit {0}
StackDrawn d (step ∷ below) = AllDrawn d step.edits × StackDrawn d below

-- an id that a journal has drawn for a table
abbrev pub DrawnIn : Past → TableName → ℕ → Type 0
DrawnIn J t i = (1 ≤ i) × (i ≤ drawn J t)

-- where as many are drawn, or more
pub drawn_more : (J J' : Past) → ((t : TableName) → drawn J t ≤ drawn J' t) → (t : TableName) (i : ℕ) → DrawnIn J t i → DrawnIn J' t i
drawn_more J J' more t i at = (at.0, (let le = at.1 in let all = more t in omega (arith, le, all)))

pub record IsDrawn (J : Past) : Type 0 where
  pub rows : SeenDrawn (DrawnIn J) (cat J)
  pub args : (p : ℕ) (node : Node) → node_of J p ≡ Some node → ArgsDrawn (DrawnIn J) node.args
  pub stacks : (r : ℕ) → StackDrawn (DrawnIn J) (stack J r)

-- where more is drawn
module _ (d e : TableName → ℕ → Type 0) (more : (t : TableName) (i : ℕ) → d t i → e t i) where
  pub at_more : (key : CatKey) (row : Option CatRow) → IsDrawnAt d key row → IsDrawnAt e key row
  at_more (key_is.Region region) row at = λ some. more region.table region.id (at some)
  at_more key row at = tt

  edits_more : (edits : List Edit) → AllDrawn d edits → AllDrawn e edits
  edits_more [] all = tt
  edits_more (edit ∷ edits) all = (at_more edit.key edit.before all.0, at_more edit.key edit.after all.1, edits_more edits all.2)

  stack_more : (steps : List Undoable) → StackDrawn d steps → StackDrawn e steps
  stack_more [] all = tt
  stack_more (step ∷ below) all = (edits_more step.edits all.0, stack_more below all.1)

  pub args_more : (args : Args) → ArgsDrawn d args → ArgsDrawn e args
  args_more (args_are.Root request first) fits = λ t is i low high. more t i (fits t is i low high)
  args_more (args_are.AddRegions table first bounds) fits = λ i low high. more table i (fits i low high)
  args_more args fits = tt

module _ (d : TableName → ℕ → Type 0) where
  pub edited_drawn : (edits : List Edit) (key : CatKey) (row : Option CatRow) → AllDrawn d edits → IsDrawnAt d key row → IsDrawnAt d key (edited edits key row)
  edited_drawn [] key row all at = at
  edited_drawn (edit ∷ edits) key row all at = edited_drawn edits key (cond (same_key key edit.key) edit.after row) all.2 (elim (cases_key key edit.key) [
    | inl same ↦ subst (IsDrawnAt d key) (sym (cond-true (same_key key edit.key) edit.after row same.0)) (subst (λ k. IsDrawnAt d k edit.after) (sym same.1) all.1)
    | inr differs ↦ subst (IsDrawnAt d key) (sym (cond-false (same_key key edit.key) edit.after row differs.0)) at
  ])

  pub pushed_drawn : (undo : Back) (failed : Bool) (p row : ℕ) (edits : List Edit) (below : List Undoable) → AllDrawn d edits → StackDrawn d below → StackDrawn d (pushed undo failed p row edits below)
  pushed_drawn back_is.Nothing failed p row edits below one all = all
  pushed_drawn back_is.Edits true p row edits below one all = all
  pushed_drawn back_is.Edits false p row edits below one all = (one, all)
  pushed_drawn back_is.Sweep true p row edits below one all = all
  pushed_drawn back_is.Sweep false p row edits below one all = (one, all)
  pushed_drawn back_is.Reopen true p row edits below one all = all
  pushed_drawn back_is.Reopen false p row edits below one all = (one, all)

  pub rest_drawn : (steps : List Undoable) → StackDrawn d steps → StackDrawn d (rest_of steps)
  rest_drawn [] all = tt
  rest_drawn (step ∷ below) all = all.1

  pub either_drawn : (b : Bool) (one other : List Undoable) → StackDrawn d one → StackDrawn d other → StackDrawn d (cond b one other)
  either_drawn true one other h k = h
  either_drawn false one other h k = k

  pub none_drawn : (key : CatKey) → IsDrawnAt d key None
  none_drawn (key_is.Region region) = λ some. absurd (some refl)
  none_drawn key = tt

  -- what is read of a catalog
  pub read_drawn : (asked : CatKey → Bool) (there : Catalog) (keys : List CatKey) → SeenDrawn d there → SeenDrawn d (row_at (rows_at asked there keys))
  read_drawn asked there [] rows key = none_drawn key
  read_drawn asked there (first ∷ keys) rows key = by (read_drawn asked there keys rows key) (asked first) (there first) refl
    where
      by : IsDrawnAt d key (row_at (rows_at asked there keys) key) → (b : Bool) (o : Option CatRow) → there first ≡ o → IsDrawnAt d key (row_at (keep b first o (rows_at asked there keys)) key)
      by rest false o e = rest
      by rest true None e = rest
      by rest true (Some row) e = elim (cases_key key first) [
        | inl same ↦ subst (IsDrawnAt d key) (sym (cond-true (same_key key first) (Some row) (row_at (rows_at asked there keys) key) same.0)) (subst (IsDrawnAt d key) e (subst (λ k. IsDrawnAt d key (there k)) same.1 (rows key)))
        | inr differs ↦ subst (IsDrawnAt d key) (sym (cond-false (same_key key first) (Some row) (row_at (rows_at asked there keys) key) differs.0)) rest
      ]

start_drawn : SeenDrawn (DrawnIn []) at_start
start_drawn (key_is.Region region) = λ some. absurd (some refl)
start_drawn key = tt

-- a submission
module _ (nonce : Nonce) (request : Request) (J : Past) (kept : IsDrawn J) where
  more_drawn : (t : TableName) (i : ℕ) → DrawnIn J t i → DrawnIn (entry_is.Submit nonce request ∷ J) t i
  more_drawn = drawn_more J (entry_is.Submit nonce request ∷ J) (λ t. omega arith)

  pub from_one : (o : Option TableName) → 1 ≤ first_of J o
  from_one None = omega arith
  from_one (Some table) = omega arith

  own_ids : (o : Option TableName) (t : TableName) → o ≡ Some t → first_of J o + new_ids request ≤ drawn J t + ids_for o (new_ids request) t + 1
  own_ids None t e = absurd (none-some t e)
  own_ids (Some own) t e =
      let all : ids_for (Some own) (new_ids request) t ≡ new_ids request = cond-true (same_table own t) (new_ids request) 0 (ap (λ x. same_table x t) (same_Some own t e) ∙ same_table-refl t) in
      let same : drawn J own ≡ drawn J t = ap (drawn J) (same_Some own t e) in
      omega (arith, all, same)

  submit_args : (p : ℕ) (node : Node) → node_of (entry_is.Submit nonce request ∷ J) p ≡ Some node → ArgsDrawn (DrawnIn (entry_is.Submit nonce request ∷ J)) node.args
  submit_args p node is = elim (cases_eq p (made J + 1)) [
    | inl same ↦
        let one : submitted J request p ≡ node = same_Some (submitted J request p) node (sym (cond-true (p == made J + 1) (Some (submitted J request p)) (node_of J p) (eq-eqb p (made J + 1) same)) ∙ is) in
        subst (λ (n : Node). ArgsDrawn (DrawnIn (entry_is.Submit nonce request ∷ J)) n.args) one (λ t e i low high. ((let one = from_one (table_of_request request) in omega (arith, low, one)), (let own = own_ids (table_of_request request) t e in omega (arith, own, high))))
    | inr differs ↦ args_more (DrawnIn J) (DrawnIn (entry_is.Submit nonce request ∷ J)) more_drawn node.args (kept.args p node (sym (cond-false (p == made J + 1) (Some (submitted J request p)) (node_of J p) (ne_eqb p (made J + 1) differs)) ∙ is))
  ]

  submit_drawn : IsDrawn (entry_is.Submit nonce request ∷ J)
  submit_drawn = record {
    rows = λ key. at_more (DrawnIn J) (DrawnIn (entry_is.Submit nonce request ∷ J)) more_drawn key (cat J key) (kept.rows key);
    args = submit_args;
    stacks = λ r. stack_more (DrawnIn J) (DrawnIn (entry_is.Submit nonce request ∷ J)) more_drawn (stack J r) (kept.stacks r);
  }

-- a step
module _ (pid : Pid) (pick : Option Server) (out : StepOut) (J : Past) (legal : IsLegal (entry_is.Step pid pick out ∷ J)) (kept : IsDrawn J) where
  step_fine : IsFine (DrawnIn J) out
  step_fine =
      let step = step_of pid pick out J (grown_all J legal.0) legal in
      subst (IsFine (DrawnIn J)) (sym step.out_is) (fine_row (DrawnIn J) step.row (step_input J pid.0 step.node pick) (kept.args pid.0 step.node step.node_is) (read_drawn (DrawnIn J) (reads step.node.args) (cat J) (keys_of J) kept.rows))

  step_args : (p : ℕ) (node : Node) → node_of (entry_is.Step pid pick out ∷ J) p ≡ Some node → ArgsDrawn (DrawnIn J) node.args
  step_args p node is = elim (le_or_lt p (made J)) [
    | inl le ↦ kept.args p node (sym (node_same pid pick out J p le) ∙ is)
    | inr lt ↦
        let step = step_of pid pick out J (grown_all J legal.0) legal in
        let kid = new_child pid pick out J step.node step.node_is p lt node is in
        subst (λ (n : Node). ArgsDrawn (DrawnIn J) n.args) (sym kid.2) (made_at (ArgsDrawn (DrawnIn J)) out.children step_fine.kids (p - made J - 1) kid.0 kid.1)
  ]

  step_drawn : IsDrawn (entry_is.Step pid pick out ∷ J)
  step_drawn = record {
    rows = λ key. edited_drawn (DrawnIn J) out.edits key (cat J key) step_fine.edits (kept.rows key);
    args = step_args;
    stacks = λ r. either_drawn (DrawnIn J) (root_of J pid.0 == r) _ (stack J r) (pushed_drawn (DrawnIn J) _ _ pid.0 _ out.edits (stack J r) step_fine.edits (kept.stacks r)) (kept.stacks r);
  }

-- an undo
module _ (pid : Pid) (row : ℕ) (out : StepOut) (J : Past) (legal : IsLegal (entry_is.Undo pid row out ∷ J)) (kept : IsDrawn J) where
  undo_edits_drawn : AllDrawn (DrawnIn J) out.edits
  undo_edits_drawn =
      let u = undo_of pid row out J legal in
      subst (λ (o : StepOut). AllDrawn (DrawnIn J) o.edits) (sym u.out_is) (undo_drawn (DrawnIn J) u.undo u.latest.edits (subst (StackDrawn (DrawnIn J)) u.stack_is (kept.stacks (root_of J pid.0))).0)

  undo_kids : AllMade (ArgsDrawn (DrawnIn J)) out.followers
  undo_kids =
      let u = undo_of pid row out J legal in
      subst (λ (o : StepOut). AllMade (ArgsDrawn (DrawnIn J)) o.followers) (sym u.out_is) (followers_fine (DrawnIn J) u.undo u.args u.root)

  undo_args : (p : ℕ) (node : Node) → node_of (entry_is.Undo pid row out ∷ J) p ≡ Some node → ArgsDrawn (DrawnIn J) node.args
  undo_args p node is = elim (le_or_lt p (made J)) [
    | inl le ↦ kept.args p node (sym (cond-false (nat_lt (made J) p) (option_map (λ args. root_node p args 1) (slice_get (args_in out.followers) (p - made J - 1))) (node_of J p) (le-ltb (made J) p le)) ∙ is)
    | inr lt ↦ by (slice_get (args_in out.followers) (p - made J - 1)) refl (sym (cond-true (nat_lt (made J) p) (option_map (λ args. root_node p args 1) (slice_get (args_in out.followers) (p - made J - 1))) (node_of J p) (lt-ltb (made J) p lt)) ∙ is)
  ]
    where
      by : (o : Option Args) → slice_get (args_in out.followers) (p - made J - 1) ≡ o → option_map (λ args. root_node p args 1) o ≡ Some node → ArgsDrawn (DrawnIn J) node.args
      by None e m = absurd (none-some node m)
      by (Some args) e m = subst (λ (n : Node). ArgsDrawn (DrawnIn J) n.args) (same_Some (root_node p args 1) node m) (made_at (ArgsDrawn (DrawnIn J)) out.followers undo_kids (p - made J - 1) args e)

  undo_drawn_all : IsDrawn (entry_is.Undo pid row out ∷ J)
  undo_drawn_all = record {
    rows = λ key. edited_drawn (DrawnIn J) out.edits key (cat J key) undo_edits_drawn (kept.rows key);
    args = undo_args;
    stacks = λ r. either_drawn (DrawnIn J) (root_of J pid.0 == r) (rest_of (stack J r)) (stack J r) (rest_drawn (DrawnIn J) (stack J r) (kept.stacks r)) (kept.stacks r);
  }

-- a server that went down
down_args : (server : Server) (J : Past) → IsDrawn J → (p : ℕ) (node : Node) → node_of (entry_is.Down server ∷ J) p ≡ Some node → ArgsDrawn (DrawnIn J) node.args
down_args server J kept p node is = elim (cases_eq p (made J + 1)) [
  | inl same ↦ subst (λ (n : Node). ArgsDrawn (DrawnIn J) n.args) (same_Some (root_node p (args_are.Crash server) 1) node (sym (cond-true (p == made J + 1) (Some (root_node p (args_are.Crash server) 1)) (node_of J p) (eq-eqb p (made J + 1) same)) ∙ is)) tt
  | inr differs ↦ kept.args p node (sym (cond-false (p == made J + 1) (Some (root_node p (args_are.Crash server) 1)) (node_of J p) (ne_eqb p (made J + 1) differs)) ∙ is)
]

part_drawn_at : (part : Part) (J : Past) → IsLegal J → PartFits part J → SeenDrawn (DrawnIn J) (cat J) → (key : CatKey) → IsDrawnAt (DrawnIn (entry_is.Base part ∷ J)) key (part_row part key (cat J key))
part_drawn_at part J legal fits was (key_is.Ns ns) = tt
part_drawn_at part J legal fits was (key_is.Table table) = tt
part_drawn_at (part_is.Head entries last parts sheets) J legal fits was (key_is.Region r) = λ some. absurd (some refl)
part_drawn_at (part_is.Namespace ns) J legal fits was (key_is.Region r) = was (key_is.Region r)
part_drawn_at (part_is.Server server fenced) J legal fits was (key_is.Region r) = was (key_is.Region r)
part_drawn_at (part_is.Root pid nonce args cause) J legal fits was (key_is.Region r) = was (key_is.Region r)
part_drawn_at (part_is.Layout pid) J legal fits was (key_is.Region r) = was (key_is.Region r)
part_drawn_at (part_is.Table own ids row) J legal fits was (key_is.Region r) = λ some. (let had = was (key_is.Region r) some in elim (cases_Bool (same_table own r.table)) [
  | inl on ↦ let none : drawn J r.table ≡ 0 = ap (drawn J) (sym (same_table-is own r.table on)) ∙ (table_new own ids row J legal fits).1 in absurd (omega (arith, had.0, had.1, none))
  | inr off ↦ (had.0, rw off had.1)
])
part_drawn_at (part_is.Region own range status parents place) J legal fits was (key_is.Region r) = λ some. elim (cases_key (key_is.Region r) (key_is.Region own)) [
  | inl same ↦ subst (λ (q : Region). (1 ≤ q.id) × (q.id ≤ drawn J q.table)) (own_is same.1) (fits.1, fits.2)
  | inr differs ↦ was (key_is.Region r) (λ none. some (cond-false (same_key (key_is.Region r) (key_is.Region own)) (Some (row_is.Region range status parents)) (cat J (key_is.Region r)) differs.0 ∙ none))
]
  where
    own_is : key_is.Region r ≡ key_is.Region own → own ≡ r
    own_is e = cc

pub drawn_all : (J : Past) → IsLegal J → IsDrawn J
drawn_all [] legal = record { rows = start_drawn; args = λ p node is. absurd (none-some node is); stacks = λ r. tt }
drawn_all (entry_is.Submit nonce request ∷ J) legal = submit_drawn nonce request J (drawn_all J legal.0)
drawn_all (entry_is.Step pid pick out ∷ J) legal = step_drawn pid pick out J legal (drawn_all J legal.0)
drawn_all (entry_is.Undo pid row out ∷ J) legal = undo_drawn_all pid row out J legal (drawn_all J legal.0)
drawn_all (entry_is.Down server ∷ J) legal = let k = drawn_all J legal.0 in record { rows = k.rows; args = down_args server J k; stacks = k.stacks }
drawn_all (entry_is.Base part ∷ J) legal = record { rows = λ key. part_drawn_at part J legal.0 legal.1.0 (drawn_all J legal.0).rows key; args = λ p node is. absurd (none-some node is); stacks = λ r. tt }
drawn_all (entry ∷ J) legal = let k = drawn_all J legal.0 in record { rows = k.rows; args = k.args; stacks = k.stacks }

pub ids_are_drawn : RegionIdsAreDrawn
ids_are_drawn J legal table id some = (drawn_all J legal).rows (key_is.Region (record { table = table; id = id })) some
