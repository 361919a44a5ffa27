-- The regions of legal journals have ids that were drawn.
use Rattle.std.proofs.Common.{◌≡◌, ℕ, zero, suc, ◌+◌, ◌-◌, ◌≤◌, Bool, true, false, ◌||◌, ◌==◌, if◌then◌else◌, is_some, List, [], ◌∷◌, ◌++◌, slice_get, Option, Some, None, refl, ap, sym, subst, ◌∙◌, inl, inr, arith}
use Rattle.std.specs.Option.{option_map}
use Rattle.std.specs.Prelude.{codes}
use Rattle.std.specs.Str.{bytes_eq}
use Rattle.std.proofs.lemmas.Bool.{cases_Bool, cases_eq, cond-true}
use Rattle.std.proofs.lemmas.Option.{none-some, same_Some}
use Rattle.hm_names.specs.Server.{Server}
use Rattle.hm_names.specs.declared.nonce.Nonce.{Nonce}
use Rattle.hm_names.specs.declared.pid.Pid.{Pid}
use Rattle.hm_names.specs.declared.table.TableName.{TableName}
use Rattle.hm_data.specs.declared.act.Back.{Back}
use Rattle.hm_data.specs.declared.act.Back.TheVariants as back_is
use Rattle.hm_data.specs.declared.args.Args.{Args}
use Rattle.hm_data.specs.declared.args.Args.TheVariants as args_are
use Rattle.hm_data.specs.declared.args.Child.{Child}
use Rattle.hm_data.specs.declared.args.Child.TheVariants as child_is
use Rattle.hm_data.specs.declared.catalog.CatKey.{CatKey}
use Rattle.hm_data.specs.declared.catalog.CatKey.TheVariants as key_is
use Rattle.hm_data.specs.declared.catalog.CatRow.{CatRow}
use Rattle.hm_data.specs.declared.catalog.CatRow.TheVariants as row_is
use Rattle.hm_data.specs.declared.catalog.Edit.{Edit}
use Rattle.hm_data.specs.declared.entry.Entry.TheVariants as entry_is
use Rattle.hm_data.specs.declared.part.Part.{Part}
use Rattle.hm_data.specs.declared.part.Part.TheVariants as part_is
use Rattle.hm_data.specs.declared.place.Goal.{Goal}
use Rattle.hm_data.specs.declared.request.Request.{Request}
use Rattle.hm_data.specs.declared.sheet.Sheet.{Sheet}
use Rattle.hm_data.specs.declared.step.StepIn.{StepIn}
use Rattle.hm_data.specs.declared.step.StepOut.{StepOut}
use Rattle.hm_model.specs.Answers.{failing}
use Rattle.hm_model.specs.Base.{PartFits}
use Rattle.hm_model.specs.Catalog.{Catalog, at_start, cat, edited, keep, keys_of, row_at, rows_at}
use Rattle.hm_model.specs.Evaluation.{answer_of}
use Rattle.hm_model.specs.Inputs.{IsEvaluated, input, latest_input, step_input, turn_input, undo_input, undoes}
use Rattle.hm_model.specs.Journal.{Past}
use Rattle.hm_model.specs.Keys.{same_key, same_table}
use Rattle.hm_model.specs.Kinds.{table_of_request}
use Rattle.hm_model.specs.Parts.{part_row}
use Rattle.hm_model.specs.Reads.{reads}
use Rattle.hm_model.specs.Rules.{IsLegal}
use Rattle.hm_model.specs.Sheets.{sheet_for, sheets_by, undo_of_next}
use Rattle.hm_model.specs.Tree.{Node, args_in, child_args, made, node_of, root_node, root_of, submitted, drawn, first_of, ids_for, new_ids}
use Rattle.hm_model.specs.Undo.{Undoable, pushed, rest_of, row_if_there, stack}
use Rattle.hm_model.proofs.Grown.{down_new, down_old, submit_new, submit_old, undo_new}
use Rattle.hm_model.proofs.Said.{said_by}
use Rattle.hm_model.proofs.Trees.{grown_all, le_or_lt, new_child, node_same, undo_rooted}
use Rattle.hm_model.proofs.KeyTests.{same_table-is, same_table-refl, same_key-is}
use Rattle.hm_model.proofs.Rising.{table_new}
use Rattle.hm_frames.proofs.DrawnActs.{IfLow, IsLow, IsLowArgs, IsLowChild, IsLowEdit, IsLowOut, SeesLow, ns_low, table_low, turn_low}
use Rattle.hm_frames.proofs.ShortForms.{Each}

abbrev AreLowEdits : (TableName → ℕ) → Undoable → Type 0
AreLowEdits d step = Each (IsLowEdit d) step.edits

-- what steps see of a journal has ids that were drawn
pub record IsLowPast (d : TableName → ℕ) (J : Past) : Type 0 where
  pub nodes : (p : ℕ) (node : Node) → node_of J p ≡ Some node → IsLowArgs d node.args
  pub rows : (key : CatKey) → IfLow d key (cat J key)
  pub steps : (r : ℕ) → Each (AreLowEdits d) (stack J r)

-- so many more were drawn
module _ (d d' : TableName → ℕ) (more : (t : TableName) → d t ≤ d' t) where
  low_more : (key : CatKey) → IsLow d key → IsLow d' key
  low_more (key_is.Ns ns) is = tt
  low_more (key_is.Table table) is = tt
  low_more (key_is.Region region) is = (is.0, omega (arith, is.1, more region.table))

  if_more : (key : CatKey) (row : Option CatRow) → IfLow d key row → IfLow d' key row
  if_more key None is = tt
  if_more key (Some row) is = low_more key is

  edits_more : (edits : List Edit) → Each (IsLowEdit d) edits → Each (IsLowEdit d') edits
  edits_more [] are = tt
  edits_more (e ∷ edits) are = ((if_more e.key e.before are.0.0, if_more e.key e.after are.0.1), edits_more edits are.1)

  args_more : (args : Args) → IsLowArgs d args → IsLowArgs d' args
  args_more (args_are.Root asked first) is = (is.0, λ t e. omega (arith, is.1 t e, more t))
  args_more (args_are.Transit region goal to) is = tt
  args_more (args_are.Crash server) is = tt
  args_more (args_are.AddRegions table first bounds) is = (is.0, omega (arith, is.1, more table))
  args_more (args_are.DropRegions table ids) is = tt
  args_more (args_are.AssignCall region server) is = tt
  args_more (args_are.CloseCall region server) is = tt
  args_more (args_are.FenceCall server) is = tt
  args_more (args_are.LayoutCall root) is = tt
  args_more (args_are.SweepLayout root) is = tt

  steps_more : (steps : List Undoable) → Each (AreLowEdits d) steps → Each (AreLowEdits d') steps
  steps_more [] are = tt
  steps_more (step ∷ steps) are = (edits_more step.edits are.0, steps_more steps are.1)

-- rows that are read
read_keep : (d : TableName → ℕ) (b : Bool) (k key : CatKey) (row : Option CatRow) (more : List (CatKey × CatRow)) → IfLow d k row → IfLow d key (row_at more key) → IfLow d key (row_at (keep b k row more) key)
read_keep d false k key row more is rest = rest
read_keep d true k key None more is rest = rest
read_keep d true k key (Some row) more is rest = by (same_key key k) refl
  where
    by : (b : Bool) → same_key key k ≡ b → IfLow d key (if b then Some row else row_at more key)
    by true e = subst (IsLow d) (sym (same_key-is key k e)) is
    by false e = rest

read_low : (d : TableName → ℕ) (asked : CatKey → Bool) (there : Catalog) → ((key : CatKey) → IfLow d key (there key)) → (keys : List CatKey) (key : CatKey) → IfLow d key (row_at (rows_at asked there keys) key)
read_low d asked there rows [] key = tt
read_low d asked there rows (k ∷ keys) key = read_keep d (asked k) k key (there k) (rows_at asked there keys) (rows k) (read_low d asked there rows keys key)

-- what a step or an undo sees, and what it answers
module _ (d : TableName → ℕ) (J : Past) (low : IsLowPast d J) where
  step_sees : (p : ℕ) (node : Node) (pick : Option Server) → IsLowArgs d node.args → SeesLow d (step_input J p node pick)
  step_sees p node pick is = record { args = is; rows = read_low d (reads node.args) (cat J) low.rows (keys_of J); turn = tt }

  latest_sees : (at : StepIn) (steps : List Undoable) → SeesLow d at → Each (AreLowEdits d) steps → SeesLow d (latest_input J steps at)
  latest_sees at [] sees are = sees
  latest_sees at (latest ∷ below) sees are = by (node_of J latest.pid) refl
    where
      by : (o : Option Node) → node_of J latest.pid ≡ o → SeesLow d (elim o as (λ n. StepIn) [ None ↦ at | Some its ↦ undo_input latest its at ])
      by None e = sees
      by (Some its) e = record { args = low.nodes latest.pid its e; rows = sees.rows; turn = are.0 }

  input_sees : (p : ℕ) (node : Node) (pick : Option Server) → IsLowArgs d node.args → SeesLow d (input J p node pick)
  input_sees p node pick is = by (undoes J p node)
    where
      by : (b : Bool) → SeesLow d (turn_input J b (stack J p) (step_input J p node pick))
      by true = latest_sees (step_input J p node pick) (stack J p) (step_sees p node pick is) (low.steps p)
      by false = step_sees p node pick is

  answered_low : (sheets : List Sheet) (at : StepIn) (out : StepOut) → SeesLow d at → answer_of sheets at ≡ Some out → IsLowOut d out
  answered_low sheets at out sees is =
      let said = said_by (sheet_for sheets at.kind) at out is in
      subst (IsLowOut d) (sym said.4) (turn_low d said.2 at sees)

  evaluated_low : (p : ℕ) (pick : Option Server) (out : StepOut) → IsEvaluated J p pick out → IsLowOut d out
  evaluated_low p pick out is = answered_low (sheets_by J is.0.root) (input J p is.0 pick) out (input_sees p is.0 pick (low.nodes p is.0 is.1)) is.2

  -- the procedures that children stand for
  of_batch : (table : TableName) (ids : List ℕ) (goal : Goal) (rest : List Args) (i : ℕ) (own : Args)
      → ((j : ℕ) → slice_get rest j ≡ Some own → IsLowArgs d own) → slice_get (child_args (child_is.Transits table ids goal) ++ rest) i ≡ Some own → IsLowArgs d own
  of_batch table [] goal rest i own later at = later i at
  of_batch table (id ∷ ids) goal rest zero own later at = subst (IsLowArgs d) (same_Some (args_are.Transit (record { table = table; id = id }) goal None) own at) tt
  of_batch table (id ∷ ids) goal rest (suc i) own later at = of_batch table ids goal rest i own later at

  of_children : (children : List Child) → Each (IsLowChild d) children → (i : ℕ) (own : Args) → slice_get (args_in children) i ≡ Some own → IsLowArgs d own
  of_children [] are i own at = absurd (none-some own at)
  of_children (child_is.Transits table ids goal ∷ more) are i own at = of_batch table ids goal (args_in more) i own (λ j is. of_children more are.1 j own is) at
  of_children (child_is.One args ∷ more) are zero own at = subst (IsLowArgs d) (same_Some args own at) are.0
  of_children (child_is.One args ∷ more) are (suc i) own at = of_children more are.1 i own at

  edited_low : (edits : List Edit) (key : CatKey) (row : Option CatRow) → Each (IsLowEdit d) edits → IfLow d key row → IfLow d key (edited edits key row)
  edited_low [] key row are is = is
  edited_low (e ∷ edits) key row are is = edited_low edits key (if same_key key e.key then e.after else row) are.1 (by (same_key key e.key) refl)
    where
      by : (b : Bool) → same_key key e.key ≡ b → IfLow d key (if b then e.after else row)
      by true same = subst (λ k. IfLow d k e.after) (sym (same_key-is key e.key same)) are.0.1
      by false same = is

  pushed_low : (undo : Back) (failed : Bool) (p row : ℕ) (edits : List Edit) (below : List Undoable) → Each (IsLowEdit d) edits → Each (AreLowEdits d) below → Each (AreLowEdits d) (pushed undo failed p row edits below)
  pushed_low back_is.Nothing failed p row edits below is are = are
  pushed_low back_is.Edits true p row edits below is are = are
  pushed_low back_is.Edits false p row edits below is are = (is, are)
  pushed_low back_is.Sweep true p row edits below is are = are
  pushed_low back_is.Sweep false p row edits below is are = (is, are)
  pushed_low back_is.Reopen true p row edits below is are = are
  pushed_low back_is.Reopen false p row edits below is are = (is, are)

  rest_low : (steps : List Undoable) → Each (AreLowEdits d) steps → Each (AreLowEdits d) (rest_of steps)
  rest_low [] are = tt
  rest_low (latest ∷ below) are = are.1

  undo_past : IsLegal J → (pid : Pid) (row : ℕ) (out : StepOut) → IsLowOut d out → IsLowPast d (entry_is.Undo pid row out ∷ J)
  undo_past legal pid row out is_low = record {
    nodes = λ p node is. elim (le_or_lt p (made J)) [
      | inl le ↦ low.nodes p node (sym ((undo_rooted pid row out J (grown_all J legal)).old p le) ∙ is)
      | inr lt ↦ by p node (slice_get (args_in out.followers) (p - made J - 1)) refl (sym (undo_new pid row out J p lt) ∙ is)
    ];
    rows = λ key. edited_low out.edits key (cat J key) is_low.edits (low.rows key);
    steps = λ r. rests r (root_of J pid.0 == r);
  }
    where
      by : (p : ℕ) (node : Node) (o : Option Args) → slice_get (args_in out.followers) (p - made J - 1) ≡ o → option_map (λ args. root_node p args 1) o ≡ Some node → IsLowArgs d node.args
      by p node None at is = absurd (none-some node is)
      by p node (Some args) at is =
          subst (λ (n : Node). IsLowArgs d n.args) (same_Some (root_node p args 1) node is) (of_children out.followers is_low.followers (p - made J - 1) args at)

      rests : (r : ℕ) (b : Bool) → Each (AreLowEdits d) (if b then rest_of (stack J r) else stack J r)
      rests r true = rest_low (stack J r) (low.steps r)
      rests r false = low.steps r

  step_past : (pid : Pid) (pick : Option Server) (out : StepOut) (node : Node) → node_of J pid.0 ≡ Some node → IsLowOut d out → IsLowPast d (entry_is.Step pid pick out ∷ J)
  step_past pid pick out own own_is is_low = record {
    nodes = λ p node is. elim (le_or_lt p (made J)) [
      | inl le ↦ low.nodes p node (sym (node_same pid pick out J p le) ∙ is)
      | inr lt ↦
          let child = new_child pid pick out J own own_is p lt node is in
          subst (λ (n : Node). IsLowArgs d n.args) (sym child.2) (of_children out.children is_low.children (p - made J - 1) child.0 child.1)
    ];
    rows = λ key. edited_low out.edits key (cat J key) is_low.edits (low.rows key);
    steps = λ r. pushes r (root_of J pid.0 == r);
  }
    where
      pushes : (r : ℕ) (b : Bool)
          → Each (AreLowEdits d) (if b then pushed (undo_of_next J pid.0 (node_of J pid.0)) (is_some (failing out.answer)) pid.0 (row_if_there J pid.0 (node_of J pid.0)) out.edits (stack J r) else stack J r)
      pushes r true =
          pushed_low (undo_of_next J pid.0 (node_of J pid.0)) (is_some (failing out.answer)) pid.0 (row_if_there J pid.0 (node_of J pid.0)) out.edits (stack J r) is_low.edits (low.steps r)
      pushes r false = low.steps r

  down_past : (server : Server) → IsLowPast d (entry_is.Down server ∷ J)
  down_past server = record {
    nodes = λ p node is. elim (cases_eq p (made J + 1)) [
      | inl new ↦ subst (λ (n : Node). IsLowArgs d n.args) (same_Some (root_node p (args_are.Crash server) 1) node (sym (down_new server J p new) ∙ is)) tt
      | inr old ↦ low.nodes p node (sym (down_old server J p old) ∙ is)
    ];
    rows = low.rows;
    steps = low.steps;
  }

-- a submission draws ids
drawn_root : (J : Past) (asked : Request) (o : Option TableName) → table_of_request asked ≡ o
    → (1 ≤ first_of J o) × ((t : TableName) → o ≡ Some t → first_of J o + new_ids asked ≤ drawn J t + ids_for o (new_ids asked) t + 1)
drawn_root J asked None e = (omega arith, λ t is. absurd (none-some t is))
drawn_root J asked (Some own) e = (omega arith, λ t is. by t (same_Some own t is))
  where
    by : (t : TableName) → own ≡ t → drawn J own + 1 + new_ids asked ≤ drawn J t + ids_for (Some own) (new_ids asked) t + 1
    by t same = subst (λ (u : TableName). drawn J own + 1 + new_ids asked ≤ drawn J u + ids_for (Some own) (new_ids asked) u + 1) same
        (omega (arith, cond-true (same_table own own) (new_ids asked) 0 (same_table-refl own)))

submit_past : (J : Past) (given : Nonce) (asked : Request) → IsLowPast (drawn J) J → IsLowPast (drawn (entry_is.Submit given asked ∷ J)) (entry_is.Submit given asked ∷ J)
submit_past J given asked low = record {
  nodes = λ p node is. elim (cases_eq p (made J + 1)) [
    | inl new ↦
        subst (λ (n : Node). IsLowArgs (drawn (entry_is.Submit given asked ∷ J)) n.args) (same_Some (submitted J asked p) node (sym (submit_new given asked J p new) ∙ is))
        (drawn_root J asked (table_of_request asked) refl)
    | inr old ↦ args_more (drawn J) (drawn (entry_is.Submit given asked ∷ J)) more node.args (low.nodes p node (sym (submit_old given asked J p old) ∙ is))
  ];
  rows = λ key. if_more (drawn J) (drawn (entry_is.Submit given asked ∷ J)) more key (cat J key) (low.rows key);
  steps = λ r. steps_more (drawn J) (drawn (entry_is.Submit given asked ∷ J)) more (stack J r) (low.steps r);
}
  where
    more : (t : TableName) → drawn J t ≤ drawn (entry_is.Submit given asked ∷ J) t
    more t = omega arith

start_low : (d : TableName → ℕ) (key : CatKey) → IfLow d key (at_start key)
start_low d (key_is.Ns ns) = by (bytes_eq ns (codes "default") || bytes_eq ns (codes "hbase"))
  where
    by : (b : Bool) → IfLow d (key_is.Ns ns) (if b then Some row_is.Ns else None)
    by true = tt
    by false = tt
start_low d (key_is.Table table) = tt
start_low d (key_is.Region region) = tt

-- a part of a base leaves regions with ids that were drawn: tables come first
part_low : (own : Part) (J : Past) → IsLegal J → PartFits own J → ((key : CatKey) → IfLow (drawn J) key (cat J key)) → (key : CatKey) → IfLow (drawn (entry_is.Base own ∷ J)) key (part_row own key (cat J key))
part_low own J legal fits was (key_is.Ns ns) = ns_low (drawn (entry_is.Base own ∷ J)) ns (part_row own (key_is.Ns ns) (cat J (key_is.Ns ns)))
part_low own J legal fits was (key_is.Table table) = table_low (drawn (entry_is.Base own ∷ J)) table (part_row own (key_is.Table table) (cat J (key_is.Table table)))
part_low (part_is.Head entries last parts sheets) J legal fits was (key_is.Region r) = tt
part_low (part_is.Namespace ns) J legal fits was (key_is.Region r) = was (key_is.Region r)
part_low (part_is.Table own ids row) J legal fits was (key_is.Region r) = by (cat J (key_is.Region r)) (was (key_is.Region r))
  where
    by : (there : Option CatRow) → IfLow (drawn J) (key_is.Region r) there → IfLow (drawn (entry_is.Base (part_is.Table own ids row) ∷ J)) (key_is.Region r) there
    by None is = tt
    by (Some there) is = elim (cases_Bool (same_table own r.table)) [
      | inl on ↦
          let none : drawn J r.table ≡ 0 = ap (drawn J) (sym (same_table-is own r.table on)) ∙ (table_new own ids row J legal fits).1 in
          absurd (omega (arith, is.0, is.1, none))
      | inr off ↦ (is.0, rw off is.1)
    ]
part_low (part_is.Region own range status parents place) J legal fits was (key_is.Region r) = by (same_key (key_is.Region r) (key_is.Region own)) refl
  where
    by : (b : Bool) → same_key (key_is.Region r) (key_is.Region own) ≡ b → IfLow (drawn J) (key_is.Region r) (if b then Some (row_is.Region range status parents) else cat J (key_is.Region r))
    by true e = subst (IsLow (drawn J)) (sym (same_key-is (key_is.Region r) (key_is.Region own) e)) (fits.1, fits.2)
    by false e = was (key_is.Region r)
part_low (part_is.Server server fenced) J legal fits was (key_is.Region r) = was (key_is.Region r)
part_low (part_is.Root pid given work cause) J legal fits was (key_is.Region r) = was (key_is.Region r)
part_low (part_is.Layout pid) J legal fits was (key_is.Region r) = was (key_is.Region r)

-- each region that is there has an id that was drawn
pub past_low : (J : Past) → IsLegal J → IsLowPast (drawn J) J
past_low [] legal = record { nodes = λ p node is. absurd (none-some node is); rows = start_low (drawn []); steps = λ r. tt }
past_low (entry_is.Submit given asked ∷ J) legal = submit_past J given asked (past_low J legal.0)
past_low (entry_is.Step pid pick out ∷ J) legal =
    let low = past_low J legal.0 in
    let answers = legal.1.1.1.1.1.0 in
    let now = step_past (drawn J) J low pid pick out answers.0 answers.1 (evaluated_low (drawn J) J low pid.0 pick out answers) in
    record { nodes = now.nodes; rows = now.rows; steps = now.steps }
past_low (entry_is.Undo pid row out ∷ J) legal =
    let low = past_low J legal.0 in
    let now = undo_past (drawn J) J low legal.0 pid row out (evaluated_low (drawn J) J low (root_of J pid.0) None out legal.1.1.1.0) in
    record { nodes = now.nodes; rows = now.rows; steps = now.steps }
past_low (entry_is.Down server ∷ J) legal =
    let low = past_low J legal.0 in
    let now = down_past (drawn J) J low server in
    record { nodes = now.nodes; rows = now.rows; steps = now.steps }
past_low (entry_is.Base own ∷ J) legal = record { nodes = λ p node is. absurd (none-some node is); rows = part_low own J legal.0 legal.1.0 (past_low J legal.0).rows; steps = λ r. tt }
past_low (entry ∷ J) legal = let low = past_low J legal.0 in record { nodes = low.nodes; rows = low.rows; steps = low.steps }
