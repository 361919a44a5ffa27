-- What legal journals hold is short.
use Rattle.std.proofs.Common.{◌≡◌, ℕ, zero, suc, ◌+◌, ◌-◌, Bool, true, false, not, ◌&&◌, ◌||◌, ◌==◌, if◌then◌else◌, is_some, List, [], ◌∷◌, ◌++◌, slice_get, Option, Some, None, All, refl, sym, subst, ◌∙◌, inl, inr}
use Rattle.std.specs.Option.{option_map}
use Rattle.std.specs.Prelude.{codes, IfSome}
use Rattle.std.specs.Str.{bytes_eq}
use Rattle.std.proofs.lemmas.Bool.{and_parts, cases_eq, false≢true}
use Rattle.std.proofs.lemmas.List.Elements.{All-head, All-tail}
use Rattle.std.proofs.lemmas.Option.{none-some, same_Some}
use Rattle.hm_names.specs.Region.{Region}
use Rattle.hm_names.specs.Server.{Server}
use Rattle.hm_names.specs.Servers.{IsServer}
use Rattle.hm_names.specs.declared.nonce.Nonce.{Nonce}
use Rattle.hm_names.specs.declared.pid.Pid.{Pid}
use Rattle.hm_names.specs.declared.table.TableName.{TableName}
use Rattle.hm_data.specs.declared.act.Back.{Back}
use Rattle.hm_data.specs.declared.act.Back.TheVariants as back_is
use Rattle.hm_data.specs.declared.args.Args.{Args}
use Rattle.hm_data.specs.declared.args.Args.TheVariants as args_are
use Rattle.hm_data.specs.declared.args.Child.{Child}
use Rattle.hm_data.specs.declared.args.Child.TheVariants as child_is
use Rattle.hm_data.specs.declared.catalog.CatKey.{CatKey}
use Rattle.hm_data.specs.declared.catalog.CatKey.TheVariants as key_is
use Rattle.hm_data.specs.declared.catalog.CatRow.{CatRow}
use Rattle.hm_data.specs.declared.catalog.CatRow.TheVariants as row_is
use Rattle.hm_data.specs.declared.catalog.Edit.{Edit}
use Rattle.hm_data.specs.declared.entry.Entry.TheVariants as entry_is
use Rattle.hm_data.specs.declared.catalog.TableState.{TableState}
use Rattle.hm_data.specs.declared.part.Part.{Part}
use Rattle.hm_data.specs.declared.part.Part.TheVariants as part_is
use Rattle.hm_data.specs.declared.place.Goal.{Goal}
use Rattle.hm_data.specs.declared.place.Place.{Place}
use Rattle.hm_data.specs.declared.request.Request.{Request}
use Rattle.hm_data.specs.declared.step.StepOut.{StepOut}
use Rattle.hm_entry.specs.Fits.{EntryFits, PartFits, RequestFits}
use Rattle.hm_model.specs.Answers.{failing}
use Rattle.hm_model.specs.Base.{PartFits as IsAllowedPart}
use Rattle.hm_model.specs.Catalog.{at_start, cat, edited}
use Rattle.hm_model.specs.Fleet.{is_live, part_live, same_server}
use Rattle.hm_model.specs.Journal.{Past}
use Rattle.hm_model.specs.Keys.{same_key, same_region}
use Rattle.hm_model.specs.Parts.{part_row, table_row}
use Rattle.hm_model.specs.Places.{joined_if, part_place, part_placed, place_of, placed, placed_by, region_if}
use Rattle.hm_model.specs.Reports.{is_the_region}
use Rattle.hm_model.specs.Requests.{wrong_in}
use Rattle.hm_model.specs.Rules.{IsLegal}
use Rattle.hm_model.specs.Sheets.{undo_of_next}
use Rattle.hm_model.specs.Tree.{Node, args_in, child_args, made, node_of, root_node, root_of, submitted}
use Rattle.hm_model.specs.Undo.{Undoable, pushed, rest_of, row_if_there, stack}
use Rattle.hm_model.proofs.Grown.{down_new, down_old, submit_new, submit_old, undo_new}
use Rattle.hm_model.proofs.NameTies.{same_server-is}
use Rattle.hm_model.proofs.Trees.{grown_all, le_or_lt, new_child, node_same, undo_rooted}
use Rattle.hm_frames.proofs.ShortParts.{region_in}
use Rattle.hm_frames.proofs.ShortForms.{AreShortEdits, Each, If, IsOfTable, IsShortArgs, IsShortChild, IsShortEdit, IsShortOut, IsShortPlace, IsShortRow}
use Rattle.hm_frames.proofs.FewRegions.{few_regions}
use Rattle.hm_frames.proofs.ShortSteps.{IsShortPast, IsShortUndoable, each_joined, evaluated_short, pick_short}
use Rattle.hm_names.specs.Tables.{IsTable}

-- the procedures that children stand for
of_batch : (table : TableName) (ids : List ℕ) (goal : Goal) (rest : List Args) (i : ℕ) (own : Args) → IsTable table
    → ((j : ℕ) → slice_get rest j ≡ Some own → IsShortArgs own) → slice_get (child_args (child_is.Transits table ids goal) ++ rest) i ≡ Some own → IsShortArgs own
of_batch table [] goal rest i own named later at = later i at
of_batch table (id ∷ ids) goal rest zero own named later at = subst IsShortArgs (same_Some _ own at) named
of_batch table (id ∷ ids) goal rest (suc i) own named later at = of_batch table ids goal rest i own named later at

of_children : (children : List Child) → Each IsShortChild children → (i : ℕ) (own : Args) → slice_get (args_in children) i ≡ Some own → IsShortArgs own
of_children [] are i own at = absurd (none-some own at)
of_children (child_is.Transits table ids goal ∷ more) are i own at = of_batch table ids goal (args_in more) i own are.0 (λ j is. of_children more are.1 j own is) at
of_children (child_is.One args ∷ more) are zero own at = subst IsShortArgs (same_Some args own at) are.0.1
of_children (child_is.One args ∷ more) are (suc i) own at = of_children more are.1 i own at

-- a catalog after short edits
edited_short : (edits : List Edit) (key : CatKey) (row : Option CatRow) → Each IsShortEdit edits → If IsShortRow row → If IsShortRow (edited edits key row)
edited_short [] key row are is = is
edited_short (e ∷ edits) key row are is = edited_short edits key (if same_key key e.key then e.after else row) are.1 (by (same_key key e.key))
  where
    by : (b : Bool) → If IsShortRow (if b then e.after else row)
    by true = are.0.after
    by false = is

start_short : (key : CatKey) → If IsShortRow (at_start key)
start_short (key_is.Ns ns) = by (bytes_eq ns (codes "default") || bytes_eq ns (codes "hbase"))
  where
    by : (b : Bool) → If IsShortRow (if b then Some row_is.Ns else None)
    by true = tt
    by false = tt
start_short (key_is.Table table) = tt
start_short (key_is.Region region) = tt

nothing_short : IsShortPast []
nothing_short = record {
  nodes = λ p node is. absurd (none-some node is);
  rows = start_short;
  places = λ region. tt;
  placed = tt;
  steps = λ r. tt;
  live = λ s is. absurd (false≢true is);
}

-- what a step pushes
pushed_short : (undo : Back) (failed : Bool) (p row : ℕ) (edits : List Edit) (below : List Undoable) → AreShortEdits edits → Each IsShortUndoable below → Each IsShortUndoable (pushed undo failed p row edits below)
pushed_short back_is.Nothing failed p row edits below is are = are
pushed_short back_is.Edits true p row edits below is are = are
pushed_short back_is.Edits false p row edits below is are = (is, are)
pushed_short back_is.Sweep true p row edits below is are = are
pushed_short back_is.Sweep false p row edits below is are = (is, are)
pushed_short back_is.Reopen true p row edits below is are = are
pushed_short back_is.Reopen false p row edits below is are = (is, are)

rest_short : (steps : List Undoable) → Each IsShortUndoable steps → Each IsShortUndoable (rest_of steps)
rest_short [] are = tt
rest_short (latest ∷ below) are = are.1

module _ (J : Past) (legal : IsLegal J) (was : IsShortPast J) where
  -- a submission
  submit_past : (given : Nonce) (asked : Request) → wrong_in asked ≡ None → RequestFits asked → IsShortPast (entry_is.Submit given asked ∷ J)
  submit_past given asked right fits = record {
    nodes = λ p node is. elim (cases_eq p (made J + 1)) [
      | inl new ↦ subst (λ (n : Node). IsShortArgs n.args) (same_Some (submitted J asked p) node (sym (submit_new given asked J p new) ∙ is)) (right, fits)
      | inr old ↦ was.nodes p node (sym (submit_old given asked J p old) ∙ is)
    ];
    rows = was.rows;
    places = was.places;
    placed = was.placed;
    steps = was.steps;
    live = was.live;
  }

  -- a server that goes down
  down_past : (server : Server) → IsServer server → IsShortPast (entry_is.Down server ∷ J)
  down_past server named = record {
    nodes = λ p node is. elim (cases_eq p (made J + 1)) [
      | inl new ↦ subst (λ (n : Node). IsShortArgs n.args) (same_Some (root_node p (args_are.Crash server) 1) node (sym (down_new server J p new) ∙ is)) named
      | inr old ↦ was.nodes p node (sym (down_old server J p old) ∙ is)
    ];
    rows = was.rows;
    places = was.places;
    placed = was.placed;
    steps = was.steps;
    live = λ s is. was.live s (and_parts (not (same_server s server)) (is_live J s) is).1;
  }

  -- one that comes up
  up_past : (server : Server) → IsServer server → IsShortPast (entry_is.Up server ∷ J)
  up_past server named = record {
    nodes = was.nodes;
    rows = was.rows;
    places = was.places;
    placed = was.placed;
    steps = was.steps;
    live = λ s is. by s (same_server s server) refl is;
  }
    where
      by : (s : Server) (b : Bool) → same_server s server ≡ b → (b || is_live J s) ≡ true → IsServer s
      by s true e is = subst IsServer (sym (same_server-is s server e)) named
      by s false e is = was.live s is

  -- an undo
  undo_past : (pid : Pid) (row : ℕ) (out : StepOut) → IsShortOut out → IsShortPast (entry_is.Undo pid row out ∷ J)
  undo_past pid row out is_short = record {
    nodes = λ p node is. elim (le_or_lt p (made J)) [
      | inl le ↦ was.nodes p node (sym ((undo_rooted pid row out J (grown_all J legal)).old p le) ∙ is)
      | inr lt ↦ by p node (slice_get (args_in out.followers) (p - made J - 1)) refl (sym (undo_new pid row out J p lt) ∙ is)
    ];
    rows = λ key. edited_short out.edits key (cat J key) is_short.edits.0 (was.rows key);
    places = was.places;
    placed = was.placed;
    steps = λ r. rests r (root_of J pid.0 == r);
    live = was.live;
  }
    where
      by : (p : ℕ) (node : Node) (o : Option Args) → slice_get (args_in out.followers) (p - made J - 1) ≡ o → option_map (λ args. root_node p args 1) o ≡ Some node → IsShortArgs node.args
      by p node None at is = absurd (none-some node is)
      by p node (Some args) at is =
          subst (λ (n : Node). IsShortArgs n.args) (same_Some (root_node p args 1) node is) (of_children out.followers is_short.followers (p - made J - 1) args at)

      rests : (r : ℕ) (b : Bool) → Each IsShortUndoable (if b then rest_of (stack J r) else stack J r)
      rests r true = rest_short (stack J r) (was.steps r)
      rests r false = was.steps r

  -- a step
  step_past : (pid : Pid) (pick : Option Server) (out : StepOut) (node : Node) → node_of J pid.0 ≡ Some node → IsShortOut out → IsShortPast (entry_is.Step pid pick out ∷ J)
  step_past pid pick out own own_is is_short = record {
    nodes = λ p node is. elim (le_or_lt p (made J)) [
      | inl le ↦ was.nodes p node (sym (node_same pid pick out J p le) ∙ is)
      | inr lt ↦
          let child = new_child pid pick out J own own_is p lt node is in
          subst (λ (n : Node). IsShortArgs n.args) (sym child.2) (of_children out.children is_short.children (p - made J - 1) child.0 child.1)
    ];
    rows = λ key. edited_short out.edits key (cat J key) is_short.edits.0 (was.rows key);
    places = λ region. at_place region out.place is_short.place;
    placed = joins (region_if (node_of J pid.0)) out.place (own_region (node_of J pid.0) refl);
    steps = λ r. pushes r (root_of J pid.0 == r);
    live = was.live;
  }
    where
      at_place : (region : Region) (place : Option Place) → If IsShortPlace place → If IsServer (let p = placed_by region (region_if (node_of J pid.0)) place (place_of J region) in p.server)
      at_place region None at = was.places region
      at_place region (Some place) at = by (is_the_region region (region_if (node_of J pid.0)))
        where
          by : (b : Bool) → If IsServer (let p = if b then place else place_of J region in p.server)
          by true = at
          by false = was.places region

      own_region : (o : Option Node) → node_of J pid.0 ≡ o → If IsOfTable (region_if o)
      own_region None e = tt
      own_region (Some node) e = region_in node.args (was.nodes pid.0 node e)

      joins : (o : Option Region) (place : Option Place) → If IsOfTable o → Each IsOfTable (joined_if o place (placed J))
      joins o None at = was.placed
      joins None (Some place) at = was.placed
      joins (Some region) (Some place) at = each_joined IsOfTable region (placed J) at was.placed

      pushes : (r : ℕ) (b : Bool)
          → Each IsShortUndoable (if b then pushed (undo_of_next J pid.0 (node_of J pid.0)) (is_some (failing out.answer)) pid.0 (row_if_there J pid.0 (node_of J pid.0)) out.edits (stack J r) else stack J r)
      pushes r true =
          pushed_short (undo_of_next J pid.0 (node_of J pid.0)) (is_some (failing out.answer)) pid.0 (row_if_there J pid.0 (node_of J pid.0)) out.edits (stack J r) is_short.edits (was.steps r)
      pushes r false = was.steps r

-- what a part of a base leaves is short
server_if_fits : (s : Option Server) → IfSome s IsServer → If IsServer s
server_if_fits None is = tt
server_if_fits (Some s) is = is

table_row_short : (own : Option (TableState × ℕ)) → If IsShortRow (table_row own)
table_row_short None = tt
table_row_short (Some both) = tt

part_row_short : (own : Part) (J : Past) → IsAllowedPart own J → PartFits own → (key : CatKey) (row : Option CatRow) → If IsShortRow row → If IsShortRow (part_row own key row)
part_row_short (part_is.Head entries last parts sheets) J may fits key row is = tt
part_row_short (part_is.Namespace ns) J may fits key row is = by (same_key key (key_is.Ns ns))
  where
    by : (b : Bool) → If IsShortRow (if b then Some row_is.Ns else row)
    by true = tt
    by false = is
part_row_short (part_is.Table table ids own) J may fits key row is = by (same_key key (key_is.Table table))
  where
    by : (b : Bool) → If IsShortRow (if b then table_row own else row)
    by true = table_row_short own
    by false = is
part_row_short (part_is.Region region range status parents place) J may fits key row is = by (same_key key (key_is.Region region))
  where
    by : (b : Bool) → If IsShortRow (if b then Some (row_is.Region range status parents) else row)
    by true = ((fits.1.0.0, fits.1.1.0), may.3)
    by false = is
part_row_short (part_is.Server server fenced) J may fits key row is = is
part_row_short (part_is.Root pid given work cause) J may fits key row is = is
part_row_short (part_is.Layout pid) J may fits key row is = is

part_place_short : (own : Part) → PartFits own → (region : Region) (place : Place) → If IsServer place.server → If IsServer (let p = part_place own region place in p.server)
part_place_short (part_is.Head entries last parts sheets) fits region place at = at
part_place_short (part_is.Namespace ns) fits region place at = at
part_place_short (part_is.Table table ids own) fits region place at = at
part_place_short (part_is.Region own range status parents given) fits region place at = by (same_region region own)
  where
    by : (b : Bool) → If IsServer (let p = if b then given else place in p.server)
    by true = server_if_fits given.server fits.3
    by false = at
part_place_short (part_is.Server server fenced) fits region place at = at
part_place_short (part_is.Root pid given work cause) fits region place at = at
part_place_short (part_is.Layout pid) fits region place at = at

part_placed_short : (own : Part) → PartFits own → (regions : List Region) → Each IsOfTable regions → Each IsOfTable (part_placed own regions)
part_placed_short (part_is.Head entries last parts sheets) fits regions are = are
part_placed_short (part_is.Namespace ns) fits regions are = are
part_placed_short (part_is.Table table ids own) fits regions are = are
part_placed_short (part_is.Region own range status parents given) fits regions are = each_joined IsOfTable own regions fits.0.0 are
part_placed_short (part_is.Server server fenced) fits regions are = are
part_placed_short (part_is.Root pid given work cause) fits regions are = are
part_placed_short (part_is.Layout pid) fits regions are = are

part_live_short : (own : Part) → PartFits own → (s : Server) (before : Bool) → (before ≡ true → IsServer s) → part_live own s before ≡ true → IsServer s
part_live_short (part_is.Head entries last parts sheets) fits s before was is = was is
part_live_short (part_is.Namespace ns) fits s before was is = was is
part_live_short (part_is.Table table ids own) fits s before was is = was is
part_live_short (part_is.Region own range status parents given) fits s before was is = was is
part_live_short (part_is.Server server fenced) fits s before was is = by (same_server s server) refl is
  where
    by : (b : Bool) → same_server s server ≡ b → ((b && not fenced) || before) ≡ true → IsServer s
    by true e is = subst IsServer (sym (same_server-is s server e)) fits
    by false e is = was is
part_live_short (part_is.Root pid given work cause) fits s before was is = was is
part_live_short (part_is.Layout pid) fits s before was is = was is

part_past : (own : Part) (J : Past) → IsAllowedPart own J → PartFits own → IsShortPast J → IsShortPast (entry_is.Base own ∷ J)
part_past own J may fits was = record {
  nodes = λ p node is. absurd (none-some node is);
  rows = λ key. part_row_short own J may fits key (cat J key) (was.rows key);
  places = λ region. part_place_short own fits region (place_of J region) (was.places region);
  placed = part_placed_short own fits (placed J) was.placed;
  steps = λ r. tt;
  live = λ s is. part_live_short own fits s (is_live J s) (was.live s) is;
}

-- each legal journal is so
pub past_short : (J : Past) → IsLegal J → All EntryFits J → IsShortPast J
past_short [] legal fit = nothing_short
past_short (entry_is.Submit given asked ∷ J) legal fit =
    submit_past J legal.0 (past_short J legal.0 (All-tail EntryFits (entry_is.Submit given asked) J fit)) given asked legal.1.1.0 (All-head EntryFits (entry_is.Submit given asked) J fit).1
past_short (entry_is.Step pid pick out ∷ J) legal fit =
    let fit' = All-tail EntryFits (entry_is.Step pid pick out) J fit in
    let was = past_short J legal.0 fit' in
    let picked = pick_short J legal.0 was (few_regions J legal.0) pid.0 pick legal.1.1.1.1.0 in
    let answers = legal.1.1.1.1.1.0 in
    step_past J legal.0 was pid pick out answers.0 answers.1 (evaluated_short J legal.0 was (few_regions J legal.0) pid.0 pick out picked answers)
past_short (entry_is.Undo pid row out ∷ J) legal fit =
    let fit' = All-tail EntryFits (entry_is.Undo pid row out) J fit in
    let was = past_short J legal.0 fit' in
    undo_past J legal.0 was pid row out (evaluated_short J legal.0 was (few_regions J legal.0) (root_of J pid.0) None out tt legal.1.1.1.0)
past_short (entry_is.Up server ∷ J) legal fit =
    up_past J legal.0 (past_short J legal.0 (All-tail EntryFits (entry_is.Up server) J fit)) server (All-head EntryFits (entry_is.Up server) J fit)
past_short (entry_is.Down server ∷ J) legal fit =
    down_past J legal.0 (past_short J legal.0 (All-tail EntryFits (entry_is.Down server) J fit)) server (All-head EntryFits (entry_is.Down server) J fit)
past_short (entry_is.Base own ∷ J) legal fit =
    part_past own J legal.1.0 (All-head EntryFits (entry_is.Base own) J fit) (past_short J legal.0 (All-tail EntryFits (entry_is.Base own) J fit))
past_short (entry ∷ J) legal fit =
    let was = past_short J legal.0 (All-tail EntryFits entry J fit) in
    record { nodes = was.nodes; rows = was.rows; places = was.places; placed = was.placed; steps = was.steps; live = was.live }
