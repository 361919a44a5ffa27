-- What the steps and undos of legal journals answer is short.
use Rattle.std.proofs.Common.{◌≡◌, ℕ, zero, suc, ◌≤◌, Bool, true, false, not, ◌||◌, ◌==◌, if◌then◌else◌, cond, List, [], ◌∷◌, ◌++◌, take, length, slice_get, Option, Some, None, refl, sym, subst, ◌∙◌, arith}
use Rattle.std.specs.List.{filter}
use Rattle.std.specs.declared.cmp.Ordering.{Ordering}
use Rattle.std.specs.declared.cmp.Ordering.TheVariants.{Less, Equal, Greater}
use Rattle.std.proofs.lemmas.Bool.{and_parts, eqb-true, false≢true}
use Rattle.std.proofs.lemmas.List.{length-take}
use Rattle.std.proofs.lemmas.Option.{none-some, same_Some}
use Rattle.hm_names.specs.Order.{region_cmp}
use Rattle.hm_names.specs.Region.{Region}
use Rattle.hm_names.specs.Server.{Server}
use Rattle.hm_names.specs.Servers.{IsServer}
use Rattle.hm_names.specs.declared.table.TableName.{TableName}
use Rattle.hm_data.specs.declared.act.Act.{Act}
use Rattle.hm_data.specs.declared.act.Act.TheVariants as act_is
use Rattle.hm_data.specs.declared.args.Args.{Args}
use Rattle.hm_data.specs.declared.args.Args.TheVariants as args_are
use Rattle.hm_data.specs.declared.catalog.CatKey.{CatKey}
use Rattle.hm_data.specs.declared.catalog.CatRow.{CatRow}
use Rattle.hm_data.specs.declared.request.Request.{Request}
use Rattle.hm_data.specs.declared.request.Request.TheVariants as request_is
use Rattle.hm_data.specs.declared.sheet.Row.{Row}
use Rattle.hm_data.specs.declared.sheet.Sheet.{Sheet}
use Rattle.hm_data.specs.declared.step.StepIn.{StepIn}
use Rattle.hm_data.specs.declared.step.StepOut.{StepOut}
use Rattle.hm_model.specs.ActSorts.{editing_kinds, is_edit}
use Rattle.hm_model.specs.Catalog.{Catalog, cat, keep, keys_of, row_at, rows_at}
use Rattle.hm_model.specs.Evaluation.{answer_of}
use Rattle.hm_model.specs.Fleet.{is_live}
use Rattle.hm_model.specs.Inputs.{IsEvaluated, input, latest_input, place_if, regions_on, rows_read, step_input, turn_input, undo_input, undoes}
use Rattle.hm_model.specs.Journal.{Past}
use Rattle.hm_model.specs.Keys.{same_key}
use Rattle.hm_model.specs.Kinds.{kind_of, request_kind}
use Rattle.hm_model.specs.Picks.{PicksRight, needs_server, pick_fits}
use Rattle.hm_model.specs.Places.{at_server, is_at, joined_at, joined_by, place_of, placed}
use Rattle.hm_model.specs.Reads.{reads}
use Rattle.hm_model.specs.Rules.{IsLegal}
use Rattle.hm_model.specs.RowsSaid.{regions_among}
use Rattle.hm_model.specs.Sheets.{sheet_for, sheets_by}
use Rattle.hm_model.specs.TransitActs.{told_place}
use Rattle.hm_model.specs.Tree.{Node, node_of}
use Rattle.hm_model.specs.Undo.{Undoable, stack}
use Rattle.hm_model.specs.Validity.{AllValid, IsValid, first_broken, is_among, is_not, misfit, row_rules, rules_of_row}
use Rattle.hm_model.specs.Whereabouts.{crashed_in, moved_by}
use Rattle.hm_model.proofs.ExactRows.{sheet_is, valid_by}
use Rattle.hm_model.proofs.Said.{said_by}
use Rattle.hm_frames.proofs.ShortActs.{FewBounds, turn_short}
use Rattle.hm_frames.proofs.ShortForms.{AreShortEdits, Each, If, IsOfTable, IsShortArgs, IsShortOut, IsShortRow, SeesShort}

-- a table has 4096 regions at most among the rows that a procedure reads
abbrev pub FewRegions : Past → Type 0
FewRegions J = (args : Args) (table : TableName) (test : CatRow → Bool) → length (regions_among table test (rows_read J args)) ≤ 4096

abbrev pub IsShortUndoable : Undoable → Type 0
IsShortUndoable step = AreShortEdits step.edits

-- what steps see of a journal is short
pub record IsShortPast (J : Past) : Type 0 where
  pub nodes : (p : ℕ) (node : Node) → node_of J p ≡ Some node → IsShortArgs node.args
  pub rows : (key : CatKey) → If IsShortRow (cat J key)
  pub places : (region : Region) → If IsServer (let place = place_of J region in place.server)
  pub placed : Each IsOfTable (placed J)
  pub steps : (r : ℕ) → Each IsShortUndoable (stack J r)
  pub live : (s : Server) → is_live J s ≡ true → IsServer s

-- rows that are read
read_keep : (b : Bool) (k key : CatKey) (row : Option CatRow) (more : List (CatKey × CatRow)) → If IsShortRow row → If IsShortRow (row_at more key) → If IsShortRow (row_at (keep b k row more) key)
read_keep false k key row more is rest = rest
read_keep true k key None more is rest = rest
read_keep true k key (Some row) more is rest = by (same_key key k)
  where
    by : (b : Bool) → If IsShortRow (if b then Some row else row_at more key)
    by true = is
    by false = rest

read_short : (asked : CatKey → Bool) (there : Catalog) → ((key : CatKey) → If IsShortRow (there key)) → (keys : List CatKey) (key : CatKey) → If IsShortRow (row_at (rows_at asked there keys) key)
read_short asked there rows [] key = tt
read_short asked there rows (k ∷ keys) key = read_keep (asked k) k key (there k) (rows_at asked there keys) (rows k) (read_short asked there rows keys key)

-- only the procedures that add regions list the act that adds their rows
all_hold : (rules : List (ℕ × Bool)) → first_broken rules ≡ None → Each (λ (rule : ℕ × Bool). rule.1 ≡ true) rules
all_hold [] h = tt
all_hold ((n, true) ∷ rules) h = (refl, all_hold rules h)
all_hold ((n, false) ∷ rules) h = absurd (none-some n (sym h))

but_last : (rules : List (ℕ × Bool)) (k : ℕ) (b : Bool) → first_broken (rules ++ (k, b) ∷ []) ≡ None → first_broken rules ≡ None
but_last [] k b h = refl
but_last ((n, true) ∷ rules) k b h = but_last rules k b h
but_last ((n, false) ∷ rules) k b h = absurd (none-some n (sym h))

abbrev is_right_act : ℕ → Act → Bool
is_right_act kind act = not (is_edit act) || is_among (editing_kinds act) kind

right_act : (sheet : Sheet) → IsValid sheet → (place : ℕ) (row : Row) → slice_get sheet.rows place ≡ Some row → is_right_act sheet.kind row.act ≡ true
right_act sheet valid place row is =
    let all = but_last (rules_of_row sheet.kind sheet.rows place (slice_get sheet.rows place)) 8 (is_not place (misfit sheet)) (valid place) in
    (all_hold (row_rules sheet.kind sheet.rows place row) (subst (λ o. first_broken (rules_of_row sheet.kind sheet.rows place o) ≡ None) is all)).1.1.1.1.1.1.0

adds_20 : (kind : ℕ) (b : Bool) → (20 == kind) ≡ b → (b || false) ≡ true → kind ≡ 20
adds_20 kind true e h = sym (eqb-true 20 kind e)
adds_20 kind false e h = absurd (false≢true h)

kind_20 : (kind : ℕ) (act : Act) → act ≡ act_is.AddRegionRows → is_right_act kind act ≡ true → kind ≡ 20
kind_20 kind act is h = adds_20 kind (20 == kind) refl (subst (λ a. is_right_act kind a ≡ true) is h)

not_20 : (asked : Request) → request_kind asked ≡ 20 → ⊥
not_20 (request_is.CreateNamespace ns) e = omega (arith, e)
not_20 (request_is.DropNamespace ns) e = omega (arith, e)
not_20 (request_is.CreateTable table keys) e = omega (arith, e)
not_20 (request_is.DeleteTable table) e = omega (arith, e)
not_20 (request_is.EnableTable table) e = omega (arith, e)
not_20 (request_is.DisableTable table) e = omega (arith, e)
not_20 (request_is.ModifyTable table version) e = omega (arith, e)
not_20 (request_is.SplitRegion region key) e = omega (arith, e)
not_20 (request_is.MergeRegions regions) e = omega (arith, e)
not_20 (request_is.Move region to) e = omega (arith, e)

few_bounds : (args : Args) → IsShortArgs args → kind_of args ≡ 20 → FewBounds args
few_bounds (args_are.Root asked first) is e own given = absurd (not_20 asked e)
few_bounds (args_are.Transit region goal to) is e own given = absurd (none-some own given)
few_bounds (args_are.Crash server) is e own given = absurd (none-some own given)
few_bounds (args_are.AddRegions table first bounds) is e own given = subst (λ (l : List (List ℕ)). length l ≤ 65) (same_Some bounds own given) is.2
few_bounds (args_are.DropRegions table ids) is e own given = absurd (none-some own given)
few_bounds (args_are.AssignCall region server) is e own given = absurd (none-some own given)
few_bounds (args_are.CloseCall region server) is e own given = absurd (none-some own given)
few_bounds (args_are.FenceCall server) is e own given = absurd (none-some own given)
few_bounds (args_are.LayoutCall root) is e own given = absurd (none-some own given)
few_bounds (args_are.SweepLayout root) is e own given = absurd (none-some own given)

-- lists of regions
each_filter : (P : Region → Type 0) (test : Region → Bool) (regions : List Region) → Each P regions → Each P (filter test regions)
each_filter P test [] are = tt
each_filter P test (r ∷ regions) are = by (test r) (each_filter P test regions are.1)
  where
    by : (b : Bool) → Each P (filter test regions) → Each P (cond b (r ∷ filter test regions) (filter test regions))
    by true rest = (are.0, rest)
    by false rest = rest

each_take : (P : Region → Type 0) (n : ℕ) (regions : List Region) → Each P regions → Each P (take n regions)
each_take P zero regions are = tt
each_take P (suc n) [] are = tt
each_take P (suc n) (r ∷ regions) are = (are.0, each_take P n regions are.1)

pub each_joined : (P : Region → Type 0) (r : Region) (regions : List Region) → P r → Each P regions → Each P (joined_by r regions)
each_joined P r [] is are = (is, tt)
each_joined P r (first ∷ more) is are = by (region_cmp r first) (each_joined P r more is are.1)
  where
    by : (o : Ordering) → Each P (joined_by r more) → Each P (joined_at o r first more (joined_by r more))
    by Less rest = (is, are)
    by Equal rest = are
    by Greater rest = (are.0, rest)

-- what a step or an undo sees
abbrev Sees : StepIn → Type 0
Sees at = SeesShort at × (at.kind ≡ kind_of at.args)

module _ (J : Past) (legal : IsLegal J) (short : IsShortPast J) (few : FewRegions J) where
  place_short : (own : Option Region) → If IsServer (let place = told_place (place_if J own) in place.server)
  place_short None = tt
  place_short (Some region) = short.places region

  regions_short : (own : Option Server) → Each IsOfTable (regions_on J own) × (length (regions_on J own) ≤ 64)
  regions_short None = (tt, omega arith)
  regions_short (Some server) = (
    each_take IsOfTable 64 (at_server J server) (each_filter IsOfTable (λ region. is_at server (place_of J region)) (placed J) short.placed),
    omega (arith, length-take 64 (at_server J server)),
  )

  step_sees : (p : ℕ) (node : Node) (pick : Option Server) → IsShortArgs node.args → If IsServer pick → Sees (step_input J p node pick)
  step_sees p node pick is picked = (
    record {
      args = is;
      rows = read_short (reads node.args) (cat J) short.rows (keys_of J);
      few = few node.args;
      place = place_short (moved_by node.args);
      pick = picked;
      on_server = regions_short (crashed_in node.args);
      turn = tt;
    },
    refl,
  )

  undo_sees : (at : StepIn) (latest : Undoable) (its : Node) → Sees at → IsShortUndoable latest → IsShortArgs its.args → Sees (undo_input latest its at)
  undo_sees at latest its sees edits is = (
    record {
      args = is;
      rows = sees.0.rows;
      few = sees.0.few;
      place = sees.0.place;
      pick = sees.0.pick;
      on_server = sees.0.on_server;
      turn = edits;
    },
    refl,
  )

  latest_sees : (at : StepIn) (steps : List Undoable) → Sees at → Each IsShortUndoable steps → Sees (latest_input J steps at)
  latest_sees at [] sees are = sees
  latest_sees at (latest ∷ below) sees are = by (node_of J latest.pid) refl
    where
      by : (o : Option Node) → node_of J latest.pid ≡ o → Sees (elim o as (λ n. StepIn) [ None ↦ at | Some its ↦ undo_input latest its at ])
      by None e = sees
      by (Some its) e = undo_sees at latest its sees are.0 (short.nodes latest.pid its e)

  input_sees : (p : ℕ) (node : Node) (pick : Option Server) → IsShortArgs node.args → If IsServer pick → Sees (input J p node pick)
  input_sees p node pick is picked = by (undoes J p node)
    where
      at : Sees (step_input J p node pick)
      at = step_sees p node pick is picked

      by : (b : Bool) → Sees (turn_input J b (stack J p) (step_input J p node pick))
      by true = latest_sees (step_input J p node pick) (stack J p) at (short.steps p)
      by false = at

  answered_short : (sheets : List Sheet) → AllValid sheets → (at : StepIn) (out : StepOut) → Sees at → answer_of sheets at ≡ Some out → IsShortOut out
  answered_short sheets all at out sees is =
      let said = said_by (sheet_for sheets at.kind) at out is in
      let valid = sheet_is sheets all at.kind said.0 said.1 in
      subst IsShortOut (sym said.4)
      (turn_short said.2 at sees.0 (λ adds. few_bounds at.args sees.0.args (sym sees.1 ∙ sym valid.1 ∙ kind_20 said.0.kind said.2.act adds (right_act said.0 valid.0 at.row said.2 said.3))))

  -- what a legal entry answers
  pub evaluated_short : (p : ℕ) (pick : Option Server) (out : StepOut) → If IsServer pick → IsEvaluated J p pick out → IsShortOut out
  evaluated_short p pick out picked is =
      answered_short (sheets_by J is.0.root) (valid_by J legal is.0.root) (input J p is.0 pick) out (input_sees p is.0 pick (short.nodes p is.0 is.1) picked) is.2

  pub pick_short : (p : ℕ) (pick : Option Server) → PicksRight J p pick → If IsServer pick
  pick_short p None right = tt
  pick_short p (Some server) right =
      let fits = (and_parts (needs_server J p right.0) (pick_fits J p right.0 server) right.2).1 in
      short.live server (and_parts (is_live J server) _ fits).0
