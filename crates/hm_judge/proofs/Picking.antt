-- Whether a step needs a server to be picked, and which fits, by the procedure as it is shown.
use Rattle.std.proofs.Common.{◌≡◌, ◌↔◌, ◌&&◌, ◌||◌, ℕ, List, [], ◌∷◌, Bool, true, false, not, IsTrue, Option, Some, None, refl, inl, inr, ap, sym, ◌∙◌, is_some}
use Rattle.std.proofs.lemmas.Option.{same_Some}
use Rattle.std.proofs.lemmas.Bool.{cases_Bool, true≢false, false≢true}
use Rattle.hm_names.specs.Region.{Region}
use Rattle.hm_names.specs.Server.{Server}
use Rattle.hm_data.specs.declared.args.Args.{Args}
use Rattle.hm_data.specs.declared.args.Args.TheVariants as args_are
use Rattle.hm_data.specs.declared.catalog.CatKey.{CatKey}
use Rattle.hm_data.specs.declared.catalog.CatKey.TheVariants as key_is
use Rattle.hm_data.specs.declared.record.Record.{Record}
use Rattle.hm_data.specs.declared.request.Request.{Request}
use Rattle.hm_data.specs.declared.request.Request.TheVariants as request_is
use Rattle.hm_data.specs.declared.sheet.Row.{Row}
use Rattle.hm_data.specs.declared.sheet.Sheet.{Sheet}
use Rattle.hm_data.specs.declared.step.StepIn.{StepIn}
use Rattle.hm_model.specs.Catalog.{Catalog, cat, keep, keys_of, row_at, rows_at}
use Rattle.hm_model.specs.Editions.{sheets_in}
use Rattle.hm_model.specs.Evaluation.{is_cut_off, is_picking, is_step, picks_at, wants_server}
use Rattle.hm_model.specs.Inputs.{input, rows_read, sees_fenced, step_input, turn_input, undo_input, undoes}
use Rattle.hm_model.specs.Answers.{is_aborted, row_of}
use Rattle.hm_model.specs.Choice.{place_told}
use Rattle.hm_model.specs.Journal.{Past}
use Rattle.hm_model.specs.Keys.{same_table}
use Rattle.hm_model.specs.Phase.{all_stopped, cause}
use Rattle.hm_model.specs.Rest.{MayUndo}
use Rattle.hm_model.specs.Picks.{PicksRight, fits_input, is_pick_right, needs_server, pick_fits}
use Rattle.hm_model.specs.Procedures.{sheet_at, sheet_of}
use Rattle.hm_model.specs.Reads.{reads}
use Rattle.hm_model.specs.Records.{record_at, record_of}
use Rattle.hm_model.specs.Rules.{IsLegal}
use Rattle.hm_model.specs.Sheets.{next_row, row_in, sheet_for}
use Rattle.hm_model.specs.TransitActs.{is_open, may_open, may_open_in}
use Rattle.hm_model.specs.Tree.{Node, is_top, node_of}
use Rattle.hm_model.specs.Undo.{Undoable, is_empty, stack}
use Rattle.hm_model.specs.Views.{region_of}
use Rattle.hm_model.proofs.KeyTests.{same_region-refl, same_table-refl}
use Rattle.hm_model.proofs.Rows.{row_read}
use Rattle.hm_model.proofs.UndoMakes.{AllThere, stacked_all}
use Rattle.hm_judge.specs.Picks.{can_open, fits_record, wants, wants_if}
use Rattle.hm_judge.proofs.Editions.{next_is}
use Rattle.hm_judge.proofs.Found.{there_of}

-- where nothing is read, no row is
rows_none : (asked : CatKey → Bool) → ((key : CatKey) → asked key ≡ false) → (there : Catalog) (keys : List CatKey) → rows_at asked there keys ≡ []
rows_none asked none there [] = refl
rows_none asked none there (key ∷ keys) = ap (λ b. keep b key (there key) (rows_at asked there keys)) (none key) ∙ rows_none asked none there keys

module _ (J : Past) (args : Args) where
  -- the region's row and its table's are read
  read_both : (region : Region) → reads args (key_is.Table region.table) ≡ true → reads args (key_is.Region region) ≡ true → may_open_in (rows_read J args) region ≡ can_open J region
  read_both region table own =
      ap (λ r. may_open r (row_at (rows_read J args) (key_is.Region region))) (row_read J args (key_is.Table region.table) table)
      ∙ ap (may_open (cat J (key_is.Table region.table))) (row_read J args (key_is.Region region) own)

  -- no row is read
  read_none : ((key : CatKey) → reads args key ≡ false) → (region : Region) → may_open_in (rows_read J args) region ≡ false
  read_none none region = ap (λ rows. may_open_in rows region) (rows_none (reads args) none (cat J) (keys_of J))

  -- the region may be opened, and isn't open, by the rows that are read
  abbrev seen_if : Option Region → Bool
  seen_if None = false
  seen_if (Some region) = may_open_in (rows_read J args) region && not (is_open (place_told J args) (sees_fenced J args))

  by_rows : (one other : Bool) → one ≡ other → (one && not (is_open (place_told J args) (sees_fenced J args))) ≡ (other && not (is_open (place_told J args) (sees_fenced J args)))
  by_rows one other same = ap (λ b. b && not (is_open (place_told J args) (sees_fenced J args))) same

  by_both : (region : Region) → reads args (key_is.Table region.table) ≡ true → reads args (key_is.Region region) ≡ true → seen_if (Some region) ≡ wants_if J args (Some region)
  by_both region table own = by_rows (may_open_in (rows_read J args) region) (can_open J region) (read_both region table own)

  by_none : ((key : CatKey) → reads args key ≡ false) → (region : Region) → seen_if (Some region) ≡ false
  by_none none region = by_rows (may_open_in (rows_read J args) region) false (read_none none region)

-- a region's own table
own_table : (region : Region) → (same_table region.table region.table || false) ≡ true
own_table region = ap (λ b. b || false) (same_table-refl region.table)

-- whether a region wants a server, by the rows of the catalog themselves
seen_request : (J : Past) (request : Request) (first : ℕ) → seen_if J (args_are.Root request first) (region_of (args_are.Root request first)) ≡ wants J (args_are.Root request first)
seen_request J (request_is.CreateNamespace ns) first = refl
seen_request J (request_is.DropNamespace ns) first = refl
seen_request J (request_is.CreateTable table keys) first = refl
seen_request J (request_is.DeleteTable table) first = refl
seen_request J (request_is.EnableTable table) first = refl
seen_request J (request_is.DisableTable table) first = refl
seen_request J (request_is.ModifyTable table version) first = refl
seen_request J (request_is.SplitRegion region key) first = by_both J (args_are.Root (request_is.SplitRegion region key) first) region (own_table region) (same_region-refl region)
seen_request J (request_is.MergeRegions regions) first = refl
seen_request J (request_is.Move region to) first = by_both J (args_are.Root (request_is.Move region to) first) region (own_table region) (same_region-refl region)

seen_wants : (J : Past) (args : Args) → seen_if J args (region_of args) ≡ wants J args
seen_wants J (args_are.Root request first) = seen_request J request first
seen_wants J (args_are.Transit region goal to) = by_both J (args_are.Transit region goal to) region (own_table region) (same_region-refl region)
seen_wants J (args_are.Crash server) = refl
seen_wants J (args_are.AddRegions table first bounds) = refl
seen_wants J (args_are.DropRegions table ids) = refl
seen_wants J (args_are.AssignCall region server) = by_none J (args_are.AssignCall region server) (λ key. refl) region
seen_wants J (args_are.CloseCall region server) = by_none J (args_are.CloseCall region server) (λ key. refl) region
seen_wants J (args_are.FenceCall server) = refl
seen_wants J (args_are.LayoutCall root) = refl
seen_wants J (args_are.SweepLayout root) = refl

wants_are : (J : Past) (p : ℕ) (x : Node) → wants_server (region_of x.args) (step_input J p x None) ≡ wants J x.args
wants_are J p x = by (region_of x.args) ∙ seen_wants J x.args
  where
    by : (o : Option Region) → wants_server o (step_input J p x None) ≡ seen_if J x.args o
    by None = refl
    by (Some region) = refl

and_off : (a b c : Bool) → b ≡ false → (a && (b && c)) ≡ false
and_off true b c e = ap (λ x. x && c) e
and_off false b c e = refl

and_three : (a b c : Bool) → (a && (b && c)) ≡ ((a && b) && c)
and_three true b c = refl
and_three false b c = refl

last_of : (a b c d : Bool) → (a && (b && (c && d))) ≡ true → d ≡ true
last_of true true true d e = e
last_of true true false d e = absurd (false≢true e)
last_of true false c d e = absurd (false≢true e)
last_of false b c d e = absurd (false≢true e)

-- where a step is undone, no server is picked
pub no_pick : (o : Option Row) (at : StepIn) → is_step at.turn ≡ false → picks_at o at ≡ false
no_pick None at e = refl
no_pick (Some row) at e = and_off (is_picking row.act) (is_step at.turn) (not (is_cut_off row at) && wants_server (region_of at.args) at) e

-- where a step is undone, the turn is no step
pub turned : (J : Past) (r : ℕ) (undoing : Bool) (steps : List Undoable) (at : StepIn) → undoing ≡ true → AllThere J r steps → not (is_empty steps) ≡ true → is_step (let now = turn_input J undoing steps at in now.turn) ≡ false
turned J r false steps at e all some = absurd (false≢true e)
turned J r true [] at e all some = absurd (false≢true some)
turned J r true (latest ∷ below) at e all some =
    ap (λ o. is_step (let now = (elim o as (λ n. StepIn) [ None ↦ at | Some its ↦ undo_input latest its at ]) in now.turn)) all.0.1

pub needs_none : (J : Past) → IsLegal J → (p : ℕ) (x : Node) → undoes J p x ≡ true → needs_server J p x ≡ false
needs_none J legal p x on =
    let at : StepIn = input J p x None in
    no_pick (row_in (sheet_at J at) at.row) at
    (turned J p (undoes J p x) (stack J p) (step_input J p x None) on (stacked_all J legal p) (last_of (is_top x.above) (is_some (cause J p)) (all_stopped J p) (not (is_empty (stack J p))) on))

-- a step of its own needs a server by its row
pub needs_step : (J : Past) (p : ℕ) (x : Node) → node_of J p ≡ Some x → undoes J p x ≡ false → needs_server J p x ≡ picks_at (next_row J p x) (step_input J p x None)
needs_step J p x is off =
    ap (λ b. let at = turn_input J b (stack J p) (step_input J p x None) in picks_at (row_in (sheet_at J at) at.row) at) off
    ∙ ap (λ o. picks_at (row_in (elim o as (λ n. Option Sheet) [ None ↦ None | Some node ↦ sheet_of J p node ]) (row_of J p x)) (step_input J p x None)) is

pub undoes_not : (J : Past) (p : ℕ) (x : Node) → node_of J p ≡ Some x → (b : Bool) → b ≡ false → (IsTrue b ↔ MayUndo J p) → undoes J p x ≡ false
undoes_not J p x is b off tells = elim (cases_Bool (undoes J p x)) [
  | inl on ↦ absurd (true≢false (sym (tells.1 (x, is, on)) ∙ off))
  | inr not_so ↦ not_so
]

pub undoes_so : (J : Past) (p : ℕ) (x : Node) → node_of J p ≡ Some x → (b : Bool) → b ≡ true → (IsTrue b ↔ MayUndo J p) → undoes J p x ≡ true
undoes_so J p x is b on tells = let may = tells.0 on in ap (undoes J p) (same_Some x may.0 (sym is ∙ may.1)) ∙ may.2

pub needs_row : (J : Past) → IsLegal J → (p : ℕ) (its : Record) (x : Node) → node_of J p ≡ Some x → its ≡ record_at J p x → undoes J p x ≡ false
    → (o : Option Row) → o ≡ row_in (sheet_for (sheets_in J its.edition) its.kind) its.row → (row : Row) → o ≡ Some row
    → (places : Bool) → places ≡ (is_picking row.act && not (its.aborted && not row.after)) → (places && wants J its.args) ≡ needs_server J p x
needs_row J legal p its x is shown off o found row some places said =
    let next : next_row J p x ≡ Some row = next_is J legal p its x is shown ∙ sym found ∙ some in
    let same : places ≡ (is_picking row.act && not (is_aborted J p && not row.after)) = said ∙ ap (λ (r : Record). is_picking row.act && not (r.aborted && not row.after)) shown in
    ap (λ b. b && wants J its.args) same
    ∙ ap (λ (r : Record). (is_picking row.act && not (is_aborted J p && not row.after)) && wants J r.args) shown
    ∙ sym (
    needs_step J p x is off
    ∙ ap (λ r. picks_at r (step_input J p x None)) next
    ∙ ap (λ w. is_picking row.act && (not (is_aborted J p && not row.after) && w)) (wants_are J p x)
    ∙ and_three (is_picking row.act) (not (is_aborted J p && not row.after)) (wants J x.args)
    )

-- where there is no row, none is needed
pub needs_no_row : (J : Past) → IsLegal J → (p : ℕ) (its : Record) (x : Node) → node_of J p ≡ Some x → its ≡ record_at J p x → undoes J p x ≡ false
    → (o : Option Row) → o ≡ row_in (sheet_for (sheets_in J its.edition) its.kind) its.row → o ≡ None → false ≡ needs_server J p x
needs_no_row J legal p its x is shown off o found none =
    sym (needs_step J p x is off ∙ ap (λ r. picks_at r (step_input J p x None)) (next_is J legal p its x is shown ∙ sym found ∙ none))

pub right_by : (J : Past) → IsLegal J → (p : ℕ) (its : Record) → Some its ≡ record_of J p → (pick : Option Server) (server : Server) → pick ≡ Some server
    → (needed : Bool) → needed ≡ true → ((x : Node) → node_of J p ≡ Some x → its ≡ record_at J p x → needed ≡ needs_server J p x)
    → (fits : Bool) → fits ≡ fits_record J its server → IsTrue fits ↔ PicksRight J p pick
right_by J legal p its some pick server picked needed on tells fits said =
    let t = there_of J p its some in
    let x = t.0 in
    let needs : needs_server J p x ≡ true = sym (tells x t.1 t.2) ∙ on in
    let off : undoes J p x ≡ false = elim (cases_Bool (undoes J p x)) [
      | inl undoing ↦ absurd (true≢false (sym needs ∙ needs_none J legal p x undoing))
      | inr not_so ↦ not_so
    ] in
    let same : pick_fits J p x server ≡ fits =
    ap (λ b. fits_input J (turn_input J b (stack J p) (step_input J p x None)) server) off
    ∙ ap (λ r. fits_record J r server) (sym t.2) ∙ sym said in
    let right : is_pick_right J p x pick (needs_server J p x) ≡ fits =
    ap (λ o. is_pick_right J p x o (needs_server J p x)) picked
    ∙ ap (λ b. b && pick_fits J p x server) needs ∙ same in (
      λ good. (x, t.1, right ∙ good),
      λ it. sym right ∙ ap (λ y. is_pick_right J p y pick (needs_server J p y)) (same_Some x it.0 (sym t.1 ∙ it.1)) ∙ it.2,
    )
