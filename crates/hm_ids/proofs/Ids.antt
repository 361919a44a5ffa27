-- The ids of regions that acts name are numbers from 1 on. No journal.
use Rattle.std.proofs.Common.{ap, ◌≡◌, ◌≢◌, ℕ, zero, suc, ◌+◌, ◌-◌, ◌≤◌, ◌<◌, ◌^◌, Bool, true, false, cond, nat_le, List, [], ◌∷◌, ◌++◌, length, length-drop, take, drop, map, Option, Some, None, refl, sym, subst, ◌∙◌, ◌&&◌, ◌==◌, arith, slice_get}
use Rattle.std.specs.List.{AllByRecursion, filter, list_any}
use Rattle.std.specs.declared.cmp.Ordering.{Ordering}
use Rattle.std.specs.declared.cmp.Ordering.TheVariants.{Less, Equal, Greater}
use Rattle.std.proofs.lemmas.Bool.{leb-false, ne_eqb, or_from}
use Rattle.std.proofs.lemmas.Option.{none-some, same_Some}
use Rattle.hm_names.specs.Order.{region_cmp}
use Rattle.hm_names.specs.Region.{Region}
use Rattle.hm_names.specs.declared.pid.Pid.{Pid}
use Rattle.hm_names.specs.declared.table.TableName.{TableName}
use Rattle.hm_data.specs.declared.act.Act.{Act}
use Rattle.hm_data.specs.declared.act.Back.{Back}
use Rattle.hm_data.specs.declared.act.Back.TheVariants as back_is
use Rattle.hm_data.specs.declared.args.Args.{Args}
use Rattle.hm_data.specs.declared.args.Args.TheVariants as args_are
use Rattle.hm_data.specs.declared.args.Child.{Child}
use Rattle.hm_data.specs.declared.args.Child.TheVariants as child_is
use Rattle.hm_data.specs.declared.catalog.CatKey.{CatKey}
use Rattle.hm_data.specs.declared.catalog.CatKey.TheVariants as key_is
use Rattle.hm_data.specs.declared.catalog.CatRow.{CatRow}
use Rattle.hm_data.specs.declared.place.Goal.{Goal}
use Rattle.hm_data.specs.declared.place.Goal.TheVariants as goal_is
use Rattle.hm_data.specs.declared.request.Request.{Request}
use Rattle.hm_data.specs.declared.request.Request.TheVariants as request_is
use Rattle.hm_data.specs.declared.sheet.Row.{Row}
use Rattle.hm_data.specs.declared.step.StepIn.{StepIn}
use Rattle.hm_data.specs.declared.step.StepOut.{StepOut}
use Rattle.hm_model.proofs.MadeOf.{made_of}
use Rattle.hm_model.proofs.StepDoes.{row_by}
use Rattle.hm_model.specs.MadeOf.{AreMoved, IsMadeOf, Makes, Making, Which, making}
use Rattle.hm_model.specs.Catalog.{Catalog, keep, rows_at}
use Rattle.hm_model.specs.Evaluation.{ids_in, row_answer}
use Rattle.hm_model.specs.Keys.{same_table}
use Rattle.hm_model.specs.Locks.{in_name_order, with_region, with_region_at}
use Rattle.hm_model.specs.Outs.{spawns}
use Rattle.hm_model.specs.Pieces.{Batch, adding, batches, dropping, numbers_from, pieces_of, transits, with_batch}
use Rattle.hm_model.specs.Places.{joined_at, joined_by}
use Rattle.hm_model.specs.RegionActs.{regions_for}
use Rattle.hm_model.specs.RowsSaid.{Rows, all_among, is_live_status, keep_region, regions_among, status_in}
use Rattle.hm_model.specs.Tree.{args_in}
use Rattle.hm_model.specs.Undoing.{closed_by, closed_by_request, undo_followers}
use Rattle.hm_model.specs.Views.{bounds_of, first_id_of, region_of, region_of_request, regions_in}
use Rattle.hm_ids.proofs.Drawn.{ArgsDrawn, bounds_fit}
use Rattle.hm_model.specs.RegionIds.{AreIds, NamesIds, is_zero_transit}

-- regions with their ids
abbrev pub AreRegions : List Region → Type 0
AreRegions regions = AllByRecursion (λ (region : Region). 1 ≤ region.id) regions

-- the transits that are asked for are of ids, and other procedures name ids
abbrev pub ChildrenNameIds : List Child → Type 0
ChildrenNameIds [] = Unit {0}
ChildrenNameIds (child_is.Transits table ids goal ∷ more) = AreIds ids × ChildrenNameIds more
ChildrenNameIds (child_is.One args ∷ more) = NamesIds args × ChildrenNameIds more

-- lists
module _ {A : Type 0} (P : A → Type 0) where
  pub all_take : (n : ℕ) (list : List A) → AllByRecursion P list → AllByRecursion P (take n list)
  all_take zero list all = tt
  all_take (suc n) [] all = tt
  all_take (suc n) (x ∷ more) all = (all.0, all_take n more all.1)

  all_drop : (n : ℕ) (list : List A) → AllByRecursion P list → AllByRecursion P (drop n list)
  all_drop zero list all = all
  all_drop (suc n) [] all = tt
  all_drop (suc n) (x ∷ more) all = all_drop n more all.1

  pub all_filter : (test : A → Bool) (list : List A) → AllByRecursion P list → AllByRecursion P (filter test list)
  all_filter test [] all = tt
  all_filter test (x ∷ more) all = by (all_filter test more all.1) (test x)
    where
      by : AllByRecursion P (filter test more) → (b : Bool) → AllByRecursion P (cond b (x ∷ filter test more) (filter test more))
      by rest true = (all.0, rest)
      by rest false = rest

-- ids from 1 on that are small
abbrev pub Small : TableName → ℕ → Type 0
Small table id = (1 ≤ id) × (id < 2 ^ 32)

-- a region's key has an id
abbrev pub IsIdAt : CatKey → Type 0
IsIdAt (key_is.Region region) = 1 ≤ region.id
IsIdAt key = Unit {0}

abbrev pub RowsHaveIds : Rows → Type 0
RowsHaveIds [] = Unit {0}
RowsHaveIds ((key, row) ∷ more) = IsIdAt key × RowsHaveIds more

-- the procedures that children stand for name ids
made_transits : (table : TableName) (goal : Goal) (ids : List ℕ) → AreIds ids → (more : List Args) → ((i : ℕ) (args : Args) → slice_get more i ≡ Some args → NamesIds args) → (i : ℕ) (args : Args) → slice_get (map (λ id. args_are.Transit (record { table = table; id = id }) goal None) ids ++ more) i ≡ Some args → NamesIds args
made_transits table goal [] all more rest i args is = rest i args is
made_transits table goal (id ∷ ids) all more rest zero args is = subst NamesIds (same_Some _ args is) ((all.0, tt), omega arith)
made_transits table goal (id ∷ ids) all more rest (suc i) args is = made_transits table goal ids all.1 more rest i args is

pub made_names : (children : List Child) → ChildrenNameIds children → (i : ℕ) (args : Args) → slice_get (args_in children) i ≡ Some args → NamesIds args
made_names [] all i args is = absurd (none-some args is)
made_names (child_is.Transits table ids goal ∷ more) all i args is = made_transits table goal ids all.0 (args_in more) (λ k a g. made_names more all.1 k a g) i args is
made_names (child_is.One own ∷ more) all zero args is = subst NamesIds (same_Some own args is) all.0
made_names (child_is.One own ∷ more) all (suc i) args is = made_names more all.1 i args is

-- none of the children is a transit of the region number 0
no_zero : (ids : List ℕ) → AreIds ids → list_any (λ id. id == 0) ids ≡ false
no_zero [] all = refl
no_zero (id ∷ ids) all = let one = all.0 in or_from (id == 0) (list_any (λ i. i == 0) ids) (ne_eqb id 0 (λ e. omega (arith, one, e))) (no_zero ids all.1)

pub none_of_none : (children : List Child) → ChildrenNameIds children → list_any is_zero_transit children ≡ false
none_of_none [] all = refl
none_of_none (child_is.Transits table ids goal ∷ more) all = or_from (list_any (λ id. id == 0) ids) (list_any is_zero_transit more) (no_zero ids all.0) (none_of_none more all.1)
none_of_none (child_is.One args ∷ more) all = none_of_none more all.1

-- transits of regions
with_at : (o : Ordering) (region first : Region) (more rest : List Region) → 1 ≤ region.id → AreRegions (first ∷ more) → AreRegions rest → AreRegions (with_region_at o region first more rest)
with_at Less region first more rest one all others = (one, all)
with_at Equal region first more rest one all others = (one, all)
with_at Greater region first more rest one all others = (all.0, others)

with_one : (region : Region) (regions : List Region) → 1 ≤ region.id → AreRegions regions → AreRegions (with_region region regions)
with_one region [] one all = (one, tt)
with_one region (first ∷ more) one all = with_at (region_cmp region first) region first more (with_region region more) one all (with_one region more one all.1)

ordered : (regions : List Region) → AreRegions regions → AreRegions (in_name_order regions)
ordered [] all = tt
ordered (region ∷ more) all = with_one region (in_name_order more) all.0 (ordered more all.1)

join_at : (o : Ordering) (region first : Region) (more rest : List Region) → 1 ≤ region.id → AreRegions (first ∷ more) → AreRegions rest → AreRegions (joined_at o region first more rest)
join_at Less region first more rest one all others = (one, all)
join_at Equal region first more rest one all others = all
join_at Greater region first more rest one all others = (all.0, others)

pub join_one : (region : Region) (regions : List Region) → 1 ≤ region.id → AreRegions regions → AreRegions (joined_by region regions)
join_one region [] one all = (one, tt)
join_one region (first ∷ more) one all = join_at (region_cmp region first) region first more (joined_by region more) one all (join_one region more one all.1)

abbrev AreBatches : List Batch → Type 0
AreBatches list = AllByRecursion (λ (batch : Batch). AreIds batch.ids) list

batch_one : (region : Region) (list : List Batch) → 1 ≤ region.id → AreBatches list → AreBatches (with_batch region list)
batch_one region [] one all = ((one, tt), tt)
batch_one region (batch ∷ more) one all = by (same_table region.table batch.table)
  where
    by : (b : Bool) → AreBatches (cond b (record { table = batch.table; ids = region.id ∷ batch.ids } ∷ more) (record { table = region.table; ids = region.id ∷ [] } ∷ batch ∷ more))
    by true = ((one, all.0), all.1)
    by false = ((one, tt), all)

batched : (regions : List Region) → AreRegions regions → AreBatches (batches regions)
batched [] all = tt
batched (region ∷ more) all = batch_one region (batches more) all.0 (batched more all.1)

sent : (goal : Goal) (list : List Batch) → AreBatches list → ChildrenNameIds (map (λ batch. child_is.Transits batch.table batch.ids goal) list)
sent goal [] all = tt
sent goal (batch ∷ more) all = (all.0, sent goal more all.1)

transits_name : (goal : Goal) (regions : List Region) → AreRegions regions → ChildrenNameIds (transits goal regions)
transits_name goal regions all = sent goal (batches (in_name_order regions)) (batched (in_name_order regions) (ordered regions all))

-- regions by their ids
numbered : (table : TableName) (first count : ℕ) → 1 ≤ first → AreRegions (regions_in table (numbers_from first count))
numbered table first zero one = tt
numbered table first (suc count) one = (one, numbered table (first + 1) count (omega (arith, one)))

kept_name : (table : TableName) (test : CatRow → Bool) (key : CatKey) (row : CatRow) (more : List Region) → IsIdAt key → AreRegions more → AreRegions (keep_region table test key row more)
kept_name table test (key_is.Region region) row more one all = by (same_table table region.table && test row)
  where
    by : (b : Bool) → AreRegions (cond b (region ∷ more) more)
    by true = (one, all)
    by false = all
kept_name table test key row more one all = all

among : (table : TableName) (test : CatRow → Bool) (rows : Rows) → RowsHaveIds rows → AreRegions (regions_among table test rows)
among table test [] all = tt
among table test ((key, row) ∷ rows) all = kept_name table test key row (regions_among table test rows) all.0 (among table test rows all.1)

ids_of_regions : (regions : List Region) → AreRegions regions → AreIds (map (λ region. region.id) regions)
ids_of_regions [] all = tt
ids_of_regions (region ∷ more) all = (all.0, ids_of_regions more all.1)

regions_of_ids : (regions : List Region) → AreIds (map (λ region. region.id) regions) → AreRegions regions
regions_of_ids [] all = tt
regions_of_ids (region ∷ more) all = (all.0, regions_of_ids more all.1)

-- the rows that are read of a catalog
pub read_ids : (asked : CatKey → Bool) (there : Catalog) (keys : List CatKey) → ((region : Region) → there (key_is.Region region) ≢ None → 1 ≤ region.id) → RowsHaveIds (rows_at asked there keys)
read_ids asked there [] rows = tt
read_ids asked there (key ∷ keys) rows = by (read_ids asked there keys rows) (asked key) (there key) refl
  where
    own : (k : CatKey) → there k ≢ None → IsIdAt k
    own (key_is.Region region) some = rows region some
    own key some = tt

    by : RowsHaveIds (rows_at asked there keys) → (b : Bool) (o : Option CatRow) → there key ≡ o → RowsHaveIds (keep b key o (rows_at asked there keys))
    by rest false o e = rest
    by rest true None e = rest
    by rest true (Some row) e = (own key (λ none. none-some row (sym none ∙ e)), rest)

-- pieces
pieces_name : (table : TableName) (most : ℕ) (ids : List ℕ) → AreIds ids → ChildrenNameIds (map (λ piece. child_is.One (args_are.DropRegions table piece)) (pieces_of 64 most ids))
pieces_name table zero ids all = tt
pieces_name table (suc most) [] all = tt
pieces_name table (suc most) (id ∷ ids) all =
    ((all_take (λ i. 1 ≤ i) 64 (id ∷ ids) all, omega arith), pieces_name table most (drop 64 (id ∷ ids)) (all_drop (λ i. 1 ≤ i) 64 (id ∷ ids) all))

drops_name : (table : TableName) (ids : List ℕ) → AreIds ids → ChildrenNameIds (dropping table ids)
drops_name table ids all = pieces_name table (length ids) ids all

adds_name : (most : ℕ) (table : TableName) (first : ℕ) (bounds : List (List ℕ)) → ((i : ℕ) → first ≤ i → i + 1 < first + length bounds → Small table i) → ChildrenNameIds (adding most table first bounds)
adds_name zero table first bounds fits = tt
adds_name (suc most) table first bounds fits =
    by (adds_name most table (first + 64) (drop 64 bounds) (λ i low high. (let size = length-drop 64 bounds in fits i (omega (arith, low)) (omega (arith, size, low, high))))) (nat_le (length bounds) 1) refl
  where
    by : ChildrenNameIds (adding most table (first + 64) (drop 64 bounds)) → (b : Bool) → nat_le (length bounds) 1 ≡ b → ChildrenNameIds (cond b [] (child_is.One (args_are.AddRegions table first (take 65 bounds)) ∷ adding most table (first + 64) (drop 64 bounds)))
    by rest true e = tt
    by rest false e = let more = leb-false (length bounds) 1 e in let own = fits first (omega arith) (omega (arith, more)) in (((own.0, tt), own.1), rest)

-- what a procedure names
first_named : (args : Args) (bounds : List (List ℕ)) → NamesIds args → bounds_of args ≡ Some bounds → 1 ≤ first_id_of args
first_named (args_are.Root request first) bounds names is = names.0.0
first_named (args_are.AddRegions table first own) bounds names is = names.0.0
first_named args bounds names is = absurd (none-some bounds is)

region_in : (request : Request) (region : Region) → AreIds (ids_in request) → region_of_request request ≡ Some region → 1 ≤ region.id
region_in (request_is.SplitRegion own key) region names is = subst (λ (r : Region). 1 ≤ r.id) (same_Some own region is) names.0
region_in (request_is.Move own to) region names is = subst (λ (r : Region). 1 ≤ r.id) (same_Some own region is) names.0
region_in request region names is = absurd (none-some region is)

pub region_named : (args : Args) (region : Region) → NamesIds args → region_of args ≡ Some region → 1 ≤ region.id
region_named (args_are.Root request first) region names is = region_in request region names.0.1 is
region_named (args_are.Transit own goal to) region names is = subst (λ (r : Region). 1 ≤ r.id) (same_Some own region is) names.0.0
region_named (args_are.AssignCall own server) region names is = subst (λ (r : Region). 1 ≤ r.id) (same_Some own region is) names.0.0
region_named (args_are.CloseCall own server) region names is = subst (λ (r : Region). 1 ≤ r.id) (same_Some own region is) names.0.0
region_named args region names is = absurd (none-some region is)

closed_in : (request : Request) → AreIds (ids_in request) → AreRegions (closed_by_request request)
closed_in (request_is.SplitRegion region key) names = names
closed_in (request_is.MergeRegions regions) names = regions_of_ids regions names
closed_in request names = tt

closed_named : (args : Args) → NamesIds args → AreRegions (closed_by args)
closed_named (args_are.Root request first) names = closed_in request names.0.1
closed_named args names = tt

regions_named : (table : TableName) (args : Args) (rows : Rows) → NamesIds args → RowsHaveIds rows → (o : Option (List (List ℕ))) → bounds_of args ≡ o → AreRegions (regions_for table (first_id_of args) o rows)
regions_named table args rows names read None e = among table (λ row. is_live_status (status_in (Some row))) rows read
regions_named table args rows names read (Some bounds) e = numbered table (first_id_of args) (length bounds - 1) (first_named args bounds names e)

-- what undoes a step
pub followers_name : (undo : Back) (args : Args) (root : Pid) → NamesIds args → ChildrenNameIds (undo_followers undo args root)
followers_name back_is.Sweep args root names = ((tt, omega arith), tt)
followers_name back_is.Reopen args root names = transits_name goal_is.Assign (closed_by args) (closed_named args names)
followers_name undo args root names = tt

-- forms of answers
abbrev pub NamesAll : StepOut → Type 0
NamesAll out = ChildrenNameIds out.children

names_spawns : (next : ℕ) (children : List Child) → ChildrenNameIds children → NamesAll (spawns next children)
names_spawns next [] all = tt
names_spawns next (child ∷ more) all = all

-- the acts that open the regions that a request drew
abbrev is_new_made : Making → Bool
is_new_made (Making.moves goal (Which.drawn count)) = true
is_new_made making = false

abbrev pub opens_new : Act → Bool
opens_new act = is_new_made (making act)

-- what a step sees: ids alone
pub record SeesIds (act : Act) (at : StepIn) : Type 0 where
  pub names : NamesIds at.args
  pub drawn : ArgsDrawn Small at.args
  pub first : opens_new act ≡ true → 1 ≤ first_id_of at.args
  pub rows : RowsHaveIds at.rows
  pub on_server : AreRegions at.on_server

names_moved : (act : Act) (at : StepIn) → SeesIds act at → (goal : Goal) (which : Which) → making act ≡ Making.moves goal which → {regions : List Region} → AreMoved at which regions → AreRegions regions
names_moved act at sees goal which only (AreMoved.of_table table own) = regions_named table at.args at.rows sees.names sees.rows (bounds_of at.args) refl
names_moved act at sees goal which only AreMoved.of_closed = closed_named at.args sees.names
names_moved act at sees goal which only (AreMoved.of_drawn count table own) = numbered table (first_id_of at.args) count (sees.first (ap is_new_made only))
names_moved act at sees goal which only AreMoved.of_lost = sees.on_server

names_makes : (act : Act) (at : StepIn) → SeesIds act at → {children : List Child} → Makes act at children → ChildrenNameIds children
names_makes act at sees (Makes.lays only) = ((tt, omega arith), tt)
names_makes act at sees (Makes.fences only server is) = ((tt, omega arith), tt)
names_makes act at sees (Makes.adds_all only table is bounds are) = adds_name (length bounds) table (first_id_of at.args) bounds (bounds_fit Small at.args table bounds sees.drawn is are)
names_makes act at sees (Makes.drops_all only table is) =
    let ids = ids_of_regions (all_among table at.rows) (among table (λ row. true) at.rows sees.rows) in
    drops_name table (map (λ (region : Region). region.id) (all_among table at.rows)) ids
names_makes act at sees (Makes.sends goal sent which only regions are) = transits_name goal regions (names_moved act at sees goal which only are)
names_makes act at sees (Makes.opens off region is server there) = (((region_named at.args region sees.names is, tt), omega arith), tt)

-- what each act makes
names_made : (act : Act) (next : ℕ) (at : StepIn) → SeesIds act at → {out : StepOut} → IsMadeOf act next at out → NamesAll out
names_made act next at sees (IsMadeOf.made children makes) = names_spawns next children (names_makes act at sees makes)
names_made act next at sees (IsMadeOf.shut off region is server there) = (((region_named at.args region sees.names is, tt), omega arith), tt)
names_made act next at sees other = tt

-- and so a row
pub row_names : (row : Row) (at : StepIn) → SeesIds row.act at → NamesAll (row_answer row at)
row_names row at sees = row_by NamesAll row at (λ cause. tt) (names_made row.act row.next at sees (made_of row.act row.next at))
