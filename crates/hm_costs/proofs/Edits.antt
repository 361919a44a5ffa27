-- Of what a step edits the regions' rows are of the table that its procedure works on.
use Rattle.std.proofs.Common.{◌≡◌, ℕ, ◌+◌, List, [], ◌∷◌, ◌++◌, true, Option, Some, None, refl, ap, sym, subst, inl, inr}
use Rattle.std.proofs.lemmas.Option.{none-some, same_Some}
use Rattle.std.specs.declared.cmp.Ordering.{Ordering}
use Rattle.std.specs.declared.cmp.Ordering.TheVariants.{Equal, Greater, Less}
use Rattle.hm_names.specs.Order.{region_cmp}
use Rattle.hm_names.specs.Region.{Region}
use Rattle.hm_names.specs.declared.range.KeyRange.{KeyRange}
use Rattle.hm_names.specs.declared.table.TableName.{TableName}
use Rattle.hm_data.specs.declared.act.Act.{Act}
use Rattle.hm_data.specs.declared.args.Args.{Args}
use Rattle.hm_data.specs.declared.args.Args.TheVariants as args_are
use Rattle.hm_data.specs.declared.args.Child.{Child}
use Rattle.hm_data.specs.declared.catalog.CatKey.{CatKey}
use Rattle.hm_data.specs.declared.catalog.CatKey.TheVariants as key_is
use Rattle.hm_data.specs.declared.catalog.Edit.{Edit}
use Rattle.hm_data.specs.declared.request.Request.{Request}
use Rattle.hm_data.specs.declared.request.Request.TheVariants as request_is
use Rattle.hm_data.specs.declared.step.StepIn.{StepIn}
use Rattle.hm_data.specs.declared.step.StepOut.{StepOut}
use Rattle.hm_model.specs.declared.merged.Merged.{Merged}
use Rattle.hm_model.specs.Acts.{act_answer}
use Rattle.hm_model.specs.Catalog.{Catalog, row_at}
use Rattle.hm_model.specs.Changes.{add_merged, add_ranges, mark_merged, merge_edits, merged_of, remove_regions, split_edits, split_range}
use Rattle.hm_model.specs.Checks.{by_start, parts_of}
use Rattle.hm_model.specs.Kinds.{table_of_first}
use Rattle.hm_model.specs.Locks.{IsIn, in_name_order, with_region, with_region_at}
use Rattle.hm_model.specs.Outs.{spawns}
use Rattle.hm_model.specs.Pieces.{ranges_between}
use Rattle.hm_model.specs.Requests.{are_siblings, wrong_in}
use Rattle.hm_model.specs.RowsSaid.{range_in}
use Rattle.hm_model.specs.Undoing.{closed_by, turned, turned_round}
use Rattle.hm_model.specs.Views.{first_id_of, region_of, regions_in, table_of}
use Rattle.hm_model.specs.Wanted.{ids_of}
use Rattle.hm_model.specs.MadeOf.{Edits, IsMadeOf, IsOwnKey}
use Rattle.hm_model.proofs.MadeOf.{made_of}
use Rattle.hm_model.proofs.PlainActs.{is_plain}
use Rattle.hm_model.proofs.Siblings.{merge_is, one_table}

-- a region's key is of the table, if there is one
abbrev pub IsKeyOf : Option TableName → CatKey → Type 0
IsKeyOf table (key_is.Region region) = table ≡ Some region.table
IsKeyOf table key = Unit {0}

-- of some edits those of regions' rows are of the table
abbrev pub AreEditsOf : Option TableName → List Edit → Type 0
AreEditsOf table [] = Unit {0}
AreEditsOf table (edit ∷ edits) = IsKeyOf table edit.key × AreEditsOf table edits

-- regions of the table
abbrev pub AreRegionsOf : Option TableName → List Region → Type 0
AreRegionsOf table [] = Unit {0}
AreRegionsOf table (region ∷ more) = (table ≡ Some region.table) × AreRegionsOf table more

-- the regions that a procedure closes are of its table
abbrev pub ClosesItsOwn : Args → Type 0
ClosesItsOwn args = AreRegionsOf (table_of args) (closed_by args)

own_regions : (table : Option TableName) (list : List Region) → ((r : Region) → IsIn r list → table ≡ Some r.table) → AreRegionsOf table list
own_regions table [] own = tt
own_regions table (region ∷ more) own = (own region (inl refl), own_regions table more (λ r later. own r (inr later)))

-- so it is where a request could be submitted
pub asked_closes : (request : Request) (first : ℕ) → wrong_in request ≡ None → ClosesItsOwn (args_are.Root request first)
asked_closes (request_is.SplitRegion region key) first fine = (refl, tt)
asked_closes (request_is.MergeRegions regions) first fine = by regions (merge_is regions fine).siblings
  where
    by : (regions : List Region) → are_siblings regions ≡ true → AreRegionsOf (table_of_first regions) regions
    by [] h = tt
    by (region ∷ more) h = own_regions (Some region.table) (region ∷ more) (λ r among. ap Some (one_table region more h r among))
asked_closes request first fine = tt

-- one list of edits after another
edits_append : (table : Option TableName) (one other : List Edit) → AreEditsOf table one → AreEditsOf table other → AreEditsOf table (one ++ other)
edits_append table [] other all more = more
edits_append table (edit ∷ one) other all more = (all.0, edits_append table one other all.1 more)

-- edits that are turned round are of the same keys
pub edits_turned : (table : Option TableName) (edits : List Edit) → AreEditsOf table edits → AreEditsOf table (turned_round edits)
edits_turned table [] all = tt
edits_turned table (edit ∷ edits) all = edits_append table (turned_round edits) (turned edit ∷ []) (edits_turned table edits all.1) (all.0, tt)

-- where one table is the other, or none
pub edits_as : (one other : Option TableName) → ((table : TableName) → one ≡ Some table → other ≡ Some table) → (edits : List Edit) → AreEditsOf one edits → AreEditsOf other edits
edits_as one other same [] all = tt
edits_as one other same (edit ∷ edits) all = (by edit.key all.0, edits_as one other same edits all.1)
  where
    by : (key : CatKey) → IsKeyOf one key → IsKeyOf other key
    by (key_is.Region region) is = same region.table is
    by key is = tt

-- what the acts edit
added_of : (rows : Catalog) (table : TableName) (first : ℕ) (ranges : List KeyRange) → AreEditsOf (Some table) (add_ranges rows table first ranges)
added_of rows table first [] = tt
added_of rows table first (range ∷ ranges) = (refl, added_of rows table (first + 1) ranges)

removed_of : (rows : Catalog) (table : TableName) (ids : List ℕ) → AreEditsOf (Some table) (remove_regions rows (regions_in table ids))
removed_of rows table [] = tt
removed_of rows table (id ∷ ids) = (refl, removed_of rows table ids)

split_of : (rows : Catalog) (region : Region) (key : List ℕ) (first : ℕ) (range : Option KeyRange) → AreEditsOf (Some region.table) (split_range rows region key first range)
split_of rows region key first None = tt
split_of rows region key first (Some range) = (refl, (refl, (refl, tt)))

-- regions in name order are of the same table
with_of : (table : Option TableName) (region : Region) (list : List Region) → table ≡ Some region.table → AreRegionsOf table list → AreRegionsOf table (with_region region list)
with_of table region [] own all = (own, tt)
with_of table region (first ∷ more) own all = by (region_cmp region first) (with_of table region more own all.1)
  where
    by : (o : Ordering) → AreRegionsOf table (with_region region more) → AreRegionsOf table (with_region_at o region first more (with_region region more))
    by Less on = (own, all)
    by Equal on = (own, all)
    by Greater on = (all.0, on)

ordered_of : (table : Option TableName) (list : List Region) → AreRegionsOf table list → AreRegionsOf table (in_name_order list)
ordered_of table [] all = tt
ordered_of table (region ∷ more) all = with_of table region (in_name_order more) all.0 (ordered_of table more all.1)

marked_of : (table : Option TableName) (rows : Catalog) (list : List Region) → AreRegionsOf table list → AreEditsOf table (mark_merged rows list)
marked_of table rows [] all = tt
marked_of table rows (region ∷ more) all = (all.0, marked_of table rows more all.1)

one_merged : (rows : Catalog) (table : TableName) (first : ℕ) (parts : List Merged) → AreEditsOf (Some table) (merged_of rows table first parts)
one_merged rows table first [] = tt
one_merged rows table first (part ∷ more) = (refl, tt)

merge_of : (table : Option TableName) (rows : Catalog) (first : ℕ) (list : List Region) → AreRegionsOf table list → AreEditsOf table (merge_edits rows list first)
merge_of table rows first list all = edits_append table (mark_merged rows (in_name_order list)) (add_merged rows first list list) (marked_of table rows (in_name_order list) (ordered_of table list all)) (by list all)
  where
    by : (some : List Region) → AreRegionsOf table some → AreEditsOf table (add_merged rows first some list)
    by [] h = tt
    by (region ∷ more) h = subst (λ t. AreEditsOf t (merged_of rows region.table first (by_start (parts_of rows list)))) (sym h.0) (one_merged rows region.table first (by_start (parts_of rows list)))

spawned_of : (table : Option TableName) (next : ℕ) (children : List Child) → AreEditsOf table (spawns next children).edits
spawned_of table next [] = tt
spawned_of table next (child ∷ more) = tt

-- the one region of a procedure is of its table
region_table : (args : Args) (region : Region) → region_of args ≡ Some region → table_of args ≡ Some region.table
region_table (args_are.Root (request_is.SplitRegion own key) first) region is = ap (λ (r : Region). Some r.table) (same_Some own region is)
region_table (args_are.Root (request_is.Move own to) first) region is = ap (λ (r : Region). Some r.table) (same_Some own region is)
region_table (args_are.Root request first) region is = absurd (none-some region is)
region_table (args_are.Transit own goal to) region is = ap (λ (r : Region). Some r.table) (same_Some own region is)
region_table (args_are.AssignCall own server) region is = ap (λ (r : Region). Some r.table) (same_Some own region is)
region_table (args_are.CloseCall own server) region is = ap (λ (r : Region). Some r.table) (same_Some own region is)
region_table args region is = absurd (none-some region is)

-- a row of the procedure's namespace or table is none of a region
own_key : (args : Args) {key : CatKey} → IsOwnKey args key → IsKeyOf (table_of args) key
own_key args (IsOwnKey.of_namespace ns is) = tt
own_key args (IsOwnKey.of_name table is) = tt

own_edits : (act : Act) (at : StepIn) → ClosesItsOwn at.args → {edits : List Edit} → Edits act at edits → AreEditsOf (table_of at.args) edits
own_edits act at own (Edits.one_row key of kinds after becomes) = (own_key at.args of, tt)
own_edits act at own (Edits.adds_rows only table is bounds are) = subst (λ t. AreEditsOf t (add_ranges (row_at at.rows) table (first_id_of at.args) (ranges_between bounds))) (sym is) (added_of (row_at at.rows) table (first_id_of at.args) (ranges_between bounds))
own_edits act at own (Edits.removes_rows only table is) = subst (λ t. AreEditsOf t (remove_regions (row_at at.rows) (regions_in table (ids_of at.args)))) (sym is) (removed_of (row_at at.rows) table (ids_of at.args))
own_edits act at own (Edits.splits only region is key cut) =
    subst (λ t. AreEditsOf t (split_edits (row_at at.rows) region key (first_id_of at.args))) (sym (region_table at.args region is)) (split_of (row_at at.rows) region key (first_id_of at.args) (range_in (row_at at.rows (key_is.Region region))))
own_edits act at own (Edits.merges only) = merge_of (table_of at.args) (row_at at.rows) (first_id_of at.args) (closed_by at.args) own

made_edits : (act : Act) (next : ℕ) (at : StepIn) → ClosesItsOwn at.args → {out : StepOut} → IsMadeOf act next at out → AreEditsOf (table_of at.args) out.edits
made_edits act next at own (IsMadeOf.edited e edits are) = own_edits act at own are
made_edits act next at own (IsMadeOf.made children makes) = spawned_of (table_of at.args) next children
made_edits act next at own other = tt

-- what an act edits of regions' rows is of its procedure's table
pub act_edits : (act : Act) → is_plain act ≡ true → (next : ℕ) (at : StepIn) → ClosesItsOwn at.args → AreEditsOf (table_of at.args) (act_answer act next at).edits
act_edits act h next at own = made_edits act next at own (made_of act next at)
