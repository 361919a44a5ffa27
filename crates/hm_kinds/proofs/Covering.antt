-- What exclusive asks cover, and which edits lie within them.
use Rattle.std.proofs.Common.{◌≡◌, ℕ, ◌+◌, ◌-◌, ◌<◌, ◌≤◌, List, [], ◌∷◌, true, ◌&&◌, nat_le, nat_lt, length, map, Option, Some, None, refl, ap, sym, ◌∙◌, subst, inl, inr, arith}
use Rattle.std.specs.List.{list_any}
use Rattle.std.proofs.lemmas.Bool.{and_from, le-leb, lt-ltb, or_left, or_right}
use Rattle.hm_names.specs.Region.{Region}
use Rattle.hm_names.specs.declared.range.KeyRange.{KeyRange}
use Rattle.hm_names.specs.declared.table.TableName.{TableName}
use Rattle.hm_data.specs.declared.args.Args.{Args}
use Rattle.hm_data.specs.declared.args.Args.TheVariants as args_are
use Rattle.hm_data.specs.declared.catalog.CatKey.{CatKey}
use Rattle.hm_data.specs.declared.catalog.CatKey.TheVariants as key_is
use Rattle.hm_data.specs.declared.catalog.Edit.{Edit}
use Rattle.hm_data.specs.declared.request.Request.TheVariants as request_is
use Rattle.hm_model.specs.Catalog.{Catalog}
use Rattle.hm_model.specs.Changes.{add_merged, add_ranges, mark_merged, merge_edits, merged_of, region_key, remove_regions, split_edits, split_range}
use Rattle.hm_model.specs.Checks.{by_start, parts_of}
use Rattle.hm_model.specs.declared.merged.Merged.{Merged}
use Rattle.hm_model.specs.Keys.{same_table}
use Rattle.hm_model.specs.Locks.{IsIn, asks, exclusive, in_name_order, merge_asks}
use Rattle.hm_model.specs.Reads.{covers, is_over, reads}
use Rattle.hm_model.specs.Pieces.{ranges_between, ranges_from}
use Rattle.hm_model.specs.RowsSaid.{range_in}
use Rattle.hm_model.specs.Views.{regions_in}
use Rattle.hm_model.specs.declared.lock.Ask.{Ask}
use Rattle.hm_model.specs.declared.lock.Resource.{Resource}
use Rattle.hm_model.specs.declared.lock.Resource.TheVariants as resource_is
use Rattle.hm_model.proofs.KeyTests.{same_region-refl, same_table-refl}
use Rattle.hm_model.proofs.Small.{in_left, in_map, in_right}
use Rattle.hm_model.proofs.Listed.{in_ordered}
use Rattle.hm_model.proofs.Distinct.{out_ordered}
use Rattle.hm_kinds.proofs.Within.{Within, within_append}

-- an exclusive ask that is over a row covers it
pub covers_in : (list : List Ask) (resource : Resource) (key : CatKey) → IsIn (exclusive resource) list → is_over resource key ≡ true → list_any (λ ask. ask.exclusive && is_over ask.resource key) list ≡ true
covers_in [] resource key among over = absurd among
covers_in (ask ∷ more) resource key (inl same) over = or_left (ask.exclusive && is_over ask.resource key) _ (ap (λ (a : Ask). a.exclusive && is_over a.resource key) (sym same) ∙ over)
covers_in (ask ∷ more) resource key (inr among) over = or_right (ask.exclusive && is_over ask.resource key) _ (covers_in more resource key among over)

pub covers_from : (args : Args) (resource : Resource) (key : CatKey) → IsIn (exclusive resource) (asks args) → is_over resource key ≡ true → covers args key ≡ true
covers_from args resource key among over = covers_in (asks args) resource key among over

pub one_within : (args : Args) (edit : Edit) → covers args edit.key ≡ true → Within args (edit ∷ [])
one_within args edit h = (h, tt)

-- a region's row of a table that a root asks for alone
pub table_region : (args : Args) (table : TableName) (id : ℕ) → IsIn (exclusive (resource_is.Table table)) (asks args) → covers args (region_key table id) ≡ true
table_region args table id among = covers_from args (resource_is.Table table) (region_key table id) among (same_table-refl table)

-- regions that are added, all of one table
pub add_within : (args : Args) (table : TableName) → IsIn (exclusive (resource_is.Table table)) (asks args) → (there : Catalog) (n : ℕ) (ranges : List KeyRange) → Within args (add_ranges there table n ranges)
add_within args table among there n [] = tt
add_within args table among there n (range ∷ ranges) = (table_region args table n among, add_within args table among there (n + 1) ranges)

pub remove_within : (args : Args) (table : TableName) → IsIn (exclusive (resource_is.Table table)) (asks args) → (there : Catalog) (ids : List ℕ) → Within args (remove_regions there (regions_in table ids))
remove_within args table among there [] = tt
remove_within args table among there (id ∷ ids) = (table_region args table id among, remove_within args table among there ids)

pub ranges_length : (start : List ℕ) (bounds : List (List ℕ)) → length (ranges_from start bounds) ≡ length bounds
ranges_length start [] = refl
ranges_length start (end ∷ bounds) = (let e = ranges_length end bounds in omega (arith, e))

pub between_length : (bounds : List (List ℕ)) → length (ranges_between bounds) ≡ length bounds - 1
between_length [] = refl
between_length (start ∷ bounds) = (let e = ranges_length start bounds in omega (arith, e))

pub in_reads : (table : TableName) (first : ℕ) (bounds : List (List ℕ)) (m : ℕ) → first ≤ m → m < first + length (ranges_between bounds) → reads (args_are.AddRegions table first bounds) (region_key table m) ≡ true
in_reads table first bounds m low high =
    and_from (same_table table table) (nat_le first m && nat_lt (m + 1) (first + length bounds)) (same_table-refl table)
    (and_from (nat_le first m) (nat_lt (m + 1) (first + length bounds)) (le-leb first m low) (lt-ltb (m + 1) (first + length bounds) (let e = between_length bounds in omega (arith, high, e))))

-- the regions that a merge asks for
pub merge_own : (regions : List Region) (first : ℕ) (one : Region) → IsIn one regions → IsIn (exclusive (resource_is.Region one)) (merge_asks regions first)
merge_own [] first one among = absurd among
merge_own (region ∷ more) first one among =
    inr (inr (in_left (exclusive (resource_is.Region one)) (map (λ r. exclusive (resource_is.Region r)) (in_name_order (region ∷ more))) _ (in_map (λ r. exclusive (resource_is.Region r)) one (in_name_order (region ∷ more)) (in_ordered one (region ∷ more) among))))

pub merge_new : (region : Region) (more : List Region) (first : ℕ) → IsIn (exclusive (resource_is.Region (record { table = region.table; id = first }))) (merge_asks (region ∷ more) first)
merge_new region more first = inr (inr (in_right _ (map (λ r. exclusive (resource_is.Region r)) (in_name_order (region ∷ more))) _ (inl refl)))

pub mark_within : (args : Args) (there : Catalog) (list : List Region) → ((r : Region) → IsIn r list → IsIn (exclusive (resource_is.Region r)) (asks args)) → Within args (mark_merged there list)
mark_within args there [] each = tt
mark_within args there (region ∷ more) each = (covers_from args (resource_is.Region region) (key_is.Region region) (each region (inl refl)) (same_region-refl region), mark_within args there more (λ r among. each r (inr among)))

pub merge_within : (there : Catalog) (regions : List Region) (first f : ℕ) → Within (args_are.Root (request_is.MergeRegions regions) first) (merge_edits there regions first)
merge_within there regions first f = within_append (args_are.Root (request_is.MergeRegions regions) first) (mark_merged there (in_name_order regions)) (add_merged there first regions regions)
    (mark_within (args_are.Root (request_is.MergeRegions regions) first) there (in_name_order regions) (λ r among. merge_own regions first r (out_ordered r regions among)))
    (added regions refl)
  where
    one_merged : (region : Region) (more : List Region) → regions ≡ region ∷ more → (parts : List Merged) → Within (args_are.Root (request_is.MergeRegions regions) first) (merged_of there region.table first parts)
    one_merged region more e [] = tt
    one_merged region more e (part ∷ parts) = (covers_from (args_are.Root (request_is.MergeRegions regions) first) (resource_is.Region (record { table = region.table; id = first })) (region_key region.table first) (subst (λ l. IsIn (exclusive (resource_is.Region (record { table = region.table; id = first }))) (merge_asks l first)) (sym e) (merge_new region more first)) (same_region-refl (record { table = region.table; id = first })), tt)

    added : (list : List Region) → regions ≡ list → Within (args_are.Root (request_is.MergeRegions regions) first) (add_merged there first list regions)
    added [] e = tt
    added (region ∷ more) e = one_merged region more e (by_start (parts_of there regions))

pub split_within : (there : Catalog) (region : Region) (key : List ℕ) (first : ℕ) → Within (args_are.Root (request_is.SplitRegion region key) first) (split_edits there region key first)
split_within there region key first = by (range_in (there (key_is.Region region)))
  where
    by : (o : Option KeyRange) → Within (args_are.Root (request_is.SplitRegion region key) first) (split_range there region key first o)
    by None = tt
    by (Some range) = (
      covers_from (args_are.Root (request_is.SplitRegion region key) first) (resource_is.Region region) (key_is.Region region) (inr (inr (inl refl))) (same_region-refl region),
      (
        covers_from (args_are.Root (request_is.SplitRegion region key) first) (resource_is.Region (record { table = region.table; id = first })) (region_key region.table first) (inr (inr (inr (inl refl)))) (same_region-refl (record { table = region.table; id = first })),
        (
          covers_from (args_are.Root (request_is.SplitRegion region key) first) (resource_is.Region (record { table = region.table; id = first + 1 })) (region_key region.table (first + 1)) (inr (inr (inr (inr (inl refl))))) (same_region-refl (record { table = region.table; id = first + 1 })),
          tt,
        ),
      ),
    )

-- the tables whose regions' rows a procedure adds or removes as a child
abbrev pub rows_table : Args → Option TableName
rows_table (args_are.AddRegions table first bounds) = Some table
rows_table (args_are.DropRegions table ids) = Some table
rows_table args = None
