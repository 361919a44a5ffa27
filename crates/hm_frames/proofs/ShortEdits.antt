-- How many bytes edits have as they are spelled, and that those of acts are short.
use Rattle.std.proofs.Common.{◌≡◌, ℕ, ◌+◌, ◌-◌, ◌*◌, ◌≤◌, Bool, true, false, if◌then◌else◌, List, [], ◌∷◌, ◌++◌, map, length, Option, Some, None, refl, arith, length-append}
use Rattle.std.specs.List.{flat_map}
use Rattle.std.specs.Option.{option_map}
use Rattle.std.specs.Ordering.{is_le}
use Rattle.hm_wire.specs.Wire.{text}
use Rattle.hm_names.specs.Order.{bytes_cmp}
use Rattle.hm_names.specs.Region.{Region}
use Rattle.hm_names.specs.Tables.{IsTable}
use Rattle.hm_names.specs.Ranges.{joined}
use Rattle.hm_names.specs.declared.range.KeyRange.{KeyRange}
use Rattle.hm_names.specs.declared.table.TableName.{TableName}
use Rattle.hm_data.specs.Numbers.{status_number}
use Rattle.hm_data.specs.declared.catalog.CatKey.{CatKey}
use Rattle.hm_data.specs.declared.catalog.CatKey.TheVariants as key_is
use Rattle.hm_data.specs.declared.catalog.CatRow.{CatRow}
use Rattle.hm_data.specs.declared.catalog.CatRow.TheVariants as row_is
use Rattle.hm_data.specs.declared.catalog.Edit.{Edit}
use Rattle.hm_data.specs.declared.catalog.Status.{Status}
use Rattle.hm_data.specs.declared.catalog.Status.TheVariants as status_is
use Rattle.hm_data.specs.declared.catalog.TableState.{TableState}
use Rattle.hm_entry.specs.Spelling.{byte, catalog_row, edit, key, list, number, option, range}
use Rattle.hm_model.specs.declared.merged.Merged.{Merged}
use Rattle.hm_model.specs.Catalog.{Catalog, set_to}
use Rattle.hm_model.specs.Changes.{add_merged, add_ranges, changed, live_row, mark_merged, merge_edits, merged_of, region_key, remove_regions, split_edits, split_range}
use Rattle.hm_model.specs.Checks.{by_start, hull, keep_part, parts_of, with_part}
use Rattle.hm_model.specs.Locks.{in_name_order}
use Rattle.hm_model.specs.Pieces.{ranges_between, ranges_from}
use Rattle.hm_model.specs.RowsSaid.{in_state, in_status, in_version, range_in}
use Rattle.hm_model.specs.Undoing.{turned, turned_round}
use Rattle.hm_frames.proofs.NameSizes.{ns_short, region_short, table_short}
use Rattle.hm_frames.proofs.ShortForms.{Each, If, IsOfTable, IsShortCatKey, IsShortEdit, IsShortKey, IsShortRange, IsShortRow}

pub range_short : (r : KeyRange) → IsShortRange r → length (range r) ≤ 260
unfolding range
range_short r is = omega (arith, is.0, is.1, length-append r.start (text r.end))

pub numbers_long : (ids : List ℕ) → length (flat_map number ids) ≡ 8 * length ids
numbers_long [] = refl
numbers_long (id ∷ ids) = omega (arith, numbers_long ids)

row_short : (row : CatRow) → IsShortRow row → length (catalog_row row) ≤ 344
unfolding catalog_row
row_short row_is.Ns is = omega arith
row_short (row_is.Table state version) is = omega arith
row_short (row_is.Region bounds status parents) is =
    omega (arith, range_short bounds is.0, is.1, numbers_long parents, length-append (range bounds) (byte (status_number status) ++ list number parents))

row_if_short : (row : Option CatRow) → If IsShortRow row → length (option catalog_row row) ≤ 345
row_if_short None is = omega arith
row_if_short (Some row) is = omega (arith, row_short row is)

key_short : (k : CatKey) → IsShortCatKey k → length (key k) ≤ 205
unfolding key
key_short (key_is.Ns ns) is = omega (arith, ns_short ns is)
key_short (key_is.Table t) is = omega (arith, table_short t is)
key_short (key_is.Region r) is = omega (arith, region_short r is)

edit_short : (e : Edit) → IsShortEdit e → length (edit e) ≤ 895
unfolding edit
edit_short e is =
    omega (
      arith,
      key_short e.key is.key,
      row_if_short e.before is.before,
      row_if_short e.after is.after,
      length-append (key e.key) (option catalog_row e.before ++ option catalog_row e.after),
      length-append (option catalog_row e.before) (option catalog_row e.after),
    )

edits_long : (edits : List Edit) → Each IsShortEdit edits → length (flat_map edit edits) ≤ 895 * length edits
edits_long [] are = omega arith
edits_long (e ∷ edits) are = omega (arith, edit_short e are.0, edits_long edits are.1, length-append (edit e) (flat_map edit edits))

-- 64 edits
pub edits_short : (edits : List Edit) → Each IsShortEdit edits → length edits ≤ 64 → length (list edit edits) ≤ 57282
edits_short edits are few = omega (arith, few, edits_long edits are)

-- turned round they are as short
each_more : {A : Type 0} (P : A → Type 0) (xs ys : List A) → Each P xs → Each P ys → Each P (xs ++ ys)
each_more P [] ys are are' = are'
each_more P (x ∷ xs) ys are are' = (are.0, each_more P xs ys are.1 are')

pub turned_short : (edits : List Edit) → Each IsShortEdit edits → Each IsShortEdit (turned_round edits)
turned_short [] are = tt
turned_short (e ∷ edits) are =
    each_more IsShortEdit (turned_round edits) (turned e ∷ []) (turned_short edits are.1) (record { key = are.0.key; before = are.0.after; after = are.0.before }, tt)

pub turned_long : (edits : List Edit) → length (turned_round edits) ≡ length edits
turned_long [] = refl
turned_long (e ∷ edits) = omega (arith, turned_long edits, length-append (turned_round edits) (turned e ∷ []))

-- the edits of acts, where each row that is there is short
module _ (there : Catalog) (rows : (k : CatKey) → If IsShortRow (there k)) where
  pub set_short : (k : CatKey) (after : Option CatRow) → IsShortCatKey k → If IsShortRow after → IsShortEdit (set_to there k after)
  set_short k after named is = record { key = named; before = rows k; after = is }

  pub changed_short : (k : CatKey) (change : CatRow → CatRow) → IsShortCatKey k → ((row : CatRow) → IsShortRow row → IsShortRow (change row)) → IsShortEdit (changed there k change)
  changed_short k change named keeps = record { key = named; before = rows k; after = by (there k) (rows k) }
    where
      by : (row : Option CatRow) → If IsShortRow row → If IsShortRow (option_map change row)
      by None is = tt
      by (Some row) is = keeps row is

  pub added_short : (t : TableName) → IsTable t → (first : ℕ) (ranges : List KeyRange) → Each IsShortRange ranges → Each IsShortEdit (add_ranges there t first ranges)
  added_short t named first [] are = tt
  added_short t named first (r ∷ ranges) are =
      (set_short (region_key t first) (Some (live_row r [])) named (are.0, omega arith), added_short t named (first + 1) ranges are.1)

  pub added_long : (t : TableName) (first : ℕ) (ranges : List KeyRange) → length (add_ranges there t first ranges) ≡ length ranges
  added_long t first [] = refl
  added_long t first (r ∷ ranges) = omega (arith, added_long t (first + 1) ranges)

  pub removed_short : (regions : List Region) → Each IsOfTable regions → Each IsShortEdit (remove_regions there regions)
  removed_short [] are = tt
  removed_short (r ∷ regions) are = (set_short (key_is.Region r) None are.0 tt, removed_short regions are.1)

  pub removed_long : (regions : List Region) → length (remove_regions there regions) ≡ length regions
  removed_long [] = refl
  removed_long (r ∷ regions) = omega (arith, removed_long regions)

  range_of : (row : Option CatRow) → If IsShortRow row → If IsShortRange (range_in row)
  range_of None is = tt
  range_of (Some row_is.Ns) is = tt
  range_of (Some (row_is.Table state version)) is = tt
  range_of (Some (row_is.Region r status parents)) is = is.0

  status_short : (status : Status) (row : CatRow) → IsShortRow row → IsShortRow (in_status status row)
  status_short status row_is.Ns is = tt
  status_short status (row_is.Table state version) is = tt
  status_short status (row_is.Region r was parents) is = is

  pub split_short : (r : Region) (cut : List ℕ) (first : ℕ) → IsOfTable r → IsShortKey cut → Each IsShortEdit (split_edits there r cut first) × (length (split_edits there r cut first) ≤ 3)
  split_short r cut first named short = by (range_in (there (key_is.Region r))) (range_of (there (key_is.Region r)) (rows (key_is.Region r)))
    where
      by : (o : Option KeyRange) → If IsShortRange o → Each IsShortEdit (split_range there r cut first o) × (length (split_range there r cut first o) ≤ 3)
      by None is = (tt, omega arith)
      by (Some bounds) is = (
        (
          changed_short (key_is.Region r) (in_status status_is.Split) named (status_short status_is.Split),
          (
            set_short (region_key r.table first) _ named ((is.0, short), omega arith),
            (set_short (region_key r.table (first + 1)) _ named ((short, is.1), omega arith), tt),
          ),
        ),
        omega arith,
      )

  -- parts of regions
  abbrev IsShortPart : Merged → Type 0
  IsShortPart part = IsShortRange part.range

  keep_short : (id : ℕ) (o : Option KeyRange) (more : List Merged) → If IsShortRange o → Each IsShortPart more → Each IsShortPart (keep_part id o more) × (length (keep_part id o more) ≤ length more + 1)
  keep_short id None more is are = (are, omega arith)
  keep_short id (Some bounds) more is are = ((is, are), omega arith)

  parts_short : (regions : List Region) → Each IsShortPart (parts_of there regions) × (length (parts_of there regions) ≤ length regions)
  parts_short [] = (tt, omega arith)
  parts_short (r ∷ regions) =
      let rest = parts_short regions in
      let here = keep_short r.id (range_in (there (key_is.Region r))) (parts_of there regions) (range_of (there (key_is.Region r)) (rows (key_is.Region r))) rest.0 in
      (here.0, omega (arith, here.1, rest.1))

  with_short : (part : Merged) (parts : List Merged) → IsShortPart part → Each IsShortPart parts → Each IsShortPart (with_part part parts) × (length (with_part part parts) ≤ length parts + 1)
  with_short part [] is are = ((is, tt), omega arith)
  with_short part (first ∷ more) is are = by (is_le (bytes_cmp part.range.start first.range.start)) (with_short part more is are.1)
    where
      by : (b : Bool) → Each IsShortPart (with_part part more) × (length (with_part part more) ≤ length more + 1)
          → Each IsShortPart (if b then (part ∷ first ∷ more) else (first ∷ with_part part more)) × (length (if b then (part ∷ first ∷ more) else (first ∷ with_part part more)) ≤ length (first ∷ more) + 1)
      by true rest = ((is, are), omega arith)
      by false rest = ((are.0, rest.0), omega (arith, rest.1))

  ordered_short : (parts : List Merged) → Each IsShortPart parts → Each IsShortPart (by_start parts) × (length (by_start parts) ≤ length parts)
  ordered_short [] are = (tt, omega arith)
  ordered_short (part ∷ more) are =
      let rest = ordered_short more are.1 in
      let here = with_short part (by_start more) are.0 rest.0 in
      (here.0, omega (arith, here.1, rest.1))

  hull_short : (r : KeyRange) (parts : List Merged) → IsShortRange r → Each IsShortPart parts → IsShortRange (hull r parts)
  hull_short r [] is are = is
  hull_short r (part ∷ more) is are = hull_short (joined r part.range) more (is.0, are.0.1) are.1

  ids_long : (parts : List Merged) → length (map (λ (p : Merged). p.id) parts) ≡ length parts
  ids_long [] = refl
  ids_long (p ∷ parts) = omega (arith, ids_long parts)

  merged_short : (t : TableName) → IsTable t → (first : ℕ) (parts : List Merged) → Each IsShortPart parts → length parts ≤ 10 → Each IsShortEdit (merged_of there t first parts) × (length (merged_of there t first parts) ≤ 1)
  merged_short t named first [] are few = (tt, omega arith)
  merged_short t named first (part ∷ more) are few =
      ((set_short (region_key t first) _ named (hull_short part.range more are.0 are.1, omega (arith, ids_long more, few)), tt), omega arith)

  add_merged_short : (first : ℕ) (regions all : List Region) → Each IsOfTable regions → length all ≤ 10 → Each IsShortEdit (add_merged there first regions all) × (length (add_merged there first regions all) ≤ 1)
  add_merged_short first [] all are few = (tt, omega arith)
  add_merged_short first (r ∷ more) all are few =
      let parts = parts_short all in
      let ordered = ordered_short (parts_of there all) parts.0 in
      merged_short r.table are.0 first (by_start (parts_of there all)) ordered.0 (omega (arith, ordered.1, parts.1, few))

  marked_short : (regions : List Region) → Each IsOfTable regions → Each IsShortEdit (mark_merged there regions)
  marked_short [] are = tt
  marked_short (r ∷ regions) are = (changed_short (key_is.Region r) (in_status status_is.Merged) are.0 (status_short status_is.Merged), marked_short regions are.1)

  marked_long : (regions : List Region) → length (mark_merged there regions) ≡ length regions
  marked_long [] = refl
  marked_long (r ∷ regions) = omega (arith, marked_long regions)

  pub merge_short : (regions : List Region) (first : ℕ) → Each IsOfTable regions → Each IsOfTable (in_name_order regions) → length regions ≤ 10 → length (in_name_order regions) ≤ 10
      → Each IsShortEdit (merge_edits there regions first) × (length (merge_edits there regions first) ≤ 11)
  merge_short regions first are are' few few' =
      let one = add_merged_short first regions regions are few in (
        each_more IsShortEdit (mark_merged there (in_name_order regions)) (add_merged there first regions regions) (marked_short (in_name_order regions) are') one.0,
        omega (arith, marked_long (in_name_order regions), few', one.1, length-append (mark_merged there (in_name_order regions)) (add_merged there first regions regions)),
      )

-- the ranges between short bounds
ranges_from_short : (start : List ℕ) (bounds : List (List ℕ)) → IsShortKey start → Each IsShortKey bounds → Each IsShortRange (ranges_from start bounds) × (length (ranges_from start bounds) ≡ length bounds)
ranges_from_short start [] is are = (tt, refl)
ranges_from_short start (end ∷ bounds) is are = let rest = ranges_from_short end bounds are.0 are.1 in (((is, are.0), rest.0), omega (arith, rest.1))

pub ranges_short : (bounds : List (List ℕ)) → Each IsShortKey bounds → Each IsShortRange (ranges_between bounds) × (length (ranges_between bounds) ≤ length bounds - 1)
ranges_short [] are = (tt, omega arith)
ranges_short (start ∷ bounds) are = let rest = ranges_from_short start bounds are.0 are.1 in (rest.0, omega (arith, rest.1))

-- a table's row stays short
pub state_short : (state : TableState) (row : CatRow) → IsShortRow row → IsShortRow (in_state state row)
state_short state row_is.Ns is = tt
state_short state (row_is.Table was version) is = tt
state_short state (row_is.Region r status parents) is = is

pub version_short : (version : ℕ) (row : CatRow) → IsShortRow row → IsShortRow (in_version version row)
version_short version row_is.Ns is = tt
version_short version (row_is.Table state was) is = tt
version_short version (row_is.Region r status parents) is = is
