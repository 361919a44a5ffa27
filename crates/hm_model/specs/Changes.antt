-- The edits of requests, in a catalog as it is seen.
use Rattle.std.specs.Prelude.{ℕ, ◌+◌, List, [], ◌∷◌, ◌++◌, map, Option, Some, None}
use Rattle.std.specs.Option.{option_map}
use Rattle.hm_names.specs.Ranges.{lower_part, upper_part}
use Rattle.hm_names.specs.Region.{Region}
use Rattle.hm_names.specs.declared.range.KeyRange.{KeyRange}
use Rattle.hm_names.specs.declared.table.TableName.{TableName}
use Rattle.hm_data.specs.declared.catalog.CatKey.{CatKey}
use Rattle.hm_data.specs.declared.catalog.CatKey.TheVariants as key_is
use Rattle.hm_data.specs.declared.catalog.CatRow.{CatRow}
use Rattle.hm_data.specs.declared.catalog.CatRow.TheVariants as row_is
use Rattle.hm_data.specs.declared.catalog.Edit.{Edit}
use Rattle.hm_data.specs.declared.catalog.Status.TheVariants as status_is
use Rattle.hm_model.specs.declared.merged.Merged.{Merged}
use Rattle.hm_model.specs.Catalog.{Catalog, set_to}
use Rattle.hm_model.specs.Checks.{parts_of, by_start, hull}
use Rattle.hm_model.specs.Locks.{in_name_order}
use Rattle.hm_model.specs.RowsSaid.{range_in, in_status}

-- a row that is changed where it is there
abbrev pub changed : Catalog → CatKey → (CatRow → CatRow) → Edit
changed there key change = set_to there key (option_map change (there key))

-- a live region with these parents, as a row
abbrev pub live_row : KeyRange → List ℕ → CatRow
live_row range parents = row_is.Region range status_is.Live parents

-- a region by its table and id, as a key
abbrev pub region_key : TableName → ℕ → CatKey
region_key table id = key_is.Region (record { table = table; id = id })

-- live regions of these ranges are added, with consecutive ids from the first
abbrev pub add_ranges : Catalog → TableName → ℕ → List KeyRange → List Edit
add_ranges there table first [] = []
add_ranges there table first (range ∷ ranges) =
    set_to there (region_key table first) (Some (live_row range [])) ∷ add_ranges there table (first + 1) ranges

-- regions are removed
abbrev pub remove_regions : Catalog → List Region → List Edit
remove_regions there regions = map (λ region. set_to there (key_is.Region region) None) regions

-- a region of this range is split at a key: it is marked, and two live ones are added, below and from the key on
abbrev pub split_range : Catalog → Region → List ℕ → ℕ → Option KeyRange → List Edit
split_range there region key first None = []
split_range there region key first (Some range) =
    changed there (key_is.Region region) (in_status status_is.Split)
    ∷ set_to there (region_key region.table first) (Some (live_row (lower_part range key) (region.id ∷ [])))
    ∷ set_to there (region_key region.table (first + 1)) (Some (live_row (upper_part range key) (region.id ∷ [])))
    ∷ []

-- a region is split at a key, with the first id that was drawn
abbrev pub split_edits : Catalog → Region → List ℕ → ℕ → List Edit
split_edits there region key first = split_range there region key first (range_in (there (key_is.Region region)))

-- the region that others by their start keys become
abbrev pub merged_of : Catalog → TableName → ℕ → List Merged → List Edit
merged_of there table first [] = []
merged_of there table first (part ∷ more) =
    set_to there (region_key table first) (Some (live_row (hull part.range more) (map (λ p. p.id) (part ∷ more)))) ∷ []

-- regions in name order are marked as merged
abbrev pub mark_merged : Catalog → List Region → List Edit
mark_merged there regions = map (λ region. changed there (key_is.Region region) (in_status status_is.Merged)) regions

-- the one that they become, in the table of the first
abbrev pub add_merged : Catalog → ℕ → List Region → List Region → List Edit
add_merged there first [] regions = []
add_merged there first (region ∷ more) regions = merged_of there region.table first (by_start (parts_of there regions))

-- regions are merged: each is marked, in name order, and one is added from the least start to the greatest end
abbrev pub merge_edits : Catalog → List Region → ℕ → List Edit
merge_edits there regions first = mark_merged there (in_name_order regions) ++ add_merged there first regions regions
