-- Keys that stand together: one after another, with no other key between two of them.
use Rattle.std.specs.Prelude.{ℕ, ◌+◌, List, [], ◌∷◌, Bool, ◌&&◌, filter, nat_lt, nat_le}
use Rattle.hm_names.specs.Region.{Region}
use Rattle.hm_data.specs.declared.catalog.CatKey.{CatKey}
use Rattle.hm_data.specs.declared.catalog.CatKey.TheVariants as key_is
use Rattle.hm_model.specs.Reads.{is_region_in}
use Rattle.hm_model.specs.RowsSaid.{Rows, is_table_in}
use Rattle.hm_catalog.specs.Kept.{is_region_of}
use Rattle.hm_catalog.specs.Regions.{first_region, is_region}
use Rattle.hm_catalog.specs.declared.span.Span.{Span}
use Rattle.hm_catalog.specs.declared.span.Span.TheVariants as span_is

-- a number is one of so many from the first on
abbrev pub is_from : ℕ → ℕ → ℕ → Bool
is_from first count id = nat_le first id && nat_lt id (first + count)

-- a key is one of those
abbrev pub in_span : Span → CatKey → Bool
in_span (span_is.Tables ns) key = is_table_in ns.now key
in_span (span_is.Regions table) key = is_region_of table.now key
in_span span_is.AllRegions key = is_region key
in_span (span_is.Numbers table first count) key = is_region_in table.now (is_from first count) key

-- where they begin
abbrev pub low_of : Span → CatKey
low_of (span_is.Tables ns) = key_is.Table (record { ns = ns.now; qualifier = [] })
low_of (span_is.Regions table) = key_is.Region (record { table = table.now; id = 0 })
low_of span_is.AllRegions = key_is.Region first_region
low_of (span_is.Numbers table first count) = key_is.Region (record { table = table.now; id = first })

-- the rows whose keys pass a test
abbrev pub rows_of : (CatKey → Bool) → Rows → Rows
rows_of test rows = filter (λ row. test row.0) rows

-- a region in front of others
abbrev pub with_region : CatKey → List Region → List Region
with_region (key_is.Ns ns) more = more
with_region (key_is.Table table) more = more
with_region (key_is.Region region) more = region ∷ more

-- the regions among rows
abbrev pub regions_in : Rows → List Region
regions_in [] = []
regions_in ((key, row) ∷ rows) = with_region key (regions_in rows)
