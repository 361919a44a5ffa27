-- How the rows are kept: the keys that ever had one, each with its row or none.
use Rattle.std.specs.Prelude.{ℕ, List, [], ◌∷◌, map, Option, None, Bool, true, false, if◌then◌else◌}
use Rattle.std.specs.Ordering.{is_eq}
use Rattle.hm_names.specs.declared.table.TableName.{TableName}
use Rattle.hm_data.specs.Keys.{key_cmp}
use Rattle.hm_data.specs.declared.catalog.CatKey.{CatKey}
use Rattle.hm_data.specs.declared.catalog.CatKey.TheVariants as key_is
use Rattle.hm_data.specs.declared.catalog.CatRow.{CatRow}
use Rattle.hm_model.specs.Catalog.{keep}
use Rattle.hm_model.specs.Keys.{same_table}
use Rattle.hm_model.specs.RowsSaid.{Rows}
use Rattle.hm_catalog.specs.Regions.{first_region}
use Rattle.hm_catalog.specs.declared.name.Name.{Name}
use Rattle.hm_catalog.specs.declared.name.Name.TheVariants as name_is

-- keys that have or had a row, in key order
abbrev pub Pairs : Type 0
Pairs = List (CatKey × Option CatRow)

-- the rows that are there
abbrev pub present : Pairs → Rows
present [] = []
present ((key, row) ∷ more) = keep true key row (present more)

-- the keys of pairs
abbrev pub keys_kept : Pairs → List CatKey
keys_kept pairs = map (λ pair. pair.0) pairs

-- the key that a name stands for; a namespace's tables, a table's regions from number 0 on, and all regions begin at keys that nothing has
abbrev pub key_of : Name → CatKey
key_of (name_is.Ns ns) = key_is.Ns ns.now
key_of (name_is.Table table) = key_is.Table table.now
key_of (name_is.Region region) = key_is.Region region.now
key_of (name_is.FirstTable ns) = key_is.Table (record { ns = ns.now; qualifier = [] })
key_of (name_is.RegionsFrom table id) = key_is.Region (record { table = table.now; id = id })
key_of name_is.FirstRegion = key_is.Region first_region

-- the row of the first of pairs, where its key ties with this one
abbrev pub first_tied : CatKey → Pairs → Option CatRow
first_tied key [] = None
first_tied key ((first, row) ∷ more) = if is_eq (key_cmp first key) then row else None

-- a key is of a region of the table
abbrev pub is_region_of : TableName → CatKey → Bool
is_region_of table (key_is.Ns ns) = false
is_region_of table (key_is.Table other) = false
is_region_of table (key_is.Region region) = same_table table region.table

-- the rows of the keys that pass the test, up to the first that doesn't pass it
abbrev pub rows_ahead : (CatKey → Bool) → Pairs → Rows
rows_ahead test [] = []
rows_ahead test ((key, row) ∷ more) = if test key then keep true key row (rows_ahead test more) else []

-- a row counts if it is there
abbrev pub one_if : Bool → ℕ
one_if there = if there then 1 else 0
