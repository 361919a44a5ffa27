-- What a part of a base says.
use Rattle.std.specs.Prelude.{ℕ, List, [], ◌∷◌, Option, Some, None, Bool, true, false, not, ◌==◌, ◌&&◌, ◌||◌, if◌then◌else◌}
use Rattle.hm_names.specs.Region.{Region}
use Rattle.hm_names.specs.Server.{Server}
use Rattle.hm_names.specs.declared.nonce.Nonce.{Nonce}
use Rattle.hm_names.specs.declared.range.KeyRange.{KeyRange}
use Rattle.hm_names.specs.declared.table.TableName.{TableName}
use Rattle.hm_data.specs.declared.catalog.CatKey.{CatKey}
use Rattle.hm_data.specs.declared.catalog.CatKey.TheVariants as key_is
use Rattle.hm_data.specs.declared.catalog.CatRow.{CatRow}
use Rattle.hm_data.specs.declared.catalog.CatRow.TheVariants as row_is
use Rattle.hm_data.specs.declared.catalog.TableState.{TableState}
use Rattle.hm_data.specs.declared.sheet.Sheet.{Sheet}
use Rattle.hm_model.specs.Keys.{same_key, same_region, same_table}
use Rattle.hm_data.specs.declared.part.Part.{Part}
use Rattle.hm_data.specs.declared.part.Part.TheVariants as part_is

-- the row of a table, if it has one
abbrev pub table_row : Option (TableState × ℕ) → Option CatRow
table_row None = None
table_row (Some both) = Some (row_is.Table both.0 both.1)

-- the row of a key, with a part: a base begins without any
abbrev pub part_row : Part → CatKey → Option CatRow → Option CatRow
part_row (part_is.Head entries last parts sheets) key row = None
part_row (part_is.Namespace ns) key row = if same_key key (key_is.Ns ns) then Some row_is.Ns else row
part_row (part_is.Table table drawn own) key row = if same_key key (key_is.Table table) then table_row own else row
part_row (part_is.Region region range status parents place) key row =
    if same_key key (key_is.Region region) then Some (row_is.Region range status parents) else row
part_row part key row = row

-- the key that a part is of
abbrev pub part_key : Part → Option CatKey
part_key (part_is.Namespace ns) = Some (key_is.Ns ns)
part_key (part_is.Table table drawn own) = Some (key_is.Table table)
part_key (part_is.Region region range status parents place) = Some (key_is.Region region)
part_key part = None

-- how many procedures were made, with a part
abbrev pub part_made : Part → ℕ → ℕ
part_made (part_is.Head entries last parts sheets) n = last.0
part_made part n = n

-- the sheets in force, with a part
abbrev pub part_sheets : Part → List Sheet → List Sheet
part_sheets (part_is.Head entries last parts sheets) before = sheets
part_sheets part before = before

-- how many region ids were drawn for a table, with a part
abbrev pub part_drawn : Part → TableName → ℕ → ℕ
part_drawn (part_is.Table own drawn row) table n = if same_table own table then drawn else n
part_drawn part table n = n

-- the range that a part gives a region
abbrev pub part_range : Part → Region → Option KeyRange → Option KeyRange
part_range (part_is.Region own given status parents place) region range = if same_region region own then Some given else range
part_range part region range = range

-- the server of a part, and whether it is fenced
abbrev pub part_server : Part → Option (Server × Bool)
part_server (part_is.Server server fenced) = Some (server, fenced)
part_server part = None

-- the layout of a root is there, with a part
abbrev pub part_laid : Part → ℕ → Bool → Bool
part_laid (part_is.Layout pid) root laid = if pid.0 == root then true else laid
part_laid part root laid = laid

-- the nonce of a part's root, and its number
abbrev pub part_root : Part → Option (Nonce × ℕ)
part_root (part_is.Root pid nonce args cause) = Some (nonce, pid.0)
part_root part = None
