-- Regions as texts.
use Rattle.std.specs.Prelude.{ℕ, ◌+◌, ◌-◌, ◌≤◌, ◌<◌, ◌^◌, ◌==◌, if◌then◌else◌, Option, Some, None, Result, Ok, Err, List, length, ◌++◌, codes}
use Rattle.std.specs.Fmt.{decimal}
use Rattle.hm_names.specs.declared.fault.NameFault.{NameFault}
use Rattle.hm_names.specs.declared.fault.NameFault.TheVariants.{Empty, BadNumber}
use Rattle.hm_names.specs.declared.table.TableName.{TableName}
use Rattle.hm_names.specs.Region.{Region}
use Rattle.hm_names.specs.Cuts.{cut_last}
use Rattle.hm_names.specs.Decimal.{number_of, within}
use Rattle.hm_names.specs.Tables.{IsTable, table_text, read_table}

-- a table and a number from 1
abbrev pub IsRegion : Region → Type 0
IsRegion r = IsTable r.table × (1 ≤ r.id) × (r.id < 2 ^ 64)

-- table, `,`, id
abbrev pub region_text : Region → List ℕ
region_text r = table_text r.table ++ codes "," ++ decimal r.id

-- the region of a table and an id that stands at a place
abbrev pub region_of : Result TableName NameFault → ℕ → Option ℕ → Result Region NameFault
region_of (Err fault) place id = Err fault
region_of (Ok table) place None = Err (BadNumber place)
region_of (Ok table) place (Some id) = Ok (record { table = table; id = id })

-- the parts round the last `,`, read as a region
abbrev pub region_parts : List ℕ → Option (List ℕ × List ℕ) → Result Region NameFault
region_parts text None = Err (BadNumber (length text))
region_parts text (Some (table, id)) =
    region_of (read_table table) (length table + 1) (within 1 (2 ^ 64 - 1) (number_of id))

-- a text read as a region
abbrev pub read_region : List ℕ → Result Region NameFault
read_region text = if length text == 0 then Err Empty else region_parts text (cut_last 44 text)
