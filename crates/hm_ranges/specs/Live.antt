-- The ranges of a table's live regions, by the rows of a catalog.
use Rattle.std.specs.Prelude.{List, Option, None, Some, if◌then◌else◌}
use Rattle.std.specs.List.{filter, filter_map}
use Rattle.hm_names.specs.declared.range.KeyRange.{KeyRange}
use Rattle.hm_names.specs.declared.table.TableName.{TableName}
use Rattle.hm_data.specs.declared.catalog.CatRow.{CatRow}
use Rattle.hm_model.specs.RowsSaid.{Rows, is_live_status, range_in, status_in}
use Rattle.hm_catalog.specs.Kept.{is_region_of}

-- the range of a live region, by its row
abbrev pub live_in : Option CatRow → Option KeyRange
live_in row = if is_live_status (status_in row) then range_in row else None

-- the ranges of a table's live regions, in the order of the rows
abbrev pub ranges_in : Rows → TableName → List KeyRange
ranges_in rows table = filter_map (λ row. live_in (Some row.1)) (filter (λ row. is_region_of table row.0) rows)
