-- The parts of the catalog, as they are told one after another.
use Rattle.std.specs.Prelude.{ℕ, List, [], ◌∷◌}
use Rattle.hm_names.specs.Region.{Region}
use Rattle.hm_names.specs.declared.table.TableName.{TableName}
use Rattle.hm_data.specs.declared.catalog.CatKey.{CatKey}
use Rattle.hm_data.specs.declared.catalog.CatKey.TheVariants as key_is
use Rattle.hm_data.specs.declared.catalog.CatRow.{CatRow}
use Rattle.hm_data.specs.declared.catalog.CatRow.TheVariants as row_is
use Rattle.hm_data.specs.declared.part.Part.{Part}
use Rattle.hm_data.specs.declared.part.Part.TheVariants as part_is
use Rattle.hm_data.specs.declared.place.Place.{Place}
use Rattle.hm_model.specs.Catalog.{row_at}
use Rattle.hm_model.specs.Image.{table_in, table_parts}
use Rattle.hm_model.specs.RowsSaid.{Rows}
use Rattle.hm_places.specs.Places.{place_in}

-- the part of a namespace, if the key of a row is of one
abbrev pub space_parts : CatKey → List Part
space_parts (key_is.Ns ns) = part_is.Namespace ns ∷ []
space_parts key = []

-- the part of a table for which so many region ids were drawn, by the rows of the catalog
abbrev pub table_told : Rows → TableName × ℕ → List Part
table_told rows both = table_parts both.0 both.1 (table_in (row_at rows (key_is.Table both.0)))

-- the part of a region, if the key of a row is of one
abbrev pub region_parts : List (Region × Place) → CatKey → CatRow → List Part
region_parts places (key_is.Region region) (row_is.Region range status parents) =
    part_is.Region region range status parents (place_in places region) ∷ []
region_parts places key row = []
