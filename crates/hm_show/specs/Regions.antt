-- The table `regions`.
use Rattle.std.specs.Prelude.{ℕ, List, [], ◌∷◌, Option, Some, None, true, codes}
use Rattle.std.specs.List.{filter_map}
use Rattle.hm_names.specs.Keys.{key_text}
use Rattle.hm_names.specs.Region.{Region}
use Rattle.hm_names.specs.Regions.{region_text}
use Rattle.hm_names.specs.declared.range.KeyRange.{KeyRange}
use Rattle.hm_data.specs.declared.catalog.CatKey.{CatKey}
use Rattle.hm_data.specs.declared.catalog.CatKey.TheVariants as key_is
use Rattle.hm_data.specs.declared.catalog.CatRow.{CatRow}
use Rattle.hm_data.specs.declared.catalog.CatRow.TheVariants as row_is
use Rattle.hm_data.specs.declared.catalog.Status.{Status}
use Rattle.hm_data.specs.declared.place.Place.{Place}
use Rattle.hm_model.specs.Catalog.{cat, keys_of, rows_at}
use Rattle.hm_model.specs.Journal.{Past}
use Rattle.hm_model.specs.Places.{place_of}
use Rattle.hm_show.specs.Tables.{Line, table_of}
use Rattle.hm_show.specs.Words.{holder_text, place_text, status_text}

-- the line of a region with a range and a status, at a place
abbrev pub region_line : Region → KeyRange → Status → Place → Line
region_line region range status place =
    region_text region ∷ key_text range.start ∷ key_text range.end ∷ status_text status ∷ place_text place.state ∷ holder_text place.server ∷ []

-- the same of a row, where it is a region's
abbrev pub row_line : (Region → Place) → Region → CatRow → Option Line
row_line place region row_is.Ns = None
row_line place region (row_is.Table state version) = None
row_line place region (row_is.Region range status parents) = Some (region_line region range status (place region))

-- the same of a key and its row
abbrev pub key_line : (Region → Place) → CatKey × CatRow → Option Line
key_line place (key_is.Ns ns, row) = None
key_line place (key_is.Table table, row) = None
key_line place (key_is.Region region, row) = row_line place region row

-- one line for each row of a region, in the order of the keys
abbrev pub regions_table : Past → List ℕ
regions_table past =
    table_of (codes "regions") past (filter_map (key_line (place_of past)) (rows_at (λ key. true) (cat past) (keys_of past)))
