-- What is counted in a cluster.
use Rattle.std.specs.Prelude.{List, length, count_by, Option, Some, None, Bool}
use Rattle.std.specs.List.{filter_map}
use Rattle.hm_names.specs.Region.{Region}
use Rattle.hm_data.specs.declared.catalog.CatKey.{CatKey}
use Rattle.hm_data.specs.declared.catalog.CatKey.TheVariants as key_is
use Rattle.hm_data.specs.declared.catalog.CatRow.{CatRow}
use Rattle.hm_data.specs.declared.catalog.CatRow.TheVariants as row_is
use Rattle.hm_data.specs.declared.place.Place.{Place}
use Rattle.hm_data.specs.declared.place.RegionState.TheVariants as place_is
use Rattle.hm_model.specs.Journal.{Past}
use Rattle.hm_model.specs.Places.{place_of}
use Rattle.hm_model.specs.RowsSaid.{Rows}
use Rattle.hm_model.specs.TransitActs.{is_state}
use Rattle.hm_model.specs.Tree.{made}
use Rattle.hm_catalog.specs.Rows.{rows_in}
use Rattle.hm_commands.specs.declared.census.Census.{Census}

-- the region of a row, where it is a region's, whatever its status
abbrev pub region_of_row : CatKey × CatRow → Option Region
region_of_row (key_is.Ns ns, row) = None
region_of_row (key_is.Table table, row) = None
region_of_row (key_is.Region region, row_is.Ns) = None
region_of_row (key_is.Region region, row_is.Table state version) = None
region_of_row (key_is.Region region, row_is.Region range status parents) = Some region

-- the regions that have a row among these
abbrev pub regions_among : Rows → List Region
regions_among rows = filter_map region_of_row rows

-- a region is open, by where regions are
abbrev pub is_opened : (Region → Place) → Region → Bool
is_opened place region = is_state place_is.Opened (place region)

-- how many procedures were ever made, how many regions have a row, and how many of these are open
abbrev pub census_of : Past → Census
census_of past = let regions = regions_among (rows_in past) in record {
  procedures = made past;
  regions = length regions;
  opened = count_by (is_opened (place_of past)) regions;
}
