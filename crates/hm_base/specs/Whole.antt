-- When parts are a whole base.
use Rattle.std.specs.Prelude.{◌≡◌, ◌≢◌, Bool, None, Some, true, codes}
use Rattle.hm_names.specs.Region.{Region}
use Rattle.hm_names.specs.Server.{Server}
use Rattle.hm_names.specs.declared.table.TableName.{TableName}
use Rattle.hm_data.specs.declared.catalog.CatKey.{CatKey}
use Rattle.hm_data.specs.declared.catalog.CatKey.TheVariants as key_is
use Rattle.hm_data.specs.declared.place.Place.{Place}
use Rattle.hm_data.specs.declared.place.RegionState.TheVariants as place_is
use Rattle.hm_model.specs.Catalog.{Catalog}
use Rattle.hm_model.specs.Fleet.{is_live}
use Rattle.hm_model.specs.Journal.{Past}
use Rattle.hm_model.specs.Places.{place_of}
use Rattle.hm_model.specs.Ranges.{IsCovered}
use Rattle.hm_model.specs.RowsSaid.{Rows}
use Rattle.hm_model.specs.TransitActs.{is_placed}
use Rattle.hm_ranges.specs.Holes.{IsLeast}
use Rattle.hm_ranges.specs.Live.{ranges_in}

-- the namespaces are there that are there from the start of other journals
abbrev pub HasSpaces : Catalog → Type 0
HasSpaces there = (there (key_is.Ns (codes "default")) ≢ None) × (there (key_is.Ns (codes "hbase")) ≢ None)

-- where a key is a table's, its live regions leave no key out
abbrev pub HasNoHole : Rows → CatKey → Type 0
HasNoHole rows (key_is.Table table) = IsLeast (ranges_in rows table) None
HasNoHole rows key = Unit {0}

-- each table that is there is covered
abbrev pub AreCovered : Catalog → Type 0
AreCovered there = (table : TableName) → there (key_is.Table table) ≢ None → IsCovered there table

-- a region that has this place isn't open, or is so at a server of which this holds
abbrev pub IsServed : (Server → Bool) → Place → Type 0
IsServed live place =
    is_placed place ≡ true → (server : Server) × (place ≡ record { state = place_is.Opened; server = Some server }) × (live server ≡ true)

-- so is each region, at a live one
abbrev pub AreServed : Past → Type 0
AreServed J = (region : Region) → IsServed (is_live J) (place_of J region)
