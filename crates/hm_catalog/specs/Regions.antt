-- Where the keys of regions begin.
use Rattle.std.specs.Prelude.{[], Bool, false, true}
use Rattle.hm_names.specs.Region.{Region}
use Rattle.hm_data.specs.declared.catalog.CatKey.{CatKey}
use Rattle.hm_data.specs.declared.catalog.CatKey.TheVariants as key_is

-- below each region: one that nothing has
abbrev pub first_region : Region
first_region = record { table = record { ns = []; qualifier = [] }; id = 0 }

-- a key is of a region
abbrev pub is_region : CatKey → Bool
is_region (key_is.Ns ns) = false
is_region (key_is.Table table) = false
is_region (key_is.Region region) = true
