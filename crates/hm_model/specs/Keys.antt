-- Tests of names and keys.
use Rattle.std.specs.Prelude.{Bool, false, ◌==◌, ◌&&◌}
use Rattle.std.specs.Str.{bytes_eq}
use Rattle.hm_names.specs.Region.{Region}
use Rattle.hm_names.specs.declared.table.TableName.{TableName}
use Rattle.hm_data.specs.declared.catalog.CatKey.{CatKey}
use Rattle.hm_data.specs.declared.catalog.CatKey.TheVariants as key_is

-- one table
abbrev pub same_table : TableName → TableName → Bool
same_table a b = bytes_eq a.ns b.ns && bytes_eq a.qualifier b.qualifier

-- one region
abbrev pub same_region : Region → Region → Bool
same_region a b = same_table a.table b.table && (a.id == b.id)

-- one key of the catalog
abbrev pub same_key : CatKey → CatKey → Bool
same_key (key_is.Ns a) (key_is.Ns b) = bytes_eq a b
same_key (key_is.Ns a) (key_is.Table b) = false
same_key (key_is.Ns a) (key_is.Region b) = false
same_key (key_is.Table a) (key_is.Ns b) = false
same_key (key_is.Table a) (key_is.Table b) = same_table a b
same_key (key_is.Table a) (key_is.Region b) = false
same_key (key_is.Region a) (key_is.Ns b) = false
same_key (key_is.Region a) (key_is.Table b) = false
same_key (key_is.Region a) (key_is.Region b) = same_region a b
