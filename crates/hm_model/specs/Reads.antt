-- Which rows what a procedure asks for covers, and which rows it reads.
use Rattle.std.specs.Prelude.{◌≡◌, ◌≢◌, ℕ, ◌+◌, List, ◌∷◌, ◌++◌, length, Some, Bool, true, false, ◌==◌, ◌&&◌, ◌||◌, nat_lt, nat_le, ◌⊎◌}
use Rattle.std.specs.List.{list_any}
use Rattle.std.specs.Str.{bytes_eq}
use Rattle.hm_names.specs.Region.{Region}
use Rattle.hm_names.specs.declared.table.TableName.{TableName}
use Rattle.hm_data.specs.declared.args.Args.{Args}
use Rattle.hm_data.specs.declared.args.Args.TheVariants as args_are
use Rattle.hm_data.specs.declared.catalog.CatKey.{CatKey}
use Rattle.hm_data.specs.declared.catalog.CatKey.TheVariants as key_is
use Rattle.hm_data.specs.declared.request.Request.{Request}
use Rattle.hm_data.specs.declared.request.Request.TheVariants as request_is
use Rattle.hm_model.specs.declared.lock.Resource.{Resource}
use Rattle.hm_model.specs.declared.lock.Resource.TheVariants as resource_is
use Rattle.hm_model.specs.Journal.{Past}
use Rattle.hm_model.specs.Keys.{same_table, same_region}
use Rattle.hm_model.specs.Tree.{Node, node_of}
use Rattle.hm_model.specs.Locks.{exclusive, asks, Holds}

-- an exclusive ask on the resource covers the row: a namespace its row, a table its row and those of its regions, a
-- region its row
abbrev pub is_over : Resource → CatKey → Bool
is_over (resource_is.Ns ns) (key_is.Ns other) = bytes_eq ns other
is_over (resource_is.Ns ns) (key_is.Table table) = false
is_over (resource_is.Ns ns) (key_is.Region region) = false
is_over (resource_is.Table table) (key_is.Ns ns) = false
is_over (resource_is.Table table) (key_is.Table other) = same_table table other
is_over (resource_is.Table table) (key_is.Region region) = same_table table region.table
is_over (resource_is.Region region) (key_is.Ns ns) = false
is_over (resource_is.Region region) (key_is.Table table) = false
is_over (resource_is.Region region) (key_is.Region other) = same_region region other
is_over (resource_is.Server server) key = false

-- the procedure asks exclusively for what covers the row
abbrev pub covers : Args → CatKey → Bool
covers args key = list_any (λ ask. ask.exclusive && is_over ask.resource key) (asks args)

-- a namespace's row
abbrev pub is_ns : List ℕ → CatKey → Bool
is_ns ns key = is_over (resource_is.Ns ns) key

-- the rows of a namespace and of its tables
abbrev pub is_ns_or_table_in : List ℕ → CatKey → Bool
is_ns_or_table_in ns (key_is.Ns other) = bytes_eq ns other
is_ns_or_table_in ns (key_is.Table table) = bytes_eq ns table.ns
is_ns_or_table_in ns (key_is.Region region) = false

-- a table's row, without its regions'
abbrev pub is_table : TableName → CatKey → Bool
is_table table (key_is.Table other) = same_table table other
is_table table key = false

-- a region's row
abbrev pub is_region : Region → CatKey → Bool
is_region region key = is_over (resource_is.Region region) key

-- a row of a table's region with a number that passes the test
abbrev pub is_region_in : TableName → (ℕ → Bool) → CatKey → Bool
is_region_in table test (key_is.Region region) = same_table table region.table && test region.id
is_region_in table test key = false

-- the rows that the steps of a request read
abbrev pub request_reads : Request → CatKey → Bool
request_reads (request_is.CreateNamespace ns) key = is_ns ns key
request_reads (request_is.DropNamespace ns) key = is_ns_or_table_in ns key
request_reads (request_is.CreateTable table keys) key = is_ns table.ns key || is_table table key
request_reads (request_is.DeleteTable table) key = is_over (resource_is.Table table) key
request_reads (request_is.EnableTable table) key = is_over (resource_is.Table table) key
request_reads (request_is.DisableTable table) key = is_over (resource_is.Table table) key
request_reads (request_is.ModifyTable table version) key = is_table table key
request_reads (request_is.SplitRegion region key) other = is_table region.table other || is_region region other
request_reads (request_is.MergeRegions regions) key =
    list_any (λ region. is_table region.table key || is_region region key) regions
request_reads (request_is.Move region to) key = is_table region.table key || is_region region key

-- the rows that the steps of a procedure read
abbrev pub reads : Args → CatKey → Bool
reads (args_are.Root request first) key = request_reads request key
reads (args_are.Transit region goal to) key = is_table region.table key || is_region region key
reads (args_are.AddRegions table first bounds) key =
    is_region_in table (λ id. nat_le first id && nat_lt (id + 1) (first + length bounds)) key
reads (args_are.DropRegions table ids) key = is_region_in table (λ id. list_any (λ own. own == id) ids) key
reads args key = false

-- the rows that nobody else may change while the procedure's tree holds what it asks for
abbrev pub guards : Args → CatKey → Bool
guards args key = covers args key || reads args key

-- an unfinished procedure with a step asks exclusively for what covers the row
abbrev pub IsBusy : Past → CatKey → Type 0
IsBusy before key =
    (p : ℕ) × (node : Node) × (node_of before p ≡ Some node) × Holds before p × (covers node.args key ≡ true)
