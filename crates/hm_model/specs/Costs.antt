-- What the tree of each root costs: how many entries it has at most where nothing disturbs it.
use Rattle.std.specs.Prelude.{ℕ, ◌+◌, ◌*◌, ◌/◌, List, [], ◌∷◌, length, true, ◌==◌, if◌then◌else◌}
use Rattle.hm_names.specs.declared.table.TableName.{TableName}
use Rattle.hm_data.specs.declared.args.Args.{Args}
use Rattle.hm_data.specs.declared.args.Args.TheVariants as args_are
use Rattle.hm_data.specs.declared.catalog.CatKey.{CatKey}
use Rattle.hm_data.specs.declared.entry.Entry.TheVariants as entry_is
use Rattle.hm_data.specs.declared.request.Request.{Request}
use Rattle.hm_data.specs.declared.request.Request.TheVariants as request_is
use Rattle.hm_model.specs.Catalog.{Catalog, was, keys_of, rows_at}
use Rattle.hm_model.specs.Journal.{Past}
use Rattle.hm_model.specs.Reads.{is_region_in}
use Rattle.hm_model.specs.Places.{load}
use Rattle.hm_model.specs.RowsSaid.{Rows, all_among, live_among}
use Rattle.hm_model.specs.Tree.{made}

-- how many pieces of 64 so many make, the last of the rest
abbrev pub by_64s : ℕ → ℕ
by_64s n = (n + 63) / 64

-- the rows of a table's regions in a catalog
abbrev pub region_rows : TableName → List CatKey → Catalog → Rows
region_rows table keys there = rows_at (is_region_in table (λ id. true)) there keys

-- how many live regions a table has in a catalog
abbrev pub live_count : TableName → List CatKey → Catalog → ℕ
live_count table keys there = length (live_among table (region_rows table keys there))

-- and how many in all
abbrev pub region_count : TableName → List CatKey → Catalog → ℕ
region_count table keys there = length (all_among table (region_rows table keys there))

-- the entries that a request costs, in the catalog just before its first step
abbrev pub request_cost : Request → List CatKey → Catalog → ℕ
request_cost (request_is.CreateNamespace ns) keys there = 3
request_cost (request_is.DropNamespace ns) keys there = 3
request_cost (request_is.CreateTable table split) keys there = 11 + by_64s (length split + 1) + 6 * (length split + 1)
request_cost (request_is.DeleteTable table) keys there = 4 + by_64s (region_count table keys there)
request_cost (request_is.EnableTable table) keys there = 5 + 6 * live_count table keys there
request_cost (request_is.DisableTable table) keys there = 5 + 5 * live_count table keys there
request_cost (request_is.ModifyTable table version) keys there = 3
request_cost (request_is.SplitRegion region key) keys there = 27
request_cost (request_is.MergeRegions regions) keys there = 16 + 5 * length regions
request_cost (request_is.Move region to) keys there = 13

-- how many regions were at the server of a crash when it went down
abbrev pub regions_lost : Past → ℕ → ℕ
regions_lost [] r = 0
regions_lost (entry_is.Down server ∷ before) r = if r == made before + 1 then load before server else regions_lost before r
regions_lost (entry_is.Base part ∷ before) r = 0
regions_lost (entry ∷ before) r = regions_lost before r

-- the entries that a root costs, with the one that makes it; what is only ever a child costs none by itself
abbrev pub cost_in : Args → ℕ → List CatKey → Catalog → ℕ
cost_in (args_are.Root request first) lost keys there = request_cost request keys there
cost_in (args_are.Transit region goal to) lost keys there = 7
cost_in (args_are.Crash server) lost keys there = 6 + by_64s lost + 6 * lost
cost_in (args_are.SweepLayout root) lost keys there = 4
cost_in args lost keys there = 0

-- the entries that the tree of a root costs: its regions are counted just before its first step, those of a crash where
-- the server went down
abbrev pub cost : Past → ℕ → Args → ℕ
cost J r args = cost_in args (regions_lost J r) (keys_of J) (was J r)
