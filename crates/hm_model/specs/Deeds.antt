-- The deeds of requests: what each does to a catalog at once.
use Rattle.std.specs.Prelude.{ℕ, List, [], ◌∷◌, ◌++◌, Option, Some, None, true, Result, Ok, Err}
use Rattle.hm_names.specs.Region.{Region}
use Rattle.hm_names.specs.declared.table.TableName.{TableName}
use Rattle.hm_data.specs.declared.answer.Cause.{Cause}
use Rattle.hm_data.specs.declared.args.Args.{Args}
use Rattle.hm_data.specs.declared.catalog.CatKey.{CatKey}
use Rattle.hm_data.specs.declared.catalog.CatKey.TheVariants as key_is
use Rattle.hm_data.specs.declared.catalog.CatRow.TheVariants as row_is
use Rattle.hm_data.specs.declared.catalog.Edit.{Edit}
use Rattle.hm_data.specs.declared.catalog.TableState.TheVariants as state_is
use Rattle.hm_data.specs.declared.request.Request.{Request}
use Rattle.hm_data.specs.declared.request.Request.TheVariants as request_is
use Rattle.hm_model.specs.Catalog.{Catalog, set_to, rows_at}
use Rattle.hm_model.specs.Changes.{changed, add_ranges, remove_regions, split_edits, merge_edits}
use Rattle.hm_model.specs.Checks.{namespace_free, namespace_empty, table_free, table_disabled, table_enabled, region_ready, can_split, can_merge}
use Rattle.hm_model.specs.Kinds.{table_of_first}
use Rattle.hm_model.specs.Reads.{is_ns_or_table_in, is_region_in}
use Rattle.hm_model.specs.NamespaceActs.{has_table}
use Rattle.hm_model.specs.Pieces.{ranges_between}
use Rattle.hm_model.specs.RowsSaid.{Rows, all_among, in_state, in_version}
use Rattle.hm_model.specs.Views.{Asked, asked_of}

-- the edits of a whole request at once, or the first cause against it
abbrev pub Deed : Type 0
Deed = Result (List Edit) Cause

-- a cause against a request, or else its edits
abbrev pub unless : Option Cause → List Edit → Deed
unless None edits = Ok edits
unless (Some cause) edits = Err cause

-- the rows of a namespace and of its tables in a catalog
abbrev pub rows_in_ns : List ℕ → List CatKey → Catalog → Rows
rows_in_ns ns keys there = rows_at (is_ns_or_table_in ns) there keys

-- the regions that a table has in a catalog, in name order
abbrev pub regions_of : TableName → List CatKey → Catalog → List Region
regions_of table keys there = all_among table (rows_at (is_region_in table (λ id. true)) there keys)

-- a namespace is added
abbrev pub adding_namespace : List ℕ → Catalog → Deed
adding_namespace ns there =
    unless (namespace_free (there (key_is.Ns ns))) (set_to there (key_is.Ns ns) (Some row_is.Ns) ∷ [])

-- a namespace is removed
abbrev pub dropping_namespace : List ℕ → List CatKey → Catalog → Deed
dropping_namespace ns keys there =
    unless (namespace_empty (there (key_is.Ns ns)) (has_table ns (rows_in_ns ns keys there))) (set_to there (key_is.Ns ns) None ∷ [])

-- a table is added, enabled, of version 1, with one live region for each gap of the split keys
abbrev pub creating_table : TableName → List (List ℕ) → ℕ → Catalog → Deed
creating_table table bounds first there =
    unless (table_free (there (key_is.Ns table.ns)) (there (key_is.Table table)))
    (set_to there (key_is.Table table) (Some (row_is.Table state_is.Enabled 1)) ∷ add_ranges there table first (ranges_between bounds))

-- a table is removed, with all its regions
abbrev pub deleting_table : TableName → List CatKey → Catalog → Deed
deleting_table table keys there =
    unless (table_disabled (there (key_is.Table table)))
    (set_to there (key_is.Table table) None ∷ remove_regions there (regions_of table keys there))

-- the cause against a merge, by the table of its first region
abbrev pub cause_of_merge : Option TableName → Catalog → List Region → Option Cause
cause_of_merge None there regions = None
cause_of_merge (Some table) there regions = can_merge (there (key_is.Table table)) there regions

-- the deed of a request in a catalog, some of whose keys are listed, with the first id that was drawn: the first cause
-- against it, or its edits
abbrev pub deed : Request → ℕ → List CatKey → Catalog → Deed
deed (request_is.CreateNamespace ns) first keys there = adding_namespace ns there
deed (request_is.DropNamespace ns) first keys there = dropping_namespace ns keys there
deed (request_is.CreateTable table split) first keys there = creating_table table ([] ∷ split ++ [] ∷ []) first there
deed (request_is.DeleteTable table) first keys there = deleting_table table keys there
deed (request_is.EnableTable table) first keys there =
    unless (table_disabled (there (key_is.Table table))) (changed there (key_is.Table table) (in_state state_is.Enabled) ∷ [])
deed (request_is.DisableTable table) first keys there =
    unless (table_enabled (there (key_is.Table table))) (changed there (key_is.Table table) (in_state state_is.Disabled) ∷ [])
deed (request_is.ModifyTable table version) first keys there =
    unless (table_disabled (there (key_is.Table table))) (changed there (key_is.Table table) (in_version version) ∷ [])
deed (request_is.SplitRegion region key) first keys there =
    unless (can_split (there (key_is.Table region.table)) (there (key_is.Region region)) key) (split_edits there region key first)
deed (request_is.MergeRegions regions) first keys there =
    unless (cause_of_merge (table_of_first regions) there regions) (merge_edits there regions first)
deed (request_is.Move region to) first keys there =
    unless (region_ready (there (key_is.Table region.table)) (there (key_is.Region region))) []

-- the same of what was asked for, where anybody asked
abbrev pub deed_if : Option Asked → List CatKey → Catalog → Deed
deed_if None keys there = Ok []
deed_if (Some asked) keys there = deed asked.request asked.first keys there

-- the deed of a procedure; what nobody asked for has none
abbrev pub deed_of : Args → List CatKey → Catalog → Deed
deed_of args keys there = deed_if (asked_of args) keys there
