-- What a deed is made of: the cause against it, and its edits.
use Rattle.std.specs.Prelude.{◌≡◌, ℕ, List, [], ◌∷◌, ◌++◌, Option, Some, None, Result, Ok, Err, IsOk}
use Rattle.hm_data.specs.declared.answer.Cause.{Cause}
use Rattle.hm_data.specs.declared.catalog.CatKey.TheVariants as key_is
use Rattle.hm_data.specs.declared.catalog.CatRow.{CatRow}
use Rattle.hm_data.specs.declared.catalog.CatRow.TheVariants as row_is
use Rattle.hm_data.specs.declared.catalog.Edit.{Edit}
use Rattle.hm_data.specs.declared.catalog.TableState.TheVariants as state_is
use Rattle.hm_data.specs.declared.request.Request.{Request}
use Rattle.hm_data.specs.declared.request.Request.TheVariants as request_is
use Rattle.hm_model.specs.Catalog.{row_at, set_to}
use Rattle.hm_model.specs.Changes.{changed, add_ranges, remove_regions, split_edits, merge_edits}
use Rattle.hm_model.specs.Checks.{namespace_free, namespace_empty, table_free, table_disabled, table_enabled, region_ready, can_split}
use Rattle.hm_model.specs.Deeds.{Deed, cause_of_merge}
use Rattle.hm_model.specs.Kinds.{table_of_first}
use Rattle.hm_model.specs.NamespaceActs.{has_table}
use Rattle.hm_model.specs.Pieces.{ranges_between}
use Rattle.hm_model.specs.RowsSaid.{Rows, all_among, in_state, in_status, in_version}
use Rattle.hm_catalog.specs.declared.edits.Change.{Change}
use Rattle.hm_catalog.specs.declared.edits.Change.TheVariants as change_is
use Rattle.hm_catalog.specs.declared.deeds.DeedWhy.{DeedWhy}
use Rattle.hm_catalog.specs.declared.deeds.DeedWhy.TheVariants as why_is

-- the answer is the deed; memory ran out only where no cause stands against the request
abbrev pub IsDeed : Result (List Edit) DeedWhy → Deed → Type 0
IsDeed (Ok edits) whole = whole ≡ Ok edits
IsDeed (Err (why_is.Cause cause)) whole = whole ≡ Err cause
IsDeed (Err why_is.Memory) whole = IsOk whole

-- what becomes of a row
abbrev pub made_by : Change → CatRow → CatRow
made_by (change_is.State state) = in_state state
made_by (change_is.Version version) = in_version version
made_by (change_is.Status status) = in_status status

-- the first cause against a request among rows
abbrev pub against : Request → Rows → Option Cause
against (request_is.CreateNamespace ns) rows = namespace_free (row_at rows (key_is.Ns ns))
against (request_is.DropNamespace ns) rows = namespace_empty (row_at rows (key_is.Ns ns)) (has_table ns rows)
against (request_is.CreateTable table split) rows = table_free (row_at rows (key_is.Ns table.ns)) (row_at rows (key_is.Table table))
against (request_is.DeleteTable table) rows = table_disabled (row_at rows (key_is.Table table))
against (request_is.EnableTable table) rows = table_disabled (row_at rows (key_is.Table table))
against (request_is.DisableTable table) rows = table_enabled (row_at rows (key_is.Table table))
against (request_is.ModifyTable table version) rows = table_disabled (row_at rows (key_is.Table table))
against (request_is.SplitRegion region key) rows = can_split (row_at rows (key_is.Table region.table)) (row_at rows (key_is.Region region)) key
against (request_is.MergeRegions regions) rows = cause_of_merge (table_of_first regions) (row_at rows) regions
against (request_is.Move region to) rows = region_ready (row_at rows (key_is.Table region.table)) (row_at rows (key_is.Region region))

-- the edits of a request that no cause stands against
abbrev pub edits_for : Request → ℕ → Rows → List Edit
edits_for (request_is.CreateNamespace ns) first rows = set_to (row_at rows) (key_is.Ns ns) (Some row_is.Ns) ∷ []
edits_for (request_is.DropNamespace ns) first rows = set_to (row_at rows) (key_is.Ns ns) None ∷ []
edits_for (request_is.CreateTable table split) first rows =
    set_to (row_at rows) (key_is.Table table) (Some (row_is.Table state_is.Enabled 1)) ∷ add_ranges (row_at rows) table first (ranges_between ([] ∷ split ++ [] ∷ []))
edits_for (request_is.DeleteTable table) first rows = set_to (row_at rows) (key_is.Table table) None ∷ remove_regions (row_at rows) (all_among table rows)
edits_for (request_is.EnableTable table) first rows = changed (row_at rows) (key_is.Table table) (in_state state_is.Enabled) ∷ []
edits_for (request_is.DisableTable table) first rows = changed (row_at rows) (key_is.Table table) (in_state state_is.Disabled) ∷ []
edits_for (request_is.ModifyTable table version) first rows = changed (row_at rows) (key_is.Table table) (in_version version) ∷ []
edits_for (request_is.SplitRegion region key) first rows = split_edits (row_at rows) region key first
edits_for (request_is.MergeRegions regions) first rows = merge_edits (row_at rows) regions first
edits_for (request_is.Move region to) first rows = []
