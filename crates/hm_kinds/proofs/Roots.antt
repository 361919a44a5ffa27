-- All kinds of roots that list their rows: how far one is, and its clause.
use Rattle.std.proofs.Common.{◌≡◌, ℕ, List, [], None, sym}
use Rattle.std.proofs.lemmas.Option.{none-some}
use Rattle.hm_data.specs.declared.args.Args.{Args}
use Rattle.hm_data.specs.declared.args.Args.TheVariants as args_are
use Rattle.hm_data.specs.declared.catalog.Edit.{Edit}
use Rattle.hm_data.specs.declared.request.Request.{Request}
use Rattle.hm_data.specs.declared.request.Request.TheVariants as request_is
use Rattle.hm_model.specs.Catalog.{Catalog}
use Rattle.hm_model.specs.Kinds.{kind_of}
use Rattle.hm_model.specs.Lists.{Line, exact_rows}
use Rattle.hm_kinds.proofs.Clause.{Serves}
use Rattle.hm_kinds.proofs.Covering.{rows_table}
use Rattle.hm_kinds.proofs.CreateNamespace.{Making, create_namespace_serves}
use Rattle.hm_kinds.proofs.DropNamespace.{Dropping, drop_namespace_serves}
use Rattle.hm_kinds.proofs.CreateTable.{Creating, create_table_serves}
use Rattle.hm_kinds.proofs.DeleteTable.{Deleting, delete_table_serves}
use Rattle.hm_kinds.proofs.EnableTable.{Enabling, enable_table_serves}
use Rattle.hm_kinds.proofs.DisableTable.{Disabling, disable_table_serves}
use Rattle.hm_kinds.proofs.ModifyTable.{Modifying, modify_table_serves}
use Rattle.hm_kinds.proofs.SplitRegion.{Splitting, split_region_serves}
use Rattle.hm_kinds.proofs.MergeRegions.{Merging, merge_regions_serves}
use Rattle.hm_model.proofs.Small.{cons_nil}

-- how far a request is
abbrev pub StageOf : Request → ℕ → Catalog → List Line → List Edit → Type 0
StageOf (request_is.CreateNamespace ns) first = Making ns
StageOf (request_is.DropNamespace ns) first = Dropping ns
StageOf (request_is.CreateTable table split) first = Creating table split first
StageOf (request_is.DeleteTable table) first = Deleting table
StageOf (request_is.EnableTable table) first = Enabling table
StageOf (request_is.DisableTable table) first = Disabling table
StageOf (request_is.ModifyTable table version) first = Modifying table
StageOf (request_is.SplitRegion region key) first = Splitting region key first
StageOf (request_is.MergeRegions regions) first = Merging regions first
StageOf (request_is.Move region to) first = λ base lines then. ⊥

-- how far a root is, by the lines that are left, and what its tree did
abbrev pub Stage : Args → Catalog → List Line → List Edit → Type 0
Stage (args_are.Root request first) = StageOf request first
Stage args = λ base lines then. ⊥

-- each root that lists its rows serves its deed
pub serves : (args : Args) → exact_rows (kind_of args) ≡ [] → rows_table args ≡ None → Serves args (Stage args)
serves (args_are.Root (request_is.CreateNamespace ns) first) exact none = create_namespace_serves ns first
serves (args_are.Root (request_is.DropNamespace ns) first) exact none = drop_namespace_serves ns first
serves (args_are.Root (request_is.CreateTable table split) first) exact none = create_table_serves table split first
serves (args_are.Root (request_is.DeleteTable table) first) exact none = delete_table_serves table first
serves (args_are.Root (request_is.EnableTable table) first) exact none = enable_table_serves table first
serves (args_are.Root (request_is.DisableTable table) first) exact none = disable_table_serves table first
serves (args_are.Root (request_is.ModifyTable table version) first) exact none = modify_table_serves table version first
serves (args_are.Root (request_is.SplitRegion region key) first) exact none = split_region_serves region key first
serves (args_are.Root (request_is.MergeRegions regions) first) exact none = merge_regions_serves regions first
serves (args_are.Root (request_is.Move region to) first) exact none = absurd (cons_nil _ _ exact)
serves (args_are.AddRegions table first bounds) exact none = absurd (none-some table (sym none))
serves (args_are.DropRegions table ids) exact none = absurd (none-some table (sym none))
serves args exact none = absurd (cons_nil _ _ exact)
