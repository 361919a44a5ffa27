-- What the acts on regions answer: those of tables, of splits and of merges.
use Rattle.std.specs.Prelude.{ℕ, ◌-◌, List, length, map, Option, Some, None}
use Rattle.hm_names.specs.Region.{Region}
use Rattle.hm_names.specs.declared.table.TableName.{TableName}
use Rattle.hm_data.specs.declared.answer.Cause.{Cause}
use Rattle.hm_data.specs.declared.args.Args.{Args}
use Rattle.hm_data.specs.declared.call.Told.TheVariants as told_is
use Rattle.hm_data.specs.declared.catalog.CatKey.TheVariants as key_is
use Rattle.hm_data.specs.declared.place.Goal.TheVariants as goal_is
use Rattle.hm_data.specs.declared.step.StepOut.{StepOut}
use Rattle.hm_model.specs.Catalog.{row_at}
use Rattle.hm_model.specs.Changes.{add_ranges, remove_regions, split_edits, merge_edits}
use Rattle.hm_model.specs.Checks.{can_split, can_merge}
use Rattle.hm_model.specs.Kinds.{table_of_first}
use Rattle.hm_model.specs.Outs.{given, checked, edits_rows, spawns, ends_with}
use Rattle.hm_model.specs.Pieces.{numbers_from, ranges_between, adding, dropping, transits}
use Rattle.hm_model.specs.RowsSaid.{Rows, live_among, all_among}
use Rattle.hm_model.specs.Undoing.{closed_by}
use Rattle.hm_model.specs.Views.{Asked, asked_of, table_of, region_of, regions_in, bounds_of, first_id_of}
use Rattle.hm_model.specs.Wanted.{cut_of_request, ids_of}

-- act 8: has the regions of the new table added
abbrev pub add_regions : ℕ → Args → StepOut
add_regions next args =
    given (table_of args) next (λ table. given (bounds_of args) next (λ bounds. spawns next (adding (length bounds) table (first_id_of args) bounds)))

-- the regions of a table that are to be opened or closed: those that were drawn for a new table, else the live ones
abbrev pub regions_for : TableName → ℕ → Option (List (List ℕ)) → Rows → List Region
regions_for table first None rows = live_among table rows
regions_for table first (Some bounds) rows = regions_in table (numbers_from first (length bounds - 1))

-- act 10: has the regions of the table assigned
abbrev pub open_regions : ℕ → Args → Rows → StepOut
open_regions next args rows =
    given (table_of args) next (λ table. spawns next (transits goal_is.Assign (regions_for table (first_id_of args) (bounds_of args) rows)))

-- act 13: has all regions of the table removed
abbrev pub drop_regions : ℕ → Args → Rows → StepOut
drop_regions next args rows =
    given (table_of args) next (λ table. spawns next (dropping table (map (λ region. region.id) (all_among table rows))))

-- act 17: has the regions of the table unassigned
abbrev pub close_regions : ℕ → Args → Rows → StepOut
close_regions next args rows =
    given (table_of args) next (λ table. spawns next (transits goal_is.Unassign (regions_for table (first_id_of args) (bounds_of args) rows)))

-- the key at which a procedure splits its region
abbrev pub cut_of : Option Asked → Option (List ℕ)
cut_of None = None
cut_of (Some asked) = cut_of_request asked.request

-- act 20: the region can be split at the key
abbrev pub check_split : ℕ → Args → Rows → StepOut
check_split next args rows =
    given (region_of args) next (λ region. given (cut_of (asked_of args)) next (λ key. checked next (can_split (row_at rows (key_is.Table region.table)) (row_at rows (key_is.Region region)) key)))

-- acts 21 and 26: has the regions to split or to merge unassigned
abbrev pub close_parents : ℕ → Args → StepOut
close_parents next args = spawns next (transits goal_is.Unassign (closed_by args))

-- act 22: marks the region as split, and adds its daughters
abbrev pub update_split_meta : ℕ → Args → Rows → StepOut
update_split_meta next args rows =
    given (region_of args) next (λ region. given (cut_of (asked_of args)) next (λ key. edits_rows next (split_edits (row_at rows) region key (first_id_of args))))

-- acts 23 and 28: has new regions assigned, so many from the first id on
abbrev pub open_new : ℕ → ℕ → Args → StepOut
open_new count next args =
    given (table_of args) next (λ table. spawns next (transits goal_is.Assign (regions_in table (numbers_from (first_id_of args) count))))

-- act 24: ends a split or a merge
abbrev pub finish : StepOut
finish = ends_with told_is.Nothing

-- the cause against a merge, by the table of its first region
abbrev pub merge_cause : Option TableName → Rows → List Region → Option Cause
merge_cause None rows regions = None
merge_cause (Some table) rows regions = can_merge (row_at rows (key_is.Table table)) (row_at rows) regions

-- act 25: the regions can be merged
abbrev pub check_merge : ℕ → Args → Rows → StepOut
check_merge next args rows = checked next (merge_cause (table_of_first (closed_by args)) rows (closed_by args))

-- act 27: marks the regions as merged, and adds the one that they become
abbrev pub update_merge_meta : ℕ → Args → Rows → StepOut
update_merge_meta next args rows = edits_rows next (merge_edits (row_at rows) (closed_by args) (first_id_of args))

-- act 29: adds regions as live, without parents
abbrev pub add_region_rows : ℕ → Args → Rows → StepOut
add_region_rows next args rows =
    given (table_of args) next (λ table. given (bounds_of args) next (λ bounds. edits_rows next (add_ranges (row_at rows) table (first_id_of args) (ranges_between bounds))))

-- act 30: removes regions
abbrev pub drop_region_rows : ℕ → Args → Rows → StepOut
drop_region_rows next args rows =
    given (table_of args) next (λ table. edits_rows next (remove_regions (row_at rows) (regions_in table (ids_of args))))
