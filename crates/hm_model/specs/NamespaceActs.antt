-- What the acts on namespaces and tables answer.
use Rattle.std.specs.Prelude.{ℕ, List, [], ◌∷◌, Option, Some, None, Bool}
use Rattle.std.specs.List.{list_any}
use Rattle.hm_names.specs.declared.pid.Pid.{Pid}
use Rattle.hm_data.specs.declared.args.Args.{Args}
use Rattle.hm_data.specs.declared.args.Args.TheVariants as args_are
use Rattle.hm_data.specs.declared.args.Child.TheVariants as child_is
use Rattle.hm_data.specs.declared.catalog.CatKey.TheVariants as key_is
use Rattle.hm_data.specs.declared.catalog.CatRow.TheVariants as row_is
use Rattle.hm_data.specs.declared.catalog.TableState.{TableState}
use Rattle.hm_data.specs.declared.catalog.TableState.TheVariants as state_is
use Rattle.hm_data.specs.declared.step.StepOut.{StepOut}
use Rattle.hm_model.specs.Catalog.{row_at, set_to}
use Rattle.hm_model.specs.Changes.{changed}
use Rattle.hm_model.specs.Checks.{namespace_free, namespace_empty, table_free, table_disabled, table_enabled}
use Rattle.hm_model.specs.Outs.{given, checked, edits_rows, spawns}
use Rattle.hm_model.specs.RowsSaid.{Rows, is_table_in, in_state, in_version}
use Rattle.hm_model.specs.Views.{Asked, asked_of, namespace_of, table_of}
use Rattle.hm_model.specs.Wanted.{version_of_request}

-- a namespace has a table among rows
abbrev pub has_table : List ℕ → Rows → Bool
has_table ns rows = list_any (λ row. is_table_in ns row.0) rows

-- act 1: the namespace to create isn't there
abbrev pub check_free_namespace : ℕ → Args → Rows → StepOut
check_free_namespace next args rows =
    given (namespace_of args) next (λ ns. checked next (namespace_free (row_at rows (key_is.Ns ns))))

-- act 2: adds the row of the namespace
abbrev pub add_namespace : ℕ → Args → Rows → StepOut
add_namespace next args rows =
    given (namespace_of args) next (λ ns. edits_rows next (set_to (row_at rows) (key_is.Ns ns) (Some row_is.Ns) ∷ []))

-- act 3: the namespace to drop is there, and has no table
abbrev pub check_namespace_empty : ℕ → Args → Rows → StepOut
check_namespace_empty next args rows =
    given (namespace_of args) next (λ ns. checked next (namespace_empty (row_at rows (key_is.Ns ns)) (has_table ns rows)))

-- act 4: removes the row of the namespace
abbrev pub drop_namespace : ℕ → Args → Rows → StepOut
drop_namespace next args rows =
    given (namespace_of args) next (λ ns. edits_rows next (set_to (row_at rows) (key_is.Ns ns) None ∷ []))

-- act 5: the namespace of the table to create is there, and the table isn't
abbrev pub check_table_free : ℕ → Args → Rows → StepOut
check_table_free next args rows =
    given (table_of args) next (λ table. checked next (table_free (row_at rows (key_is.Ns table.ns)) (row_at rows (key_is.Table table))))

-- act 6: adds the row of the table, disabled, of version 1
abbrev pub add_table : ℕ → Args → Rows → StepOut
add_table next args rows =
    given (table_of args) next (λ table. edits_rows next (set_to (row_at rows) (key_is.Table table) (Some (row_is.Table state_is.Disabled 1)) ∷ []))

-- act 7: has the storage lay out the files of the root
abbrev pub lay_out : ℕ → Pid → StepOut
lay_out next root = spawns next (child_is.One (args_are.LayoutCall root) ∷ [])

-- acts 9, 11, 16 and 18: sets the table to a state, with its version
abbrev pub set_state : TableState → ℕ → Args → Rows → StepOut
set_state state next args rows =
    given (table_of args) next (λ table. edits_rows next (changed (row_at rows) (key_is.Table table) (in_state state) ∷ []))

-- act 12: the table is there and disabled
abbrev pub check_table_disabled : ℕ → Args → Rows → StepOut
check_table_disabled next args rows =
    given (table_of args) next (λ table. checked next (table_disabled (row_at rows (key_is.Table table))))

-- act 14: removes the row of the table
abbrev pub drop_table : ℕ → Args → Rows → StepOut
drop_table next args rows =
    given (table_of args) next (λ table. edits_rows next (set_to (row_at rows) (key_is.Table table) None ∷ []))

-- act 15: the table is there and enabled
abbrev pub check_table_enabled : ℕ → Args → Rows → StepOut
check_table_enabled next args rows =
    given (table_of args) next (λ table. checked next (table_enabled (row_at rows (key_is.Table table))))

-- the version that a procedure gives its table
abbrev pub version_of : Option Asked → Option ℕ
version_of None = None
version_of (Some asked) = version_of_request asked.request

-- act 19: gives the table its new version, in its state
abbrev pub set_version : ℕ → Args → Rows → StepOut
set_version next args rows =
    given (table_of args) next (λ table. given (version_of (asked_of args)) next (λ version. edits_rows next (changed (row_at rows) (key_is.Table table) (in_version version) ∷ [])))
