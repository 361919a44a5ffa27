-- Which procedures read a row that was edited.
use Rattle.std.specs.Prelude.{◌≡◌, List, Option, Some, None, Bool, false}
use Rattle.std.specs.List.{list_any}
use Rattle.hm_data.specs.declared.args.Args.{Args}
use Rattle.hm_data.specs.declared.catalog.Edit.{Edit}
use Rattle.hm_model.specs.Catalog.{cat, edited, keys_of, rows_at, with_keys}
use Rattle.hm_model.specs.Inputs.{rows_read}
use Rattle.hm_model.specs.Journal.{Past}
use Rattle.hm_model.specs.Reads.{reads}
use Rattle.hm_model.specs.Tree.{Node}

-- some edit is of a row that is read
abbrev pub are_read : List Edit → Args → Bool
are_read edits args = list_any (λ edit. reads args edit.key) edits

-- the same of a procedure that may be there
abbrev pub are_read_by : List Edit → Option Node → Bool
are_read_by edits None = false
are_read_by edits (Some node) = are_read edits node.args

-- by edits of other rows what is read stays
abbrev pub UnreadStay : Type 0
UnreadStay =
    (J : Past) (edits : List Edit) (args : Args) → are_read edits args ≡ false
    → rows_at (reads args) (λ key. edited edits key (cat J key)) (with_keys edits (keys_of J)) ≡ rows_read J args
