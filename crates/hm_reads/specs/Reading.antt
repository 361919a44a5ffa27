-- What is read of a catalog.
use Rattle.std.specs.Prelude.{◌≡◌, Bool, ◌||◌}
use Rattle.hm_data.specs.declared.args.Args.{Args}
use Rattle.hm_data.specs.declared.catalog.CatKey.{CatKey}
use Rattle.hm_model.specs.Inputs.{rows_read}
use Rattle.hm_model.specs.Journal.{Past}
use Rattle.hm_model.specs.Reads.{reads}
use Rattle.hm_model.specs.RowsSaid.{Rows}
use Rattle.hm_catalog.specs.Rows.{rows_in}
use Rattle.hm_catalog.specs.Spans.{rows_of}

-- the rows that a step of a procedure reads, among all rows
abbrev pub read_of : Args → Rows → Rows
read_of args all = rows_of (reads args) all

-- of all rows, those that pass one test more were found
abbrev pub Adds : (CatKey → Bool) → Rows → Rows → Rows → Type 0
Adds wanted all before after =
    (asked : CatKey → Bool) → before ≡ rows_of asked all → after ≡ rows_of (λ key. asked key || wanted key) all

-- of the rows of a journal's catalog, those are read that the journal says
abbrev pub ReadsTell : Type 0
ReadsTell = (J : Past) (args : Args) → read_of args (rows_in J) ≡ rows_read J args
