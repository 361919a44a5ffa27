-- How the rows of a catalog follow those of a journal.
use Rattle.std.specs.Prelude.{◌≡◌, ℕ, ◌∷◌, Option, filter, Bool}
use Rattle.hm_names.specs.Server.{Server}
use Rattle.hm_names.specs.declared.pid.Pid.{Pid}
use Rattle.hm_data.specs.declared.catalog.CatKey.{CatKey}
use Rattle.hm_data.specs.declared.entry.Entry.{Entry}
use Rattle.hm_data.specs.declared.entry.Entry.TheVariants as entry_is
use Rattle.hm_data.specs.declared.request.Request.{Request}
use Rattle.hm_data.specs.declared.step.StepOut.{StepOut}
use Rattle.hm_model.specs.Catalog.{cat, keys_of, row_at, rows_at}
use Rattle.hm_model.specs.Deeds.{deed}
use Rattle.hm_model.specs.Journal.{Past}
use Rattle.hm_catalog.specs.Rows.{keys_in, rows_in, with_edits, with_entry}

-- the edits of a step lead from the rows of a journal to those of the longer one
abbrev pub StepsLead : Type 0
StepsLead =
    (before : Past) (pid : Pid) (pick : Option Server) (out : StepOut) → with_edits out.edits (rows_in before) ≡ rows_in (entry_is.Step pid pick out ∷ before)

-- and so do those of an undo
abbrev pub UndosLead : Type 0
UndosLead =
    (before : Past) (pid : Pid) (row : ℕ) (out : StepOut) → with_edits out.edits (rows_in before) ≡ rows_in (entry_is.Undo pid row out ∷ before)

-- so that each entry leads from the rows of a journal to those of the longer one
abbrev pub EntriesLead : Type 0
EntriesLead = (entry : Entry) (before : Past) → with_entry entry (rows_in before) ≡ rows_in (entry ∷ before)

-- the row of each key among them is that of the journal's catalog
abbrev pub RowsTell : Type 0
RowsTell = (J : Past) → row_at (rows_in J) ≡ cat J

-- the rows that are asked for in the journal's catalog are among them
abbrev pub RowsAreAsked : Type 0
RowsAreAsked = (J : Past) (asked : CatKey → Bool) → rows_at asked (cat J) (keys_of J) ≡ filter (λ row. asked row.0) (rows_in J)

-- the deed among them is that in the journal's catalog
abbrev pub DeedsTell : Type 0
DeedsTell =
    (J : Past) (request : Request) (first : ℕ) → deed request first (keys_in (rows_in J)) (row_at (rows_in J)) ≡ deed request first (keys_of J) (cat J)
