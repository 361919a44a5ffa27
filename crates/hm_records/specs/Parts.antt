-- What is kept of an entry, and how much room it needs.
use Rattle.std.specs.Prelude.{◌≡◌, ℕ, ◌+◌, ◌==◌, List, [], ◌∷◌, length, max, Option, Some, None, Bool, false, if◌then◌else◌}
use Rattle.hm_names.specs.Server.{Server}
use Rattle.hm_names.specs.declared.nonce.Nonce.{Nonce}
use Rattle.hm_names.specs.declared.pid.Pid.{Pid}
use Rattle.hm_names.specs.declared.table.TableName.{TableName}
use Rattle.hm_data.specs.declared.catalog.CatKey.{CatKey}
use Rattle.hm_data.specs.declared.catalog.CatKey.TheVariants as key_is
use Rattle.hm_data.specs.declared.catalog.CatRow.{CatRow}
use Rattle.hm_data.specs.declared.catalog.CatRow.TheVariants as row_is
use Rattle.hm_data.specs.declared.catalog.Edit.{Edit}
use Rattle.hm_data.specs.declared.entry.Entry.{Entry}
use Rattle.hm_data.specs.declared.entry.Entry.TheVariants as entry_is
use Rattle.hm_data.specs.declared.part.Part.{Part}
use Rattle.hm_data.specs.declared.part.Part.TheVariants as part_is
use Rattle.hm_data.specs.declared.sheet.Sheet.{Sheet}
use Rattle.hm_model.specs.Journal.{Past}
use Rattle.hm_model.specs.Kinds.{table_of_request}
use Rattle.hm_model.specs.Parts.{part_server, table_row}
use Rattle.hm_model.specs.Tree.{made, new_ids, pid_of}
use Rattle.hm_model.specs.Validity.{AllValid}
use Rattle.hm_places.specs.Laws.{placed_now}
use Rattle.hm_procedures.specs.Kept.{args_made}
use Rattle.hm_undo.specs.Laws.{leaves_undo, next_step}
use Rattle.hm_undo.specs.declared.slot.Step.{Step}
use Rattle.hm_records.specs.Book.{asks_of, drafts_of}
use Rattle.hm_records.specs.declared.parts.Parts.{Parts}

-- the key that a part of a base is of, with the row that it gives it
abbrev pub row_told : Part → Option (CatKey × Option CatRow)
row_told (part_is.Namespace ns) = Some (key_is.Ns ns, Some row_is.Ns)
row_told (part_is.Table table drawn own) = Some (key_is.Table table, table_row own)
row_told (part_is.Region region range status parents place) = Some (key_is.Region region, Some (row_is.Region range status parents))
row_told part = None

-- the edit that gives a key its row, if there is one
abbrev pub told_edits : Option (CatKey × Option CatRow) → List Edit
told_edits None = []
told_edits (Some told) = record { key = told.0; before = None; after = told.1 } ∷ []

-- the edits of an entry; of a part of a base, the one that gives its key the row
abbrev pub edits_of : Entry → List Edit
edits_of (entry_is.Step pid pick out) = out.edits
edits_of (entry_is.Undo pid row out) = out.edits
edits_of (entry_is.Base part) = told_edits (row_told part)
edits_of entry = []

-- the step that an entry leaves to be undone
abbrev pub step_left : Past → Entry → Option Step
step_left before (entry_is.Step pid pick out) = if leaves_undo before pid out then Some (next_step before pid out) else None
step_left before entry = None

-- a nonce with its root: one whose number is 0 is none
abbrev pub used_for : Nonce → Pid → Option (Nonce × Pid)
used_for nonce root = if nonce.number == 0 then None else Some (nonce, root)

-- the nonce of a part's root, with that root
abbrev pub part_nonce_used : Part → Option (Nonce × Pid)
part_nonce_used (part_is.Root pid nonce args cause) = used_for nonce pid
part_nonce_used part = None

-- the nonce that an entry uses, with the root that was made under it
abbrev pub nonce_used : Past → Entry → Option (Nonce × Pid)
nonce_used before (entry_is.Submit nonce request) = used_for nonce (pid_of (made before + 1))
nonce_used before (entry_is.Base part) = part_nonce_used part
nonce_used before entry = None

-- a table with a number of ids, where there are any
abbrev pub counted_for : Option TableName → ℕ → Option (TableName × ℕ)
counted_for None count = None
counted_for (Some table) count = if count == 0 then None else Some (table, count)

-- the table of a part of a base, and how many region ids were drawn for it
abbrev pub part_ids : Part → Option (TableName × ℕ)
part_ids (part_is.Table table drawn own) = Some (table, drawn)
part_ids part = None

-- the table for which an entry draws region ids, and how many; a part of a base tells how many were drawn in all
abbrev pub ids_drawn : Entry → Option (TableName × ℕ)
ids_drawn (entry_is.Submit nonce request) = counted_for (table_of_request request) (new_ids request)
ids_drawn (entry_is.Base part) = part_ids part
ids_drawn entry = None

-- the server that comes up, or that a part of a base tells, and whether it is fenced
abbrev pub comes_up : Entry → Option (Server × Bool)
comes_up (entry_is.Up server) = Some (server, false)
comes_up (entry_is.Base part) = part_server part
comes_up entry = None

-- the sheets that an entry adopts
abbrev pub adopted : Entry → Option (List Sheet)
adopted (entry_is.Adopt sheets) = Some sheets
adopted entry = None

-- an entry adopts a sheet that isn't valid
abbrev pub AdoptsInvalid : Entry → Type 0
AdoptsInvalid (entry_is.Adopt sheets) = AllValid sheets → ⊥
AdoptsInvalid entry = ⊥

-- all that is kept of an entry
pub record AreParts (before : Past) (entry : Entry) (parts : Parts) : Type 0 where
  pub made : parts.made ≡ args_made before entry
  pub drafts : (let drafts = parts.drafts in let list = drafts.list in list.items) ≡ drafts_of before entry
  pub asks : (let drafts = parts.drafts in drafts.asks) ≡ asks_of entry
  pub edits : parts.edits ≡ edits_of entry
  pub step : parts.step ≡ step_left before entry
  pub nonce : parts.nonce ≡ nonce_used before entry
  pub ids : parts.ids ≡ ids_drawn entry
  pub up : parts.up ≡ comes_up entry
  pub placed : parts.placed ≡ placed_now before entry
  pub sheets : parts.sheets ≡ adopted entry

-- how much room an entry needs of each kind: one for itself, one for each edit and one for each procedure that it makes, or
-- one for each ask of these procedures where those are more
abbrev pub size_of : Entry → ℕ
size_of entry = max (1 + length (edits_of entry) + length (args_made [] entry)) (asks_of entry)
