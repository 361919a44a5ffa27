-- The records of a journal as callers see them, and what is kept.
use Rattle.std.specs.Prelude.{◌≡◌, ◌≢◌, ℕ, List, [], Option, Some, None, Bool, true, not}
use Rattle.std.specs.Option.{option_map}
use Rattle.hm_names.specs.Order.{nonce_cmp, table_cmp}
use Rattle.hm_names.specs.Region.{Region}
use Rattle.hm_names.specs.Server.{Server}
use Rattle.hm_names.specs.declared.nonce.Nonce.{Nonce}
use Rattle.hm_names.specs.declared.pid.Pid.{Pid}
use Rattle.hm_names.specs.declared.table.TableName.{TableName}
use Rattle.hm_data.specs.declared.entry.Entry.{Entry}
use Rattle.hm_data.specs.declared.entry.Entry.TheVariants as entry_is
use Rattle.hm_data.specs.declared.place.Place.{Place}
use Rattle.hm_data.specs.declared.sheet.Sheet.{Sheet}
use Rattle.hm_model.specs.Journal.{Past}
use Rattle.hm_model.specs.Loads.{places_of}
use Rattle.hm_model.specs.Nonces.{by_nonce}
use Rattle.hm_model.specs.Phase.{ended}
use Rattle.hm_model.specs.RegionIds.{AreNamed}
use Rattle.hm_model.specs.RowsSaid.{Rows}
use Rattle.hm_model.specs.Standings.{standings_of}
use Rattle.hm_model.specs.Tree.{drawn, pid_of}
use Rattle.hm_index.specs.Index.{find}
use Rattle.hm_catalog.specs.Rows.{rows_in}
use Rattle.hm_model.specs.declared.standing.Standing.{Standing}
use Rattle.hm_locks.specs.Book.{Row}
use Rattle.hm_undo.specs.Laws.{Tells}
use Rattle.hm_undo.specs.Stacks.{Stacks, steps_of}
use Rattle.hm_records.specs.Book.{AreRows}
use Rattle.hm_records.specs.Lists.{AreEditions, laid_in_base, root_nonces}

-- the journal, back from its newest entry, for how much more there is room, and how much memory there is
pub record RecordsView : Type 0 where
  pub past : Past
  pub spare : ℕ
  pub room : ℕ

-- a root that hasn't ended
abbrev pub is_open : Past → Pid → Bool
is_open past root = not (ended past root.0)

-- no step is left of who has ended
abbrev pub AreForgotten : Past → Stacks → Type 0
AreForgotten past stacks = (root : Pid) → ended past root.0 ≡ true → steps_of stacks root ≡ []

-- the ids that were drawn for a table, by what is kept: none where nothing is
abbrev pub count_if : Option ℕ → ℕ
count_if None = 0
count_if (Some count) = count

-- how many ids count for a table beside those of an entry: none where it is a part of a base, which tells all of them
abbrev pub beside_ids : Entry → ℕ → ℕ
beside_ids (entry_is.Base part) count = 0
beside_ids entry count = count

-- the procedures are those that were made under the nonces
abbrev pub AreByNonce : Past → List (Nonce × Pid) → Type 0
AreByNonce past nonces = (nonce : Nonce) → find nonce_cmp nonces nonce ≡ option_map pid_of (by_nonce past nonce)

-- the numbers are those of the ids that were drawn for the tables
abbrev pub AreDrawn : Past → List (TableName × ℕ) → Type 0
AreDrawn past drawn_ids = (table : TableName) → count_if (find table_cmp drawn_ids table) ≡ drawn past table

-- what is kept beside the procedures: the rows of the catalog; the steps that may be undone; the places of regions; how
-- servers stand; the procedures of nonces; how many ids were drawn for each table; the sheets of each edition; the roots whose
-- layouts the base has; the nonce of each root; and the lock book
pub record Beside : Type 0 where
  pub rows : Rows
  pub stacks : Stacks
  pub places : List (Region × Place)
  pub servers : List (Server × Standing)
  pub nonces : List (Nonce × Pid)
  pub drawn_ids : List (TableName × ℕ)
  pub sheets : List (List Sheet)
  pub layouts : List Pid
  pub root_nonces : List Nonce
  pub book : List Row

-- the journal has an entry, its submissions name regions by their ids, and what is kept beside its procedures is what it says
pub record AreRecords (past : Past) (beside : Beside) : Type 0 where
  pub begun : past ≢ []
  pub named : AreNamed past
  pub rows_are : beside.rows ≡ rows_in past
  pub stacks_tell : Tells (is_open past) past beside.stacks
  pub stacks_forget : AreForgotten past beside.stacks
  pub places_are : beside.places ≡ places_of past
  pub servers_are : beside.servers ≡ standings_of past
  pub nonces_are : AreByNonce past beside.nonces
  pub drawn_are : AreDrawn past beside.drawn_ids
  pub sheets_are : AreEditions past beside.sheets
  pub layouts_are : beside.layouts ≡ laid_in_base past
  pub root_nonces_are : beside.root_nonces ≡ root_nonces past
  pub book_is : AreRows past beside.book
