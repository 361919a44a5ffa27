-- The catalog as callers see it: its rows, in the order of their keys.
use Rattle.std.specs.Prelude.{ℕ, List, [], ◌∷◌, map, Option, Some, true}
use Rattle.std.specs.declared.cmp.Ordering.{Ordering}
use Rattle.std.specs.declared.cmp.Ordering.TheVariants.{Less, Equal, Greater}
use Rattle.hm_data.specs.Keys.{key_cmp}
use Rattle.hm_data.specs.declared.catalog.CatKey.{CatKey}
use Rattle.hm_data.specs.declared.catalog.CatKey.TheVariants as key_is
use Rattle.hm_data.specs.declared.catalog.CatRow.{CatRow}
use Rattle.hm_data.specs.declared.catalog.CatRow.TheVariants as row_is
use Rattle.hm_data.specs.declared.catalog.Edit.{Edit}
use Rattle.hm_data.specs.declared.entry.Entry.{Entry}
use Rattle.hm_data.specs.declared.entry.Entry.TheVariants as entry_is
use Rattle.hm_data.specs.declared.part.Part.{Part}
use Rattle.hm_data.specs.declared.part.Part.TheVariants as part_is
use Rattle.hm_model.specs.Catalog.{cat, keep, keys_of, rows_at}
use Rattle.hm_model.specs.Journal.{Past}
use Rattle.hm_model.specs.Parts.{table_row}
use Rattle.hm_model.specs.RowsSaid.{Rows}

-- the rows in key order, for how many edits more there is room, and how much memory there is
pub record CatalogView : Type 0 where
  pub rows : Rows
  pub spare : ℕ
  pub room : ℕ

-- the keys of rows
abbrev pub keys_in : Rows → List CatKey
keys_in rows = map (λ row. row.0) rows

-- what a key becomes, beside the first of rows in key order, by how they compare: rest is the others with what it becomes
abbrev pub with_row_at : Ordering → CatKey → Option CatRow → CatKey × CatRow → Rows → Rows → Rows
with_row_at Less key after first more rest = keep true key after (first ∷ more)
with_row_at Equal key after first more rest = keep true key after more
with_row_at Greater key after first more rest = first ∷ rest

-- rows in key order, with the row that a key becomes, or without one
abbrev pub with_row : CatKey → Option CatRow → Rows → Rows
with_row key after [] = keep true key after []
with_row key after ((first, row) ∷ more) = with_row_at (key_cmp key first) key after (first, row) more (with_row key after more)

-- rows in key order, with what edits leave, in their order
abbrev pub with_edits : List Edit → Rows → Rows
with_edits [] rows = rows
with_edits (edit ∷ edits) rows = with_edits edits (with_row edit.key edit.after rows)

-- rows in key order, with a part of a base: a head leaves none, and a namespace, a table and a region get their row
abbrev pub with_part : Part → Rows → Rows
with_part (part_is.Head entries last parts sheets) rows = []
with_part (part_is.Namespace ns) rows = with_row (key_is.Ns ns) (Some row_is.Ns) rows
with_part (part_is.Table table drawn own) rows = with_row (key_is.Table table) (table_row own) rows
with_part (part_is.Region region range status parents place) rows =
    with_row (key_is.Region region) (Some (row_is.Region range status parents)) rows
with_part part rows = rows

-- rows in key order, with what an entry does to them
abbrev pub with_entry : Entry → Rows → Rows
with_entry (entry_is.Step pid pick out) rows = with_edits out.edits rows
with_entry (entry_is.Undo pid row out) rows = with_edits out.edits rows
with_entry (entry_is.Base part) rows = with_part part rows
with_entry entry rows = rows

-- the rows of the catalog of a journal
abbrev pub rows_in : Past → Rows
rows_in J = rows_at (λ key. true) (cat J) (keys_of J)
