-- The catalog of a journal.
use Rattle.std.specs.Prelude.{ℕ, List, [], ◌∷◌, codes, Option, Some, None, Bool, true, false, ◌==◌, ◌&&◌, ◌||◌, if◌then◌else◌, is_none}
use Rattle.std.specs.Str.{bytes_eq}
use Rattle.std.specs.declared.cmp.Ordering.{Ordering}
use Rattle.std.specs.declared.cmp.Ordering.TheVariants.{Less, Equal, Greater}
use Rattle.hm_data.specs.Keys.{key_cmp}
use Rattle.hm_data.specs.declared.catalog.CatKey.{CatKey}
use Rattle.hm_data.specs.declared.catalog.CatKey.TheVariants as key_is
use Rattle.hm_data.specs.declared.catalog.CatRow.{CatRow}
use Rattle.hm_data.specs.declared.catalog.CatRow.TheVariants as row_is
use Rattle.hm_data.specs.declared.catalog.Edit.{Edit}
use Rattle.hm_data.specs.declared.entry.Entry.TheVariants as entry_is
use Rattle.hm_model.specs.Journal.{Past}
use Rattle.hm_model.specs.Keys.{same_key}
use Rattle.hm_model.specs.Answers.{last_answer}
use Rattle.hm_data.specs.declared.part.Part.{Part}
use Rattle.hm_model.specs.Parts.{part_key, part_row}

-- the row of each key
abbrev pub Catalog : Type 0
Catalog = CatKey → Option CatRow

-- the row of a key after edits, in order: that of the last edit of the key, else the row before
abbrev pub edited : List Edit → CatKey → Option CatRow → Option CatRow
edited [] key row = row
edited (edit ∷ edits) key row = edited edits key (if same_key key edit.key then edit.after else row)

-- a row of the catalog set, told with the row that was there
abbrev pub set_to : Catalog → CatKey → Option CatRow → Edit
set_to there key after = record { key = key; before = there key; after = after }

-- the namespaces `default` and `hbase` are there from the start
abbrev pub at_start : Catalog
at_start (key_is.Ns ns) = if bytes_eq ns (codes "default") || bytes_eq ns (codes "hbase") then Some row_is.Ns else None
at_start key = None

-- the row of each key: what the last edit left, and before any what is there from the start
abbrev pub cat : Past → Catalog
cat [] key = at_start key
cat (entry_is.Step pid pick out ∷ before) key = edited out.edits key (cat before key)
cat (entry_is.Undo pid row out ∷ before) key = edited out.edits key (cat before key)
cat (entry_is.Base part ∷ before) key = part_row part key (cat before key)
cat (entry ∷ before) key = cat before key

-- the catalog just before the first step of a procedure, that of the start where it has none
abbrev pub was : Past → ℕ → Catalog
was [] p = at_start
was (entry_is.Step pid pick out ∷ before) p =
    if (p == pid.0) && is_none (last_answer before pid.0) then cat before else was before p
was (entry_is.Base part ∷ before) p = cat (entry_is.Base part ∷ before)
was (entry ∷ before) p = was before p

-- a key beside the first of some keys in key order, by how they compare, and what the rest of them is with it
abbrev pub with_key_at : Ordering → CatKey → CatKey → List CatKey → List CatKey → List CatKey
with_key_at Less key first more rest = key ∷ first ∷ more
with_key_at Equal key first more rest = first ∷ more
with_key_at Greater key first more rest = first ∷ rest

-- keys in key order, with one more
abbrev pub with_key : CatKey → List CatKey → List CatKey
with_key key [] = key ∷ []
with_key key (first ∷ more) = with_key_at (key_cmp key first) key first more (with_key key more)

-- keys in key order, with those of edits
abbrev pub with_keys : List Edit → List CatKey → List CatKey
with_keys [] keys = keys
with_keys (edit ∷ edits) keys = with_keys edits (with_key edit.key keys)

-- keys in key order, with that of a part
abbrev pub part_keys : Part → List CatKey → List CatKey
part_keys part keys = elim (part_key part) as (λ k. List CatKey) [ None ↦ keys | Some key ↦ with_key key keys ]

-- the keys that were there at the start or were ever edited, in key order
abbrev pub keys_of : Past → List CatKey
keys_of [] = key_is.Ns (codes "default") ∷ key_is.Ns (codes "hbase") ∷ []
keys_of (entry_is.Step pid pick out ∷ before) = with_keys out.edits (keys_of before)
keys_of (entry_is.Undo pid row out ∷ before) = with_keys out.edits (keys_of before)
keys_of (entry_is.Base part ∷ before) = part_keys part (keys_of before)
keys_of (entry ∷ before) = keys_of before

-- one row more in front, if it is asked for and there
abbrev pub keep : Bool → CatKey → Option CatRow → List (CatKey × CatRow) → List (CatKey × CatRow)
keep false key row more = more
keep true key None more = more
keep true key (Some row) more = (key, row) ∷ more

-- the rows that are asked for and there, in the order of the keys
abbrev pub rows_at : (CatKey → Bool) → Catalog → List CatKey → List (CatKey × CatRow)
rows_at asked there [] = []
rows_at asked there (key ∷ keys) = keep (asked key) key (there key) (rows_at asked there keys)

-- the row of a key among rows
abbrev pub row_at : List (CatKey × CatRow) → CatKey → Option CatRow
row_at [] key = None
row_at ((first, row) ∷ more) key = if same_key key first then Some row else row_at more key
