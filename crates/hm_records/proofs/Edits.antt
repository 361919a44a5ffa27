-- The edits of an entry, one by one.
use Rattle.std.proofs.Common.{◌≡◌, ◌≢◌, List, [], ◌∷◌, ◌++◌, refl}
use Rattle.hm_data.specs.declared.catalog.Edit.{Edit}
use Rattle.hm_data.specs.declared.entry.Entry.{Entry}
use Rattle.hm_data.specs.declared.entry.Entry.TheVariants as entry_is
use Rattle.hm_data.specs.declared.part.Part.{Part}
use Rattle.hm_data.specs.declared.part.Part.TheVariants as part_is
use Rattle.hm_model.specs.Base.{PartFits}
use Rattle.hm_model.specs.Journal.{Past}
use Rattle.hm_model.specs.RowsSaid.{Rows}
use Rattle.hm_model.specs.Rules.{IsLegal}
use Rattle.hm_catalog.specs.Rows.{with_edits, with_entry, with_part, with_row}
use Rattle.hm_records.specs.Parts.{edits_of}

-- one more
pub edits_more : (edits : List Edit) (edit : Edit) (rows : Rows) → with_edits (edits ++ edit ∷ []) rows ≡ with_row edit.key edit.after (with_edits edits rows)
edits_more [] edit rows = refl
edits_more (first ∷ edits) edit rows = edits_more edits edit (with_row first.key first.after rows)

-- they do what the entry does
part_edited : (part : Part) (J : Past) → PartFits part J → J ≢ [] → (rows : Rows) → with_edits (edits_of (entry_is.Base part)) rows ≡ with_part part rows
part_edited (part_is.Head entries last parts sheets) J fits begun rows = absurd (begun fits.0)
part_edited (part_is.Namespace ns) J fits begun rows = refl
part_edited (part_is.Table table drawn own) J fits begun rows = refl
part_edited (part_is.Region region range status parents place) J fits begun rows = refl
part_edited part J fits begun rows = refl

pub edited : (entry : Entry) (J : Past) → IsLegal (entry ∷ J) → J ≢ [] → (rows : Rows) → with_edits (edits_of entry) rows ≡ with_entry entry rows
edited (entry_is.Step pid pick out) J legal begun rows = refl
edited (entry_is.Undo pid row out) J legal begun rows = refl
edited (entry_is.Base part) J legal begun rows = part_edited part J legal.1.0 begun rows
edited entry J legal begun rows = refl
