-- The catalog of the deeds, one after another.
use Rattle.std.specs.Prelude.{ℕ, List, [], ◌∷◌, Option, Some, None, Ok, Err}
use Rattle.hm_data.specs.declared.answer.Answer.{Answer}
use Rattle.hm_data.specs.declared.answer.Answer.TheVariants as answer_is
use Rattle.hm_data.specs.declared.catalog.CatKey.{CatKey}
use Rattle.hm_data.specs.declared.catalog.Edit.{Edit}
use Rattle.hm_data.specs.declared.entry.Entry.TheVariants as entry_is
use Rattle.hm_model.specs.Catalog.{Catalog, edited, at_start, keys_of}
use Rattle.hm_model.specs.Deeds.{Deed, deed_of}
use Rattle.hm_model.specs.Journal.{Past}
use Rattle.hm_model.specs.Tree.{Node, node_of}
use Rattle.hm_model.specs.Parts.{part_row}

-- the edits of a deed, none where there is a cause against it
abbrev pub edits_in : Deed → List Edit
edits_in (Ok edits) = edits
edits_in (Err cause) = []

-- the deed, where the answer ends a procedure well
abbrev pub at_end : Answer → Deed → Deed
at_end (answer_is.Done told) whole = whole
at_end answer whole = Ok []

-- only a root has a deed
abbrev pub if_root : List ℕ → Deed → Deed
if_root [] whole = whole
if_root (up ∷ above) whole = Ok []

-- the deed that a step ends: that of a root that it ends well
abbrev pub ended_deed : Option Node → Answer → List CatKey → Catalog → Deed
ended_deed None answer keys there = Ok []
ended_deed (Some node) answer keys there = if_root node.above (at_end answer (deed_of node.args keys there))

-- the catalog after the deeds of the roots that ended well, in the order in which they ended
abbrev pub serial : Past → Catalog
serial [] key = at_start key
serial (entry_is.Step pid pick out ∷ before) key =
    edited (edits_in (ended_deed (node_of before pid.0) out.answer (keys_of before) (serial before))) key (serial before key)
serial (entry_is.Base part ∷ before) key = part_row part key (serial before key)
serial (entry ∷ before) key = serial before key
