-- What the tree of a root edited.
use Rattle.std.specs.Prelude.{◌≡◌, ℕ, List, [], ◌∷◌, ◌⊎◌}
use Rattle.hm_data.specs.declared.catalog.CatKey.{CatKey}
use Rattle.hm_data.specs.declared.catalog.Edit.{Edit}
use Rattle.hm_data.specs.declared.entry.Entry.TheVariants as entry_is
use Rattle.hm_model.specs.Journal.{Past}
use Rattle.hm_model.specs.Tree.{root_of}

-- one of the edits is of the key
abbrev pub HasKey : List Edit → CatKey → Type 0
HasKey [] key = ⊥
HasKey (edit ∷ edits) key = (edit.key ≡ key) ⊎ HasKey edits key

-- the tree of the root edited the key
abbrev pub TreeEdits : Past → ℕ → CatKey → Type 0
TreeEdits [] r key = ⊥
TreeEdits (entry_is.Step pid pick out ∷ before) r key =
    ((root_of before pid.0 ≡ r) × HasKey out.edits key) ⊎ TreeEdits before r key
TreeEdits (entry_is.Undo pid row out ∷ before) r key =
    ((root_of before pid.0 ≡ r) × HasKey out.edits key) ⊎ TreeEdits before r key
TreeEdits (entry_is.Base part ∷ before) r key = ⊥
TreeEdits (entry ∷ before) r key = TreeEdits before r key
