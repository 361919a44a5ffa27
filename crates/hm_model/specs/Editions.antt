-- How often sheets were adopted: the editions of a journal, that of each root, and the sheets of each edition.
use Rattle.std.specs.Prelude.{ℕ, ◌+◌, List, [], ◌∷◌, ◌==◌, if◌then◌else◌, nat_lt}
use Rattle.hm_data.specs.declared.entry.Entry.TheVariants as entry_is
use Rattle.hm_data.specs.declared.sheet.Sheet.{Sheet}
use Rattle.hm_model.specs.Journal.{Past}
use Rattle.hm_model.specs.Sheets.{sheets_of}
use Rattle.hm_model.specs.Tree.{made}

-- the edition in force: how often sheets were adopted, since the base where the journal has one
abbrev pub editions : Past → ℕ
editions [] = 0
editions (entry_is.Adopt sheets ∷ before) = editions before + 1
editions (entry_is.Base part ∷ before) = 0
editions (entry ∷ before) = editions before

-- the edition of a root: the one that was in force when it was made
abbrev pub edition_of : Past → ℕ → ℕ
edition_of [] root = 0
edition_of (entry_is.Submit nonce request ∷ before) root =
    if root == made before + 1 then editions before else edition_of before root
edition_of (entry_is.Undo pid row out ∷ before) root = if nat_lt (made before) root then editions before else edition_of before root
edition_of (entry_is.Down server ∷ before) root = if root == made before + 1 then editions before else edition_of before root
edition_of (entry_is.Base part ∷ before) root = 0
edition_of (entry ∷ before) root = edition_of before root

-- the sheets of an edition: of edition 0 those that the journal began with, of each other those that were adopted
abbrev pub sheets_in : Past → ℕ → List Sheet
sheets_in [] edition = []
sheets_in (entry_is.Start sheets ∷ before) edition = sheets
sheets_in (entry_is.Adopt sheets ∷ before) edition = if edition == editions before + 1 then sheets else sheets_in before edition
sheets_in (entry_is.Base part ∷ before) edition = sheets_of (entry_is.Base part ∷ before)
sheets_in (entry ∷ before) edition = sheets_in before edition
