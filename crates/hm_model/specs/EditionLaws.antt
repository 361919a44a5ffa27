-- What legal journals keep of the sheets that were adopted.
use Rattle.std.specs.Prelude.{◌≡◌, ◌<◌, ◌≤◌, ℕ, ◌∷◌, Option, true}
use Rattle.hm_names.specs.Server.{Server}
use Rattle.hm_data.specs.declared.entry.Entry.{Entry}
use Rattle.hm_model.specs.Base.{AreSheets, IsBegun}
use Rattle.hm_model.specs.Editions.{edition_of, editions, sheets_in}
use Rattle.hm_model.specs.Inputs.{input}
use Rattle.hm_model.specs.Journal.{Past}
use Rattle.hm_model.specs.Records.{record_at}
use Rattle.hm_model.specs.Rules.{IsLegal}
use Rattle.hm_model.specs.Sheets.{sheets_by, sheets_of}
use Rattle.hm_model.specs.Tree.{Node, is_root, made}

-- a root is made in the edition that is in force
abbrev pub RootsAreMadeInForce : Type 0
RootsAreMadeInForce =
    (entry : Entry) (before : Past) → IsLegal (entry ∷ before) → (root : ℕ) → made before < root → is_root (entry ∷ before) root ≡ true
    → (sheets_by (entry ∷ before) root ≡ sheets_of before) × (edition_of (entry ∷ before) root ≡ editions before)

-- an entry leaves alone the sheets and the edition of each root that was made before it
abbrev pub EditionsStay : Type 0
EditionsStay =
    (entry : Entry) (before : Past) → IsLegal (entry ∷ before) → (root : ℕ) → root ≤ made before
    → (sheets_by (entry ∷ before) root ≡ sheets_by before root) × (edition_of (entry ∷ before) root ≡ edition_of before root)

-- what is shown of a procedure, and what its next step sees, has the edition of its root
abbrev pub TreesHaveOneEdition : Type 0
TreesHaveOneEdition =
    (J : Past) (p : ℕ) (node : Node) (pick : Option Server)
    → (let shown = record_at J p node in shown.edition ≡ edition_of J node.root) × (let seen = input J p node pick in seen.edition ≡ edition_of J node.root)

-- the sheets of a root are those of its edition, which is one of the journal's; rule 1 allows them
abbrev pub RootsHaveEditions : Type 0
RootsHaveEditions =
    (J : Past) → IsLegal J → (root : ℕ) → is_root J root ≡ true
    → (edition_of J root ≤ editions J) × (sheets_by J root ≡ sheets_in J (edition_of J root)) × AreSheets (sheets_by J root)

-- so are the sheets of each edition, once the journal has begun
abbrev pub EditionsAreSheets : Type 0
EditionsAreSheets = (J : Past) → IsLegal J → IsBegun J → (edition : ℕ) → edition ≤ editions J → AreSheets (sheets_in J edition)

-- which stay as they are
abbrev pub SheetsStay : Type 0
SheetsStay =
    (entry : Entry) (before : Past) → IsLegal (entry ∷ before) → IsBegun before → (edition : ℕ) → edition ≤ editions before
    → sheets_in (entry ∷ before) edition ≡ sheets_in before edition

-- the sheets in force are those of the last edition
abbrev pub LastIsInForce : Type 0
LastIsInForce = (J : Past) → sheets_in J (editions J) ≡ sheets_of J
