-- The keys of a journal, the rows that are read of its catalog, and the rows of sheets that procedures are at: laws.
use Rattle.std.specs.Prelude.{List, None, [], true, ℕ, ◌<◌, ◌∷◌, ◌≡◌, ◌≢◌}
use Rattle.std.specs.declared.cmp.Ordering.TheVariants.{Less}
use Rattle.hm_data.specs.Keys.{key_cmp}
use Rattle.hm_data.specs.declared.args.Args.{Args}
use Rattle.hm_data.specs.declared.catalog.CatKey.{CatKey}
use Rattle.hm_model.specs.Answers.{row_of}
use Rattle.hm_model.specs.Catalog.{cat, keys_of, row_at}
use Rattle.hm_model.specs.Inputs.{rows_read}
use Rattle.hm_model.specs.Journal.{Past}
use Rattle.hm_model.specs.Locks.{IsIn}
use Rattle.hm_model.specs.Reads.{reads}
use Rattle.hm_model.specs.Rules.{IsLegal}
use Rattle.hm_model.specs.Tree.{Node}

-- each of the keys comes after this one
abbrev pub AllBehind : CatKey → List CatKey → Type 0
AllBehind key [] = Unit {0}
AllBehind key (first ∷ more) = (key_cmp key first ≡ Less) × AllBehind key more

-- each key comes after those before it
abbrev pub AreInOrder : List CatKey → Type 0
AreInOrder [] = Unit {0}
AreInOrder (key ∷ keys) = AllBehind key keys × AreInOrder keys

-- a step reads of a row that it asks for what the catalog has
abbrev pub RowsAreRead : Type 0
RowsAreRead = (J : Past) (args : Args) (key : CatKey) → reads args key ≡ true → row_at (rows_read J args) key ≡ cat J key

-- the keys of a journal are in order, and a key that has a row is one
abbrev pub KeysAreListed : Type 0
KeysAreListed = (J : Past) → AreInOrder (keys_of J) × ((key : CatKey) → cat J key ≢ None → IsIn key (keys_of J))

-- the rows read are the same where each row that is asked for is the same, whatever else the catalogs have
abbrev pub RowsReadAlike : Type 0
RowsReadAlike =
    (J J' : Past) (args : Args) → ((key : CatKey) → reads args key ≡ true → cat J key ≡ cat J' key)
    → rows_read J args ≡ rows_read J' args

-- the row that a procedure is at is a byte
abbrev pub RowsFit : Type 0
RowsFit = (J : Past) → IsLegal J → (p : ℕ) (node : Node) → row_of J p node < 256
