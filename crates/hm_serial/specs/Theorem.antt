-- What holds of the catalog of every legal journal.
use Rattle.std.specs.Prelude.{◌≡◌, ◌≢◌, ℕ, List, [], ◌∷◌, Option, Some, None, true, false, ◌⊎◌, Ok}
use Rattle.hm_names.specs.Server.{Server}
use Rattle.hm_names.specs.declared.pid.Pid.{Pid}
use Rattle.hm_data.specs.declared.answer.Answer.TheVariants as answer_is
use Rattle.hm_data.specs.declared.call.Told.{Told}
use Rattle.hm_data.specs.declared.catalog.CatKey.{CatKey}
use Rattle.hm_data.specs.declared.catalog.Edit.{Edit}
use Rattle.hm_data.specs.declared.entry.Entry.{Entry}
use Rattle.hm_data.specs.declared.entry.Entry.TheVariants as entry_is
use Rattle.hm_data.specs.declared.step.StepOut.{StepOut}
use Rattle.hm_model.specs.GoingBack.{Tells}
use Rattle.hm_model.specs.Journal.{Past}
use Rattle.hm_model.specs.Tree.{Node, node_of}
use Rattle.hm_model.specs.TreeEdits.{TreeEdits}
use Rattle.hm_model.specs.Phase.{cause, root_ended}
use Rattle.hm_model.specs.Catalog.{cat, was, keys_of}
use Rattle.hm_model.specs.Reads.{covers, IsBusy}
use Rattle.hm_model.specs.Records.{unfinished}
use Rattle.hm_model.specs.Rules.{IsLegal}
use Rattle.hm_model.specs.Deeds.{deed_of}
use Rattle.hm_model.specs.Serial.{serial}

-- a key that isn't busy has the row that the deeds of the finished roots give it, one after another
abbrev pub CatalogIsSerial : Type 0
CatalogIsSerial = (J : Past) → IsLegal J → (key : CatKey) → (IsBusy J key → ⊥) → cat J key ≡ serial J key

-- where no root is unfinished, every key has that row
abbrev pub SettledCatalogIsSerial : Type 0
SettledCatalogIsSerial = (J : Past) → IsLegal J → unfinished J ≡ 0 → (key : CatKey) → cat J key ≡ serial J key

-- at the step that ends a root well, its deed is a list of edits, and no cause stands against it
abbrev pub DeedsApply : Type 0
DeedsApply =
    (pid : Pid) (pick : Option Server) (out : StepOut) (before : Past) → IsLegal (entry_is.Step pid pick out ∷ before)
    → (node : Node) → node_of before pid.0 ≡ Some node → node.above ≡ []
    → (told : Told) → out.answer ≡ answer_is.Done told
    → (edits : List Edit) × (deed_of node.args (keys_of before) (serial before) ≡ Ok edits)

-- what the steps and undos of a tree edit, its root covers
abbrev pub EditsAreCovered : Type 0
EditsAreCovered =
    (J : Past) → IsLegal J → (r : ℕ) (key : CatKey) → TreeEdits J r key
    → (node : Node) × (node_of J r ≡ Some node) × (covers node.args key ≡ true)

-- at the entry that ends a failed root, each key that its tree edited, and each that the root covers, has the row that
-- it had just before the root's first step
abbrev pub FailureLeavesAll : Type 0
FailureLeavesAll =
    (entry : Entry) (before : Past) → IsLegal (entry ∷ before)
    → (r : ℕ) (node : Node) → node_of (entry ∷ before) r ≡ Some node → node.above ≡ []
    → root_ended before r ≡ false → root_ended (entry ∷ before) r ≡ true → cause (entry ∷ before) r ≢ None
    → (key : CatKey) → TreeEdits (entry ∷ before) r key ⊎ (covers node.args key ≡ true)
    → cat (entry ∷ before) key ≡ was (entry ∷ before) r key

-- the edits of an undo tell the rows that they find
abbrev pub UndosTell : Type 0
UndosTell =
    (pid : Pid) (row : ℕ) (out : StepOut) (before : Past) → IsLegal (entry_is.Undo pid row out ∷ before)
    → Tells out.edits (cat before)
