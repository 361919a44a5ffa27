-- That the steps of a failed tree are undone from the latest to the first: laws.
use Rattle.std.specs.Prelude.{◌≡◌, ◌≢◌, ℕ, List, [], ◌∷◌, ◌++◌, Option, None, true, ◌==◌, if◌then◌else◌, is_some}
use Rattle.hm_names.specs.Server.{Server}
use Rattle.hm_names.specs.declared.pid.Pid.{Pid}
use Rattle.hm_data.specs.declared.act.Back.{Back}
use Rattle.hm_data.specs.declared.act.Back.TheVariants as back_is
use Rattle.hm_data.specs.declared.catalog.Edit.{Edit}
use Rattle.hm_data.specs.declared.entry.Entry.TheVariants as entry_is
use Rattle.hm_data.specs.declared.step.StepOut.{StepOut}
use Rattle.hm_data.specs.declared.catalog.CatKey.{CatKey}
use Rattle.hm_model.specs.Answers.{failing}
use Rattle.hm_model.specs.Catalog.{Catalog, edited}
use Rattle.hm_model.specs.Journal.{Past}
use Rattle.hm_model.specs.Keys.{same_key}
use Rattle.hm_model.specs.Phase.{cause, root_ended}
use Rattle.hm_model.specs.Rules.{IsLegal}
use Rattle.hm_model.specs.Sheets.{undo_of_next}
use Rattle.hm_model.specs.Tree.{node_of, root_of}
use Rattle.hm_model.specs.Undo.{row_if_there}
use Rattle.hm_model.specs.Undoing.{turned_round, undo_edits}

-- that a step is taken back: whose it is, its row, and the edits that take it back
pub record Reversal : Type 0 where
  pub pid : ℕ
  pub row : ℕ
  pub edits : List Edit

-- a row with an undo has one reversal
abbrev pub if_undone : Back → Reversal → List Reversal
if_undone back_is.Nothing reversal = []
if_undone undo reversal = reversal ∷ []

-- what takes a step back that is undone so: nothing where it failed
abbrev pub reversal_of : Back → ℕ → ℕ → StepOut → List Reversal
reversal_of undo p row out =
    if is_some (failing out.answer) then [] else if_undone undo (record { pid = p; row = row; edits = undo_edits undo out.edits })

-- what takes back the steps of a root's tree, the latest first
abbrev pub to_undo : Past → ℕ → List Reversal
to_undo [] r = []
to_undo (entry_is.Step pid pick out ∷ before) r =
    if root_of before pid.0 == r then reversal_of (undo_of_next before pid.0 (node_of before pid.0)) pid.0 (row_if_there before pid.0 (node_of before pid.0)) out ++ to_undo before r else to_undo before r
to_undo (entry_is.Base part ∷ before) r = []
to_undo (entry ∷ before) r = to_undo before r

-- the undos of a root's tree, in the order in which they were recorded
abbrev pub undos_of : Past → ℕ → List Reversal
undos_of [] r = []
undos_of (entry_is.Undo pid row out ∷ before) r =
    if root_of before pid.0 == r then undos_of before r ++ record { pid = pid.0; row = row; edits = out.edits } ∷ [] else undos_of before r
undos_of (entry_is.Base part ∷ before) r = []
undos_of (entry ∷ before) r = undos_of before r

-- the undos of a tree take back its steps in turn, from the latest on
abbrev pub UndosGoBack : Type 0
UndosGoBack = (J : Past) → IsLegal J → (r : ℕ) → (left : List Reversal) × (to_undo J r ≡ undos_of J r ++ left)

-- a failed root that has ended has taken back all
abbrev pub AllIsUndone : Type 0
AllIsUndone = (J : Past) → IsLegal J → (r : ℕ) → cause J r ≢ None → root_ended J r ≡ true → to_undo J r ≡ undos_of J r

-- after an undo no procedure of the tree makes a step
abbrev pub UndosAreLast : Type 0
UndosAreLast =
    (pid : Pid) (pick : Option Server) (out : StepOut) (before : Past) → IsLegal (entry_is.Step pid pick out ∷ before)
    → undos_of before (root_of before pid.0) ≡ []

-- each edit tells what its key had
abbrev pub Tells : List Edit → Catalog → Type 0
Tells [] now = Unit {0}
Tells (edit ∷ edits) now =
    (edit.before ≡ now edit.key) × Tells edits (λ key. if same_key key edit.key then edit.after else now key)

-- edits that tell so, and after them these turned round, leave each row as it was
abbrev pub EditsGoBack : Type 0
EditsGoBack =
    (edits : List Edit) (now : Catalog) → Tells edits now → (key : CatKey)
    → edited (turned_round edits) key (edited edits key (now key)) ≡ now key
