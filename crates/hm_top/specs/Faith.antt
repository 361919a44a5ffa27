-- What holds of each journal that a run leaves or has passed.
use Rattle.std.specs.Prelude.{◌≡◌, ◌≢◌, ◌⊎◌, ℕ, List, [], ◌∷◌, ◌++◌, Option, Some, None, true, false, Ok}
use Rattle.hm_names.specs.Server.{Server}
use Rattle.hm_names.specs.declared.pid.Pid.{Pid}
use Rattle.hm_names.specs.declared.table.TableName.{TableName}
use Rattle.hm_data.specs.declared.answer.Answer.TheVariants as answer_is
use Rattle.hm_data.specs.declared.call.Told.{Told}
use Rattle.hm_data.specs.declared.catalog.CatKey.{CatKey}
use Rattle.hm_data.specs.declared.catalog.CatKey.TheVariants as key_is
use Rattle.hm_data.specs.declared.catalog.Edit.{Edit}
use Rattle.hm_data.specs.declared.entry.Entry.{Entry}
use Rattle.hm_data.specs.declared.entry.Entry.TheVariants as entry_is
use Rattle.hm_data.specs.declared.step.StepOut.{StepOut}
use Rattle.hm_model.specs.Base.{HasNoHalfBase}
use Rattle.hm_model.specs.Catalog.{cat, keys_of, was}
use Rattle.hm_model.specs.Journal.{Past}
use Rattle.hm_model.specs.Holding.{NoneClash}
use Rattle.hm_model.specs.Reads.{IsBusy, covers}
use Rattle.hm_model.specs.Nonces.{NoncesActOnce}
use Rattle.hm_model.specs.Phase.{cause, root_ended}
use Rattle.hm_model.specs.Ranges.{IsBare, IsCovered, NoneOverlap}
use Rattle.hm_model.specs.Rules.{IsLegal}
use Rattle.hm_model.specs.Deeds.{deed_of}
use Rattle.hm_model.specs.Serial.{serial}
use Rattle.hm_model.specs.Single.{Single}
use Rattle.hm_model.specs.Tree.{Node, node_of}
use Rattle.hm_model.specs.TreeEdits.{TreeEdits}

-- at each step among these that ended a root well, its deed was a list of edits, and no cause stood against it
abbrev pub DeedsApplied : Past → Type 0
DeedsApplied before =
    (newer older : Past) (pid : Pid) (pick : Option Server) (out : StepOut) → before ≡ newer ++ entry_is.Step pid pick out ∷ older
    → (node : Node) → node_of older pid.0 ≡ Some node → node.above ≡ []
    → (told : Told) → out.answer ≡ answer_is.Done told
    → (edits : List Edit) × (deed_of node.args (keys_of older) (serial older) ≡ Ok edits)

-- where an entry among these ended a failed root, each key that its tree edited or it covers had the row of before its first step
abbrev pub FailuresLeftAll : Past → Type 0
FailuresLeftAll before =
    (newer older : Past) (entry : Entry) → before ≡ newer ++ entry ∷ older
    → (r : ℕ) (node : Node) → node_of (entry ∷ older) r ≡ Some node → node.above ≡ []
    → root_ended older r ≡ false → root_ended (entry ∷ older) r ≡ true → cause (entry ∷ older) r ≢ None
    → (key : CatKey) → TreeEdits (entry ∷ older) r key ⊎ (covers node.args key ≡ true)
    → cat (entry ∷ older) key ≡ was (entry ∷ older) r key

-- live regions of one table never overlap
abbrev pub RegionsApart : Past → Type 0
RegionsApart before = (table : TableName) → NoneOverlap (cat before) table

-- each key lies in a live region of each table that has a row that isn't busy
abbrev pub RegionsCover : Past → Type 0
RegionsCover before =
    (table : TableName) → (IsBusy before (key_is.Table table) → ⊥) → cat before (key_is.Table table) ≢ None → IsCovered (cat before) table

-- a table without a row, whose key isn't busy, has no region's row
abbrev pub MissingAreBare : Past → Type 0
MissingAreBare before =
    (table : TableName) → (IsBusy before (key_is.Table table) → ⊥) → cat before (key_is.Table table) ≡ None → IsBare (cat before) table

-- what a journal keeps to of deeds: what isn't busy is as the deeds of roots leave it, one after another; each that counts is a list of edits; and a failure leaves all
pub record KeepsDeeds (before : Past) : Type 0 where
  pub serial_is : (key : CatKey) → (IsBusy before key → ⊥) → cat before key ≡ serial before key
  pub deeds : DeedsApplied before
  pub failures : FailuresLeftAll before

-- what it keeps to of ranges: live regions of one table never overlap; of a table that isn't busy they cover every key, or there is none where there is no such table
pub record KeepsRanges (before : Past) : Type 0 where
  pub apart : RegionsApart before
  pub covered : RegionsCover before
  pub bare : MissingAreBare before

-- what each journal keeps to, in which each entry may follow those before it, and which doesn't end within its base
pub record KeepsFaith (before : Past) : Type 0 where
  pub legal : IsLegal before
  pub begun : HasNoHalfBase before
  pub catalog : KeepsDeeds before
  pub ranges : KeepsRanges before
  -- a nonce acts once
  pub nonces : NoncesActOnce before
  -- no two holders conflict
  pub locks : NoneClash before []
  -- no region is assigned while another opening of it, or of one whose range overlaps its own, may still stand
  pub single : Single before
