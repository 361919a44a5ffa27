-- Who is taken: each was free when it was taken.
use Rattle.std.specs.Prelude.{◌≢◌, ℕ, List, [], ◌∷◌, None, ◌⊎◌}
use Rattle.hm_data.specs.declared.entry.Entry.{Entry}
use Rattle.hm_data.specs.declared.entry.Entry.TheVariants as entry_is
use Rattle.hm_model.specs.Holding.{IsFree, NoneClash}
use Rattle.hm_model.specs.Journal.{Past}
use Rattle.hm_model.specs.Locks.{IsIn}
use Rattle.hm_model.specs.Rules.{Allowed, IsLegal}
use Rattle.hm_model.specs.Tree.{node_of}

-- a step is that of one who was taken, or who is free; other entries are of nobody
abbrev pub StepsFree : Past → List ℕ → Entry → Type 0
StepsFree before taken (entry_is.Step pid pick out) = IsIn pid.0 taken ⊎ IsFree before taken pid.0
StepsFree before taken entry = Unit {0}

-- a journal, and those who are taken: one was taken that was there and free, an allowed entry was recorded, or some
-- were let go
pub data IsTaken : Past → List ℕ → Type 0 where
  nobody : IsTaken [] []
  takes : {before : Past} {taken : List ℕ} (p : ℕ) → IsTaken before taken → node_of before p ≢ None → IsFree before taken p → IsTaken before (p ∷ taken)
  records : {before : Past} {taken : List ℕ} (entry : Entry) → IsTaken before taken → Allowed before entry → StepsFree before taken entry → IsTaken (entry ∷ before) taken
  lets_go : {before : Past} {taken : List ℕ} (left : List ℕ) → IsTaken before taken → ((p : ℕ) → IsIn p left → IsIn p taken) → IsTaken before left

-- no two procedures that have a step, or are taken, and haven't ended conflict
abbrev pub NoneConflict : Type 0
NoneConflict = (J : Past) (taken : List ℕ) → IsTaken J taken → NoneClash J taken

-- where nobody is taken it is so in every legal journal
abbrev pub NoneOfLegalConflict : Type 0
NoneOfLegalConflict = (J : Past) → IsLegal J → NoneClash J []
