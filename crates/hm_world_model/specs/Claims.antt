-- What is kept of those who are claimed, and of all that hold.
use Rattle.std.specs.Prelude.{◌≢◌, ℕ, List, [], ◌∷◌, None}
use Rattle.hm_model.specs.Holding.{NoneClash}
use Rattle.hm_model.specs.Journal.{Past}
use Rattle.hm_model.specs.Locks.{IsIn}
use Rattle.hm_model.specs.Tree.{node_of}

-- none stands twice in a list
abbrev pub AreOnce : List ℕ → Type 0
AreOnce [] = Unit {0}
AreOnce (p ∷ more) = (IsIn p more → ⊥) × AreOnce more

-- who is claimed is claimed once, and was taken; who was taken is there; and no two that hold, those who were taken too, conflict
pub record IsApart (J : Past) (taken claimed : List ℕ) : Type 0 where
  pub once : AreOnce claimed
  pub among : (p : ℕ) → IsIn p claimed → IsIn p taken
  pub there : (p : ℕ) → IsIn p taken → node_of J p ≢ None
  pub none_clash : NoneClash J taken
