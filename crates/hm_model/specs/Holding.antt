-- What procedures hold, those that were taken too, and who stands in whose way.
use Rattle.std.specs.Prelude.{◌≡◌, ◌≢◌, ℕ, List, None, false, ◌⊎◌}
use Rattle.hm_model.specs.Answers.{last_answer}
use Rattle.hm_model.specs.Journal.{Past}
use Rattle.hm_model.specs.Locks.{IsIn, Conflict}
use Rattle.hm_model.specs.Phase.{ended}
use Rattle.hm_model.specs.Tree.{node_of}

-- it hasn't ended, and has a step or is among those that were taken: it holds what it asks for
abbrev pub HoldsWith : Past → List ℕ → ℕ → Type 0
HoldsWith before taken p =
    (node_of before p ≢ None) × (ended before p ≡ false) × ((last_answer before p ≢ None) ⊎ IsIn p taken)

-- two different procedures conflict
abbrev pub InConflict : Past → ℕ → ℕ → Type 0
InConflict before p q = (p ≢ q) × Conflict before p q

-- a procedure conflicts with none that holds
abbrev pub IsFree : Past → List ℕ → ℕ → Type 0
IsFree before taken p = (q : ℕ) → HoldsWith before taken q → InConflict before p q → ⊥

-- no two that hold conflict
abbrev pub NoneClash : Past → List ℕ → Type 0
NoneClash before taken =
    (p q : ℕ) → HoldsWith before taken p → HoldsWith before taken q → InConflict before p q → ⊥
