-- The ids of the regions that procedures name are numbers from 1 on: laws.
use Rattle.std.specs.Prelude.{◌≡◌, ℕ, ◌<◌, ◌≤◌, ◌^◌, ◌∷◌, Some}
use Rattle.std.specs.List.{AllByRecursion}
use Rattle.hm_data.specs.declared.entry.Entry.{Entry}
use Rattle.hm_model.specs.Evaluation.{named_ids}
use Rattle.hm_model.specs.Journal.{Past}
use Rattle.hm_model.specs.Rules.{IsLegal}
use Rattle.hm_model.specs.Tree.{Node, node_of}
use Rattle.hm_model.specs.Views.{first_id_of}
use Rattle.hm_model.specs.RegionIds.{AreNamed, AsksForZero}

-- where submissions name regions by ids from 1 on, so does each procedure, and the first id that it draws or adds is
-- below 2^32
abbrev pub IdsAreNamed : Type 0
IdsAreNamed =
    (J : Past) → IsLegal J → AreNamed J → (p : ℕ) (node : Node) → node_of J p ≡ Some node
    → AllByRecursion (λ id. 1 ≤ id) (named_ids node.args) × (first_id_of node.args < 2 ^ 32)

-- there no entry that may follow asks for a transit of the region number 0
abbrev pub NoneAskForZero : Type 0
NoneAskForZero =
    (entry : Entry) (before : Past) → IsLegal (entry ∷ before) → AreNamed (entry ∷ before) → AsksForZero entry → ⊥
