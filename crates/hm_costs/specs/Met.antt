-- That each kind of root costs no more than some root of the kind takes.
use Rattle.std.specs.Prelude.{◌≡◌, ℕ, List, [], ◌∷◌, Some, true}
use Rattle.hm_model.specs.Costs.{cost}
use Rattle.hm_model.specs.Entries.{entries_of, IsQuiet}
use Rattle.hm_model.specs.Journal.{Past}
use Rattle.hm_model.specs.Kinds.{kind_of}
use Rattle.hm_model.specs.Phase.{root_ended}
use Rattle.hm_model.specs.Rules.{IsLegal}
use Rattle.hm_model.specs.Tree.{Node, node_of}

-- a root of this kind, which nothing disturbed, has ended and took so many entries, and just so many it costs
abbrev pub IsMet : Past → ℕ → ℕ → ℕ → Type 0
IsMet J r kind entries =
    (node : Node) × (node_of J r ≡ Some node) × (node.above ≡ []) × (kind_of node.args ≡ kind) × IsQuiet J r
    × (root_ended J r ≡ true) × (entries_of J r ≡ entries) × (cost J r node.args ≡ entries)

-- each is the kind of a root of some legal journal that takes so many entries and costs so many
abbrev pub AllMet : List (ℕ × ℕ) → Type 0
AllMet [] = Unit {0}
AllMet ((kind, entries) ∷ more) = ((J : Past) × IsLegal J × (r : ℕ) × IsMet J r kind entries) × AllMet more

-- roots of each kind of request, where tables have one region, and two and three where they are merged; a crash of one
-- region; a transit and a sweep that an undo made; and a table that is made, enabled and disabled, and a crash, with two
-- regions
abbrev pub CostsAreMet : Type 0
CostsAreMet =
    AllMet ((1, 3) ∷ (2, 3) ∷ (3, 18) ∷ (4, 5) ∷ (5, 11) ∷ (6, 10) ∷ (7, 3) ∷ (8, 27) ∷ (9, 26) ∷ (10, 13) ∷ (11, 13) ∷ (10, 7) ∷ (27, 4)
    ∷ (3, 24) ∷ (5, 17) ∷ (6, 15) ∷ (11, 19) ∷ (9, 31) ∷ [])
