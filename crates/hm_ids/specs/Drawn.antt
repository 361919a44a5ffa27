-- The ids of the regions that have rows are drawn: a law.
use Rattle.std.specs.Prelude.{◌≢◌, ℕ, ◌≤◌, None}
use Rattle.hm_names.specs.declared.table.TableName.{TableName}
use Rattle.hm_model.specs.Catalog.{cat}
use Rattle.hm_model.specs.Changes.{region_key}
use Rattle.hm_model.specs.Journal.{Past}
use Rattle.hm_model.specs.Rules.{IsLegal}
use Rattle.hm_model.specs.Tree.{drawn}

-- a region's row has an id that its table has drawn: ids are drawn from 1 on
abbrev pub RegionIdsAreDrawn : Type 0
RegionIdsAreDrawn =
    (J : Past) → IsLegal J → (table : TableName) (id : ℕ) → cat J (region_key table id) ≢ None → (1 ≤ id) × (id ≤ drawn J table)
