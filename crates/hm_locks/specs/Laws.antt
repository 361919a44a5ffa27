-- How a lock book stands to a journal.
use Rattle.std.specs.Prelude.{◌≡◌, ℕ, List, Some, true, ◌↔◌}
use Rattle.hm_model.specs.Holding.{HoldsWith, InConflict, IsFree as IsFreeIn}
use Rattle.hm_model.specs.Journal.{Past}
use Rattle.hm_model.specs.Locks.{asks}
use Rattle.hm_model.specs.Tree.{Node, node_of}
use Rattle.hm_locks.specs.Book.{Row, RowsClash, IsEnlisted, IsFree, is_holding, row_of}

-- a row says what the journal says of its procedure
abbrev pub IsRowOf : Past → Row → Type 0
IsRowOf before row =
    (node : Node) × (node_of before row.pid ≡ Some node) × (row.above ≡ node.above) × (row.asks ≡ asks node.args)

-- two rows that say what the journal says clash exactly where their procedures conflict
abbrev pub ClashIsConflict : Type 0
ClashIsConflict =
    (before : Past) (one other : Row) → IsRowOf before one → IsRowOf before other
    → RowsClash one other ↔ InConflict before one.pid other.pid

-- the rows say what the journal says, and those hold that hold in the journal with those that were taken
pub record IsBookOf (before : Past) (taken : List ℕ) (rows : List Row) : Type 0 where
  pub says : (p : ℕ) (row : Row) → row_of rows p ≡ Some row → IsRowOf before row
  pub holds : (p : ℕ) → is_holding (row_of rows p) ≡ true → HoldsWith before taken p
  pub held : (p : ℕ) → HoldsWith before taken p → is_holding (row_of rows p) ≡ true

-- in such a book a procedure is free exactly where it conflicts with none that holds
abbrev pub FreeIsFree : Type 0
FreeIsFree =
    (before : Past) (taken : List ℕ) (rows : List Row) (p : ℕ) → IsBookOf before taken rows → IsEnlisted rows p
    → IsFree rows p ↔ IsFreeIn before taken p
