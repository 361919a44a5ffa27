-- Who is enlisted in a lock book, and who holds what another asks for.
use Rattle.std.specs.Prelude.{◌≡◌, ◌≢◌, ◌↔◌, ℕ, ◌≤◌, List, [], ◌∷◌, AllPairs, Contains, Option, Some, None, Bool, true, false, ◌==◌, if◌then◌else◌, IsSome}
use Rattle.hm_names.specs.declared.pid.Pid.{Pid}
use Rattle.hm_model.specs.declared.lock.Ask.{Ask}
use Rattle.hm_model.specs.Locks.{IsIn, Clash}

-- a procedure that is enlisted: its ancestors from its parent up, what it asks for, and whether it holds that
pub record Row : Type 0 where
  pub pid : ℕ
  pub above : List ℕ
  pub asks : List Ask
  pub holds : Bool

-- the rows, one for each procedure that is enlisted; for how many rows more there is room, and for how many asks more of
-- all of them; and how much memory there is
pub record Book : Type 0 where
  pub rows : List Row
  pub spare : ℕ
  pub spare_asks : ℕ
  pub room : ℕ

-- what will be enlisted of a procedure: its ancestors from its parent up, and what it asks for
pub record DraftView : Type 0 where
  pub above : List ℕ
  pub asks : List Ask

-- the row of a procedure
abbrev pub row_of : List Row → ℕ → Option Row
row_of [] p = None
row_of (row ∷ more) p = if row.pid == p then Some row else row_of more p

-- a procedure is enlisted
abbrev pub IsEnlisted : List Row → ℕ → Type 0
IsEnlisted rows p = IsSome (row_of rows p)

-- the ancestors that a row tells
abbrev pub above_in : Option Row → List ℕ
above_in None = []
above_in (Some row) = row.above

-- what a row asks for
abbrev pub asks_in : Option Row → List Ask
asks_in None = []
asks_in (Some row) = row.asks

-- the ancestors of a child of this parent
abbrev pub above_child : List Row → Option Pid → List ℕ
above_child rows None = []
above_child rows (Some parent) = parent.0 ∷ above_in (row_of rows parent.0)

-- a row as it is new: it holds nothing
abbrev pub new_row : List Row → ℕ → Option Pid → List Ask → Row
new_row rows pid parent asks = record { pid = pid; above = above_child rows parent; asks = asks; holds = false }

-- the row of a draft: it holds nothing
abbrev pub drafted : ℕ → DraftView → Row
drafted pid draft = record { pid = pid; above = draft.above; asks = draft.asks; holds = false }

-- a row that holds, or doesn't
abbrev pub holding : Bool → Row → Row
holding holds row = record row { holds = holds }

-- whether a row is there and holds
abbrev pub is_holding : Option Row → Bool
is_holding None = false
is_holding (Some row) = row.holds

-- two procedures, of which neither is the other or an ancestor of it, ask for what clashes
abbrev pub RowsClash : Row → Row → Type 0
RowsClash one other =
    (one.pid ≢ other.pid) × (IsIn one.pid other.above → ⊥) × (IsIn other.pid one.above → ⊥) × Clash one.asks other.asks

-- the other holds what clashes with what this one asks for
abbrev pub Blocks : Option Row → Option Row → Type 0
Blocks None other = ⊥
Blocks (Some own) None = ⊥
Blocks (Some own) (Some other) = (other.holds ≡ true) × RowsClash own other

-- q holds what clashes with what p asks for
abbrev pub IsBlockedBy : List Row → ℕ → ℕ → Type 0
IsBlockedBy rows p q = Blocks (row_of rows p) (row_of rows q)

-- nobody holds what clashes with what p asks for
abbrev pub IsFree : List Row → ℕ → Type 0
IsFree rows p = (q : ℕ) → IsBlockedBy rows p q → ⊥

-- h is the lowest that holds what clashes with what p asks for
abbrev pub IsFirst : List Row → ℕ → ℕ → Type 0
IsFirst rows p h = IsBlockedBy rows p h × ((q : ℕ) → IsBlockedBy rows p q → h ≤ q)

-- no two that hold clash
abbrev pub NoneClash : List Row → Type 0
NoneClash rows = (p q : ℕ) → is_holding (row_of rows p) ≡ true → IsBlockedBy rows p q → ⊥

-- the procedures that hold, each once
pub record AreHolders (rows : List Row) (pids : List Pid) : Type 0 where
  pub once : AllPairs (λ p q. p ≢ q) pids
  pub hold : (p : Pid) → Contains pids p ↔ (is_holding (row_of rows p.0) ≡ true)

-- the rows with those of one procedure changed
abbrev pub AreChanged : List Row → ℕ → Option Row → List Row → Type 0
AreChanged old p row new = (q : ℕ) → row_of new q ≡ (if p == q then row else row_of old q)
