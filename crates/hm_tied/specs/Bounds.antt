-- What keeps procedures from going on beside the journal: where the regions of a table may be placed, and whose timer is set.
use Rattle.std.specs.Prelude.{◌≡◌, ℕ, List, [], Option, Some, None, Bool, true, false, ◌⊎◌}
use Rattle.hm_names.specs.Region.{Region}
use Rattle.hm_names.specs.Server.{Server}
use Rattle.hm_names.specs.declared.table.TableName.{TableName}
use Rattle.hm_data.specs.declared.args.Args.{Args}
use Rattle.hm_model.specs.Holding.{IsFree}
use Rattle.hm_model.specs.Journal.{Past}
use Rattle.hm_model.specs.Locks.{IsIn}
use Rattle.hm_model.specs.Picks.{needs_server, pick_fits}
use Rattle.hm_model.specs.Rest.{IsReady, MayUndo}
use Rattle.hm_model.specs.Tree.{Node, node_of}
use Rattle.hm_model.specs.Whereabouts.{moved_by}

-- whether the regions of a table may be placed at a server, and whether a procedure waits for its timer
pub record Bounds : Type 0 where
  pub may : TableName → Server → Bool
  pub waits : ℕ → Bool

-- nothing is bounded: no table has a group, no server is drained, and no timer is set
abbrev pub free : Bounds
free = record { may = λ table server. true; waits = λ p. false }

-- the same by what it tells: every server is allowed, and nobody waits
abbrev pub IsUnbounded : Bounds → Type 0
IsUnbounded bounds = ((table : TableName) (server : Server) → bounds.may table server ≡ true) × ((p : ℕ) → bounds.waits p ≡ false)

-- whether a region, if there is one, may be placed at a server
abbrev pub allows_in : Bounds → Option Region → Server → Bool
allows_in bounds None server = true
allows_in bounds (Some region) server = bounds.may region.table server

-- whether the region that a procedure moves, if it moves one, may be placed there
abbrev pub allows : Bounds → Args → Server → Bool
allows bounds args server = allows_in bounds (moved_by args) server

-- a server fits as the pick of a procedure's next step, and is allowed
abbrev pub Fits : Bounds → Past → ℕ → Node → Server → Type 0
Fits bounds before p node server = (allows bounds node.args server ≡ true) × (pick_fits before p node server ≡ true)

-- where its next step needs a server to be picked, one is there
abbrev pub HasPick : Bounds → Past → ℕ → Node → Type 0
HasPick bounds before p node = needs_server before p node ≡ true → (server : Server) × Fits bounds before p node server

-- it may make a step, and a server can be picked where one is needed
abbrev pub MayStepIn : Bounds → Past → ℕ → Type 0
MayStepIn bounds before p = (node : Node) × (node_of before p ≡ Some node) × IsReady before p node × HasPick bounds before p node

-- it may go on, where some are taken and some are claimed: its timer isn't set, nobody who holds stands in its way
abbrev pub IsAvailableIn : Bounds → Past → List ℕ → List ℕ → ℕ → Type 0
IsAvailableIn bounds before taken claimed p =
    (bounds.waits p ≡ false) × (IsIn p claimed → ⊥) × IsFree before taken p × (MayStepIn bounds before p ⊎ MayUndo before p)

-- the pick of a step of a procedure, where there is one, is allowed
abbrev pub PickAllowed : Bounds → Node → Option Server → Type 0
PickAllowed bounds node pick = (server : Server) → pick ≡ Some server → allows bounds node.args server ≡ true

-- no procedure may go on, where none is claimed
abbrev pub IsAtRestIn : Bounds → Past → Type 0
IsAtRestIn bounds before = (p : ℕ) → IsAvailableIn bounds before [] [] p → ⊥

-- nobody waits for a timer, and whoever may step, holds its locks or could take them, and needs a server has one
abbrev pub ArePicked : Bounds → Past → Type 0
ArePicked bounds before =
    ((p : ℕ) → bounds.waits p ≡ false)
    × ((p : ℕ) (node : Node) → node_of before p ≡ Some node → IsReady before p node → IsFree before [] p → HasPick bounds before p node)
