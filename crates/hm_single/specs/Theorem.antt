-- What holds of the calls and the places of every legal journal.
use Rattle.std.specs.Prelude.{◌≡◌, ◌≢◌, ℕ, ◌↔◌, ◌∷◌, Option, Some, None, true, false, ◌⊎◌, []}
use Rattle.hm_names.specs.Region.{Region}
use Rattle.hm_names.specs.Server.{Server}
use Rattle.hm_names.specs.declared.pid.Pid.{Pid}
use Rattle.hm_data.specs.declared.args.Args.TheVariants as args_are
use Rattle.hm_data.specs.declared.catalog.CatKey.TheVariants as key_is
use Rattle.hm_data.specs.declared.catalog.CatRow.TheVariants as row_is
use Rattle.hm_data.specs.declared.catalog.TableState.{TableState}
use Rattle.hm_data.specs.declared.catalog.TableState.TheVariants as state_is
use Rattle.hm_data.specs.declared.entry.Entry.TheVariants as entry_is
use Rattle.hm_data.specs.declared.place.Goal.TheVariants as goal_is
use Rattle.hm_data.specs.declared.place.RegionState.TheVariants as place_is
use Rattle.hm_data.specs.declared.request.Request.{Request}
use Rattle.hm_data.specs.declared.step.StepOut.{StepOut}
use Rattle.hm_model.specs.Answers.{is_stopped, last_answer}
use Rattle.hm_model.specs.Catalog.{cat}
use Rattle.hm_model.specs.Holding.{HoldsWith}
use Rattle.hm_model.specs.Journal.{Past}
use Rattle.hm_model.specs.Rules.{IsLegal}
use Rattle.hm_model.specs.Single.{Single}
use Rattle.hm_model.specs.Phase.{root_ended}
use Rattle.hm_model.specs.Places.{place_of}
use Rattle.hm_model.specs.Reads.{covers}
use Rattle.hm_model.specs.Reports.{verb_of, last_call, is_about}
use Rattle.hm_model.specs.Tree.{Node, node_of, root_of}
use Rattle.hm_model.specs.TransitActs.{is_placed, is_state, may_open}
use Rattle.hm_single.specs.Calls.{Moves, MovesIn, NextIs, OneUnassigned, closes_first, CallsAbout, IsOpenedBy, IsVoid, Finds, MayOpen, PlacedAreLive}

-- the last call of a region is recorded, and is about it
abbrev pub LastIsRecorded : Type 0
LastIsRecorded =
    (J : Past) → IsLegal J → (region : Region) (p : ℕ) → last_call J region ≡ Some p → is_about region (verb_of J p) ≡ true

-- a region has at most one transit that has a step and hasn't ended
abbrev pub OneTransit : Type 0
OneTransit =
    (J : Past) → IsLegal J → (region : Region) (p q : ℕ)
    → Moves J p region → HoldsWith J [] p → Moves J q region → HoldsWith J [] q → p ≡ q

-- the place of a region is Opening exactly where the next row of such a transit is to open it or to take in whether it
-- opened, and Closing exactly where it is to take in whether it closed
abbrev pub PlaceByRow : Type 0
PlaceByRow =
    (J : Past) → IsLegal J → (region : Region)
    → ((is_state place_is.Opening (place_of J region) ≡ true) ↔ (NextIs J region 1 ⊎ NextIs J region 2))
    × ((is_state place_is.Closing (place_of J region) ≡ true) ↔ NextIs J region 4)

-- what each call finds
abbrev pub CallsFind : Type 0
CallsFind =
    (pid : Pid) (pick : Option Server) (out : StepOut) (before : Past)
    → IsLegal (entry_is.Step pid pick out ∷ before)
    → (node : Node) × (node_of before pid.0 ≡ Some node) × Finds before pid.0 node out.call

-- a region is opened only where each earlier opening of it failed, was closed since, or went to a server that is fenced
abbrev pub OpeningsAreSingle : Type 0
OpeningsAreSingle =
    (pid : Pid) (pick : Option Server) (out : StepOut) (before : Past)
    → IsLegal (entry_is.Step pid pick out ∷ before)
    → MayOpen before out.call

-- a region that is open at a server was opened there by its last call, or is open there by the base
abbrev pub OpenedAreTold : Type 0
OpenedAreTold =
    (J : Past) → IsLegal J → (region : Region) → is_state place_is.Opened (place_of J region) ≡ true
    → (server : Server) × ((place_of J region).server ≡ Some server) × IsOpenedBy J region (last_call J region) server

-- a region without a place is held by no call: its last call can't leave it open, and who calls about it has stopped
abbrev pub UnplacedAreFree : Type 0
UnplacedAreFree =
    (J : Past) → IsLegal J → (region : Region) → is_placed (place_of J region) ≡ false
    → IsVoid J region (last_call J region) × ((p : ℕ) → CallsAbout J p region → is_stopped (last_answer J p) ≡ true)

-- a region that is neither open nor being opened or closed gets a server only where it is live, and its table is enabled or
-- being enabled
abbrev pub PlacedWhereLive : Type 0
PlacedWhereLive =
    (pid : Pid) (pick : Option Server) (out : StepOut) (before : Past)
    → IsLegal (entry_is.Step pid pick out ∷ before)
    → (region : Region) → is_placed (place_of before region) ≡ false → is_placed (place_of (entry_is.Step pid pick out ∷ before) region) ≡ true
    → may_open (cat before (key_is.Table region.table)) (cat before (key_is.Region region)) ≡ true

-- while a root that has a step and hasn't ended asks for a region alone, steps of other trees leave the region's place
abbrev pub HeldPlacesStay : Type 0
HeldPlacesStay =
    (pid : Pid) (pick : Option Server) (out : StepOut) (before : Past)
    → IsLegal (entry_is.Step pid pick out ∷ before)
    → (root : ℕ) (top : Node) → node_of before root ≡ Some top → top.above ≡ [] → last_answer before root ≢ None → root_ended before root ≡ false
    → (region : Region) → covers top.args (key_is.Region region) ≡ true
    → (root_of before pid.0 ≡ root) ⊎ (place_of (entry_is.Step pid pick out ∷ before) region ≡ place_of before region)

-- while a root that hasn't ended asks for a region alone, the region has no place once an Unassign of it under the root has ended,
-- where its tree moves the region by Unassigns only
abbrev pub UnassignedAreUnplaced : Type 0
UnassignedAreUnplaced =
    (J : Past) → IsLegal J → (root : ℕ) (top : Node) → node_of J root ≡ Some top → top.above ≡ [] → root_ended J root ≡ false
    → (region : Region) → covers top.args (key_is.Region region) ≡ true → OneUnassigned J root region → is_placed (place_of J region) ≡ false

-- a region has no place once its Unassign under an unfinished disabling of its table, split or merge has ended
abbrev pub ClosedAreUnplaced : Type 0
ClosedAreUnplaced =
    (J : Past) → IsLegal J → (root : ℕ) (top : Node) (request : Request) (first : ℕ) → node_of J root ≡ Some top → top.above ≡ []
    → top.args ≡ args_are.Root request first → closes_first request ≡ true → root_ended J root ≡ false
    → (p : ℕ) (node : Node) (region : Region) (to : Option Server) → MovesIn J root region p node
    → node.args ≡ args_are.Transit region goal_is.Unassign to → is_stopped (last_answer J p) ≡ true
    → is_placed (place_of J region) ≡ false

-- each region that is open, or being opened or closed, is live
abbrev pub PlacedLive : Type 0
PlacedLive = (J : Past) → IsLegal J → PlacedAreLive J

-- and its table is there, and isn't disabled
abbrev pub PlacedWhereOn : Type 0
PlacedWhereOn =
    (J : Past) → IsLegal J → (region : Region) → is_placed (place_of J region) ≡ true
    → (state : TableState) × (version : ℕ) × (cat J (key_is.Table region.table) ≡ Some (row_is.Table state version)) × (state ≢ state_is.Disabled)

-- no region is assigned while another opening of it, or of one of its table whose range overlaps its own, may still stand:
-- whatever became of that one's row since, and also where the base has it open
abbrev pub SingleOverRanges : Type 0
SingleOverRanges = (J : Past) → IsLegal J → Single J
