-- What the calls about a region find, and who moves it.
use Rattle.std.specs.Prelude.{Bool, false, ◌≡◌, ℕ, ◌<◌, [], Option, Some, None, true, ◌⊎◌}
use Rattle.hm_names.specs.Region.{Region}
use Rattle.hm_names.specs.Server.{Server}
use Rattle.hm_names.specs.declared.range.KeyRange.{KeyRange}
use Rattle.hm_data.specs.declared.args.Args.TheVariants as args_are
use Rattle.hm_data.specs.declared.call.Peer.TheVariants as peer_is
use Rattle.hm_data.specs.declared.call.Told.TheVariants as told_is
use Rattle.hm_data.specs.declared.call.Verb.{Verb}
use Rattle.hm_data.specs.declared.call.Verb.TheVariants as verb_is
use Rattle.hm_data.specs.declared.place.Goal.TheVariants as goal_is
use Rattle.hm_data.specs.declared.request.Request.{Request}
use Rattle.hm_data.specs.declared.request.Request.TheVariants as request_is
use Rattle.hm_model.specs.Answers.{is_stopped, last_answer, report_of, row_of}
use Rattle.hm_model.specs.Catalog.{cat}
use Rattle.hm_model.specs.Fleet.{is_fenced}
use Rattle.hm_model.specs.Holding.{HoldsWith}
use Rattle.hm_model.specs.Journal.{Past}
use Rattle.hm_model.specs.Places.{place_of}
use Rattle.hm_model.specs.Ranges.{IsLiveWith}
use Rattle.hm_model.specs.Reports.{verb_of, peer_of, last_call}
use Rattle.hm_model.specs.Single.{IsBasedAt, IsGone, IsOver}
use Rattle.hm_model.specs.TransitActs.{is_placed}
use Rattle.hm_model.specs.Tree.{Node, node_of}
use Rattle.hm_model.specs.Whereabouts.{moved_by}

-- a procedure is a transit of the region
abbrev pub Moves : Past → ℕ → Region → Type 0
Moves J p region = (node : Node) × (node_of J p ≡ Some node) × (moved_by node.args ≡ Some region)

-- a procedure of a root's tree is a transit of the region
abbrev pub MovesIn : Past → ℕ → Region → ℕ → Node → Type 0
MovesIn J root region p node = (node_of J p ≡ Some node) × (node.root ≡ root) × (moved_by node.args ≡ Some region)

-- a transit of the region in a root's tree has ended, and all of that region there are Unassigns
abbrev pub OneUnassigned : Past → ℕ → Region → Type 0
OneUnassigned J root region =
    ((p : ℕ) × (node : Node) × MovesIn J root region p node × (is_stopped (last_answer J p) ≡ true))
    × ((p : ℕ) (node : Node) → MovesIn J root region p node → (to : Option Server) × (node.args ≡ args_are.Transit region goal_is.Unassign to))

-- a transit of the region has a step and hasn't ended, and this is the row that it runs next
abbrev pub NextIs : Past → Region → ℕ → Type 0
NextIs J region row =
    (p : ℕ) × (node : Node) × (node_of J p ≡ Some node) × (moved_by node.args ≡ Some region)
    × HoldsWith J [] p × (row_of J p node ≡ row)

-- a procedure is to call a server about the region, or has called it
abbrev pub CallsAbout : Past → ℕ → Region → Type 0
CallsAbout J p region =
    (node : Node) × (server : Server) × (node_of J p ≡ Some node)
    × ((node.args ≡ args_are.AssignCall region server) ⊎ (node.args ≡ args_are.CloseCall region server))

-- a call can't leave its region open at any server that isn't fenced: it failed to open, it closed, or its server is fenced
abbrev pub IsVoidCall : Past → ℕ → Type 0
IsVoidCall J p = (report_of J p ≡ Some told_is.FailedOpen) ⊎ ((report_of J p ≡ Some told_is.Closed) ⊎ IsGone J p)

-- the last call of a region, if there is one, can't leave it open; without a call a server that has it open by the base is fenced
abbrev pub IsVoid : Past → Region → Option ℕ → Type 0
IsVoid J region None = (server : Server) → IsBasedAt J region server → is_fenced J server ≡ true
IsVoid J region (Some p) = IsVoidCall J p

-- the requests that have regions closed before they go on
abbrev pub closes_first : Request → Bool
closes_first (request_is.DisableTable table) = true
closes_first (request_is.SplitRegion region key) = true
closes_first (request_is.MergeRegions regions) = true
closes_first request = false

-- the last call of a region opened it at the server, or the base has it open there and no call of it was made since
abbrev pub IsOpenedBy : Past → Region → Option ℕ → Server → Type 0
IsOpenedBy J region last server =
    ((p : ℕ) × (last ≡ Some p) × (peer_of J p ≡ Some (peer_is.Server server)) × (report_of J p ≡ Some told_is.Opened))
    ⊎ ((last ≡ None) × IsBasedAt J region server)

-- a call's id is above that of the last one
abbrev pub IsLater : ℕ → Option ℕ → Type 0
IsLater id None = Unit {0}
IsLater id (Some p) = p < id

-- what a procedure finds when it makes a call: it made none before; of a region, all earlier ones have lower ids, and an
-- opening finds the last one void, a close finds that the last one opened the region at its server
abbrev pub Finds : Past → ℕ → Node → Option Verb → Type 0
Finds J id node None = Unit {0}
Finds J id node (Some (verb_is.AssignRegion region)) =
    (verb_of J id ≡ None) × IsLater id (last_call J region) × IsVoid J region (last_call J region)
Finds J id node (Some (verb_is.CloseRegion region)) =
    (verb_of J id ≡ None) × IsLater id (last_call J region)
    × (server : Server) × (node.args ≡ args_are.CloseCall region server) × IsOpenedBy J region (last_call J region) server
Finds J id node (Some (verb_is.Fence server)) = verb_of J id ≡ None
Finds J id node (Some (verb_is.Layout root)) = verb_of J id ≡ None
Finds J id node (Some (verb_is.Sweep root)) = verb_of J id ≡ None

-- before a region is opened each other opening of it is over
abbrev pub MayOpen : Past → Option Verb → Type 0
MayOpen before None = Unit {0}
MayOpen before (Some (verb_is.AssignRegion region)) =
    (p : ℕ) → verb_of before p ≡ Some (verb_is.AssignRegion region) → IsOver before p region
MayOpen before (Some (verb_is.CloseRegion region)) = Unit {0}
MayOpen before (Some (verb_is.Fence server)) = Unit {0}
MayOpen before (Some (verb_is.Layout root)) = Unit {0}
MayOpen before (Some (verb_is.Sweep root)) = Unit {0}

-- each region that is open, or being opened or closed, is live
abbrev pub PlacedAreLive : Past → Type 0
PlacedAreLive J = (region : Region) → is_placed (place_of J region) ≡ true → (range : KeyRange) × IsLiveWith (cat J) region range
