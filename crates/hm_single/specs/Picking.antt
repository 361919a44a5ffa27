-- That a server can be picked wherever one is needed and any is live.
use Rattle.std.specs.Prelude.{◌≡◌, ℕ, Option, Some, true}
use Rattle.hm_names.specs.Server.{Server}
use Rattle.hm_model.specs.Journal.{Past}
use Rattle.hm_model.specs.Picks.{PicksRight, needs_server, pick_fits}
use Rattle.hm_model.specs.Rest.{MayStepPicked}
use Rattle.hm_model.specs.Rules.{IsLegal}
use Rattle.hm_model.specs.Tree.{Node, node_of}

-- where a procedure may make a step that needs a server, a server fits: the wanted one and the one that just failed never
-- leave none
abbrev pub PicksAreThere : Type 0
PicksAreThere =
    (J : Past) → IsLegal J → (p : ℕ) (node : Node) → node_of J p ≡ Some node → MayStepPicked J p → needs_server J p node ≡ true
    → (server : Server) × (pick_fits J p node server ≡ true)

-- so each procedure that may make a step has a pick that is right for it: a server where one is needed, else none
abbrev pub PicksAreRight : Type 0
PicksAreRight = (J : Past) → IsLegal J → (p : ℕ) → MayStepPicked J p → (pick : Option Server) × PicksRight J p pick
