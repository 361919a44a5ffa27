-- That nothing is unfinished where nothing can go on, order of locks included.
use Rattle.std.specs.Prelude.{◌≡◌, ◌≢◌, ℕ, Some, None, Bool, true}
use Rattle.hm_names.specs.Server.{Server}
use Rattle.hm_data.specs.declared.call.Peer.{Peer}
use Rattle.hm_data.specs.declared.call.Peer.TheVariants as peer_is
use Rattle.hm_model.specs.Fleet.{has_live, is_live}
use Rattle.hm_model.specs.Journal.{Past}
use Rattle.hm_model.specs.Phase.{ended}
use Rattle.hm_model.specs.Reports.{is_settled, peer_of}
use Rattle.hm_model.specs.Rest.{IsAtRest}
use Rattle.hm_model.specs.Rules.{IsLegal}
use Rattle.hm_model.specs.Tree.{node_of}
use Rattle.hm_world_model.specs.Measure.{left_to_carry}
use Rattle.hm_world_model.specs.Outside.{runs}
use Rattle.hm_world_model.specs.Safe.{IsKept}
use Rattle.hm_world_model.specs.World.{World}

-- who is called can answer: the storage always, a server while it is live
abbrev pub can_answer : Past → Peer → Bool
can_answer J (peer_is.Server server) = is_live J server
can_answer J peer_is.Storage = true

-- each call to somebody who can answer is settled
abbrev pub CallsAreSettled : Past → Type 0
CallsAreSettled J = (p : ℕ) (peer : Peer) → peer_of J p ≡ Some peer → can_answer J peer ≡ true → is_settled J p ≡ true

-- no procedure is unfinished
abbrev pub AllHaveEnded : Past → Type 0
AllHaveEnded J = (p : ℕ) → node_of J p ≢ None → ended J p ≡ true

-- where a server is live, each call is settled and nothing can go on, nothing is unfinished
abbrev pub StillIsEnded : Type 0
StillIsEnded =
    (J : Past) → IsLegal J → has_live J ≡ true → CallsAreSettled J → IsAtRest J → AllHaveEnded J

-- where a server is live, each live one runs, nothing is left to carry and nothing can go on, nothing is unfinished
abbrev pub IdleIsEnded : Type 0
IdleIsEnded =
    (w : World) → IsKept w → has_live w.past ≡ true
    → ((server : Server) → is_live w.past server ≡ true → runs w.outside (peer_is.Server server) ≡ true)
    → left_to_carry w ≡ 0 → IsAtRest w.past → AllHaveEnded w.past
