-- Who calls a server has a parent, and the server came up.
use Rattle.std.proofs.Common.{◌≡◌, false, true, Some, refl, ap, sym, ◌∙◌, ℕ}
use Rattle.std.proofs.lemmas.Bool.{true≢false}
use Rattle.std.proofs.lemmas.Option.{none-some, same_Some}
use Rattle.hm_names.specs.Region.{Region}
use Rattle.hm_names.specs.Server.{Server}
use Rattle.hm_data.specs.declared.args.Args.{Args}
use Rattle.hm_data.specs.declared.args.Args.TheVariants as args_are
use Rattle.hm_data.specs.declared.call.Peer.TheVariants as peer_is
use Rattle.hm_model.specs.Fleet.{came_up}
use Rattle.hm_model.specs.Journal.{Past}
use Rattle.hm_model.specs.Reports.{peer_in}
use Rattle.hm_model.specs.Rules.{IsLegal}
use Rattle.hm_model.specs.Tree.{Node, is_top, node_of}
use Rattle.hm_model.specs.Whereabouts.{called_by}
use Rattle.hm_model.proofs.CameUp.{named_came}
use Rattle.hm_model.proofs.PlainActs.{is_caller}
use Rattle.hm_model.proofs.CallSteps.{called_server}
use Rattle.hm_world_model.specs.Safe.{CallsTo}
use Rattle.hm_world_model.proofs.Facts.{node_called, server_of_peer}
use Rattle.hm_world_model.proofs.Lineage.{lineage_all}

called_caller : (args : Args) (s : Server) → called_by args ≡ Some s → is_caller args ≡ true
called_caller (args_are.AssignCall region server) s is = refl
called_caller (args_are.CloseCall region server) s is = refl
called_caller args s is = absurd (none-some s is)

pub storage_no_server : (s : Server) → peer_is.Storage ≡ peer_is.Server s → ⊥
storage_no_server s e = cc

pub peer_called : (args : Args) (s : Server) → peer_in args ≡ peer_is.Server s → called_by args ≡ Some s
peer_called (args_are.AssignCall region server) s is = ap Some (server_of_peer server s is)
peer_called (args_are.CloseCall region server) s is = ap Some (server_of_peer server s is)
peer_called args s is = absurd (storage_no_server s is)

-- who calls a server is no root
pub caller_below : (J : Past) → IsLegal J → (p : ℕ) (node : Node) (s : Server) → node_of J p ≡ Some node → called_by node.args ≡ Some s → is_top node.above ≡ false
caller_below J legal p node s is to = (lineage_all J legal).below p node is (called_caller node.args s to)

-- and the server came up
pub called_up : (J : Past) → IsLegal J → (p : ℕ) (node : Node) (s : Server) → node_of J p ≡ Some node → called_by node.args ≡ Some s → came_up J s ≡ true
called_up J legal p node s is to = (named_came J legal).args p node is s (called_server node.args s to)

-- nobody called a server that never came up
pub uncalled : (J : Past) → IsLegal J → (s : Server) → came_up J s ≡ false → (p : ℕ) (r : Region) → CallsTo J p r s → ⊥
uncalled J legal s unknown p r to =
    let v = node_called J legal p to.0 to.1 in
    true≢false (sym (called_up J legal p v.0 s v.1 (peer_called v.0.args s (same_Some (peer_in v.0.args) (peer_is.Server s) (sym v.3 ∙ to.3)))) ∙ unknown)
