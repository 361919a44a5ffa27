-- That no tree is stuck by itself, how many entries it has at most, and what a crash leaves.
use Rattle.std.specs.Prelude.{◌≡◌, ℕ, ◌≤◌, [], Some, true, false, ◌⊎◌}
use Rattle.hm_names.specs.Region.{Region}
use Rattle.hm_names.specs.Server.{Server}
use Rattle.hm_data.specs.declared.args.Args.TheVariants as args_are
use Rattle.hm_data.specs.declared.record.Phase.TheVariants as phase_is
use Rattle.hm_model.specs.Costs.{cost}
use Rattle.hm_model.specs.Entries.{entries_of, IsQuiet}
use Rattle.hm_model.specs.Journal.{Past}
use Rattle.hm_model.specs.Phase.{phase, root_ended}
use Rattle.hm_model.specs.Places.{is_at, place_of}
use Rattle.hm_model.specs.Rest.{MayUndo}
use Rattle.hm_model.specs.Rules.{IsLegal}
use Rattle.hm_model.specs.Tree.{Node, node_of}

-- a procedure of the tree of a root is runnable, or awaits the answer to its call
abbrev pub HasOneThatGoes : Past → ℕ → Type 0
HasOneThatGoes J r =
    (p : ℕ) × (node : Node) × (node_of J p ≡ Some node) × (node.root ≡ r)
    × ((phase J p node ≡ phase_is.Runnable) ⊎ (phase J p node ≡ phase_is.Awaiting))

-- in the tree of a root that hasn't ended a procedure goes on, or a step is to be undone
abbrev pub EachTreeGoesOn : Type 0
EachTreeGoesOn =
    (J : Past) → IsLegal J → (r : ℕ) (node : Node) → node_of J r ≡ Some node → node.above ≡ [] → root_ended J r ≡ false
    → HasOneThatGoes J r ⊎ MayUndo J r

-- the entries of a root's tree that nothing disturbed, with the one that makes the root, are at most what it costs
abbrev pub CostBound : Type 0
CostBound =
    (J : Past) → IsLegal J → (r : ℕ) (node : Node) → node_of J r ≡ Some node → node.above ≡ []
    → IsQuiet J r → entries_of J r ≤ cost J r node.args

-- after a crash has ended no region is open at its server, or being opened or closed there
abbrev pub CrashesEmpty : Type 0
CrashesEmpty =
    (J : Past) → IsLegal J → (r : ℕ) (top : Node) (server : Server) → node_of J r ≡ Some top → top.args ≡ args_are.Crash server
    → root_ended J r ≡ true → (region : Region) → is_at server (place_of J region) ≡ false
