-- What becomes of a server that no pick goes to any more.
use Rattle.std.specs.Prelude.{◌≡◌, ◌≢◌, ℕ, ◌<◌, List, [], ◌∷◌, ◌++◌, Option, Some, true, false}
use Rattle.hm_names.specs.Region.{Region}
use Rattle.hm_names.specs.Server.{Server}
use Rattle.hm_data.specs.declared.args.Args.TheVariants as args_are
use Rattle.hm_data.specs.declared.entry.Entry.{Entry}
use Rattle.hm_data.specs.declared.entry.Entry.TheVariants as entry_is
use Rattle.hm_data.specs.declared.request.Request.TheVariants as request_is
use Rattle.hm_model.specs.Answers.{is_aborted}
use Rattle.hm_model.specs.Journal.{Past}
use Rattle.hm_model.specs.Phase.{root_ended}
use Rattle.hm_model.specs.Places.{is_at, load, place_of}
use Rattle.hm_model.specs.Records.{unfinished}
use Rattle.hm_model.specs.Rules.{IsLegal}
use Rattle.hm_model.specs.Tree.{Node, made, node_of}

-- an entry picks another server, or none, and is no part of a base
abbrev pub Avoids : Server → Entry → Type 0
Avoids server (entry_is.Step pid pick out) = pick ≢ Some server
Avoids server (entry_is.Base part) = ⊥
Avoids server entry = Unit {0}

-- so do all of some
abbrev pub AllAvoid : Server → List Entry → Type 0
AllAvoid server [] = Unit {0}
AllAvoid server (entry ∷ entries) = Avoids server entry × AllAvoid server entries

-- a root with a number above n was submitted to move the region, and wasn't aborted
abbrev pub Moves : Past → ℕ → Region → ℕ → Type 0
Moves J n region p =
    (node : Node) × (to : Option Server) × (first : ℕ) × (n < p) × (node_of J p ≡ Some node) × (node.above ≡ [])
    × (node.args ≡ args_are.Root (request_is.Move region to) first) × (is_aborted J p ≡ false)

-- while picks avoid a server no region comes to it
abbrev pub NoneComes : Type 0
NoneComes =
    (server : Server) (later : List Entry) (J : Past) → IsLegal (later ++ J) → AllAvoid server later
    → (region : Region) → is_at server (place_of (later ++ J) region) ≡ true → is_at server (place_of J region) ≡ true

-- and a region that was to be moved since, by a root that has ended, isn't at it
abbrev pub MovedAreElsewhere : Type 0
MovedAreElsewhere =
    (server : Server) (later : List Entry) (J : Past) → IsLegal (later ++ J) → AllAvoid server later
    → (region : Region) (p : ℕ) → Moves (later ++ J) (made J) region p → root_ended (later ++ J) p ≡ true
    → is_at server (place_of (later ++ J) region) ≡ false

-- so where each region that was at it was to be moved since, and nothing is unfinished, none is at it
abbrev pub DrainedAreEmpty : Type 0
DrainedAreEmpty =
    (server : Server) (later : List Entry) (J : Past) → IsLegal (later ++ J) → AllAvoid server later
    → ((region : Region) → is_at server (place_of J region) ≡ true → (p : ℕ) × Moves (later ++ J) (made J) region p)
    → unfinished (later ++ J) ≡ 0 → load (later ++ J) server ≡ 0
