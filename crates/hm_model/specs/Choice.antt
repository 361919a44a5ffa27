-- Which server is picked for the next step of a procedure.
use Rattle.std.specs.Prelude.{ℕ, List, [], ◌∷◌, Option, Some, None, Bool, false, not, ◌==◌, ◌&&◌, if◌then◌else◌, nat_lt}
use Rattle.std.specs.List.{filter}
use Rattle.std.specs.Option.{option_or}
use Rattle.hm_names.specs.Server.{Server}
use Rattle.hm_data.specs.declared.args.Args.{Args}
use Rattle.hm_data.specs.declared.place.Place.{Place}
use Rattle.hm_data.specs.declared.place.RegionState.TheVariants as place_is
use Rattle.hm_model.specs.Fleet.{is_live, same_server}
use Rattle.hm_model.specs.Inputs.{place_if}
use Rattle.hm_model.specs.Journal.{Past}
use Rattle.hm_model.specs.Loads.{load_in, places_of}
use Rattle.hm_model.specs.Picks.{needs_server}
use Rattle.hm_model.specs.Places.{tries_of}
use Rattle.hm_model.specs.Standings.{live_servers, standings_of}
use Rattle.hm_model.specs.TransitActs.{is_state, told_place}
use Rattle.hm_model.specs.Tree.{Node}
use Rattle.hm_model.specs.Wanted.{wanted_of}
use Rattle.hm_model.specs.Whereabouts.{moved_by}

-- a server is the one to avoid, if there is one
abbrev pub avoids : Option Server → Server → Bool
avoids None server = false
avoids (Some other) server = same_server other server

-- servers without the one to avoid
abbrev pub without : Option Server → List Server → List Server
without avoid servers = filter (λ server. not (avoids avoid server)) servers

-- these, or where there is none those
abbrev pub or_else : List Server → List Server → List Server
or_else [] others = others
or_else (server ∷ more) others = server ∷ more

-- the first of some servers with the lowest number
abbrev pub lower : (Server → ℕ) → Server → Option Server → Server
lower number server None = server
lower number server (Some other) = if nat_lt (number other) (number server) then other else server

-- the server of the lowest number, the first of those that share it
abbrev pub lowest : (Server → ℕ) → List Server → Option Server
lowest number [] = None
lowest number (server ∷ more) = Some (lower number server (lowest number more))

-- the place that a step sees, Offline where it sees none
abbrev pub place_told : Past → Args → Place
place_told J args = told_place (place_if J (moved_by args))

-- the server at which a region just failed to open
abbrev pub failed_at : Place → Option Server
failed_at place = if is_state place_is.FailedOpen place then place.server else None

-- the server that is wanted, on the first try, where that one is live
abbrev pub wanted_first : Past → Option Server → ℕ → Option Server
wanted_first J None tries = None
wanted_first J (Some wanted) tries = if (tries == 0) && is_live J wanted then Some wanted else None

-- the live servers, in name order
abbrev pub live_of : Past → List Server
live_of J = live_servers (standings_of J)

-- the live server with the lowest load, the first in name order among equals; one to be avoided only where no other is live
abbrev pub least_loaded : Past → Option Server → Option Server
least_loaded J avoid = lowest (load_in (places_of J)) (or_else (without avoid (live_of J)) (live_of J))

-- the server that is wanted on the first try, else the least loaded, avoiding the one at which the region just failed to open
abbrev pub chosen : Past → Node → ℕ → Option Server
chosen J node tries =
    option_or (wanted_first J (wanted_of node.args) tries) (least_loaded J (failed_at (place_told J node.args)))

-- the server that is picked for a procedure's next step, where that needs one
abbrev pub candidate : Past → ℕ → Node → Option Server
candidate J p node = if needs_server J p node then chosen J node (tries_of J p) else None
