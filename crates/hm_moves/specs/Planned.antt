-- Which regions balancing moves.
use Rattle.std.specs.Prelude.{◌≡◌, ℕ, List, [], ◌∷◌, ◌++◌, length, map, slice_get, Option, Some, None}
use Rattle.std.specs.List.{filter}
use Rattle.hm_names.specs.Region.{Region}
use Rattle.hm_names.specs.Server.{Server}
use Rattle.hm_balance.specs.Loads.{Loads, given}
use Rattle.hm_balance.specs.Plan.{IsPlan}
use Rattle.hm_balance.specs.declared.shift.Shift.{Shift}
use Rattle.hm_data.specs.declared.place.RegionState.TheVariants as place_is
use Rattle.hm_model.specs.Fleet.{is_live, servers_of}
use Rattle.hm_model.specs.Journal.{Past}
use Rattle.hm_model.specs.Places.{at_server, place_of}
use Rattle.hm_model.specs.TransitActs.{is_state}
use Rattle.hm_moves.specs.declared.moving.Move.{Move}

-- the regions that are open on a server, in name order
abbrev pub opened_on : Past → Server → List Region
opened_on J server = filter (λ region. is_state place_is.Opened (place_of J region)) (at_server J server)

-- servers, each with how many regions are open on it
abbrev pub loads_of : (Server → List Region) → List Server → Loads
loads_of opened servers = map (λ server. (server, length (opened server))) servers

-- the loads of the live servers, in name order
abbrev pub loads_in : Past → Loads
loads_in J = loads_of (opened_on J) (filter (is_live J) (servers_of J))

-- the move of a shift's region, if there is one
abbrev pub move_if : Option Region → Shift → List Move
move_if None shift = []
move_if (Some region) shift = record { region = region; from = shift.from; to = shift.to } ∷ []

-- the moves of shifts after earlier ones: as many regions of a server are passed over as were shifted from it before
abbrev pub chosen : (Server → List Region) → List Shift → List Shift → List Move
chosen opened earlier [] = []
chosen opened earlier (shift ∷ more) =
    move_if (slice_get (opened shift.from) (given shift.from earlier)) shift ++ chosen opened (earlier ++ shift ∷ []) more

-- the moves of a plan of so many shifts that balances the loads of a journal
pub record ArePlanned (J : Past) (count : ℕ) (moves : List Move) : Type 0 where
  pub shifts : List Shift
  pub plan : IsPlan (loads_in J) shifts
  pub counted : count ≡ length shifts
  pub chosen_by : moves ≡ chosen (opened_on J) [] shifts
