-- The regions that are open, by the places of regions and the servers as they stand.
use Rattle.std.specs.Prelude.{◌≡◌, ℕ, List, [], Option, map, slice_get, slice_index_or}
use Rattle.std.specs.List.{filter}
use Rattle.hm_names.specs.Region.{Region}
use Rattle.hm_names.specs.Server.{Server}
use Rattle.hm_names.specs.Order.{server_cmp}
use Rattle.hm_balance.specs.Loads.{Loads}
use Rattle.hm_data.specs.declared.place.Place.{Place}
use Rattle.hm_data.specs.declared.place.RegionState.TheVariants as place_is
use Rattle.hm_model.specs.TransitActs.{is_state}
use Rattle.hm_model.specs.Loads.{regions_at}
use Rattle.hm_places.specs.Chosen.{Rises}
use Rattle.hm_places.specs.Places.{place_in}
use Rattle.hm_moves.specs.Planned.{loads_of}

-- the regions that are open on a server, in name order
abbrev pub opened_at : List (Region × Place) → Server → List Region
opened_at places server = filter (λ region. is_state place_is.Opened (place_in places region)) (regions_at places server)

-- servers whose names rise, with how many regions are open on each, and which
pub record AreOpened (opened : Server → List Region) (servers : List Server) (loads : Loads) (regions : List (List Region)) : Type 0 where
  pub loaded : loads ≡ loads_of opened servers
  pub listed : regions ≡ map opened servers

-- the region of a number among the regions at a place
abbrev pub region_in : List (List Region) → ℕ → ℕ → Option Region
region_in regions at number = slice_get (slice_index_or regions at []) number
