-- The regions that have a place, and how many are at a server.
use Rattle.std.specs.Prelude.{ℕ, List, length, map}
use Rattle.std.specs.List.{filter}
use Rattle.hm_names.specs.Region.{Region}
use Rattle.hm_names.specs.Server.{Server}
use Rattle.hm_data.specs.declared.place.Place.{Place}
use Rattle.hm_model.specs.Journal.{Past}
use Rattle.hm_model.specs.Places.{is_at, place_of, placed}

-- the regions that a journal gave a place, in name order, with their places
abbrev pub places_of : Past → List (Region × Place)
places_of J = map (λ region. (region, place_of J region)) (placed J)

-- the regions at a server, in name order: those that are being opened or closed there, or are open
abbrev pub regions_at : List (Region × Place) → Server → List Region
regions_at places server = map (λ row. row.0) (filter (λ row. is_at server row.1) places)

-- how many regions are at a server
abbrev pub load_in : List (Region × Place) → Server → ℕ
load_in places server = length (regions_at places server)
