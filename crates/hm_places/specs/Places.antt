-- The places of regions, as callers see them.
use Rattle.std.specs.Prelude.{◌≡◌, ℕ, List, length, map, Option, Some, None, Bool, false, not, ◌&&◌, if◌then◌else◌, slice_get}
use Rattle.std.specs.List.{filter_map}
use Rattle.std.specs.Ordering.{is_eq, on, then_cmp}
use Rattle.std.specs.declared.cmp.Ordering.{Ordering}
use Rattle.std.specs.declared.cmp.Ordering.TheVariants.{Less}
use Rattle.hm_names.specs.Order.{region_cmp, server_cmp}
use Rattle.hm_names.specs.Region.{Region}
use Rattle.hm_names.specs.Server.{Server}
use Rattle.hm_data.specs.declared.place.Place.{Place}
use Rattle.hm_data.specs.declared.place.RegionState.TheVariants as place_is
use Rattle.hm_index.specs.Index.{IsRising, find, key_if}
use Rattle.hm_model.specs.Places.{is_at}
use Rattle.hm_model.specs.TransitActs.{is_placed, nowhere, told_place}
use Rattle.hm_places.specs.Chosen.{cmp_if, AreChosen, HasGap}

-- the regions that have a place, in name order, for how many more there is room, and how much memory there is
pub record PlacesView : Type 0 where
  pub places : List (Region × Place)
  pub spare : ℕ
  pub room : ℕ

-- the place of a region: Offline without a server where none was set
abbrev pub place_in : List (Region × Place) → Region → Place
place_in places region = told_place (find region_cmp places region)

-- by server, then by region
abbrev pub held_cmp : Server × Region → Server × Region → Ordering
held_cmp = then_cmp (on (λ held. held.0) server_cmp) (on (λ held. held.1) region_cmp)

-- where a region is held, if its place is at a server
abbrev pub held_at : Region → Option Server → Option (Server × Region)
held_at region None = None
held_at region (Some server) = Some (server, region)

-- the same of a row, if there is one
abbrev pub held_by : Option (Region × Place) → Option (Server × Region)
held_by None = None
held_by (Some row) = held_at row.0 row.1.server

-- a place, if there is one, is at a server
abbrev pub is_at_if : Server → Option Place → Bool
is_at_if server None = false
is_at_if server (Some place) = is_at server place

-- the region is at the server
abbrev pub is_held : List (Region × Place) → Option (Server × Region) → Bool
is_held places None = false
is_held places (Some held) = is_at_if held.0 (find region_cmp places held.1)

-- the server of a place that is at one
abbrev pub holder : Place → Option Server
holder place = if is_placed place then place.server else None

-- how a server compares with another one, if there is one, which else stands lowest
abbrev pub side : Server → Option (Server × Region) → Ordering
side server None = Less
side server (Some held) = server_cmp held.0 server

-- where a row is held
abbrev pub key_of : List (Region × Place) → ℕ → Option (Server × Region)
key_of came number = held_by (slice_get came number)

-- the regions with these numbers
abbrev pub names_of : List (Region × Place) → List ℕ → List Region
names_of came numbers = filter_map (λ number. key_if (slice_get came number)) numbers

-- each of the numbers is that of a region
abbrev pub HaveNames : List (Region × Place) → List ℕ → Type 0
HaveNames came numbers = length numbers ≡ length (names_of came numbers)

-- the region is at the server, and isn't one
abbrev pub is_held_but : Region → List (Region × Place) → Option (Server × Region) → Bool
is_held_but region places None = false
is_held_but region places (Some held) = not (is_eq (region_cmp region held.1)) && is_at_if held.0 (find region_cmp places held.1)

-- the numbers of those at a server, in the order of where they are held
abbrev pub AreHeld : List (Region × Place) → List (Region × Place) → List ℕ → Type 0
AreHeld came places numbers = AreChosen held_cmp (key_of came) (is_held places) numbers

-- the same without a region
abbrev pub AreHeldBut : Region → List (Region × Place) → List (Region × Place) → List ℕ → Type 0
AreHeldBut region came places numbers = AreChosen held_cmp (key_of came) (is_held_but region places) numbers

-- where a row of this place goes among the numbers, if it is at a server
abbrev pub IsSpotFor : List (Region × Place) → List ℕ → Option (Server × Region) → Option ℕ → Type 0
IsSpotFor came numbers None spot = spot ≡ None
IsSpotFor came numbers (Some held) None = ⊥
IsSpotFor came numbers (Some held) (Some at) = HasGap (cmp_if held_cmp) (map (key_of came) numbers) (Some held) at

-- the rows and what is kept beside them
pub record ArePlaces (came places : List (Region × Place)) (numbers : List ℕ) (unplaced : Place) : Type 0 where
  pub rising : IsRising region_cmp places
  pub held : AreHeld came places numbers
  pub offline : unplaced ≡ nowhere place_is.Offline
