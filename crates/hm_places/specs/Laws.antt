-- What places and servers say of a journal, and what keeps that.
use Rattle.std.specs.Prelude.{◌≡◌, ℕ, ◌∷◌, List, Option, Some, None, Bool, true, if◌then◌else◌, ◌==◌}
use Rattle.hm_names.specs.Order.{region_cmp, server_cmp}
use Rattle.hm_names.specs.Region.{Region}
use Rattle.hm_names.specs.Server.{Server}
use Rattle.hm_data.specs.Numbers.{told_number}
use Rattle.hm_data.specs.declared.args.Args.{Args}
use Rattle.hm_data.specs.declared.args.Args.TheVariants as args_are
use Rattle.hm_data.specs.declared.call.Told.{Told}
use Rattle.hm_data.specs.declared.call.Told.TheVariants as told_is
use Rattle.hm_data.specs.declared.entry.Entry.{Entry}
use Rattle.hm_data.specs.declared.entry.Entry.TheVariants as entry_is
use Rattle.hm_data.specs.declared.part.Part.{Part}
use Rattle.hm_data.specs.declared.part.Part.TheVariants as part_is
use Rattle.hm_data.specs.declared.place.Place.{Place}
use Rattle.hm_index.specs.Index.{placed as placed_in}
use Rattle.hm_model.specs.Fleet.{came_up, has_live, has_newer, has_older_live, has_other_live, is_fenced, is_live}
use Rattle.hm_model.specs.Journal.{Past}
use Rattle.hm_model.specs.Loads.{load_in, places_of, regions_at}
use Rattle.hm_model.specs.Parts.{part_server}
use Rattle.hm_model.specs.Places.{at_server, load, place_of, region_if}
use Rattle.hm_model.specs.Rules.{IsLegal}
use Rattle.hm_model.specs.Standings.{is_live_in, standings_of}
use Rattle.hm_model.specs.Tree.{Node, node_of}
use Rattle.hm_model.specs.declared.standing.Standing.{Standing}
use Rattle.hm_places.specs.Places.{place_in}
use Rattle.hm_places.specs.Servers.{as_told, came_up_in, fenced, fresh, has_live_in, has_newer_in, has_older_in, has_other_live_in, is_fenced_in, put_down}

-- a place that is given to a region, if both are there
abbrev pub given_to : Option Region → Option Place → Option (Region × Place)
given_to None place = None
given_to (Some region) None = None
given_to (Some region) (Some place) = Some (region, place)

-- the place that a part of a base gives its region
abbrev pub part_places : Part → Option (Region × Place)
part_places (part_is.Region region range status parents place) = Some (region, place)
part_places part = None

-- the place that an entry gives a region
abbrev pub placed_now : Past → Entry → Option (Region × Place)
placed_now before (entry_is.Step pid pick out) = given_to (region_if (node_of before pid.0)) out.place
placed_now before (entry_is.Base part) = part_places part
placed_now before entry = None

-- the rows with one more, if there is one
abbrev pub with_place : List (Region × Place) → Option (Region × Place) → List (Region × Place)
with_place places None = places
with_place places (Some row) = placed_in region_cmp places row.0 row.1

-- an entry leads from the places of a journal to those of the longer one: the region that it gives a place gets it
abbrev pub EntriesPlace : Type 0
EntriesPlace = (entry : Entry) (before : Past) → with_place (places_of before) (placed_now before entry) ≡ places_of (entry ∷ before)

-- the places of a journal tell where each region is, which are at a server, and how many
abbrev pub PlacesTell : Type 0
PlacesTell =
    (J : Past)
    → ((region : Region) → place_in (places_of J) region ≡ place_of J region)
    × ((server : Server) → regions_at (places_of J) server ≡ at_server J server)
    × ((server : Server) → load_in (places_of J) server ≡ load J server)

-- the server that a procedure, if there is one, is the call to fence
abbrev pub fence_of : Args → Option Server
fence_of (args_are.FenceCall server) = Some server
fence_of args = None

-- the server that a report of a procedure's call shows to be fenced
abbrev pub shown_fenced : Option Node → Told → Option Server
shown_fenced None told = None
shown_fenced (Some node) told = if told_number told == told_number told_is.Fenced then fence_of node.args else None

-- the servers with one fenced, if there is one
abbrev pub with_fence : List (Server × Standing) → Option Server → List (Server × Standing)
with_fence servers None = servers
with_fence servers (Some server) = fenced servers server

-- the servers with one as a part of a base tells it, if there is one
abbrev pub with_told : List (Server × Standing) → Option (Server × Bool) → List (Server × Standing)
with_told servers None = servers
with_told servers (Some both) = placed_in server_cmp servers both.0 (as_told both.1)

-- how the servers stand after an entry
abbrev pub stand_behind : Past → Entry → List (Server × Standing) → List (Server × Standing)
stand_behind before (entry_is.Report call told) servers = with_fence servers (shown_fenced (node_of before call.0) told)
stand_behind before (entry_is.Up server) servers = placed_in server_cmp servers server fresh
stand_behind before (entry_is.Down server) servers = put_down servers (Some server)
stand_behind before (entry_is.Base part) servers = with_told servers (part_server part)
stand_behind before entry servers = servers

-- an entry of a legal journal leads from the servers of the journal before it to those of the longer one
abbrev pub EntriesStand : Type 0
EntriesStand =
    (entry : Entry) (before : Past) → IsLegal (entry ∷ before) → stand_behind before entry (standings_of before) ≡ standings_of (entry ∷ before)

-- the servers of a legal journal tell who came up, is live, is fenced; whether a newer one of an address came up, an older one,
-- another one or any is live
pub record StandingsTell (J : Past) : Type 0 where
  pub came : (server : Server) → came_up_in (standings_of J) server ≡ came_up J server
  pub live : (server : Server) → is_live_in (standings_of J) server ≡ is_live J server
  pub are_fenced : (server : Server) → is_fenced_in (standings_of J) server ≡ is_fenced J server
  pub newer : (server : Server) → has_newer_in (standings_of J) server ≡ has_newer J server
  pub older : (server : Server) → has_older_in (standings_of J) server ≡ has_older_live J server
  pub others : (server : Server) → has_other_live_in (standings_of J) server ≡ has_other_live J server
  pub any : has_live_in (standings_of J) ≡ has_live J

-- what is kept of servers tells the readings of every legal journal
abbrev pub AllStandingsTell : Type 0
AllStandingsTell = (J : Past) → IsLegal J → StandingsTell J

-- a server that an entry shows to be fenced came up
abbrev pub FencedCameUp : Type 0
FencedCameUp =
    (J : Past) → IsLegal J → (p : ℕ) (told : Told) (server : Server) → shown_fenced (node_of J p) told ≡ Some server → came_up J server ≡ true
