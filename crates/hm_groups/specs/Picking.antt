-- Which server is picked, of those that the groups allow.
use Rattle.std.specs.Prelude.{◌≡◌, ℕ, ◌≤◌, List, Option, Some, None, Bool, true, not, ◌==◌, ◌&&◌, ◌||◌}
use Rattle.std.specs.List.{filter}
use Rattle.hm_names.specs.Region.{Region}
use Rattle.hm_names.specs.Server.{Server}
use Rattle.hm_data.specs.declared.args.Args.{Args}
use Rattle.hm_data.specs.declared.place.Place.{Place}
use Rattle.hm_data.specs.declared.place.RegionState.TheVariants as place_is
use Rattle.hm_data.specs.declared.step.StepIn.{StepIn}
use Rattle.hm_model.specs.Choice.{lowest}
use Rattle.hm_model.specs.Fleet.{same_server}
use Rattle.hm_model.specs.Journal.{Past}
use Rattle.hm_model.specs.Loads.{load_in, places_of}
use Rattle.hm_model.specs.Picks.{fits_input}
use Rattle.hm_model.specs.Places.{is_the_server, load}
use Rattle.hm_model.specs.Rules.{IsLegal}
use Rattle.hm_model.specs.Standings.{is_live_in, live_servers, standings_of}
use Rattle.hm_model.specs.TransitActs.{is_state, told_place}
use Rattle.hm_model.specs.Wanted.{wanted_of}
use Rattle.hm_model.specs.Whereabouts.{moved_by}
use Rattle.hm_model.specs.declared.standing.Standing.{Standing}
use Rattle.hm_places.specs.Servers.{has_other_live_in}
use Rattle.hm_groups.specs.Groups.{GroupsView, may}

-- the first try goes to the server that is wanted, where that one is live
abbrev pub is_as_wanted : List (Server × Standing) → Option Server → ℕ → Server → Bool
is_as_wanted servers None tries server = true
is_as_wanted servers (Some wanted) tries server =
    not (tries == 0) || (not (is_live_in servers wanted) || same_server server wanted)

-- not the server at which the region just failed to open, where another one is live
abbrev pub is_another : List (Server × Standing) → Place → Server → Bool
is_another servers place server =
    not (is_state place_is.FailedOpen place) || (not (is_the_server server place.server) || not (has_other_live_in servers server))

-- a live server fits what a procedure's next step sees: what it was made of, how often its region failed to open, and its place
abbrev pub fits_among : List (Server × Standing) → Args → ℕ → Option Place → Server → Bool
fits_among servers args tries place server =
    is_as_wanted servers (wanted_of args) tries server && is_another servers (told_place place) server

-- the groups allow a server for the region that a step moves, if it moves one
abbrev pub allows : GroupsView → Option Region → Server → Bool
allows view None server = true
allows view (Some region) server = may view region.table server

-- the groups allow a live server for what a step sees, and it fits
abbrev pub passes : GroupsView → List (Server × Standing) → Args → ℕ → Option Place → Server → Bool
passes view servers args tries place server = allows view (moved_by args) server && fits_among servers args tries place server

-- the server of the lowest load among those, the first in name order among equals
abbrev pub picked_for : GroupsView → List (Server × Standing) → (Server → ℕ) → Args → ℕ → Option Place → Option Server
picked_for view servers load args tries place = lowest load (filter (passes view servers args tries place) (live_servers servers))

-- the same for what a step sees
abbrev pub picked : GroupsView → List (Server × Standing) → (Server → ℕ) → StepIn → Option Server
picked view servers load at = picked_for view servers load at.args at.tries at.place

-- over a journal the groups allow a server for what a step sees, and it fits by the rule that the journal is judged by
abbrev pub MayTake : GroupsView → Past → StepIn → Server → Type 0
MayTake view J at server = (allows view (moved_by at.args) server ≡ true) × (fits_input J at server ≡ true)

-- a server may be taken, and none that may has a lower load
abbrev pub IsBest : GroupsView → Past → StepIn → Server → Type 0
IsBest view J at server = MayTake view J at server × ((other : Server) → MayTake view J at other → load J server ≤ load J other)

-- over a legal journal the pick is one of the lowest load of those that may be taken, and there is none exactly where none may
abbrev pub PicksFit : Type 0
PicksFit =
    (view : GroupsView) (J : Past) (at : StepIn) → IsLegal J
    → ((server : Server) → picked view (standings_of J) (load_in (places_of J)) at ≡ Some server → IsBest view J at server)
    × (picked view (standings_of J) (load_in (places_of J)) at ≡ None → (server : Server) → MayTake view J at server → ⊥)
