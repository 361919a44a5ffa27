-- What is found at a place of a region, and what of a region that is held.
use Rattle.std.specs.Prelude.{◌≡◌, ◌⊎◌, ◌↔◌, List, [], ◌∷◌, ◌++◌, map, Option, Some, None, Bool, false, not, ◌&&◌, if◌then◌else◌, is_none}
use Rattle.std.specs.List.{AllByRecursion, flat_map}
use Rattle.std.specs.Option.{option_copied, option_map}
use Rattle.hm_names.specs.Order.{server_cmp}
use Rattle.hm_names.specs.Region.{Region}
use Rattle.hm_names.specs.Server.{Server}
use Rattle.hm_data.specs.declared.catalog.CatKey.TheVariants as key_is
use Rattle.hm_data.specs.declared.catalog.CatRow.{CatRow}
use Rattle.hm_data.specs.declared.place.Place.{Place}
use Rattle.hm_data.specs.declared.place.RegionState.TheVariants as place_is
use Rattle.hm_index.specs.Index.{find}
use Rattle.hm_model.specs.Actors.{Actor, holds}
use Rattle.hm_model.specs.Catalog.{row_at}
use Rattle.hm_model.specs.Locks.{IsIn}
use Rattle.hm_model.specs.Places.{is_at}
use Rattle.hm_model.specs.RowsSaid.{Rows}
use Rattle.hm_model.specs.TransitActs.{is_placed, is_state}
use Rattle.hm_ranges.specs.Live.{live_in}
use Rattle.hm_server.specs.Actors.{ActorView, AreHeldBy, actor_of, held_in}
use Rattle.hm_hbck.specs.declared.finding.Finding.{Finding}
use Rattle.hm_hbck.specs.declared.finding.Finding.TheVariants as finding_is
use Rattle.hm_hbck.specs.declared.finding.Kind.{Kind}
use Rattle.hm_hbck.specs.declared.finding.Kind.TheVariants as kind_is
use Rattle.hm_hbck.specs.declared.holdings.Holding.{Holding}

-- exactly the findings of which something is so were added to others
abbrev pub Adds : (Finding → Type 0) → List Finding → List Finding → Type 0
Adds IsNew old new = (finding : Finding) → IsIn finding new ↔ (IsIn finding old ⊎ IsNew finding)

-- a finding of a region at a server
abbrev pub at : Kind → Region → Server → Finding
at kind_is.NotHeld region server = finding_is.NotHeld region server
at kind_is.NoActor region server = finding_is.NoActor region server
at kind_is.Stray region server = finding_is.Stray region server
at kind_is.NoRow region server = finding_is.NoRow region server
at kind_is.DeadPlace region server = finding_is.DeadPlace region server

-- the finding, where it is so
abbrev pub only_if : Bool → Finding → List Finding
only_if so finding = if so then finding ∷ [] else []

-- a server that runs, by its name
abbrev pub running_in : {A : Type 0} → (A → ActorView) → List (Server × A) → Server → Option Actor
running_in view crew server = option_map (λ actor. actor_of (view actor)) (find server_cmp crew server)

-- what is found where a region is open at a server that is live or not
abbrev pub of_open : Option Actor → Bool → Region → Server → List Finding
of_open None live region server = only_if live (finding_is.NoActor region server)
of_open (Some actor) live region server = only_if (not (holds actor region)) (finding_is.NotHeld region server)

-- what is found of a region's place, by its server
abbrev pub of_server : (Server → Option Actor) → (Server → Bool) → Region → Place → Option Server → List Finding
of_server actors live region place None = []
of_server actors live region place (Some server) =
    (if is_state place_is.Opened place then of_open (actors server) (live server) region server else [])
    ++ only_if (is_placed place && not (live server)) (finding_is.DeadPlace region server)

abbrev pub of_place : (Server → Option Actor) → (Server → Bool) → Region × Place → List Finding
of_place actors live row = of_server actors live row.0 row.1 row.1.server

-- a region at a holder, with the region's row
pub record Hold : Type 0 where
  pub region : Region
  pub server : Server
  pub row : Option CatRow

abbrev pub hold_of : Holding → Hold
hold_of holding = record { region = holding.region.now; server = holding.server.now; row = option_copied holding.row }

abbrev pub holds_of : List Holding → List Hold
holds_of list = map hold_of list

-- what a server holds
abbrev pub held_by : Rows → Server → List Region → List Hold
held_by rows server regions = map (λ region. let h : Hold = record { region = region; server = server; row = row_at rows (key_is.Region region) } in h) regions

-- what servers hold that aren't fenced
abbrev pub held_at : Rows → (Server → Bool) → ActorView → List Hold
held_at rows fenced actor = if fenced actor.name then [] else held_by rows actor.name (held_in actor.duties)

abbrev pub all_held : Rows → (Server → Bool) → List ActorView → List Hold
all_held rows fenced actors = flat_map (held_at rows fenced) actors

-- that is all that they hold
abbrev pub AllAreHeld : (Server → Bool) → List ActorView → Type 0
AllAreHeld fenced actors = AllByRecursion (λ actor. fenced actor.name ≡ false → AreHeldBy (actor_of actor) (held_in actor.duties)) actors

-- what is found of a region that is held
abbrev pub of_hold : (Region → Place) → Hold → List Finding
of_hold place hold =
    only_if (not (is_at hold.server (place hold.region))) (finding_is.Stray hold.region hold.server)
    ++ only_if (is_none (live_in hold.row)) (finding_is.NoRow hold.region hold.server)
