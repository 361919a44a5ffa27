-- The servers that run, as they are kept.
use Rattle.std.specs.Prelude.{◌≡◌, ℕ, ◌<◌, List, Option, Some, None, if◌then◌else◌, length, slice_index_or}
use Rattle.std.specs.Ordering.{nat_cmp, on, then_cmp}
use Rattle.std.specs.declared.cmp.Ordering.{Ordering}
use Rattle.hm_names.specs.Order.{bytes_cmp}
use Rattle.hm_names.specs.Server.{Server}
use Rattle.hm_index.specs.Index.{find}
use Rattle.hm_model.specs.Actors.{Actor, begun}
use Rattle.hm_model.specs.Fleet.{same_address, same_server}
use Rattle.hm_server.specs.Actors.{ActorView, IsActor, actor_of}
use Rattle.hm_fleet.specs.declared.address.Address.{Address}

-- where a server runs
abbrev pub address_of : Server → Address
address_of server = record { host = server.host; port = server.port }

-- by host, then by port
abbrev pub address_cmp : Address → Address → Ordering
address_cmp = then_cmp (on (λ a. a.host) bytes_cmp) (on (λ a. a.port) nat_cmp)

-- one that just began, and its address
pub record IsNewAt (address : Address) (view : ActorView) : Type 0 where
  pub at : address ≡ address_of view.name
  pub new : IsActor (begun view.name) (actor_of view)

-- the place of each address, who runs at each place, and for how many more there is room
pub record CrewView : Type 0 where
  pub places : List (Address × ℕ)
  pub slots : List (Option ActorView)
  pub spare : ℕ

-- each address has a place of its own
pub record IsCrew (places : List (Address × ℕ)) (slots : List (Option ActorView)) : Type 0 where
  pub within : (address : Address) (place : ℕ) → find address_cmp places address ≡ Some place → place < length slots
  pub apart : (one other : Address) (place : ℕ) → find address_cmp places one ≡ Some place → find address_cmp places other ≡ Some place → one ≡ other

-- a server by its name, where it is who runs at a place
abbrev pub running : Option ActorView → Server → Option Actor
running None server = None
running (Some view) server = if same_server view.name server then Some (actor_of view) else None

-- who runs at a place
abbrev pub slot_at : List (Option ActorView) → Option ℕ → Option ActorView
slot_at slots None = None
slot_at slots (Some place) = slice_index_or slots place None

-- the servers that run, by their names
abbrev pub actors_in : List (Address × ℕ) → List (Option ActorView) → Server → Option Actor
actors_in places slots server = running (slot_at slots (find address_cmp places (address_of server))) server

abbrev pub actors_of : CrewView → Server → Option Actor
actors_of crew = actors_in crew.places crew.slots

-- these, with one that just began in place of any other of its address
abbrev pub started_in : (Server → Option Actor) → Server → Server → Option Actor
started_in actors server other =
    if same_server server other then Some (begun server) else (if same_address server other then None else actors other)
