-- The servers that ever came up, as callers see them.
use Rattle.std.specs.Prelude.{◌≡◌, ℕ, ◌≤◌, List, [], ◌∷◌, Option, Some, None, Bool, true, false, not, ◌&&◌, if◌then◌else◌, nat_lt, is_some, slice_get}
use Rattle.std.specs.List.{list_any}
use Rattle.std.specs.Ordering.{is_eq, nat_cmp, on, then_cmp}
use Rattle.std.specs.declared.cmp.Ordering.{Ordering}
use Rattle.hm_names.specs.Order.{bytes_cmp, server_cmp}
use Rattle.hm_names.specs.Server.{Server}
use Rattle.hm_index.specs.Index.{IsRising, find, placed, changed, key_if}
use Rattle.hm_model.specs.Fleet.{same_address, same_server}
use Rattle.hm_model.specs.Standings.{MayComeUp, greatest_start, is_live_in, live_servers}
use Rattle.hm_places.specs.Chosen.{AreChosen}
use Rattle.hm_model.specs.declared.standing.Standing.{Standing}
use Rattle.hm_places.specs.declared.refused.UpRefused.{UpRefused}
use Rattle.hm_places.specs.declared.refused.UpRefused.TheVariants as up_is
use Rattle.hm_places.specs.declared.refused.DownRefused.{DownRefused}
use Rattle.hm_places.specs.declared.refused.DownRefused.TheVariants as down_is

-- the servers that ever came up, in name order, for how many more there is room, and how much memory there is
pub record ServersView : Type 0 where
  pub servers : List (Server × Standing)
  pub spare : ℕ
  pub room : ℕ

-- one that just came up
abbrev pub fresh : Standing
fresh = record { live = true; fenced = false }

-- one that a part of a base tells: live unless it is fenced
abbrev pub as_told : Bool → Standing
as_told fence = record { live = not fence; fenced = fence }

-- it is there, and fenced
abbrev pub fenced_if : Option Standing → Bool
fenced_if None = false
fenced_if (Some standing) = standing.fenced

-- a server is fenced
abbrev pub is_fenced_in : List (Server × Standing) → Server → Bool
is_fenced_in servers server = fenced_if (find server_cmp servers server)

-- a server ever came up
abbrev pub came_up_in : List (Server × Standing) → Server → Bool
came_up_in servers server = is_some (find server_cmp servers server)

-- one is live
abbrev pub has_live_in : List (Server × Standing) → Bool
has_live_in servers = list_any (λ row. row.1.live) servers

-- by host, then by port
abbrev pub address_cmp : Server → Server → Ordering
address_cmp = then_cmp (on (λ s. s.host) bytes_cmp) (on (λ s. s.port) nat_cmp)

-- an older server of the address is live
abbrev pub has_older_in : List (Server × Standing) → Server → Bool
has_older_in servers server = list_any (λ other. same_address server other && nat_lt other.start server.start) (live_servers servers)

-- a server of the address came up with this start code or a greater one
abbrev pub has_newer_in : List (Server × Standing) → Server → Bool
has_newer_in servers server =
    list_any (λ row. same_address server row.0 && not (nat_lt row.0.start server.start)) servers

-- another server than this is live
abbrev pub has_other_live_in : List (Server × Standing) → Server → Bool
has_other_live_in servers server = list_any (λ other. not (same_server server other)) (live_servers servers)

-- the first of some servers that has the address
abbrev pub first_there : List Server → Server → Option Server
first_there [] server = None
first_there (other ∷ more) server = if same_address server other then Some other else first_there more server

-- how a server stands, if it is there, once it has gone down
abbrev pub gone : Option Standing → Standing
gone standing = record { live = false; fenced = fenced_if standing }

-- the servers with one, if any, gone down
abbrev pub put_down : List (Server × Standing) → Option Server → List (Server × Standing)
put_down servers None = servers
put_down servers (Some server) = changed server_cmp servers server (gone (find server_cmp servers server))

-- why a server can't come up; memory runs out only where it may
abbrev pub CannotComeUp : List (Server × Standing) → Server → UpRefused → Type 0
CannotComeUp servers server up_is.Known = is_live_in servers server ≡ true
CannotComeUp servers server (up_is.OldStart start) =
    (is_live_in servers server ≡ false) × ((start ≡ greatest_start servers server) × (server.start ≤ start))
CannotComeUp servers server up_is.Memory = MayComeUp servers server

-- a server came up, and put the one down that was live at its address
pub record CameUp (before : List (Server × Standing)) (server : Server) (other : Option Server) (after : List (Server × Standing)) : Type 0 where
  pub may : MayComeUp before server
  pub older : other ≡ first_there (live_servers before) server
  pub now : after ≡ placed server_cmp (put_down before other) server fresh

-- why a server can't go down
abbrev pub CannotGoDown : List (Server × Standing) → Server → DownRefused → Type 0
CannotGoDown servers server down_is.Unknown = came_up_in servers server ≡ false
CannotGoDown servers server down_is.AlreadyDown = (came_up_in servers server ≡ true) × (is_live_in servers server ≡ false)

-- a server went down
pub record WentDown (before : List (Server × Standing)) (server : Server) (after : List (Server × Standing)) : Type 0 where
  pub was : is_live_in before server ≡ true
  pub now : after ≡ put_down before (Some server)

-- the servers with one fenced
abbrev pub fenced : List (Server × Standing) → Server → List (Server × Standing)
fenced servers server = changed server_cmp servers server (record { live = is_live_in servers server; fenced = true })

-- the server of a number
abbrev pub name_of : List (Server × Standing) → ℕ → Option Server
name_of came number = key_if (slice_get came number)

-- the server is live, and isn't one
abbrev pub is_live_key : List (Server × Standing) → Option Server → Bool
is_live_key servers None = false
is_live_key servers (Some server) = is_live_in servers server

-- a server other than this one is live
abbrev pub is_live_but : Server → List (Server × Standing) → Option Server → Bool
is_live_but server servers None = false
is_live_but server servers (Some other) = not (is_eq (server_cmp server other)) && is_live_in servers other

-- the numbers of the live ones, in name order
abbrev pub AreLive : List (Server × Standing) → List (Server × Standing) → List ℕ → Type 0
AreLive came servers numbers = AreChosen server_cmp (name_of came) (is_live_key servers) numbers

-- the same without one
abbrev pub AreLiveBut : Server → List (Server × Standing) → List (Server × Standing) → List ℕ → Type 0
AreLiveBut server came servers numbers = AreChosen server_cmp (name_of came) (is_live_but server servers) numbers

-- the rows and what is kept beside them; at no address two are live
pub record AreServers (came servers : List (Server × Standing)) (numbers : List ℕ) : Type 0 where
  pub rising : IsRising server_cmp servers
  pub live : AreLive came servers numbers
  pub alone : (a b : Server) → is_live_in servers a ≡ true → is_live_in servers b ≡ true → same_address a b ≡ true → a ≡ b
