-- How the servers that came up stand in a journal.
use Rattle.std.specs.Prelude.{◌≡◌, ℕ, ◌<◌, List, [], ◌∷◌, map, max, Option, Some, None, Bool, false, if◌then◌else◌}
use Rattle.std.specs.List.{filter}
use Rattle.hm_names.specs.Order.{server_cmp}
use Rattle.hm_names.specs.Server.{Server}
use Rattle.hm_index.specs.Index.{find}
use Rattle.hm_model.specs.Fleet.{is_fenced, is_live, same_address, servers_of}
use Rattle.hm_model.specs.Journal.{Past}
use Rattle.hm_model.specs.declared.standing.Standing.{Standing}

-- how a server stands in a journal
abbrev pub standing_of : Past → Server → Standing
standing_of J server = record { live = is_live J server; fenced = is_fenced J server }

-- the servers that ever came up in a journal, in name order, and how they stand
abbrev pub standings_of : Past → List (Server × Standing)
standings_of J = map (λ server. (server, standing_of J server)) (servers_of J)

-- a server that is there, and live
abbrev pub live_if : Option Standing → Bool
live_if None = false
live_if (Some standing) = standing.live

-- a server is live among these
abbrev pub is_live_in : List (Server × Standing) → Server → Bool
is_live_in servers server = live_if (find server_cmp servers server)

-- the live ones of these, in name order
abbrev pub live_servers : List (Server × Standing) → List Server
live_servers servers = map (λ row. row.0) (filter (λ row. row.1.live) servers)

-- the greatest start code that came up at the address of a server, and 0 where none did
abbrev pub greatest_start : List (Server × Standing) → Server → ℕ
greatest_start [] server = 0
greatest_start (row ∷ more) server =
    if same_address server row.0 then max row.0.start (greatest_start more server) else greatest_start more server

-- a server may come up: it isn't live, and none of its address ever came up with its start code or a greater one
pub record MayComeUp (servers : List (Server × Standing)) (server : Server) : Type 0 where
  pub unknown : is_live_in servers server ≡ false
  pub newest : greatest_start servers server < server.start
