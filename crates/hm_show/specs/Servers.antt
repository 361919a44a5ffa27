-- The table `servers`.
use Rattle.std.specs.Prelude.{ℕ, List, [], ◌∷◌, codes, map}
use Rattle.std.specs.Fmt.{decimal}
use Rattle.hm_names.specs.Region.{Region}
use Rattle.hm_names.specs.Server.{Server}
use Rattle.hm_names.specs.Servers.{server_text}
use Rattle.hm_data.specs.declared.place.Place.{Place}
use Rattle.hm_model.specs.Fleet.{servers_of}
use Rattle.hm_model.specs.Journal.{Past}
use Rattle.hm_model.specs.Loads.{load_in}
use Rattle.hm_model.specs.Places.{load}
use Rattle.hm_model.specs.Standings.{standing_of}
use Rattle.hm_model.specs.declared.standing.Standing.{Standing}
use Rattle.hm_show.specs.Tables.{Line, table_of}
use Rattle.hm_show.specs.Words.{standing_text}

-- the line of a server that stands so and has this load
abbrev pub line_of : Server → Standing → ℕ → Line
line_of server standing load = server_text server ∷ standing_text standing.live standing.fenced ∷ decimal load ∷ []

-- the line of a server
abbrev pub server_line : Past → Server → Line
server_line past server = line_of server (standing_of past server) (load past server)

-- the lines of servers that stand so, by the places of regions
abbrev pub lines_by : List (Region × Place) → List (Server × Standing) → List Line
lines_by places servers = map (λ row. line_of row.0 row.1 (load_in places row.0)) servers

-- one line for each server that ever came up, in name order
abbrev pub servers_table : Past → List ℕ
servers_table past = table_of (codes "servers") past (map (server_line past) (servers_of past))
