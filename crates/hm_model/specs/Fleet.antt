-- The servers of a journal: which came up, which are live, and which are fenced.
use Rattle.std.specs.Prelude.{List, [], ◌∷◌, Option, Some, None, Bool, false, not, ◌==◌, ◌&&◌, ◌||◌, nat_lt}
use Rattle.std.specs.List.{list_any}
use Rattle.std.specs.Str.{bytes_eq}
use Rattle.std.specs.declared.cmp.Ordering.{Ordering}
use Rattle.std.specs.declared.cmp.Ordering.TheVariants.{Less, Equal, Greater}
use Rattle.hm_names.specs.Order.{server_cmp}
use Rattle.hm_names.specs.Server.{Server}
use Rattle.hm_data.specs.Numbers.{told_number}
use Rattle.hm_data.specs.declared.args.Args.{Args}
use Rattle.hm_data.specs.declared.args.Args.TheVariants as args_are
use Rattle.hm_data.specs.declared.call.Told.TheVariants as told_is
use Rattle.hm_data.specs.declared.entry.Entry.TheVariants as entry_is
use Rattle.hm_model.specs.Journal.{Past}
use Rattle.hm_data.specs.declared.part.Part.{Part}
use Rattle.hm_model.specs.Parts.{part_server}
use Rattle.hm_model.specs.Tree.{Node, node_of}

-- servers of one host and one port
abbrev pub same_address : Server → Server → Bool
same_address a b = bytes_eq a.host b.host && (a.port == b.port)

-- one server
abbrev pub same_server : Server → Server → Bool
same_server a b = same_address a b && (a.start == b.start)

-- a server beside the first of some in name order, by how they compare, and what the rest of them is with it
abbrev pub with_server_at : Ordering → Server → Server → List Server → List Server → List Server
with_server_at Less server first more rest = server ∷ first ∷ more
with_server_at Equal server first more rest = first ∷ more
with_server_at Greater server first more rest = first ∷ rest

-- servers in name order, with one more
abbrev pub with_server : Server → List Server → List Server
with_server server [] = server ∷ []
with_server server (first ∷ more) = with_server_at (server_cmp server first) server first more (with_server server more)

-- servers in name order, with that of a part
abbrev pub part_servers : Part → List Server → List Server
part_servers part servers = elim (part_server part) as (λ s. List Server) [ None ↦ servers | Some both ↦ with_server both.0 servers ]

-- a server is live, with a part
abbrev pub part_live : Part → Server → Bool → Bool
part_live part server before = elim (part_server part) as (λ s. Bool) [ None ↦ before | Some both ↦ (same_server server both.0 && not both.1) || before ]

-- a server is fenced, with a part
abbrev pub part_fenced : Part → Server → Bool → Bool
part_fenced part server before = elim (part_server part) as (λ s. Bool) [ None ↦ before | Some both ↦ (same_server server both.0 && both.1) || before ]

-- the servers that ever came up, in name order
abbrev pub servers_of : Past → List Server
servers_of [] = []
servers_of (entry_is.Up server ∷ before) = with_server server (servers_of before)
servers_of (entry_is.Base part ∷ before) = part_servers part (servers_of before)
servers_of (entry ∷ before) = servers_of before

-- a server ever came up
abbrev pub came_up : Past → Server → Bool
came_up before server = list_any (λ other. same_server server other) (servers_of before)

-- a server is live: it came up, and didn't go down since
abbrev pub is_live : Past → Server → Bool
is_live [] server = false
is_live (entry_is.Up other ∷ before) server = same_server server other || is_live before server
is_live (entry_is.Down other ∷ before) server = not (same_server server other) && is_live before server
is_live (entry_is.Base part ∷ before) server = part_live part server (is_live before server)
is_live (entry ∷ before) server = is_live before server

-- a procedure is the call to fence a server
abbrev pub fences_by : Args → Server → Bool
fences_by (args_are.FenceCall other) server = same_server server other
fences_by args server = false

-- the same of one by its number, if it is there
abbrev pub fences_if : Option Node → Server → Bool
fences_if None server = false
fences_if (Some node) server = fences_by node.args server

-- a server is fenced: there is a report that it is, of a call to fence it
abbrev pub is_fenced : Past → Server → Bool
is_fenced [] server = false
is_fenced (entry_is.Report call told ∷ before) server =
    ((told_number told == told_number told_is.Fenced) && fences_if (node_of before call.0) server) || is_fenced before server
is_fenced (entry_is.Base part ∷ before) server = part_fenced part server (is_fenced before server)
is_fenced (entry ∷ before) server = is_fenced before server

-- a server went down: it came up, and isn't live
abbrev pub is_down : Past → Server → Bool
is_down before server = came_up before server && not (is_live before server)

-- a server is live
abbrev pub has_live : Past → Bool
has_live before = list_any (is_live before) (servers_of before)

-- another server than this is live
abbrev pub has_other_live : Past → Server → Bool
has_other_live before server = list_any (λ other. is_live before other && not (same_server server other)) (servers_of before)

-- a server of the same address came up with this start code or a greater one
abbrev pub has_newer : Past → Server → Bool
has_newer before server =
    list_any (λ other. same_address server other && not (nat_lt other.start server.start)) (servers_of before)

-- an older one of the same address is live
abbrev pub has_older_live : Past → Server → Bool
has_older_live before server =
    list_any (λ other. same_address server other && (nat_lt other.start server.start && is_live before other)) (servers_of before)
