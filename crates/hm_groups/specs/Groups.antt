-- Groups of servers, and where the regions of a table may be placed.
use Rattle.std.specs.Prelude.{◌≡◌, ◌==◌, ℕ, List, [], length, Option, Some, None, Bool, true, false, not, ◌&&◌, is_some}
use Rattle.std.specs.List.{list_any}
use Rattle.std.specs.Ordering.{on}
use Rattle.std.specs.declared.cmp.Ordering.{Ordering}
use Rattle.hm_names.specs.Order.{bytes_cmp, server_cmp, table_cmp}
use Rattle.hm_names.specs.Server.{Server}
use Rattle.hm_names.specs.declared.table.TableName.{TableName}
use Rattle.hm_index.specs.Index.{find}
use Rattle.hm_model.specs.Fleet.{same_address}
use Rattle.hm_groups.specs.declared.name.GroupName.{GroupName}
use Rattle.hm_groups.specs.declared.why.GroupWhy.{GroupWhy}
use Rattle.hm_groups.specs.declared.why.GroupWhy.TheVariants as why_is

-- a name as a key
abbrev pub named : List ℕ → GroupName
named ns = record { ns = ns }

-- by name
abbrev pub group_cmp : GroupName → GroupName → Ordering
group_cmp = on (λ g. g.ns) bytes_cmp

-- the groups with their servers, the tables with the names of their groups, and the servers of which was told whether they are
-- drained
pub record GroupsView : Type 0 where
  pub groups : List (GroupName × List Server)
  pub tables : List (TableName × List ℕ)
  pub drained : List (Server × Bool)

-- no group, no table in one, no server of which was told whether it is drained
abbrev pub no_groups : GroupsView
no_groups = record { groups = []; tables = []; drained = [] }

-- one of some servers has the host and port of this one
abbrev pub has_address : List Server → Server → Bool
has_address servers server = list_any (λ other. same_address other server) servers

-- the servers of a group, if it was ever set
abbrev pub servers_of : GroupsView → List ℕ → Option (List Server)
servers_of view name = find group_cmp view.groups (named name)

-- a group was ever set
abbrev pub is_set : GroupsView → List ℕ → Bool
is_set view name = is_some (servers_of view name)

-- a server has the host and port of one of some, if there are any
abbrev pub has_address_if : Option (List Server) → Server → Bool
has_address_if None server = false
has_address_if (Some servers) server = has_address servers server

-- a server is in a group, by host and port
abbrev pub in_group : GroupsView → List ℕ → Server → Bool
in_group view name server = has_address_if (servers_of view name) server

-- the group of a table, if it has one
abbrev pub group_of : GroupsView → TableName → Option (List ℕ)
group_of view table = find table_cmp view.tables table

-- what was told last, if anything was
abbrev pub drained_if : Option Bool → Bool
drained_if None = false
drained_if (Some drained) = drained

-- a server is drained
abbrev pub is_drained : GroupsView → Server → Bool
is_drained view server = drained_if (find server_cmp view.drained server)

-- a server is in a group, if one is named: else it may be any
abbrev pub in_group_if : GroupsView → Option (List ℕ) → Server → Bool
in_group_if view None server = true
in_group_if view (Some name) server = in_group view name server

-- the regions of a table may be placed at a server: it isn't drained, and is in the table's group, where the table has one
abbrev pub may : GroupsView → TableName → Server → Bool
may view table server = not (is_drained view server) && in_group_if view (group_of view table) server

-- no table is in a group, and no server is drained
abbrev pub is_free : GroupsView → Bool
is_free view = length view.tables == 0 && not (list_any (λ row. row.1) view.drained)

-- why a table can't be put into a group; memory runs out only where it may
abbrev pub CannotJoin : GroupsView → List ℕ → GroupWhy → Type 0
CannotJoin view name why_is.NoGroup = is_set view name ≡ false
CannotJoin view name why_is.Memory = is_set view name ≡ true
