-- What is kept after a change of one key.
use Rattle.std.proofs.Common.{◌≡◌, ℕ, List, Some, is_some, Bool, true, false, not, ◌||◌, ◌&&◌, if◌then◌else◌, refl, ap, sym, ◌∙◌}
use Rattle.std.specs.Cmp.Lexicographic.{texts_ties}
use Rattle.std.specs.Ordering.{is_eq, ordering_then}
use Rattle.std.specs.Str.{bytes_eq}
use Rattle.std.specs.declared.cmp.Ordering.{Ordering}
use Rattle.std.specs.declared.cmp.Ordering.TheVariants.{Less, Equal, Greater}
use Rattle.hm_names.specs.Order.{bytes_cmp, server_cmp, table_cmp}
use Rattle.hm_names.specs.Server.{Server}
use Rattle.hm_names.specs.declared.table.TableName.{TableName}
use Rattle.hm_index.specs.Index.{find}
use Rattle.hm_model.specs.Fleet.{same_server}
use Rattle.hm_model.specs.Keys.{same_table}
use Rattle.hm_model.proofs.NameTies.{server_ties}
use Rattle.hm_groups.specs.Groups.{drained_if, group_cmp, has_address, has_address_if, named}
use Rattle.hm_groups.specs.declared.name.GroupName.{GroupName}

pub then_ties : (o p : Ordering) → is_eq (ordering_then o p) ≡ (is_eq o && is_eq p)
then_ties Less p = refl
then_ties Equal p = refl
then_ties Greater p = refl

table_ties : (a b : TableName) → is_eq (table_cmp a b) ≡ same_table a b
table_ties a b =
    then_ties (bytes_cmp a.ns b.ns) (bytes_cmp a.qualifier b.qualifier)
    ∙ ap (λ t. t && is_eq (bytes_cmp a.qualifier b.qualifier)) (sym (texts_ties a.ns b.ns))
    ∙ ap (λ t. bytes_eq a.ns b.ns && t) (sym (texts_ties a.qualifier b.qualifier))

module _ (old new : List (GroupName × List Server)) (name : List ℕ) (servers : List Server)
    (finds : (other : GroupName) → find group_cmp new other ≡ (if is_eq (group_cmp (named name) other) then Some servers else find group_cmp old other)) where
  found : (other : List ℕ) → find group_cmp new (named other) ≡ (if bytes_eq name other then Some servers else find group_cmp old (named other))
  found other = finds (named other) ∙ ap (λ b. if b then Some servers else find group_cmp old (named other)) (sym (texts_ties name other))

  pub set_named : (other : List ℕ) → is_some (find group_cmp new (named other)) ≡ (bytes_eq name other || is_some (find group_cmp old (named other)))
  set_named other = ap is_some (found other) ∙ by (bytes_eq name other)
    where
      by : (b : Bool) → is_some (if b then Some servers else find group_cmp old (named other)) ≡ (b || is_some (find group_cmp old (named other)))
      by true = refl
      by false = refl

  pub set_members : (given : List Server) → ((server : Server) → has_address servers server ≡ has_address given server) → (other : List ℕ) (server : Server)
      → has_address_if (find group_cmp new (named other)) server ≡ (if bytes_eq name other then has_address given server else has_address_if (find group_cmp old (named other)) server)
  set_members given same other server = ap (λ group. has_address_if group server) (found other) ∙ by (bytes_eq name other)
    where
      by : (b : Bool) → has_address_if (if b then Some servers else find group_cmp old (named other)) server
          ≡ (if b then has_address given server else has_address_if (find group_cmp old (named other)) server)
      by true = same server
      by false = refl

pub put_table : (old new : List (TableName × List ℕ)) (table : TableName) (name : List ℕ)
    → ((other : TableName) → find table_cmp new other ≡ (if is_eq (table_cmp table other) then Some name else find table_cmp old other))
    → (other : TableName) → find table_cmp new other ≡ (if same_table table other then Some name else find table_cmp old other)
put_table old new table name finds other =
    finds other ∙ ap (λ b. if b then Some name else find table_cmp old other) (table_ties table other)

told : (old new : List (Server × Bool)) (server : Server) (to : Bool)
    → ((other : Server) → find server_cmp new other ≡ (if is_eq (server_cmp server other) then Some to else find server_cmp old other))
    → (other : Server) → drained_if (find server_cmp new other) ≡ (if same_server server other then to else drained_if (find server_cmp old other))
told old new server to finds other =
    ap drained_if (finds other ∙ ap (λ b. if b then Some to else find server_cmp old other) (server_ties server other)) ∙ by (same_server server other)
  where
    by : (b : Bool) → drained_if (if b then Some to else find server_cmp old other) ≡ (if b then to else drained_if (find server_cmp old other))
    by true = refl
    by false = refl

pub drained_more : (old new : List (Server × Bool)) (server : Server)
    → ((other : Server) → find server_cmp new other ≡ (if is_eq (server_cmp server other) then Some true else find server_cmp old other))
    → (other : Server) → drained_if (find server_cmp new other) ≡ (same_server server other || drained_if (find server_cmp old other))
drained_more old new server finds other = told old new server true finds other ∙ by (same_server server other)
  where
    by : (b : Bool) → (if b then true else drained_if (find server_cmp old other)) ≡ (b || drained_if (find server_cmp old other))
    by true = refl
    by false = refl

pub drained_less : (old new : List (Server × Bool)) (server : Server)
    → ((other : Server) → find server_cmp new other ≡ (if is_eq (server_cmp server other) then Some false else find server_cmp old other))
    → (other : Server) → drained_if (find server_cmp new other) ≡ (not (same_server server other) && drained_if (find server_cmp old other))
drained_less old new server finds other = told old new server false finds other ∙ by (same_server server other)
  where
    by : (b : Bool) → (if b then false else drained_if (find server_cmp old other)) ≡ (not b && drained_if (find server_cmp old other))
    by true = refl
    by false = refl
