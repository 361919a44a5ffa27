-- Where no table is in a group and no server is drained.
use Rattle.std.proofs.Common.{◌≡◌, ℕ, List, [], ◌∷◌, length, Some, None, Bool, true, false, not, ◌&&◌, ◌||◌, ◌==◌, cond, refl, arith, ap, ◌∙◌}
use Rattle.std.proofs.lemmas.Bool.{and_parts}
use Rattle.std.proofs.lemmas.Bool.Decides.{nat_tests}
use Rattle.std.specs.List.{list_any}
use Rattle.std.specs.Ordering.{is_eq}
use Rattle.hm_names.specs.Order.{server_cmp, table_cmp}
use Rattle.hm_names.specs.Server.{Server}
use Rattle.hm_names.specs.declared.table.TableName.{TableName}
use Rattle.hm_index.specs.Index.{find}
use Rattle.hm_groups.specs.Groups.{GroupsView, drained_if, group_of, in_group_if, is_free, may}

not_true : (b : Bool) → not b ≡ true → b ≡ false
not_true true e = absurd (cc)
not_true false e = refl

-- where none is told to be drained, none is
none_drained : (rows : List (Server × Bool)) → list_any (λ row. row.1) rows ≡ false → (server : Server) → drained_if (find server_cmp rows server) ≡ false
none_drained [] none server = refl
none_drained ((here, drained) ∷ more) none server = by (is_eq (server_cmp here server)) drained none (λ rest. none_drained more rest server)
  where
    by : (b drained : Bool) → (drained || list_any (λ row. row.1) more) ≡ false → (list_any (λ row. row.1) more ≡ false → drained_if (find server_cmp more server) ≡ false)
        → drained_if (cond b (Some drained) (find server_cmp more server)) ≡ false
    by true false none rest = refl
    by false false none rest = rest none
    by b true none rest = absurd (cc)

-- where no table is in a group, this one isn't
none_grouped : (rows : List (TableName × List ℕ)) → (length rows == 0) ≡ true → (table : TableName) → find table_cmp rows table ≡ None
none_grouped [] none table = refl
none_grouped (row ∷ more) none table = absurd (grind (arith, nat_tests))

-- each table may be placed at each server
pub free_may : (view : GroupsView) (table : TableName) (server : Server) → is_free view ≡ true → may view table server ≡ true
free_may view table server free =
    let parts = and_parts (length view.tables == 0) (not (list_any (λ (row : Server × Bool). row.1) view.drained)) free in
    let drained = none_drained view.drained (not_true (list_any (λ row. row.1) view.drained) parts.1) server in
    let grouped = none_grouped view.tables parts.0 table in
    ap (λ b. not b && in_group_if view (group_of view table) server) drained ∙ ap (λ o. in_group_if view o server) grouped
