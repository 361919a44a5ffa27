-- The row of a table, changed once and changed again.
use Rattle.std.proofs.Common.{◌≡◌, [], ◌∷◌, Bool, true, false, cond, Option, Some, None, refl, ap, sym, ◌∙◌}
use Rattle.std.specs.Prelude.{option_map}
use Rattle.std.proofs.lemmas.Bool.{cond-true}
use Rattle.hm_names.specs.declared.table.TableName.{TableName}
use Rattle.hm_data.specs.declared.catalog.CatKey.{CatKey}
use Rattle.hm_data.specs.declared.catalog.CatKey.TheVariants as key_is
use Rattle.hm_data.specs.declared.catalog.CatRow.{CatRow}
use Rattle.hm_data.specs.declared.catalog.CatRow.TheVariants as row_is
use Rattle.hm_data.specs.declared.catalog.TableState.{TableState}
use Rattle.hm_model.specs.Catalog.{Catalog, edited}
use Rattle.hm_model.specs.Changes.{changed}
use Rattle.hm_model.specs.Keys.{same_key, same_table}
use Rattle.hm_model.specs.RowsSaid.{in_state}
use Rattle.hm_model.proofs.KeyTests.{same_table-refl}

-- a change of what is the same gives the same
pub state_same : (table : TableName) (one other : Catalog) (change : CatRow → CatRow) → one (key_is.Table table) ≡ other (key_is.Table table) → (key : CatKey) (row : Option CatRow) → edited (changed one (key_is.Table table) change ∷ []) key row ≡ edited (changed other (key_is.Table table) change ∷ []) key row
state_same table one other change same key row = ap (λ o. cond (same_key key (key_is.Table table)) (option_map change o) row) same

-- what is seen of the row after a change
pub state_seen : (table : TableName) (base : Catalog) (change : CatRow → CatRow) (row : Option CatRow) → edited (changed base (key_is.Table table) change ∷ []) (key_is.Table table) row ≡ option_map change (base (key_is.Table table))
state_seen table base change row = cond-true (same_table table table) (option_map change (base (key_is.Table table))) row (same_table-refl table)

twice : (mid last : TableState) (o : Option CatRow) → option_map (in_state last) (option_map (in_state mid) o) ≡ option_map (in_state last) o
twice mid last None = refl
twice mid last (Some row_is.Ns) = refl
twice mid last (Some (row_is.Table state version)) = refl
twice mid last (Some (row_is.Region range status parents)) = refl

-- a table set to one state and then to another is set to the other
pub state_again : (table : TableName) (base others seen : Catalog) (mid last : TableState) → others (key_is.Table table) ≡ base (key_is.Table table) → seen (key_is.Table table) ≡ edited (changed base (key_is.Table table) (in_state mid) ∷ []) (key_is.Table table) (base (key_is.Table table)) → (key : CatKey) (row : Option CatRow)
    → edited (changed others (key_is.Table table) (in_state last) ∷ []) key row ≡ edited (changed seen (key_is.Table table) (in_state last) ∷ []) key (edited (changed base (key_is.Table table) (in_state mid) ∷ []) key row)
state_again table base others seen mid last same sees key row =
    ap (λ o. cond (same_key key (key_is.Table table)) o row) (ap (option_map (in_state last)) same ∙ sym (twice mid last (base (key_is.Table table))) ∙ sym (ap (option_map (in_state last)) (sees ∙ state_seen table base (in_state mid) (base (key_is.Table table)))))
    ∙ over (same_key key (key_is.Table table)) (option_map (in_state last) (seen (key_is.Table table))) (option_map (in_state mid) (base (key_is.Table table))) row
  where
    over : (b : Bool) (x y row : Option CatRow) → cond b x row ≡ cond b x (cond b y row)
    over true x y row = refl
    over false x y row = refl
