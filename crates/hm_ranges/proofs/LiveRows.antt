-- The ranges of a table's live regions among the rows of a journal's catalog.
use Rattle.std.proofs.Common.{◌≡◌, ◌≢◌, ℕ, List, [], ◌∷◌, Option, Some, None, true, refl, inl, inr, ap, sym, ◌∙◌}
use Rattle.std.specs.List.{filter}
use Rattle.std.proofs.lemmas.Bool.{false≢true}
use Rattle.hm_names.specs.Region.{Region}
use Rattle.hm_names.specs.declared.range.KeyRange.{KeyRange}
use Rattle.hm_names.specs.declared.table.TableName.{TableName}
use Rattle.hm_data.specs.declared.catalog.CatKey.{CatKey}
use Rattle.hm_data.specs.declared.catalog.CatKey.TheVariants as key_is
use Rattle.hm_data.specs.declared.catalog.CatRow.{CatRow}
use Rattle.hm_data.specs.declared.catalog.CatRow.TheVariants as row_is
use Rattle.hm_data.specs.declared.catalog.Status.TheVariants as status_is
use Rattle.hm_model.specs.Catalog.{Catalog, cat, keep, keys_of, rows_at}
use Rattle.hm_model.specs.Journal.{Past}
use Rattle.hm_model.specs.Keys.{same_table}
use Rattle.hm_model.specs.Locks.{IsIn}
use Rattle.hm_model.specs.Ranges.{IsLiveWith}
use Rattle.hm_model.proofs.KeyTests.{same_table-is, same_table-refl}
use Rattle.hm_model.proofs.Rows.{has_key}
use Rattle.hm_catalog.specs.Kept.{is_region_of}
use Rattle.hm_catalog.specs.Rows.{rows_in}
use Rattle.hm_ranges.specs.Laws.{AreLiveOf}
use Rattle.hm_ranges.specs.Live.{live_in, ranges_in}
use Rattle.hm_ranges.proofs.Lists.{filter_in, filter_map_in, in_filter, in_filter_map}

row_there : (there : Catalog) (keys : List CatKey) (key : CatKey) (row : CatRow) → IsIn (key, row) (rows_at (λ k. true) there keys) → there key ≡ Some row
row_there there [] key row in_rows = absurd in_rows
row_there there (first ∷ keys) key row in_rows = by (λ more. row_there there keys key row more) (there first) refl in_rows
  where
    by : (IsIn (key, row) (rows_at (λ k. true) there keys) → there key ≡ Some row) → (o : Option CatRow) → there first ≡ o → IsIn (key, row) (keep true first o (rows_at (λ k. true) there keys)) → there key ≡ Some row
    by rest None e more = rest more
    by rest (Some own) e (inl same) = ap (λ (p : CatKey × CatRow). there p.0) same ∙ e ∙ ap (λ (p : CatKey × CatRow). Some p.1) (sym same)
    by rest (Some own) e (inr more) = rest more

there_row : (there : Catalog) (keys : List CatKey) (key : CatKey) (row : CatRow) → IsIn key keys → there key ≡ Some row → IsIn (key, row) (rows_at (λ k. true) there keys)
there_row there [] key row in_keys is = absurd in_keys
there_row there (first ∷ keys) key row in_keys is = by (λ more. there_row there keys key row more is) (there first) refl in_keys
  where
    clash : None ≡ Some row → ⊥
    clash e = cc

    apart : (a b : CatRow) → Some a ≡ Some b → a ≡ b
    apart a b e = cc

    by : (IsIn key keys → IsIn (key, row) (rows_at (λ k. true) there keys)) → (o : Option CatRow) → there first ≡ o → IsIn key (first ∷ keys) → IsIn (key, row) (keep true first o (rows_at (λ k. true) there keys))
    by rest None e (inl same) = absurd (clash (sym e ∙ ap there (sym same) ∙ is))
    by rest None e (inr more) = rest more
    by rest (Some own) e (inl same) =
        let one : row ≡ own = apart row own (sym is ∙ ap there same ∙ e) in
        inl (ap (λ (k : CatKey). (k, row)) same ∙ ap (λ (r : CatRow). (first, r)) one)
    by rest (Some own) e (inr more) = inr (rest more)

pub row_of_journal : (J : Past) (key : CatKey) (row : CatRow) → IsIn (key, row) (rows_in J) → cat J key ≡ Some row
row_of_journal J key row in_rows = row_there (cat J) (keys_of J) key row in_rows

pub row_in_journal : (J : Past) (key : CatKey) (row : CatRow) → cat J key ≡ Some row → IsIn (key, row) (rows_in J)
row_in_journal J key row is = there_row (cat J) (keys_of J) key row (has_key J key there) is
  where
    there : cat J key ≢ None
    there none = clash (sym none ∙ is)
      where
        clash : None ≡ Some row → ⊥
        clash e = cc

-- a row has the range of a live region exactly if it is a live region's row with that range
pub live_is : (row : Option CatRow) (range : KeyRange) → live_in row ≡ Some range → (parents : List ℕ) × (row ≡ Some (row_is.Region range status_is.Live parents))
live_is None range e = cc
live_is (Some row_is.Ns) range e = cc
live_is (Some (row_is.Table state version)) range e = cc
live_is (Some (row_is.Region own status_is.Live parents)) range e = (parents, ap (λ (r : KeyRange). Some (row_is.Region r status_is.Live parents)) (apart own range e))
  where
    apart : (a b : KeyRange) → Some a ≡ Some b → a ≡ b
    apart a b e = cc
live_is (Some (row_is.Region own status_is.Split parents)) range e = cc
live_is (Some (row_is.Region own status_is.Merged parents)) range e = cc

region_of : (table : TableName) (key : CatKey) → is_region_of table key ≡ true → (region : Region) × (key ≡ key_is.Region region) × (region.table ≡ table)
region_of table (key_is.Ns ns) e = absurd (false≢true e)
region_of table (key_is.Table other) e = absurd (false≢true e)
region_of table (key_is.Region region) e = (region, refl, sym (same_table-is table region.table e))

range_of_region : (J : Past) (table : TableName) (range : KeyRange) → IsIn range (ranges_in (rows_in J) table) → (region : Region) × (region.table ≡ table) × IsLiveWith (cat J) region range
range_of_region J table range there =
    let row = in_filter_map (λ (r : CatKey × CatRow). live_in (Some r.1)) range (filter (λ (r : CatKey × CatRow). is_region_of table r.0) (rows_in J)) there in
    let kept = in_filter (λ (r : CatKey × CatRow). is_region_of table r.0) row.0 (rows_in J) row.1 in
    let named = region_of table (row.0).0 kept.1 in
    let live = live_is (Some (row.0).1) range row.2 in
    (named.0, named.2, (live.0, ap (cat J) (sym named.1) ∙ row_of_journal J (row.0).0 (row.0).1 kept.0 ∙ live.1))

region_in_ranges : (J : Past) (table : TableName) (region : Region) (range : KeyRange) → region.table ≡ table → IsLiveWith (cat J) region range → IsIn range (ranges_in (rows_in J) table)
region_in_ranges J table region range of live =
    let row : CatRow = row_is.Region range status_is.Live live.0 in
    filter_map_in (λ (r : CatKey × CatRow). live_in (Some r.1)) range (key_is.Region region, row) (filter (λ (r : CatKey × CatRow). is_region_of table r.0) (rows_in J))
    (filter_in (λ (r : CatKey × CatRow). is_region_of table r.0) (key_is.Region region, row) (rows_in J) (row_in_journal J (key_is.Region region) row live.1) (ap (same_table table) of ∙ same_table-refl table))
    refl

-- they are the ranges of the live regions of the table
pub ranges_live : (J : Past) (table : TableName) → AreLiveOf (cat J) table (ranges_in (rows_in J) table)
ranges_live J table range = (range_of_region J table range, λ at. region_in_ranges J table at.0 range at.1 at.2)
