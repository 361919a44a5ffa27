-- A table has no more regions than ids were drawn for it.
use Rattle.std.proofs.Common.{◌≡◌, ℕ, ◌-◌, ◌<◌, ◌≤◌, Bool, true, false, ◌&&◌, if◌then◌else◌, List, [], ◌∷◌, length, Option, Some, None, refl, ap, sym, subst, ◌∙◌, arith}
use Rattle.std.specs.Ordering.{nat_cmp, ordering_then}
use Rattle.std.specs.declared.cmp.Ordering.TheVariants.{Less, Equal}
use Rattle.std.proofs.lemmas.Bool.{and_parts}
use Rattle.std.proofs.lemmas.Cmp.{ranked, tied_itself}
use Rattle.hm_names.specs.Order.{region_cmp, table_cmp}
use Rattle.hm_names.specs.Region.{Region}
use Rattle.hm_names.specs.declared.table.TableName.{TableName}
use Rattle.hm_data.specs.Keys.{key_cmp}
use Rattle.hm_data.specs.declared.catalog.CatKey.{CatKey}
use Rattle.hm_data.specs.declared.catalog.CatKey.TheVariants as key_is
use Rattle.hm_data.specs.declared.catalog.CatRow.{CatRow}
use Rattle.hm_model.specs.Catalog.{Catalog, cat, keep, keys_of, rows_at}
use Rattle.hm_model.specs.Journal.{Past}
use Rattle.hm_model.specs.Keys.{same_table}
use Rattle.hm_model.specs.Reads.{reads}
use Rattle.hm_model.specs.RowLaws.{AllBehind, AreInOrder}
use Rattle.hm_model.specs.RowsSaid.{regions_among}
use Rattle.hm_model.specs.Rules.{IsLegal}
use Rattle.hm_model.specs.Tree.{drawn}
use Rattle.hm_model.proofs.Grown.{ids_within}
use Rattle.hm_model.proofs.KeyTests.{same_table-is}
use Rattle.hm_model.proofs.NameTies.{tables_total}
use Rattle.hm_model.proofs.Rows.{keys_in_order}
use Rattle.hm_frames.proofs.ShortSteps.{FewRegions}
use Rattle.hm_frames.proofs.DrawnActs.{IfLow}
use Rattle.hm_frames.proofs.DrawnIds.{past_low}
use Rattle.hm_frames.proofs.ShortForms.{Each}

module _ (t : TableName) (there : Catalog) where
  -- a region of the table that is there has a greater id
  IsAbove : ℕ → CatKey → Option CatRow → Type 0
  IsAbove low key None = Unit {0}
  IsAbove low (key_is.Ns ns) (Some row) = Unit {0}
  IsAbove low (key_is.Table table) (Some row) = Unit {0}
  IsAbove low (key_is.Region region) (Some row) = region.table ≡ t → low < region.id

  abbrev AreAbove : ℕ → List CatKey → Type 0
  AreAbove low keys = Each (λ key. IsAbove low key (there key)) keys

  id_above : (r q : Region) → r.table ≡ t → q.table ≡ t → region_cmp r q ≡ Less → r.id < q.id
  id_above r q is is' less =
      let same : r.table ≡ q.table = is ∙ sym is' in
      let tied : table_cmp r.table q.table ≡ Equal = subst (λ u. table_cmp r.table u ≡ Equal) same (tied_itself tables_total r.table) in
      ranked r.id q.id Less (sym (ap (λ o. ordering_then o (nat_cmp r.id q.id)) (sym tied) ∙ less))

  key_above : (r : Region) (key : CatKey) (row : Option CatRow) → r.table ≡ t → key_cmp (key_is.Region r) key ≡ Less → IsAbove r.id key row
  unfolding IsAbove
  key_above r key None is less = tt
  key_above r (key_is.Ns ns) (Some row) is less = tt
  key_above r (key_is.Table table) (Some row) is less = tt
  key_above r (key_is.Region q) (Some row) is less = λ is'. id_above r q is is' less

  all_above : (r : Region) (keys : List CatKey) → r.table ≡ t → AllBehind (key_is.Region r) keys → AreAbove r.id keys
  all_above r [] is behind = tt
  all_above r (key ∷ keys) is behind = (key_above r key (there key) is behind.0, all_above r keys is behind.1)

  module _ (test : CatRow → Bool) (asked : CatKey → Bool) (high : ℕ) (low_ids : (key : CatKey) → IfLow (λ u. high) key (there key)) where
    abbrev Counted : List CatKey → Type 0
    Counted keys = (low : ℕ) → AreAbove low keys → length (regions_among t test (rows_at asked there keys)) ≤ high - low

    kept : (key : CatKey) (keys : List CatKey) (b : Bool) (row : Option CatRow) (low : ℕ) → IsAbove low key row → IfLow (λ u. high) key row → AllBehind key keys → Counted keys → AreAbove low keys
        → length (regions_among t test (keep b key row (rows_at asked there keys))) ≤ high - low
    unfolding IsAbove
    kept key keys false row low above id behind rest are = rest low are
    kept key keys true None low above id behind rest are = rest low are
    kept (key_is.Ns ns) keys true (Some row) low above id behind rest are = rest low are
    kept (key_is.Table table) keys true (Some row) low above id behind rest are = rest low are
    kept (key_is.Region r) keys true (Some row) low above id behind rest are = by (same_table t r.table && test row) refl
      where
        more : List Region
        more = regions_among t test (rows_at asked there keys)

        by : (b : Bool) → (same_table t r.table && test row) ≡ b → length (if b then (r ∷ regions_among t test (rows_at asked there keys)) else regions_among t test (rows_at asked there keys)) ≤ high - low
        by true e =
            let own : r.table ≡ t = sym (same_table-is t r.table (and_parts (same_table t r.table) (test row) e).0) in
            omega (arith, above own, id.1, rest r.id (all_above r keys own behind))
        by false e = rest low are

    counted : (keys : List CatKey) → AreInOrder keys → Counted keys
    counted [] order low are = omega arith
    counted (key ∷ keys) order low are =
        kept key keys (asked key) (there key) low are.0 (low_ids key) order.0 (counted keys order.1) are.1

    first_above : (key : CatKey) (row : Option CatRow) → IfLow (λ u. high) key row → IsAbove 0 key row
    unfolding IsAbove
    first_above key None id = tt
    first_above (key_is.Ns ns) (Some row) id = tt
    first_above (key_is.Table table) (Some row) id = tt
    first_above (key_is.Region r) (Some row) id = λ own. omega (arith, id.0)

    start_above : (keys : List CatKey) → AreAbove 0 keys
    start_above [] = tt
    start_above (key ∷ keys) = (first_above key (there key) (low_ids key), start_above keys)

within : (d : TableName → ℕ) (high : ℕ) → ((t : TableName) → d t ≤ high) → (key : CatKey) (row : Option CatRow) → IfLow d key row → IfLow (λ t. high) key row
within d high all key None is = tt
within d high all (key_is.Ns ns) (Some row) is = tt
within d high all (key_is.Table table) (Some row) is = tt
within d high all (key_is.Region r) (Some row) is = (is.0, omega (arith, is.1, all r.table))

-- the rows that are read of a legal journal have 4096 regions of a table at most
pub few_regions : (J : Past) → IsLegal J → FewRegions J
few_regions J legal args t test =
    let ids : (key : CatKey) → IfLow (λ u. 4096) key (cat J key) = λ key. within (drawn J) 4096 (ids_within J legal) key (cat J key) ((past_low J legal).rows key) in
    omega (arith, counted t (cat J) test (reads args) 4096 ids (keys_of J) (keys_in_order J) 0 (start_above t (cat J) test (reads args) 4096 ids (keys_of J)))
