-- Which keys the arguments of a procedure name.
use Rattle.std.proofs.Common.{◌≡◌, ℕ, ◌+◌, ◌<◌, List, [], ◌∷◌, length, slice_index_or, take, Bool, true, false, ◌==◌, ◌&&◌, ◌||◌, refl, ap, sym, ◌∙◌}
use Rattle.std.specs.List.{list_any}
use Rattle.std.proofs.lemmas.List.Folds.{list_any_more}
use Rattle.hm_names.specs.Region.{Region}
use Rattle.hm_names.specs.declared.table.TableName.{TableName}
use Rattle.hm_data.specs.declared.catalog.CatKey.{CatKey}
use Rattle.hm_data.specs.declared.catalog.CatKey.TheVariants as key_is
use Rattle.hm_model.specs.Keys.{same_key, same_table}
use Rattle.hm_model.specs.Reads.{is_region, is_region_in, is_table}
use Rattle.hm_model.specs.RowsSaid.{Rows}
use Rattle.hm_catalog.specs.Spans.{rows_of}
use Rattle.hm_reads.proofs.Inserted.{alike}

-- no key is asked for
pub none_asked : (rows : Rows) → [] ≡ rows_of (λ key. false) rows
none_asked [] = refl
none_asked (row ∷ more) = none_asked more

pub table_asked : (table : TableName) (key : CatKey) → same_key (key_is.Table table) key ≡ is_table table key
table_asked table (key_is.Ns ns) = refl
table_asked table (key_is.Table other) = refl
table_asked table (key_is.Region region) = refl

pub region_asked : (region : Region) (key : CatKey) → same_key (key_is.Region region) key ≡ is_region region key
region_asked region (key_is.Ns ns) = refl
region_asked region (key_is.Table table) = refl
region_asked region (key_is.Region other) = refl

-- where no number passes, no region is asked for
pub no_numbers : (table : TableName) (rows : Rows) → [] ≡ rows_of (is_region_in table (λ id. false)) rows
no_numbers table rows = none_asked rows ∙ sym (alike (is_region_in table (λ id. false)) (λ key. false) by rows)
  where
    and_none : (b : Bool) → (b && false) ≡ false
    and_none true = refl
    and_none false = refl

    by : (key : CatKey) → is_region_in table (λ id. false) key ≡ false
    by (key_is.Ns ns) = refl
    by (key_is.Table other) = refl
    by (key_is.Region region) = and_none (same_table table region.table)

or_assoc : (a b c : Bool) → ((a || b) || c) ≡ (a || (b || c))
or_assoc true b c = refl
or_assoc false b c = refl

-- a region more, with its table
pub region_next : (regions : List Region) (i : ℕ) (d region : Region) → i < length regions → region ≡ slice_index_or regions i d → (key : CatKey)
    → ((list_any (λ r. is_table r.table key || is_region r key) (take i regions) || same_key (key_is.Table region.table) key) || same_key (key_is.Region region) key)
    ≡ list_any (λ r. is_table r.table key || is_region r key) (take (i + 1) regions)
region_next regions i d region within is key =
    let before : Bool = list_any (λ r. is_table r.table key || is_region r key) (take i regions) in
    or_assoc before (same_key (key_is.Table region.table) key) (same_key (key_is.Region region) key)
    ∙ ap (λ b. before || (b || same_key (key_is.Region region) key)) (table_asked region.table key)
    ∙ ap (λ b. before || (is_table region.table key || b)) (region_asked region key)
    ∙ ap (λ (r : Region). before || (is_table r.table key || is_region r key)) is
    ∙ sym (list_any_more (λ r. is_table r.table key || is_region r key) regions i d within)

-- a number more
pub number_next : (table : TableName) (ids : List ℕ) (i : ℕ) → i < length ids → (key : CatKey)
    → (is_region_in table (λ n. list_any (λ own. own == n) (take i ids)) key || same_key (key_is.Region (record { table = table; id = slice_index_or ids i 0 })) key)
    ≡ is_region_in table (λ n. list_any (λ own. own == n) (take (i + 1) ids)) key
number_next table ids i within (key_is.Ns ns) = refl
number_next table ids i within (key_is.Table other) = refl
number_next table ids i within (key_is.Region region) =
    by (same_table table region.table) (list_any (λ own. own == region.id) (take i ids)) (slice_index_or ids i 0 == region.id)
    ∙ ap (λ b. same_table table region.table && b) (sym (list_any_more (λ own. own == region.id) ids i 0 within))
  where
    by : (t before here : Bool) → ((t && before) || (t && here)) ≡ (t && (before || here))
    by true before here = refl
    by false before here = refl
