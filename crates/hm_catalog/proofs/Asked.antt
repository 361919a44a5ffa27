-- The rows that are asked for by their keys, and the deed among rows.
use Rattle.std.proofs.Common.{◌≡◌, ℕ, List, [], ◌∷◌, filter, Bool, true, false, ◌&&◌, ◌||◌, if◌then◌else◌, Option, Some, None, Ok, Err, refl, inl, inr, ap, sym, ◌∙◌}
use Rattle.std.specs.declared.cmp.Ordering.TheVariants.{Less}
use Rattle.std.proofs.lemmas.Bool.{cond-true, cond-false}
use Rattle.hm_names.specs.declared.table.TableName.{TableName}
use Rattle.hm_data.specs.Keys.{key_cmp}
use Rattle.hm_data.specs.declared.answer.Cause.{Cause}
use Rattle.hm_data.specs.declared.catalog.CatKey.{CatKey}
use Rattle.hm_data.specs.declared.catalog.CatKey.TheVariants as key_is
use Rattle.hm_data.specs.declared.catalog.CatRow.{CatRow}
use Rattle.hm_data.specs.declared.request.Request.{Request}
use Rattle.hm_data.specs.declared.request.Request.TheVariants as request_is
use Rattle.hm_model.specs.Catalog.{Catalog, keep, row_at, rows_at, set_to}
use Rattle.hm_model.specs.Changes.{remove_regions}
use Rattle.hm_model.specs.Checks.{namespace_empty, table_disabled}
use Rattle.hm_model.specs.Deeds.{deed, unless}
use Rattle.hm_model.specs.Keys.{same_key, same_table}
use Rattle.hm_model.specs.RowLaws.{AllBehind, AreInOrder}
use Rattle.hm_model.specs.Reads.{is_ns_or_table_in, is_region_in}
use Rattle.hm_model.specs.NamespaceActs.{has_table}
use Rattle.hm_model.specs.RowsSaid.{Rows, all_among, is_table_in, keep_region}
use Rattle.hm_model.proofs.KeyTests.{cases_key, key_cmp-same, same_key-refl}
use Rattle.hm_catalog.specs.Deeds.{against, edits_for}
use Rattle.hm_catalog.specs.Kept.{is_region_of}
use Rattle.hm_catalog.specs.Rows.{keys_in}
use Rattle.hm_catalog.proofs.Ahead.{skip_any, skip_region}

-- a catalog has these rows
abbrev pub Has : Catalog → Rows → Type 0
Has there [] = Unit {0}
Has there ((key, row) ∷ more) = (there key ≡ Some row) × Has there more

has_behind : (k : CatKey) (r : CatRow) (there : Catalog) (rows : Rows) → AllBehind k (keys_in rows) → Has there rows → Has (λ q. if same_key q k then Some r else there q) rows
has_behind k r there [] behind has = tt
has_behind k r there ((key, row) ∷ more) behind has =
    (cond-false (same_key key k) (Some r) (there key) (differs key behind.0) ∙ has.0, has_behind k r there more behind.1 has.1)
  where
    differs : (q : CatKey) → key_cmp k q ≡ Less → same_key q k ≡ false
    differs q less = elim (cases_key q k) [
      | inl same ↦ let tied = key_cmp-same k q (sym same.1) in cc
      | inr apart ↦ apart.0
    ]

pub has_own : (rows : Rows) → AreInOrder (keys_in rows) → Has (row_at rows) rows
has_own [] order = tt
has_own ((key, row) ∷ more) order =
    (cond-true (same_key key key) (Some row) (row_at more key) (same_key-refl key), has_behind key row (row_at more) more order.0 (has_own more order.1))

kept : (asked : CatKey → Bool) (key : CatKey) (row : CatRow) (more : Rows) → keep (asked key) key (Some row) more ≡ (if asked key then ((key, row) ∷ more) else more)
kept asked key row more = by (asked key)
  where
    by : (b : Bool) → keep b key (Some row) more ≡ (if b then ((key, row) ∷ more) else more)
    by true = refl
    by false = refl

pub asked_of_rows : (asked : CatKey → Bool) (there : Catalog) (rows : Rows) → Has there rows → rows_at asked there (keys_in rows) ≡ filter (λ r. asked r.0) rows
asked_of_rows asked there [] has = refl
asked_of_rows asked there ((key, row) ∷ more) has =
    ap (λ o. keep (asked key) key o (rows_at asked there (keys_in more))) has.0
    ∙ ap (keep (asked key) key (Some row)) (asked_of_rows asked there more has.1)
    ∙ kept asked key row (filter (λ r. asked r.0) more)

pub asked_of_keys : (asked : CatKey → Bool) (there : Catalog) (keys : List CatKey) → rows_at asked there keys ≡ filter (λ r. asked r.0) (rows_at (λ key. true) there keys)
asked_of_keys asked there [] = refl
asked_of_keys asked there (key ∷ keys) = ap (keep (asked key) key (there key)) (asked_of_keys asked there keys) ∙ by (there key) (asked key) refl
  where
    by : (o : Option CatRow) (b : Bool) → asked key ≡ b → keep b key o (filter (λ r. asked r.0) (rows_at (λ q. true) there keys)) ≡ filter (λ r. asked r.0) (keep true key o (rows_at (λ q. true) there keys))
    by None true e = refl
    by None false e = refl
    by (Some row) true e = sym (cond-true (asked key) ((key, row) ∷ filter (λ r. asked r.0) (rows_at (λ q. true) there keys)) (filter (λ r. asked r.0) (rows_at (λ q. true) there keys)) e)
    by (Some row) false e = sym (cond-false (asked key) ((key, row) ∷ filter (λ r. asked r.0) (rows_at (λ q. true) there keys)) (filter (λ r. asked r.0) (rows_at (λ q. true) there keys)) e)

-- what a deed looks for is among what it asks for
region_asked : (table : TableName) (key : CatKey) → is_region_in table (λ id. true) key ≡ false → is_region_of table key ≡ false
region_asked table (key_is.Ns ns) off = refl
region_asked table (key_is.Table other) off = refl
region_asked table (key_is.Region region) off = by (same_table table region.table) off
  where
    by : (b : Bool) → (b && true) ≡ false → b ≡ false
    by true e = cc
    by false e = refl

pub regions_asked : (table : TableName) (rows : Rows) → all_among table (filter (λ r. is_region_in table (λ id. true) r.0) rows) ≡ all_among table rows
regions_asked table [] = refl
regions_asked table ((key, row) ∷ more) = by (is_region_in table (λ id. true) key) refl (regions_asked table more)
  where
    by : (b : Bool) → is_region_in table (λ id. true) key ≡ b → all_among table (filter (λ r. is_region_in table (λ id. true) r.0) more) ≡ all_among table more
        → all_among table (if b then ((key, row) ∷ filter (λ r. is_region_in table (λ id. true) r.0) more) else filter (λ r. is_region_in table (λ id. true) r.0) more) ≡ all_among table ((key, row) ∷ more)
    by true e rest = ap (λ l. keep_region table (λ r. true) key row l) rest
    by false e rest = rest ∙ sym (skip_region table key (Some row) more (region_asked table key e))

table_asked : (ns : List ℕ) (key : CatKey) → is_ns_or_table_in ns key ≡ false → is_table_in ns key ≡ false
table_asked ns (key_is.Ns other) off = refl
table_asked ns (key_is.Table table) off = off
table_asked ns (key_is.Region region) off = refl

pub tables_asked : (ns : List ℕ) (rows : Rows) → has_table ns (filter (λ r. is_ns_or_table_in ns r.0) rows) ≡ has_table ns rows
tables_asked ns [] = refl
tables_asked ns ((key, row) ∷ more) = by (is_ns_or_table_in ns key) refl (tables_asked ns more)
  where
    by : (b : Bool) → is_ns_or_table_in ns key ≡ b → has_table ns (filter (λ r. is_ns_or_table_in ns r.0) more) ≡ has_table ns more
        → has_table ns (if b then ((key, row) ∷ filter (λ r. is_ns_or_table_in ns r.0) more) else filter (λ r. is_ns_or_table_in ns r.0) more) ≡ has_table ns ((key, row) ∷ more)
    by true e rest = ap (λ b. is_table_in ns key || b) rest
    by false e rest = rest ∙ sym (skip_any (is_table_in ns) key (Some row) more (table_asked ns key e))

-- the deed among rows in order is the cause against it, or its edits
pub deed_parts : (request : Request) (first : ℕ) (rows : Rows) → AreInOrder (keys_in rows) → deed request first (keys_in rows) (row_at rows) ≡ unless (against request rows) (edits_for request first rows)
deed_parts (request_is.CreateNamespace ns) first rows order = refl
deed_parts (request_is.DropNamespace ns) first rows order =
    ap (λ b. unless (namespace_empty (row_at rows (key_is.Ns ns)) b) (set_to (row_at rows) (key_is.Ns ns) None ∷ []))
    (ap (has_table ns) (asked_of_rows (is_ns_or_table_in ns) (row_at rows) rows (has_own rows order)) ∙ tables_asked ns rows)
deed_parts (request_is.CreateTable table split) first rows order = refl
deed_parts (request_is.DeleteTable table) first rows order =
    ap (λ l. unless (table_disabled (row_at rows (key_is.Table table))) (set_to (row_at rows) (key_is.Table table) None ∷ remove_regions (row_at rows) l))
    (ap (all_among table) (asked_of_rows (is_region_in table (λ id. true)) (row_at rows) rows (has_own rows order)) ∙ regions_asked table rows)
deed_parts (request_is.EnableTable table) first rows order = refl
deed_parts (request_is.DisableTable table) first rows order = refl
deed_parts (request_is.ModifyTable table version) first rows order = refl
deed_parts (request_is.SplitRegion region key) first rows order = refl
deed_parts (request_is.MergeRegions regions) first rows order = refl
deed_parts (request_is.Move region to) first rows order = refl

-- its cause, or its edits
pub deed_cause : (request : Request) (first : ℕ) (rows : Rows) → AreInOrder (keys_in rows) → (cause : Cause) → against request rows ≡ Some cause → deed request first (keys_in rows) (row_at rows) ≡ Err cause
deed_cause request first rows order cause is = deed_parts request first rows order ∙ ap (λ o. unless o (edits_for request first rows)) is

pub deed_edits : (request : Request) (first : ℕ) (rows : Rows) → AreInOrder (keys_in rows) → against request rows ≡ None → deed request first (keys_in rows) (row_at rows) ≡ Ok (edits_for request first rows)
deed_edits request first rows order free = deed_parts request first rows order ∙ ap (λ o. unless o (edits_for request first rows)) free
