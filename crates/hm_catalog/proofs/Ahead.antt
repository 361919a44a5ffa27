-- Where the tables of a namespace and the regions of a table begin and end.
use Rattle.std.proofs.Common.{◌≡◌, ◌≢◌, ℕ, List, [], ◌∷◌, Bool, true, false, ◌&&◌, ◌||◌, if◌then◌else◌, bytes_eq, Option, Some, None, refl, inl, inr, arith, ap, sym, ◌∙◌}
use Rattle.std.specs.List.{list_any}
use Rattle.std.specs.Cmp.Lexicographic.{texts_ties}
use Rattle.std.specs.Ordering.{is_eq, nat_cmp, ordering_then}
use Rattle.std.specs.declared.cmp.Ordering.{Ordering}
use Rattle.std.specs.declared.cmp.Ordering.TheVariants.{Less, Equal, Greater}
use Rattle.std.proofs.lemmas.Bool.{cases_Bool, true≢false}
use Rattle.hm_names.specs.Order.{bytes_cmp, table_cmp}
use Rattle.hm_names.specs.declared.table.TableName.{TableName}
use Rattle.hm_data.specs.Keys.{key_cmp}
use Rattle.hm_data.specs.declared.catalog.CatKey.{CatKey}
use Rattle.hm_data.specs.declared.catalog.CatKey.TheVariants as key_is
use Rattle.hm_data.specs.declared.catalog.CatRow.{CatRow}
use Rattle.hm_model.specs.Catalog.{keep}
use Rattle.hm_model.specs.Keys.{same_table}
use Rattle.hm_model.specs.RowsSaid.{Rows, all_among, is_table_in}
use Rattle.std.proofs.lemmas.Cmp.{ranked}
use Rattle.hm_model.proofs.KeyTests.{bytes_eq-is, bytes_eq-refl, key_cmp-same, same_table-is, same_table-refl, table_cmp-is}
use Rattle.hm_catalog.specs.Kept.{is_region_of}

-- a row that isn't there, or whose key doesn't pass, adds nothing
pub skip_any : (test : CatKey → Bool) (k : CatKey) (row : Option CatRow) (rows : Rows) → test k ≡ false → list_any (λ r. test r.0) (keep true k row rows) ≡ list_any (λ r. test r.0) rows
skip_any test k None rows off = refl
skip_any test k (Some row) rows off = ap (λ b. b || list_any (λ r. test r.0) rows) off

pub skip_region : (table : TableName) (k : CatKey) (row : Option CatRow) (rows : Rows) → is_region_of table k ≡ false → all_among table (keep true k row rows) ≡ all_among table rows
skip_region table k None rows off = refl
skip_region table (key_is.Ns ns) (Some row) rows off = refl
skip_region table (key_is.Table other) (Some row) rows off = refl
skip_region table (key_is.Region region) (Some row) rows off = ap (λ b. if b && true then (region ∷ all_among table rows) else all_among table rows) off

nat_least : (n : ℕ) → nat_cmp n 0 ≡ Less → ⊥
nat_least n e = let below = ranked n 0 Less (sym e) in omega (arith, below)

bytes_least : (bytes : List ℕ) → bytes_cmp bytes [] ≡ Less → ⊥
bytes_least [] e = cc
bytes_least (b ∷ bytes) e = cc

pub table_tied : (a b : TableName) → same_table a b ≡ true → table_cmp b a ≡ Equal
table_tied a b same = key_cmp-same (key_is.Table b) (key_is.Table a) (ap key_is.Table (sym (same_table-is a b same)))

pub region_below : (table : TableName) (k : CatKey) → key_cmp k (key_is.Region (record { table = table; id = 0 })) ≡ Less → is_region_of table k ≡ false
region_below table (key_is.Ns ns) e = refl
region_below table (key_is.Table other) e = refl
region_below table (key_is.Region region) e = elim (cases_Bool (same_table table region.table)) [
  | inl same ↦ absurd (nat_least region.id (sym (ap (λ o. ordering_then o (nat_cmp region.id 0)) (table_tied table region.table same)) ∙ e))
  | inr differs ↦ differs
]

pub region_gap : (table : TableName) (k q : CatKey) → key_cmp k (key_is.Region (record { table = table; id = 0 })) ≢ Less → is_region_of table k ≡ false → key_cmp k q ≡ Less → is_region_of table q ≡ false
region_gap table k (key_is.Ns ns) on off less = refl
region_gap table k (key_is.Table other) on off less = refl
region_gap table (key_is.Ns ns) (key_is.Region q) on off less = absurd (on refl)
region_gap table (key_is.Table other) (key_is.Region q) on off less = absurd (on refl)
region_gap table (key_is.Region k) (key_is.Region q) on off less = elim (cases_Bool (same_table table q.table)) [
  | inl same ↦ by (same_table-is table q.table same) (table_cmp k.table table) refl
  | inr differs ↦ differs
]
  where
    by : table ≡ q.table → (o : Ordering) → table_cmp k.table table ≡ o → is_region_of table (key_is.Region q) ≡ false
    by same Less e = absurd (on (ap (λ o. ordering_then o (nat_cmp k.id 0)) e))
    by same Equal e = absurd (true≢false (sym (ap (same_table table) (table_cmp-is k.table table e) ∙ same_table-refl table) ∙ off))
    by same Greater e =
        let greater : table_cmp k.table q.table ≡ Greater = ap (table_cmp k.table) (sym same) ∙ e in
        let turned : Greater ≡ Less = sym (ap (λ o. ordering_then o (nat_cmp k.id q.id)) greater) ∙ less in
        cc

ns_tied : (a b : List ℕ) → bytes_eq a b ≡ true → bytes_cmp b a ≡ Equal
ns_tied a b same = key_cmp-same (key_is.Ns b) (key_is.Ns a) (ap key_is.Ns (sym (bytes_eq-is a b same)))

ns_is : (a b : List ℕ) → bytes_cmp a b ≡ Equal → a ≡ b
ns_is a b e = bytes_eq-is a b (texts_ties a b ∙ ap is_eq e)

pub table_below : (ns : List ℕ) (k : CatKey) → key_cmp k (key_is.Table (record { ns = ns; qualifier = [] })) ≡ Less → is_table_in ns k ≡ false
table_below ns (key_is.Ns other) e = refl
table_below ns (key_is.Region region) e = refl
table_below ns (key_is.Table table) e = elim (cases_Bool (bytes_eq ns table.ns)) [
  | inl same ↦ absurd (bytes_least table.qualifier (sym (ap (λ o. ordering_then o (bytes_cmp table.qualifier [])) (ns_tied ns table.ns same)) ∙ e))
  | inr differs ↦ differs
]

pub table_gap : (ns : List ℕ) (k q : CatKey) → key_cmp k (key_is.Table (record { ns = ns; qualifier = [] })) ≢ Less → is_table_in ns k ≡ false → key_cmp k q ≡ Less → is_table_in ns q ≡ false
table_gap ns k (key_is.Ns other) on off less = refl
table_gap ns k (key_is.Region region) on off less = refl
table_gap ns (key_is.Ns other) (key_is.Table q) on off less = absurd (on refl)
table_gap ns (key_is.Region region) (key_is.Table q) on off less = cc
table_gap ns (key_is.Table k) (key_is.Table q) on off less = elim (cases_Bool (bytes_eq ns q.ns)) [
  | inl same ↦ by (bytes_eq-is ns q.ns same) (bytes_cmp k.ns ns) refl
  | inr differs ↦ differs
]
  where
    by : ns ≡ q.ns → (o : Ordering) → bytes_cmp k.ns ns ≡ o → is_table_in ns (key_is.Table q) ≡ false
    by same Less e = absurd (on (ap (λ o. ordering_then o (bytes_cmp k.qualifier [])) e))
    by same Equal e = absurd (true≢false (sym (ap (bytes_eq ns) (ns_is k.ns ns e) ∙ bytes_eq-refl ns) ∙ off))
    by same Greater e =
        let greater : bytes_cmp k.ns q.ns ≡ Greater = ap (bytes_cmp k.ns) (sym same) ∙ e in
        let turned : Greater ≡ Less = sym (ap (λ o. ordering_then o (bytes_cmp k.qualifier q.qualifier)) greater) ∙ less in
        cc
