-- The tests of tables, regions and keys decide equality, and keys compare as equal only where they are.
use Rattle.std.proofs.Common.{◌≡◌, ◌≢◌, ℕ, List, Bool, true, false, ◌==◌, refl, ap, sym, ◌∙◌, bytes_eq, Decides, ◌⊎◌, inl, inr}
use Rattle.std.proofs.lemmas.Bool.{and_parts, and_from, cases_Bool, true≢false, false≢true, eqb-true, eq-eqb}
use Rattle.std.proofs.lemmas.Slice.Eq.{bytes_eq-Decides}
use Rattle.std.proofs.lemmas.Cmp.{ranked, tied_itself}
use Rattle.std.specs.Cmp.Lexicographic.{texts_ties}
use Rattle.std.specs.Ordering.{is_eq, nat_cmp, ordering_then}
use Rattle.std.specs.declared.cmp.Ordering.{Ordering}
use Rattle.std.specs.declared.cmp.Ordering.TheVariants.{Less, Equal, Greater}
use Rattle.hm_names.specs.Order.{bytes_cmp, table_cmp, region_cmp}
use Rattle.hm_names.specs.Region.{Region}
use Rattle.hm_names.specs.declared.table.TableName.{TableName}
use Rattle.hm_data.proofs.KeyOrder.{keys_total}
use Rattle.hm_data.specs.Keys.{key_cmp}
use Rattle.hm_data.specs.declared.catalog.CatKey.{CatKey}
use Rattle.hm_data.specs.declared.catalog.CatKey.TheVariants as key_is
use Rattle.hm_model.specs.Keys.{same_table, same_region, same_key}

pub bytes_eq-is : (a b : List ℕ) → bytes_eq a b ≡ true → a ≡ b
bytes_eq-is a b h = (bytes_eq-Decides a b).0 h

pub bytes_eq-refl : (a : List ℕ) → bytes_eq a a ≡ true
bytes_eq-refl a = (bytes_eq-Decides a a).1 refl

pub same_table-is : (a b : TableName) → same_table a b ≡ true → a ≡ b
same_table-is a b h =
    let parts = and_parts (bytes_eq a.ns b.ns) (bytes_eq a.qualifier b.qualifier) h in
    ap (λ n. let t : TableName = record { ns = n; qualifier = a.qualifier } in t) (bytes_eq-is a.ns b.ns parts.0)
    ∙ ap (λ q. let t : TableName = record { ns = b.ns; qualifier = q } in t) (bytes_eq-is a.qualifier b.qualifier parts.1)

pub same_table-refl : (a : TableName) → same_table a a ≡ true
same_table-refl a = and_from (bytes_eq a.ns a.ns) (bytes_eq a.qualifier a.qualifier) (bytes_eq-refl a.ns) (bytes_eq-refl a.qualifier)

pub same_region-is : (a b : Region) → same_region a b ≡ true → a ≡ b
same_region-is a b h =
    let parts = and_parts (same_table a.table b.table) (a.id == b.id) h in
    ap (λ t. let r : Region = record { table = t; id = a.id } in r) (same_table-is a.table b.table parts.0)
    ∙ ap (λ n. let r : Region = record { table = b.table; id = n } in r) (eqb-true a.id b.id parts.1)

pub same_region-refl : (a : Region) → same_region a a ≡ true
same_region-refl a = and_from (same_table a.table a.table) (a.id == a.id) (same_table-refl a.table) (eq-eqb a.id a.id refl)

pub same_key-is : (a b : CatKey) → same_key a b ≡ true → a ≡ b
same_key-is (key_is.Ns a) (key_is.Ns b) h = ap key_is.Ns (bytes_eq-is a b h)
same_key-is (key_is.Ns a) (key_is.Table b) h = absurd (false≢true h)
same_key-is (key_is.Ns a) (key_is.Region b) h = absurd (false≢true h)
same_key-is (key_is.Table a) (key_is.Ns b) h = absurd (false≢true h)
same_key-is (key_is.Table a) (key_is.Table b) h = ap key_is.Table (same_table-is a b h)
same_key-is (key_is.Table a) (key_is.Region b) h = absurd (false≢true h)
same_key-is (key_is.Region a) (key_is.Ns b) h = absurd (false≢true h)
same_key-is (key_is.Region a) (key_is.Table b) h = absurd (false≢true h)
same_key-is (key_is.Region a) (key_is.Region b) h = ap key_is.Region (same_region-is a b h)

pub same_key-refl : (a : CatKey) → same_key a a ≡ true
same_key-refl (key_is.Ns a) = bytes_eq-refl a
same_key-refl (key_is.Table a) = same_table-refl a
same_key-refl (key_is.Region a) = same_region-refl a

-- a test that holds of each and itself, and only of those that are equal
decides : {K : Type 0} (test : K → K → Bool) → ((a b : K) → test a b ≡ true → a ≡ b) → ((a : K) → test a a ≡ true) → (a b : K) → Decides (test a b) (a ≡ b)
decides test is itself a b = (is a b, λ e. ap (test a) (sym e) ∙ itself a)

pub same_table-Decides : (a b : TableName) → Decides (same_table a b) (a ≡ b)
same_table-Decides = decides same_table same_table-is same_table-refl

pub same_region-Decides : (a b : Region) → Decides (same_region a b) (a ≡ b)
same_region-Decides = decides same_region same_region-is same_region-refl

pub same_key-Decides : (a b : CatKey) → Decides (same_key a b) (a ≡ b)
same_key-Decides = decides same_key same_key-is same_key-refl

pub cases_key : (a b : CatKey) → ((same_key a b ≡ true) × (a ≡ b)) ⊎ ((same_key a b ≡ false) × (a ≢ b))
cases_key a b = elim (cases_Bool (same_key a b)) [
  | inl on ↦ inl (on, same_key-is a b on)
  | inr off ↦ inr (off, λ e. true≢false (sym ((same_key-Decides a b).1 e) ∙ off))
]

-- what compares as equal in two parts does so in each
pub both_equal : (o p : Ordering) → ordering_then o p ≡ Equal → (o ≡ Equal) × (p ≡ Equal)
both_equal Less p h = cc
both_equal Equal p h = (refl, h)
both_equal Greater p h = cc

pub nat_cmp-is : (a b : ℕ) → nat_cmp a b ≡ Equal → a ≡ b
nat_cmp-is a b h = ranked a b Equal (sym h)

bytes_cmp-is : (a b : List ℕ) → bytes_cmp a b ≡ Equal → a ≡ b
bytes_cmp-is a b h = bytes_eq-is a b (texts_ties a b ∙ ap is_eq h)

pub table_cmp-is : (a b : TableName) → table_cmp a b ≡ Equal → a ≡ b
table_cmp-is a b h =
    let parts = both_equal (bytes_cmp a.ns b.ns) (bytes_cmp a.qualifier b.qualifier) h in
    same_table-is a b (and_from (bytes_eq a.ns b.ns) (bytes_eq a.qualifier b.qualifier) (texts_ties a.ns b.ns ∙ ap is_eq parts.0) (texts_ties a.qualifier b.qualifier ∙ ap is_eq parts.1))

pub region_cmp-is : (a b : Region) → region_cmp a b ≡ Equal → a ≡ b
region_cmp-is a b h =
    let parts = both_equal (table_cmp a.table b.table) (nat_cmp a.id b.id) h in
    ap (λ t. let r : Region = record { table = t; id = a.id } in r) (table_cmp-is a.table b.table parts.0)
    ∙ ap (λ n. let r : Region = record { table = b.table; id = n } in r) (nat_cmp-is a.id b.id parts.1)

pub key_cmp-is : (a b : CatKey) → key_cmp a b ≡ Equal → a ≡ b
key_cmp-is (key_is.Ns a) (key_is.Ns b) h = ap key_is.Ns (bytes_cmp-is a b h)
key_cmp-is (key_is.Ns a) (key_is.Table b) h = cc
key_cmp-is (key_is.Ns a) (key_is.Region b) h = cc
key_cmp-is (key_is.Table a) (key_is.Ns b) h = cc
key_cmp-is (key_is.Table a) (key_is.Table b) h = ap key_is.Table (table_cmp-is a b h)
key_cmp-is (key_is.Table a) (key_is.Region b) h = cc
key_cmp-is (key_is.Region a) (key_is.Ns b) h = cc
key_cmp-is (key_is.Region a) (key_is.Table b) h = cc
key_cmp-is (key_is.Region a) (key_is.Region b) h = ap key_is.Region (region_cmp-is a b h)

pub key_cmp-refl : (a : CatKey) → key_cmp a a ≡ Equal
key_cmp-refl a = tied_itself keys_total a

pub key_cmp-same : (a b : CatKey) → a ≡ b → key_cmp a b ≡ Equal
key_cmp-same a b e = ap (key_cmp a) (sym e) ∙ key_cmp-refl a
