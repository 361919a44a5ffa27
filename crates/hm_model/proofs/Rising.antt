-- Parts stand in order, so no part before one is of its key.
use Rattle.std.proofs.Common.{◌≡◌, ℕ, List, [], ◌∷◌, Bool, true, false, Option, None, Some, refl, ap, sym, ◌∙◌, inl, inr}
use Rattle.std.specs.Ordering.{is_lt, ordering_reverse}
use Rattle.std.specs.declared.cmp.Ordering.{Ordering}
use Rattle.std.specs.declared.cmp.Ordering.TheVariants.{Equal, Greater, Less}
use Rattle.std.proofs.lemmas.Bool.{cases_Bool, cond-false, false≢true}
use Rattle.hm_names.specs.Order.{bytes_cmp, region_cmp, table_cmp}
use Rattle.hm_names.specs.Region.{Region}
use Rattle.hm_names.specs.declared.table.TableName.{TableName}
use Rattle.hm_data.specs.Keys.{key_cmp}
use Rattle.hm_data.specs.declared.catalog.CatKey.{CatKey}
use Rattle.hm_data.specs.declared.catalog.CatKey.TheVariants as key_is
use Rattle.hm_data.specs.declared.catalog.CatRow.{CatRow}
use Rattle.hm_data.specs.declared.catalog.CatRow.TheVariants as row_is
use Rattle.hm_data.specs.declared.catalog.TableState.{TableState}
use Rattle.hm_data.specs.declared.entry.Entry.TheVariants as entry_is
use Rattle.hm_data.specs.declared.part.Part.{Part}
use Rattle.hm_data.specs.declared.part.Part.TheVariants as part_is
use Rattle.hm_data.proofs.KeyOrder.{keys_total}
use Rattle.hm_model.specs.Base.{PartFits, Rises, rises}
use Rattle.hm_model.specs.Catalog.{cat}
use Rattle.hm_model.specs.Journal.{Past}
use Rattle.hm_model.specs.Keys.{same_key, same_table}
use Rattle.hm_model.specs.Parts.{part_row, table_row}
use Rattle.hm_model.specs.Rules.{IsLegal}
use Rattle.hm_model.specs.Tree.{drawn}
use Rattle.hm_model.proofs.KeyTests.{cases_key, same_table-is}

less_if : (o : Ordering) → is_lt o ≡ true → o ≡ Less
less_if Less e = refl
less_if Equal e = absurd (false≢true e)
less_if Greater e = absurd (false≢true e)

-- a part is the head, or of a key before this one
abbrev Before : Part → CatKey → Type 0
Before (part_is.Head entries last parts sheets) key = Unit {0}
Before (part_is.Namespace ns) key = key_cmp (key_is.Ns ns) key ≡ Less
Before (part_is.Table table own row) key = key_cmp (key_is.Table table) key ≡ Less
Before (part_is.Region region range status parents place) key = key_cmp (key_is.Region region) key ≡ Less
Before part key = ⊥

abbrev Ends : Past → CatKey → Type 0
Ends (entry_is.Base own ∷ before) key = Before own key
Ends before key = ⊥

before_ns : (one : Part) (ns : List ℕ) → rises one (part_is.Namespace ns) ≡ true → Before one (key_is.Ns ns)
before_ns (part_is.Head entries last parts sheets) ns up = tt
before_ns (part_is.Namespace own) ns up = less_if (bytes_cmp own ns) up
before_ns part ns up = absurd (false≢true up)

before_table : (one : Part) (table : TableName) (more : ℕ) (state : Option (TableState × ℕ)) → rises one (part_is.Table table more state) ≡ true → Before one (key_is.Table table)
before_table (part_is.Head entries last parts sheets) table more state up = tt
before_table (part_is.Namespace own) table more state up = refl
before_table (part_is.Table one own row) table more state up = less_if (table_cmp one table) up
before_table part table more state up = absurd (false≢true up)

-- what is before a key is before those after it
further : (one : Part) (key later : CatKey) → Before one key → key_cmp key later ≡ Less → Before one later
further (part_is.Head entries last parts sheets) key later before less = tt
further (part_is.Namespace ns) key later before less = keys_total.trans (key_is.Ns ns) key later before less
further (part_is.Table table own row) key later before less = keys_total.trans (key_is.Table table) key later before less
further (part_is.Region region range status parents place) key later before less = keys_total.trans (key_is.Region region) key later before less
further part key later before less = absurd before

-- the part that a namespace or a table stands after
ends_ns : (before : Past) (ns : List ℕ) → Rises before (part_is.Namespace ns) → (later : CatKey) → key_cmp (key_is.Ns ns) later ≡ Less → Ends before later
ends_ns (entry_is.Base own ∷ before) ns up later less = further own (key_is.Ns ns) later (before_ns own ns up) less
ends_ns before ns up later less = absurd up

ends_table : (before : Past) (table : TableName) (more : ℕ) (state : Option (TableState × ℕ)) → Rises before (part_is.Table table more state) → Ends before (key_is.Table table)
ends_table (entry_is.Base own ∷ before) table more state up = before_table own table more state up
ends_table before table more state up = absurd up

ends_on : (before : Past) (table : TableName) (later : CatKey) → Ends before (key_is.Table table) → key_cmp (key_is.Table table) later ≡ Less → Ends before later
ends_on (entry_is.Base own ∷ before) table later ends less = further own (key_is.Table table) later ends less
ends_on before table later ends less = absurd ends

not_less : (key : CatKey) → key_cmp key key ≡ Less → ⊥
not_less key less = by (sym less ∙ keys_total.antisymm key key ∙ ap ordering_reverse less)
  where
    by : Less ≡ Greater → ⊥
    by e = cc

-- a key after another isn't the same
other_key : (one key : CatKey) → key_cmp one key ≡ Less → same_key key one ≡ false
other_key one key less = elim (cases_key key one) [
  | inl same ↦ absurd (not_less one (ap (key_cmp one) (sym same.1) ∙ less))
  | inr differs ↦ differs.0
]

-- so a table isn't there before its part
module _ (table : TableName) where
  abbrev key : CatKey
  key = key_is.Table table

  row_new : (before : Past) → IsLegal before → Ends before key → cat before key ≡ None
  row_new (entry_is.Base own ∷ before) legal ends = by (row_new before legal.0) own legal.1.0 ends
    where
      by : (Ends before key → cat before key ≡ None) → (part : Part) → PartFits part before → Before part key → part_row part key (cat before key) ≡ None
      by on (part_is.Head entries last parts sheets) fits less = refl
      by on (part_is.Namespace ns) fits less = on (ends_ns before ns fits key less)
      by on (part_is.Table one own row) fits less =
          cond-false (same_key key (key_is.Table one)) (table_row row) (cat before key) (other_key (key_is.Table one) key less)
          ∙ on (ends_on before one key (ends_table before one own row fits.0) less)
      by on (part_is.Region region range status parents place) fits less = absurd (greater less)
        where
          greater : Greater ≡ Less → ⊥
          greater e = cc
      by on part fits less = absurd less
  row_new before legal ends = absurd ends

  none_drawn : (before : Past) → IsLegal before → Ends before key → drawn before table ≡ 0
  none_drawn (entry_is.Base own ∷ before) legal ends = by (none_drawn before legal.0) own legal.1.0 ends
    where
      by : (Ends before key → drawn before table ≡ 0) → (part : Part) → PartFits part before → Before part key → drawn (entry_is.Base part ∷ before) table ≡ 0
      by on (part_is.Head entries last parts sheets) fits less = ap (λ j. drawn j table) fits.0
      by on (part_is.Namespace ns) fits less = on (ends_ns before ns fits key less)
      by on (part_is.Table one own row) fits less = elim (cases_Bool (same_table one table)) [
        | inl same ↦ absurd (not_less key (ap (λ t. key_cmp (key_is.Table t) key) (sym (same_table-is one table same)) ∙ less))
        | inr differs ↦ cond-false (same_table one table) own (drawn before table) differs ∙ on (ends_on before one key (ends_table before one own row fits.0) less)
      ]
      by on (part_is.Region region range status parents place) fits less = absurd (greater less)
        where
          greater : Greater ≡ Less → ⊥
          greater e = cc
      by on part fits less = absurd less
  none_drawn before legal ends = absurd ends

pub table_new : (table : TableName) (own : ℕ) (row : Option (TableState × ℕ)) (before : Past) → IsLegal before → PartFits (part_is.Table table own row) before → (cat before (key_is.Table table) ≡ None) × (drawn before table ≡ 0)
table_new table own row before legal fits =
    let ends = ends_table before table own row fits.0 in
    (row_new table before legal ends, none_drawn table before legal ends)
