-- Parts stand in order, so a region that comes after them has no row yet.
use Rattle.std.proofs.Common.{◌≡◌, ℕ, List, ◌∷◌, true, false, Option, None, Some, refl, ap, sym, ◌∙◌, inl, inr}
use Rattle.std.specs.Ordering.{is_lt, nat_cmp, ordering_reverse, ordering_then}
use Rattle.std.specs.declared.cmp.Ordering.{Ordering}
use Rattle.std.specs.declared.cmp.Ordering.TheVariants.{Equal, Greater, Less}
use Rattle.std.proofs.lemmas.Bool.{cond-false, false≢true}
use Rattle.hm_names.specs.Order.{bytes_cmp, region_cmp, table_cmp}
use Rattle.hm_names.specs.Region.{Region}
use Rattle.hm_names.specs.declared.range.KeyRange.{KeyRange}
use Rattle.hm_names.specs.declared.table.TableName.{TableName}
use Rattle.hm_data.specs.Keys.{key_cmp}
use Rattle.hm_data.specs.declared.catalog.CatKey.{CatKey}
use Rattle.hm_data.specs.declared.catalog.CatKey.TheVariants as key_is
use Rattle.hm_data.specs.declared.catalog.CatRow.TheVariants as row_is
use Rattle.hm_data.specs.declared.catalog.Status.{Status}
use Rattle.hm_data.specs.declared.catalog.TableState.{TableState}
use Rattle.hm_data.specs.declared.entry.Entry.TheVariants as entry_is
use Rattle.hm_data.specs.declared.part.Part.{Part}
use Rattle.hm_data.specs.declared.part.Part.TheVariants as part_is
use Rattle.hm_data.specs.declared.place.Place.{Place}
use Rattle.hm_data.proofs.KeyOrder.{keys_total}
use Rattle.hm_model.specs.Base.{PartFits, Rises, rises}
use Rattle.hm_model.specs.Catalog.{cat}
use Rattle.hm_model.specs.Journal.{Past}
use Rattle.hm_model.specs.Keys.{same_key, same_table}
use Rattle.hm_model.specs.Parts.{part_row}
use Rattle.hm_model.specs.Rules.{IsLegal}
use Rattle.hm_base.specs.Live.{are_siblings}
use Rattle.hm_model.proofs.KeyTests.{cases_key, same_table-refl, table_cmp-is}

less_if : (o : Ordering) → is_lt o ≡ true → o ≡ Less
less_if Less e = refl
less_if Equal e = absurd (false≢true e)
less_if Greater e = absurd (false≢true e)

-- a part is the head, or of a key before this one
abbrev pub Before : Part → CatKey → Type 0
Before (part_is.Head entries last parts sheets) key = Unit {0}
Before (part_is.Namespace ns) key = key_cmp (key_is.Ns ns) key ≡ Less
Before (part_is.Table table own row) key = key_cmp (key_is.Table table) key ≡ Less
Before (part_is.Region region range status parents place) key = key_cmp (key_is.Region region) key ≡ Less
Before part key = ⊥

-- so is the last of some parts
abbrev Ends : Past → CatKey → Type 0
Ends (entry_is.Base own ∷ before) key = Before own key
Ends before key = ⊥

before_ns : (one : Part) (ns : List ℕ) → rises one (part_is.Namespace ns) ≡ true → Before one (key_is.Ns ns)
before_ns (part_is.Head entries last parts sheets) ns up = tt
before_ns (part_is.Namespace own) ns up = less_if (bytes_cmp own ns) up
before_ns part ns up = absurd (false≢true up)

before_table : (one : Part) (table : TableName) (more : ℕ) (state : Option (TableState × ℕ)) → rises one (part_is.Table table more state) ≡ true → Before one (key_is.Table table)
before_table (part_is.Head entries last parts sheets) table more state up = tt
before_table (part_is.Namespace own) table more state up = refl
before_table (part_is.Table one own row) table more state up = less_if (table_cmp one table) up
before_table part table more state up = absurd (false≢true up)

-- a region comes after the head and the parts of keys before its own
pub before_region : (one : Part) (region : Region) (range : KeyRange) (status : Status) (parents : List ℕ) (place : Place) → rises one (part_is.Region region range status parents place) ≡ true → Before one (key_is.Region region)
before_region (part_is.Head entries last parts sheets) region range status parents place up = tt
before_region (part_is.Namespace own) region range status parents place up = refl
before_region (part_is.Table one own row) region range status parents place up = refl
before_region (part_is.Region one given was ids at) region range status parents place up = less_if (region_cmp one region) up
before_region part region range status parents place up = absurd (false≢true up)

-- what is before a key is before those after it
further : (one : Part) (key later : CatKey) → Before one key → key_cmp key later ≡ Less → Before one later
further (part_is.Head entries last parts sheets) key later before less = tt
further (part_is.Namespace ns) key later before less = keys_total.trans (key_is.Ns ns) key later before less
further (part_is.Table table own row) key later before less = keys_total.trans (key_is.Table table) key later before less
further (part_is.Region region range status parents place) key later before less = keys_total.trans (key_is.Region region) key later before less
further part key later before less = absurd before

-- so is what stands before a part of such a key
ends_before : (before : Past) (key later : CatKey) (part : Part) → ((one : Part) → rises one part ≡ true → Before one key) → Rises before part → key_cmp key later ≡ Less → Ends before later
ends_before (entry_is.Base own ∷ before) key later part by up less = further own key later (by own up) less
ends_before before key later part by up less = absurd up

not_less : (key : CatKey) → key_cmp key key ≡ Less → ⊥
not_less key less = by (sym less ∙ keys_total.antisymm key key ∙ ap ordering_reverse less)
  where
    by : Less ≡ Greater → ⊥
    by e = cc

-- a key after another isn't the same
other_key : (one key : CatKey) → key_cmp one key ≡ Less → same_key key one ≡ false
other_key one key less = elim (cases_key key one) [
  | inl same ↦ absurd (not_less one (ap (key_cmp one) (sym same.1) ∙ less))
  | inr differs ↦ differs.0
]

-- a region after all parts has no row
module _ (region : Region) where
  abbrev key : CatKey
  key = key_is.Region region

  row_new : (before : Past) → IsLegal before → Ends before key → cat before key ≡ None
  row_new (entry_is.Base own ∷ before) legal ends = by (row_new before legal.0) own legal.1.0 ends
    where
      by : (Ends before key → cat before key ≡ None) → (part : Part) → PartFits part before → Before part key → part_row part key (cat before key) ≡ None
      by on (part_is.Head entries last parts sheets) fits less = refl
      by on (part_is.Namespace ns) fits less = on (ends_before before (key_is.Ns ns) key (part_is.Namespace ns) (λ one up. before_ns one ns up) fits less)
      by on (part_is.Table one own row) fits less =
          on (ends_before before (key_is.Table one) key (part_is.Table one own row) (λ other up. before_table other one own row up) fits.0 less)
      by on (part_is.Region one range status parents place) fits less =
          cond-false (same_key key (key_is.Region one)) (Some (row_is.Region range status parents)) (cat before key) (other_key (key_is.Region one) key less)
          ∙ on (ends_before before (key_is.Region one) key (part_is.Region one range status parents place) (λ other up. before_region other one range status parents place up) fits.0 less)
      by on part fits less = absurd less
  row_new before legal ends = absurd ends

pub region_new : (one : Part) (before : Past) → IsLegal (entry_is.Base one ∷ before) → (region : Region) → Before one (key_is.Region region) → cat (entry_is.Base one ∷ before) (key_is.Region region) ≡ None
region_new one before legal region is = row_new region (entry_is.Base one ∷ before) legal is

-- a table before another, by a region of each
table_less : (one region : Region) → region_cmp one region ≡ Less → same_table one.table region.table ≡ false → table_cmp one.table region.table ≡ Less
table_less one region less differs = by (table_cmp one.table region.table) refl less
  where
    greater : Greater ≡ Less → ⊥
    greater e = cc

    by : (o : Ordering) → table_cmp one.table region.table ≡ o → ordering_then o (nat_cmp one.id region.id) ≡ Less → o ≡ Less
    by Less e is = refl
    by Equal e is = absurd (false≢true (sym differs ∙ ap (same_table one.table) (sym (table_cmp-is one.table region.table e)) ∙ same_table-refl one.table))
    by Greater e is = absurd (greater is)

-- so each region of a table comes after parts none of which is of the table's regions
pub all_after : (one : Part) (region : Region) (range : KeyRange) (status : Status) (parents : List ℕ) (place : Place) → rises one (part_is.Region region range status parents place) ≡ true
    → are_siblings one (part_is.Region region range status parents place) ≡ false → (other : Region) → other.table ≡ region.table → Before one (key_is.Region other)
all_after (part_is.Head entries last parts sheets) region range status parents place up differs other same = tt
all_after (part_is.Namespace own) region range status parents place up differs other same = refl
all_after (part_is.Table one own row) region range status parents place up differs other same = refl
all_after (part_is.Region one given was ids at) region range status parents place up differs other same =
    ap (λ o. ordering_then o (nat_cmp one.id other.id)) (ap (table_cmp one.table) same ∙ table_less one region (less_if (region_cmp one region) up) differs)
all_after part region range status parents place up differs other same = absurd (false≢true up)
