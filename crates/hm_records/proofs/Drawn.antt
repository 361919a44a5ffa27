-- The region ids that an entry draws.
use Rattle.std.proofs.Common.{◌≡◌, ℕ, ◌+◌, ◌≤◌, ◌==◌, List, ◌∷◌, Bool, true, false, if◌then◌else◌, Option, Some, None, refl, ap, sym, ◌∙◌, arith}
use Rattle.std.proofs.lemmas.Bool.{eqb-true, true≢false}
use Rattle.std.proofs.lemmas.Option.{none-some, same_Some}
use Rattle.std.proofs.lemmas.Cmp.{tied_itself}
use Rattle.std.specs.Ordering.{is_eq}
use Rattle.std.specs.declared.cmp.Ordering.{Ordering}
use Rattle.std.specs.declared.cmp.Ordering.TheVariants.{Less, Equal, Greater}
use Rattle.hm_names.specs.Order.{table_cmp}
use Rattle.hm_names.specs.declared.table.TableName.{TableName}
use Rattle.hm_data.specs.declared.entry.Entry.{Entry}
use Rattle.hm_data.specs.declared.entry.Entry.TheVariants as entry_is
use Rattle.hm_data.specs.declared.part.Part.{Part}
use Rattle.hm_data.specs.declared.part.Part.TheVariants as part_is
use Rattle.hm_index.specs.Index.{find}
use Rattle.hm_model.specs.Journal.{Past}
use Rattle.hm_model.specs.Keys.{same_table}
use Rattle.hm_model.specs.Kinds.{table_of_request}
use Rattle.hm_model.specs.Rules.{IsLegal}
use Rattle.hm_model.specs.Parts.{part_drawn}
use Rattle.hm_model.specs.Tree.{drawn, ids_for, new_ids}
use Rattle.hm_model.proofs.Grown.{ids_within}
use Rattle.hm_model.proofs.KeyTests.{same_table-is, same_table-refl, table_cmp-is}
use Rattle.hm_model.proofs.NameTies.{tables_total}
use Rattle.hm_records.specs.Parts.{counted_for, ids_drawn, part_ids}
use Rattle.hm_records.specs.Records.{AreDrawn, beside_ids, count_if}

-- none are drawn for a table, or these are
abbrev none_or : Bool → TableName × ℕ → Option (TableName × ℕ)
none_or hidden ids = if hidden then None else Some ids

none_for : (own : Option TableName) (count : ℕ) → counted_for own count ≡ None → (t : TableName) → ids_for own count t ≡ 0
none_for None count none t = refl
none_for (Some table) count none t = by (count == 0) refl none
  where
    same : (b : Bool) → ◌≡◌ {A = ℕ} (if b then 0 else 0) 0
    same true = refl
    same false = refl

    by : (b : Bool) → (count == 0) ≡ b → none_or b (table, count) ≡ None → ids_for (Some table) count t ≡ 0
    by true e h = ap (λ n. if same_table table t then n else 0) (eqb-true count 0 e) ∙ same (same_table table t)
    by false e h = absurd (none-some (table, count) (sym h))

some_for : (own : Option TableName) (count : ℕ) (ids : TableName × ℕ) → counted_for own count ≡ Some ids → (t : TableName) → ids_for own count t ≡ (if same_table ids.0 t then ids.1 else 0)
some_for None count ids is t = absurd (none-some ids is)
some_for (Some table) count ids is t = by (count == 0) is
  where
    by : (b : Bool) → none_or b (table, count) ≡ Some ids → ids_for (Some table) count t ≡ (if same_table ids.0 t then ids.1 else 0)
    by true h = absurd (none-some ids h)
    by false h = ap (λ (x : TableName × ℕ). if same_table x.0 t then x.1 else 0) (same_Some (table, count) ids h)

-- tables compare as equal where they are one
table_ties : (a b : TableName) → is_eq (table_cmp a b) ≡ same_table a b
table_ties a b = by (same_table a b) refl
  where
    differs : (o : Ordering) → table_cmp a b ≡ o → same_table a b ≡ false → is_eq o ≡ false
    differs Less e off = refl
    differs Greater e off = refl
    differs Equal e off = absurd (true≢false (sym (ap (same_table a) (sym (table_cmp-is a b e)) ∙ same_table-refl a) ∙ off))

    by : (t : Bool) → same_table a b ≡ t → is_eq (table_cmp a b) ≡ t
    by true e = ap (λ x. is_eq (table_cmp a x)) (sym (same_table-is a b e)) ∙ ap is_eq (tied_itself tables_total a)
    by false e = differs (table_cmp a b) refl e

-- a part that tells no table, and one that does
untold : (part : Part) → part_ids part ≡ None → (t : TableName) (n : ℕ) → part_drawn part t n ≡ n
untold (part_is.Table table drawn own) none t n = absurd (none-some (table, drawn) (sym none))
untold part none t n = refl

is_told : (part : Part) (ids : TableName × ℕ) → part_ids part ≡ Some ids → (t : TableName) (n : ℕ) → part_drawn part t n ≡ (if same_table ids.0 t then ids.1 else n)
is_told (part_is.Table table drawn own) ids is t n = ap (λ (x : TableName × ℕ). if same_table x.0 t then x.1 else n) (same_Some (table, drawn) ids is)
is_told part ids is t n = absurd (none-some ids is)

-- a number with one more, or without
added : (b : Bool) (n k : ℕ) → n + (if b then k else 0) ≡ (if b then n + k else n)
added true n k = refl
added false n k = omega arith

alone : (b : Bool) (n k : ℕ) → (if b then k else n) ≡ (if b then 0 + k else n)
alone true n k = omega arith
alone false n k = refl

module _ (J : Past) where
  pub draws_none : (entry : Entry) → ids_drawn entry ≡ None → (t : TableName) → drawn (entry ∷ J) t ≡ drawn J t
  draws_none (entry_is.Submit nonce request) none t = let zero_is = none_for (table_of_request request) (new_ids request) none t in omega (arith, zero_is)
  draws_none (entry_is.Base part) none t = untold part none t (drawn J t)
  draws_none entry none t = refl

  pub draws_some : (entry : Entry) (ids : TableName × ℕ) → ids_drawn entry ≡ Some ids → (t : TableName)
      → drawn (entry ∷ J) t ≡ (if same_table ids.0 t then beside_ids entry (drawn J t) + ids.1 else drawn J t)
  draws_some (entry_is.Submit nonce request) ids is t =
      ap (λ n. drawn J t + n) (some_for (table_of_request request) (new_ids request) ids is t) ∙ added (same_table ids.0 t) (drawn J t) ids.1
  draws_some (entry_is.Base part) ids is t = is_told part ids is t (drawn J t) ∙ alone (same_table ids.0 t) (drawn J t) ids.1
  draws_some entry ids is t = absurd (none-some ids is)

  -- they stay within their limit
  pub few_drawn : (entry : Entry) (ids : TableName × ℕ) → ids_drawn entry ≡ Some ids → IsLegal (entry ∷ J) → beside_ids entry (drawn J ids.0) + ids.1 ≤ 4096
  few_drawn entry ids is legal =
      let few = ids_within (entry ∷ J) legal ids.0 in
      let sum = draws_some entry ids is ids.0 ∙ ap (λ b. if b then beside_ids entry (drawn J ids.0) + ids.1 else drawn J ids.0) (same_table-refl ids.0) in
      omega (arith, few, sum)

  -- the numbers that are kept
  pub drawn_none : (entry : Entry) → ids_drawn entry ≡ None → (old : List (TableName × ℕ)) → AreDrawn J old → AreDrawn (entry ∷ J) old
  drawn_none entry none old was t = was t ∙ sym (draws_none entry none t)

  pub drawn_some : (entry : Entry) (ids : TableName × ℕ) → ids_drawn entry ≡ Some ids → (old new : List (TableName × ℕ)) (value : ℕ) → AreDrawn J old
      → value ≡ beside_ids entry (count_if (find table_cmp old ids.0)) + ids.1
      → ((other : TableName) → find table_cmp new other ≡ (if is_eq (table_cmp ids.0 other) then Some value else find table_cmp old other)) → AreDrawn (entry ∷ J) new
  drawn_some entry ids is old new value was sum with_it t =
      ap count_if (with_it t) ∙ ap (λ b. count_if (if b then Some value else find table_cmp old t)) (table_ties ids.0 t) ∙ by (same_table ids.0 t) refl ∙ sym (draws_some entry ids is t)
    where
      by : (b : Bool) → same_table ids.0 t ≡ b → count_if (if b then Some value else find table_cmp old t) ≡ (if b then beside_ids entry (drawn J t) + ids.1 else drawn J t)
      by true e = sum ∙ ap (λ n. beside_ids entry n + ids.1) (was ids.0) ∙ ap (λ (s : TableName). beside_ids entry (drawn J s) + ids.1) (same_table-is ids.0 t e)
      by false e = was t
