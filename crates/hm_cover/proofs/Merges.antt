-- A merge of any number of regions keeps the ranges of their table.
use Rattle.std.proofs.Common.{◌≡◌, ◌≢◌, ℕ, suc, ◌+◌, ◌<◌, ◌≤◌, true, List, [], ◌∷◌, Option, Some, None, refl, sym, ap, subst, ◌∙◌, inl, inr, arith}
use Rattle.std.proofs.lemmas.Bool.{and_from, cases_eq, true≢false}
use Rattle.std.proofs.lemmas.Option.{none-some}
use Rattle.hm_names.specs.Ranges.{ends_behind}
use Rattle.hm_names.specs.Region.{Region}
use Rattle.hm_names.specs.declared.table.TableName.{TableName}
use Rattle.hm_names.proofs.Ranges.{shared_ends}
use Rattle.hm_data.specs.declared.catalog.CatKey.TheVariants as key_is
use Rattle.hm_data.specs.declared.catalog.CatRow.{CatRow}
use Rattle.hm_data.specs.declared.catalog.CatRow.TheVariants as row_is
use Rattle.hm_data.specs.declared.catalog.Status.TheVariants as status_is
use Rattle.hm_model.specs.Catalog.{Catalog, edited}
use Rattle.hm_model.specs.Changes.{mark_merged, merge_edits, merged_of, region_key}
use Rattle.hm_model.specs.Checks.{are_adjacent, by_start, can_merge, parts_of, regions_live, rows_of, table_enabled}
use Rattle.hm_model.specs.Locks.{IsIn, in_name_order}
use Rattle.hm_model.specs.Phase.{or_else}
use Rattle.hm_model.specs.declared.merged.Merged.{Merged}
use Rattle.hm_model.proofs.Counting.{count_most, count_some}
use Rattle.hm_model.proofs.Trees.{le_or_lt}
use Rattle.hm_model.proofs.Answered.{or_none}
use Rattle.hm_model.proofs.Small.{some_one}
use Rattle.hm_kinds.proofs.Within.{edited-append}
use Rattle.hm_cover.specs.Merges.{AreOf, HasRanges, MergesKeepRanges}
use Rattle.hm_cover.proofs.Deeds.{live_each}
use Rattle.hm_cover.proofs.MergeDeeds.{Distinct, Each, merge_whole}
use Rattle.hm_cover.proofs.Tally.{serves}
use Rattle.hm_cover.proofs.Whole.{IsFilled, Whole, covered, filled_key, key_of_id, none_overlap, serves_is}

-- what is said in words, in counts
module _ (there : Catalog) (t : TableName) (has : HasRanges there t) (n : ℕ) (high : has.ends.0 ≤ n) where
  low_row : (id : ℕ) → n ≤ id → there (region_key t id) ≡ None
  low_row id le = has.ends.1 id (omega (arith, high, le))

  -- two that serve a key are one
  alone : (k : List ℕ) (i j : ℕ) → serves k (there (region_key t i)) ≡ true → serves k (there (region_key t j)) ≡ true → i ≡ j
  alone k i j si sj = elim (cases_eq i j) [
    | inl same ↦ same
    | inr differs ↦
        let a = serves_is k (there (region_key t i)) si in
        let b = serves_is k (there (region_key t j)) sj in
        let one : Region = record { table = t; id = i } in
        let other : Region = record { table = t; id = j } in
        let apart = has.apart one other a.0 b.0 refl refl (λ e. differs (ap (λ (r : Region). r.id) e)) (a.1, a.2) (b.1, b.2) in
        absurd (true≢false (sym (and_from (ends_behind a.0 b.0.start) (ends_behind b.0 a.0.start) (shared_ends a.0 b.0 k a.3 b.3) (shared_ends b.0 a.0 k b.3 a.3)) ∙ apart))
  ]

  some_serves : (k : List ℕ) → (id : ℕ) × (id < n) × (serves k (there (region_key t id)) ≡ true)
  some_serves k =
      let c = has.covered k in
      let row : there (region_key t c.0.id) ≡ Some (row_is.Region c.1 status_is.Live c.3.0) = ap there (key_of_id c.0 t c.2) ∙ c.3.1 in
      (c.0.id, elim (le_or_lt n c.0.id) [ inl le ↦ absurd (none-some _ (sym (low_row c.0.id le) ∙ row)) | inr lt ↦ lt ], ap (serves k) row ∙ c.4)

  filled_row : (id : ℕ) (o : Option CatRow) → there (region_key t id) ≡ o → IsFilled o
  filled_row id None e = tt
  filled_row id (Some row_is.Ns) e = tt
  filled_row id (Some (row_is.Table state version)) e = tt
  filled_row id (Some (row_is.Region range status_is.Live parents)) e = (let region : Region = record { table = t; id = id } in has.keyed region range refl (parents, e))
  filled_row id (Some (row_is.Region range status_is.Split parents)) e = tt
  filled_row id (Some (row_is.Region range status_is.Merged parents)) e = tt

  ranges_whole : Whole n there t
  ranges_whole = record {
    once = λ k. (
        let some = some_serves k in
        let least = count_some n (λ i. serves k (there (region_key t i))) some.0 some.1 some.2 in
        let most = count_most n (λ i. serves k (there (region_key t i))) (λ i j li lj si sj. alone k i j si sj) in
        let row = some_one (there (key_is.Table t)) has.present in
        omega (arith, least, most, row));
    bare = λ none. (let row = some_one (there (key_is.Table t)) has.present in absurd (omega (arith, none, row)));
    filled = λ id. filled_row id (there (region_key t id)) refl;
    low = low_row;
  }

-- the edits of a merge leave the rows of tables
marks_off : (there : Catalog) (rs : List Region) (t : TableName) (row : Option CatRow) → edited (mark_merged there rs) (key_is.Table t) row ≡ row
marks_off there [] t row = refl
marks_off there (r ∷ rs) t row = marks_off there rs t row

merged_off : (there : Catalog) (u : TableName) (first : ℕ) (parts : List Merged) (t : TableName) (row : Option CatRow) → edited (merged_of there u first parts) (key_is.Table t) row ≡ row
merged_off there u first [] t row = refl
merged_off there u first (part ∷ more) t row = refl

-- different regions of a table
each_of : (t : TableName) (regions : List Region) → AreOf t regions → Each (λ r. r.table ≡ t) regions
each_of t [] all = tt
each_of t (r ∷ more) all = (all.0, each_of t more all.2)

not_among : (r : Region) (regions : List Region) → (IsIn r regions → ⊥) → Each (λ other. other ≢ r) regions
not_among r [] out = tt
not_among r (other ∷ more) out = ((λ e. out (inl (sym e))), not_among r more (λ h. out (inr h)))

distinct_of : (t : TableName) (regions : List Region) → AreOf t regions → Distinct regions
distinct_of t [] all = tt
distinct_of t (r ∷ more) all = (not_among r more all.1, distinct_of t more all.2)

module _ (there : Catalog) (t : TableName) (region : Region) (more : List Region) (first : ℕ) (own : AreOf t (region ∷ more)) (can : can_merge (there (key_is.Table t)) there (region ∷ more) ≡ None)
    (free : there (region_key t first) ≡ None) (has : HasRanges there t) where
  abbrev after : Catalog
  after key = edited (merge_edits there (region ∷ more) first) key (there key)

  one : (table_enabled (there (key_is.Table t)) ≡ None) × (or_else (regions_live (rows_of there (region ∷ more))) (are_adjacent (by_start (parts_of there (region ∷ more)))) ≡ None)
  one = or_none (table_enabled (there (key_is.Table t))) (or_else (regions_live (rows_of there (region ∷ more))) (are_adjacent (by_start (parts_of there (region ∷ more))))) can

  two : (regions_live (rows_of there (region ∷ more)) ≡ None) × (are_adjacent (by_start (parts_of there (region ∷ more))) ≡ None)
  two = or_none (regions_live (rows_of there (region ∷ more))) (are_adjacent (by_start (parts_of there (region ∷ more)))) one.1

  its : t ≡ region.table
  its = sym own.0

  whole_was : Whole (has.ends.0 + suc first) there t
  whole_was = ranges_whole there t has (has.ends.0 + suc first) (omega arith)

  whole_own : Whole (has.ends.0 + suc first) there region.table
  whole_own = subst (Whole (has.ends.0 + suc first) there) its whole_was

  whole_now : Whole (has.ends.0 + suc first) (λ key. edited (merge_edits there (region ∷ more) first) key (there key)) t
  whole_now = merge_whole there (has.ends.0 + suc first) first region more
      (live_each there region.table (region ∷ more) (subst (λ u. Each (λ r. r.table ≡ u) (region ∷ more)) its (each_of t (region ∷ more) own)) two.0)
      (distinct_of t (region ∷ more) own) two.1
      (subst (λ u. there (key_is.Table u) ≢ None) its has.present)
      (ap (λ u. there (region_key u first)) own.0 ∙ free) (omega arith) t whole_own whole_was

  same_row : edited (merge_edits there (region ∷ more) first) (key_is.Table t) (there (key_is.Table t)) ≡ there (key_is.Table t)
  same_row = edited-append (mark_merged there (in_name_order (region ∷ more))) (merged_of there region.table first (by_start (parts_of there (region ∷ more)))) (key_is.Table t) (there (key_is.Table t))
      ∙ merged_off there region.table first (by_start (parts_of there (region ∷ more))) t (edited (mark_merged there (in_name_order (region ∷ more))) (key_is.Table t) (there (key_is.Table t)))
      ∙ marks_off there (in_name_order (region ∷ more)) t (there (key_is.Table t))

  still_there : edited (merge_edits there (region ∷ more) first) (key_is.Table t) (there (key_is.Table t)) ≢ None
  still_there none = has.present (sym same_row ∙ none)

  ranges_stay : HasRanges (λ key. edited (merge_edits there (region ∷ more) first) key (there key)) t
  ranges_stay = record {
    present = still_there;
    keyed = filled_key after t whole_now.filled;
    apart = none_overlap (has.ends.0 + suc first) after t whole_now;
    covered = covered (has.ends.0 + suc first) after t whole_now still_there;
    ends = (has.ends.0 + suc first, whole_now.low);
  }

pub merges_keep : MergesKeepRanges
merges_keep there t [] first own some can free has = absurd (some refl)
merges_keep there t (region ∷ more) first own some can free has = ranges_stay there t region more first own can free has
