-- A merge of any number of regions leaves each table whole. No journal.
use Rattle.std.proofs.Common.{◌≡◌, ◌≢◌, ℕ, ◌+◌, ◌<◌, Bool, true, false, ◌&&◌, cond, List, [], ◌∷◌, ◌++◌, map, Option, Some, None, refl, sym, ap, subst, ◌∙◌, inl, inr, arith}
use Rattle.std.specs.Option.{option_map}
use Rattle.std.specs.List.{list_any}
use Rattle.std.specs.declared.cmp.Ordering.{Ordering}
use Rattle.std.specs.declared.cmp.Ordering.TheVariants.{Less, Equal, Greater}
use Rattle.std.proofs.lemmas.Bool.{and_left, and_parts, cases_Bool, false≢true, true≢false}
use Rattle.std.proofs.lemmas.Option.{none-some}
use Rattle.hm_names.specs.Order.{region_cmp}
use Rattle.hm_names.specs.Region.{Region}
use Rattle.hm_names.specs.Ranges.{holds}
use Rattle.hm_names.specs.declared.range.KeyRange.{KeyRange}
use Rattle.hm_names.specs.declared.table.TableName.{TableName}
use Rattle.hm_data.specs.declared.answer.Cause.TheVariants as cause_is
use Rattle.hm_data.specs.declared.catalog.CatKey.{CatKey}
use Rattle.hm_data.specs.declared.catalog.CatKey.TheVariants as key_is
use Rattle.hm_data.specs.declared.catalog.CatRow.{CatRow}
use Rattle.hm_data.specs.declared.catalog.CatRow.TheVariants as row_is
use Rattle.hm_data.specs.declared.catalog.Edit.{Edit}
use Rattle.hm_data.specs.declared.catalog.Status.TheVariants as status_is
use Rattle.hm_model.proofs.KeyTests.{same_table-is}
use Rattle.hm_model.proofs.Trees.{le_or_lt}
use Rattle.hm_model.specs.Catalog.{Catalog, edited, set_to}
use Rattle.hm_model.specs.Changes.{live_row, mark_merged, merge_edits, merged_of, region_key}
use Rattle.hm_model.specs.Checks.{are_adjacent, by_start, hull, is_chain, keep_part, parts_of, regions_live, rows_of}
use Rattle.hm_model.specs.Counts.{one_if}
use Rattle.hm_model.specs.Keys.{same_table}
use Rattle.hm_model.specs.Locks.{in_name_order, with_region, with_region_at}
use Rattle.hm_model.specs.RowsSaid.{in_status, range_in}
use Rattle.hm_model.specs.declared.merged.Merged.{Merged}
use Rattle.hm_model.specs.GoingBack.{Tells}
use Rattle.hm_cover.proofs.Chains.{PartsHaveKeys, by_start_holders, by_start_keys, chain_once, hull_has_key, part_holders}
use Rattle.hm_cover.proofs.Edits.{AreApart, HasNot, IsOff, Reads, off_append, tells_apart, whole_off}
use Rattle.hm_cover.proofs.Tally.{AllBelow, What, Row, Regions, counts, found, found-append, left, left-append, serves}
use Rattle.hm_cover.proofs.Whole.{AllFilled, IsEven, IsFilled, Whole, whole_even}

-- what is known of each of some regions: a live one of a table
abbrev pub IsLiveOf : Catalog → TableName → Region → Type 0
IsLiveOf there u r = (r.table ≡ u) × (range : KeyRange) × (parents : List ℕ) × (there (key_is.Region r) ≡ Some (row_is.Region range status_is.Live parents))

abbrev pub Each : (Region → Type 0) → List Region → Type 0
Each P [] = Unit {0}
Each P (r ∷ more) = P r × Each P more

-- different regions
abbrev pub Distinct : List Region → Type 0
Distinct [] = Unit {0}
Distinct (r ∷ more) = Each (λ other. other ≢ r) more × Distinct more

-- the order of names changes neither
module _ (P : Region → Type 0) where
  each_with : (r : Region) (rs : List Region) → P r → Each P rs → Each P (with_region r rs)
  each_with r [] one all = (one, tt)
  each_with r (first ∷ more) one all = by (region_cmp r first) (each_with r more one all.1)
    where
      by : (o : Ordering) → Each P (with_region r more) → Each P (with_region_at o r first more (with_region r more))
      by Less rest = (one, (all.0, all.1))
      by Equal rest = (one, (all.0, all.1))
      by Greater rest = (all.0, rest)

  pub each_ordered : (rs : List Region) → Each P rs → Each P (in_name_order rs)
  each_ordered [] all = tt
  each_ordered (r ∷ rs) all = each_with r (in_name_order rs) all.0 (each_ordered rs all.1)

distinct_with : (r : Region) (rs : List Region) → Each (λ other. other ≢ r) rs → Distinct rs → Distinct (with_region r rs)
distinct_with r [] apart all = (tt, tt)
distinct_with r (first ∷ more) apart all = by (region_cmp r first) (distinct_with r more apart.1 all.1)
  where
    by : (o : Ordering) → Distinct (with_region r more) → Distinct (with_region_at o r first more (with_region r more))
    by Less rest = (apart, all)
    by Equal rest = (apart, all)
    by Greater rest = (each_with (λ other. other ≢ first) r more (λ e. apart.0 (sym e)) all.0, rest)

distinct_ordered : (rs : List Region) → Distinct rs → Distinct (in_name_order rs)
distinct_ordered [] all = tt
distinct_ordered (r ∷ rs) all = distinct_with r (in_name_order rs) (each_ordered (λ other. other ≢ r) rs all.0) (distinct_ordered rs all.1)

-- a merge is the same in catalogs that have the same rows of its regions
module _ (seen there : Catalog) where
  abbrev pub IsSame : Region → Type 0
  IsSame r = seen (key_is.Region r) ≡ there (key_is.Region r)

  mark_seen : (rs : List Region) → Each IsSame rs → mark_merged seen rs ≡ mark_merged there rs
  mark_seen [] all = refl
  mark_seen (r ∷ rs) all =
      ap (λ o. record { key = key_is.Region r; before = o; after = option_map (in_status status_is.Merged) o } ∷ mark_merged seen rs) all.0
      ∙ ap (λ edits. record { key = key_is.Region r; before = there (key_is.Region r); after = option_map (in_status status_is.Merged) (there (key_is.Region r)) } ∷ edits) (mark_seen rs all.1)

  parts_seen : (rs : List Region) → Each IsSame rs → parts_of seen rs ≡ parts_of there rs
  parts_seen [] all = refl
  parts_seen (r ∷ rs) all = ap (λ o. keep_part r.id (range_in o) (parts_of seen rs)) all.0 ∙ ap (keep_part r.id (range_in (there (key_is.Region r)))) (parts_seen rs all.1)

  merged_seen : (u : TableName) (first : ℕ) (ps : List Merged) → seen (region_key u first) ≡ there (region_key u first) → merged_of seen u first ps ≡ merged_of there u first ps
  merged_seen u first [] same = refl
  merged_seen u first (p ∷ ps) same = ap (λ o. record { key = region_key u first; before = o; after = Some (live_row (hull p.range ps) (map (λ part. part.id) (p ∷ ps))) } ∷ []) same

  pub merge_seen : (region : Region) (more : List Region) (first : ℕ) → Each IsSame (region ∷ more) → seen (region_key region.table first) ≡ there (region_key region.table first) → merge_edits seen (region ∷ more) first ≡ merge_edits there (region ∷ more) first
  merge_seen region more first all same =
      ap (λ edits. edits ++ merged_of seen region.table first (by_start (parts_of seen (region ∷ more)))) (mark_seen (in_name_order (region ∷ more)) (each_ordered IsSame (region ∷ more) all))
      ∙ ap (λ edits. mark_merged there (in_name_order (region ∷ more)) ++ edits) (ap (λ ps. merged_of seen region.table first (by_start ps)) (parts_seen (region ∷ more) all) ∙ merged_seen region.table first (by_start (parts_of there (region ∷ more))) same)

module _ (there : Catalog) where
  -- marking regions
  mark_reads : (rs : List Region) → Reads (mark_merged there rs) there
  mark_reads [] = tt
  mark_reads (r ∷ rs) = (refl, mark_reads rs)

  region_same : (a b : Region) → key_is.Region a ≡ key_is.Region b → a ≡ b
  region_same a b e = ap (λ k. elim k as (λ x. Region) [ key_is.Ns ns ↦ b | key_is.Table t ↦ b | key_is.Region r ↦ r ]) e

  mark_not : (r : Region) (rs : List Region) → Each (λ other. other ≢ r) rs → HasNot (key_is.Region r) (mark_merged there rs)
  mark_not r [] apart = tt
  mark_not r (other ∷ rs) apart = ((λ e. apart.0 (region_same other r e)), mark_not r rs apart.1)

  mark_apart : (rs : List Region) → Distinct rs → AreApart (mark_merged there rs)
  mark_apart [] all = tt
  mark_apart (r ∷ rs) all = (mark_not r rs all.0, mark_apart rs all.1)

  mark_off : (u t : TableName) → same_table t u ≡ false → (rs : List Region) → Each (IsLiveOf there u) rs → IsOff t (mark_merged there rs)
  mark_off u t off [] all = tt
  mark_off u t off (r ∷ rs) all = (ap (same_table t) all.0.0 ∙ off, mark_off u t off rs all.1)

  mark_rows : (t : TableName) (rs : List Region) → (found Row t (mark_merged there rs) ≡ 0) × (left Row t (mark_merged there rs) ≡ 0)
  mark_rows t [] = (refl, refl)
  mark_rows t (r ∷ rs) = let rest = mark_rows t rs in (omega (arith, rest.0), omega (arith, rest.1))

  low_of : (n : ℕ) (u : TableName) → Whole n there u → (r : Region) → IsLiveOf there u r → r.id < n
  low_of n u whole r live = elim (le_or_lt n r.id) [
    | inl le ↦ absurd (none-some (row_is.Region live.1 status_is.Live live.2) (sym (whole.low r.id le) ∙ ap (λ t. there (region_key t r.id)) (sym live.0) ∙ live.3))
    | inr lt ↦ lt
  ]

  mark_low : (n : ℕ) (u : TableName) → Whole n there u → (rs : List Region) → Each (IsLiveOf there u) rs → AllBelow n (mark_merged there rs)
  mark_low n u whole [] all = tt
  mark_low n u whole (r ∷ rs) all = (low_of n u whole r all.0, mark_low n u whole rs all.1)

  merged_filled : (o : Option CatRow) → IsFilled (option_map (in_status status_is.Merged) o)
  merged_filled None = tt
  merged_filled (Some row_is.Ns) = tt
  merged_filled (Some (row_is.Table state version)) = tt
  merged_filled (Some (row_is.Region range status parents)) = tt

  mark_filled : (rs : List Region) → AllFilled (mark_merged there rs)
  mark_filled [] = tt
  mark_filled (r ∷ rs) = (merged_filled (there (key_is.Region r)), mark_filled rs)

  -- the marked regions serve nothing
  merged_serves : (k : List ℕ) (o : Option CatRow) → serves k (option_map (in_status status_is.Merged) o) ≡ false
  merged_serves k None = refl
  merged_serves k (Some row_is.Ns) = refl
  merged_serves k (Some (row_is.Table state version)) = refl
  merged_serves k (Some (row_is.Region range status parents)) = refl

  mark_left : (k : List ℕ) (t : TableName) (rs : List Region) → left (Regions (serves k)) t (mark_merged there rs) ≡ 0
  mark_left k t [] = refl
  mark_left k t (r ∷ rs) =
      let rest = mark_left k t rs in
      let here : one_if (same_table t r.table && serves k (option_map (in_status status_is.Merged) (there (key_is.Region r)))) ≡ 0 = ap one_if (Rattle.std.proofs.lemmas.Bool.and_right (same_table t r.table) (serves k (option_map (in_status status_is.Merged) (there (key_is.Region r)))) (merged_serves k (there (key_is.Region r)))) in
      omega (arith, rest, here)

  -- in name order they served what they served
  mark_found_with : (what : What) (t : TableName) (r : Region) (rs : List Region) → found what t (mark_merged there (with_region r rs)) ≡ one_if (counts what t (key_is.Region r) (there (key_is.Region r))) + found what t (mark_merged there rs)
  mark_found_with what t r [] = refl
  mark_found_with what t r (first ∷ more) = by (region_cmp r first) (mark_found_with what t r more)
    where
      by : (o : Ordering) → found what t (mark_merged there (with_region r more)) ≡ one_if (counts what t (key_is.Region r) (there (key_is.Region r))) + found what t (mark_merged there more)
          → found what t (mark_merged there (with_region_at o r first more (with_region r more))) ≡ one_if (counts what t (key_is.Region r) (there (key_is.Region r))) + (one_if (counts what t (key_is.Region first) (there (key_is.Region first))) + found what t (mark_merged there more))
      by Less rest = refl
      by Equal rest = refl
      by Greater rest = omega (arith, rest)

  mark_found_order : (what : What) (t : TableName) (rs : List Region) → found what t (mark_merged there (in_name_order rs)) ≡ found what t (mark_merged there rs)
  mark_found_order what t [] = refl
  mark_found_order what t (r ∷ rs) = mark_found_with what t r (in_name_order rs) ∙ ap (λ x. one_if (counts what t (key_is.Region r) (there (key_is.Region r))) + x) (mark_found_order what t rs)

  -- and served what their ranges have
  mark_found : (k : List ℕ) (u t : TableName) (rs : List Region) → Each (IsLiveOf there u) rs → found (Regions (serves k)) t (mark_merged there rs) ≡ cond (same_table t u) (part_holders k (parts_of there rs)) 0
  mark_found k u t [] all = by (same_table t u)
    where
      by : (b : Bool) → ◌≡◌ {A = ℕ} 0 (cond b 0 0)
      by true = refl
      by false = refl
  mark_found k u t (r ∷ rs) all =
      let live = all.0 in
      let rest = mark_found k u t rs all.1 in
      let parts : parts_of there (r ∷ rs) ≡ record { id = r.id; range = live.1 } ∷ parts_of there rs = ap (λ o. keep_part r.id (range_in o) (parts_of there rs)) live.3 in
      let first : one_if (same_table t r.table && serves k (there (key_is.Region r))) ≡ one_if (same_table t u && holds live.1 k) = ap (λ o. one_if (same_table t r.table && serves k o)) live.3 ∙ ap (λ x. one_if (same_table t x && holds live.1 k)) live.0 in
      ap (λ x. x + found (Regions (serves k)) t (mark_merged there rs)) first ∙ ap (λ x. one_if (same_table t u && holds live.1 k) + x) rest ∙ by (same_table t u) (holds live.1 k) (part_holders k (parts_of there rs)) ∙ ap (λ ps. cond (same_table t u) (part_holders k ps) 0) (sym parts)
    where
      by : (b x : Bool) (m : ℕ) → one_if (b && x) + cond b m 0 ≡ cond b (one_if x + m) 0
      by true x m = refl
      by false x m = refl

  live_keys : (n : ℕ) (u : TableName) → Whole n there u → (rs : List Region) → Each (IsLiveOf there u) rs → PartsHaveKeys (parts_of there rs)
  live_keys n u whole [] all = tt
  live_keys n u whole (r ∷ rs) all =
      let live = all.0 in
      subst PartsHaveKeys (sym (ap (λ o. keep_part r.id (range_in o) (parts_of there rs)) live.3)) (
        subst IsFilled (ap (λ t. there (region_key t r.id)) (sym live.0) ∙ live.3) (whole.filled r.id),
        live_keys n u whole rs all.1,
      )

  -- what the merged region is
  module _ (n : ℕ) (first : ℕ) (region : Region) (more : List Region) (live : Each (IsLiveOf there region.table) (region ∷ more)) (apart : Distinct (region ∷ more))
      (adjacent : are_adjacent (by_start (parts_of there (region ∷ more))) ≡ None) (present : there (key_is.Table region.table) ≢ None)
      (free : there (region_key region.table first) ≡ None) (low : first < n) where
    abbrev regions : List Region
    regions = region ∷ more

    abbrev u : TableName
    u = region.table

    abbrev marks : List Edit
    marks = mark_merged there (in_name_order regions)

    abbrev one_of : Merged → List Merged → List Edit
    one_of part parts = set_to there (region_key u first) (Some (live_row (hull part.range parts) (map (λ p. p.id) (part ∷ parts)))) ∷ []

    chain_of : (part : Merged) (parts : List Merged) → are_adjacent (part ∷ parts) ≡ None → is_chain part.range parts ≡ true
    chain_of part parts e = by (is_chain part.range parts) e
      where
        by : (b : Bool) → cond b None (Some cause_is.NotAdjacent) ≡ None → b ≡ true
        by true h = refl
        by false h = absurd (none-some cause_is.NotAdjacent (sym h))

    not_marked : (rs : List Region) → Each (IsLiveOf there u) rs → HasNot (region_key u first) (mark_merged there rs)
    not_marked [] all = tt
    not_marked (r ∷ rs) all = ((λ e. none-some (row_is.Region all.0.1 status_is.Live all.0.2) (sym free ∙ ap there (sym e) ∙ all.0.3)), not_marked rs all.1)

    reads_append : (xs ys : List Edit) → Reads xs there → Reads ys there → Reads (xs ++ ys) there
    reads_append [] ys a b = b
    reads_append (x ∷ xs) ys a b = (a.0, reads_append xs ys a.1 b)

    has_not_append : (key : CatKey) (xs ys : List Edit) → HasNot key xs → HasNot key ys → HasNot key (xs ++ ys)
    has_not_append key [] ys a b = b
    has_not_append key (x ∷ xs) ys a b = (a.0, has_not_append key xs ys a.1 b)

    -- one more edit, of another key than all
    apart_append : (xs : List Edit) (y : Edit) → AreApart xs → HasNot y.key xs → AreApart (xs ++ y ∷ [])
    apart_append [] y a b = (tt, tt)
    apart_append (x ∷ xs) y a b = (has_not_append x.key xs (y ∷ []) a.0 ((λ e. b.0 (sym e)), tt), apart_append xs y a.1 b.1)

    low_append : (xs ys : List Edit) → AllBelow n xs → AllBelow n ys → AllBelow n (xs ++ ys)
    low_append [] ys a b = b
    low_append (x ∷ xs) ys a b = (a.0, low_append xs ys a.1 b)

    filled_append : (xs ys : List Edit) → AllFilled xs → AllFilled ys → AllFilled (xs ++ ys)
    filled_append [] ys a b = b
    filled_append (x ∷ xs) ys a b = (a.0, filled_append xs ys a.1 b)

    live_ordered : Each (IsLiveOf there u) (in_name_order regions)
    live_ordered = each_ordered (IsLiveOf there u) regions live

    module _ (whole : Whole n there u) (part : Merged) (parts : List Merged) (are : by_start (parts_of there regions) ≡ part ∷ parts) where
      abbrev edits : List Edit
      edits = marks ++ one_of part parts

      keys_of_parts : PartsHaveKeys (part ∷ parts)
      keys_of_parts = subst PartsHaveKeys are (by_start_keys (parts_of there regions) (live_keys n u whole regions live))

      chain : is_chain part.range parts ≡ true
      chain = chain_of part parts (sym (ap are_adjacent are) ∙ adjacent)

      hull_once : (k : List ℕ) → one_if (holds (hull part.range parts) k) ≡ part_holders k (parts_of there regions)
      hull_once k = sym (chain_once part.range parts k keys_of_parts.0 keys_of_parts.1 chain) ∙ sym (ap (part_holders k) are) ∙ by_start_holders k (parts_of there regions)

      merge_tells : Tells edits there
      merge_tells = tells_apart edits there
          (reads_append marks (one_of part parts) (mark_reads (in_name_order regions)) (refl, tt))
          (apart_append marks (set_to there (region_key u first) (Some (live_row (hull part.range parts) (map (λ p. p.id) (part ∷ parts))))) (mark_apart (in_name_order regions) (distinct_ordered regions apart)) (not_marked (in_name_order regions) live_ordered))

      even_by : (b x : Bool) (m : ℕ) → one_if x ≡ m → cond b m 0 + (one_if (b && false) + 0) ≡ 0 + (one_if (b && x) + 0)
      even_by true x m e = omega (arith, e)
      even_by false x m e = refl

      merge_same : (t : TableName) (k : List ℕ) → found (Regions (serves k)) t edits ≡ left (Regions (serves k)) t edits
      merge_same t k =
          let was = found-append (Regions (serves k)) t marks (one_of part parts) ∙ ap (λ x. x + found (Regions (serves k)) t (one_of part parts)) (mark_found_order (Regions (serves k)) t regions ∙ mark_found k u t regions live) in
          let is = left-append (Regions (serves k)) t marks (one_of part parts) ∙ ap (λ x. x + left (Regions (serves k)) t (one_of part parts)) (mark_left k t (in_name_order regions)) in
          let none : one_if (same_table t u && serves k (there (region_key u first))) ≡ one_if (same_table t u && false) = ap (λ o. one_if (same_table t u && serves k o)) free in
          was ∙ ap (λ x. cond (same_table t u) (part_holders k (parts_of there regions)) 0 + (x + 0)) none ∙ even_by (same_table t u) (holds (hull part.range parts) k) (part_holders k (parts_of there regions)) (hull_once k) ∙ sym is

      merge_even : (t : TableName) → IsEven n t edits
      merge_even t = record {
        low = low_append marks (one_of part parts) (mark_low n u whole (in_name_order regions) live_ordered) (low, tt);
        full = filled_append marks (one_of part parts) (mark_filled (in_name_order regions)) (hull_has_key part.range parts keys_of_parts.0 keys_of_parts.1 chain, tt);
        same = merge_same t;
        found_row = found-append Row t marks (one_of part parts) ∙ (let none = (mark_rows t (in_name_order regions)).0 in omega (arith, none));
        left_row = left-append Row t marks (one_of part parts) ∙ (let none = (mark_rows t (in_name_order regions)).1 in omega (arith, none));
      }

      merged_by : (t : TableName) → Whole n there t → (b : Bool) → same_table t u ≡ b → Whole n (λ k. edited edits k (there k)) t
      merged_by t all true same = whole_even n edits there t all merge_tells (merge_even t) (inl (subst (λ x. there (key_is.Table x) ≢ None) (sym (same_table-is t u same)) present))
      merged_by t all false off = whole_off n edits there t (off_append t marks (one_of part parts) (mark_off u t off (in_name_order regions) live_ordered) (off, tt)) all

    pub merge_whole : (t : TableName) → Whole n there u → Whole n there t → Whole n (λ k. edited (merge_edits there regions first) k (there k)) t
    merge_whole t own all = by (by_start (parts_of there regions)) refl
      where
        -- with_part never gives none
        some_with : (p : Merged) (ps : List Merged) → Rattle.hm_model.specs.Checks.with_part p ps ≡ [] → ⊥
        some_with p [] e = cc
        some_with p (first ∷ more) e = pick (Rattle.std.specs.Ordering.is_le (Rattle.hm_names.specs.Order.bytes_cmp p.range.start first.range.start)) e
          where
            pick : (b : Bool) → cond b (p ∷ first ∷ more) (first ∷ Rattle.hm_model.specs.Checks.with_part p more) ≡ [] → ⊥
            pick true h = cc
            pick false h = cc

        some_here : by_start (parts_of there regions) ≡ [] → ⊥
        some_here e = some_with (record { id = region.id; range = live.0.1 }) (by_start (parts_of there more)) (sym (ap (λ o. by_start (keep_part region.id (range_in o) (parts_of there more))) live.0.3) ∙ e)

        by : (ps : List Merged) → by_start (parts_of there regions) ≡ ps → Whole n (λ k. edited (marks ++ merged_of there u first (by_start (parts_of there regions))) k (there k)) t
        by [] e = absurd (some_here e)
        by (part ∷ parts) e = subst (λ ps. Whole n (λ k. edited (marks ++ merged_of there u first ps) k (there k)) t) (sym e) (merged_by own part parts e t all (same_table t u) refl)
