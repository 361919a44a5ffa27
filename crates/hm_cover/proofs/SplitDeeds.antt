-- A split leaves each table whole. No journal.
use Rattle.std.proofs.Common.{◌≡◌, ◌≢◌, ℕ, ◌+◌, ◌<◌, Bool, true, false, ◌&&◌, cond, List, [], ◌∷◌, Option, Some, None, refl, sym, ap, subst, ◌∙◌, inl, inr, arith}
use Rattle.std.specs.Option.{option_map}
use Rattle.std.proofs.lemmas.Option.{none-some}
use Rattle.hm_names.specs.Region.{Region}
use Rattle.hm_names.specs.Ranges.{upper_part, lower_part, holds, inner}
use Rattle.hm_names.proofs.Ranges.{parts_hold_starts}
use Rattle.hm_names.specs.declared.range.KeyRange.{KeyRange}
use Rattle.hm_names.specs.declared.table.TableName.{TableName}
use Rattle.hm_data.specs.declared.answer.Cause.TheVariants as cause_is
use Rattle.hm_data.specs.declared.catalog.CatKey.TheVariants as key_is
use Rattle.hm_data.specs.declared.catalog.CatRow.{CatRow}
use Rattle.hm_data.specs.declared.catalog.CatRow.TheVariants as row_is
use Rattle.hm_data.specs.declared.catalog.Edit.{Edit}
use Rattle.hm_data.specs.declared.catalog.Status.TheVariants as status_is
use Rattle.hm_model.proofs.KeyTests.{same_table-is}
use Rattle.hm_model.proofs.Trees.{le_or_lt}
use Rattle.hm_model.proofs.Answered.{or_none}
use Rattle.hm_model.specs.Catalog.{Catalog, edited}
use Rattle.hm_model.specs.Changes.{live_row, region_key, split_edits, split_range}
use Rattle.hm_model.specs.Checks.{can_split, key_inside, region_ready, regions_live, table_enabled}
use Rattle.hm_model.specs.Counts.{one_if}
use Rattle.hm_model.specs.Keys.{same_table}
use Rattle.hm_model.specs.RowsSaid.{in_status, range_in}
use Rattle.hm_model.specs.GoingBack.{Tells}
use Rattle.hm_cover.proofs.Chains.{parts_once}
use Rattle.hm_cover.proofs.Edits.{IsOff, tells_apart, whole_off}
use Rattle.hm_cover.proofs.Whole.{IsEven, Whole, whole_even}

-- a table that is enabled is there
pub enabled_there : (o : Option CatRow) → table_enabled o ≡ None → o ≢ None
enabled_there None e = absurd (none-some cause_is.TableMissing (sym e))
enabled_there (Some row) e = λ none. none-some row (sym none)

abbrev IsLiveRow : Option CatRow → Type 0
IsLiveRow o = (range : KeyRange) × (parents : List ℕ) × (o ≡ Some (row_is.Region range status_is.Live parents))

-- regions of which none is against being live are there and live
pub live_first : (o : Option CatRow) (more : List (Option CatRow)) → regions_live (o ∷ more) ≡ None → (range : KeyRange) × (parents : List ℕ) × (o ≡ Some (row_is.Region range status_is.Live parents))
live_first None more e = absurd (none-some cause_is.RegionMissing (sym e))
live_first (Some row_is.Ns) more e = absurd (none-some cause_is.RegionMissing (sym e))
live_first (Some (row_is.Table state version)) more e = absurd (none-some cause_is.RegionMissing (sym e))
live_first (Some (row_is.Region range status_is.Live parents)) more e = (range, parents, refl)
live_first (Some (row_is.Region range status_is.Split parents)) more e = absurd (dead (Rattle.std.specs.List.list_any (λ row. Rattle.std.specs.Prelude.is_none (Rattle.hm_model.specs.RowsSaid.status_in row)) more) e)
  where
    dead : (b : Bool) → cond b (Some cause_is.RegionMissing) (Some cause_is.RegionNotLive) ≡ None → ⊥
    dead true h = none-some cause_is.RegionMissing (sym h)
    dead false h = none-some cause_is.RegionNotLive (sym h)
live_first (Some (row_is.Region range status_is.Merged parents)) more e = absurd (dead (Rattle.std.specs.List.list_any (λ row. Rattle.std.specs.Prelude.is_none (Rattle.hm_model.specs.RowsSaid.status_in row)) more) e)
  where
    dead : (b : Bool) → cond b (Some cause_is.RegionMissing) (Some cause_is.RegionNotLive) ≡ None → ⊥
    dead true h = none-some cause_is.RegionMissing (sym h)
    dead false h = none-some cause_is.RegionNotLive (sym h)

-- what stands of a region that can be split
pub record IsCut (there : Catalog) (region : Region) (key : List ℕ) : Type 0 where
  pub present : there (key_is.Table region.table) ≢ None
  pub range : KeyRange
  pub parents : List ℕ
  pub live : there (key_is.Region region) ≡ Some (row_is.Region range status_is.Live parents)
  pub inside : inner range key ≡ true

pub cut_is : (there : Catalog) (region : Region) (key : List ℕ) → can_split (there (key_is.Table region.table)) (there (key_is.Region region)) key ≡ None → IsCut there region key
cut_is there region key e =
    let one = or_none (region_ready (there (key_is.Table region.table)) (there (key_is.Region region))) (key_inside (range_in (there (key_is.Region region))) key) e in
    let two = or_none (table_enabled (there (key_is.Table region.table))) (regions_live (there (key_is.Region region) ∷ [])) one.0 in
    let live = live_first (there (key_is.Region region)) [] two.1 in
    record {
      present = enabled_there (there (key_is.Table region.table)) two.0;
      range = live.0;
      parents = live.1;
      live = live.2;
      inside = by (inner live.0 key) (sym (ap (λ o. key_inside (range_in o) key) live.2) ∙ one.1);
    }
  where
    by : (b : Bool) → cond b None (Some cause_is.KeyOutside) ≡ None → b ≡ true
    by true h = refl
    by false h = absurd (none-some cause_is.KeyOutside (sym h))

-- a split leaves the number as it is, in every table
split_by : (b whole one other : Bool) → one_if one + one_if other ≡ one_if whole
    → one_if (b && whole) + (one_if (b && false) + (one_if (b && false) + 0)) ≡ one_if (b && false) + (one_if (b && one) + (one_if (b && other) + 0))
split_by true whole one other e = omega (arith, e)
split_by false whole one other e = refl

module _ (region : Region) (key : List ℕ) (first : ℕ) where
  -- the edits of a split with any rows
  with_rows : Option KeyRange → Option CatRow → Option CatRow → Option CatRow → List Edit
  with_rows None own one other = []
  with_rows (Some range) own one other =
      record { key = key_is.Region region; before = own; after = option_map (in_status status_is.Split) own }
      ∷ record { key = region_key region.table first; before = one; after = Some (live_row (lower_part range key) (region.id ∷ [])) }
      ∷ record { key = region_key region.table (first + 1); before = other; after = Some (live_row (upper_part range key) (region.id ∷ [])) }
      ∷ []

  rows_are : (there : Catalog) (range : Option KeyRange) → split_range there region key first range ≡ with_rows range (there (key_is.Region region)) (there (region_key region.table first)) (there (region_key region.table (first + 1)))
  unfolding with_rows
  rows_are there None = refl
  rows_are there (Some range) = refl

  -- it is the same in catalogs that have the same rows of its regions
  pub split_seen : (seen there : Catalog) → seen (key_is.Region region) ≡ there (key_is.Region region) → seen (region_key region.table first) ≡ there (region_key region.table first)
      → seen (region_key region.table (first + 1)) ≡ there (region_key region.table (first + 1)) → split_edits seen region key first ≡ split_edits there region key first
  split_seen seen there own one other =
      rows_are seen (range_in (seen (key_is.Region region)))
      ∙ ap (λ o. with_rows (range_in o) o (seen (region_key region.table first)) (seen (region_key region.table (first + 1)))) own
      ∙ ap (λ a. with_rows (range_in (there (key_is.Region region))) (there (key_is.Region region)) a (seen (region_key region.table (first + 1)))) one
      ∙ ap (λ b. with_rows (range_in (there (key_is.Region region))) (there (key_is.Region region)) (there (region_key region.table first)) b) other
      ∙ sym (rows_are there (range_in (there (key_is.Region region))))

module _ (n : ℕ) (there : Catalog) (region : Region) (key : List ℕ) (first : ℕ) (cut : IsCut there region key)
    (free : there (region_key region.table first) ≡ None) (other_free : there (region_key region.table (first + 1)) ≡ None) (low : first + 1 < n) where
  -- the edits of the split, with the rows that they find
  abbrev told : List Edit
  told =
      record { key = key_is.Region region; before = Some (row_is.Region cut.range status_is.Live cut.parents); after = Some (row_is.Region cut.range status_is.Split cut.parents) }
      ∷ record { key = region_key region.table first; before = None; after = Some (live_row (lower_part cut.range key) (region.id ∷ [])) }
      ∷ record { key = region_key region.table (first + 1); before = None; after = Some (live_row (upper_part cut.range key) (region.id ∷ [])) }
      ∷ []

  pub split_told : split_edits there region key first ≡ told
  unfolding with_rows
  split_told =
      rows_are region key first there (range_in (there (key_is.Region region)))
      ∙ ap (λ o. with_rows region key first (range_in o) o (there (region_key region.table first)) (there (region_key region.table (first + 1)))) cut.live
      ∙ ap (λ a. with_rows region key first (Some cut.range) (Some (row_is.Region cut.range status_is.Live cut.parents)) a (there (region_key region.table (first + 1)))) free
      ∙ ap (λ b. with_rows region key first (Some cut.range) (Some (row_is.Region cut.range status_is.Live cut.parents)) None b) other_free

  not_first : (id : ℕ) → there (region_key region.table id) ≡ None → region_key region.table id ≢ key_is.Region region
  not_first id none e = none-some (row_is.Region cut.range status_is.Live cut.parents) (sym none ∙ ap there e ∙ cut.live)

  id_of : (a b : ℕ) → region_key region.table a ≡ region_key region.table b → a ≡ b
  id_of a b e = ap (λ k. elim k as (λ x. ℕ) [ key_is.Ns ns ↦ 0 | key_is.Table t ↦ 0 | key_is.Region r ↦ r.id ]) e

  split_tells : Tells told there
  split_tells = tells_apart told there
      (sym cut.live, (sym free, (sym other_free, tt)))
      ((not_first first free, (not_first (first + 1) other_free, tt)), (((λ e. (let same = id_of (first + 1) first e in omega (arith, same))), tt), (tt, tt)))

  region_low : Whole n there region.table → region.id < n
  region_low whole = elim (le_or_lt n region.id) [
    | inl le ↦ absurd (none-some (row_is.Region cut.range status_is.Live cut.parents) (sym (whole.low region.id le) ∙ cut.live))
    | inr lt ↦ lt
  ]

  split_even : region.id < n → (t : TableName) → IsEven n t told
  split_even small t =
      let keys = parts_hold_starts cut.range key cut.inside in
      record {
        low = (small, ((omega (arith, low)), (low, tt)));
        full = (tt, (keys.0, (keys.1, tt)));
        same = λ k. split_by (same_table t region.table) (holds cut.range k) (holds (lower_part cut.range key) k) (holds (upper_part cut.range key) k) (parts_once cut.range key k cut.inside);
        found_row = refl;
        left_row = refl;
      }

  split_off : (t : TableName) → same_table t region.table ≡ false → IsOff t told
  split_off t off = (off, (off, (off, tt)))

  pub split_whole : (t : TableName) → Whole n there region.table → Whole n there t → Whole n (λ k. edited (split_edits there region key first) k (there k)) t
  split_whole t own whole = subst (λ edits. Whole n (λ k. edited edits k (there k)) t) (sym split_told) (by (same_table t region.table) refl)
    where
      by : (b : Bool) → same_table t region.table ≡ b → Whole n (λ k. edited told k (there k)) t
      by true same = whole_even n told there t whole split_tells (split_even (region_low own) t) (inl (subst (λ x. there (key_is.Table x) ≢ None) (sym (same_table-is t region.table same)) cut.present))
      by false off = whole_off n told there t (split_off t off) whole
