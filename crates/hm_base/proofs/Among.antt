-- The ranges of a table's live regions, while its regions are read.
use Rattle.std.proofs.Common.{◌≡◌, ℕ, List, [], ◌∷◌, Bool, true, false, None, Some, if◌then◌else◌, refl, ap, sym, ◌∙◌, inl, inr, ◌⊎◌, subst}
use Rattle.std.proofs.lemmas.Bool.{cond-false, cond-true, false≢true}
use Rattle.std.proofs.lemmas.Option.{none-some}
use Rattle.hm_names.specs.Region.{Region}
use Rattle.hm_names.specs.declared.range.KeyRange.{KeyRange}
use Rattle.hm_names.specs.declared.table.TableName.{TableName}
use Rattle.hm_data.specs.declared.catalog.CatKey.TheVariants as key_is
use Rattle.hm_data.specs.declared.catalog.CatRow.TheVariants as row_is
use Rattle.hm_data.specs.declared.catalog.Status.{Status}
use Rattle.hm_data.specs.declared.catalog.Status.TheVariants as status_is
use Rattle.hm_data.specs.declared.entry.Entry.TheVariants as entry_is
use Rattle.hm_data.specs.declared.part.Part.{Part}
use Rattle.hm_data.specs.declared.part.Part.TheVariants as part_is
use Rattle.hm_data.specs.declared.place.Place.{Place}
use Rattle.hm_model.specs.Base.{rises}
use Rattle.hm_model.specs.Catalog.{Catalog, cat}
use Rattle.hm_model.specs.Journal.{Past}
use Rattle.hm_model.specs.Keys.{same_key}
use Rattle.hm_model.specs.Ranges.{IsLiveWith}
use Rattle.hm_model.specs.Rules.{IsLegal}
use Rattle.hm_model.proofs.KeyTests.{cases_key, same_key-refl, same_table-is}
use Rattle.hm_ranges.specs.Laws.{AreLiveOf}
use Rattle.hm_ranges.specs.Ranges.{TakesIn}
use Rattle.hm_base.specs.Live.{AreLiveBy, TakesPart, are_siblings}
use Rattle.hm_base.proofs.Fresh.{all_after, before_region, region_new}

-- where no region of a table has a row, no range is that of a live one
none_live : (there : Catalog) (table : TableName) → ((region : Region) → region.table ≡ table → there (key_is.Region region) ≡ None) → AreLiveOf there table []
none_live there table none range = (λ among. absurd among, λ at. none-some _ (sym (none at.0 at.1) ∙ (at.2).1))

-- the ranges of another table's regions are of no use
turned_to : (one : Part) (older : Past) → IsLegal (entry_is.Base one ∷ older) → (region : Region) (range : KeyRange) (status : Status) (parents : List ℕ) (place : Place)
    → rises one (part_is.Region region range status parents place) ≡ true → (ranges : List KeyRange) → AreLiveBy (entry_is.Base one ∷ older) one ranges
    → (same : Bool) → are_siblings one (part_is.Region region range status parents place) ≡ same → AreLiveOf (cat (entry_is.Base one ∷ older)) region.table (if same then ranges else [])
turned_to one older legal region range status parents place up ranges live false differs =
    none_live (cat (entry_is.Base one ∷ older)) region.table (λ other same. region_new one older legal other (all_after one region range status parents place up differs other same))
turned_to (part_is.Region own given was ids at) older legal region range status parents place up ranges live true same =
    subst (λ t. AreLiveOf (cat (entry_is.Base (part_is.Region own given was ids at) ∷ older)) t ranges) (same_table-is own.table region.table same) live
turned_to one older legal region range status parents place up ranges live true same = absurd (false≢true same)

pub turned : (one : Part) (older : Past) → IsLegal (entry_is.Base one ∷ older) → (part : Part) → rises one part ≡ true → (ranges : List KeyRange) → AreLiveBy (entry_is.Base one ∷ older) one ranges
    → AreLiveBy (entry_is.Base one ∷ older) part (if are_siblings one part then ranges else [])
turned one older legal (part_is.Region region range status parents place) up ranges live =
    turned_to one older legal region range status parents place up ranges live (are_siblings one (part_is.Region region range status parents place)) refl
turned one older legal part up ranges live = tt

row_is_own : (range given : KeyRange) (status : Status) (parents ids : List ℕ) → Some (row_is.Region range status parents) ≡ Some (row_is.Region given status_is.Live ids) → (given ≡ range) × (status ≡ status_is.Live)
row_is_own range given status parents ids e = (cc, cc)

-- with the row of a region that had none
module _ (there after : Catalog) (region : Region) (range : KeyRange) (status : Status) (parents : List ℕ)
    (own : after (key_is.Region region) ≡ Some (row_is.Region range status parents))
    (others : (other : Region) → same_key (key_is.Region other) (key_is.Region region) ≡ false → after (key_is.Region other) ≡ there (key_is.Region other))
    (new : there (key_is.Region region) ≡ None) (ranges : List KeyRange) (live : AreLiveOf there region.table ranges) where
  -- what is live now is the region, or was so before
  or_old : (other : Region) (given : KeyRange) → IsLiveWith after other given → ((given ≡ range) × (status ≡ status_is.Live)) ⊎ IsLiveWith there other given
  or_old other given at = elim (cases_key (key_is.Region other) (key_is.Region region)) [
    | inl same ↦ inl (row_is_own range given status parents at.0 (sym own ∙ ap after (sym same.1) ∙ at.1))
    | inr differs ↦ inr (at.0, sym (others other differs.0) ∙ at.1)
  ]

  -- what was live before is so now
  stays : (other : Region) (given : KeyRange) → IsLiveWith there other given → IsLiveWith after other given
  stays other given at = elim (cases_key (key_is.Region other) (key_is.Region region)) [
    | inl same ↦ absurd (none-some _ (sym new ∙ ap there (sym same.1) ∙ at.1))
    | inr differs ↦ (at.0, others other differs.0 ∙ at.1)
  ]

  live_more : (list : List KeyRange) → status ≡ status_is.Live → TakesIn range ranges list → AreLiveOf after region.table list
  live_more list is takes given = (
    λ among. elim ((takes given).0 among) [
      | inl same ↦ (region, refl, (parents, own ∙ ap (λ s. Some (row_is.Region range s parents)) is ∙ ap (λ r. Some (row_is.Region r status_is.Live parents)) (sym same)))
      | inr old ↦ (let at = (live given).0 old in (at.0, at.1, stays at.0 given at.2))
    ],
    λ at. elim (or_old at.0 given at.2) [
      | inl now ↦ (takes given).1 (inl now.0)
      | inr old ↦ (takes given).1 (inr ((live given).1 (at.0, at.1, old)))
    ],
  )

  live_still : (status ≡ status_is.Live → ⊥) → AreLiveOf after region.table ranges
  live_still never given = (
    λ among. (let at = (live given).0 among in (at.0, at.1, stays at.0 given at.2)),
    λ at. elim (or_old at.0 given at.2) [
      | inl now ↦ absurd (never now.1)
      | inr old ↦ (live given).1 (at.0, at.1, old)
    ],
  )

-- so with a region that comes after the others
module _ (one : Part) (older : Past) (legal : IsLegal (entry_is.Base one ∷ older)) (region : Region) (range : KeyRange) (parents : List ℕ) (place : Place) where
  abbrev before : Past
  before = entry_is.Base one ∷ older

  abbrev with_status : Status → Part
  with_status status = part_is.Region region range status parents place

  own_row : (status : Status) → cat (entry_is.Base (with_status status) ∷ before) (key_is.Region region) ≡ Some (row_is.Region range status parents)
  own_row status = cond-true (same_key (key_is.Region region) (key_is.Region region)) (Some (row_is.Region range status parents)) (cat before (key_is.Region region)) (same_key-refl (key_is.Region region))

  other_rows : (status : Status) (other : Region) → same_key (key_is.Region other) (key_is.Region region) ≡ false → cat (entry_is.Base (with_status status) ∷ before) (key_is.Region other) ≡ cat before (key_is.Region other)
  other_rows status other differs = cond-false (same_key (key_is.Region other) (key_is.Region region)) (Some (row_is.Region range status parents)) (cat before (key_is.Region other)) differs

  region_more : (status : Status) → rises one (with_status status) ≡ true → (old new : List KeyRange) → AreLiveOf (cat before) region.table old → TakesPart (with_status status) old new
      → AreLiveOf (cat (entry_is.Base (with_status status) ∷ before)) region.table new
  region_more status_is.Live up old new live takes =
      live_more (cat before) (cat (entry_is.Base (with_status status_is.Live) ∷ before)) region range status_is.Live parents (own_row status_is.Live) (other_rows status_is.Live)
      (region_new one older legal region (before_region one region range status_is.Live parents place up)) old live new refl takes
  region_more status up old new live same =
      subst (λ list. AreLiveOf (cat (entry_is.Base (with_status status) ∷ before)) region.table list) (sym same)
      (live_still (cat before) (cat (entry_is.Base (with_status status) ∷ before)) region range status parents (own_row status) (other_rows status)
      (region_new one older legal region (before_region one region range status parents place up)) old live never)
    where
      never : status ≡ status_is.Live → ⊥
      never e = cc

-- the ranges are those of the longer journal, with the range of the part
pub live_after : (one : Part) (older : Past) → IsLegal (entry_is.Base one ∷ older) → (part : Part) → rises one part ≡ true → (old new : List KeyRange) → AreLiveBy (entry_is.Base one ∷ older) part old → TakesPart part old new
    → AreLiveBy (entry_is.Base part ∷ entry_is.Base one ∷ older) part new
live_after one older legal (part_is.Region region range status parents place) up old new live takes = region_more one older legal region range parents place status up old new live takes
live_after one older legal part up old new live takes = tt
