-- The range of a region is that of its row, where it has one.
use Rattle.std.proofs.Common.{◌≡◌, ◌≢◌, if◌then◌else◌, Bool, List, [], ◌∷◌, ◌&&◌, true, false, cond, Option, Some, is_some, refl, ap, sym, ◌∙◌, subst, inl, inr}
use Rattle.std.proofs.lemmas.Bool.{and_left, and_parts, cond-false, cond-true, or_cases, true≢false}
use Rattle.std.proofs.lemmas.Option.{none-some}
use Rattle.hm_names.specs.Ranges.{overlaps}
use Rattle.hm_names.specs.Region.{Region}
use Rattle.hm_names.specs.declared.range.KeyRange.{KeyRange}
use Rattle.hm_names.specs.declared.table.TableName.{TableName}
use Rattle.hm_data.specs.declared.catalog.CatKey.TheVariants as key_is
use Rattle.hm_data.specs.declared.catalog.CatRow.{CatRow}
use Rattle.hm_data.specs.declared.catalog.Edit.{Edit}
use Rattle.hm_data.specs.declared.entry.Entry.TheVariants as entry_is
use Rattle.hm_model.specs.Catalog.{cat, edited}
use Rattle.hm_model.specs.Journal.{Past}
use Rattle.hm_data.specs.declared.catalog.CatRow.TheVariants as row_is
use Rattle.hm_model.specs.Keys.{same_key, same_region, same_table}
use Rattle.hm_data.specs.declared.part.Part.{Part}
use Rattle.hm_data.specs.declared.part.Part.TheVariants as part_is
use Rattle.hm_model.specs.Parts.{part_range, part_row}
use Rattle.hm_model.specs.Ranges.{IsLiveWith, NoneOverlap}
use Rattle.hm_model.specs.RowsSaid.{range_in}
use Rattle.hm_model.specs.Single.{overlap_if, range_of, ranged, ranged_by, touches}
use Rattle.hm_model.proofs.KeyTests.{cases_key, same_region-is, same_table-is}
use Rattle.hm_world_model.proofs.Facts.{cases_region}

-- a range is known where a row gives it
abbrev Gives : Option CatRow → Option KeyRange → Type 0
Gives row range = (x : KeyRange) → range_in row ≡ Some x → range ≡ Some x

edit_gives : (edit : Edit) (r : Region) (row : Option CatRow) (range : Option KeyRange) → Gives row range → Gives (cond (same_key (key_is.Region r) edit.key) edit.after row) (ranged_by edit r range)
edit_gives edit r row range gives x = elim (cases_key edit.key (key_is.Region r)) [
  | inl own ↦ λ h. (
      let given : range_in edit.after ≡ Some x = ap range_in (sym (cond-true (same_key (key_is.Region r) edit.key) edit.after row (subst (λ k. same_key k edit.key ≡ true) own.1 (subst (λ k. same_key edit.key k ≡ true) (sym own.1) own.0)))) ∙ h in
      cond-true (same_key edit.key (key_is.Region r) && is_some (range_in edit.after)) (range_in edit.after) range (ap (λ b. b && is_some (range_in edit.after)) own.0 ∙ ap is_some given) ∙ given
      )
  | inr other ↦ λ h.
      cond-false (same_key edit.key (key_is.Region r) && is_some (range_in edit.after)) (range_in edit.after) range (and_left (same_key edit.key (key_is.Region r)) (is_some (range_in edit.after)) other.0)
      ∙ gives x (ap range_in (sym (cond-false (same_key (key_is.Region r) edit.key) edit.after row (differs other.1))) ∙ h)
]
  where
    differs : edit.key ≢ key_is.Region r → same_key (key_is.Region r) edit.key ≡ false
    differs ne = elim (cases_key (key_is.Region r) edit.key) [ inl is ↦ absurd (ne (sym is.1)) | inr not_is ↦ not_is.0 ]

edits_give : (edits : List Edit) (r : Region) (row : Option CatRow) (range : Option KeyRange) → Gives row range → Gives (edited edits (key_is.Region r) row) (ranged edits r range)
edits_give [] r row range gives = gives
edits_give (edit ∷ edits) r row range gives = edits_give edits r (cond (same_key (key_is.Region r) edit.key) edit.after row) (ranged_by edit r range) (edit_gives edit r row range gives)

pub row_gives : (J : Past) (r : Region) → Gives (cat J (key_is.Region r)) (range_of J r)
row_gives [] r x h = absurd (none-some x h)
row_gives (entry_is.Step pid pick out ∷ J) r x h = edits_give out.edits r (cat J (key_is.Region r)) (range_of J r) (row_gives J r) x h
row_gives (entry_is.Undo pid row out ∷ J) r x h = edits_give out.edits r (cat J (key_is.Region r)) (range_of J r) (row_gives J r) x h
row_gives (entry_is.Base part ∷ J) r x h = part_gives part (cat J (key_is.Region r)) (range_of J r) (row_gives J r) x h
  where
    part_gives : (part : Part) (row : Option CatRow) (range : Option KeyRange) → Gives row range → Gives (part_row part (key_is.Region r) row) (part_range part r range)
    part_gives (part_is.Head entries last parts sheets) row range gives = λ x is. absurd (none-some x is)
    part_gives (part_is.Region own given status parents place) row range gives = by (same_region r own)
      where
        by : (b : Bool) → Gives (if b then Some (row_is.Region given status parents) else row) (if b then Some given else range)
        by true = λ x own_is. own_is
        by false = gives
    part_gives part row range gives = gives
row_gives (entry ∷ J) r x h = row_gives J r x h

-- live regions that touch are one, where those of each table don't overlap
pub live_apart : (J : Past) → ((table : TableName) → NoneOverlap (cat J) table) → (a b : Region) → ((range : KeyRange) × IsLiveWith (cat J) a range) → ((range : KeyRange) × IsLiveWith (cat J) b range) → touches J a b ≡ true → a ≡ b
live_apart J none a b one other touch = elim (or_cases (same_region a b) (same_table a.table b.table && overlap_if (range_of J a) (range_of J b)) touch) [
  | inl same ↦ same_region-is a b same
  | inr over ↦ elim (cases_region a b) [
    | inl same ↦ same.1
    | inr differs ↦ absurd (apart differs.1 (and_parts (same_table a.table b.table) (overlap_if (range_of J a) (range_of J b)) over))
  ]
]
  where
    apart : a ≢ b → (same_table a.table b.table ≡ true) × (overlap_if (range_of J a) (range_of J b) ≡ true) → ⊥
    apart differs over =
        let range_a : range_of J a ≡ Some one.0 = row_gives J a one.0 (ap range_in one.1.1) in
        let range_b : range_of J b ≡ Some other.0 = row_gives J b other.0 (ap range_in other.1.1) in
        let overlap : overlaps one.0 other.0 ≡ true = sym (ap (λ x. overlap_if x (range_of J b)) range_a ∙ ap (overlap_if (Some one.0)) range_b) ∙ over.1 in
        true≢false (sym overlap ∙ none a.table a b one.0 other.0 refl (sym (same_table-is a.table b.table over.0)) differs one.1 other.1)
