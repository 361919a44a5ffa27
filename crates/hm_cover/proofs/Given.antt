-- What a step leaves of the rows of regions, where its root asks for tables alone: what was there, or what the procedure's
-- args make of it. No journal.
use Rattle.std.proofs.Common.{◌≡◌, ℕ, ◌+◌, Bool, true, false, List, [], ◌∷◌, Option, Some, None, refl, sym, ap, subst, ◌∙◌, inl, inr, ◌⊎◌}
use Rattle.std.proofs.lemmas.Bool.{cases_Bool, cond-false, cond-true, false≢true, true≢false}
use Rattle.std.proofs.lemmas.Option.{same_Some}
use Rattle.std.specs.Prelude.{is_some}
use Rattle.hm_names.specs.Region.{Region}
use Rattle.hm_names.specs.declared.range.KeyRange.{KeyRange}
use Rattle.hm_names.specs.declared.table.TableName.{TableName}
use Rattle.hm_data.specs.declared.act.Act.{Act}
use Rattle.hm_data.specs.declared.act.Act.TheVariants as act_is
use Rattle.hm_data.specs.declared.args.Args.{Args}
use Rattle.hm_data.specs.declared.args.Args.TheVariants as args_are
use Rattle.hm_data.specs.declared.catalog.CatKey.{CatKey}
use Rattle.hm_data.specs.declared.catalog.CatKey.TheVariants as key_is
use Rattle.hm_data.specs.declared.catalog.CatRow.{CatRow}
use Rattle.hm_data.specs.declared.catalog.Edit.{Edit}
use Rattle.hm_data.specs.declared.request.Request.{Request}
use Rattle.hm_data.specs.declared.request.Request.TheVariants as request_is
use Rattle.hm_model.specs.Catalog.{Catalog, edited, keep, row_at, rows_at}
use Rattle.hm_model.specs.Changes.{add_ranges, remove_regions}
use Rattle.hm_model.specs.Keys.{same_key}
use Rattle.hm_model.specs.Kinds.{kind_of, request_kind}
use Rattle.hm_model.specs.Lists.{exact_rows}
use Rattle.hm_model.specs.Pieces.{ranges_between}
use Rattle.hm_model.specs.RowsSaid.{Rows}
use Rattle.hm_model.specs.Views.{regions_in}
use Rattle.hm_model.proofs.ExactRows.{is_listed}
use Rattle.hm_model.proofs.KeyTests.{cases_key}
use Rattle.hm_model.proofs.Small.{cons_nil}
use Rattle.hm_kinds.proofs.Shares.{add_effect, added_row, remove_effect, row_or, touches, value}
use Rattle.hm_kinds.proofs.Editless.{no_adds, no_drops}
use Rattle.hm_serial.proofs.Kinship.{is_kid}
use Rattle.hm_cover.proofs.Local.{asks_regions}
use Rattle.hm_cover.proofs.Shapes.{NoRegion, Shape, is_region_key}
use Rattle.hm_cover.proofs.Spared.{is_local}

-- each edit of a region's row tells what is read
abbrev pub RegionsRead : List Edit → Catalog → Type 0
RegionsRead [] there = Unit {0}
RegionsRead (edit ∷ edits) there = (is_region_key edit.key ≡ true → edit.before ≡ there edit.key) × RegionsRead edits there

-- what a step of a procedure leaves of a region's row, and finds there
pub record Gives (args : Args) (rows : Rows) (edits : List Edit) : Type 0 where
  pub leaves : (region : Region) (row : Option CatRow) → (edited edits (key_is.Region region) row ≡ row) ⊎ ((touches args (key_is.Region region) ≡ true) × (edited edits (key_is.Region region) row ≡ value args (key_is.Region region)))
  pub finds : RegionsRead edits (row_at rows)

no_region : (edits : List Edit) (region : Region) (row : Option CatRow) → NoRegion edits → edited edits (key_is.Region region) row ≡ row
no_region [] region row none = refl
no_region (edit ∷ edits) region row none = elim (cases_key (key_is.Region region) edit.key) [
  | inl same ↦ absurd (true≢false (ap is_region_key same.1 ∙ none.0))
  | inr differs ↦ ap (edited edits (key_is.Region region)) (cond-false (same_key (key_is.Region region) edit.key) edit.after row differs.0) ∙ no_region edits region row none.1
]

quiet_reads : (edits : List Edit) (there : Catalog) → NoRegion edits → RegionsRead edits there
quiet_reads [] there none = tt
quiet_reads (edit ∷ edits) there none = ((λ on. absurd (true≢false (sym on ∙ none.0))), quiet_reads edits there none.1)

quiet_gives : (args : Args) (rows : Rows) (edits : List Edit) → NoRegion edits → Gives args rows edits
quiet_gives args rows edits none = record { leaves = λ region row. inl (no_region edits region row none); finds = quiet_reads edits (row_at rows) none }

add_reads : (there : Catalog) (table : TableName) (ranges : List KeyRange) (first : ℕ) → RegionsRead (add_ranges there table first ranges) there
add_reads there table [] first = tt
add_reads there table (range ∷ ranges) first = ((λ on. refl), add_reads there table ranges (first + 1))

drop_reads : (there : Catalog) (regions : List Region) → RegionsRead (remove_regions there regions) there
drop_reads there [] = tt
drop_reads there (region ∷ regions) = ((λ on. refl), drop_reads there regions)

add_gives : (table : TableName) (first : ℕ) (bounds : List (List ℕ)) (rows : Rows) → Gives (args_are.AddRegions table first bounds) rows (add_ranges (row_at rows) table first (ranges_between bounds))
add_gives table first bounds rows = record {
  leaves = λ region row. by region row (added_row table first bounds (key_is.Region region)) refl;
  finds = add_reads (row_at rows) table (ranges_between bounds) first;
}
  where
    by : (region : Region) (row : Option CatRow) (o : Option CatRow) → added_row table first bounds (key_is.Region region) ≡ o
        → (edited (add_ranges (row_at rows) table first (ranges_between bounds)) (key_is.Region region) row ≡ row) ⊎ ((touches (args_are.AddRegions table first bounds) (key_is.Region region) ≡ true) × (edited (add_ranges (row_at rows) table first (ranges_between bounds)) (key_is.Region region) row ≡ value (args_are.AddRegions table first bounds) (key_is.Region region)))
    by region row None e = inl (add_effect (row_at rows) table first bounds (key_is.Region region) row ∙ ap (λ o. row_or o row) e)
    by region row (Some new) e = inr (ap is_some e, add_effect (row_at rows) table first bounds (key_is.Region region) row ∙ ap (λ o. row_or o row) e ∙ sym e)

drop_gives : (table : TableName) (ids : List ℕ) (rows : Rows) → Gives (args_are.DropRegions table ids) rows (remove_regions (row_at rows) (regions_in table ids))
drop_gives table ids rows = record {
  leaves = λ region row. elim (cases_Bool (touches (args_are.DropRegions table ids) (key_is.Region region))) [
    | inl on ↦ inr (on, remove_effect (row_at rows) table ids (key_is.Region region) row ∙ cond-true (touches (args_are.DropRegions table ids) (key_is.Region region)) None row on)
    | inr off ↦ inl (remove_effect (row_at rows) table ids (key_is.Region region) row ∙ cond-false (touches (args_are.DropRegions table ids) (key_is.Region region)) None row off)
  ];
  finds = drop_reads (row_at rows) (regions_in table ids);
}

-- an act that a kind doesn't list
unlisted : (kind : ℕ) (act other : Act) → act ≡ other → is_listed kind other ≡ false → is_listed kind act ≡ true → ⊥
unlisted kind act other e off on = true≢false (sym on ∙ ap (is_listed kind) e ∙ off)

module _ (act : Act) (rows : Rows) (edits : List Edit) where
  adds_give : (table : TableName) (first : ℕ) (bounds : List (List ℕ)) → is_listed 20 act ≡ true → Shape act (args_are.AddRegions table first bounds) rows edits → Gives (args_are.AddRegions table first bounds) rows edits
  adds_give table first bounds on (inl none) = quiet_gives (args_are.AddRegions table first bounds) rows edits none
  adds_give table first bounds on (inr (inl adds)) =
      let same : edits ≡ add_ranges (row_at rows) table first (ranges_between bounds) =
      adds.5 ∙ ap (λ t. add_ranges (row_at rows) t first (ranges_between adds.3)) (sym (same_Some table adds.1 adds.2)) ∙ ap (λ b. add_ranges (row_at rows) table first (ranges_between b)) (sym (same_Some bounds adds.3 adds.4)) in
      subst (Gives (args_are.AddRegions table first bounds) rows) (sym same) (add_gives table first bounds rows)
  adds_give table first bounds on (inr (inr (inl removes))) = absurd (unlisted 20 act act_is.DropRegionRows removes.0 refl on)
  adds_give table first bounds on (inr (inr (inr (inl splits)))) = absurd (unlisted 20 act act_is.UpdateSplitMeta splits.0 refl on)
  adds_give table first bounds on (inr (inr (inr (inr merges)))) = absurd (unlisted 20 act act_is.UpdateMergeMeta merges.0 refl on)

  drops_give : (table : TableName) (ids : List ℕ) → is_listed 21 act ≡ true → Shape act (args_are.DropRegions table ids) rows edits → Gives (args_are.DropRegions table ids) rows edits
  drops_give table ids on (inl none) = quiet_gives (args_are.DropRegions table ids) rows edits none
  drops_give table ids on (inr (inl adds)) = absurd (unlisted 21 act act_is.AddRegionRows adds.0 refl on)
  drops_give table ids on (inr (inr (inl removes))) =
      let same : edits ≡ remove_regions (row_at rows) (regions_in table ids) = removes.3 ∙ ap (λ t. remove_regions (row_at rows) (regions_in t ids)) (sym (same_Some table removes.1 removes.2)) in
      subst (Gives (args_are.DropRegions table ids) rows) (sym same) (drop_gives table ids rows)
  drops_give table ids on (inr (inr (inr (inl splits)))) = absurd (unlisted 21 act act_is.UpdateSplitMeta splits.0 refl on)
  drops_give table ids on (inr (inr (inr (inr merges)))) = absurd (unlisted 21 act act_is.UpdateMergeMeta merges.0 refl on)

  -- only splits and merges change regions by themselves
  wide_lists : (request : Request) → is_local request ≡ false → (is_listed (request_kind request) act_is.UpdateSplitMeta ≡ false) × (is_listed (request_kind request) act_is.UpdateMergeMeta ≡ false)
  wide_lists (request_is.SplitRegion region key) h = absurd (true≢false h)
  wide_lists (request_is.MergeRegions regions) h = absurd (true≢false h)
  wide_lists (request_is.Move region to) h = absurd (true≢false h)
  wide_lists request h = (refl, refl)

  wide_gives : (request : Request) (first : ℕ) → is_local request ≡ false → is_listed (request_kind request) act ≡ true → Shape act (args_are.Root request first) rows edits → Gives (args_are.Root request first) rows edits
  wide_gives request first wide on (inl none) = quiet_gives (args_are.Root request first) rows edits none
  wide_gives request first wide on (inr (inl adds)) = absurd (no_adds request (ap (is_listed (request_kind request)) (sym adds.0) ∙ on))
  wide_gives request first wide on (inr (inr (inl removes))) = absurd (no_drops request (ap (is_listed (request_kind request)) (sym removes.0) ∙ on))
  wide_gives request first wide on (inr (inr (inr (inl splits)))) = absurd (unlisted (request_kind request) act act_is.UpdateSplitMeta splits.0 (wide_lists request wide).0 on)
  wide_gives request first wide on (inr (inr (inr (inr merges)))) = absurd (unlisted (request_kind request) act act_is.UpdateMergeMeta merges.0 (wide_lists request wide).1 on)

  -- so it is of a root that asks for tables alone, and of what it makes
  pub gives : (args : Args) → (asks_regions args ≡ false) ⊎ (is_kid args ≡ true) → exact_rows (kind_of args) ≡ [] → is_listed (kind_of args) act ≡ true → Shape act args rows edits → Gives args rows edits
  gives (args_are.Root request first) (inl wide) exact on shape = wide_gives request first wide on shape
  gives (args_are.Root request first) (inr kid) exact on shape = absurd (false≢true kid)
  gives (args_are.AddRegions table first bounds) which exact on shape = adds_give table first bounds on shape
  gives (args_are.DropRegions table ids) which exact on shape = drops_give table ids on shape
  gives args which exact on shape = absurd (cons_nil _ _ exact)

-- what is read of a catalog is there
pub read_or : (asked : CatKey → Bool) (there : Catalog) (keys : List CatKey) (key : CatKey) → (row_at (rows_at asked there keys) key ≡ None) ⊎ (row_at (rows_at asked there keys) key ≡ there key)
read_or asked there [] key = inl refl
read_or asked there (first ∷ keys) key = by (read_or asked there keys key) (asked first) (there first) refl
  where
    by : (row_at (rows_at asked there keys) key ≡ None) ⊎ (row_at (rows_at asked there keys) key ≡ there key) → (b : Bool) (o : Option CatRow) → there first ≡ o → (row_at (keep b first o (rows_at asked there keys)) key ≡ None) ⊎ (row_at (keep b first o (rows_at asked there keys)) key ≡ there key)
    by is false o e = is
    by is true None e = is
    by is true (Some row) e = elim (cases_key key first) [
      | inl same ↦ inr (cond-true (same_key key first) (Some row) (row_at (rows_at asked there keys) key) same.0 ∙ sym e ∙ ap there (sym same.1))
      | inr differs ↦
          let off = cond-false (same_key key first) (Some row) (row_at (rows_at asked there keys) key) differs.0 in
          elim is [ inl none ↦ inl (off ∙ none) | inr here ↦ inr (off ∙ here) ]
    ]
