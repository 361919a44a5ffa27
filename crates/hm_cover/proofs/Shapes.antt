-- Which rows of regions a step edits: none, or those of one of four acts. No journal.
use Rattle.std.proofs.Common.{◌≡◌, ℕ, Bool, true, false, cond, List, [], ◌∷◌, Some, refl, inl, inr, ◌⊎◌}
use Rattle.hm_data.specs.declared.act.Act.{Act}
use Rattle.hm_data.specs.declared.act.Act.TheVariants as act_is
use Rattle.hm_data.specs.declared.answer.Cause.TheVariants as cause_is
use Rattle.hm_data.specs.declared.args.Args.{Args}
use Rattle.hm_data.specs.declared.args.Child.{Child}
use Rattle.hm_data.specs.declared.catalog.CatKey.{CatKey}
use Rattle.hm_data.specs.declared.catalog.CatKey.TheVariants as key_is
use Rattle.hm_data.specs.declared.catalog.Edit.{Edit}
use Rattle.hm_data.specs.declared.sheet.Row.{Row}
use Rattle.hm_data.specs.declared.step.StepIn.{StepIn}
use Rattle.hm_data.specs.declared.step.StepOut.{StepOut}
use Rattle.hm_names.specs.Region.{Region}
use Rattle.hm_names.specs.declared.table.TableName.{TableName}
use Rattle.hm_model.proofs.MadeOf.{made_of}
use Rattle.hm_model.specs.MadeOf.{Edits, IsMadeOf, IsOwnKey}
use Rattle.hm_model.specs.Acts.{act_answer}
use Rattle.hm_model.specs.Catalog.{row_at}
use Rattle.hm_model.specs.Changes.{add_ranges, merge_edits, remove_regions, split_edits}
use Rattle.hm_model.specs.Evaluation.{is_cut_off, row_answer}
use Rattle.hm_model.specs.Outs.{fails, spawns}
use Rattle.hm_model.specs.Pieces.{ranges_between}
use Rattle.hm_model.specs.RegionActs.{cut_of}
use Rattle.hm_model.specs.RowsSaid.{Rows}
use Rattle.hm_model.specs.Undoing.{closed_by}
use Rattle.hm_model.specs.Views.{asked_of, bounds_of, first_id_of, region_of, regions_in, table_of}
use Rattle.hm_model.specs.Wanted.{ids_of}

abbrev pub is_region_key : CatKey → Bool
is_region_key (key_is.Region region) = true
is_region_key key = false

-- no edit is of a region's row
abbrev pub NoRegion : List Edit → Type 0
NoRegion [] = Unit {0}
NoRegion (edit ∷ edits) = (is_region_key edit.key ≡ false) × NoRegion edits

-- the edits of regions' rows that the acts make: those that add and remove regions, split one and merge some
abbrev pub Adds : Act → Args → Rows → List Edit → Type 0
Adds act args rows edits =
    (act ≡ act_is.AddRegionRows) × (table : TableName) × (table_of args ≡ Some table) × (bounds : List (List ℕ)) × (bounds_of args ≡ Some bounds)
    × (edits ≡ add_ranges (row_at rows) table (first_id_of args) (ranges_between bounds))

abbrev pub Removes : Act → Args → Rows → List Edit → Type 0
Removes act args rows edits =
    (act ≡ act_is.DropRegionRows) × (table : TableName) × (table_of args ≡ Some table) × (edits ≡ remove_regions (row_at rows) (regions_in table (ids_of args)))

abbrev pub Splits : Act → Args → Rows → List Edit → Type 0
Splits act args rows edits =
    (act ≡ act_is.UpdateSplitMeta) × (region : Region) × (region_of args ≡ Some region) × (key : List ℕ) × (cut_of (asked_of args) ≡ Some key)
    × (edits ≡ split_edits (row_at rows) region key (first_id_of args))

abbrev pub Merges : Act → Args → Rows → List Edit → Type 0
Merges act args rows edits = (act ≡ act_is.UpdateMergeMeta) × (edits ≡ merge_edits (row_at rows) (closed_by args) (first_id_of args))

abbrev pub Shape : Act → Args → Rows → List Edit → Type 0
Shape act args rows edits = NoRegion edits ⊎ (Adds act args rows edits ⊎ (Removes act args rows edits ⊎ (Splits act args rows edits ⊎ Merges act args rows edits)))

-- an answer edits so
abbrev pub Shaped : Act → Args → Rows → StepOut → Type 0
Shaped act args rows out = Shape act args rows out.edits

module _ (act : Act) (args : Args) (rows : Rows) where
  fine_spawns : (next : ℕ) (children : List Child) → Shaped act args rows (spawns next children)
  fine_spawns next [] = inl tt
  fine_spawns next (child ∷ more) = inl tt

-- a row of the procedure's namespace or table is none of a region
own_plain : (args : Args) {key : CatKey} → IsOwnKey args key → is_region_key key ≡ false
own_plain args (IsOwnKey.of_namespace ns is) = refl
own_plain args (IsOwnKey.of_name table is) = refl

shape_edits : (act : Act) (at : StepIn) → {edits : List Edit} → Edits act at edits → Shape act at.args at.rows edits
shape_edits act at (Edits.one_row key own kinds after becomes) = inl (own_plain at.args own, tt)
shape_edits act at (Edits.adds_rows only table is bounds bound) = inr (inl (only, table, is, bounds, bound, refl))
shape_edits act at (Edits.removes_rows only table is) = inr (inr (inl (only, table, is, refl)))
shape_edits act at (Edits.splits only region is key cut) = inr (inr (inr (inl (only, region, is, key, cut, refl))))
shape_edits act at (Edits.merges only) = inr (inr (inr (inr (only, refl))))

shape_made : (act : Act) (next : ℕ) (at : StepIn) → {out : StepOut} → IsMadeOf act next at out → Shaped act at.args at.rows out
shape_made act next at (IsMadeOf.edited e edits are) = shape_edits act at are
shape_made act next at (IsMadeOf.made children makes) = fine_spawns act at.args at.rows next children
shape_made act next at other = inl tt

-- which rows of regions each act edits
pub shape_act : (act : Act) (next : ℕ) (at : StepIn) → Shaped act at.args at.rows (act_answer act next at)
shape_act act next at = shape_made act next at (made_of act next at)

-- and a row: cut off, none
pub shape_row : (row : Row) (at : StepIn) → Shaped row.act at.args at.rows (row_answer row at)
shape_row row at = by (is_cut_off row at)
  where
    by : (b : Bool) → Shaped row.act at.args at.rows (cond b (fails cause_is.Aborted) (act_answer row.act row.next at))
    by true = inl tt
    by false = shape_act row.act row.next at
