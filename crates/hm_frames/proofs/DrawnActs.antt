-- The regions that acts add have ids that were drawn.
use Rattle.hm_data.specs.declared.act.Act.{Act}
use Rattle.hm_data.specs.declared.act.Back.{Back}
use Rattle.hm_data.specs.declared.answer.Answer.{Answer}
use Rattle.hm_data.specs.declared.answer.Answer.TheVariants as answer_is
use Rattle.hm_data.specs.declared.answer.Cause.{Cause}
use Rattle.hm_data.specs.declared.answer.Cause.TheVariants as cause_is
use Rattle.hm_data.specs.declared.args.Args.{Args}
use Rattle.hm_data.specs.declared.args.Args.TheVariants as args_are
use Rattle.hm_data.specs.declared.args.Child.{Child}
use Rattle.hm_data.specs.declared.args.Child.TheVariants as child_is
use Rattle.hm_data.specs.declared.call.Told.{Told}
use Rattle.hm_data.specs.declared.call.Verb.{Verb}
use Rattle.hm_data.specs.declared.catalog.CatKey.TheVariants as key_is
use Rattle.hm_data.specs.declared.catalog.Edit.{Edit}
use Rattle.hm_data.specs.declared.place.Goal.{Goal}
use Rattle.hm_data.specs.declared.place.Goal.TheVariants as goal_is
use Rattle.hm_data.specs.declared.place.Place.{Place}
use Rattle.hm_data.specs.declared.sheet.Row.{Row}
use Rattle.hm_data.specs.declared.step.StepIn.{StepIn}
use Rattle.hm_data.specs.declared.step.StepOut.{StepOut}
use Rattle.hm_model.specs.Acts.{act_answer}
use Rattle.hm_model.specs.Catalog.{row_at, Catalog}
use Rattle.hm_model.specs.Changes.{add_ranges, changed, merge_edits, remove_regions, split_edits, add_merged, mark_merged, merged_of, region_key, split_range}
use Rattle.hm_model.specs.Checks.{by_start, parts_of}
use Rattle.hm_model.specs.Evaluation.{is_cut_off, row_answer, turn_answer}
use Rattle.hm_model.specs.Kinds.{table_of_first, table_of_request}
use Rattle.hm_model.specs.Outs.{ends_with, fails, gives, on_to, spawns}
use Rattle.hm_model.specs.Pieces.{Batch, adding, batches, by_64, ranges_between, transits, ranges_from}
use Rattle.hm_model.specs.RegionActs.{cut_of}
use Rattle.hm_model.specs.RowsSaid.{Rows, all_among, in_status, range_in}
use Rattle.hm_model.specs.Undoing.{closed_by, turned, turned_round, undo_out}
use Rattle.hm_model.specs.Views.{asked_of, bounds_of, first_id_of, region_of, regions_in, table_of}
use Rattle.hm_model.specs.Wanted.{ids_of}
use Rattle.hm_names.specs.Region.{Region}
use Rattle.hm_names.specs.declared.pid.Pid.{Pid}
use Rattle.hm_data.specs.declared.act.Back.TheVariants as back_is
use Rattle.hm_names.specs.declared.table.TableName.{TableName}
use Rattle.hm_model.specs.Locks.{in_name_order}
use Rattle.std.proofs.Common.{Bool, List, None, Option, Some, [], true, false, if◌then◌else◌, length, map, take, drop, nat_le, refl, subst, zero, suc, ℕ, ◌+◌, ◌&&◌, ◌∷◌, ◌≡◌, arith, ap, ◌++◌, length-append}
use Rattle.std.specs.Option.{option_map}
use Rattle.std.specs.Prelude.{◌≤◌}
use Rattle.std.proofs.lemmas.Bool.{leb-false, leb-true}
use Rattle.std.proofs.lemmas.List.{length-take, length-drop}
use Rattle.std.proofs.lemmas.Option.{none-some, same_Some}
use Rattle.hm_data.specs.declared.catalog.CatKey.{CatKey}
use Rattle.hm_data.specs.declared.catalog.CatRow.{CatRow}
use Rattle.hm_data.specs.declared.catalog.Status.TheVariants as status_is
use Rattle.hm_data.specs.declared.request.Request.TheVariants as request_is
use Rattle.hm_data.specs.declared.step.Turn.{Turn}
use Rattle.hm_data.specs.declared.step.Turn.TheVariants as turn_is
use Rattle.hm_names.specs.declared.range.KeyRange.{KeyRange}
use Rattle.hm_model.specs.declared.merged.Merged.{Merged}
use Rattle.hm_model.specs.Tree.{new_ids}
use Rattle.hm_frames.proofs.ShortForms.{Each}
use Rattle.hm_model.specs.MadeOf.{Edits, IsMadeOf, IsOwnKey, Makes}
use Rattle.hm_model.proofs.MadeOf.{made_of}

-- the id of a region was drawn, where so many were for its table
abbrev pub IsLow : (TableName → ℕ) → CatKey → Type 0
IsLow d (key_is.Ns ns) = Unit {0}
IsLow d (key_is.Table table) = Unit {0}
IsLow d (key_is.Region region) = (1 ≤ region.id) × (region.id ≤ d region.table)

-- the same where the row is there
abbrev pub IfLow : (TableName → ℕ) → CatKey → Option CatRow → Type 0
IfLow d key None = Unit {0}
IfLow d key (Some row) = IsLow d key

abbrev pub IsLowEdit : (TableName → ℕ) → Edit → Type 0
IsLowEdit d edit = IfLow d edit.key edit.before × IfLow d edit.key edit.after

-- the ids of the regions that a procedure adds were drawn
abbrev pub IsLowArgs : (TableName → ℕ) → Args → Type 0
IsLowArgs d (args_are.Root asked first) = (1 ≤ first) × ((table : TableName) → table_of_request asked ≡ Some table → first + new_ids asked ≤ d table + 1)
IsLowArgs d (args_are.Transit region goal to) = Unit {0}
IsLowArgs d (args_are.Crash server) = Unit {0}
IsLowArgs d (args_are.AddRegions table first bounds) = (1 ≤ first) × (first + length bounds ≤ d table + 2)
IsLowArgs d (args_are.DropRegions table ids) = Unit {0}
IsLowArgs d (args_are.AssignCall region server) = Unit {0}
IsLowArgs d (args_are.CloseCall region server) = Unit {0}
IsLowArgs d (args_are.FenceCall server) = Unit {0}
IsLowArgs d (args_are.LayoutCall root) = Unit {0}
IsLowArgs d (args_are.SweepLayout root) = Unit {0}

abbrev pub IsLowChild : (TableName → ℕ) → Child → Type 0
IsLowChild d (child_is.Transits table ids goal) = Unit {0}
IsLowChild d (child_is.One args) = IsLowArgs d args

pub record IsLowOut (d : TableName → ℕ) (out : StepOut) : Type 0 where
  pub edits : Each (IsLowEdit d) out.edits
  pub children : Each (IsLowChild d) out.children
  pub followers : Each (IsLowChild d) out.followers

abbrev pub IsLowTurn : (TableName → ℕ) → Turn → Type 0
IsLowTurn d turn_is.Step = Unit {0}
IsLowTurn d (turn_is.Undo edits) = Each (IsLowEdit d) edits

pub record SeesLow (d : TableName → ℕ) (at : StepIn) : Type 0 where
  pub args : IsLowArgs d at.args
  pub rows : (key : CatKey) → IfLow d key (row_at at.rows key)
  pub turn : IsLowTurn d at.turn

module _ (d : TableName → ℕ) where
  pub ns_low : (ns : List ℕ) (row : Option CatRow) → IfLow d (key_is.Ns ns) row
  ns_low ns None = tt
  ns_low ns (Some row) = tt

  pub table_low : (table : TableName) (row : Option CatRow) → IfLow d (key_is.Table table) row
  table_low table None = tt
  table_low table (Some row) = tt

  each_more : (xs ys : List Edit) → Each (IsLowEdit d) xs → Each (IsLowEdit d) ys → Each (IsLowEdit d) (xs ++ ys)
  each_more [] ys are are' = are'
  each_more (x ∷ xs) ys are are' = (are.0, each_more xs ys are.1 are')

  turned_low : (edits : List Edit) → Each (IsLowEdit d) edits → Each (IsLowEdit d) (turned_round edits)
  turned_low [] are = tt
  turned_low (e ∷ edits) are = each_more (turned_round edits) (turned e ∷ []) (turned_low edits are.1) ((are.0.1, are.0.0), tt)

  -- the ids of what a procedure adds
  created_low : (keys : List (List ℕ)) → length ([] ∷ keys ++ [] ∷ []) ≡ length keys + 2
  created_low keys = omega (arith, length-append keys ([] ∷ []))

  bounds_low : (args : Args) → IsLowArgs d args → (t : TableName) → table_of args ≡ Some t → (bounds : List (List ℕ)) → bounds_of args ≡ Some bounds → (1 ≤ first_id_of args) × (first_id_of args + length bounds ≤ d t + 2)
  bounds_low (args_are.Root (request_is.CreateNamespace ns) first) is t e bounds b = absurd (none-some bounds b)
  bounds_low (args_are.Root (request_is.DropNamespace ns) first) is t e bounds b = absurd (none-some bounds b)
  bounds_low (args_are.Root (request_is.CreateTable own keys) first) is t e bounds b =
      let low : first + (length keys + 1) ≤ d t + 1 = is.1 t e in
      (is.0, omega (arith, low, created_low keys, ap length (same_Some ([] ∷ keys ++ [] ∷ []) bounds b)))
  bounds_low (args_are.Root (request_is.DeleteTable own) first) is t e bounds b = absurd (none-some bounds b)
  bounds_low (args_are.Root (request_is.EnableTable own) first) is t e bounds b = absurd (none-some bounds b)
  bounds_low (args_are.Root (request_is.DisableTable own) first) is t e bounds b = absurd (none-some bounds b)
  bounds_low (args_are.Root (request_is.ModifyTable own version) first) is t e bounds b = absurd (none-some bounds b)
  bounds_low (args_are.Root (request_is.SplitRegion r key) first) is t e bounds b = absurd (none-some bounds b)
  bounds_low (args_are.Root (request_is.MergeRegions rs) first) is t e bounds b = absurd (none-some bounds b)
  bounds_low (args_are.Root (request_is.Move r to) first) is t e bounds b = absurd (none-some bounds b)
  bounds_low (args_are.Transit region goal to) is t e bounds b = absurd (none-some bounds b)
  bounds_low (args_are.Crash server) is t e bounds b = absurd (none-some bounds b)
  bounds_low (args_are.AddRegions own first given_bounds) is t e bounds b =
      subst (λ (l : List (List ℕ)). (1 ≤ first) × (first + length l ≤ d t + 2)) (same_Some given_bounds bounds b)
      (subst (λ (u : TableName). (1 ≤ first) × (first + length given_bounds ≤ d u + 2)) (same_Some own t e) is)
  bounds_low (args_are.DropRegions table ids) is t e bounds b = absurd (none-some bounds b)
  bounds_low (args_are.AssignCall region server) is t e bounds b = absurd (none-some bounds b)
  bounds_low (args_are.CloseCall region server) is t e bounds b = absurd (none-some bounds b)
  bounds_low (args_are.FenceCall server) is t e bounds b = absurd (none-some bounds b)
  bounds_low (args_are.LayoutCall root) is t e bounds b = absurd (none-some bounds b)
  bounds_low (args_are.SweepLayout root) is t e bounds b = absurd (none-some bounds b)

  split_ids : (args : Args) → IsLowArgs d args → (r : Region) → region_of args ≡ Some r → (key : List ℕ) → cut_of (asked_of args) ≡ Some key → (1 ≤ first_id_of args) × (first_id_of args + 1 ≤ d r.table)
  split_ids (args_are.Root (request_is.CreateNamespace ns) first) is r e key k = absurd (none-some key k)
  split_ids (args_are.Root (request_is.DropNamespace ns) first) is r e key k = absurd (none-some key k)
  split_ids (args_are.Root (request_is.CreateTable own keys) first) is r e key k = absurd (none-some key k)
  split_ids (args_are.Root (request_is.DeleteTable own) first) is r e key k = absurd (none-some key k)
  split_ids (args_are.Root (request_is.EnableTable own) first) is r e key k = absurd (none-some key k)
  split_ids (args_are.Root (request_is.DisableTable own) first) is r e key k = absurd (none-some key k)
  split_ids (args_are.Root (request_is.ModifyTable own version) first) is r e key k = absurd (none-some key k)
  split_ids (args_are.Root (request_is.SplitRegion own cut) first) is r e key k =
      let low : first + 2 ≤ d own.table + 1 = is.1 own.table refl in
      subst (λ (q : Region). (1 ≤ first) × (first + 1 ≤ d q.table)) (same_Some own r e) (is.0, omega (arith, low))
  split_ids (args_are.Root (request_is.MergeRegions rs) first) is r e key k = absurd (none-some key k)
  split_ids (args_are.Root (request_is.Move own to) first) is r e key k = absurd (none-some key k)
  split_ids (args_are.Transit region goal to) is r e key k = absurd (none-some key k)
  split_ids (args_are.Crash server) is r e key k = absurd (none-some key k)
  split_ids (args_are.AddRegions own first bounds) is r e key k = absurd (none-some key k)
  split_ids (args_are.DropRegions table ids) is r e key k = absurd (none-some key k)
  split_ids (args_are.AssignCall region server) is r e key k = absurd (none-some key k)
  split_ids (args_are.CloseCall region server) is r e key k = absurd (none-some key k)
  split_ids (args_are.FenceCall server) is r e key k = absurd (none-some key k)
  split_ids (args_are.LayoutCall root) is r e key k = absurd (none-some key k)
  split_ids (args_are.SweepLayout root) is r e key k = absurd (none-some key k)

  merged_ids : (args : Args) → IsLowArgs d args → (r : Region) (more : List Region) → closed_by args ≡ r ∷ more → (1 ≤ first_id_of args) × (first_id_of args ≤ d r.table)
  merged_ids (args_are.Root (request_is.CreateNamespace ns) first) is r more e = absurd cc
  merged_ids (args_are.Root (request_is.DropNamespace ns) first) is r more e = absurd cc
  merged_ids (args_are.Root (request_is.CreateTable own keys) first) is r more e = absurd cc
  merged_ids (args_are.Root (request_is.DeleteTable own) first) is r more e = absurd cc
  merged_ids (args_are.Root (request_is.EnableTable own) first) is r more e = absurd cc
  merged_ids (args_are.Root (request_is.DisableTable own) first) is r more e = absurd cc
  merged_ids (args_are.Root (request_is.ModifyTable own version) first) is r more e = absurd cc
  merged_ids (args_are.Root (request_is.SplitRegion own cut) first) is r more e =
      let low : first + 2 ≤ d own.table + 1 = is.1 own.table refl in
      let same : own ≡ r = cc in
      subst (λ (q : Region). (1 ≤ first) × (first ≤ d q.table)) same (is.0, omega (arith, low))
  merged_ids (args_are.Root (request_is.MergeRegions rs) first) is r more e =
      let low : first + 1 ≤ d r.table + 1 = is.1 r.table (ap table_of_first e) in
      (is.0, omega (arith, low))
  merged_ids (args_are.Root (request_is.Move own to) first) is r more e = absurd cc
  merged_ids (args_are.Transit region goal to) is r more e = absurd cc
  merged_ids (args_are.Crash server) is r more e = absurd cc
  merged_ids (args_are.AddRegions own first bounds) is r more e = absurd cc
  merged_ids (args_are.DropRegions table ids) is r more e = absurd cc
  merged_ids (args_are.AssignCall region server) is r more e = absurd cc
  merged_ids (args_are.CloseCall region server) is r more e = absurd cc
  merged_ids (args_are.FenceCall server) is r more e = absurd cc
  merged_ids (args_are.LayoutCall root) is r more e = absurd cc
  merged_ids (args_are.SweepLayout root) is r more e = absurd cc

  -- procedures that add regions
  adding_low : (most : ℕ) (t : TableName) (first : ℕ) (bounds : List (List ℕ)) → 1 ≤ first → first + length bounds ≤ d t + 2 → Each (IsLowChild d) (adding most t first bounds)
  adding_low zero t first bounds one low = tt
  adding_low (suc most) t first bounds one low = by (nat_le (length bounds) 1) refl (λ more. adding_low most t (first + 64) (drop 64 bounds) (omega (arith, one)) more)
    where
      by : (b : Bool) → nat_le (length bounds) 1 ≡ b → (first + 64 + length (drop 64 bounds) ≤ d t + 2 → Each (IsLowChild d) (adding most t (first + 64) (drop 64 bounds)))
          → Each (IsLowChild d) (if b then [] else (child_is.One (args_are.AddRegions t first (take 65 bounds)) ∷ adding most t (first + 64) (drop 64 bounds)))
      by true e rest = tt
      by false e rest = ((one, omega (arith, low, length-take 65 bounds)), by_rest (nat_le (length bounds) 64) refl)
        where
          by_rest : (b : Bool) → nat_le (length bounds) 64 ≡ b → Each (IsLowChild d) (adding most t (first + 64) (drop 64 bounds))
          by_rest true few = ends most (first + 64) (drop 64 bounds) (omega (arith, length-drop 64 bounds, leb-true (length bounds) 64 few))
            where
              ends : (most first : ℕ) (bounds : List (List ℕ)) → length bounds ≡ 0 → Each (IsLowChild d) (adding most t first bounds)
              ends zero first bounds none = tt
              ends (suc most) first [] none = tt
              ends (suc most) first (key ∷ bounds) none = absurd (omega (arith, none))
          by_rest false few = rest (omega (arith, low, length-drop 64 bounds, leb-false (length bounds) 64 few))

  module _ (there : Catalog) (rows : (key : CatKey) → IfLow d key (there key)) where
    added_low : (t : TableName) (first : ℕ) (ranges : List KeyRange) → 1 ≤ first → first + length ranges ≤ d t + 1 → Each (IsLowEdit d) (add_ranges there t first ranges)
    added_low t first [] one low = tt
    added_low t first (range ∷ ranges) one low =
        ((rows (region_key t first), (one, omega (arith, low))), added_low t (first + 1) ranges (omega (arith, one)) (omega (arith, low)))

    from_long : (start : List ℕ) (bounds : List (List ℕ)) → length (ranges_from start bounds) ≡ length bounds
    from_long start [] = refl
    from_long start (end ∷ bounds) = omega (arith, from_long end bounds)

    between_low : (t : TableName) (first : ℕ) (bounds : List (List ℕ)) → 1 ≤ first → first + length bounds ≤ d t + 2 → Each (IsLowEdit d) (add_ranges there t first (ranges_between bounds))
    between_low t first [] one low = tt
    between_low t first (start ∷ bounds) one low = added_low t first (ranges_from start bounds) one (omega (arith, low, from_long start bounds))

    removed_low : (regions : List Region) → Each (IsLowEdit d) (remove_regions there regions)
    removed_low [] = tt
    removed_low (r ∷ regions) = ((rows (key_is.Region r), tt), removed_low regions)

    changed_low : (key : CatKey) (change : CatRow → CatRow) → IsLowEdit d (changed there key change)
    changed_low key change = (rows key, by (there key) (rows key))
      where
        by : (o : Option CatRow) → IfLow d key o → IfLow d key (option_map change o)
        by None is = tt
        by (Some row) is = is

    split_low : (r : Region) (cut : List ℕ) (first : ℕ) → 1 ≤ first → first + 1 ≤ d r.table → Each (IsLowEdit d) (split_edits there r cut first)
    split_low r cut first one low = by (range_in (there (key_is.Region r)))
      where
        by : (o : Option KeyRange) → Each (IsLowEdit d) (split_range there r cut first o)
        by None = tt
        by (Some range) = (
          changed_low (key_is.Region r) (in_status status_is.Split),
          (
            (rows (region_key r.table first), (one, omega (arith, low))),
            ((rows (region_key r.table (first + 1)), (omega (arith, one), low)), tt),
          ),
        )

    marked_low : (regions : List Region) → Each (IsLowEdit d) (mark_merged there regions)
    marked_low [] = tt
    marked_low (r ∷ regions) = (changed_low (key_is.Region r) (in_status status_is.Merged), marked_low regions)

    merged_low : (t : TableName) (first : ℕ) (parts : List Merged) → 1 ≤ first → first ≤ d t → Each (IsLowEdit d) (merged_of there t first parts)
    merged_low t first [] one low = tt
    merged_low t first (part ∷ more) one low = ((rows (region_key t first), (one, low)), tt)

    add_merged_low : (first : ℕ) (regions all : List Region) → ((r : Region) (more : List Region) → regions ≡ r ∷ more → (1 ≤ first) × (first ≤ d r.table)) → Each (IsLowEdit d) (add_merged there first regions all)
    add_merged_low first [] all low = tt
    add_merged_low first (r ∷ more) all low = let own = low r more refl in merged_low r.table first (by_start (parts_of there all)) own.0 own.1

    merge_low : (regions : List Region) (first : ℕ) → ((r : Region) (more : List Region) → regions ≡ r ∷ more → (1 ≤ first) × (first ≤ d r.table)) → Each (IsLowEdit d) (merge_edits there regions first)
    merge_low regions first low = each_more (mark_merged there (in_name_order regions)) (add_merged there first regions regions) (marked_low (in_name_order regions)) (add_merged_low first regions regions low)

module _ (d : TableName → ℕ) where
  abbrev RowsLow : Rows → Type 0
  RowsLow rows = (key : CatKey) → IfLow d key (row_at rows key)

  plainly : (answer : Answer) (call : Option Verb) (place : Option Place) → IsLowOut d (record { answer = answer; edits = []; children = []; call = call; place = place; followers = [] })
  plainly answer call place = record { edits = tt; children = tt; followers = tt }

  edited : (answer : Answer) (edits : List Edit) → Each (IsLowEdit d) edits → IsLowOut d (gives answer edits)
  edited answer edits are = record { edits = are; children = tt; followers = tt }

  ended : (next : ℕ) (told : Told) → IsLowOut d (ends_with told)
  ended next told = edited (answer_is.Done told) [] tt

  failed : (next : ℕ) (cause : Cause) → IsLowOut d (fails cause)
  failed next cause = edited (answer_is.Fail cause) [] tt

  spawned : (next : ℕ) (children : List Child) → Each (IsLowChild d) children → IsLowOut d (spawns next children)
  spawned next [] are = edited (answer_is.More next) [] tt
  spawned next (child ∷ more) are = record { edits = tt; children = are; followers = tt }

  batches_low : (goal : Goal) (list : List Batch) → Each (IsLowChild d) (map (λ batch. child_is.Transits batch.table batch.ids goal) list)
  batches_low goal [] = tt
  batches_low goal (batch ∷ more) = (tt, batches_low goal more)

  transits_low : (goal : Goal) (regions : List Region) → Each (IsLowChild d) (transits goal regions)
  transits_low goal regions = batches_low goal (batches (in_name_order regions))

  pieces_low : (table : TableName) (pieces : List (List ℕ)) → Each (IsLowChild d) (map (λ piece. child_is.One (args_are.DropRegions table piece)) pieces)
  pieces_low table [] = tt
  pieces_low table (piece ∷ more) = (tt, pieces_low table more)

  own_low : (args : Args) → {key : CatKey} → IsOwnKey args key → (row : Option CatRow) → IfLow d key row
  own_low args (IsOwnKey.of_namespace ns is) row = ns_low d ns row
  own_low args (IsOwnKey.of_name table is) row = table_low d table row

  edits_low : (act : Act) (at : StepIn) → SeesLow d at → {edits : List Edit} → Edits act at edits → Each (IsLowEdit d) edits
  edits_low act at sees (Edits.one_row key own kinds after becomes) = ((own_low at.args own (row_at at.rows key), own_low at.args own after), tt)
  edits_low act at sees (Edits.adds_rows only table is bounds are) =
      let own = bounds_low d at.args sees.args table is bounds are in
      between_low d (row_at at.rows) sees.rows table (first_id_of at.args) bounds own.0 own.1
  edits_low act at sees (Edits.removes_rows only table is) = removed_low d (row_at at.rows) sees.rows (regions_in table (ids_of at.args))
  edits_low act at sees (Edits.splits only region is key cut) =
      let own = split_ids d at.args sees.args region is key cut in
      split_low d (row_at at.rows) sees.rows region key (first_id_of at.args) own.0 own.1
  edits_low act at sees (Edits.merges only) = merge_low d (row_at at.rows) sees.rows (closed_by at.args) (first_id_of at.args) (λ r more e. merged_ids d at.args sees.args r more e)

  makes_low : (act : Act) (at : StepIn) → SeesLow d at → {children : List Child} → Makes act at children → Each (IsLowChild d) children
  makes_low act at sees (Makes.lays only) = (tt, tt)
  makes_low act at sees (Makes.fences only server is) = (tt, tt)
  makes_low act at sees (Makes.adds_all only table is bounds are) =
      let own = bounds_low d at.args sees.args table is bounds are in
      adding_low d (length bounds) table (first_id_of at.args) bounds own.0 own.1
  makes_low act at sees (Makes.drops_all only table is) = pieces_low table (by_64 (map (λ (region : Region). region.id) (all_among table at.rows)))
  makes_low act at sees (Makes.sends goal sent which only regions are) = transits_low goal regions
  makes_low act at sees (Makes.opens off region is server there) = (tt, tt)

  made_low : (act : Act) (next : ℕ) (at : StepIn) → SeesLow d at → {out : StepOut} → IsMadeOf act next at out → IsLowOut d out
  made_low act next at sees (IsMadeOf.edited e edits are) = edited (on_to next) edits (edits_low act at sees are)
  made_low act next at sees (IsMadeOf.made children makes) = spawned next children (makes_low act at sees makes)
  made_low act next at sees (IsMadeOf.shut off region is server there) = record { edits = tt; children = (tt, tt); followers = tt }
  made_low act next at sees other = record { edits = tt; children = tt; followers = tt }

  -- a row answers so
  row_low : (row : Row) (at : StepIn) → SeesLow d at → IsLowOut d (row_answer row at)
  row_low row at sees = by (is_cut_off row at)
    where
      by : (b : Bool) → IsLowOut d (if b then fails cause_is.Aborted else act_answer row.act row.next at)
      by true = failed row.next cause_is.Aborted
      by false = made_low row.act row.next at sees (made_of row.act row.next at)

  undo_low : (undo : Back) (args : Args) (root : Pid) (edits : List Edit) → Each (IsLowEdit d) edits → IsLowOut d (undo_out undo args root edits)
  undo_low back_is.Nothing args root edits are = record { edits = tt; children = tt; followers = tt }
  undo_low back_is.Edits args root edits are = record { edits = turned_low d edits are; children = tt; followers = tt }
  undo_low back_is.Sweep args root edits are = record { edits = tt; children = tt; followers = (tt, tt) }
  undo_low back_is.Reopen args root edits are = record { edits = tt; children = tt; followers = transits_low goal_is.Assign (closed_by args) }

  -- what a row answers by the turn
  pub turn_low : (row : Row) (at : StepIn) → SeesLow d at → IsLowOut d (turn_answer row at at.turn)
  turn_low row at sees = by at.turn sees.turn
    where
      by : (turn : Turn) → IsLowTurn d turn → IsLowOut d (turn_answer row at turn)
      by turn_is.Step is = row_low row at sees
      by (turn_is.Undo edits) is = undo_low row.undo at.args at.root edits is
