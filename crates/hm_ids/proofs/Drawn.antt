-- The ids of regions whose rows a step edits, and of those that the procedures it makes will edit, are drawn. No journal.
use Rattle.std.proofs.Common.{◌≡◌, ◌≢◌, ℕ, zero, suc, ◌+◌, ◌≤◌, ◌<◌, Bool, true, false, cond, nat_le, List, [], ◌∷◌, ◌++◌, length, length-append, length-drop, take, drop, map, Option, Some, None, refl, sym, ap, subst, arith}
use Rattle.std.specs.Option.{option_map}
use Rattle.std.proofs.lemmas.List.{length-take}
use Rattle.std.proofs.lemmas.Option.{none-some, same_Some}
use Rattle.hm_names.specs.Region.{Region}
use Rattle.hm_names.specs.declared.pid.Pid.{Pid}
use Rattle.hm_names.specs.declared.range.KeyRange.{KeyRange}
use Rattle.hm_names.specs.declared.table.TableName.{TableName}
use Rattle.hm_data.specs.declared.act.Act.{Act}
use Rattle.hm_data.specs.declared.answer.Answer.{Answer}
use Rattle.hm_data.specs.declared.answer.Cause.{Cause}
use Rattle.hm_data.specs.declared.args.Args.{Args}
use Rattle.hm_data.specs.declared.args.Args.TheVariants as args_are
use Rattle.hm_data.specs.declared.args.Child.{Child}
use Rattle.hm_data.specs.declared.args.Child.TheVariants as child_is
use Rattle.hm_data.specs.declared.catalog.CatKey.{CatKey}
use Rattle.hm_data.specs.declared.catalog.CatKey.TheVariants as key_is
use Rattle.hm_data.specs.declared.catalog.CatRow.{CatRow}
use Rattle.hm_data.specs.declared.catalog.Edit.{Edit}
use Rattle.hm_data.specs.declared.catalog.Status.TheVariants as status_is
use Rattle.hm_data.specs.declared.place.Goal.{Goal}
use Rattle.hm_data.specs.declared.place.Goal.TheVariants as goal_is
use Rattle.hm_data.specs.declared.request.Request.{Request}
use Rattle.hm_data.specs.declared.request.Request.TheVariants as request_is
use Rattle.hm_data.specs.declared.act.Back.{Back}
use Rattle.hm_data.specs.declared.act.Back.TheVariants as back_is
use Rattle.hm_data.specs.declared.step.StepIn.{StepIn}
use Rattle.hm_data.specs.declared.step.StepOut.{StepOut}
use Rattle.hm_model.proofs.MadeOf.{made_of}
use Rattle.hm_model.specs.MadeOf.{Edits, IsMadeOf, IsOwnKey, Makes}
use Rattle.hm_model.specs.Acts.{act_answer}
use Rattle.hm_model.specs.Catalog.{Catalog, row_at}
use Rattle.hm_model.specs.Changes.{add_merged, add_ranges, mark_merged, merge_edits, merged_of, region_key, remove_regions, split_edits, split_range}
use Rattle.hm_model.specs.Checks.{by_start, parts_of}
use Rattle.hm_model.specs.Evaluation.{row_answer, is_cut_off}
use Rattle.hm_model.specs.Kinds.{table_of_first, table_of_request}
use Rattle.hm_model.specs.Locks.{in_name_order}
use Rattle.hm_model.specs.Outs.{edits_rows, fails, spawns}
use Rattle.hm_model.specs.Pieces.{Batch, adding, batches, by_64, ranges_between, ranges_from, transits}
use Rattle.hm_model.specs.RegionActs.{cut_of}
use Rattle.hm_model.specs.RowsSaid.{all_among, in_status, range_in}
use Rattle.hm_model.specs.Tree.{new_ids}
use Rattle.hm_model.specs.Undoing.{closed_by, turned, turned_round, undo_edits, undo_followers}
use Rattle.hm_model.specs.Views.{asked_of, bounds_of, first_id_of, region_of, regions_in, table_of}
use Rattle.hm_model.specs.Wanted.{ids_of}
use Rattle.hm_model.specs.declared.merged.Merged.{Merged}
use Rattle.hm_kinds.proofs.Kids.{AllMade}

-- the ids that a procedure will give rows to are drawn
abbrev pub ArgsDrawn : (TableName → ℕ → Type 0) → Args → Type 0
ArgsDrawn d (args_are.Root request first) =
    (t : TableName) → table_of_request request ≡ Some t → (i : ℕ) → first ≤ i → i < first + new_ids request → d t i
ArgsDrawn d (args_are.AddRegions table first bounds) = (i : ℕ) → first ≤ i → i + 1 < first + length bounds → d table i
ArgsDrawn d args = Unit {0}

-- a row at a key, if it is there and of a region, has an id that was drawn
abbrev pub IsDrawnAt : (TableName → ℕ → Type 0) → CatKey → Option CatRow → Type 0
IsDrawnAt d (key_is.Region region) row = row ≢ None → d region.table region.id
IsDrawnAt d key row = Unit {0}

abbrev pub AllDrawn : (TableName → ℕ → Type 0) → List Edit → Type 0
AllDrawn d [] = Unit {0}
AllDrawn d (edit ∷ edits) = IsDrawnAt d edit.key edit.before × IsDrawnAt d edit.key edit.after × AllDrawn d edits

abbrev pub SeenDrawn : (TableName → ℕ → Type 0) → Catalog → Type 0
SeenDrawn d seen = (key : CatKey) → IsDrawnAt d key (seen key)

pub drawn_append : (d : TableName → ℕ → Type 0) (xs ys : List Edit) → AllDrawn d xs → AllDrawn d ys → AllDrawn d (xs ++ ys)
drawn_append d [] ys one two = two
drawn_append d (x ∷ xs) ys one two = (one.0, one.1, drawn_append d xs ys one.2 two)

drawn_turned : (d : TableName → ℕ → Type 0) (edits : List Edit) → AllDrawn d edits → AllDrawn d (turned_round edits)
drawn_turned d [] all = tt
drawn_turned d (edit ∷ edits) all = drawn_append d (turned_round edits) (turned edit ∷ []) (drawn_turned d edits all.2) (all.1, all.0, tt)

-- so are those of the edits that undo a step
pub undo_drawn : (d : TableName → ℕ → Type 0) (undo : Back) (edits : List Edit) → AllDrawn d edits → AllDrawn d (undo_edits undo edits)
undo_drawn d back_is.Edits edits all = drawn_turned d edits all
undo_drawn d undo edits all = tt

-- what a step edits and makes
pub record IsFine (d : TableName → ℕ → Type 0) (out : StepOut) : Type 0 where
  pub edits : AllDrawn d out.edits
  pub kids : AllMade (ArgsDrawn d) out.children

-- a table's new regions
bounds_fit_by : (d : TableName → ℕ → Type 0) (request : Request) (first : ℕ) (table : TableName) (bounds : List (List ℕ)) → ArgsDrawn d (args_are.Root request first) → table_of (args_are.Root request first) ≡ Some table → bounds_of (args_are.Root request first) ≡ Some bounds → (i : ℕ) → first ≤ i → i + 1 < first + length bounds → d table i
bounds_fit_by d (request_is.CreateTable t keys) first table bounds args is bound = λ i low high.
    let size : length keys + 1 ≡ length (keys ++ [] ∷ []) = sym (length-append keys ([] ∷ [])) in
    let whole : suc (length (keys ++ [] ∷ [])) ≡ length bounds = ap length (same_Some ([] ∷ keys ++ [] ∷ []) bounds bound) in
    args table is i low (omega (arith, high, size, whole))
bounds_fit_by d request first table bounds args is bound = absurd (none-some bounds bound)

module _ (d : TableName → ℕ → Type 0) where
  pub bounds_fit : (args : Args) (table : TableName) (bounds : List (List ℕ)) → ArgsDrawn d args → table_of args ≡ Some table → bounds_of args ≡ Some bounds → (i : ℕ) → first_id_of args ≤ i → i + 1 < first_id_of args + length bounds → d table i
  bounds_fit (args_are.Root request first) table bounds args is bound = bounds_fit_by d request first table bounds args is bound
  bounds_fit (args_are.AddRegions t first own) table bounds args is bound =
      subst (λ x. (i : ℕ) → first ≤ i → i + 1 < first + length bounds → d x i) (same_Some t table is) (subst (λ x. (i : ℕ) → first ≤ i → i + 1 < first + length x → d t i) (same_Some own bounds bound) args)
  bounds_fit other table bounds args is bound = absurd (none-some bounds bound)

  -- the daughters of a split
  cut_fit_by : (request : Request) (first : ℕ) (region : Region) (key : List ℕ) → ArgsDrawn d (args_are.Root request first) → region_of (args_are.Root request first) ≡ Some region → cut_of (asked_of (args_are.Root request first)) ≡ Some key → (i : ℕ) → first ≤ i → i < first + 2 → d region.table i
  cut_fit_by (request_is.SplitRegion own at) first region key args is cut = args region.table (ap (λ (r : Region). Some r.table) (same_Some own region is))
  cut_fit_by request first region key args is cut = absurd (none-some key cut)

  cut_fit : (args : Args) (region : Region) (key : List ℕ) → ArgsDrawn d args → region_of args ≡ Some region → cut_of (asked_of args) ≡ Some key → (i : ℕ) → first_id_of args ≤ i → i < first_id_of args + 2 → d region.table i
  cut_fit (args_are.Root request first) region key args is cut = cut_fit_by request first region key args is cut
  cut_fit other region key args is cut = absurd (none-some key cut)

  -- the region that others become
  abbrev pub IsFirstDrawn : ℕ → List Region → Type 0
  IsFirstDrawn first [] = Unit {0}
  IsFirstDrawn first (region ∷ more) = d region.table first

  regions_fit : (regions : List Region) (first : ℕ) → ((t : TableName) → table_of_first regions ≡ Some t → d t first) → IsFirstDrawn first regions
  regions_fit [] first args = tt
  regions_fit (region ∷ more) first args = args region.table refl

  closed_fit : (args : Args) → ArgsDrawn d args → IsFirstDrawn (first_id_of args) (closed_by args)
  closed_fit (args_are.Root (request_is.SplitRegion region key) first) args = args region.table refl first (omega arith) (omega arith)
  closed_fit (args_are.Root (request_is.MergeRegions regions) first) args = regions_fit regions first (λ t is. args t is first (omega arith) (omega arith))
  closed_fit (args_are.Root (request_is.CreateNamespace ns) first) args = tt
  closed_fit (args_are.Root (request_is.DropNamespace ns) first) args = tt
  closed_fit (args_are.Root (request_is.CreateTable t keys) first) args = tt
  closed_fit (args_are.Root (request_is.DeleteTable t) first) args = tt
  closed_fit (args_are.Root (request_is.EnableTable t) first) args = tt
  closed_fit (args_are.Root (request_is.DisableTable t) first) args = tt
  closed_fit (args_are.Root (request_is.ModifyTable t version) first) args = tt
  closed_fit (args_are.Root (request_is.Move region to) first) args = tt
  closed_fit other args = tt

  -- edits
  pub map_drawn : (key : CatKey) (change : CatRow → CatRow) (o : Option CatRow) → IsDrawnAt d key o → IsDrawnAt d key (option_map change o)
  map_drawn (key_is.Region region) change None drawn = λ some. absurd (some refl)
  map_drawn (key_is.Region region) change (Some row) drawn = λ some. drawn (λ e. none-some row (sym e))
  map_drawn key change o drawn = tt

  module _ (seen : Catalog) (rows : SeenDrawn d seen) where
    pub add_fine : (table : TableName) (first : ℕ) (ranges : List KeyRange) → ((i : ℕ) → first ≤ i → i < first + length ranges → d table i) → AllDrawn d (add_ranges seen table first ranges)
    add_fine table first [] le = tt
    add_fine table first (range ∷ ranges) fits =
        let more : (i : ℕ) → first ≤ i → i < first + suc (length ranges) → d table i = fits in
        (rows (region_key table first), (λ some. more first (omega arith) (omega arith)), add_fine table (first + 1) ranges (λ i low high. more i (omega (arith, low)) (omega (arith, high))))

    from_fine : (table : TableName) (first : ℕ) (start : List ℕ) (bounds : List (List ℕ)) → ((i : ℕ) → first ≤ i → i < first + length bounds → d table i) → AllDrawn d (add_ranges seen table first (ranges_from start bounds))
    from_fine table first start [] le = tt
    from_fine table first start (end ∷ bounds) fits =
        let more : (i : ℕ) → first ≤ i → i < first + suc (length bounds) → d table i = fits in
        (rows (region_key table first), (λ some. more first (omega arith) (omega arith)), from_fine table (first + 1) end bounds (λ i low high. more i (omega (arith, low)) (omega (arith, high))))

    pub between_fine : (table : TableName) (first : ℕ) (bounds : List (List ℕ)) → ((i : ℕ) → first ≤ i → i + 1 < first + length bounds → d table i) → AllDrawn d (add_ranges seen table first (ranges_between bounds))
    between_fine table first [] le = tt
    between_fine table first (start ∷ bounds) fits =
        let more : (i : ℕ) → first ≤ i → i + 1 < first + suc (length bounds) → d table i = fits in
        from_fine table first start bounds (λ i low high. more i low (omega (arith, high)))

    pub remove_fine : (regions : List Region) → AllDrawn d (remove_regions seen regions)
    remove_fine [] = tt
    remove_fine (region ∷ more) = (rows (key_is.Region region), (λ some. absurd (some refl)), remove_fine more)

    split_fine_by : (region : Region) (key : List ℕ) (first : ℕ) → ((i : ℕ) → first ≤ i → i < first + 2 → d region.table i) → (o : Option KeyRange) → AllDrawn d (split_range seen region key first o)
    split_fine_by region key first le None = tt
    split_fine_by region key first le (Some range) = (
      rows (key_is.Region region),
      map_drawn (key_is.Region region) (in_status status_is.Split) (seen (key_is.Region region)) (rows (key_is.Region region)),
      (rows (region_key region.table first), (λ some. le first (omega arith) (omega arith)), (rows (region_key region.table (first + 1)), (λ some. le (first + 1) (omega arith) (omega arith)), tt)),
    )

    pub split_fine : (region : Region) (key : List ℕ) (first : ℕ) → ((i : ℕ) → first ≤ i → i < first + 2 → d region.table i) → AllDrawn d (split_edits seen region key first)
    split_fine region key first le = split_fine_by region key first le (range_in (seen (key_is.Region region)))

    mark_fine : (regions : List Region) → AllDrawn d (mark_merged seen regions)
    mark_fine [] = tt
    mark_fine (region ∷ more) = (rows (key_is.Region region), map_drawn (key_is.Region region) (in_status status_is.Merged) (seen (key_is.Region region)) (rows (key_is.Region region)), mark_fine more)

    merged_fine : (table : TableName) (first : ℕ) (parts : List Merged) → d table first → AllDrawn d (merged_of seen table first parts)
    merged_fine table first [] le = tt
    merged_fine table first (part ∷ more) le = (rows (region_key table first), (λ some. le), tt)

    add_merged_fine : (first : ℕ) (regions others : List Region) → IsFirstDrawn first regions → AllDrawn d (add_merged seen first regions others)
    add_merged_fine first [] others le = tt
    add_merged_fine first (region ∷ more) others le = merged_fine region.table first (by_start (parts_of seen others)) le

    pub merge_fine : (regions : List Region) (first : ℕ) → IsFirstDrawn first regions → AllDrawn d (merge_edits seen regions first)
    merge_fine regions first le = drawn_append d (mark_merged seen (in_name_order regions)) (add_merged seen first regions regions) (mark_fine (in_name_order regions)) (add_merged_fine first regions regions le)

  -- procedures
  transit_list : (goal : Goal) (list : List Batch) → AllMade (ArgsDrawn d) (map (λ batch. child_is.Transits batch.table batch.ids goal) list)
  transit_list goal [] = tt
  transit_list goal (batch ∷ more) = ((λ id. tt), transit_list goal more)

  pub transits_fine : (goal : Goal) (regions : List Region) → AllMade (ArgsDrawn d) (transits goal regions)
  transits_fine goal regions = transit_list goal (batches (in_name_order regions))

  pub followers_fine : (undo : Back) (args : Args) (root : Pid) → AllMade (ArgsDrawn d) (undo_followers undo args root)
  followers_fine back_is.Sweep args root = (tt, tt)
  followers_fine back_is.Reopen args root = transits_fine goal_is.Assign (closed_by args)
  followers_fine undo args root = tt

  drops_fine : (table : TableName) (pieces : List (List ℕ)) → AllMade (ArgsDrawn d) (map (λ piece. child_is.One (args_are.DropRegions table piece)) pieces)
  drops_fine table [] = tt
  drops_fine table (piece ∷ more) = (tt, drops_fine table more)

  adds_fine : (most : ℕ) (table : TableName) (first : ℕ) (bounds : List (List ℕ)) → ((i : ℕ) → first ≤ i → i + 1 < first + length bounds → d table i) → AllMade (ArgsDrawn d) (adding most table first bounds)
  adds_fine zero table first bounds fits = tt
  adds_fine (suc most) table first bounds fits =
      by_test (nat_le (length bounds) 1)
      (λ i low high. (let size = length-take 65 bounds in fits i low (omega (arith, size, high))))
      (adds_fine most table (first + 64) (drop 64 bounds) (λ i low high. (let size = length-drop 64 bounds in fits i (omega (arith, low)) (omega (arith, size, low, high)))))
    where
      by_test : (b : Bool) → ArgsDrawn d (args_are.AddRegions table first (take 65 bounds)) → AllMade (ArgsDrawn d) (adding most table (first + 64) (drop 64 bounds)) → AllMade (ArgsDrawn d) (cond b [] (child_is.One (args_are.AddRegions table first (take 65 bounds)) ∷ adding most table (first + 64) (drop 64 bounds)))
      by_test true one rest = tt
      by_test false one rest = (one, rest)

  -- forms of answers
  nothing_done : {answer : Answer} {call : Option Rattle.hm_data.specs.declared.call.Verb.Verb} {place : Option Rattle.hm_data.specs.declared.place.Place.Place} → IsFine d (record { answer = answer; edits = []; children = []; call = call; place = place; followers = [] })
  nothing_done = record { edits = tt; kids = tt }

  fine_edits : (next : ℕ) (edits : List Edit) → AllDrawn d edits → IsFine d (edits_rows next edits)
  fine_edits next edits all = record { edits = all; kids = tt }

  fine_spawns : (next : ℕ) (children : List Child) → AllMade (ArgsDrawn d) children → IsFine d (spawns next children)
  fine_spawns next [] all = nothing_done
  fine_spawns next (child ∷ more) all = record { edits = tt; kids = all }

  own_drawn : (args : Args) → {key : CatKey} → IsOwnKey args key → (o : Option CatRow) → IsDrawnAt d key o
  own_drawn args (IsOwnKey.of_namespace ns is) o = tt
  own_drawn args (IsOwnKey.of_name table is) o = tt

  edits_fine : (act : Act) (at : StepIn) → ArgsDrawn d at.args → SeenDrawn d (row_at at.rows) → {edits : List Edit} → Edits act at edits → AllDrawn d edits
  edits_fine act at args seen (Edits.one_row key own kinds after becomes) = (own_drawn at.args own (row_at at.rows key), own_drawn at.args own after, tt)
  edits_fine act at args seen (Edits.adds_rows only table is bounds bound) = between_fine (row_at at.rows) seen table (first_id_of at.args) bounds (bounds_fit at.args table bounds args is bound)
  edits_fine act at args seen (Edits.removes_rows only table is) = remove_fine (row_at at.rows) seen (regions_in table (ids_of at.args))
  edits_fine act at args seen (Edits.splits only region is key cut) = split_fine (row_at at.rows) seen region key (first_id_of at.args) (cut_fit at.args region key args is cut)
  edits_fine act at args seen (Edits.merges only) = merge_fine (row_at at.rows) seen (closed_by at.args) (first_id_of at.args) (closed_fit at.args args)

  makes_fine : (act : Act) (at : StepIn) → ArgsDrawn d at.args → {children : List Child} → Makes act at children → AllMade (ArgsDrawn d) children
  makes_fine act at args (Makes.lays only) = (tt, tt)
  makes_fine act at args (Makes.fences only server is) = (tt, tt)
  makes_fine act at args (Makes.adds_all only table is bounds bound) = adds_fine (length bounds) table (first_id_of at.args) bounds (bounds_fit at.args table bounds args is bound)
  makes_fine act at args (Makes.drops_all only table is) = drops_fine table (by_64 (map (λ (region : Region). region.id) (all_among table at.rows)))
  makes_fine act at args (Makes.sends goal sent which only regions are) = transits_fine goal regions
  makes_fine act at args (Makes.opens off region is server there) = (tt, tt)

  made_fine : (act : Act) (next : ℕ) (at : StepIn) → ArgsDrawn d at.args → SeenDrawn d (row_at at.rows) → {out : StepOut} → IsMadeOf act next at out → IsFine d out
  made_fine act next at args seen (IsMadeOf.edited e edits are) = fine_edits next edits (edits_fine act at args seen are)
  made_fine act next at args seen (IsMadeOf.made children makes) = fine_spawns next children (makes_fine act at args makes)
  made_fine act next at args seen (IsMadeOf.shut off region is server there) = record { edits = tt; kids = (tt, tt) }
  made_fine act next at args seen other = nothing_done

  -- what each act edits and makes
  pub fine_act : (act : Act) (next : ℕ) (at : StepIn) → ArgsDrawn d at.args → SeenDrawn d (row_at at.rows) → IsFine d (act_answer act next at)
  fine_act act next at args seen = made_fine act next at args seen (made_of act next at)

  -- a row's answer: cut off, or that of its act
  pub fine_row : (row : Rattle.hm_data.specs.declared.sheet.Row.Row) (at : StepIn) → ArgsDrawn d at.args → SeenDrawn d (row_at at.rows) → IsFine d (row_answer row at)
  fine_row row at args seen = by (is_cut_off row at)
    where
      by : (b : Bool) → IsFine d (cond b (fails Rattle.hm_data.specs.declared.answer.Cause.TheVariants.Aborted) (act_answer row.act row.next at))
      by true = nothing_done
      by false = fine_act row.act row.next at args seen
