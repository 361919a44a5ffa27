-- Of the procedures that a step makes at most one moves a region.
use Rattle.std.proofs.Common.{◌≡◌, ℕ, zero, suc, ◌+◌, ◌-◌, ◌≤◌, List, [], ◌∷◌, length, map, nat_le, take, drop, Bool, true, false, ◌&&◌, cond, Option, Some, None, refl, ap, sym, ◌∙◌, subst, arith, inl, inr, ◌⊎◌, slice_get}
use Rattle.std.specs.List.{list_all}
use Rattle.std.proofs.lemmas.Bool.{and_parts}
use Rattle.std.proofs.lemmas.Option.{none-some, same_Some}
use Rattle.std.specs.declared.cmp.Ordering.{Ordering}
use Rattle.std.specs.declared.cmp.Ordering.TheVariants.{Equal, Greater, Less}
use Rattle.hm_names.specs.Order.{region_cmp}
use Rattle.hm_names.specs.Region.{Region}
use Rattle.hm_names.specs.declared.table.TableName.{TableName}
use Rattle.hm_data.specs.declared.act.Act.{Act}
use Rattle.hm_data.specs.declared.args.Args.{Args}
use Rattle.hm_data.specs.declared.args.Args.TheVariants as args_are
use Rattle.hm_data.specs.declared.args.Child.{Child}
use Rattle.hm_data.specs.declared.args.Child.TheVariants as child_is
use Rattle.hm_data.specs.declared.catalog.CatKey.{CatKey}
use Rattle.hm_data.specs.declared.catalog.CatKey.TheVariants as key_is
use Rattle.hm_data.specs.declared.catalog.CatRow.{CatRow}
use Rattle.hm_data.specs.declared.place.Goal.{Goal}
use Rattle.hm_data.specs.declared.request.Request.{Request}
use Rattle.hm_data.specs.declared.request.Request.TheVariants as request_is
use Rattle.hm_data.specs.declared.step.StepIn.{StepIn}
use Rattle.hm_data.specs.declared.step.StepOut.{StepOut}
use Rattle.hm_model.specs.Acts.{act_answer}
use Rattle.hm_model.specs.Catalog.{Catalog, keep, rows_at}
use Rattle.hm_model.specs.Keys.{same_table}
use Rattle.hm_model.specs.Locks.{IsIn, in_name_order, with_region, with_region_at}
use Rattle.hm_model.specs.Outs.{spawns}
use Rattle.hm_model.specs.Pieces.{Batch, adding, batches, by_64, dropping, numbers_from, transits, with_batch}
use Rattle.hm_model.specs.RegionActs.{regions_for}
use Rattle.hm_model.specs.Requests.{are_apart, are_siblings, wrong_in}
use Rattle.hm_model.specs.RowLaws.{AreInOrder}
use Rattle.hm_model.specs.RowsSaid.{all_among, keep_region, live_among, regions_among}
use Rattle.hm_model.specs.Tree.{args_in}
use Rattle.hm_model.specs.Undoing.{closed_by}
use Rattle.hm_model.specs.Views.{bounds_of, first_id_of, regions_in}
use Rattle.hm_model.specs.Whereabouts.{moved_by}
use Rattle.hm_model.specs.MadeOf.{AreMoved, IsMadeOf, Makes, Which}
use Rattle.hm_model.proofs.MadeOf.{made_of}
use Rattle.hm_model.proofs.KeyTests.{same_table-is}
use Rattle.hm_model.proofs.PlainActs.{is_plain}
use Rattle.hm_model.proofs.Siblings.{merge_is, not_among}
use Rattle.hm_model.proofs.InOrder.{InOrder, not_later}
use Rattle.hm_model.proofs.Rows.{behind_out}

-- each region once
abbrev pub AreDistinct : List Region → Type 0
AreDistinct [] = Unit {0}
AreDistinct (region ∷ more) = (IsIn region more → ⊥) × AreDistinct more

pub distinct_order : (list : List Region) → InOrder list → AreDistinct list
distinct_order [] order = tt
distinct_order (region ∷ more) order = ((λ among. not_later region more order.0 among), distinct_order more order.1)

in_taken : {A : Type 0} (x : A) (n : ℕ) (list : List A) → IsIn x (take n list) → IsIn x list
in_taken x zero list h = elim h [ ]
in_taken x (suc n) [] h = elim h [ ]
in_taken x (suc n) (y ∷ list) h = elim h [ inl here ↦ inl here | inr later ↦ inr (in_taken x n list later) ]

pub distinct_taken : (n : ℕ) (list : List Region) → AreDistinct list → AreDistinct (take n list)
distinct_taken zero list each = tt
distinct_taken (suc n) [] each = tt
distinct_taken (suc n) (x ∷ list) each = ((λ among. each.0 (in_taken x n list among)), distinct_taken n list each.1)

pub out_with : (y region : Region) (list : List Region) → IsIn y (with_region region list) → (y ≡ region) ⊎ IsIn y list
out_with y region [] h = h
out_with y region (first ∷ more) h = by (region_cmp region first) (out_with y region more) h
  where
    by : (o : Ordering) → (IsIn y (with_region region more) → (y ≡ region) ⊎ IsIn y more) → IsIn y (with_region_at o region first more (with_region region more)) → (y ≡ region) ⊎ IsIn y (first ∷ more)
    by Less on h = h
    by Equal on h = h
    by Greater on h = elim h [ inl here ↦ inr (inl here) | inr later ↦ elim (on later) [ inl new ↦ inl new | inr old ↦ inr (inr old) ] ]

distinct_with : (region : Region) (list : List Region) → (IsIn region list → ⊥) → AreDistinct list → AreDistinct (with_region region list)
distinct_with region [] new each = (new, tt)
distinct_with region (first ∷ more) new each = by (region_cmp region first) (distinct_with region more (λ h. new (inr h)) each.1)
  where
    by : (o : Ordering) → AreDistinct (with_region region more) → AreDistinct (with_region_at o region first more (with_region region more))
    by Less on = (new, each)
    by Equal on = (new, each)
    by Greater on = ((λ h. elim (out_with first region more h) [ inl same ↦ new (inl (sym same)) | inr later ↦ each.0 later ]), on)

pub out_ordered : (y : Region) (list : List Region) → IsIn y (in_name_order list) → IsIn y list
out_ordered y [] h = h
out_ordered y (region ∷ more) h = elim (out_with y region (in_name_order more) h) [ inl here ↦ inl here | inr later ↦ inr (out_ordered y more later) ]

distinct_ordered : (list : List Region) → AreDistinct list → AreDistinct (in_name_order list)
distinct_ordered [] each = tt
distinct_ordered (region ∷ more) each = distinct_with region (in_name_order more) (λ h. each.0 (out_ordered region more h)) (distinct_ordered more each.1)

-- regions of a table by rising numbers
in_numbered : (table : TableName) (y : Region) (first count : ℕ) → IsIn y (regions_in table (numbers_from first count)) → first ≤ y.id
in_numbered table y first zero h = elim h [ ]
in_numbered table y first (suc count) h = elim h [
  | inl here ↦ let e = ap (λ (r : Region). r.id) here in omega (arith, e)
  | inr later ↦ let more = in_numbered table y (first + 1) count later in omega (arith, more)
]

distinct_numbered : (table : TableName) (first count : ℕ) → AreDistinct (regions_in table (numbers_from first count))
distinct_numbered table first zero = tt
distinct_numbered table first (suc count) = ((λ h. let more = in_numbered table (record { table = table; id = first }) (first + 1) count h in omega (arith, more)), distinct_numbered table (first + 1) count)

-- regions among rows whose keys are in order
among_keys : (table : TableName) (test : CatRow → Bool) (asked : CatKey → Bool) (there : Catalog) (keys : List CatKey) (y : Region) → IsIn y (regions_among table test (rows_at asked there keys)) → IsIn (key_is.Region y) keys
among_keys table test asked there [] y h = elim h [ ]
among_keys table test asked there (key ∷ keys) y h = by (asked key) (there key) (among_keys table test asked there keys y) h
  where
    by_keep : (key : CatKey) (b : Bool) (row : CatRow) → (IsIn y (regions_among table test (rows_at asked there keys)) → IsIn (key_is.Region y) keys) → IsIn y (keep_region table test key row (regions_among table test (rows_at asked there keys))) → IsIn (key_is.Region y) (key ∷ keys)
    by_keep (key_is.Region region) b row on h = at (same_table table region.table && test row) h
      where
        at : (b : Bool) → IsIn y (cond b (region ∷ regions_among table test (rows_at asked there keys)) (regions_among table test (rows_at asked there keys))) → IsIn (key_is.Region y) (key_is.Region region ∷ keys)
        at true h = elim h [ inl here ↦ inl (ap key_is.Region here) | inr later ↦ inr (on later) ]
        at false h = inr (on h)
    by_keep key b row on h = inr (on h)

    by : (b : Bool) (o : Option CatRow) → (IsIn y (regions_among table test (rows_at asked there keys)) → IsIn (key_is.Region y) keys) → IsIn y (regions_among table test (keep b key o (rows_at asked there keys))) → IsIn (key_is.Region y) (key ∷ keys)
    by false o on h = inr (on h)
    by true None on h = inr (on h)
    by true (Some row) on h = by_keep key true row on h

pub distinct_among : (table : TableName) (test : CatRow → Bool) (asked : CatKey → Bool) (there : Catalog) (keys : List CatKey) → AreInOrder keys → AreDistinct (regions_among table test (rows_at asked there keys))
distinct_among table test asked there [] order = tt
distinct_among table test asked there (key ∷ keys) order = by (asked key) (there key) (distinct_among table test asked there keys order.1)
  where
    by_keep : (own : CatKey) (row : CatRow) → key ≡ own → AreDistinct (regions_among table test (rows_at asked there keys)) → AreDistinct (keep_region table test own row (regions_among table test (rows_at asked there keys)))
    by_keep (key_is.Region region) row e on = at (same_table table region.table && test row)
      where
        at : (b : Bool) → AreDistinct (cond b (region ∷ regions_among table test (rows_at asked there keys)) (regions_among table test (rows_at asked there keys)))
        at true = ((λ h. behind_out key keys order.0 (subst (λ k. IsIn k keys) (sym e) (among_keys table test asked there keys region h))), on)
        at false = on
    by_keep key row e on = on

    by : (b : Bool) (o : Option CatRow) → AreDistinct (regions_among table test (rows_at asked there keys)) → AreDistinct (regions_among table test (keep b key o (rows_at asked there keys)))
    by false o on = on
    by true None on = on
    by true (Some row) on = by_keep key row refl on

siblings_distinct : (regions : List Region) → are_siblings regions ≡ true → AreDistinct regions
siblings_distinct [] h = tt
siblings_distinct (region ∷ more) h = (not_among region more h, siblings_distinct more (and_parts (list_all (are_apart region) more) (are_siblings more) h).1)

-- the regions that a request closes
pub asked_distinct : (request : Request) (first : ℕ) → wrong_in request ≡ None → AreDistinct (closed_by (args_are.Root request first))
asked_distinct (request_is.SplitRegion region key) first fine = ((λ h. elim h [ ]), tt)
asked_distinct (request_is.MergeRegions regions) first fine = siblings_distinct regions (merge_is regions fine).siblings
asked_distinct request first fine = tt

-- at most one of these moves a region
abbrev pub OnePerRegion : List Args → Type 0
OnePerRegion list = (i j : ℕ) (a b : Args) (region : Region) → slice_get list i ≡ Some a → slice_get list j ≡ Some b → moved_by a ≡ Some region → moved_by b ≡ Some region → i ≡ j

abbrev AreStill : List Args → Type 0
AreStill [] = Unit {0}
AreStill (args ∷ more) = (moved_by args ≡ None) × AreStill more

still_one : (list : List Args) → AreStill list → OnePerRegion list
still_one [] still i j a b region at there m n = absurd (none-some a at)
still_one (args ∷ more) still zero j a b region at there m n = absurd (none-some region (sym still.0 ∙ ap moved_by (same_Some args a at) ∙ m))
still_one (args ∷ more) still (suc i) zero a b region at there m n = absurd (none-some region (sym still.0 ∙ ap moved_by (same_Some args b there) ∙ n))
still_one (args ∷ more) still (suc i) (suc j) a b region at there m n = ap suc (still_one more still.1 i j a b region at there m n)

moved_in : (goal : Goal) (list : List Region) (i : ℕ) (a : Args) (region : Region) → slice_get (map (λ r. args_are.Transit r goal None) list) i ≡ Some a → moved_by a ≡ Some region → IsIn region list
moved_in goal [] i a region at m = absurd (none-some a at)
moved_in goal (x ∷ list) zero a region at m = inl (sym (same_Some x region (ap moved_by (same_Some (args_are.Transit x goal None) a at) ∙ m)))
moved_in goal (x ∷ list) (suc i) a region at m = inr (moved_in goal list i a region at m)

transits_one : (goal : Goal) (list : List Region) → AreDistinct list → OnePerRegion (map (λ r. args_are.Transit r goal None) list)
transits_one goal [] each i j a b region at there m n = absurd (none-some a at)
transits_one goal (x ∷ list) each zero zero a b region at there m n = refl
transits_one goal (x ∷ list) each zero (suc j) a b region at there m n =
    let here : x ≡ region = same_Some x region (ap moved_by (same_Some (args_are.Transit x goal None) a at) ∙ m) in
    absurd (each.0 (subst (λ r. IsIn r list) (sym here) (moved_in goal list j b region there n)))
transits_one goal (x ∷ list) each (suc i) zero a b region at there m n =
    let here : x ≡ region = same_Some x region (ap moved_by (same_Some (args_are.Transit x goal None) b there) ∙ n) in
    absurd (each.0 (subst (λ r. IsIn r list) (sym here) (moved_in goal list i a region at m)))
transits_one goal (x ∷ list) each (suc i) (suc j) a b region at there m n = ap suc (transits_one goal list each.1 i j a b region at there m n)

batch_args : (goal : Goal) (region : Region) (list : List Batch) → args_in (map (λ batch. child_is.Transits batch.table batch.ids goal) (with_batch region list)) ≡ args_are.Transit region goal None ∷ args_in (map (λ batch. child_is.Transits batch.table batch.ids goal) list)
batch_args goal region [] = refl
batch_args goal region (batch ∷ more) = by (same_table region.table batch.table) refl
  where
    by : (b : Bool) → same_table region.table batch.table ≡ b → args_in (map (λ batch. child_is.Transits batch.table batch.ids goal) (cond b (record { table = batch.table; ids = region.id ∷ batch.ids } ∷ more) (record { table = region.table; ids = region.id ∷ [] } ∷ batch ∷ more))) ≡ args_are.Transit region goal None ∷ args_in (map (λ batch. child_is.Transits batch.table batch.ids goal) (batch ∷ more))
    by false e = refl
    by true e = ap (λ t. args_are.Transit (record { table = t; id = region.id }) goal None ∷ args_in (map (λ batch. child_is.Transits batch.table batch.ids goal) (batch ∷ more))) (sym (same_table-is region.table batch.table e))

batches_args : (goal : Goal) (list : List Region) → args_in (map (λ batch. child_is.Transits batch.table batch.ids goal) (batches list)) ≡ map (λ r. args_are.Transit r goal None) list
batches_args goal [] = refl
batches_args goal (region ∷ more) = batch_args goal region (batches more) ∙ ap (λ l. args_are.Transit region goal None ∷ l) (batches_args goal more)

moves_one : (goal : Goal) (regions : List Region) → AreDistinct regions → OnePerRegion (args_in (transits goal regions))
moves_one goal regions each = subst OnePerRegion (sym (batches_args goal (in_name_order regions))) (transits_one goal (in_name_order regions) (distinct_ordered regions each))

spawned_one : (next : ℕ) (children : List Child) → OnePerRegion (args_in children) → OnePerRegion (args_in (spawns next children).children)
spawned_one next [] one = one
spawned_one next (child ∷ more) one = one

adding_still : (most : ℕ) (table : TableName) (first : ℕ) (bounds : List (List ℕ)) → AreStill (args_in (adding most table first bounds))
adding_still zero table first bounds = tt
adding_still (suc most) table first bounds = by (nat_le (length bounds) 1) (adding_still most table (first + 64) (drop 64 bounds))
  where
    by : (b : Bool) → AreStill (args_in (adding most table (first + 64) (drop 64 bounds))) → AreStill (args_in (cond b [] (child_is.One (args_are.AddRegions table first (take 65 bounds)) ∷ adding most table (first + 64) (drop 64 bounds))))
    by true more = tt
    by false more = (refl, more)

dropping_still : (table : TableName) (pieces : List (List ℕ)) → AreStill (args_in (map (λ piece. child_is.One (args_are.DropRegions table piece)) pieces))
dropping_still table [] = tt
dropping_still table (piece ∷ more) = (refl, dropping_still table more)

-- what a step sees has each region once
pub record SeesEachOnce (at : StepIn) : Type 0 where
  pub rows : (table : TableName) → AreDistinct (live_among table at.rows)
  pub closed : AreDistinct (closed_by at.args)
  pub lost : AreDistinct at.on_server

distinct_for : (at : StepIn) → SeesEachOnce at → (table : TableName) (first : ℕ) (bounds : Option (List (List ℕ))) → AreDistinct (regions_for table first bounds at.rows)
distinct_for at sees table first None = sees.rows table
distinct_for at sees table first (Some bounds) = distinct_numbered table first (length bounds - 1)

distinct_moved : (at : StepIn) → SeesEachOnce at → {which : Which} {regions : List Region} → AreMoved at which regions → AreDistinct regions
distinct_moved at sees (AreMoved.of_table table own) = distinct_for at sees table (first_id_of at.args) (bounds_of at.args)
distinct_moved at sees AreMoved.of_closed = sees.closed
distinct_moved at sees (AreMoved.of_drawn count table own) = distinct_numbered table (first_id_of at.args) count
distinct_moved at sees AreMoved.of_lost = sees.lost

one_makes : (act : Act) (at : StepIn) → SeesEachOnce at → {children : List Child} → Makes act at children → OnePerRegion (args_in children)
one_makes act at sees (Makes.lays is) = still_one (args_are.LayoutCall at.root ∷ []) (refl, tt)
one_makes act at sees (Makes.fences is server own) = still_one (args_are.FenceCall server ∷ []) (refl, tt)
one_makes act at sees (Makes.adds_all is table own bounds are) = still_one (args_in (adding (length bounds) table (first_id_of at.args) bounds)) (adding_still (length bounds) table (first_id_of at.args) bounds)
one_makes act at sees (Makes.drops_all is table own) =
    let ids = map (λ (region : Region). region.id) (all_among table at.rows) in
    still_one (args_in (dropping table ids)) (dropping_still table (by_64 ids))
one_makes act at sees (Makes.sends goal sent which is regions are) = moves_one goal regions (distinct_moved at sees are)
one_makes act at sees (Makes.opens off region own server there) = still_one (args_are.AssignCall region server ∷ []) (refl, tt)

one_made : (act : Act) (next : ℕ) (at : StepIn) → SeesEachOnce at → {out : StepOut} → IsMadeOf act next at out → OnePerRegion (args_in out.children)
one_made act next at sees (IsMadeOf.made children makes) = spawned_one next children (one_makes act at sees makes)
one_made act next at sees (IsMadeOf.shut off region own server there) = still_one (args_are.CloseCall region server ∷ []) (refl, tt)
one_made act next at sees other = still_one [] tt

pub act_one : (act : Act) → is_plain act ≡ true → (next : ℕ) (at : StepIn) → SeesEachOnce at → OnePerRegion (args_in (act_answer act next at).children)
act_one act h next at sees = one_made act next at sees (made_of act next at)
