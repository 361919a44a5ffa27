-- What procedures bear: no root and no crash; a transit only where they ask for all that it asks for, or are crashes.
use Rattle.std.proofs.Common.{◌≡◌, ℕ, zero, suc, ◌+◌, ◌-◌, List, [], ◌∷◌, length, map, take, drop, ◌&&◌, nat_le, Bool, true, false, cond, Option, Some, None, refl, ap, sym, ◌∙◌, subst, inl, inr, ◌⊎◌}
use Rattle.std.specs.declared.cmp.Ordering.{Ordering}
use Rattle.std.specs.declared.cmp.Ordering.TheVariants.{Less, Equal, Greater}
use Rattle.std.proofs.lemmas.Bool.{and_parts, false≢true, true≢false}
use Rattle.hm_names.specs.Order.{region_cmp}
use Rattle.hm_names.specs.Region.{Region}
use Rattle.hm_names.specs.declared.table.TableName.{TableName}
use Rattle.hm_data.specs.declared.act.Act.{Act}
use Rattle.hm_data.specs.declared.act.Act.TheVariants as act_is
use Rattle.hm_data.specs.declared.args.Args.{Args}
use Rattle.hm_data.specs.declared.args.Args.TheVariants as args_are
use Rattle.hm_data.specs.declared.args.Child.{Child}
use Rattle.hm_data.specs.declared.args.Child.TheVariants as child_is
use Rattle.hm_data.specs.declared.catalog.CatKey.TheVariants as key_is
use Rattle.hm_data.specs.declared.catalog.CatRow.{CatRow}
use Rattle.hm_data.specs.declared.place.Goal.{Goal}
use Rattle.hm_data.specs.declared.place.Goal.TheVariants as goal_is
use Rattle.hm_data.specs.declared.request.Request.TheVariants as request_is
use Rattle.hm_data.specs.declared.step.StepIn.{StepIn}
use Rattle.hm_data.specs.declared.step.StepOut.{StepOut}
use Rattle.hm_model.specs.Acts.{act_answer}
use Rattle.hm_model.specs.Keys.{same_table}
use Rattle.hm_model.specs.Kinds.{kind_of}
use Rattle.hm_model.specs.Locks.{IsIn, exclusive, in_name_order, merge_asks, request_asks, shared, table_alone, with_region, with_region_at}
use Rattle.hm_model.specs.Outs.{spawns}
use Rattle.hm_model.specs.Pieces.{Batch, adding, batches, by_64, numbers_from, transits, with_batch}
use Rattle.hm_model.specs.RegionActs.{close_parents, close_regions, open_new, open_regions, regions_for}
use Rattle.hm_model.specs.RowsSaid.{Rows, all_among, regions_among}
use Rattle.hm_model.specs.Tree.{args_in}
use Rattle.hm_model.specs.Views.{bounds_of, first_id_of, regions_in}
use Rattle.hm_model.specs.declared.lock.Ask.{Ask}
use Rattle.hm_model.specs.declared.lock.Resource.TheVariants as resource_is
use Rattle.hm_model.proofs.ExactRows.{is_listed}
use Rattle.hm_model.proofs.KeyTests.{same_table-is}
use Rattle.hm_model.proofs.Siblings.{merge_is, one_table}
use Rattle.hm_model.specs.MadeOf.{IsMadeOf, Makes, Making, making}
use Rattle.hm_model.proofs.MadeOf.{made_of}
use Rattle.hm_model.proofs.PlainActs.{is_plain}
use Rattle.hm_model.proofs.Small.{in_left, in_map, in_right}
use Rattle.hm_model.proofs.Listed.{in_ordered}
use Rattle.hm_kinds.proofs.LockForms.{IsRight}
use Rattle.hm_world_model.proofs.Facts.{in_both}

-- asks for all that a transit of the region asks for
abbrev pub Over : List Ask → Region → Type 0
Over list region =
    IsIn (shared (resource_is.Ns region.table.ns)) list
    × (IsIn (exclusive (resource_is.Table region.table)) list
    ⊎ (IsIn (shared (resource_is.Table region.table)) list × IsIn (exclusive (resource_is.Region region)) list))

-- whose transits may be of the region
abbrev pub MayMove : Args → Region → Type 0
MayMove (args_are.Root request first) region = Over (request_asks request first) region
MayMove (args_are.Crash server) region = Unit {0}
MayMove args region = ⊥

-- what a procedure may bear
abbrev pub BornOf : Args → Args → Type 0
BornOf up (args_are.Root request first) = ⊥
BornOf up (args_are.Transit region goal to) = MayMove up region
BornOf up (args_are.Crash server) = ⊥
BornOf up args = Unit {0}

-- all that children stand for may be born
abbrev pub AllBorn : Args → List Child → Type 0
AllBorn up children = (made : Args) → IsIn made (args_in children) → BornOf up made

abbrev pub Bears : Args → StepOut → Type 0
Bears up out = AllBorn up out.children

-- each region of a list is of a sort
abbrev pub AllOf : (Region → Type 0) → List Region → Type 0
AllOf P [] = Unit {0}
AllOf P (region ∷ more) = P region × AllOf P more

abbrev AllIds : (Region → Type 0) → TableName → List ℕ → Type 0
AllIds P table [] = Unit {0}
AllIds P table (id ∷ ids) = P (record { table = table; id = id }) × AllIds P table ids

abbrev AllBatches : (Region → Type 0) → List Batch → Type 0
AllBatches P [] = Unit {0}
AllBatches P (batch ∷ more) = AllIds P batch.table batch.ids × AllBatches P more

with_all : (P : Region → Type 0) (region : Region) → P region → (list : List Region) → AllOf P list → AllOf P (with_region region list)
with_all P region p [] all = (p, tt)
with_all P region p (first ∷ more) all = by (region_cmp region first) (with_all P region p more all.1)
  where
    by : (o : Ordering) → AllOf P (with_region region more) → AllOf P (with_region_at o region first more (with_region region more))
    by Less rest = (p, all)
    by Equal rest = (p, all)
    by Greater rest = (all.0, rest)

pub ordered_all : (P : Region → Type 0) (list : List Region) → AllOf P list → AllOf P (in_name_order list)
ordered_all P [] all = tt
ordered_all P (region ∷ more) all = with_all P region all.0 (in_name_order more) (ordered_all P more all.1)

batch_all : (P : Region → Type 0) (region : Region) → P region → (list : List Batch) → AllBatches P list → AllBatches P (with_batch region list)
batch_all P region p [] all = ((p, tt), tt)
batch_all P region p (batch ∷ more) all = by (same_table region.table batch.table) refl
  where
    by : (b : Bool) → same_table region.table batch.table ≡ b → AllBatches P (cond b (record { table = batch.table; ids = region.id ∷ batch.ids } ∷ more) (record { table = region.table; ids = region.id ∷ [] } ∷ batch ∷ more))
    by true same = ((subst (λ t. P (record { table = t; id = region.id })) (same_table-is region.table batch.table same) p, all.0), all.1)
    by false differs = ((p, tt), all)

batches_all : (P : Region → Type 0) (list : List Region) → AllOf P list → AllBatches P (batches list)
batches_all P [] all = tt
batches_all P (region ∷ more) all = batch_all P region all.0 (batches more) (batches_all P more all.1)

-- a child of transits is one of a region of the sort
abbrev pub IsMoved : (Region → Type 0) → Goal → Args → Type 0
IsMoved P goal made = (region : Region) × P region × (made ≡ args_are.Transit region goal None)

moved_ids : (P : Region → Type 0) (goal : Goal) (table : TableName) (ids : List ℕ) → AllIds P table ids → (made : Args) → IsIn made (map (λ id. args_are.Transit (record { table = table; id = id }) goal None) ids) → IsMoved P goal made
moved_ids P goal table [] all made h = absurd h
moved_ids P goal table (id ∷ ids) all made (inl same) = (record { table = table; id = id }, all.0, same)
moved_ids P goal table (id ∷ ids) all made (inr more) = moved_ids P goal table ids all.1 made more

moved_batches : (P : Region → Type 0) (goal : Goal) (list : List Batch) → AllBatches P list → (made : Args) → IsIn made (args_in (map (λ (batch : Batch). child_is.Transits batch.table batch.ids goal) list)) → IsMoved P goal made
moved_batches P goal [] all made h = absurd h
moved_batches P goal (batch ∷ more) all made h = elim (in_both made (map (λ id. args_are.Transit (record { table = batch.table; id = id }) goal None) batch.ids) (args_in (map (λ (b : Batch). child_is.Transits b.table b.ids goal) more)) h) [
  | inl here ↦ moved_ids P goal batch.table batch.ids all.0 made here
  | inr later ↦ moved_batches P goal more all.1 made later
]

pub moved_all : (P : Region → Type 0) (goal : Goal) (list : List Region) → AllOf P list → (made : Args) → IsIn made (args_in (transits goal list)) → IsMoved P goal made
moved_all P goal list all made h = moved_batches P goal (batches (in_name_order list)) (batches_all P (in_name_order list) (ordered_all P list all)) made h

-- what is answered bears what may be born
module _ (up : Args) where
  bears_spawns : (next : ℕ) (children : List Child) → AllBorn up children → Bears up (spawns next children)
  bears_spawns next [] all = all
  bears_spawns next (child ∷ more) all = all

  bears_one : (own : Args) → BornOf up own → AllBorn up (child_is.One own ∷ [])
  bears_one own born made (inl same) = subst (BornOf up) (sym same) born
  bears_one own born made (inr never) = absurd never

  bears_more : (own : Args) (more : List Child) → BornOf up own → AllBorn up more → AllBorn up (child_is.One own ∷ more)
  bears_more own more born all made (inl same) = subst (BornOf up) (sym same) born
  bears_more own more born all made (inr later) = all made later

  bears_adding : (most : ℕ) (table : TableName) (first : ℕ) (bounds : List (List ℕ)) → AllBorn up (adding most table first bounds)
  bears_adding zero table first bounds = λ made h. absurd h
  bears_adding (suc most) table first bounds = by (nat_le (length bounds) 1) (bears_adding most table (first + 64) (drop 64 bounds))
    where
      by : (b : Bool) → AllBorn up (adding most table (first + 64) (drop 64 bounds)) → AllBorn up (cond b [] (child_is.One (args_are.AddRegions table first (take 65 bounds)) ∷ adding most table (first + 64) (drop 64 bounds)))
      by true rest = λ made h. absurd h
      by false rest = bears_more (args_are.AddRegions table first (take 65 bounds)) (adding most table (first + 64) (drop 64 bounds)) tt rest

  bears_pieces : (table : TableName) (pieces : List (List ℕ)) → AllBorn up (map (λ piece. child_is.One (args_are.DropRegions table piece)) pieces)
  bears_pieces table [] = λ made h. absurd h
  bears_pieces table (piece ∷ pieces) = bears_more (args_are.DropRegions table piece) (map (λ piece. child_is.One (args_are.DropRegions table piece)) pieces) tt (bears_pieces table pieces)

  pub bears_moves : (goal : Goal) (list : List Region) → AllOf (MayMove up) list → AllBorn up (transits goal list)
  bears_moves goal list all made h = let m = moved_all (MayMove up) goal list all made h in subst (BornOf up) (sym m.2) m.1

bears_moving : (up : Args) (next : ℕ) (goal : Goal) (list : List Region) → AllOf (MayMove up) list → Bears up (spawns next (transits goal list))
bears_moving up next goal list all = bears_spawns up next (transits goal list) (bears_moves up goal list all)

-- regions of one table
regions_all : (P : Region → Type 0) (table : TableName) → ((region : Region) → table ≡ region.table → P region) → (ids : List ℕ) → AllOf P (regions_in table ids)
regions_all P table each [] = tt
regions_all P table each (id ∷ ids) = (each (record { table = table; id = id }) refl, regions_all P table each ids)

among_all : (P : Region → Type 0) (table : TableName) → ((region : Region) → table ≡ region.table → P region) → (test : CatRow → Bool) (rows : Rows) → AllOf P (regions_among table test rows)
among_all P table each test [] = tt
among_all P table each test ((key_is.Ns ns, row) ∷ rows) = among_all P table each test rows
among_all P table each test ((key_is.Table other, row) ∷ rows) = among_all P table each test rows
among_all P table each test ((key_is.Region region, row) ∷ rows) = by (same_table table region.table && test row) refl (among_all P table each test rows)
  where
    by : (b : Bool) → (same_table table region.table && test row) ≡ b → AllOf P (regions_among table test rows) → AllOf P (cond b (region ∷ regions_among table test rows) (regions_among table test rows))
    by true own rest = (each region (same_table-is table region.table (and_parts (same_table table region.table) (test row) own).0), rest)
    by false other rest = rest

for_all : (P : Region → Type 0) (table : TableName) → ((region : Region) → table ≡ region.table → P region) → (first : ℕ) (bounds : Option (List (List ℕ))) (rows : Rows) → AllOf P (regions_for table first bounds rows)
for_all P table each first None rows = among_all P table each _ rows
for_all P table each first (Some bounds) rows = regions_all P table each (numbers_from first (length bounds - 1))

-- who has a table alone is over its regions
alone_over : (table : TableName) (region : Region) → table ≡ region.table → Over (table_alone table) region
alone_over table region same = subst (λ t. IsIn (shared (resource_is.Ns t.ns)) (table_alone table) × (IsIn (exclusive (resource_is.Table t)) (table_alone table) ⊎ (IsIn (shared (resource_is.Table t)) (table_alone table) × IsIn (exclusive (resource_is.Region region)) (table_alone table)))) same (inl refl, inl (inr (inl refl)))

open_bears : (args : Args) → is_listed (kind_of args) act_is.OpenRegions ≡ true → (next : ℕ) (rows : Rows) → Bears args (open_regions next args rows)
open_bears (args_are.Root (request_is.CreateTable table keys) first) h next rows =
    let up : Args = args_are.Root (request_is.CreateTable table keys) first in
    bears_moving up next goal_is.Assign (regions_for table first (bounds_of up) rows) (for_all (MayMove up) table (alone_over table) first (bounds_of up) rows)
open_bears (args_are.Root (request_is.EnableTable table) first) h next rows =
    let up : Args = args_are.Root (request_is.EnableTable table) first in
    bears_moving up next goal_is.Assign (regions_for table first None rows) (for_all (MayMove up) table (alone_over table) first None rows)
open_bears args h next rows = absurd (false≢true h)

close_bears : (args : Args) → is_listed (kind_of args) act_is.CloseRegions ≡ true → (next : ℕ) (rows : Rows) → Bears args (close_regions next args rows)
close_bears (args_are.Root (request_is.DisableTable table) first) h next rows =
    let up : Args = args_are.Root (request_is.DisableTable table) first in
    bears_moving up next goal_is.Unassign (regions_for table first None rows) (for_all (MayMove up) table (alone_over table) first None rows)
close_bears args h next rows = absurd (false≢true h)

-- who splits a region is over it and its daughters
parent_bears : (args : Args) → is_listed (kind_of args) act_is.CloseParent ≡ true → (next : ℕ) → Bears args (close_parents next args)
parent_bears (args_are.Root (request_is.SplitRegion region key) first) h next = bears_moving (args_are.Root (request_is.SplitRegion region key) first) next goal_is.Unassign (region ∷ []) ((inl refl, inr (inr (inl refl), inr (inr (inl refl)))), tt)
parent_bears args h next = absurd (false≢true h)

daughters_bears : (args : Args) → is_listed (kind_of args) act_is.OpenDaughters ≡ true → (next : ℕ) → Bears args (open_new 2 next args)
daughters_bears (args_are.Root (request_is.SplitRegion region key) first) h next = bears_moving (args_are.Root (request_is.SplitRegion region key) first) next goal_is.Assign (regions_in region.table (numbers_from first 2))
    ((inl refl, inr (inr (inl refl), inr (inr (inr (inl refl))))), ((inl refl, inr (inr (inl refl), inr (inr (inr (inr (inl refl)))))), tt))
daughters_bears args h next = absurd (false≢true h)

-- who merges regions is over them and the one that they become
merge_over : (one : Region) (more : List Region) (first : ℕ) (region : Region) → one.table ≡ region.table → IsIn (exclusive (resource_is.Region region)) (merge_asks (one ∷ more) first) → Over (merge_asks (one ∷ more) first) region
merge_over one more first region same alone = (subst (λ (t : TableName). IsIn (shared (resource_is.Ns t.ns)) (merge_asks (one ∷ more) first)) same (inl refl), inr (subst (λ (t : TableName). IsIn (shared (resource_is.Table t)) (merge_asks (one ∷ more) first)) same (inr (inl refl)), alone))

merge_has : (one : Region) (more : List Region) (first : ℕ) (region : Region) → IsIn region (one ∷ more) → IsIn (exclusive (resource_is.Region region)) (merge_asks (one ∷ more) first)
merge_has one more first region among = inr (inr (in_left (exclusive (resource_is.Region region)) (map (λ r. exclusive (resource_is.Region r)) (in_name_order (one ∷ more))) _ (in_map (λ r. exclusive (resource_is.Region r)) region (in_name_order (one ∷ more)) (in_ordered region (one ∷ more) among))))

merge_new : (one : Region) (more : List Region) (first : ℕ) → IsIn (exclusive (resource_is.Region (record { table = one.table; id = first }))) (merge_asks (one ∷ more) first)
merge_new one more first = inr (inr (in_right _ (map (λ r. exclusive (resource_is.Region r)) (in_name_order (one ∷ more))) _ (inl refl)))

pub each_of : (P : Region → Type 0) (list : List Region) → ((region : Region) → IsIn region list → P region) → AllOf P list
each_of P [] each = tt
each_of P (region ∷ more) each = (each region (inl refl), each_of P more (λ r among. each r (inr among)))

parents_bears : (args : Args) → IsRight args → is_listed (kind_of args) act_is.CloseParents ≡ true → (next : ℕ) → Bears args (close_parents next args)
parents_bears (args_are.Root (request_is.MergeRegions []) first) sound h next = bears_moving (args_are.Root (request_is.MergeRegions []) first) next goal_is.Unassign [] tt
parents_bears (args_are.Root (request_is.MergeRegions (one ∷ more)) first) sound h next =
    let up : Args = args_are.Root (request_is.MergeRegions (one ∷ more)) first in
    bears_moving up next goal_is.Unassign (one ∷ more)
    (each_of (MayMove up) (one ∷ more) (λ region among. merge_over one more first region (one_table one more (merge_is (one ∷ more) sound).siblings region among) (merge_has one more first region among)))
parents_bears args sound h next = absurd (false≢true h)

merged_bears : (args : Args) → is_listed (kind_of args) act_is.OpenMerged ≡ true → (next : ℕ) → Bears args (open_new 1 next args)
merged_bears (args_are.Root (request_is.MergeRegions []) first) h next = λ made k. absurd k
merged_bears (args_are.Root (request_is.MergeRegions (one ∷ more)) first) h next = bears_moving (args_are.Root (request_is.MergeRegions (one ∷ more)) first) next goal_is.Assign (regions_in one.table (numbers_from first 1))
    (merge_over one more first (record { table = one.table; id = first }) refl (merge_new one more first), tt)
merged_bears args h next = absurd (false≢true h)

reassign_unlisted : (args : Args) → is_listed (kind_of args) act_is.Reassign ≡ true → ⊥
reassign_unlisted (args_are.Root (request_is.CreateNamespace ns) first) h = absurd (false≢true h)
reassign_unlisted args h = absurd (false≢true h)

-- an act has regions opened or closed
abbrev is_sending : Making → Bool
is_sending (Making.moves goal which) = true
is_sending making = false

bears_makes : (act : Act) (at : StepIn) → is_plain act ≡ true → is_sending (making act) ≡ false → {children : List Child} → Makes act at children → AllBorn at.args children
bears_makes act at h off (Makes.lays only) = bears_one at.args (args_are.LayoutCall at.root) tt
bears_makes act at h off (Makes.fences only server is) = bears_one at.args (args_are.FenceCall server) tt
bears_makes act at h off (Makes.adds_all only table is bounds are) = bears_adding at.args (length bounds) table (first_id_of at.args) bounds
bears_makes act at h off (Makes.drops_all only table is) = bears_pieces at.args table (by_64 (map (λ (region : Region). region.id) (all_among table at.rows)))
bears_makes act at h off (Makes.sends goal sent which only regions are) = absurd (true≢false (sym (ap is_sending only) ∙ off))
bears_makes act at h off (Makes.opens away region is server there) = absurd (true≢false (sym h ∙ away))

bears_made : (act : Act) (next : ℕ) (at : StepIn) → is_plain act ≡ true → is_sending (making act) ≡ false → {out : StepOut} → IsMadeOf act next at out → Bears at.args out
bears_made act next at h off (IsMadeOf.made children makes) = bears_spawns at.args next children (bears_makes act at h off makes)
bears_made act next at h off (IsMadeOf.shut away region is server there) = absurd (true≢false (sym h ∙ away))
bears_made act next at h off other = λ made k. absurd k

-- what a procedure bears at an act that is listed for its kind
pub act_bears : (act : Act) → is_plain act ≡ true → (at : StepIn) → is_listed (kind_of at.args) act ≡ true → IsRight at.args → (next : ℕ) → Bears at.args (act_answer act next at)
act_bears act_is.OpenRegions h at l sound next = open_bears at.args l next at.rows
act_bears act_is.CloseRegions h at l sound next = close_bears at.args l next at.rows
act_bears act_is.CloseParent h at l sound next = parent_bears at.args l next
act_bears act_is.OpenDaughters h at l sound next = daughters_bears at.args l next
act_bears act_is.CloseParents h at l sound next = parents_bears at.args sound l next
act_bears act_is.OpenMerged h at l sound next = merged_bears at.args l next
act_bears act_is.Reassign h at l sound next = absurd (reassign_unlisted at.args l)
act_bears act h at l sound next = bears_made act next at h refl (made_of act next at)
