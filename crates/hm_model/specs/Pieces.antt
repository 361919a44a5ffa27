-- Lists of regions in pieces.
use Rattle.std.specs.Prelude.{ℕ, zero, suc, ◌+◌, List, [], ◌∷◌, length, map, take, drop, nat_le, if◌then◌else◌}
use Rattle.hm_names.specs.Region.{Region}
use Rattle.hm_names.specs.declared.range.KeyRange.{KeyRange}
use Rattle.hm_names.specs.declared.table.TableName.{TableName}
use Rattle.hm_data.specs.declared.args.Args.TheVariants as args_are
use Rattle.hm_data.specs.declared.args.Child.{Child}
use Rattle.hm_data.specs.declared.args.Child.TheVariants as child_is
use Rattle.hm_data.specs.declared.place.Goal.{Goal}
use Rattle.hm_model.specs.Keys.{same_table}
use Rattle.hm_model.specs.Locks.{in_name_order}

-- so many numbers from one on, rising
abbrev pub numbers_from : ℕ → ℕ → List ℕ
numbers_from first zero = []
numbers_from first (suc count) = first ∷ numbers_from (first + 1) count

-- a list in pieces of a size, the last of the rest; so many at most
abbrev pub pieces_of : {A : Type 0} → ℕ → ℕ → List A → List (List A)
pieces_of size zero items = []
pieces_of size (suc most) [] = []
pieces_of size (suc most) (item ∷ items) = take size (item ∷ items) ∷ pieces_of size most (drop size (item ∷ items))

-- a list in pieces of 64, the last of the rest
abbrev pub by_64 : {A : Type 0} → List A → List (List A)
by_64 items = pieces_of 64 (length items) items

-- the ranges between a bound and the next, from a first bound on
abbrev pub ranges_from : List ℕ → List (List ℕ) → List KeyRange
ranges_from start [] = []
ranges_from start (end ∷ bounds) = record { start = start; end = end } ∷ ranges_from end bounds

-- the ranges between bounds, one fewer than there are
abbrev pub ranges_between : List (List ℕ) → List KeyRange
ranges_between [] = []
ranges_between (start ∷ bounds) = ranges_from start bounds

-- procedures that add the regions between bounds, 64 each, the last the rest; so many at most
abbrev pub adding : ℕ → TableName → ℕ → List (List ℕ) → List Child
adding zero table first bounds = []
adding (suc most) table first bounds =
    if nat_le (length bounds) 1 then [] else (child_is.One (args_are.AddRegions table first (take 65 bounds)) ∷ adding most table (first + 64) (drop 64 bounds))

-- procedures that remove regions, 64 each, the last the rest
abbrev pub dropping : TableName → List ℕ → List Child
dropping table ids = map (λ piece. child_is.One (args_are.DropRegions table piece)) (by_64 ids)

-- regions of one table
pub record Batch : Type 0 where
  pub table : TableName
  pub ids : List ℕ

-- a region in front of regions by their tables: with those of its table, where they come first
abbrev pub with_batch : Region → List Batch → List Batch
with_batch region [] = record { table = region.table; ids = region.id ∷ [] } ∷ []
with_batch region (batch ∷ more) =
    if same_table region.table batch.table then (record { table = batch.table; ids = region.id ∷ batch.ids } ∷ more) else (record { table = region.table; ids = region.id ∷ [] } ∷ batch ∷ more)

-- regions in name order, by their tables
abbrev pub batches : List Region → List Batch
batches [] = []
batches (region ∷ more) = with_batch region (batches more)

-- transits of regions: one child for each table, in name order, with the ids rising
abbrev pub transits : Goal → List Region → List Child
transits goal regions =
    map (λ batch. child_is.Transits batch.table batch.ids goal) (batches (in_name_order regions))
