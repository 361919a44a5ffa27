-- How many bytes procedures that a step makes have as they are spelled, and that those of acts are short.
use Rattle.std.proofs.Common.{◌≡◌, ℕ, zero, suc, ◌+◌, ◌*◌, ◌≤◌, Bool, true, false, nat_le, if◌then◌else◌, List, [], ◌∷◌, ◌++◌, map, length, take, drop, refl, sym, subst, arith, length-append}
use Rattle.std.specs.List.{flat_map}
use Rattle.std.specs.declared.cmp.Ordering.{Ordering}
use Rattle.std.specs.declared.cmp.Ordering.TheVariants.{Less, Equal, Greater}
use Rattle.std.proofs.lemmas.Bool.{leb-false}
use Rattle.std.proofs.lemmas.List.{length-take, length-drop}
use Rattle.hm_wire.specs.Wire.{text}
use Rattle.hm_names.specs.Order.{region_cmp}
use Rattle.hm_names.specs.Region.{Region}
use Rattle.hm_names.specs.Server.{Server}
use Rattle.hm_names.specs.Servers.{IsServer}
use Rattle.hm_names.specs.Tables.{IsTable}
use Rattle.hm_names.specs.declared.table.TableName.{TableName}
use Rattle.hm_data.specs.Numbers.{goal_number}
use Rattle.hm_data.specs.declared.args.Args.TheVariants as args_are
use Rattle.hm_data.specs.declared.args.Child.{Child}
use Rattle.hm_data.specs.declared.args.Child.TheVariants as child_is
use Rattle.hm_data.specs.declared.place.Goal.{Goal}
use Rattle.hm_entry.specs.Spelling.{args as spelled_args, byte, child, list, number, region, server, table}
use Rattle.hm_model.specs.Keys.{same_table}
use Rattle.hm_model.specs.Locks.{in_name_order, with_region, with_region_at}
use Rattle.hm_model.specs.Pieces.{Batch, adding, batches, by_64, dropping, pieces_of, transits, with_batch}
use Rattle.hm_model.proofs.KeyTests.{same_table-refl}
use Rattle.hm_frames.proofs.NameSizes.{region_short, server_short, table_short}
use Rattle.hm_frames.proofs.ShortEdits.{numbers_long}
use Rattle.hm_frames.proofs.ShortForms.{Each, IsOfTable, IsShortChild, IsShortKey}
use Rattle.hm_names.specs.declared.pid.Pid.{Pid}

bounds_short : (bounds : List (List ℕ)) → Each IsShortKey bounds → length (flat_map text bounds) ≤ 130 * length bounds
bounds_short [] are = omega arith
bounds_short (key ∷ bounds) are = omega (arith, are.0, bounds_short bounds are.1, length-append key (flat_map text bounds))

-- regions in name order
module _ (P : Region → Type 0) where
  with_at : (o : Ordering) (r first : Region) (more : List Region) → P r → P first → Each P more → Each P (with_region r more) × (length (with_region r more) ≡ length more + 1)
      → Each P (with_region_at o r first more (with_region r more)) × (length (with_region_at o r first more (with_region r more)) ≡ length (first ∷ more) + 1)
  with_at Less r first more is is' are rest = ((is, (is', are)), omega arith)
  with_at Equal r first more is is' are rest = ((is, (is', are)), omega arith)
  with_at Greater r first more is is' are rest = ((is', rest.0), omega (arith, rest.1))

  with_each : (r : Region) (regions : List Region) → P r → Each P regions → Each P (with_region r regions) × (length (with_region r regions) ≡ length regions + 1)
  with_each r [] is are = ((is, tt), refl)
  with_each r (first ∷ more) is are = with_at (region_cmp r first) r first more is are.0 are.1 (with_each r more is are.1)

  pub ordered_each : (regions : List Region) → Each P regions → Each P (in_name_order regions) × (length (in_name_order regions) ≡ length regions)
  ordered_each [] are = (tt, refl)
  ordered_each (r ∷ more) are =
      let rest = ordered_each more are.1 in
      let here = with_each r (in_name_order more) are.0 rest.0 in
      (here.0, omega (arith, here.1, rest.1))

-- transits of batches
abbrev transit_of : Goal → Batch → Child
transit_of goal batch = child_is.Transits batch.table batch.ids goal

abbrev IsOfBatch : Batch → Type 0
IsOfBatch batch = IsTable batch.table

abbrev size_of : Goal → List Batch → ℕ
size_of goal bs = length (flat_map child (map (transit_of goal) bs))

batch_long : (goal : Goal) (t : TableName) (ids : List ℕ) → length (child (child_is.Transits t ids goal)) ≡ length (table t) + 8 * length ids + 4
unfolding child
batch_long goal t ids =
    omega (arith, numbers_long ids, length-append (table t) (list number ids ++ byte (goal_number goal)), length-append (flat_map number ids) (byte (goal_number goal)))

first_long : (goal : Goal) (batch : Batch) (bs : List Batch) → size_of goal (batch ∷ bs) ≡ length (table batch.table) + 8 * length batch.ids + 4 + size_of goal bs
first_long goal batch bs =
    omega (arith, batch_long goal batch.table batch.ids, length-append (child (transit_of goal batch)) (flat_map child (map (transit_of goal) bs)))

with_batch_short : (goal : Goal) (r : Region) (bs : List Batch) → IsOfTable r → Each IsOfBatch bs → Each IsOfBatch (with_batch r bs) × (size_of goal (with_batch r bs) ≤ size_of goal bs + 208)
with_batch_short goal r [] is are = ((is, tt), omega (arith, first_long goal (record { table = r.table; ids = r.id ∷ [] }) [], table_short r.table is))
with_batch_short goal r (batch ∷ more) is are = by (same_table r.table batch.table)
  where
    by : (b : Bool)
        → (let bs = if b then (record { table = batch.table; ids = r.id ∷ batch.ids } ∷ more) else (record { table = r.table; ids = r.id ∷ [] } ∷ batch ∷ more) in Each IsOfBatch bs × (size_of goal bs ≤ size_of goal (batch ∷ more) + 208))
    by true = ((are.0, are.1), omega (arith, first_long goal (record { table = batch.table; ids = r.id ∷ batch.ids }) more, first_long goal batch more))
    by false = ((is, are), omega (arith, first_long goal (record { table = r.table; ids = r.id ∷ [] }) (batch ∷ more), table_short r.table is))

batches_short : (goal : Goal) (regions : List Region) → Each IsOfTable regions → Each IsOfBatch (batches regions) × (size_of goal (batches regions) ≤ 208 * length regions)
batches_short goal [] are = (tt, omega arith)
batches_short goal (r ∷ more) are =
    let rest = batches_short goal more are.1 in
    let here = with_batch_short goal r (batches more) are.0 rest.0 in
    (here.0, omega (arith, here.1, rest.1))

batches_each : (goal : Goal) (bs : List Batch) → Each IsOfBatch bs → Each IsShortChild (map (transit_of goal) bs)
batches_each goal [] are = tt
batches_each goal (batch ∷ bs) are = (are.0, batches_each goal bs are.1)

-- transits of regions of any tables
pub transits_short : (goal : Goal) (regions : List Region) → Each IsOfTable regions → Each IsShortChild (transits goal regions) × (length (list child (transits goal regions)) ≤ 208 * length regions + 2)
transits_short goal regions are =
    let ordered = ordered_each IsOfTable regions are in
    let bs = batches_short goal (in_name_order regions) ordered.0 in
    (batches_each goal (batches (in_name_order regions)) bs.0, omega (arith, bs.1, ordered.1))

-- those of one table are in one batch
abbrev pub IsOf : TableName → Region → Type 0
IsOf t r = r.table ≡ t

abbrev IsBatch : TableName → ℕ → List Batch → Type 0
IsBatch t n [] = n ≡ 0
IsBatch t n (batch ∷ []) = (batch.table ≡ t) × (length batch.ids ≡ n)
IsBatch t n (batch ∷ other ∷ more) = ⊥

one_more : (t : TableName) (r : Region) (n : ℕ) (bs : List Batch) → r.table ≡ t → IsBatch t n bs → IsBatch t (n + 1) (with_batch r bs)
one_more t r n [] is one = (is, omega (arith, one))
one_more t r n (batch ∷ []) is one = subst (IsBatch t (n + 1)) (sym joined) (one.0, omega (arith, one.1))
  where
    same : same_table r.table batch.table ≡ true
    same = subst (λ u. same_table u batch.table ≡ true) (sym is) (subst (λ u. same_table t u ≡ true) (sym one.0) (same_table-refl t))

    joined : with_batch r (batch ∷ []) ≡ record { table = batch.table; ids = r.id ∷ batch.ids } ∷ []
    joined = rw same refl
one_more t r n (batch ∷ other ∷ more) is one = absurd one

one_batch : (t : TableName) (regions : List Region) → Each (IsOf t) regions → IsBatch t (length regions) (batches regions)
one_batch t [] are = refl
one_batch t (r ∷ more) are = subst (λ n. IsBatch t n (batches (r ∷ more))) (omega arith) (one_more t r (length more) (batches more) are.0 (one_batch t more are.1))

batch_size : (goal : Goal) (t : TableName) → IsTable t → (n : ℕ) (bs : List Batch) → IsBatch t n bs → Each IsOfBatch bs × (size_of goal bs ≤ 8 * n + 200)
batch_size goal t named n [] one = (tt, omega arith)
batch_size goal t named n (batch ∷ []) one =
    let own : IsTable batch.table = subst IsTable (sym one.0) named in
    ((own, tt), omega (arith, one.1, table_short batch.table own, first_long goal batch []))
batch_size goal t named n (batch ∷ other ∷ more) one = absurd one

pub transits_of_one : (goal : Goal) (t : TableName) → IsTable t → (regions : List Region) → Each (IsOf t) regions → Each IsShortChild (transits goal regions) × (length (list child (transits goal regions)) ≤ 8 * length regions + 202)
transits_of_one goal t named regions are =
    let ordered = ordered_each (IsOf t) regions are in
    let bs = batch_size goal t named (length (in_name_order regions)) (batches (in_name_order regions)) (one_batch t (in_name_order regions) ordered.0) in
    (batches_each goal (batches (in_name_order regions)) bs.0, omega (arith, bs.1, ordered.1))

-- regions that are removed, in pieces of 64
pieces_few : (most k : ℕ) (ids : List ℕ) → length ids ≤ 64 * k → length (pieces_of 64 most ids) ≤ k
pieces_few zero k ids few = omega arith
pieces_few (suc most) k [] few = omega arith
pieces_few (suc most) zero (id ∷ ids) few = absurd (omega (arith, few))
pieces_few (suc most) (suc k) (id ∷ ids) few = omega (arith, pieces_few most k (drop 64 (id ∷ ids)) (omega (arith, few, length-drop 64 (id ∷ ids))))

pieces_short : (most : ℕ) (ids : List ℕ) → Each (λ (piece : List ℕ). length piece ≤ 64) (pieces_of 64 most ids)
pieces_short zero ids = tt
pieces_short (suc most) [] = tt
pieces_short (suc most) (id ∷ ids) = (omega (arith, length-take 64 (id ∷ ids)), pieces_short most (drop 64 (id ∷ ids)))

abbrev dropped : TableName → List ℕ → Child
dropped t piece = child_is.One (args_are.DropRegions t piece)

piece_short : (t : TableName) → IsTable t → (piece : List ℕ) → length piece ≤ 64 → length (child (dropped t piece)) ≤ 711
unfolding child spelled_args
piece_short t named piece few = omega (arith, few, table_short t named, numbers_long piece, length-append (table t) (list number piece))

dropping_short : (t : TableName) → IsTable t → (pieces : List (List ℕ)) → Each (λ (piece : List ℕ). length piece ≤ 64) pieces
    → Each IsShortChild (map (dropped t) pieces) × (length (flat_map child (map (dropped t) pieces)) ≤ 711 * length pieces)
dropping_short t named [] are = (tt, omega arith)
dropping_short t named (piece ∷ more) are =
    let rest = dropping_short t named more are.1 in
    (((tt, (named, are.0)), rest.0), omega (arith, rest.1, piece_short t named piece are.0, length-append (child (dropped t piece)) (flat_map child (map (dropped t) more))))

pub drops_short : (t : TableName) → IsTable t → (ids : List ℕ) → length ids ≤ 4096 → Each IsShortChild (dropping t ids) × (length (list child (dropping t ids)) ≤ 45506)
drops_short t named ids few =
    let all = dropping_short t named (by_64 ids) (pieces_short (length ids) ids) in
    (all.0, omega (arith, all.1, pieces_few (length ids) 64 ids (omega (arith, few))))

-- regions that are added, 64 at a time
taken_short : (n : ℕ) (bounds : List (List ℕ)) → Each IsShortKey bounds → Each IsShortKey (take n bounds)
taken_short zero bounds are = tt
taken_short (suc n) [] are = tt
taken_short (suc n) (key ∷ bounds) are = (are.0, taken_short n bounds are.1)

left_short : (n : ℕ) (bounds : List (List ℕ)) → Each IsShortKey bounds → Each IsShortKey (drop n bounds)
left_short zero bounds are = are
left_short (suc n) [] are = tt
left_short (suc n) (key ∷ bounds) are = left_short n bounds are.1

abbrev added : TableName → ℕ → List (List ℕ) → Child
added t first bounds = child_is.One (args_are.AddRegions t first bounds)

added_short : (t : TableName) → IsTable t → (first : ℕ) (bounds : List (List ℕ)) → Each IsShortKey bounds → length bounds ≤ 65 → length (child (added t first bounds)) ≤ 8657
unfolding child spelled_args
added_short t named first bounds are few =
    omega (arith, few, table_short t named, bounds_short bounds are, length-append (table t) (number first ++ list text bounds))

adding_short : (most k : ℕ) (t : TableName) → IsTable t → (first : ℕ) (bounds : List (List ℕ)) → Each IsShortKey bounds → length bounds ≤ 64 * k + 1
    → Each IsShortChild (adding most t first bounds) × (length (flat_map child (adding most t first bounds)) ≤ 8657 * k)
adding_short zero k t named first bounds are few = (tt, omega arith)
adding_short (suc most) zero t named first bounds are few = by (nat_le (length bounds) 1) refl
  where
    by : (b : Bool) → nat_le (length bounds) 1 ≡ b
        → (let children = if b then [] else (added t first (take 65 bounds) ∷ adding most t (first + 64) (drop 64 bounds)) in Each IsShortChild children × (length (flat_map child children) ≤ 0))
    by true e = (tt, omega arith)
    by false e = absurd (omega (arith, few, leb-false (length bounds) 1 e))
adding_short (suc most) (suc k) t named first bounds are few =
    by (nat_le (length bounds) 1) (adding_short most k t named (first + 64) (drop 64 bounds) (left_short 64 bounds are) (omega (arith, few, length-drop 64 bounds)))
  where
    long : length (take 65 bounds) ≤ 65
    long = omega (arith, length-take 65 bounds)

    by : (b : Bool) → Each IsShortChild (adding most t (first + 64) (drop 64 bounds)) × (length (flat_map child (adding most t (first + 64) (drop 64 bounds))) ≤ 8657 * k)
        → (let children = if b then [] else (added t first (take 65 bounds) ∷ adding most t (first + 64) (drop 64 bounds)) in Each IsShortChild children × (length (flat_map child children) ≤ 8657 * (suc k)))
    by true rest = (tt, omega arith)
    by false rest = (
      ((tt, (named, taken_short 65 bounds are, long)), rest.0),
      omega (arith, rest.1, added_short t named first (take 65 bounds) (taken_short 65 bounds are) long, length-append (child (added t first (take 65 bounds))) (flat_map child (adding most t (first + 64) (drop 64 bounds)))),
    )

pub adds_short : (t : TableName) → IsTable t → (first : ℕ) (bounds : List (List ℕ)) → Each IsShortKey bounds → length bounds ≤ 257
    → Each IsShortChild (adding (length bounds) t first bounds) × (length (list child (adding (length bounds) t first bounds)) ≤ 34630)
adds_short t named first bounds are few =
    let all = adding_short (length bounds) 4 t named first bounds are (omega (arith, few)) in
    (all.0, omega (arith, all.1))

-- one procedure
pub assign_short : (r : Region) (s : Server) → IsOfTable r → IsServer s → length (list child (child_is.One (args_are.AssignCall r s) ∷ [])) ≤ 283
unfolding child spelled_args
assign_short r s is at = omega (arith, region_short r is, server_short s at, length-append (region r ++ server s) [], length-append (region r) (server s))

pub close_short : (r : Region) (s : Server) → IsOfTable r → IsServer s → length (list child (child_is.One (args_are.CloseCall r s) ∷ [])) ≤ 283
unfolding child spelled_args
close_short r s is at = omega (arith, region_short r is, server_short s at, length-append (region r ++ server s) [], length-append (region r) (server s))

pub fence_short : (s : Server) → IsServer s → length (list child (child_is.One (args_are.FenceCall s) ∷ [])) ≤ 79
unfolding child spelled_args
fence_short s is = omega (arith, server_short s is, length-append (server s) [])

pub layout_short : (root : Pid) → length (list child (child_is.One (args_are.LayoutCall root) ∷ [])) ≤ 11
unfolding child spelled_args
layout_short root = omega arith

pub sweep_short : (root : Pid) → length (list child (child_is.One (args_are.SweepLayout root) ∷ [])) ≤ 11
unfolding child spelled_args
sweep_short root = omega arith
