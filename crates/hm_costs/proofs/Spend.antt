-- What each act costs that calls nobody and places nothing, and what procedures it makes.
use Rattle.std.proofs.Common.{◌≡◌, ℕ, zero, suc, ◌+◌, ◌*◌, ◌-◌, ◌/◌, ◌≤◌, List, [], ◌∷◌, Bool, true, false, Option, Some, None, cond, nat_le, length, take, drop, map, refl, ap, sym, ◌∙◌, subst, arith, inl, inr, length-drop}
use Rattle.std.proofs.lemmas.Bool.{cases_Bool, true≢false}
use Rattle.std.proofs.lemmas.List.{length-map}
use Rattle.hm_names.specs.Region.{Region}
use Rattle.hm_names.specs.declared.table.TableName.{TableName}
use Rattle.hm_data.specs.declared.act.Act.{Act}
use Rattle.hm_data.specs.declared.args.Args.{Args}
use Rattle.hm_data.specs.declared.args.Args.TheVariants as args_are
use Rattle.hm_data.specs.declared.args.Child.{Child}
use Rattle.hm_data.specs.declared.args.Child.TheVariants as child_is
use Rattle.hm_data.specs.declared.place.Goal.{Goal}
use Rattle.hm_data.specs.declared.place.Goal.TheVariants as goal_is
use Rattle.hm_data.specs.declared.step.StepIn.{StepIn}
use Rattle.hm_data.specs.declared.step.StepOut.{StepOut}
use Rattle.hm_model.specs.Acts.{act_answer}
use Rattle.hm_model.specs.Costs.{by_64s}
use Rattle.hm_model.specs.Locks.{in_name_order, with_region, with_region_at}
use Rattle.hm_model.specs.Outs.{spawns}
use Rattle.hm_model.specs.Pieces.{Batch, adding, batches, by_64, dropping, numbers_from, pieces_of, transits, with_batch}
use Rattle.hm_model.specs.RegionActs.{regions_for}
use Rattle.hm_model.specs.RowsSaid.{Rows, all_among, live_among}
use Rattle.hm_model.specs.Tree.{args_in}
use Rattle.hm_model.specs.Undoing.{closed_by}
use Rattle.hm_model.specs.Views.{bounds_of, first_id_of, regions_in, table_of}
use Rattle.hm_model.specs.Wanted.{server_of}
use Rattle.hm_model.specs.MadeOf.{AreMoved, IsMadeOf, IsSent, Makes, Making, Which, making}
use Rattle.hm_model.proofs.MadeOf.{made_of}
use Rattle.hm_model.proofs.PlainActs.{is_plain}
use Rattle.hm_costs.proofs.Sums.{total}
use Rattle.hm_model.specs.Keys.{same_table}
use Rattle.hm_names.specs.Order.{region_cmp}
use Rattle.std.specs.declared.cmp.Ordering.{Ordering}
use Rattle.std.specs.declared.cmp.Ordering.TheVariants.{Equal, Greater, Less}
use Rattle.std.proofs.lemmas.Bool.{leb-false}
use Rattle.hm_costs.proofs.Each.{Each}

-- what a transit costs, from its first row on
abbrev pub transit_price : Goal → ℕ
transit_price goal_is.Assign = 6
transit_price goal_is.Unassign = 5
transit_price goal_is.Move = 12

-- what a child costs
abbrev pub price : Args → ℕ
price (args_are.Root request first) = 0
price (args_are.Transit region goal to) = transit_price goal
price (args_are.Crash server) = 0
price (args_are.AddRegions table first bounds) = 1
price (args_are.DropRegions table ids) = 1
price args = 3

-- transits are made to assign or to unassign
abbrev pub IsChildGoal : Goal → Type 0
IsChildGoal goal = IsSent goal

-- what procedures are made by acts that call nobody
abbrev pub IsChild : Args → Args → Type 0
IsChild up (args_are.Transit region goal to) = IsChildGoal goal
IsChild up (args_are.AddRegions table first bounds) = table_of up ≡ Some table
IsChild up (args_are.DropRegions table ids) = table_of up ≡ Some table
IsChild up (args_are.FenceCall server) = server_of up ≡ Some server
IsChild up (args_are.LayoutCall root) = Unit {0}
IsChild up args = ⊥

abbrev pub AreChildren : Args → List Args → Type 0
AreChildren up list = Each (IsChild up) list

-- how many regions are opened or closed: those of a new table, else so many
abbrev pub many : Option (List (List ℕ)) → ℕ → ℕ
many None n = n
many (Some bounds) n = length bounds - 1

abbrev pub pieces_in : Option (List (List ℕ)) → ℕ
pieces_in None = 0
pieces_in (Some bounds) = by_64s (length bounds - 1)

-- what so many transits cost
abbrev pub transits_price : Goal → ℕ → ℕ
transits_price goal_is.Assign n = 6 * n
transits_price goal_is.Unassign n = 5 * n
transits_price goal_is.Move n = 12 * n

-- how many regions an act has opened or closed, where so many are counted
abbrev pub many_of : Which → Args → ℕ → ℕ
many_of Which.own args n = many (bounds_of args) n
many_of Which.closed args n = length (closed_by args)
many_of (Which.drawn count) args n = count
many_of Which.lost args n = n

-- what a step of an act costs with all that it makes, where so many regions are counted
abbrev pub spend_by : Making → Args → ℕ → ℕ
spend_by Making.nobody args n = 1
spend_by Making.layout args n = 4
spend_by Making.fencing args n = 4
spend_by Making.adds args n = 1 + pieces_in (bounds_of args)
spend_by Making.drops args n = 1 + by_64s n
spend_by (Making.moves goal which) args n = 1 + transits_price goal (many_of which args n)

abbrev pub spend : Act → Args → ℕ → ℕ
spend act args n = spend_by (making act) args n

-- the regions that are counted in the rows that are read
abbrev pub rows_by : Making → Option TableName → Rows → ℕ
rows_by (Making.moves goal Which.own) (Some table) rows = length (live_among table rows)
rows_by Making.drops (Some table) rows = length (all_among table rows)
rows_by making table rows = 0

abbrev pub rows_counted : Act → Option TableName → Rows → ℕ
rows_counted act table rows = rows_by (making act) table rows

-- what is answered costs so much, and makes such procedures
pub record IsSpent (up : Args) (amount : ℕ) (out : StepOut) : Type 0 where
  pub pays : 1 + total price (args_in out.children) ≤ amount
  pub children : AreChildren up (args_in out.children)

transit_batches : (up : Args) (goal : Goal) → IsChildGoal goal → (list : List Batch) → AreChildren up (args_in (map (λ batch. child_is.Transits batch.table batch.ids goal) list)) → (region : Region) → (total price (args_in (map (λ batch. child_is.Transits batch.table batch.ids goal) (with_batch region list))) ≡ transit_price goal + total price (args_in (map (λ batch. child_is.Transits batch.table batch.ids goal) list))) × AreChildren up (args_in (map (λ batch. child_is.Transits batch.table batch.ids goal) (with_batch region list)))
transit_batches up goal ok [] all region = (refl, (ok, tt))
transit_batches up goal ok (batch ∷ more) all region = by (same_table region.table batch.table)
  where
    by : (b : Bool) → (total price (args_in (map (λ batch. child_is.Transits batch.table batch.ids goal) (cond b (record { table = batch.table; ids = region.id ∷ batch.ids } ∷ more) (record { table = region.table; ids = region.id ∷ [] } ∷ batch ∷ more)))) ≡ transit_price goal + total price (args_in (map (λ batch. child_is.Transits batch.table batch.ids goal) (batch ∷ more)))) × AreChildren up (args_in (map (λ batch. child_is.Transits batch.table batch.ids goal) (cond b (record { table = batch.table; ids = region.id ∷ batch.ids } ∷ more) (record { table = region.table; ids = region.id ∷ [] } ∷ batch ∷ more))))
    by true = (refl, (ok, all))
    by false = (refl, (ok, all))

length_with : (region : Region) (list : List Region) → length (with_region region list) ≡ 1 + length list
length_with region [] = refl
length_with region (first ∷ more) = by (length_with region more) (region_cmp region first)
  where
    by : length (with_region region more) ≡ 1 + length more → (o : Ordering) → length (with_region_at o region first more (with_region region more)) ≡ 1 + length (first ∷ more)
    by on Less = omega arith
    by on Equal = omega arith
    by on Greater = omega (arith, on)

pub length_ordered : (list : List Region) → length (in_name_order list) ≡ length list
length_ordered [] = refl
length_ordered (region ∷ more) = let on = length_ordered more in length_with region (in_name_order more) ∙ omega (arith, on)

one_more : (goal : Goal) (n a b : ℕ) → a ≡ transit_price goal + b → b ≡ transits_price goal n → a ≡ transits_price goal (suc n)
one_more goal_is.Assign n a b sum before = omega (arith, sum, before)
one_more goal n a b sum before = omega (arith, sum, before)

no_transits : (goal : Goal) → 0 ≡ transits_price goal 0
no_transits goal_is.Assign = refl
no_transits goal = refl

transits_of : (up : Args) (goal : Goal) → IsChildGoal goal → (list : List Region) → (total price (args_in (map (λ batch. child_is.Transits batch.table batch.ids goal) (batches list))) ≡ transits_price goal (length list)) × AreChildren up (args_in (map (λ batch. child_is.Transits batch.table batch.ids goal) (batches list)))
transits_of up goal ok [] = (no_transits goal, tt)
transits_of up goal ok (region ∷ more) =
    let on = transits_of up goal ok more in
    let one = transit_batches up goal ok (batches more) on.1 region in
    (one_more goal (length more) _ _ one.0 on.0, one.1)

pub transits_spent : (up : Args) (goal : Goal) → IsChildGoal goal → (regions : List Region) → (total price (args_in (transits goal regions)) ≡ transits_price goal (length regions)) × AreChildren up (args_in (transits goal regions))
transits_spent up goal ok regions =
    let t = transits_of up goal ok (in_name_order regions) in
    (t.0 ∙ ap (transits_price goal) (length_ordered regions), t.1)

-- pieces of 64
adding_one : (b : Bool) (up : Args) (table : TableName) → table_of up ≡ Some table → (first : ℕ) (bounds : List (List ℕ)) (more : List Child) → AreChildren up (args_in more) → AreChildren up (args_in (cond b [] (child_is.One (args_are.AddRegions table first (take 65 bounds)) ∷ more)))
adding_one true up table own first bounds more all = tt
adding_one false up table own first bounds more all = (own, all)

adding_children : (up : Args) (most : ℕ) (table : TableName) → table_of up ≡ Some table → (first : ℕ) (bounds : List (List ℕ)) → AreChildren up (args_in (adding most table first bounds))
adding_children up zero table own first bounds = tt
adding_children up (suc most) table own first bounds = adding_one (nat_le (length bounds) 1) up table own first bounds (adding most table (first + 64) (drop 64 bounds)) (adding_children up most table own (first + 64) (drop 64 bounds))

next_piece : (n : ℕ) → 1 ≤ n → 1 + (((n - 64) + 63) / 64) ≤ (n + 63) / 64
next_piece n some = omega (arith, some)

adding_price : (most : ℕ) (table : TableName) (first : ℕ) (bounds : List (List ℕ)) → total price (args_in (adding most table first bounds)) ≤ by_64s (length bounds - 1)
adding_price zero table first bounds = omega arith
adding_price (suc most) table first bounds = elim (cases_Bool (nat_le (length bounds) 1)) [
  | inl on ↦ let e : total price (args_in (adding (suc most) table first bounds)) ≡ 0 = ap (λ b. total price (args_in (cond b [] (child_is.One (args_are.AddRegions table first (take 65 bounds)) ∷ adding most table (first + 64) (drop 64 bounds))))) on in omega (arith, e)
  | inr off ↦
      let e : total price (args_in (adding (suc most) table first bounds)) ≡ 1 + total price (args_in (adding most table (first + 64) (drop 64 bounds))) = ap (λ b. total price (args_in (cond b [] (child_is.One (args_are.AddRegions table first (take 65 bounds)) ∷ adding most table (first + 64) (drop 64 bounds))))) off in
      let low = adding_price most table (first + 64) (drop 64 bounds) in
      let fewer = length-drop 64 bounds in
      let some = leb-false (length bounds) 1 off in
      omega (arith, e, low, fewer, some)
]

pieces_children : (up : Args) (table : TableName) → table_of up ≡ Some table → (pieces : List (List ℕ)) → AreChildren up (args_in (map (λ piece. child_is.One (args_are.DropRegions table piece)) pieces))
pieces_children up table own [] = tt
pieces_children up table own (piece ∷ more) = (own, pieces_children up table own more)

pieces_price : (table : TableName) (pieces : List (List ℕ)) → total price (args_in (map (λ piece. child_is.One (args_are.DropRegions table piece)) pieces)) ≡ length pieces
pieces_price table [] = refl
pieces_price table (piece ∷ more) = let on = pieces_price table more in omega (arith, on)

pieces_many : {A : Type 0} (most : ℕ) (items : List A) → length (pieces_of 64 most items) ≤ by_64s (length items)
pieces_many zero items = omega arith
pieces_many (suc most) [] = omega arith
pieces_many (suc most) (item ∷ items) =
    let on = pieces_many most (drop 64 (item ∷ items)) in
    let fewer = length-drop 64 (item ∷ items) in
    omega (arith, on, fewer)

module _ (up : Args) (amount : ℕ) (some : 1 ≤ amount) where
  none_spent : (out : StepOut) → out.children ≡ [] → IsSpent up amount out
  none_spent out none = record {
    pays = let e = ap (λ c. total price (args_in c)) none in omega (arith, e, some);
    children = subst (λ c. AreChildren up (args_in c)) (sym none) tt;
  }

pub spawns_spent : (up : Args) (amount : ℕ) (next : ℕ) (children : List Child) → 1 + total price (args_in children) ≤ amount → AreChildren up (args_in children) → IsSpent up amount (spawns next children)
spawns_spent up amount next [] pays all = record { pays = pays; children = tt }
spawns_spent up amount next (child ∷ more) pays all = record { pays = pays; children = all }

length_numbers : (first count : ℕ) → length (numbers_from first count) ≡ count
length_numbers first zero = refl
length_numbers first (suc count) = let on = length_numbers (first + 1) count in omega (arith, on)

length_regions : (table : TableName) (ids : List ℕ) → length (regions_in table ids) ≡ length ids
length_regions table [] = refl
length_regions table (id ∷ ids) = let on = length_regions table ids in omega (arith, on)

for_length : (table : TableName) (first : ℕ) (bounds : Option (List (List ℕ))) (rows : Rows) → length (regions_for table first bounds rows) ≡ many bounds (length (live_among table rows))
for_length table first None rows = refl
for_length table first (Some bounds) rows = length_regions table (numbers_from first (length bounds - 1)) ∙ length_numbers first (length bounds - 1)

-- the number that an act counts as it runs
abbrev pub seen_by : Making → StepIn → ℕ
seen_by (Making.moves goal Which.lost) at = length at.on_server
seen_by making at = rows_by making (table_of at.args) at.rows

abbrev pub counted_at : Act → StepIn → ℕ
counted_at act at = seen_by (making act) at

-- so many regions are opened or closed
moved_many : (at : StepIn) (goal : Goal) (which : Which) → {regions : List Region} → AreMoved at which regions → length regions ≡ many_of which at.args (seen_by (Making.moves goal which) at)
moved_many at goal which (AreMoved.of_table table own) = for_length table (first_id_of at.args) (bounds_of at.args) at.rows ∙ ap (λ o. many (bounds_of at.args) (rows_by (Making.moves goal Which.own) o at.rows)) (sym own)
moved_many at goal which AreMoved.of_closed = refl
moved_many at goal which (AreMoved.of_drawn count table own) = length_regions table (numbers_from (first_id_of at.args) count) ∙ length_numbers (first_id_of at.args) count
moved_many at goal which AreMoved.of_lost = refl

-- a step costs its entry at least
spend_some : (making : Making) (args : Args) (n : ℕ) → 1 ≤ spend_by making args n
spend_some Making.nobody args n = omega arith
spend_some making args n = omega arith

abbrev IsSpentBy : StepIn → StepOut → Making → Type 0
IsSpentBy at out making = IsSpent at.args (spend_by making at.args (seen_by making at)) out

spent_makes : (act : Act) (next : ℕ) (at : StepIn) → is_plain act ≡ true → {children : List Child} → Makes act at children → IsSpentBy at (spawns next children) (making act)
spent_makes act next at h (Makes.lays only) = subst (IsSpentBy at (spawns next (child_is.One (args_are.LayoutCall at.root) ∷ []))) (sym only) (record { pays = omega arith; children = (tt, tt) })
spent_makes act next at h (Makes.fences only server is) = subst (IsSpentBy at (spawns next (child_is.One (args_are.FenceCall server) ∷ []))) (sym only) (record { pays = omega arith; children = (is, tt) })
spent_makes act next at h (Makes.adds_all only table is bounds are) =
    let children = adding (length bounds) table (first_id_of at.args) bounds in
    let low = adding_price (length bounds) table (first_id_of at.args) bounds in
    subst (IsSpentBy at (spawns next children)) (sym only) (subst (λ o. IsSpent at.args (1 + pieces_in o) (spawns next children)) (sym are)
    (spawns_spent at.args (1 + by_64s (length bounds - 1)) next children (omega (arith, low)) (adding_children at.args (length bounds) table is (first_id_of at.args) bounds)))
spent_makes act next at h (Makes.drops_all only table is) =
    let ids = map (λ (region : Region). region.id) (all_among table at.rows) in
    let sum = pieces_price table (by_64 ids) in
    let few = pieces_many (length ids) ids in
    let count = length-map (all_among table at.rows) (λ (region : Region). region.id) in
    subst (IsSpentBy at (spawns next (dropping table ids))) (sym only) (subst (λ o. IsSpent at.args (1 + by_64s (rows_by Making.drops o at.rows)) (spawns next (dropping table ids))) (sym is)
    (spawns_spent at.args (1 + by_64s (length (all_among table at.rows))) next (dropping table ids) (omega (arith, sum, few, count)) (pieces_children at.args table is (by_64 ids))))
spent_makes act next at h (Makes.sends goal sent which only regions are) =
    let t = transits_spent at.args goal sent regions in
    let sum = t.0 in
    let count = ap (transits_price goal) (moved_many at goal which are) in
    subst (IsSpentBy at (spawns next (transits goal regions))) (sym only)
    (spawns_spent at.args (1 + transits_price goal (many_of which at.args (seen_by (Making.moves goal which) at))) next (transits goal regions) (omega (arith, sum, count)) t.1)
spent_makes act next at h (Makes.opens off region is server there) = absurd (true≢false (sym h ∙ off))

spent_made : (act : Act) (next : ℕ) (at : StepIn) → is_plain act ≡ true → {out : StepOut} → IsMadeOf act next at out → IsSpentBy at out (making act)
spent_made act next at h (IsMadeOf.made children makes) = spent_makes act next at h makes
spent_made act next at h (IsMadeOf.shut off region is server there) = absurd (true≢false (sym h ∙ off))
spent_made act next at h other = none_spent at.args (spend act at.args (counted_at act at)) (spend_some (making act) at.args (counted_at act at)) _ refl

pub act_spent : (act : Act) → is_plain act ≡ true → (next : ℕ) (at : StepIn) → IsSpent at.args (spend act at.args (counted_at act at)) (act_answer act next at)
act_spent act h next at = spent_made act next at h (made_of act next at)
