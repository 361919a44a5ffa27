-- Which regions may meet, in the order in which their ranges start.
use Rattle.std.proofs.Common.{◌≡◌, ℕ, zero, suc, ◌+◌, ◌≤◌, ◌<◌, List, [], ◌∷◌, ◌++◌, append-nil, drop, length, get_or, Option, Some, None, Bool, true, false, not, ◌&&◌, ◌||◌, ◌==◌, refl, inl, inr, arith, ap, sym, ◌∙◌, subst}
use Rattle.std.specs.Cmp.{IsStrictWeakOrder, IsTotalOrder}
use Rattle.std.specs.Cmp.Lexicographic.{options_total}
use Rattle.std.specs.List.{AllByRecursion, flat_map}
use Rattle.std.specs.Option.{option_cmp, option_map}
use Rattle.std.specs.Ordering.{is_lt, ordering_then}
use Rattle.std.specs.declared.cmp.Ordering.{Ordering}
use Rattle.std.specs.declared.cmp.Ordering.TheVariants.{Equal}
use Rattle.std.proofs.lemmas.Bool.{and_parts, false≢true}
use Rattle.std.proofs.lemmas.Cmp.{nat_list_cmp_total, on_total, then_total}
use Rattle.std.proofs.lemmas.List.{drop_more}
use Rattle.std.proofs.lemmas.List.Sorted.{ranks_by}
use Rattle.hm_names.specs.Order.{bytes_cmp, region_cmp, table_cmp}
use Rattle.hm_names.specs.Region.{Region}
use Rattle.hm_names.specs.declared.range.KeyRange.{KeyRange}
use Rattle.hm_names.specs.declared.table.TableName.{TableName}
use Rattle.hm_names.proofs.Orders.{below, upto_below, upto_not}
use Rattle.hm_data.specs.declared.catalog.CatRow.{CatRow}
use Rattle.hm_model.specs.Keys.{same_region, same_table}
use Rattle.hm_model.specs.Locks.{IsIn}
use Rattle.hm_model.specs.RowsSaid.{range_in}
use Rattle.hm_model.specs.Single.{overlap_if}
use Rattle.hm_model.proofs.KeyTests.{region_cmp-is, same_region-is, same_region-refl, same_table-is, same_table-refl, table_cmp-is}
use Rattle.hm_model.proofs.NameTies.{regions_total, tables_total}
use Rattle.hm_hbck.specs.Found.{Hold, hold_of, holds_of}
use Rattle.hm_hbck.specs.Pairs.{EachEndsOnce, EndsOnce, NoneMayMeet, RowsAgree, may_meet, meet, of_pair, reaches, start_cmp}
use Rattle.hm_hbck.specs.declared.holdings.Holding.{Holding}
use Rattle.hm_hbck.proofs.Order.{first_not, second_not, second_ties, tied}

abbrev pub start : Option KeyRange → Option (List ℕ)
start range = option_map (λ range. range.start) range

pub starts_total : IsTotalOrder start_cmp
starts_total =
    then_total (on_total (λ (h : Hold). h.region.table) tables_total)
    (then_total (on_total (λ (h : Hold). start (range_in h.row)) (options_total nat_list_cmp_total)) (on_total (λ (h : Hold). h.region) regions_total))

abbrev pub comes_first : Holding → Holding → Bool
comes_first one other = is_lt (start_cmp (hold_of one) (hold_of other))

pub starts_order : IsStrictWeakOrder comes_first
starts_order = ranks_by starts_total hold_of

tables_tied : (a b : TableName) → table_cmp a b ≡ Equal → same_table a b ≡ true
tables_tied a b e = ap (same_table a) (sym (table_cmp-is a b e)) ∙ same_table-refl a

-- what reaches a range reaches one that starts no later
reach_lower : (x y z : Option KeyRange) → is_lt (option_cmp bytes_cmp (start y) (start x)) ≡ false → is_lt (option_cmp bytes_cmp (start z) (start y)) ≡ false → reaches x z ≡ true → reaches x y ≡ true
reach_lower None y z first second far = absurd (false≢true far)
reach_lower (Some x) y None first second far = absurd (false≢true far)
reach_lower (Some x) None (Some z) first second far = absurd (false≢true (sym first))
reach_lower (Some x) (Some y) (Some z) first second far = by (length x.end == 0) refl far
  where
    by : (b : Bool) → (length x.end == 0) ≡ b → (b || below z.start x.end) ≡ true → ((length x.end == 0) || below y.start x.end) ≡ true
    by true ended far = rw ended refl
    by false closed far = rw closed (upto_below y.start z.start x.end (upto_not y.start z.start ∙ ap not second) far)

-- what follows the comparison of tables
abbrev after : Hold → Hold → Ordering
after a b = ordering_then (option_cmp bytes_cmp (start (range_in a.row)) (start (range_in b.row))) (region_cmp a.region b.region)

-- of two that don't start earlier, the nearer may be met where the further may
monotone : (x y z : Hold) → is_lt (start_cmp y x) ≡ false → is_lt (start_cmp z y) ≡ false → (x.region ≡ z.region → x.row ≡ z.row) → may_meet x z ≡ true → may_meet x y ≡ true
monotone x y z first second agree far = by (same_region x.region z.region) refl far
  where
    one_region : x.region ≡ z.region → may_meet x y ≡ true
    one_region same =
        let there : is_lt (start_cmp x y) ≡ false = subst (λ (r : Region). is_lt (ordering_then (table_cmp r.table y.region.table) (ordering_then (option_cmp bytes_cmp (start (range_in x.row)) (start (range_in y.row))) (region_cmp r y.region))) ≡ false) (sym same)
        (subst (λ (row : Option CatRow). is_lt (ordering_then (table_cmp z.region.table y.region.table) (ordering_then (option_cmp bytes_cmp (start (range_in row)) (start (range_in y.row))) (region_cmp z.region y.region))) ≡ false) (sym (agree same)) second) in
        let ties = tied (start_cmp x y) (start_cmp y x) (starts_total.antisymm x y) there first in
        let last = second_ties (option_cmp bytes_cmp (start (range_in x.row)) (start (range_in y.row))) (region_cmp x.region y.region)
        (second_ties (table_cmp x.region.table y.region.table) (ordering_then (option_cmp bytes_cmp (start (range_in x.row)) (start (range_in y.row))) (region_cmp x.region y.region)) ties) in
        rw (ap (same_region x.region) (sym (region_cmp-is x.region y.region last)) ∙ same_region-refl x.region) refl

    one_table : x.region.table ≡ z.region.table → reaches (range_in x.row) (range_in z.row) ≡ true → may_meet x y ≡ true
    one_table same far =
        let low = first_not (table_cmp y.region.table x.region.table) (after y x) first in
        let high = first_not (table_cmp z.region.table y.region.table) (after z y) second in
        let high_too : is_lt (table_cmp x.region.table y.region.table) ≡ false = subst (λ (t : TableName). is_lt (table_cmp t y.region.table) ≡ false) (sym same) high in
        let tie = tied (table_cmp y.region.table x.region.table) (table_cmp x.region.table y.region.table) (tables_total.antisymm y.region.table x.region.table) low high_too in
        let tie_back = tied (table_cmp x.region.table y.region.table) (table_cmp y.region.table x.region.table) (tables_total.antisymm x.region.table y.region.table) high_too low in
        let tie_further : table_cmp z.region.table y.region.table ≡ Equal = subst (λ (t : TableName). table_cmp t y.region.table ≡ Equal) same tie_back in
        let near = first_not (option_cmp bytes_cmp (start (range_in y.row)) (start (range_in x.row))) (region_cmp y.region x.region) (second_not (table_cmp y.region.table x.region.table) (after y x) tie first) in
        let further = first_not (option_cmp bytes_cmp (start (range_in z.row)) (start (range_in y.row))) (region_cmp z.region y.region) (second_not (table_cmp z.region.table y.region.table) (after z y) tie_further second) in
        either (same_region x.region y.region) (same_table x.region.table y.region.table) (reaches (range_in x.row) (range_in y.row)) (tables_tied x.region.table y.region.table tie_back) (reach_lower (range_in x.row) (range_in y.row) (range_in z.row) near further far)
      where
        either : (a b c : Bool) → b ≡ true → c ≡ true → (a || (b && c)) ≡ true
        either true b c e f = refl
        either false b c e f = rw (e, f) refl

    by : (b : Bool) → same_region x.region z.region ≡ b → (b || (same_table x.region.table z.region.table && reaches (range_in x.row) (range_in z.row))) ≡ true → may_meet x y ≡ true
    by true one far = one_region (same_region-is x.region z.region one)
    by false other far =
        let parts = and_parts (same_table x.region.table z.region.table) (reaches (range_in x.row) (range_in z.row)) far in
        one_table (same_table-is x.region.table z.region.table parts.0) parts.1

-- none of some comes before one
abbrev NoneBefore : Hold → List Hold → Type 0
NoneBefore one list = AllByRecursion (λ other. is_lt (start_cmp other one) ≡ false) list

-- each comes before none that stands before it
abbrev pub InOrder : List Hold → Type 0
InOrder [] = Unit {0}
InOrder (one ∷ more) = NoneBefore one more × InOrder more

none_further : (one other : Hold) (more : List Hold) → may_meet one other ≡ false → is_lt (start_cmp other one) ≡ false → NoneBefore other more → ((z : Hold) → IsIn z more → one.region ≡ z.region → one.row ≡ z.row) → NoneMayMeet one more
none_further one other [] off low order agree = tt
none_further one other (z ∷ more) off low order agree = (by (may_meet one z) refl, none_further one other more off low order.1 (λ w there. agree w (inr there)))
  where
    by : (b : Bool) → may_meet one z ≡ b → may_meet one z ≡ false
    by true e = absurd (false≢true (sym off ∙ monotone one other z low order.0 (agree z (inl refl)) e))
    by false e = e

ends_once : (one : Hold) (list : List Hold) → NoneBefore one list → InOrder list → ((z : Hold) → IsIn z list → one.region ≡ z.region → one.row ≡ z.row) → EndsOnce one list
ends_once one [] low order agree = tt
ends_once one (other ∷ more) low order agree =
    (λ off. none_further one other more off low.0 order.0 (λ z there. agree z (inr there)), ends_once one more low.1 order.1 (λ z there. agree z (inr there)))

pub each_ends : (list : List Hold) → InOrder list → RowsAgree list → EachEndsOnce list
each_ends [] order agree = tt
each_ends (one ∷ more) order agree =
    (ends_once one more order.0 order.1 (λ z there. agree one z (inl refl) (inr there)), each_ends more order.1 (λ a b there too. agree a b (inr there) (inr too)))

all_later : (one : Holding) (list : List Holding) → ((j : ℕ) (d : Holding) → j < length list → is_lt (start_cmp (hold_of (get_or list j d)) (hold_of one)) ≡ false) → NoneBefore (hold_of one) (holds_of list)
all_later one [] each = tt
all_later one (other ∷ more) each = (each zero other (omega arith), all_later one more (λ j d within. each (suc j) d (omega (arith, within))))

-- from what a sort says
pub in_order : (list : List Holding) → ((i j : ℕ) (d : Holding) → i ≤ j → j < length list → is_lt (start_cmp (hold_of (get_or list j d)) (hold_of (get_or list i d))) ≡ false) → InOrder (holds_of list)
in_order [] far = tt
in_order (one ∷ more) far =
    (all_later one more (λ j d within. far zero (suc j) d (omega arith) (omega (arith, within))), in_order more (λ i j d le within. far (suc i) (suc j) d (omega (arith, le)) (omega (arith, within))))

-- what can't be met isn't
overlap_off : (x y : Option KeyRange) → reaches x y ≡ false → overlap_if x y ≡ false
overlap_off None y off = refl
overlap_off (Some x) None off = refl
overlap_off (Some x) (Some y) off = rw off refl

pub meet_off : (x y : Hold) → may_meet x y ≡ false → meet x y ≡ false
meet_off x y off = by (same_region x.region y.region) (same_table x.region.table y.region.table) (reaches (range_in x.row) (range_in y.row)) (overlap_if (range_in x.row) (range_in y.row)) (overlap_off (range_in x.row) (range_in y.row)) off
  where
    by : (a b c d : Bool) → (c ≡ false → d ≡ false) → (a || (b && c)) ≡ false → (a || (b && d)) ≡ false
    by true b c d less off = off
    by false true c d less off = less off
    by false false c d less off = refl

-- where none may be met, nothing is found
pub none_found : (one : Hold) (list : List Hold) → NoneMayMeet one list → flat_map (of_pair one) list ≡ []
none_found one [] off = refl
none_found one (other ∷ more) off = rw (meet_off one other off.0) (none_found one more off.1)

-- a walk over some stops where one can't be met
pub stopped : {X : Type 0} (one : Hold) (list : List Holding) (i : ℕ) (d other : Holding) (found all : List X) (f : Hold → List X) → i < length list → other ≡ get_or list i d
    → EndsOnce one (holds_of (drop i list)) → true ≡ not (may_meet one (hold_of other)) → ((hold : Hold) → may_meet one hold ≡ false → f hold ≡ [])
    → found ++ flat_map f (holds_of (drop i list)) ≡ all → found ≡ all
stopped one list i d other found all f within is ends past none so_far =
    sym (append-nil found) ∙ ap (λ l. found ++ l) (sym (empty (drop i list) (drop_more list i d within ∙ ap (λ (h : Holding). h ∷ drop (i + 1) list) (sym is)) ends)) ∙ so_far
  where
    off : (b : Bool) → true ≡ not b → b ≡ false
    off true e = absurd (false≢true (sym e))
    off false e = refl

    each : (rest : List Hold) → NoneMayMeet one rest → flat_map f rest ≡ []
    each [] all = refl
    each (hold ∷ rest) all = rw (none hold all.0) (each rest all.1)

    empty : (rest : List Holding) → rest ≡ other ∷ drop (i + 1) list → EndsOnce one (holds_of rest) → flat_map f (holds_of rest) ≡ []
    empty rest same ends =
        let here = off (may_meet one (hold_of other)) past in
        let tail : EndsOnce one (hold_of other ∷ holds_of (drop (i + 1) list)) = subst (λ (l : List Holding). EndsOnce one (holds_of l)) same ends in
        ap (λ (l : List Holding). flat_map f (holds_of l)) same ∙ rw (none (hold_of other) here) (each (holds_of (drop (i + 1) list)) (tail.0 here))
