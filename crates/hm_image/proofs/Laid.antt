-- Which layouts are there, as the base and then the reports say, and their parts.
use Rattle.std.proofs.Common.{◌≡◌, ℕ, zero, suc, ◌+◌, ◌≤◌, List, [], ◌∷◌, ◌++◌, ◌==◌, ◌||◌, map, Bool, true, false, cond, Option, Some, None, option_map, refl, ap, sym, ◌∙◌, inl, inr, arith}
use Rattle.std.specs.List.{filter, flat_map, list_any}
use Rattle.std.specs.Ordering.{is_eq, nat_cmp}
use Rattle.std.specs.declared.cmp.Ordering.{Ordering}
use Rattle.std.specs.declared.cmp.Ordering.TheVariants.{Equal, Greater, Less}
use Rattle.std.proofs.Math.Numerals.{add-one}
use Rattle.std.proofs.lemmas.Bool.{cases_eq, eq-eqb, false≢true, ne_eqb}
use Rattle.std.proofs.lemmas.Cmp.{nat_cmp_total, tied_itself}
use Rattle.std.proofs.lemmas.Option.{none-some, same_Some}
use Rattle.hm_names.specs.Order.{pid_cmp}
use Rattle.hm_names.specs.declared.pid.Pid.{Pid}
use Rattle.hm_data.specs.declared.call.Told.{Told}
use Rattle.hm_data.specs.declared.entry.Entry.TheVariants as entry_is
use Rattle.hm_data.specs.declared.part.Part.{Part}
use Rattle.hm_data.specs.declared.part.Part.TheVariants as part_is
use Rattle.hm_data.specs.declared.record.Record.{Record}
use Rattle.hm_index.specs.Index.{IsRising, find}
use Rattle.hm_model.specs.Answers.{report_of}
use Rattle.hm_model.specs.Image.{layout_parts, numbers_of, old_layouts}
use Rattle.hm_model.specs.Journal.{Past}
use Rattle.hm_model.specs.Layouts.{is_laid, laid_by, laid_if, layout_called}
use Rattle.hm_model.specs.Locks.{IsIn}
use Rattle.hm_model.specs.Procedures.{offset}
use Rattle.hm_model.specs.Records.{record_at, record_of}
use Rattle.hm_model.specs.Reports.{verb_of}
use Rattle.hm_model.specs.Rules.{IsLegal}
use Rattle.hm_model.specs.Tree.{Node, made, node_of, pid_of}
use Rattle.hm_model.specs.Verbs.{verb_in}
use Rattle.hm_model.proofs.Grown.{ends_parted, grown_all}
use Rattle.hm_model.proofs.KeyTests.{nat_cmp-is}
use Rattle.hm_model.proofs.Parted.{by_parts}
use Rattle.hm_model.proofs.Small.{in_map}
use Rattle.hm_model.proofs.Trees.{grown_all as trees_grown}
use Rattle.hm_rebase.proofs.Bounds.{none_below}
use Rattle.hm_rebase.proofs.Imaged.{numbers_rising}
use Rattle.hm_rebase.proofs.Laid.{laid_listed}
use Rattle.hm_rebase.proofs.Orders.{AllLater, InOrder, same_kept}
use Rattle.hm_rebase.proofs.Shown.{order_rising}
use Rattle.hm_records.specs.Lists.{laid_in_base}
use Rattle.hm_world_model.specs.Layouts.{LayoutsTell, based_layout, laid_below, laid_told}
use Rattle.hm_image.specs.Layouts.{AreLaid, AreOfBase, is_noted, layout_told, noted}
use Rattle.hm_image.proofs.Rising.{found_in, keys, rising_order, told_each}

-- two numbers tie where they are equal
tie_same : (a b : ℕ) → is_eq (nat_cmp a b) ≡ (a == b)
tie_same a b = elim (cases_eq a b) [
  | inl same ↦ ap (λ n. is_eq (nat_cmp a n)) (sym same) ∙ ap is_eq (tied_itself nat_cmp_total a) ∙ sym (eq-eqb a b same)
  | inr differs ↦ by (nat_cmp a b) (λ e. differs (nat_cmp-is a b e)) ∙ sym (ne_eqb a b differs)
]
  where
    by : (o : Ordering) → (o ≡ Equal → ⊥) → is_eq o ≡ false
    by Less differs = refl
    by Equal differs = absurd (differs refl)
    by Greater differs = refl

-- what is noted with one more
pub noted_more : (laid new : List (Pid × Bool)) (own : Pid) (there : Bool)
    → ((other : Pid) → find pid_cmp new other ≡ cond (is_eq (pid_cmp own other)) (Some there) (find pid_cmp laid other))
    → (other : Pid) → is_noted (find pid_cmp new other) ≡ noted (Some (own, there)) other.0 (is_noted (find pid_cmp laid other))
noted_more laid new own there says other =
    ap is_noted (says other) ∙ ap (λ b. is_noted (cond b (Some there) (find pid_cmp laid other))) (tie_same own.0 other.0) ∙ by (own.0 == other.0)
  where
    by : (b : Bool) → is_noted (cond b (Some there) (find pid_cmp laid other)) ≡ cond b there (is_noted (find pid_cmp laid other))
    by true = refl
    by false = refl

-- the layouts of more roots
pub first_more : (roots : List Pid) (root : Pid) (laid new : List (Pid × Bool)) → AreOfBase roots laid
    → ((other : Pid) → find pid_cmp new other ≡ cond (is_eq (pid_cmp root other)) (Some true) (find pid_cmp laid other)) → AreOfBase (roots ++ (root ∷ [])) new
first_more roots root laid new are says other =
    noted_more laid new root true says other ∙ ap (λ b. cond (root.0 == other.0) true b) (are other) ∙ sym (any_more roots)
  where
    turned : (a b c : Bool) → (a || cond b true c) ≡ cond b true (a || c)
    turned true true c = refl
    turned true false c = refl
    turned false b c = refl

    any_more : (list : List Pid) → list_any (λ own. own.0 == other.0) (list ++ (root ∷ [])) ≡ cond (root.0 == other.0) true (list_any (λ own. own.0 == other.0) list)
    any_more [] = last (root.0 == other.0)
      where
        last : (b : Bool) → (b || false) ≡ cond b true false
        last true = refl
        last false = refl
    any_more (x ∷ list) = ap (λ b. (x.0 == other.0) || b) (any_more list) ∙ turned (x.0 == other.0) (root.0 == other.0) (list_any (λ own. own.0 == other.0) list)

any_last : (root : ℕ) (xs : List ℕ) (n : ℕ) → list_any (λ own. own.0 == root) (map pid_of (xs ++ (n ∷ []))) ≡ cond (n == root) true (list_any (λ own. own.0 == root) (map pid_of xs))
any_last root [] n = last (n == root)
  where
    last : (b : Bool) → (b || false) ≡ cond b true false
    last true = refl
    last false = refl
any_last root (x ∷ xs) n = ap (λ b. (x == root) || b) (any_last root xs n) ∙ turned (x == root) (n == root) (list_any (λ own. own.0 == root) (map pid_of xs))
  where
    turned : (a b c : Bool) → (a || cond b true c) ≡ cond b true (a || c)
    turned true true c = refl
    turned true false c = refl
    turned false b c = refl

-- a base has the layouts that it tells
base_laid : (J : Past) → IsLegal J → ends_parted J ≡ true → (root : ℕ) → is_laid J root ≡ list_any (λ own. own.0 == root) (map pid_of (old_layouts J))
base_laid [] legal parted root = refl
base_laid (entry_is.Base (part_is.Layout pid) ∷ J) legal parted root =
    ap (λ b. cond (pid.0 == root) true b) (base_laid J legal.0 (by_parts (λ j. ends_parted j ≡ true) refl (λ o older. refl) (part_is.Layout pid) J legal.1.0) root)
    ∙ sym (any_last root (old_layouts J) pid.0)
base_laid (entry_is.Base (part_is.Head entries last parts sheets) ∷ J) legal parted root = base_laid J legal.0 (by_parts (λ j. ends_parted j ≡ true) refl (λ o older. refl) (part_is.Head entries last parts sheets) J legal.1.0) root
base_laid (entry_is.Base (part_is.Namespace ns) ∷ J) legal parted root = base_laid J legal.0 (by_parts (λ j. ends_parted j ≡ true) refl (λ o older. refl) (part_is.Namespace ns) J legal.1.0) root
base_laid (entry_is.Base (part_is.Table table n row) ∷ J) legal parted root = base_laid J legal.0 (by_parts (λ j. ends_parted j ≡ true) refl (λ o older. refl) (part_is.Table table n row) J legal.1.0) root
base_laid (entry_is.Base (part_is.Region region range status parents place) ∷ J) legal parted root = base_laid J legal.0 (by_parts (λ j. ends_parted j ≡ true) refl (λ o older. refl) (part_is.Region region range status parents place) J legal.1.0) root
base_laid (entry_is.Base (part_is.Server server fenced) ∷ J) legal parted root = base_laid J legal.0 (by_parts (λ j. ends_parted j ≡ true) refl (λ o older. refl) (part_is.Server server fenced) J legal.1.0) root
base_laid (entry_is.Base (part_is.Root pid nonce args cause) ∷ J) legal parted root = base_laid J legal.0 (by_parts (λ j. ends_parted j ≡ true) refl (λ o older. refl) (part_is.Root pid nonce args cause) J legal.1.0) root
base_laid (entry ∷ J) legal parted root = absurd (false≢true parted)

based_is : (J : Past) → IsLegal J → (root : ℕ) → list_any (λ own. own.0 == root) (laid_in_base J) ≡ based_layout J root
based_is [] legal root = refl
based_is (entry_is.Base part ∷ J) legal root = sym (base_laid (entry_is.Base part ∷ J) legal refl root)
based_is (entry_is.Start sheets ∷ J) legal root = based_is J legal.0 root
based_is (entry_is.Adopt sheets ∷ J) legal root = based_is J legal.0 root
based_is (entry ∷ J) legal root = based_is J legal.0 root

-- no procedure up to the base's last reports
below_base : (J : Past) → IsLegal J → (root n : ℕ) → n ≤ offset J + 1 → laid_below J n root ≡ based_layout J root
below_base J legal root zero le = refl
below_base J legal root (suc n) le =
    ap (λ v. laid_if (layout_called v) (laid_told (report_of J n)) root (laid_below J n root)) ((grown_all J legal).uncalled n (none_below J legal n (omega (arith, le))))
    ∙ below_base J legal root n (omega (arith, le))

-- what is noted at first
pub laid_begin : (J : Past) → IsLegal J → (laid : List (Pid × Bool)) → AreOfBase (laid_in_base J) laid → AreLaid J (offset J + 1) laid
laid_begin J legal laid are root = are root ∙ based_is J legal root.0 ∙ sym (below_base J legal root.0 (offset J + 1) (omega arith))

-- one more report says nothing of a layout, or is noted
pub laid_same : (J : Past) (n : ℕ) (laid : List (Pid × Bool)) → AreLaid J n laid
    → ((root : ℕ) (before : Bool) → laid_if (layout_called (verb_of J n)) (laid_told (report_of J n)) root before ≡ before) → AreLaid J (n + 1) laid
laid_same J n laid are says root = are root ∙ sym (says root.0 (laid_below J n root.0)) ∙ ap (λ k. laid_below J k root.0) (sym (add-one n))

pub laid_more : (J : Past) (n : ℕ) (laid new : List (Pid × Bool)) (own : Pid) (there : Bool) → AreLaid J n laid
    → ((root : ℕ) (before : Bool) → laid_if (layout_called (verb_of J n)) (laid_told (report_of J n)) root before ≡ noted (Some (own, there)) root before)
    → ((other : Pid) → find pid_cmp new other ≡ cond (is_eq (pid_cmp own other)) (Some there) (find pid_cmp laid other)) → AreLaid J (n + 1) new
laid_more J n laid new own there are says is root =
    noted_more laid new own there is root ∙ ap (noted (Some (own, there)) root.0) (are root) ∙ sym (says root.0 (laid_below J n root.0)) ∙ ap (λ k. laid_below J k root.0) (sym (add-one n))

-- who isn't shown made no call
pub unshown : (J : Past) → IsLegal J → (n : ℕ) → None ≡ record_of J n → (t : Option Bool) (root : ℕ) (before : Bool) → laid_if (layout_called (verb_of J n)) t root before ≡ before
unshown J legal n gone t root before = ap (λ v. laid_if (layout_called v) t root before) ((grown_all J legal).uncalled n (by (node_of J n) refl gone))
  where
    by : (o : Option Node) → node_of J n ≡ o → None ≡ option_map (record_at J n) o → node_of J n ≡ None
    by None is gone = is
    by (Some node) is gone = absurd (none-some (record_at J n node) gone)

-- who is shown and has a report called for what it works on
pub told_as : (J : Past) → IsLegal J → (n : ℕ) (told : Told) (its : Record) → Some told ≡ report_of J n → Some its ≡ record_of J n → (root : ℕ) (before : Bool)
    → laid_if (layout_called (verb_of J n)) (laid_told (report_of J n)) root before ≡ laid_if (layout_called (verb_in its.args)) (laid_by told) root before
told_as J legal n told its is found root before =
    let grown = trees_grown J legal in
    let fits = grown.fits n told (sym is) in
    let node = grown.verbs n fits.0 fits.1 in
    let args : its.args ≡ node.0.args = ap (λ (r : Record). r.args) (same_Some its (record_at J n node.0) (found ∙ ap (option_map (record_at J n)) node.1)) in
    ap (λ o. laid_if (layout_called (verb_of J n)) (laid_told o) root before) (sym is)
    ∙ ap (λ v. laid_if (layout_called v) (laid_by told) root before) (fits.1 ∙ sym node.2 ∙ ap verb_in (sym args))

-- numbers of procedures
abbrev numbers : List Pid → List ℕ
numbers pids = map (λ pid. pid.0) pids

later_numbers : (one : Pid) (pids : List Pid) → AllLater pid_cmp one pids → AllLater nat_cmp one.0 (numbers pids)
later_numbers one [] all = tt
later_numbers one (pid ∷ more) all = (all.0, later_numbers one more all.1)

order_numbers : (pids : List Pid) → InOrder pid_cmp pids → InOrder nat_cmp (numbers pids)
order_numbers [] order = tt
order_numbers (pid ∷ more) order = (later_numbers pid more order.0, order_numbers more order.1)

-- the part of a root's layout, where it is there
abbrev part_if : (ℕ → Bool) → Pid → List Part
part_if test pid = cond (test pid.0) (part_is.Layout pid ∷ []) []

parts_if : (test : ℕ → Bool) (pids : List Pid) → flat_map (part_if test) pids ≡ map (λ n. part_is.Layout (pid_of n)) (filter test (numbers pids))
parts_if test [] = refl
parts_if test (pid ∷ more) = by (test pid.0) (flat_map (part_if test) more) (filter test (numbers more)) (parts_if test more)
  where
    by : (b : Bool) (rest : List Part) (kept : List ℕ) → rest ≡ map (λ n. part_is.Layout (pid_of n)) kept
        → cond b (part_is.Layout pid ∷ []) [] ++ rest ≡ map (λ n. part_is.Layout (pid_of n)) (cond b (pid.0 ∷ kept) kept)
    by true rest kept is = ap (λ l. part_is.Layout pid ∷ l) is
    by false rest kept is = is

pid_ties : (x y : Pid) → pid_cmp x y ≡ Equal → x ≡ y
pid_ties x y e = ap pid_of (nat_cmp-is x.0 y.0 e)

pid_tied : (x : Pid) → pid_cmp x x ≡ Equal
pid_tied x = tied_itself nat_cmp_total x.0

-- the parts of the layouts
pub layouts_told : (J : Past) → IsLegal J → LayoutsTell → (laid : List (Pid × Bool)) → IsRising pid_cmp laid → AreLaid J (made J + 1) laid → flat_map layout_told laid ≡ layout_parts J
layouts_told J legal tell laid rises are =
    told_each pid_cmp pid_ties pid_tied layout_told (part_if (is_laid J)) laid order each
    ∙ parts_if (is_laid J) (keys pid_cmp laid)
    ∙ ap (map (λ n. part_is.Layout (pid_of n))) (same_kept nat_cmp nat_cmp_total (is_laid J) (numbers (keys pid_cmp laid)) (old_layouts J ++ numbers_of J) (order_numbers (keys pid_cmp laid) order)
    (order_rising 0 (made J) (old_layouts J ++ numbers_of J) (numbers_rising J legal)) has (laid_listed J legal))
  where
    order : InOrder pid_cmp (keys pid_cmp laid)
    order = rising_order pid_cmp laid rises

    said : (root : Pid) → is_noted (find pid_cmp laid root) ≡ is_laid J root.0
    said root = are root ∙ tell J legal root.0

    each : (root : Pid) (there : Bool) → find pid_cmp laid root ≡ Some there → layout_told (root, there) ≡ part_if (is_laid J) root
    each root there at = ap (λ b. cond b (part_is.Layout root ∷ []) []) (ap is_noted (sym at) ∙ said root)

    has : (root : ℕ) → is_laid J root ≡ true → IsIn root (numbers (keys pid_cmp laid))
    has root on = by (find pid_cmp laid (pid_of root)) refl
      where
        by : (o : Option Bool) → find pid_cmp laid (pid_of root) ≡ o → IsIn root (numbers (keys pid_cmp laid))
        by None e = absurd (false≢true (ap is_noted (sym e) ∙ said (pid_of root) ∙ on))
        by (Some there) e = in_map (λ pid. pid.0) (pid_of root) (keys pid_cmp laid) (found_in pid_cmp pid_ties pid_tied laid (pid_of root) there e)
