-- The deeds of namespaces and tables leave each table whole. No journal.
use Rattle.std.proofs.Common.{◌≡◌, ◌≢◌, ℕ, suc, ◌+◌, ◌≤◌, Bool, true, false, ◌==◌, ◌&&◌, cond, is_some, List, [], ◌∷◌, ◌++◌, length, Option, Some, None, refl, sym, ap, subst, ◌∙◌, inl, inr, arith}
use Rattle.std.specs.Option.{option_map}
use Rattle.std.proofs.lemmas.Bool.{and_right, cond-true, cond-false, ne_eqb, false≢true}
use Rattle.std.proofs.lemmas.Option.{none-some}
use Rattle.hm_names.specs.Region.{Region}
use Rattle.hm_names.specs.declared.range.KeyRange.{KeyRange}
use Rattle.hm_names.specs.declared.table.TableName.{TableName}
use Rattle.hm_data.specs.declared.catalog.CatKey.{CatKey}
use Rattle.hm_data.specs.declared.catalog.CatKey.TheVariants as key_is
use Rattle.hm_data.specs.declared.catalog.CatRow.{CatRow}
use Rattle.hm_data.specs.declared.catalog.CatRow.TheVariants as row_is
use Rattle.hm_data.specs.declared.catalog.Edit.{Edit}
use Rattle.hm_data.specs.declared.catalog.TableState.TheVariants as state_is
use Rattle.hm_model.proofs.KeyTests.{cases_key, same_table-is, same_table-refl}
use Rattle.hm_model.specs.Catalog.{Catalog, edited, keep, rows_at, set_to}
use Rattle.hm_model.specs.Changes.{add_ranges, changed, live_row, region_key, remove_regions}
use Rattle.hm_model.specs.Deeds.{regions_of}
use Rattle.hm_model.specs.Keys.{same_key, same_table}
use Rattle.hm_model.specs.Locks.{IsIn}
use Rattle.hm_model.specs.Reads.{is_region_in}
use Rattle.hm_model.specs.Pieces.{ranges_between}
use Rattle.hm_model.specs.Requests.{rise}
use Rattle.hm_model.specs.RowsSaid.{Rows, all_among}
use Rattle.hm_model.specs.GoingBack.{Tells}
use Rattle.hm_cover.proofs.Chains.{HaveKeys, bounds_keys, bounds_once, holders}
use Rattle.hm_cover.proofs.Edits.{IsOff, whole_off}
use Rattle.hm_cover.proofs.Tally.{AllBelow, Row, Regions, found, left, serves, total}
use Rattle.hm_cover.proofs.Whole.{AllFilled, Whole, bare_all, whole_after, whole_none, whole_same}

-- a namespace's row is of no table
pub namespace_whole : (n : ℕ) (there : Catalog) (ns : List ℕ) (row : Option CatRow) (t : TableName) → Whole n there t → Whole n (λ key. edited (set_to there (key_is.Ns ns) row ∷ []) key (there key)) t
namespace_whole n there ns row t whole = whole_same n there (λ key. edited (set_to there (key_is.Ns ns) row ∷ []) key (there key)) t (λ id. refl) refl whole

still_some : (change : CatRow → CatRow) (o : Option CatRow) → is_some (option_map change o) ≡ is_some o
still_some change None = refl
still_some change (Some row) = refl

-- a table's row that is changed is there as before
pub altered_whole : (n : ℕ) (there : Catalog) (u : TableName) (change : CatRow → CatRow) (t : TableName) → Whole n there t → Whole n (λ key. edited (changed there (key_is.Table u) change ∷ []) key (there key)) t
altered_whole n there u change t whole = whole_same n there (λ key. edited (changed there (key_is.Table u) change ∷ []) key (there key)) t (λ id. refl) (by (same_table t u) refl) whole
  where
    by : (b : Bool) → same_table t u ≡ b → is_some (cond b (option_map change (there (key_is.Table u))) (there (key_is.Table t))) ≡ is_some (there (key_is.Table t))
    by true same = still_some change (there (key_is.Table u)) ∙ ap (λ x. is_some (there (key_is.Table x))) (sym (same_table-is t u same))
    by false off = refl

-- new regions
module _ (there : Catalog) (u : TableName) where
  add_off : (t : TableName) → same_table t u ≡ false → (first : ℕ) (ranges : List KeyRange) → IsOff t (add_ranges there u first ranges)
  add_off t off first [] = tt
  add_off t off first (range ∷ ranges) = (off, add_off t off (first + 1) ranges)

  add_tells : (ranges : List KeyRange) (first : ℕ) (now : Catalog) → ((i : ℕ) → first ≤ i → there (region_key u i) ≡ now (region_key u i)) → Tells (add_ranges there u first ranges) now
  add_tells [] first now same = tt
  add_tells (range ∷ ranges) first now same = (
    same first (omega arith),
    add_tells ranges (first + 1) (λ key. cond (same_key key (region_key u first)) (Some (live_row range [])) (now key)) (λ i le. same i (omega (arith, le)) ∙ sym (cond-false (same_key (region_key u i) (region_key u first)) (Some (live_row range [])) (now (region_key u i)) (and_right (same_table u u) (i == first) (ne_eqb i first (λ e. omega (arith, le, e)))))),
  )

  add_low : (n : ℕ) (ranges : List KeyRange) (first : ℕ) → first + length ranges ≤ n → AllBelow n (add_ranges there u first ranges)
  add_low n [] first le = tt
  add_low n (range ∷ ranges) first le =
      let more : first + suc (length ranges) ≤ n = le in
      ((omega (arith, more)), add_low n ranges (first + 1) (omega (arith, more)))

  add_filled : (ranges : List KeyRange) (first : ℕ) → HaveKeys ranges → AllFilled (add_ranges there u first ranges)
  add_filled [] first keys = tt
  add_filled (range ∷ ranges) first keys = (keys.0, add_filled ranges (first + 1) keys.1)

  add_rows : (ranges : List KeyRange) (first : ℕ) (t : TableName) → (found Row t (add_ranges there u first ranges) ≡ 0) × (left Row t (add_ranges there u first ranges) ≡ 0)
  add_rows [] first t = (refl, refl)
  add_rows (range ∷ ranges) first t = let rest = add_rows ranges (first + 1) t in (omega (arith, rest.0), omega (arith, rest.1))

  add_found : (passes : Option CatRow → Bool) → passes None ≡ false → ((i : ℕ) → there (region_key u i) ≡ None) → (ranges : List KeyRange) (first : ℕ) → found (Regions passes) u (add_ranges there u first ranges) ≡ 0
  add_found passes none bare [] first = refl
  add_found passes none bare (range ∷ ranges) first =
      let rest = add_found passes none bare ranges (first + 1) in
      let here : Rattle.hm_model.specs.Counts.one_if (same_table u u && passes (there (region_key u first))) ≡ 0 = ap Rattle.hm_model.specs.Counts.one_if (and_right (same_table u u) (passes (there (region_key u first))) (ap passes (bare first) ∙ none)) in
      omega (arith, rest, here)

  add_left : (k : List ℕ) (ranges : List KeyRange) (first : ℕ) → left (Regions (serves k)) u (add_ranges there u first ranges) ≡ holders k ranges
  add_left k [] first = refl
  add_left k (range ∷ ranges) first =
      let rest = add_left k ranges (first + 1) in
      let here : Rattle.hm_model.specs.Counts.one_if (same_table u u && Rattle.hm_names.specs.Ranges.holds range k) ≡ Rattle.hm_model.specs.Counts.one_if (Rattle.hm_names.specs.Ranges.holds range k) = ap (λ b. Rattle.hm_model.specs.Counts.one_if (b && Rattle.hm_names.specs.Ranges.holds range k)) (same_table-refl u) in
      omega (arith, rest, here)

-- a table that isn't there is made, with a live region for each gap of its rising keys
module _ (n : ℕ) (there : Catalog) (u : TableName) (split : List (List ℕ)) (first : ℕ) (gone : there (key_is.Table u) ≡ None) (rises : rise [] split ≡ true) where
  abbrev ranges : List KeyRange
  ranges = ranges_between ([] ∷ split ++ [] ∷ [])

  abbrev made_edits : List Edit
  made_edits = set_to there (key_is.Table u) (Some (row_is.Table state_is.Enabled 1)) ∷ add_ranges there u first ranges

  pub created_off : (t : TableName) → same_table t u ≡ false → Whole n there t → Whole n (λ key. edited made_edits key (there key)) t
  created_off t off whole = whole_off n made_edits there t (off, add_off there u t off first ranges) whole

  pub created_own : first + length ranges ≤ n → Whole n there u → Whole n (λ key. edited made_edits key (there key)) u
  created_own low whole =
      let bare = bare_all n there u whole gone in
      let row_was : total Row there u n ≡ 0 = ap (λ o. Rattle.hm_model.specs.Counts.one_if (is_some o)) gone in
      let rows = add_rows there u ranges first u in
      let row_found : found Row u made_edits ≡ 0 = (let one : Rattle.hm_model.specs.Counts.one_if (same_table u u && is_some (there (key_is.Table u))) ≡ 0 = ap Rattle.hm_model.specs.Counts.one_if (and_right (same_table u u) (is_some (there (key_is.Table u))) (ap is_some gone)) in let other = rows.0 in omega (arith, one, other)) in
      let row_left : left Row u made_edits ≡ 1 = (let one : Rattle.hm_model.specs.Counts.one_if (same_table u u && true) ≡ 1 = ap (λ b. Rattle.hm_model.specs.Counts.one_if (b && true)) (same_table-refl u) in let other = rows.1 in omega (arith, one, other)) in
      whole_after n made_edits there u whole
      (refl, add_tells there u ranges first (λ key. cond (same_key key (key_is.Table u)) (Some (row_is.Table state_is.Enabled 1)) (there key)) (λ i le. refl))
      (tt, add_low there u n ranges first low)
      (tt, add_filled there u ranges first (bounds_keys split rises))
      (λ k. (
      let o = whole.once k in
      let l = add_left there u k ranges first ∙ bounds_once split k rises in
      let f = add_found there u (serves k) refl bare ranges first in
      omega (arith, o, row_was, l, f, row_found, row_left)))
      (λ e. absurd (omega (arith, e, row_was, row_found, row_left)))

-- regions that are removed
remove_off : (there : Catalog) (u t : TableName) → same_table t u ≡ false → (regions : List Region) → ((r : Region) → IsIn r regions → r.table ≡ u) → IsOff t (remove_regions there regions)
remove_off there u t off [] own = tt
remove_off there u t off (r ∷ regions) own = (ap (same_table t) (own r (inl refl)) ∙ off, remove_off there u t off regions (λ x at. own x (inr at)))

remove_none : (there : Catalog) (regions : List Region) (key : CatKey) → edited (remove_regions there regions) key None ≡ None
remove_none there [] key = refl
remove_none there (r ∷ regions) key = by (remove_none there regions key) (same_key key (key_is.Region r))
  where
    by : edited (remove_regions there regions) key None ≡ None → (b : Bool) → edited (remove_regions there regions) key (cond b None None) ≡ None
    by rest true = rest
    by rest false = rest

remove_in : (there : Catalog) (regions : List Region) (r : Region) (row : Option CatRow) → IsIn r regions → edited (remove_regions there regions) (key_is.Region r) row ≡ None
remove_in there [] r row at = absurd at
remove_in there (first ∷ regions) r row at = elim (cases_key (key_is.Region r) (key_is.Region first)) [
  | inl same ↦ ap (edited (remove_regions there regions) (key_is.Region r)) (cond-true (same_key (key_is.Region r) (key_is.Region first)) None row same.0) ∙ remove_none there regions (key_is.Region r)
  | inr differs ↦ ap (edited (remove_regions there regions) (key_is.Region r)) (cond-false (same_key (key_is.Region r) (key_is.Region first)) None row differs.0) ∙ elim at [
    | inl here ↦ absurd (differs.1 (ap key_is.Region here))
    | inr later ↦ remove_in there regions r row later
  ]
]

remove_table : (there : Catalog) (regions : List Region) (t : TableName) (row : Option CatRow) → edited (remove_regions there regions) (key_is.Table t) row ≡ row
remove_table there [] t row = refl
remove_table there (r ∷ regions) t row = remove_table there regions t row

-- the regions of a table among rows
module _ (u : TableName) where
  all_own : (rows : Rows) (r : Region) → IsIn r (all_among u rows) → r.table ≡ u
  all_own [] r at = absurd at
  all_own ((key_is.Ns ns, row) ∷ rows) r at = all_own rows r at
  all_own ((key_is.Table other, row) ∷ rows) r at = all_own rows r at
  all_own ((key_is.Region first, row) ∷ rows) r at = by (λ later. all_own rows r later) (same_table u first.table && true) refl at
    where
      and_first : (b : Bool) → (b && true) ≡ true → b ≡ true
      and_first true e = refl
      and_first false e = absurd (false≢true e)

      by : (IsIn r (all_among u rows) → r.table ≡ u) → (b : Bool) → (same_table u first.table && true) ≡ b → IsIn r (cond b (first ∷ all_among u rows) (all_among u rows)) → r.table ≡ u
      by on true e (inl here) = ap (λ (x : Region). x.table) here ∙ sym (same_table-is u first.table (and_first (same_table u first.table) e))
      by on true e (inr later) = on later
      by on false e later = on later

  among_here : (r : Region) (row : CatRow) (rows : Rows) → r.table ≡ u → IsIn r (all_among u ((key_is.Region r, row) ∷ rows))
  among_here r row rows own = subst (λ b. IsIn r (cond (b && true) (r ∷ all_among u rows) (all_among u rows))) (sym (ap (same_table u) own ∙ same_table-refl u)) (inl refl)

  among_later : (key : CatKey) (row : CatRow) (rows : Rows) (r : Region) → IsIn r (all_among u rows) → IsIn r (all_among u ((key, row) ∷ rows))
  among_later (key_is.Region first) row rows r at = by (same_table u first.table && true)
    where
      by : (b : Bool) → IsIn r (cond b (first ∷ all_among u rows) (all_among u rows))
      by true = inr at
      by false = at
  among_later key row rows r at = at

  among_kept : (b : Bool) (key : CatKey) (o : Option CatRow) (rows : Rows) (r : Region) → IsIn r (all_among u rows) → IsIn r (all_among u (keep b key o rows))
  among_kept false key o rows r at = at
  among_kept true key None rows r at = at
  among_kept true key (Some row) rows r at = among_later key row rows r at

  -- a region that has a row is among them
  listed_in : (there : Catalog) (keys : List CatKey) (r : Region) → r.table ≡ u → IsIn (key_is.Region r) keys → (row : CatRow) → there (key_is.Region r) ≡ Some row → IsIn r (regions_of u keys there)
  listed_in there [] r own at row is = absurd at
  listed_in there (first ∷ keys) r own (inl here) row is =
      let asked : is_region_in u (λ id. true) (key_is.Region r) ≡ true = ap (λ t. same_table u t && true) own ∙ ap (λ b. b && true) (same_table-refl u) in
      subst (λ k. IsIn r (all_among u (keep (is_region_in u (λ id. true) k) k (there k) (rows_at (is_region_in u (λ id. true)) there keys)))) here
      (subst (λ b. IsIn r (all_among u (keep b (key_is.Region r) (there (key_is.Region r)) (rows_at (is_region_in u (λ id. true)) there keys)))) (sym asked)
      (subst (λ o. IsIn r (all_among u (keep true (key_is.Region r) o (rows_at (is_region_in u (λ id. true)) there keys)))) (sym is) (among_here r row (rows_at (is_region_in u (λ id. true)) there keys) own)))
  listed_in there (first ∷ keys) r own (inr later) row is = among_kept (is_region_in u (λ id. true) first) first (there first) (rows_at (is_region_in u (λ id. true)) there keys) r (listed_in there keys r own later row is)

-- a table is removed, with all its regions
module _ (n : ℕ) (there : Catalog) (u : TableName) (keys : List CatKey) (listed : (key : CatKey) → there key ≢ None → IsIn key keys) where
  abbrev gone_edits : List Edit
  gone_edits = set_to there (key_is.Table u) None ∷ remove_regions there (regions_of u keys there)

  pub removed_off : (t : TableName) → same_table t u ≡ false → Whole n there t → Whole n (λ key. edited gone_edits key (there key)) t
  removed_off t off whole = whole_off n gone_edits there t (off, remove_off there u t off (regions_of u keys there) (λ r at. all_own u (rows_at (is_region_in u (λ id. true)) there keys) r at)) whole

  pub removed_own : Whole n (λ key. edited gone_edits key (there key)) u
  removed_own = whole_none n (λ key. edited gone_edits key (there key)) u
      (remove_table there (regions_of u keys there) u (cond (same_table u u) None (there (key_is.Table u))) ∙ cond-true (same_table u u) None (there (key_is.Table u)) (same_table-refl u))
      (λ id. by (record { table = u; id = id }) refl (there (region_key u id)) refl)
    where
      by : (r : Region) → r.table ≡ u → (o : Option CatRow) → there (key_is.Region r) ≡ o → edited (remove_regions there (regions_of u keys there)) (key_is.Region r) (there (key_is.Region r)) ≡ None
      by r own None e = ap (edited (remove_regions there (regions_of u keys there)) (key_is.Region r)) e ∙ remove_none there (regions_of u keys there) (key_is.Region r)
      by r own (Some row) e = remove_in there (regions_of u keys there) r (there (key_is.Region r)) (listed_in u there keys r own (listed (key_is.Region r) (λ none. none-some row (sym none ∙ e))) row e)
