-- The rows of keys that stand together are found from where they begin, up to the first key that isn't one.
use Rattle.std.proofs.Common.{Bor, MatchOption, if◌then◌else◌, is_some, ◌||◌, ◌≡◌, ◌≢◌, ℕ, List, [], ◌∷◌, Bool, true, false, ◌&&◌, Option, Some, None, refl, inl, inr, arith, ap, sym, ◌∙◌, subst}
use Rattle.std.specs.List.{list_any}
use Rattle.std.specs.Ordering.{nat_cmp, ordering_then}
use Rattle.std.specs.declared.cmp.Ordering.{Ordering}
use Rattle.std.specs.declared.cmp.Ordering.TheVariants.{Less, Equal, Greater}
use Rattle.std.proofs.lemmas.Bool.{cond-true, cond-false, cases_Bool}
use Rattle.std.proofs.lemmas.Bool.Decides.{nat_tests}
use Rattle.std.proofs.lemmas.Cmp.{ranked}
use Rattle.hm_names.specs.Order.{bytes_cmp, table_cmp}
use Rattle.hm_names.specs.declared.table.TableName.{TableName}
use Rattle.hm_data.proofs.KeyOrder.{keys_total}
use Rattle.hm_data.specs.Keys.{key_cmp}
use Rattle.hm_data.specs.declared.catalog.CatKey.{CatKey}
use Rattle.hm_data.specs.declared.catalog.CatKey.TheVariants as key_is
use Rattle.hm_data.specs.declared.catalog.CatRow.{CatRow}
use Rattle.hm_model.specs.Catalog.{keep}
use Rattle.hm_model.specs.Keys.{same_table}
use Rattle.hm_model.specs.Reads.{is_region_in}
use Rattle.hm_model.specs.RowLaws.{AllBehind, AreInOrder}
use Rattle.hm_model.specs.RowsSaid.{Rows, all_among}
use Rattle.hm_model.proofs.KeyTests.{same_table-is, same_table-refl, table_cmp-is}
use Rattle.hm_index.specs.Index.{or_more, pairs_from}
use Rattle.hm_catalog.specs.Kept.{Pairs, is_region_of, keys_kept, present, rows_ahead}
use Rattle.hm_catalog.specs.Regions.{first_region, is_region}
use Rattle.hm_catalog.specs.Spans.{in_span, is_from, low_of, regions_in, rows_of}
use Rattle.hm_catalog.specs.declared.span.Span.{Span}
use Rattle.hm_catalog.specs.declared.span.Span.TheVariants as span_is
use Rattle.hm_catalog.proofs.Ahead.{region_below, region_gap, table_below, table_gap, table_tied}

-- a row whose key doesn't pass adds nothing, and one whose key passes stands in front
skip_row : (test : CatKey → Bool) (k : CatKey) (row : Option CatRow) (rows : Rows) → test k ≡ false → rows_of test (keep true k row rows) ≡ rows_of test rows
skip_row test k None rows off = refl
skip_row test k (Some row) rows off = cond-false (test k) ((k, row) ∷ rows_of test rows) (rows_of test rows) off

keep_row : (test : CatKey → Bool) (k : CatKey) (row : Option CatRow) (rows : Rows) → test k ≡ true → rows_of test (keep true k row rows) ≡ keep true k row (rows_of test rows)
keep_row test k None rows passes = refl
keep_row test k (Some row) rows passes = cond-true (test k) ((k, row) ∷ rows_of test rows) (rows_of test rows) passes

module _ (test : CatKey → Bool) (low : CatKey) (below : (k : CatKey) → key_cmp k low ≡ Less → test k ≡ false) (gap : (k q : CatKey) → key_cmp k low ≢ Less → test k ≡ false → key_cmp k q ≡ Less → test q ≡ false) where
  -- pairs from the place on
  abbrev Starts : Pairs → Type 0
  Starts [] = Unit {0}
  Starts ((k, row) ∷ more) = key_cmp k low ≢ Less

  starts_next : (k : CatKey) (more : Pairs) → key_cmp k low ≢ Less → AllBehind k (keys_kept more) → Starts more
  starts_next k [] on behind = tt
  starts_next k ((q, row) ∷ more) on behind = λ e. on (keys_total.trans k q low behind.0 e)

  starts_at : (k : CatKey) (o : Ordering) → key_cmp k low ≡ o → (o ≡ Less → ⊥) → key_cmp k low ≢ Less
  starts_at k o e other less = other (sym e ∙ less)

  rows_out : (k : CatKey) (pairs : Pairs) → key_cmp k low ≢ Less → test k ≡ false → AllBehind k (keys_kept pairs) → rows_of test (present pairs) ≡ []
  rows_out k [] on off behind = refl
  rows_out k ((q, row) ∷ more) on off behind = skip_row test q row (present more) (gap k q on off behind.0) ∙ rows_out k more on off behind.1

  rows_here : (k : CatKey) (row : Option CatRow) (more : Pairs) → key_cmp k low ≢ Less → AllBehind k (keys_kept more)
      → rows_ahead test more ≡ rows_of test (present more) → rows_ahead test ((k, row) ∷ more) ≡ rows_of test (keep true k row (present more))
  rows_here k row more on behind rest = elim (cases_Bool (test k)) [
    | inl passes ↦ cond-true (test k) (keep true k row (rows_ahead test more)) [] passes ∙ ap (keep true k row) rest ∙ sym (keep_row test k row (present more) passes)
    | inr off ↦ cond-false (test k) (keep true k row (rows_ahead test more)) [] off ∙ sym (skip_row test k row (present more) off ∙ rows_out k more on off behind)
  ]

  rows_on : (pairs : Pairs) → Starts pairs → AreInOrder (keys_kept pairs) → rows_ahead test pairs ≡ rows_of test (present pairs)
  rows_on [] on order = refl
  rows_on ((k, row) ∷ more) on order = rows_here k row more on order.0 (rows_on more (starts_next k more on order.0) order.1)

  -- what passes from the place on is all that passes
  rows_from : (pairs : Pairs) → AreInOrder (keys_kept pairs) → rows_ahead test (pairs_from key_cmp pairs low) ≡ rows_of test (present pairs)
  rows_from [] order = refl
  rows_from ((k, row) ∷ more) order = by (rows_from more order.1) (key_cmp k low) refl
    where
      by : rows_ahead test (pairs_from key_cmp more low) ≡ rows_of test (present more) → (o : Ordering) → key_cmp k low ≡ o
          → rows_ahead test (or_more o (k, row) more (pairs_from key_cmp more low)) ≡ rows_of test (keep true k row (present more))
      by rest Less e = rest ∙ sym (skip_row test k row (present more) (below k e))
      by rest Equal e = rows_on ((k, row) ∷ more) (starts_at k Equal e (λ h. cc)) order
      by rest Greater e = rows_on ((k, row) ∷ more) (starts_at k Greater e (λ h. cc)) order

-- the regions of a table with some numbers stand together
not_in : (first count id : ℕ) → nat_cmp id first ≡ Less → is_from first count id ≡ false
not_in first count id less = let lower = ranked id first Less (sym less) in grind (arith, nat_tests, lower)

above_in : (first count id other : ℕ) → nat_cmp id first ≢ Less → is_from first count id ≡ false → nat_cmp id other ≡ Less → is_from first count other ≡ false
above_in first count id other on off less = let lower = ranked id other Less (sym less) in by (nat_cmp id first) refl
  where
    by : (o : Ordering) → nat_cmp id first ≡ o → is_from first count other ≡ false
    by Less e = absurd (on e)
    by Equal e = let lower = ranked id other Less (sym less) in let same = ranked id first Equal (sym e) in grind (arith, nat_tests, off, lower, same)
    by Greater e = let lower = ranked id other Less (sym less) in let higher = ranked id first Greater (sym e) in grind (arith, nat_tests, off, lower, higher)

number_below : (table : TableName) (first count : ℕ) (k : CatKey) → key_cmp k (key_is.Region (record { table = table; id = first })) ≡ Less → is_region_in table (is_from first count) k ≡ false
number_below table first count (key_is.Ns ns) e = refl
number_below table first count (key_is.Table other) e = refl
number_below table first count (key_is.Region region) e = elim (cases_Bool (same_table table region.table)) [
  | inl same ↦
      ap (λ b. b && is_from first count region.id) same
      ∙ not_in first count region.id (sym (ap (λ o. ordering_then o (nat_cmp region.id first)) (table_tied table region.table same)) ∙ e)
  | inr differs ↦ ap (λ b. b && is_from first count region.id) differs
]

number_gap : (table : TableName) (first count : ℕ) (k q : CatKey) → key_cmp k (key_is.Region (record { table = table; id = first })) ≢ Less → is_region_in table (is_from first count) k ≡ false → key_cmp k q ≡ Less → is_region_in table (is_from first count) q ≡ false
number_gap table first count k (key_is.Ns ns) on off less = refl
number_gap table first count k (key_is.Table other) on off less = refl
number_gap table first count (key_is.Ns ns) (key_is.Region q) on off less = absurd (on refl)
number_gap table first count (key_is.Table other) (key_is.Region q) on off less = absurd (on refl)
number_gap table first count (key_is.Region k) (key_is.Region q) on off less = elim (cases_Bool (same_table table q.table)) [
  | inl same ↦ ap (λ b. b && is_from first count q.id) same ∙ by (same_table-is table q.table same) (table_cmp k.table table) refl
  | inr differs ↦ ap (λ b. b && is_from first count q.id) differs
]
  where
    by : table ≡ q.table → (o : Ordering) → table_cmp k.table table ≡ o → is_from first count q.id ≡ false
    by same Less e = absurd (on (ap (λ o. ordering_then o (nat_cmp k.id first)) e))
    by same Equal e =
        let ours : table ≡ k.table = sym (table_cmp-is k.table table e) in
        above_in first count k.id q.id
        (λ h. on (ap (λ o. ordering_then o (nat_cmp k.id first)) e ∙ h))
        (sym (ap (λ b. b && is_from first count k.id) (subst (λ t. same_table table t ≡ true) ours (same_table-refl table))) ∙ off)
        (sym (ap (λ o. ordering_then o (nat_cmp k.id q.id)) (subst (λ t. table_cmp k.table t ≡ Equal) same e)) ∙ less)
    by same Greater e =
        let greater : table_cmp k.table q.table ≡ Greater = ap (table_cmp k.table) (sym same) ∙ e in
        let turned : Greater ≡ Less = sym (ap (λ o. ordering_then o (nat_cmp k.id q.id)) greater) ∙ less in
        cc

-- all regions stand together
not_below : (bytes : List ℕ) → bytes_cmp bytes [] ≢ Less
not_below [] e = cc
not_below (b ∷ bytes) e = cc

all_below : (k : CatKey) → key_cmp k (key_is.Region first_region) ≡ Less → is_region k ≡ false
all_below (key_is.Ns ns) e = refl
all_below (key_is.Table table) e = refl
all_below (key_is.Region region) e = by (bytes_cmp region.table.ns []) refl (bytes_cmp region.table.qualifier []) refl e
  where
    by : (o : Ordering) → bytes_cmp region.table.ns [] ≡ o → (u : Ordering) → bytes_cmp region.table.qualifier [] ≡ u
        → ordering_then (ordering_then o u) (nat_cmp region.id 0) ≡ Less → true ≡ false
    by Less is u same less = absurd (not_below region.table.ns is)
    by Greater is u same less = cc
    by Equal is Less same less = absurd (not_below region.table.qualifier same)
    by Equal is Greater same less = cc
    by Equal is Equal same less = let lower = ranked region.id 0 Less (sym less) in absurd (omega (arith, lower))

all_gap : (k q : CatKey) → key_cmp k (key_is.Region first_region) ≢ Less → is_region k ≡ false → key_cmp k q ≡ Less → is_region q ≡ false
all_gap (key_is.Ns ns) q on off less = absurd (on refl)
all_gap (key_is.Table table) q on off less = absurd (on refl)
all_gap (key_is.Region region) q on off less = cc

module _ (cmp : CatKey → CatKey → Ordering) (alike : cmp ≡ key_cmp) where
  -- the rows of keys that stand together
  pub span_by : (span : Span) (pairs shown : Pairs) (low : CatKey) → AreInOrder (keys_kept pairs) → low ≡ low_of span → shown ≡ pairs_from cmp pairs low → rows_ahead (in_span span) shown ≡ rows_of (in_span span) (present pairs)
  span_by span pairs shown low order low_is is_shown =
      ap (rows_ahead (in_span span)) (is_shown ∙ ap (λ o. pairs_from o pairs low) alike ∙ ap (pairs_from key_cmp pairs) low_is) ∙ by span
    where
      by : (s : Span) → rows_ahead (in_span s) (pairs_from key_cmp pairs (low_of s)) ≡ rows_of (in_span s) (present pairs)
      by (span_is.Tables ns) = rows_from (in_span (span_is.Tables ns)) (low_of (span_is.Tables ns)) (table_below ns.now) (table_gap ns.now) pairs order
      by (span_is.Regions table) = rows_from (in_span (span_is.Regions table)) (low_of (span_is.Regions table)) (region_below table.now) (region_gap table.now) pairs order
      by span_is.AllRegions = rows_from (in_span span_is.AllRegions) (low_of span_is.AllRegions) all_below all_gap pairs order
      by (span_is.Numbers table first count) = rows_from (in_span (span_is.Numbers table first count)) (low_of (span_is.Numbers table first count)) (number_below table.now first count) (number_gap table.now first count) pairs order

-- whether a row's key passes, by the first of the rows whose keys do
module _ (test : CatKey → Bool) where
  none_pass : (rows : Rows) → rows_of test rows ≡ [] → list_any (λ r. test r.0) rows ≡ false
  none_pass [] e = refl
  none_pass ((k, row) ∷ more) e = elim (cases_Bool (test k)) [
    | inl passes ↦ let some : ((k, row) ∷ rows_of test more) ≡ [] = sym (cond-true (test k) ((k, row) ∷ rows_of test more) (rows_of test more) passes) ∙ e in cc
    | inr off ↦ ap (λ b. b || list_any (λ r. test r.0) more) off ∙ none_pass more (sym (cond-false (test k) ((k, row) ∷ rows_of test more) (rows_of test more) off) ∙ e)
  ]

  one_passes : (first : CatKey × CatRow) (rows rest : Rows) → rows_of test rows ≡ first ∷ rest → list_any (λ r. test r.0) rows ≡ true
  one_passes first [] rest e = cc
  one_passes first ((k, row) ∷ more) rest e = elim (cases_Bool (test k)) [
    | inl passes ↦ ap (λ b. b || list_any (λ r. test r.0) more) passes
    | inr off ↦ ap (λ b. b || list_any (λ r. test r.0) more) off ∙ one_passes first more rest (sym (cond-false (test k) ((k, row) ∷ rows_of test more) (rows_of test more) off) ∙ e)
  ]

  pub any_by : (rows shown rest : Rows) (first : Option (Bor CatKey × Bor CatRow))
      → MatchOption first ((shown ≡ []) × (rest ≡ [])) (λ x. shown ≡ (x.0.now, x.1.now) ∷ rest) → shown ≡ rows_of test rows → is_some first ≡ list_any (λ r. test r.0) rows
  any_by rows shown rest None left is_shown = sym (none_pass rows (sym is_shown ∙ left.0))
  any_by rows shown rest (Some x) left is_shown = sym (one_passes (x.0.now, x.1.now) rows rest (sym is_shown ∙ left))

-- the rows of a table's regions are those of all its regions
pub regions_found : (table : TableName) (rows : Rows) → regions_in (rows_of (is_region_of table) rows) ≡ all_among table rows
regions_found table [] = refl
regions_found table ((key_is.Ns ns, row) ∷ more) = regions_found table more
regions_found table ((key_is.Table other, row) ∷ more) = regions_found table more
regions_found table ((key_is.Region region, row) ∷ more) = by (same_table table region.table) (regions_found table more)
  where
    by : (b : Bool) → regions_in (rows_of (is_region_of table) more) ≡ all_among table more
        → regions_in (if b then ((key_is.Region region, row) ∷ rows_of (is_region_of table) more) else rows_of (is_region_of table) more) ≡ (if b && true then (region ∷ all_among table more) else all_among table more)
    by true rest = ap (λ l. region ∷ l) rest
    by false rest = rest
