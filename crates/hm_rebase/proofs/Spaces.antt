-- By the deeds the namespace of each table is there.
use Rattle.std.proofs.Common.{◌≡◌, ◌≢◌, ℕ, ◌+◌, List, [], ◌∷◌, ◌++◌, Bool, true, false, cond, ◌||◌, Option, Some, None, refl, ap, sym, ◌∙◌, subst, inl, inr, ◌⊎◌, bytes_eq, arith}
use Rattle.std.specs.Option.{option_map}
use Rattle.std.proofs.lemmas.Bool.{true≢false}
use Rattle.std.proofs.lemmas.Option.{none-some}
use Rattle.hm_names.specs.Region.{Region}
use Rattle.hm_names.specs.declared.range.KeyRange.{KeyRange}
use Rattle.hm_names.specs.declared.table.TableName.{TableName}
use Rattle.hm_data.specs.declared.answer.Answer.{Answer}
use Rattle.hm_data.specs.declared.answer.Answer.TheVariants as answer_is
use Rattle.hm_data.specs.declared.answer.Cause.{Cause}
use Rattle.hm_data.specs.declared.catalog.CatKey.{CatKey}
use Rattle.hm_data.specs.declared.catalog.CatKey.TheVariants as key_is
use Rattle.hm_data.specs.declared.catalog.CatRow.{CatRow}
use Rattle.hm_data.specs.declared.catalog.CatRow.TheVariants as row_is
use Rattle.hm_data.specs.declared.catalog.Edit.{Edit}
use Rattle.hm_data.specs.declared.catalog.TableState.{TableState}
use Rattle.hm_data.specs.declared.catalog.TableState.TheVariants as state_is
use Rattle.hm_data.specs.declared.entry.Entry.TheVariants as entry_is
use Rattle.hm_data.specs.declared.part.Part.{Part}
use Rattle.hm_data.specs.declared.part.Part.TheVariants as part_is
use Rattle.hm_data.specs.declared.request.Request.{Request}
use Rattle.hm_data.specs.declared.request.Request.TheVariants as request_is
use Rattle.hm_model.specs.declared.merged.Merged.{Merged}
use Rattle.hm_model.specs.Base.{PartFits}
use Rattle.hm_model.specs.Catalog.{Catalog, at_start, cat, edited, keep, keys_of, rows_at, set_to}
use Rattle.hm_model.specs.Changes.{add_merged, add_ranges, changed, mark_merged, merge_edits, merged_of, remove_regions, split_edits, split_range}
use Rattle.hm_model.specs.Checks.{by_start, can_split, namespace_empty, namespace_free, namespace_there, parts_of, region_ready, table_absent, table_disabled, table_enabled, table_free}
use Rattle.hm_model.specs.Deeds.{Deed, cause_of_merge, deed, deed_if, regions_of, rows_in_ns, unless}
use Rattle.hm_model.specs.Journal.{Past}
use Rattle.hm_model.specs.Keys.{same_key}
use Rattle.hm_model.specs.Kinds.{table_of_first}
use Rattle.hm_model.specs.Locks.{IsIn, in_name_order}
use Rattle.hm_model.specs.NamespaceActs.{has_table}
use Rattle.hm_model.specs.Parts.{part_row, table_row}
use Rattle.hm_model.specs.Pieces.{ranges_between}
use Rattle.hm_model.specs.RowsSaid.{in_state, in_version, range_in}
use Rattle.hm_model.specs.Reads.{is_ns_or_table_in}
use Rattle.hm_model.specs.Rules.{IsLegal}
use Rattle.hm_model.specs.Serial.{at_end, edits_in, ended_deed, if_root, serial}
use Rattle.hm_model.specs.Tree.{Node, node_of}
use Rattle.hm_model.specs.Views.{Asked, asked_of}
use Rattle.hm_model.proofs.KeyTests.{bytes_eq-is, bytes_eq-refl, cases_key}
use Rattle.hm_model.proofs.Parted.{no_half, no_node}
use Rattle.hm_model.proofs.Answered.{or_none}
use Rattle.hm_serial.proofs.Serial.{catalog_is}
use Rattle.hm_model.specs.RowsSaid.{is_table_in}
use Rattle.hm_cover.proofs.SerialWhole.{whole_all}

abbrev pub HasSpaces : Catalog → Type 0
HasSpaces there = (t : TableName) → there (key_is.Table t) ≢ None → there (key_is.Ns t.ns) ≢ None

-- an edit removes no namespace, and gives a row to no table without one
abbrev IsSafe : Catalog → CatKey → Option CatRow → Type 0
IsSafe there (key_is.Ns ns) after = after ≢ None
IsSafe there (key_is.Table t) after = after ≢ None → there (key_is.Ns t.ns) ≢ None
IsSafe there (key_is.Region region) after = Unit {0}

abbrev AreSafe : Catalog → List Edit → Type 0
AreSafe there [] = Unit {0}
AreSafe there (edit ∷ edits) = IsSafe there edit.key edit.after × AreSafe there edits

both : (there : Catalog) (xs ys : List Edit) → AreSafe there xs → AreSafe there ys → AreSafe there (xs ++ ys)
both there [] ys a b = b
both there (x ∷ xs) ys a b = (a.0, both there xs ys a.1 b)

spaced : (there : Catalog) (ns : List ℕ) (edits : List Edit) → AreSafe there edits → (row : Option CatRow) → row ≢ None → edited edits (key_is.Ns ns) row ≢ None
spaced there ns [] safe row some = some
spaced there ns (edit ∷ edits) safe row some = spaced there ns edits safe.1 (cond (same_key (key_is.Ns ns) edit.key) edit.after row) (elim (cases_key (key_is.Ns ns) edit.key) [
  | inl same ↦ subst (λ b. cond b edit.after row ≢ None) (sym same.0) (subst (λ k. IsSafe there k edit.after) (sym same.1) safe.0)
  | inr differs ↦ subst (λ b. cond b edit.after row ≢ None) (sym differs.0) some
])

tabled : (there : Catalog) (t : TableName) (edits : List Edit) → AreSafe there edits → (row : Option CatRow) → (row ≢ None → there (key_is.Ns t.ns) ≢ None) → edited edits (key_is.Table t) row ≢ None → there (key_is.Ns t.ns) ≢ None
tabled there t [] safe row has some = has some
tabled there t (edit ∷ edits) safe row has some = tabled there t edits safe.1 (cond (same_key (key_is.Table t) edit.key) edit.after row) (elim (cases_key (key_is.Table t) edit.key) [
  | inl same ↦ subst (λ b. cond b edit.after row ≢ None → there (key_is.Ns t.ns) ≢ None) (sym same.0) (subst (λ k. IsSafe there k edit.after) (sym same.1) safe.0)
  | inr differs ↦ subst (λ b. cond b edit.after row ≢ None → there (key_is.Ns t.ns) ≢ None) (sym differs.0) has
]) some

some_from : (f : CatRow → CatRow) (o : Option CatRow) → option_map f o ≢ None → o ≢ None
some_from f None some = some
some_from f (Some row) some = λ e. none-some row (sym e)

there_is : (o : Option CatRow) → namespace_there o ≡ None → o ≢ None
there_is None e = λ none. absurd (none-some _ (sym e))
there_is (Some row) e = λ none. none-some row (sym none)

untabled : (b : Bool) (cause : Cause) → cond b (Some cause) None ≡ None → b ≡ false
untabled true cause e = absurd (none-some cause (sym e))
untabled false cause e = refl

kept : (ns : List ℕ) (asked : Bool) (key : CatKey) (row : Option CatRow) (more : List (CatKey × CatRow)) → has_table ns more ≡ true → has_table ns (keep asked key row more) ≡ true
kept ns false key row more on = on
kept ns true key None more on = on
kept ns true key (Some row) more on = by (is_table_in ns key)
  where
    by : (b : Bool) → (b || has_table ns more) ≡ true
    by true = refl
    by false = on

-- a table that is there is found in its namespace
found : (there : Catalog) (ns : List ℕ) (t : TableName) → bytes_eq ns t.ns ≡ true → there (key_is.Table t) ≢ None → (keys : List CatKey) → IsIn (key_is.Table t) keys → has_table ns (rows_at (is_ns_or_table_in ns) there keys) ≡ true
found there ns t own some [] among = elim among [ ]
found there ns t own some (key ∷ keys) (inr later) = kept ns (is_ns_or_table_in ns key) key (there key) (rows_at (is_ns_or_table_in ns) there keys) (found there ns t own some keys later)
found there ns t own some (key ∷ keys) (inl here) =
    subst (λ k. has_table ns (keep (is_ns_or_table_in ns k) k (there k) (rows_at (is_ns_or_table_in ns) there keys)) ≡ true) here
    (subst (λ b. has_table ns (keep b (key_is.Table t) (there (key_is.Table t)) (rows_at (is_ns_or_table_in ns) there keys)) ≡ true) (sym own) (by (there (key_is.Table t)) some))
  where
    by : (o : Option CatRow) → o ≢ None → has_table ns (keep true (key_is.Table t) o (rows_at (is_ns_or_table_in ns) there keys)) ≡ true
    by None h = absurd (h refl)
    by (Some row) h = ap (λ b. b || has_table ns (rows_at (is_ns_or_table_in ns) there keys)) own

module _ (there : Catalog) (has : HasSpaces there) where
  abbrev Then : List Edit → Catalog
  Then edits key = edited edits key (there key)

  keeps : (edits : List Edit) → AreSafe there edits → HasSpaces (Then edits)
  keeps edits safe t some = spaced there t.ns edits safe (there (key_is.Ns t.ns)) (tabled there t edits safe (there (key_is.Table t)) (has t) some)

  if_none : (cause : Option Cause) (edits : List Edit) → (cause ≡ None → AreSafe there edits) → HasSpaces (Then (edits_in (unless cause edits)))
  if_none None edits safe = keeps edits (safe refl)
  if_none (Some cause) edits safe = has

  ranges : (table : TableName) (first : ℕ) (list : List KeyRange) → AreSafe there (add_ranges there table first list)
  ranges table first [] = tt
  ranges table first (range ∷ list) = (tt, ranges table (first + 1) list)

  removed : (list : List Region) → AreSafe there (remove_regions there list)
  removed [] = tt
  removed (region ∷ list) = (tt, removed list)

  split : (region : Region) (key : List ℕ) (first : ℕ) (range : Option KeyRange) → AreSafe there (split_range there region key first range)
  split region key first None = tt
  split region key first (Some range) = (tt, (tt, (tt, tt)))

  marks : (list : List Region) → AreSafe there (mark_merged there list)
  marks [] = tt
  marks (region ∷ list) = (tt, marks list)

  one : (table : TableName) (first : ℕ) (parts : List Merged) → AreSafe there (merged_of there table first parts)
  one table first [] = tt
  one table first (part ∷ more) = (tt, tt)

  merged : (first : ℕ) (list regions : List Region) → AreSafe there (add_merged there first list regions)
  merged first [] regions = tt
  merged first (region ∷ more) regions = one region.table first (by_start (parts_of there regions))

  dropped : (ns : List ℕ) (keys : List CatKey) → ((key : CatKey) → there key ≢ None → IsIn key keys) → has_table ns (rows_in_ns ns keys there) ≡ false → HasSpaces (Then (set_to there (key_is.Ns ns) None ∷ []))
  dropped ns keys listed empty t some = by (bytes_eq t.ns ns) refl
    where
      by : (b : Bool) → bytes_eq t.ns ns ≡ b → cond b None (there (key_is.Ns t.ns)) ≢ None
      by false e = has t some
      by true e =
          let same : bytes_eq ns t.ns ≡ true = ap (bytes_eq ns) (bytes_eq-is t.ns ns e) ∙ bytes_eq-refl ns in
          absurd (true≢false (sym (found there ns t same some keys (listed (key_is.Table t) some)) ∙ empty))

  drop_if : (ns : List ℕ) (keys : List CatKey) → ((key : CatKey) → there key ≢ None → IsIn key keys) → (cause : Option Cause) → namespace_empty (there (key_is.Ns ns)) (has_table ns (rows_in_ns ns keys there)) ≡ cause → HasSpaces (Then (edits_in (unless cause (set_to there (key_is.Ns ns) None ∷ []))))
  drop_if ns keys listed None e = dropped ns keys listed (untabled (has_table ns (rows_in_ns ns keys there)) _ (or_none (namespace_there (there (key_is.Ns ns))) _ e).1)
  drop_if ns keys listed (Some cause) e = has

  of_request : (request : Request) (first : ℕ) (keys : List CatKey) → ((key : CatKey) → there key ≢ None → IsIn key keys) → HasSpaces (Then (edits_in (deed request first keys there)))
  of_request (request_is.CreateNamespace ns) first keys listed = if_none (namespace_free (there (key_is.Ns ns))) _ (λ e. ((λ none. none-some _ (sym none)), tt))
  of_request (request_is.DropNamespace ns) first keys listed = drop_if ns keys listed (namespace_empty (there (key_is.Ns ns)) (has_table ns (rows_in_ns ns keys there))) refl
  of_request (request_is.CreateTable table bounds) first keys listed =
      if_none (table_free (there (key_is.Ns table.ns)) (there (key_is.Table table))) _ (λ e.
      ((λ some. there_is (there (key_is.Ns table.ns)) (or_none (namespace_there (there (key_is.Ns table.ns))) (table_absent (there (key_is.Table table))) e).0), ranges table first (ranges_between ([] ∷ bounds ++ [] ∷ []))))
  of_request (request_is.DeleteTable table) first keys listed =
      if_none (table_disabled (there (key_is.Table table))) _ (λ e. ((λ some. absurd (some refl)), removed (regions_of table keys there)))
  of_request (request_is.EnableTable table) first keys listed =
      if_none (table_disabled (there (key_is.Table table))) (changed there (key_is.Table table) (in_state state_is.Enabled) ∷ []) (λ e. ((λ some. has table (some_from (in_state state_is.Enabled) (there (key_is.Table table)) some)), tt))
  of_request (request_is.DisableTable table) first keys listed =
      if_none (table_enabled (there (key_is.Table table))) (changed there (key_is.Table table) (in_state state_is.Disabled) ∷ []) (λ e. ((λ some. has table (some_from (in_state state_is.Disabled) (there (key_is.Table table)) some)), tt))
  of_request (request_is.ModifyTable table version) first keys listed =
      if_none (table_disabled (there (key_is.Table table))) (changed there (key_is.Table table) (in_version version) ∷ []) (λ e. ((λ some. has table (some_from (in_version version) (there (key_is.Table table)) some)), tt))
  of_request (request_is.SplitRegion region key) first keys listed =
      if_none (can_split (there (key_is.Table region.table)) (there (key_is.Region region)) key) (split_edits there region key first) (λ e. split region key first (range_in (there (key_is.Region region))))
  of_request (request_is.MergeRegions regions) first keys listed =
      if_none (cause_of_merge (table_of_first regions) there regions) (merge_edits there regions first) (λ e.
      both there (mark_merged there (in_name_order regions)) (add_merged there first regions regions) (marks (in_name_order regions)) (merged first regions regions))
  of_request (request_is.Move region to) first keys listed = if_none (region_ready (there (key_is.Table region.table)) (there (key_is.Region region))) [] (λ e. tt)

  of_asked : (asked : Option Asked) (keys : List CatKey) → ((key : CatKey) → there key ≢ None → IsIn key keys) → HasSpaces (Then (edits_in (deed_if asked keys there)))
  of_asked None keys listed = has
  of_asked (Some asked) keys listed = of_request asked.request asked.first keys listed

  of_answer : (answer : Answer) (whole : Deed) → HasSpaces (Then (edits_in whole)) → HasSpaces (Then (edits_in (at_end answer whole)))
  of_answer (answer_is.Done told) whole is = is
  of_answer answer whole is = has

  of_root : (above : List ℕ) (whole : Deed) → HasSpaces (Then (edits_in whole)) → HasSpaces (Then (edits_in (if_root above whole)))
  of_root [] whole is = is
  of_root (up ∷ above) whole is = has

  of_step : (node : Option Node) (answer : Answer) (keys : List CatKey) → ((key : CatKey) → there key ≢ None → IsIn key keys) → HasSpaces (Then (edits_in (ended_deed node answer keys there)))
  of_step None answer keys listed = has
  of_step (Some node) answer keys listed = of_root node.above _ (of_answer answer _ (of_asked (asked_of node.args) keys listed))

-- the namespace of a key
abbrev space : CatKey → List ℕ
space (key_is.Ns ns) = ns
space (key_is.Table u) = u.ns
space (key_is.Region region) = []

-- a part of a base
table_part : (part : Part) (J : Past) → PartFits part J → (there : Catalog) → ((key : CatKey) → cat J key ≡ there key) → HasSpaces there → HasSpaces (λ key. part_row part key (there key))
table_part (part_is.Head entries last parts sheets) J fits there same has = λ t some. absurd (some refl)
table_part (part_is.Namespace ns) J fits there same has = λ t some. by t (bytes_eq t.ns ns) some
  where
    by : (t : TableName) (b : Bool) → there (key_is.Table t) ≢ None → cond b (Some row_is.Ns) (there (key_is.Ns t.ns)) ≢ None
    by t true some = λ e. none-some _ (sym e)
    by t false some = has t some
table_part (part_is.Table table own state) J fits there same has = λ t some. elim (cases_key (key_is.Table t) (key_is.Table table)) [
  | inl here ↦ by t state fits.2 (ap (λ k. there (key_is.Ns (space k))) here.1) (subst (λ b. cond b (table_row state) (there (key_is.Table t)) ≢ None) here.0 some)
  | inr differs ↦ has t (subst (λ b. cond b (table_row state) (there (key_is.Table t)) ≢ None) differs.0 some)
]
  where
    by : (t : TableName) (o : Option (TableState × ℕ)) → ((b : TableState × ℕ) → o ≡ Some b → (cat J (key_is.Ns table.ns) ≡ None → ⊥) × ((b.0 ≡ state_is.Enabled) ⊎ (b.0 ≡ state_is.Disabled))) → there (key_is.Ns (space (key_is.Table t))) ≡ there (key_is.Ns (space (key_is.Table table))) → table_row o ≢ None → there (key_is.Ns t.ns) ≢ None
    by t None fine one h = absurd (h refl)
    by t (Some b) fine one h = λ e. (fine b refl).0 (same (key_is.Ns table.ns) ∙ sym one ∙ e)
table_part part J fits there same has = has

start_spaces : HasSpaces at_start
start_spaces t some = absurd (some refl)

-- the namespace of each table is there
pub has_spaces : (J : Past) → IsLegal J → HasSpaces (serial J)
has_spaces [] legal = start_spaces
has_spaces (entry_is.Step pid pick out ∷ J) legal =
    let whole = whole_all 4097 (omega arith) J legal.0 (no_half J legal.1.0) in
    of_step (serial J) (has_spaces J legal.0) (node_of J pid.0) out.answer (keys_of J) whole.listed
has_spaces (entry_is.Base part ∷ J) legal =
    table_part part J legal.1.0 (serial J) (λ key. catalog_is J legal.0 key (λ busy. none-some busy.1 (sym (no_node part J legal.1.0 busy.0) ∙ busy.2))) (has_spaces J legal.0)
has_spaces (entry ∷ J) legal = has_spaces J legal.0
