-- By the deeds each row is of its key: tables are enabled or disabled, and regions have ten parents at most.
use Rattle.std.proofs.Common.{◌≡◌, ℕ, ◌+◌, ◌≤◌, List, [], ◌∷◌, ◌++◌, length, Bool, true, false, cond, Option, Some, None, refl, sym, subst, inl, inr, ◌⊎◌, bytes_eq, if◌then◌else◌, codes, ◌||◌, arith}
use Rattle.std.specs.Option.{option_map}
use Rattle.std.specs.Ordering.{is_le}
use Rattle.std.proofs.Math.ListN.{length-map}
use Rattle.hm_names.specs.Order.{bytes_cmp}
use Rattle.hm_names.specs.Region.{Region}
use Rattle.hm_names.specs.declared.range.KeyRange.{KeyRange}
use Rattle.hm_names.specs.declared.table.TableName.{TableName}
use Rattle.hm_data.specs.declared.answer.Answer.{Answer}
use Rattle.hm_data.specs.declared.answer.Answer.TheVariants as answer_is
use Rattle.hm_data.specs.declared.answer.Cause.{Cause}
use Rattle.hm_data.specs.declared.catalog.CatKey.{CatKey}
use Rattle.hm_data.specs.declared.catalog.CatKey.TheVariants as key_is
use Rattle.hm_data.specs.declared.catalog.CatRow.{CatRow}
use Rattle.hm_data.specs.declared.catalog.CatRow.TheVariants as row_is
use Rattle.hm_data.specs.declared.catalog.Edit.{Edit}
use Rattle.hm_data.specs.declared.catalog.Status.{Status}
use Rattle.hm_data.specs.declared.catalog.TableState.{TableState}
use Rattle.hm_data.specs.declared.catalog.TableState.TheVariants as state_is
use Rattle.hm_data.specs.declared.entry.Entry.TheVariants as entry_is
use Rattle.hm_data.specs.declared.part.Part.{Part}
use Rattle.hm_data.specs.declared.part.Part.TheVariants as part_is
use Rattle.hm_data.specs.declared.request.Request.{Request}
use Rattle.hm_data.specs.declared.request.Request.TheVariants as request_is
use Rattle.hm_model.specs.declared.merged.Merged.{Merged}
use Rattle.hm_model.specs.Base.{PartFits}
use Rattle.hm_model.specs.Catalog.{Catalog, at_start, cat, edited, keys_of, set_to}
use Rattle.hm_model.specs.Changes.{add_merged, add_ranges, changed, mark_merged, merge_edits, merged_of, remove_regions, split_edits, split_range}
use Rattle.hm_model.specs.Checks.{by_start, can_split, keep_part, namespace_empty, namespace_free, parts_of, region_ready, table_disabled, table_enabled, table_free, with_part}
use Rattle.hm_model.specs.Deeds.{Deed, cause_of_merge, deed, deed_if, regions_of, rows_in_ns, unless}
use Rattle.hm_model.specs.Journal.{Past}
use Rattle.hm_model.specs.Keys.{same_key}
use Rattle.hm_model.specs.Kinds.{table_of_first}
use Rattle.hm_model.specs.Locks.{in_name_order}
use Rattle.hm_model.specs.NamespaceActs.{has_table}
use Rattle.hm_model.specs.Parts.{part_row, table_row}
use Rattle.hm_model.specs.Pieces.{ranges_between}
use Rattle.hm_model.specs.Requests.{wrong_in}
use Rattle.hm_model.specs.RowsSaid.{in_state, in_status, in_version, range_in}
use Rattle.hm_model.specs.Rules.{IsLegal}
use Rattle.hm_model.specs.Serial.{at_end, edits_in, ended_deed, if_root, serial}
use Rattle.hm_model.specs.Tree.{Node, node_of}
use Rattle.hm_model.specs.Views.{Asked, asked_of}
use Rattle.hm_model.proofs.KeyTests.{cases_key}
use Rattle.hm_model.proofs.Parted.{no_half}
use Rattle.hm_model.proofs.Siblings.{merge_is}
use Rattle.hm_cover.proofs.SerialWhole.{whole_all}

-- a state between which and others nothing is under way
abbrev pub IsSteady : TableState → Type 0
IsSteady state = (state ≡ state_is.Enabled) ⊎ (state ≡ state_is.Disabled)

-- a row that a key may have where nothing is unfinished
abbrev pub IsFineRow : CatKey → Option CatRow → Type 0
IsFineRow key None = Unit {0}
IsFineRow (key_is.Ns ns) (Some row_is.Ns) = Unit {0}
IsFineRow (key_is.Table table) (Some (row_is.Table state version)) = IsSteady state
IsFineRow (key_is.Region region) (Some (row_is.Region range status parents)) = length parents ≤ 10
IsFineRow key row = ⊥

abbrev AreFine : List Edit → Type 0
AreFine [] = Unit {0}
AreFine (edit ∷ edits) = IsFineRow edit.key edit.after × AreFine edits

both : (xs ys : List Edit) → AreFine xs → AreFine ys → AreFine (xs ++ ys)
both [] ys a b = b
both (x ∷ xs) ys a b = (a.0, both xs ys a.1 b)

-- a row that is changed where the key is the same
changed_fine : (key own : CatKey) (after row : Option CatRow) → IsFineRow own after → IsFineRow key row → IsFineRow key (cond (same_key key own) after row)
changed_fine key own after row fine was = elim (cases_key key own) [
  | inl same ↦ subst (λ b. IsFineRow key (cond b after row)) (sym same.0) (subst (λ k. IsFineRow k after) (sym same.1) fine)
  | inr differs ↦ subst (λ b. IsFineRow key (cond b after row)) (sym differs.0) was
]

row_after : (edits : List Edit) → AreFine edits → (key : CatKey) (row : Option CatRow) → IsFineRow key row → IsFineRow key (edited edits key row)
row_after [] all key row before = before
row_after (edit ∷ edits) all key row before = row_after edits all.1 key (cond (same_key key edit.key) edit.after row) (changed_fine key edit.key edit.after row all.0 before)

-- what changes a row
stated : (state : TableState) → IsSteady state → (table : TableName) (row : Option CatRow) → IsFineRow (key_is.Table table) row → IsFineRow (key_is.Table table) (option_map (in_state state) row)
stated state is table None fine = tt
stated state is table (Some row_is.Ns) fine = absurd fine
stated state is table (Some (row_is.Table was version)) fine = is
stated state is table (Some (row_is.Region range status parents)) fine = absurd fine

versioned : (version : ℕ) (table : TableName) (row : Option CatRow) → IsFineRow (key_is.Table table) row → IsFineRow (key_is.Table table) (option_map (in_version version) row)
versioned version table None is = tt
versioned version table (Some row_is.Ns) is = absurd is
versioned version table (Some (row_is.Table state was)) is = is
versioned version table (Some (row_is.Region range status parents)) is = absurd is

marked : (status : Status) (region : Region) (row : Option CatRow) → IsFineRow (key_is.Region region) row → IsFineRow (key_is.Region region) (option_map (in_status status) row)
marked status region None is = tt
marked status region (Some row_is.Ns) is = absurd is
marked status region (Some (row_is.Table state version)) is = absurd is
marked status region (Some (row_is.Region range was parents)) is = is

-- a merged region has as many parents as there were
with_length : (part : Merged) (more : List Merged) → length (with_part part more) ≡ length more + 1
with_length part [] = refl
with_length part (first ∷ more) = by (is_le (bytes_cmp part.range.start first.range.start)) (with_length part more)
  where
    by : (b : Bool) → length (with_part part more) ≡ length more + 1 → length (cond b (part ∷ first ∷ more) (first ∷ with_part part more)) ≡ length (first ∷ more) + 1
    by true on = omega arith
    by false on = omega (arith, on)

start_length : (parts : List Merged) → length (by_start parts) ≡ length parts
start_length [] = refl
start_length (part ∷ more) = let on = start_length more in let one = with_length part (by_start more) in omega (arith, on, one)

parts_length : (there : Catalog) (regions : List Region) → length (parts_of there regions) ≤ length regions
parts_length there [] = omega arith
parts_length there (region ∷ more) = by (range_in (there (key_is.Region region))) (parts_length there more)
  where
    by : (o : Option KeyRange) → length (parts_of there more) ≤ length more → length (keep_part region.id o (parts_of there more)) ≤ length (region ∷ more)
    by None on = omega (arith, on)
    by (Some range) on = omega (arith, on)

module _ (there : Catalog) (all : (key : CatKey) → IsFineRow key (there key)) where
  ranges : (table : TableName) (first : ℕ) (list : List KeyRange) → AreFine (add_ranges there table first list)
  ranges table first [] = tt
  ranges table first (range ∷ list) = (omega arith, ranges table (first + 1) list)

  removed : (list : List Region) → AreFine (remove_regions there list)
  removed [] = tt
  removed (region ∷ list) = (tt, removed list)

  split : (region : Region) (key : List ℕ) (first : ℕ) (range : Option KeyRange) → AreFine (split_range there region key first range)
  split region key first None = tt
  split region key first (Some range) = (marked _ region (there (key_is.Region region)) (all (key_is.Region region)), (omega arith, (omega arith, tt)))

  marks : (list : List Region) → AreFine (mark_merged there list)
  marks [] = tt
  marks (region ∷ list) = (marked _ region (there (key_is.Region region)) (all (key_is.Region region)), marks list)

  one : (table : TableName) (first : ℕ) (parts : List Merged) → length parts ≤ 10 → AreFine (merged_of there table first parts)
  one table first [] few = tt
  one table first (part ∷ more) few = (let size = length-map (part ∷ more) (λ (p : Merged). p.id) in omega (arith, few, size), tt)

  merged : (first : ℕ) (list regions : List Region) → length regions ≤ 10 → AreFine (add_merged there first list regions)
  merged first [] regions few = tt
  merged first (region ∷ more) regions few =
      let start = start_length (parts_of there regions) in
      let parts = parts_length there regions in
      one region.table first (by_start (parts_of there regions)) (omega (arith, few, start, parts))

  if_none : (cause : Option Cause) (edits : List Edit) → AreFine edits → AreFine (edits_in (unless cause edits))
  if_none None edits is = is
  if_none (Some cause) edits is = tt

  more_edits : (cause : Option Cause) (edit : Edit) (edits : List Edit) → IsFineRow edit.key edit.after → AreFine edits → AreFine (edits_in (unless cause (edit ∷ edits)))
  more_edits cause edit edits is fine = if_none cause (edit ∷ edits) (is, fine)

  one_edit : (cause : Option Cause) (edit : Edit) → IsFineRow edit.key edit.after → AreFine (edits_in (unless cause (edit ∷ [])))
  one_edit cause edit is = if_none cause (edit ∷ []) (is, tt)

  of_request : (request : Request) (first : ℕ) (keys : List CatKey) → wrong_in request ≡ None → AreFine (edits_in (deed request first keys there))
  of_request (request_is.CreateNamespace ns) first keys fine = one_edit (namespace_free (there (key_is.Ns ns))) (set_to there (key_is.Ns ns) (Some row_is.Ns)) tt
  of_request (request_is.DropNamespace ns) first keys fine = one_edit (namespace_empty (there (key_is.Ns ns)) (has_table ns (rows_in_ns ns keys there))) (set_to there (key_is.Ns ns) None) tt
  of_request (request_is.CreateTable table bounds) first keys fine =
      let list = ranges_between ([] ∷ bounds ++ [] ∷ []) in
      more_edits (table_free (there (key_is.Ns table.ns)) (there (key_is.Table table))) (set_to there (key_is.Table table) (Some (row_is.Table state_is.Enabled 1))) (add_ranges there table first list) (inl refl) (ranges table first list)
  of_request (request_is.DeleteTable table) first keys fine =
      more_edits (table_disabled (there (key_is.Table table))) (set_to there (key_is.Table table) None) (remove_regions there (regions_of table keys there)) tt (removed (regions_of table keys there))
  of_request (request_is.EnableTable table) first keys fine =
      one_edit (table_disabled (there (key_is.Table table))) (changed there (key_is.Table table) (in_state state_is.Enabled)) (stated state_is.Enabled (inl refl) table (there (key_is.Table table)) (all (key_is.Table table)))
  of_request (request_is.DisableTable table) first keys fine =
      one_edit (table_enabled (there (key_is.Table table))) (changed there (key_is.Table table) (in_state state_is.Disabled)) (stated state_is.Disabled (inr refl) table (there (key_is.Table table)) (all (key_is.Table table)))
  of_request (request_is.ModifyTable table version) first keys fine =
      one_edit (table_disabled (there (key_is.Table table))) (changed there (key_is.Table table) (in_version version)) (versioned version table (there (key_is.Table table)) (all (key_is.Table table)))
  of_request (request_is.SplitRegion region key) first keys fine =
      if_none (can_split (there (key_is.Table region.table)) (there (key_is.Region region)) key) (split_edits there region key first) (split region key first (range_in (there (key_is.Region region))))
  of_request (request_is.MergeRegions regions) first keys fine =
      if_none (cause_of_merge (table_of_first regions) there regions) (merge_edits there regions first)
      (both (mark_merged there (in_name_order regions)) (add_merged there first regions regions) (marks (in_name_order regions)) (merged first regions regions (merge_is regions fine).few))
  of_request (request_is.Move region to) first keys fine = if_none (region_ready (there (key_is.Table region.table)) (there (key_is.Region region))) [] tt

  of_asked : (asked : Option Asked) (keys : List CatKey) → ((a : Asked) → asked ≡ Some a → wrong_in a.request ≡ None) → AreFine (edits_in (deed_if asked keys there))
  of_asked None keys sound = tt
  of_asked (Some asked) keys sound = of_request asked.request asked.first keys (sound asked refl)

  of_answer : (answer : Answer) (whole : Deed) → AreFine (edits_in whole) → AreFine (edits_in (at_end answer whole))
  of_answer (answer_is.Done told) whole is = is
  of_answer answer whole is = tt

  of_root : (above : List ℕ) (whole : Deed) → AreFine (edits_in whole) → AreFine (edits_in (if_root above whole))
  of_root [] whole is = is
  of_root (up ∷ above) whole is = tt

  of_step : (node : Option Node) (answer : Answer) (keys : List CatKey) → ((x : Node) → node ≡ Some x → (a : Asked) → asked_of x.args ≡ Some a → wrong_in a.request ≡ None) → AreFine (edits_in (ended_deed node answer keys there))
  of_step None answer keys sound = tt
  of_step (Some node) answer keys sound = of_root node.above _ (of_answer answer _ (of_asked (asked_of node.args) keys (sound node refl)))

fine_start : (key : CatKey) → IsFineRow key (at_start key)
fine_start (key_is.Ns ns) = by (bytes_eq ns (codes "default") || bytes_eq ns (codes "hbase"))
  where
    by : (b : Bool) → IsFineRow (key_is.Ns ns) (if b then Some row_is.Ns else None)
    by true = tt
    by false = tt
fine_start key = tt

-- a part of a base
fine_part : (part : Part) (J : Past) → PartFits part J → (key : CatKey) (row : Option CatRow) → IsFineRow key row → IsFineRow key (part_row part key row)
fine_part (part_is.Head entries last parts sheets) J fits key row is = tt
fine_part (part_is.Namespace ns) J fits key row is = changed_fine key (key_is.Ns ns) (Some row_is.Ns) row tt is
fine_part (part_is.Region region range status parents place) J fits key row is = changed_fine key (key_is.Region region) (Some (row_is.Region range status parents)) row fits.3 is
fine_part (part_is.Table table own state) J fits key row is = changed_fine key (key_is.Table table) (table_row state) row (by state fits.2) is
  where
    by : (o : Option (TableState × ℕ)) → ((b : TableState × ℕ) → o ≡ Some b → (cat J (key_is.Ns table.ns) ≡ None → ⊥) × IsSteady b.0) → IsFineRow (key_is.Table table) (table_row o)
    by None fine = tt
    by (Some b) fine = (fine b refl).1
fine_part part J fits key row is = is

pub fine_rows : (J : Past) → IsLegal J → (key : CatKey) → IsFineRow key (serial J key)
fine_rows [] legal key = fine_start key
fine_rows (entry_is.Step pid pick out ∷ J) legal key =
    let whole = whole_all 4097 (omega arith) J legal.0 (no_half J legal.1.0) in
    row_after (edits_in (ended_deed (node_of J pid.0) out.answer (keys_of J) (serial J))) (of_step (serial J) (fine_rows J legal.0) (node_of J pid.0) out.answer (keys_of J) (λ x is a asked. whole.sound pid.0 x a is asked)) key (serial J key) (fine_rows J legal.0 key)
fine_rows (entry_is.Base part ∷ J) legal key = fine_part part J legal.1.0 key (serial J key) (fine_rows J legal.0 key)
fine_rows (entry ∷ J) legal key = fine_rows J legal.0 key
