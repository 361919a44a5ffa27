-- By the deeds each table is enabled or disabled, and between them nothing else.
use Rattle.std.proofs.Common.{◌≡◌, ℕ, ◌+◌, List, [], ◌∷◌, ◌++◌, Bool, true, false, cond, Option, Some, None, refl, inl, inr, ◌⊎◌, bytes_eq, if◌then◌else◌, codes, ◌||◌}
use Rattle.std.specs.Option.{option_map}
use Rattle.hm_names.specs.Region.{Region}
use Rattle.hm_names.specs.declared.range.KeyRange.{KeyRange}
use Rattle.hm_names.specs.declared.table.TableName.{TableName}
use Rattle.hm_data.specs.declared.answer.Answer.{Answer}
use Rattle.hm_data.specs.declared.answer.Answer.TheVariants as answer_is
use Rattle.hm_data.specs.declared.answer.Cause.{Cause}
use Rattle.hm_data.specs.declared.catalog.CatKey.{CatKey}
use Rattle.hm_data.specs.declared.catalog.CatKey.TheVariants as key_is
use Rattle.hm_data.specs.declared.catalog.CatRow.{CatRow}
use Rattle.hm_data.specs.declared.catalog.CatRow.TheVariants as row_is
use Rattle.hm_data.specs.declared.catalog.Edit.{Edit}
use Rattle.hm_data.specs.declared.catalog.Status.{Status}
use Rattle.hm_data.specs.declared.catalog.TableState.{TableState}
use Rattle.hm_data.specs.declared.catalog.TableState.TheVariants as state_is
use Rattle.hm_data.specs.declared.entry.Entry.TheVariants as entry_is
use Rattle.hm_data.specs.declared.part.Part.{Part}
use Rattle.hm_data.specs.declared.part.Part.TheVariants as part_is
use Rattle.hm_data.specs.declared.request.Request.{Request}
use Rattle.hm_data.specs.declared.request.Request.TheVariants as request_is
use Rattle.hm_model.specs.declared.merged.Merged.{Merged}
use Rattle.hm_model.specs.Base.{PartFits}
use Rattle.hm_model.specs.Catalog.{Catalog, at_start, edited, keys_of, set_to}
use Rattle.hm_model.specs.Changes.{add_merged, add_ranges, changed, mark_merged, merge_edits, merged_of, remove_regions, split_edits, split_range}
use Rattle.hm_model.specs.Checks.{by_start, can_split, namespace_empty, namespace_free, parts_of, region_ready, table_disabled, table_enabled, table_free}
use Rattle.hm_model.specs.Deeds.{Deed, cause_of_merge, deed, deed_if, regions_of, rows_in_ns, unless}
use Rattle.hm_model.specs.Journal.{Past}
use Rattle.hm_model.specs.Keys.{same_key}
use Rattle.hm_model.specs.Kinds.{table_of_first}
use Rattle.hm_model.specs.Locks.{in_name_order}
use Rattle.hm_model.specs.NamespaceActs.{has_table}
use Rattle.hm_model.specs.Parts.{part_row}
use Rattle.hm_model.specs.Pieces.{ranges_between}
use Rattle.hm_model.specs.RowsSaid.{in_state, in_status, in_version, range_in}
use Rattle.hm_model.specs.Rules.{IsLegal}
use Rattle.hm_model.specs.Serial.{at_end, edits_in, ended_deed, if_root, serial}
use Rattle.hm_model.specs.Tree.{Node, node_of}
use Rattle.hm_model.specs.Views.{Asked, asked_of}

abbrev pub IsSettled : TableState → Type 0
IsSettled state = (state ≡ state_is.Enabled) ⊎ (state ≡ state_is.Disabled)

-- a row of a table says so
abbrev pub IsSettledRow : Option CatRow → Type 0
IsSettledRow None = Unit {0}
IsSettledRow (Some row_is.Ns) = Unit {0}
IsSettledRow (Some (row_is.Table state version)) = IsSettled state
IsSettledRow (Some (row_is.Region range status parents)) = Unit {0}

abbrev AreSettled : List Edit → Type 0
AreSettled [] = Unit {0}
AreSettled (edit ∷ edits) = IsSettledRow edit.after × AreSettled edits

both : (xs ys : List Edit) → AreSettled xs → AreSettled ys → AreSettled (xs ++ ys)
both [] ys a b = b
both (x ∷ xs) ys a b = (a.0, both xs ys a.1 b)

row_after : (edits : List Edit) → AreSettled edits → (key : CatKey) (row : Option CatRow) → IsSettledRow row → IsSettledRow (edited edits key row)
row_after [] all key row before = before
row_after (edit ∷ edits) all key row before = row_after edits all.1 key (cond (same_key key edit.key) edit.after row) (by (same_key key edit.key))
  where
    by : (b : Bool) → IsSettledRow (cond b edit.after row)
    by true = all.0
    by false = before

-- what changes a row
stated : (state : TableState) → IsSettled state → (row : Option CatRow) → IsSettledRow (option_map (in_state state) row)
stated state is None = tt
stated state is (Some row_is.Ns) = tt
stated state is (Some (row_is.Table was version)) = is
stated state is (Some (row_is.Region range status parents)) = tt

versioned : (version : ℕ) (row : Option CatRow) → IsSettledRow row → IsSettledRow (option_map (in_version version) row)
versioned version None is = tt
versioned version (Some row_is.Ns) is = tt
versioned version (Some (row_is.Table state was)) is = is
versioned version (Some (row_is.Region range status parents)) is = tt

marked : (status : Status) (row : Option CatRow) → IsSettledRow row → IsSettledRow (option_map (in_status status) row)
marked status None is = tt
marked status (Some row_is.Ns) is = tt
marked status (Some (row_is.Table state version)) is = is
marked status (Some (row_is.Region range was parents)) is = tt

module _ (there : Catalog) (all : (key : CatKey) → IsSettledRow (there key)) where
  ranges : (table : TableName) (first : ℕ) (list : List KeyRange) → AreSettled (add_ranges there table first list)
  ranges table first [] = tt
  ranges table first (range ∷ list) = (tt, ranges table (first + 1) list)

  removed : (list : List Region) → AreSettled (remove_regions there list)
  removed [] = tt
  removed (region ∷ list) = (tt, removed list)

  split : (region : Region) (key : List ℕ) (first : ℕ) (range : Option KeyRange) → AreSettled (split_range there region key first range)
  split region key first None = tt
  split region key first (Some range) = (marked _ (there (key_is.Region region)) (all (key_is.Region region)), (tt, (tt, tt)))

  marks : (list : List Region) → AreSettled (mark_merged there list)
  marks [] = tt
  marks (region ∷ list) = (marked _ (there (key_is.Region region)) (all (key_is.Region region)), marks list)

  one : (table : TableName) (first : ℕ) (parts : List Merged) → AreSettled (merged_of there table first parts)
  one table first [] = tt
  one table first (part ∷ more) = (tt, tt)

  merged : (first : ℕ) (list regions : List Region) → AreSettled (add_merged there first list regions)
  merged first [] regions = tt
  merged first (region ∷ more) regions = one region.table first (by_start (parts_of there regions))

  if_none : (cause : Option Cause) (edits : List Edit) → AreSettled edits → AreSettled (edits_in (unless cause edits))
  if_none None edits is = is
  if_none (Some cause) edits is = tt

  -- one edit, and one in front of others
  more_edits : (cause : Option Cause) (edit : Edit) (edits : List Edit) → IsSettledRow edit.after → AreSettled edits → AreSettled (edits_in (unless cause (edit ∷ edits)))
  more_edits cause edit edits is all = if_none cause (edit ∷ edits) (is, all)

  one_edit : (cause : Option Cause) (edit : Edit) → IsSettledRow edit.after → AreSettled (edits_in (unless cause (edit ∷ [])))
  one_edit cause edit is = if_none cause (edit ∷ []) (is, tt)

  of_request : (request : Request) (first : ℕ) (keys : List CatKey) → AreSettled (edits_in (deed request first keys there))
  of_request (request_is.CreateNamespace ns) first keys = one_edit (namespace_free (there (key_is.Ns ns))) (set_to there (key_is.Ns ns) (Some row_is.Ns)) tt
  of_request (request_is.DropNamespace ns) first keys = one_edit (namespace_empty (there (key_is.Ns ns)) (has_table ns (rows_in_ns ns keys there))) (set_to there (key_is.Ns ns) None) tt
  of_request (request_is.CreateTable table bounds) first keys =
      let list = ranges_between ([] ∷ bounds ++ [] ∷ []) in
      more_edits (table_free (there (key_is.Ns table.ns)) (there (key_is.Table table))) (set_to there (key_is.Table table) (Some (row_is.Table state_is.Enabled 1))) (add_ranges there table first list) (inl refl) (ranges table first list)
  of_request (request_is.DeleteTable table) first keys =
      more_edits (table_disabled (there (key_is.Table table))) (set_to there (key_is.Table table) None) (remove_regions there (regions_of table keys there)) tt (removed (regions_of table keys there))
  of_request (request_is.EnableTable table) first keys =
      one_edit (table_disabled (there (key_is.Table table))) (changed there (key_is.Table table) (in_state state_is.Enabled)) (stated state_is.Enabled (inl refl) (there (key_is.Table table)))
  of_request (request_is.DisableTable table) first keys =
      one_edit (table_enabled (there (key_is.Table table))) (changed there (key_is.Table table) (in_state state_is.Disabled)) (stated state_is.Disabled (inr refl) (there (key_is.Table table)))
  of_request (request_is.ModifyTable table version) first keys =
      one_edit (table_disabled (there (key_is.Table table))) (changed there (key_is.Table table) (in_version version)) (versioned version (there (key_is.Table table)) (all (key_is.Table table)))
  of_request (request_is.SplitRegion region key) first keys =
      if_none (can_split (there (key_is.Table region.table)) (there (key_is.Region region)) key) (split_edits there region key first) (split region key first (range_in (there (key_is.Region region))))
  of_request (request_is.MergeRegions regions) first keys =
      if_none (cause_of_merge (table_of_first regions) there regions) (merge_edits there regions first)
      (both (mark_merged there (in_name_order regions)) (add_merged there first regions regions) (marks (in_name_order regions)) (merged first regions regions))
  of_request (request_is.Move region to) first keys = if_none (region_ready (there (key_is.Table region.table)) (there (key_is.Region region))) [] tt

  of_asked : (asked : Option Asked) (keys : List CatKey) → AreSettled (edits_in (deed_if asked keys there))
  of_asked None keys = tt
  of_asked (Some asked) keys = of_request asked.request asked.first keys

  of_answer : (answer : Answer) (whole : Deed) → AreSettled (edits_in whole) → AreSettled (edits_in (at_end answer whole))
  of_answer (answer_is.Done told) whole is = is
  of_answer answer whole is = tt

  of_root : (above : List ℕ) (whole : Deed) → AreSettled (edits_in whole) → AreSettled (edits_in (if_root above whole))
  of_root [] whole is = is
  of_root (up ∷ above) whole is = tt

  of_step : (node : Option Node) (answer : Answer) (keys : List CatKey) → AreSettled (edits_in (ended_deed node answer keys there))
  of_step None answer keys = tt
  of_step (Some node) answer keys = of_root node.above _ (of_answer answer _ (of_asked (asked_of node.args) keys))

settled_start : (key : CatKey) → IsSettledRow (at_start key)
settled_start (key_is.Ns ns) = by (bytes_eq ns (codes "default") || bytes_eq ns (codes "hbase"))
  where
    by : (b : Bool) → IsSettledRow (if b then Some row_is.Ns else None)
    by true = tt
    by false = tt
settled_start key = tt

-- a part of a base
settled_part : (part : Part) (J : Past) → PartFits part J → (key : CatKey) (row : Option CatRow) → IsSettledRow row → IsSettledRow (part_row part key row)
settled_part (part_is.Head entries last parts sheets) J fits key row is = tt
settled_part (part_is.Namespace ns) J fits key row is = by (same_key key (key_is.Ns ns))
  where
    by : (b : Bool) → IsSettledRow (if b then Some row_is.Ns else row)
    by true = tt
    by false = is
settled_part (part_is.Region region range status parents place) J fits key row is = by (same_key key (key_is.Region region))
  where
    by : (b : Bool) → IsSettledRow (if b then Some (row_is.Region range status parents) else row)
    by true = tt
    by false = is
settled_part (part_is.Table table own state) J fits key row is = by (same_key key (key_is.Table table)) state fits.2
  where
    by : (b : Bool) (state : Option (TableState × ℕ)) → ((both : TableState × ℕ) → state ≡ Some both → (Rattle.hm_model.specs.Catalog.cat J (key_is.Ns table.ns) ≡ None → ⊥) × IsSettled both.0) → IsSettledRow (if b then Rattle.hm_model.specs.Parts.table_row state else row)
    by true None fine = tt
    by true (Some both) fine = (fine both refl).1
    by false state fine = is
settled_part part J fits key row is = is

pub settled_all : (J : Past) → IsLegal J → (key : CatKey) → IsSettledRow (serial J key)
settled_all [] legal key = settled_start key
settled_all (entry_is.Step pid pick out ∷ J) legal key =
    row_after (edits_in (ended_deed (node_of J pid.0) out.answer (keys_of J) (serial J))) (of_step (serial J) (settled_all J legal.0) (node_of J pid.0) out.answer (keys_of J)) key (serial J key) (settled_all J legal.0 key)
settled_all (entry_is.Base part ∷ J) legal key = settled_part part J legal.1.0 key (serial J key) (settled_all J legal.0 key)
settled_all (entry ∷ J) legal key = settled_all J legal.0 key
