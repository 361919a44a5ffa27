-- The two namespaces that are there from the start stay.
use Rattle.std.proofs.Common.{◌≡◌, ◌≢◌, ℕ, ◌+◌, List, [], ◌∷◌, ◌++◌, Bool, true, false, cond, Option, Some, None, refl, ap, sym, ◌∙◌, subst, inl, inr, bytes_eq, codes, arith}
use Rattle.std.proofs.lemmas.Bool.{cond-true, false≢true, or_cases}
use Rattle.std.proofs.lemmas.Option.{none-some}
use Rattle.hm_names.specs.Region.{Region}
use Rattle.hm_names.specs.declared.range.KeyRange.{KeyRange}
use Rattle.hm_names.specs.declared.table.TableName.{TableName}
use Rattle.hm_data.specs.declared.answer.Answer.{Answer}
use Rattle.hm_data.specs.declared.answer.Answer.TheVariants as answer_is
use Rattle.hm_data.specs.declared.answer.Cause.{Cause}
use Rattle.hm_data.specs.declared.catalog.CatKey.{CatKey}
use Rattle.hm_data.specs.declared.catalog.CatKey.TheVariants as key_is
use Rattle.hm_data.specs.declared.catalog.CatRow.{CatRow}
use Rattle.hm_data.specs.declared.catalog.CatRow.TheVariants as row_is
use Rattle.hm_data.specs.declared.catalog.Edit.{Edit}
use Rattle.hm_data.specs.declared.catalog.TableState.TheVariants as state_is
use Rattle.hm_data.specs.declared.entry.Entry.TheVariants as entry_is
use Rattle.hm_data.specs.declared.request.Request.{Request}
use Rattle.hm_data.specs.declared.request.Request.TheVariants as request_is
use Rattle.hm_model.specs.declared.merged.Merged.{Merged}
use Rattle.hm_model.specs.Base.{IsBegun}
use Rattle.hm_model.specs.Catalog.{Catalog, cat, edited, keys_of, set_to}
use Rattle.hm_model.specs.Changes.{add_merged, add_ranges, changed, mark_merged, merge_edits, merged_of, remove_regions, split_edits, split_range}
use Rattle.hm_model.specs.Checks.{by_start, can_split, namespace_empty, namespace_free, parts_of, region_ready, table_disabled, table_enabled, table_free}
use Rattle.hm_model.specs.Deeds.{Deed, cause_of_merge, deed, deed_if, regions_of, rows_in_ns, unless}
use Rattle.hm_model.specs.Journal.{Past}
use Rattle.hm_model.specs.Keys.{same_key}
use Rattle.hm_model.specs.Kinds.{table_of_first}
use Rattle.hm_model.specs.Locks.{in_name_order}
use Rattle.hm_model.specs.NamespaceActs.{has_table}
use Rattle.hm_model.specs.Pieces.{ranges_between}
use Rattle.hm_model.specs.Requests.{is_fixed, wrong_in}
use Rattle.hm_model.specs.RowsSaid.{in_state, in_version, range_in}
use Rattle.hm_model.specs.Rules.{IsLegal}
use Rattle.hm_model.specs.Serial.{at_end, edits_in, ended_deed, if_root, serial}
use Rattle.hm_model.specs.Tree.{Node, node_of}
use Rattle.hm_model.specs.Views.{Asked, asked_of}
use Rattle.hm_model.proofs.KeyTests.{bytes_eq-is, cases_key}
use Rattle.hm_model.proofs.Parted.{no_half}
use Rattle.hm_serial.proofs.Serial.{catalog_is}
use Rattle.hm_cover.proofs.SerialWhole.{whole_all}

abbrev IsSafe : CatKey → Option CatRow → Type 0
IsSafe (key_is.Ns ns) after = is_fixed ns ≡ true → after ≢ None
IsSafe key after = Unit {0}

abbrev AreSafe : List Edit → Type 0
AreSafe [] = Unit {0}
AreSafe (edit ∷ edits) = IsSafe edit.key edit.after × AreSafe edits

both : (xs ys : List Edit) → AreSafe xs → AreSafe ys → AreSafe (xs ++ ys)
both [] ys a b = b
both (x ∷ xs) ys a b = (a.0, both xs ys a.1 b)

stays : (ns : List ℕ) → is_fixed ns ≡ true → (edits : List Edit) → AreSafe edits → (row : Option CatRow) → row ≢ None → edited edits (key_is.Ns ns) row ≢ None
stays ns fixed_one [] safe row some = some
stays ns fixed_one (edit ∷ edits) safe row some = stays ns fixed_one edits safe.1 (cond (same_key (key_is.Ns ns) edit.key) edit.after row) (elim (cases_key (key_is.Ns ns) edit.key) [
  | inl same ↦ subst (λ b. cond b edit.after row ≢ None) (sym same.0) (subst (λ k. IsSafe k edit.after) (sym same.1) safe.0 fixed_one)
  | inr differs ↦ subst (λ b. cond b edit.after row ≢ None) (sym differs.0) some
])

module _ (there : Catalog) where
  ranges : (table : TableName) (first : ℕ) (list : List KeyRange) → AreSafe (add_ranges there table first list)
  ranges table first [] = tt
  ranges table first (range ∷ list) = (tt, ranges table (first + 1) list)

  removed : (list : List Region) → AreSafe (remove_regions there list)
  removed [] = tt
  removed (region ∷ list) = (tt, removed list)

  split : (region : Region) (key : List ℕ) (first : ℕ) (range : Option KeyRange) → AreSafe (split_range there region key first range)
  split region key first None = tt
  split region key first (Some range) = (tt, (tt, (tt, tt)))

  marks : (list : List Region) → AreSafe (mark_merged there list)
  marks [] = tt
  marks (region ∷ list) = (tt, marks list)

  one : (table : TableName) (first : ℕ) (parts : List Merged) → AreSafe (merged_of there table first parts)
  one table first [] = tt
  one table first (part ∷ more) = (tt, tt)

  merged : (first : ℕ) (list regions : List Region) → AreSafe (add_merged there first list regions)
  merged first [] regions = tt
  merged first (region ∷ more) regions = one region.table first (by_start (parts_of there regions))

  if_none : (cause : Option Cause) (edits : List Edit) → AreSafe edits → AreSafe (edits_in (unless cause edits))
  if_none None edits is = is
  if_none (Some cause) edits is = tt

  more_edits : (cause : Option Cause) (edit : Edit) (edits : List Edit) → IsSafe edit.key edit.after → AreSafe edits → AreSafe (edits_in (unless cause (edit ∷ edits)))
  more_edits cause edit edits is all = if_none cause (edit ∷ edits) (is, all)

  one_edit : (cause : Option Cause) (edit : Edit) → IsSafe edit.key edit.after → AreSafe (edits_in (unless cause (edit ∷ [])))
  one_edit cause edit is = if_none cause (edit ∷ []) (is, tt)

  unfixed : (b : Bool) → cond {A = Option ℕ} b (Some 1) None ≡ None → b ≡ true → ⊥
  unfixed true fine on = none-some {A = ℕ} 1 (sym fine)
  unfixed false fine on = false≢true on

  of_request : (request : Request) (first : ℕ) (keys : List CatKey) → wrong_in request ≡ None → AreSafe (edits_in (deed request first keys there))
  of_request (request_is.CreateNamespace ns) first keys fine = one_edit (namespace_free (there (key_is.Ns ns))) (set_to there (key_is.Ns ns) (Some row_is.Ns)) (λ on none. none-some _ (sym none))
  of_request (request_is.DropNamespace ns) first keys fine = one_edit (namespace_empty (there (key_is.Ns ns)) (has_table ns (rows_in_ns ns keys there))) (set_to there (key_is.Ns ns) None) (λ on. absurd (unfixed (is_fixed ns) fine on))
  of_request (request_is.CreateTable table bounds) first keys fine =
      let list = ranges_between ([] ∷ bounds ++ [] ∷ []) in
      more_edits (table_free (there (key_is.Ns table.ns)) (there (key_is.Table table))) (set_to there (key_is.Table table) (Some (row_is.Table state_is.Enabled 1))) (add_ranges there table first list) tt (ranges table first list)
  of_request (request_is.DeleteTable table) first keys fine =
      more_edits (table_disabled (there (key_is.Table table))) (set_to there (key_is.Table table) None) (remove_regions there (regions_of table keys there)) tt (removed (regions_of table keys there))
  of_request (request_is.EnableTable table) first keys fine = one_edit (table_disabled (there (key_is.Table table))) (changed there (key_is.Table table) (in_state state_is.Enabled)) tt
  of_request (request_is.DisableTable table) first keys fine = one_edit (table_enabled (there (key_is.Table table))) (changed there (key_is.Table table) (in_state state_is.Disabled)) tt
  of_request (request_is.ModifyTable table version) first keys fine = one_edit (table_disabled (there (key_is.Table table))) (changed there (key_is.Table table) (in_version version)) tt
  of_request (request_is.SplitRegion region key) first keys fine =
      if_none (can_split (there (key_is.Table region.table)) (there (key_is.Region region)) key) (split_edits there region key first) (split region key first (range_in (there (key_is.Region region))))
  of_request (request_is.MergeRegions regions) first keys fine =
      if_none (cause_of_merge (table_of_first regions) there regions) (merge_edits there regions first)
      (both (mark_merged there (in_name_order regions)) (add_merged there first regions regions) (marks (in_name_order regions)) (merged first regions regions))
  of_request (request_is.Move region to) first keys fine = if_none (region_ready (there (key_is.Table region.table)) (there (key_is.Region region))) [] tt

  of_asked : (asked : Option Asked) (keys : List CatKey) → ((a : Asked) → asked ≡ Some a → wrong_in a.request ≡ None) → AreSafe (edits_in (deed_if asked keys there))
  of_asked None keys sound = tt
  of_asked (Some asked) keys sound = of_request asked.request asked.first keys (sound asked refl)

  of_answer : (answer : Answer) (whole : Deed) → AreSafe (edits_in whole) → AreSafe (edits_in (at_end answer whole))
  of_answer (answer_is.Done told) whole is = is
  of_answer answer whole is = tt

  of_root : (above : List ℕ) (whole : Deed) → AreSafe (edits_in whole) → AreSafe (edits_in (if_root above whole))
  of_root [] whole is = is
  of_root (up ∷ above) whole is = tt

  of_step : (node : Option Node) (answer : Answer) (keys : List CatKey) → ((x : Node) → node ≡ Some x → (a : Asked) → asked_of x.args ≡ Some a → wrong_in a.request ≡ None) → AreSafe (edits_in (ended_deed node answer keys there))
  of_step None answer keys sound = tt
  of_step (Some node) answer keys sound = of_root node.above _ (of_answer answer _ (of_asked (asked_of node.args) keys (sound node refl)))

pub fixed_there : (J : Past) → IsLegal J → IsBegun J → (ns : List ℕ) → is_fixed ns ≡ true → serial J (key_is.Ns ns) ≢ None
fixed_there [] legal begun ns on = absurd begun
fixed_there (entry_is.Start sheets ∷ J) legal begun ns on = λ none.
    none-some row_is.Ns (sym none ∙ ap (λ j. serial j (key_is.Ns ns)) legal.1.0.0 ∙ cond-true (is_fixed ns) (Some row_is.Ns) None on)
fixed_there (entry_is.Step pid pick out ∷ J) legal begun ns on =
    let whole = whole_all 4097 (omega arith) J legal.0 (no_half J legal.1.0) in
    stays ns on (edits_in (ended_deed (node_of J pid.0) out.answer (keys_of J) (serial J))) (of_step (serial J) (node_of J pid.0) out.answer (keys_of J) (λ x is a asked. whole.sound pid.0 x a is asked)) (serial J (key_is.Ns ns)) (fixed_there J legal.0 legal.1.0 ns on)
fixed_there (entry_is.Base part ∷ J) legal begun ns on =
    let same = catalog_is (entry_is.Base part ∷ J) legal (key_is.Ns ns) (λ busy. none-some busy.1 busy.2) in
    elim (or_cases (bytes_eq ns (codes "default")) (bytes_eq ns (codes "hbase")) on) [
      | inl one ↦ (λ none. begun.spaces.0 (ap (λ n. cat (entry_is.Base part ∷ J) (key_is.Ns n)) (sym (bytes_eq-is ns (codes "default") one)) ∙ same ∙ none))
      | inr two ↦ (λ none. begun.spaces.1 (ap (λ n. cat (entry_is.Base part ∷ J) (key_is.Ns n)) (sym (bytes_eq-is ns (codes "hbase") two)) ∙ same ∙ none))
    ]
fixed_there (entry ∷ J) legal begun ns on = fixed_there J legal.0 legal.1.0 ns on
