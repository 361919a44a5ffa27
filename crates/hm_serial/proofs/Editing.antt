-- What the acts edit: rows that the root's exclusive asks cover, told as they are where they may be undone. Kinds are named
-- here, and a journal: which rows an act edits is decided kind by kind, and that it tells them rests on the rows that the
-- journal lets it read.
use Rattle.std.proofs.Common.{◌≡◌, ℕ, ◌+◌, ◌<◌, ◌≤◌, List, [], ◌∷◌, Bool, true, false, ◌==◌, cond, length, Option, Some, None, not, refl, ap, sym, ◌∙◌, subst, inl, inr, ◌⊎◌, arith}
use Rattle.std.proofs.lemmas.Bool.{and_right, cond-false, false≢true, ne_eqb, not-true, or_right, true≢false}
use Rattle.hm_names.specs.declared.range.KeyRange.{KeyRange}
use Rattle.hm_names.specs.declared.table.TableName.{TableName}
use Rattle.hm_data.specs.Numbers.{act_number}
use Rattle.hm_data.specs.declared.act.Act.{Act}
use Rattle.hm_data.specs.declared.act.Act.TheVariants as act_is
use Rattle.hm_data.specs.declared.args.Args.{Args}
use Rattle.hm_data.specs.declared.args.Args.TheVariants as args_are
use Rattle.hm_data.specs.declared.catalog.CatKey.{CatKey}
use Rattle.hm_data.specs.declared.catalog.CatKey.TheVariants as key_is
use Rattle.hm_data.specs.declared.catalog.CatRow.{CatRow}
use Rattle.hm_data.specs.declared.catalog.Edit.{Edit}
use Rattle.hm_data.specs.declared.request.Request.TheVariants as request_is
use Rattle.hm_data.specs.declared.step.StepIn.{StepIn}
use Rattle.hm_data.specs.declared.step.StepOut.{StepOut}
use Rattle.hm_model.specs.Acts.{act_answer}
use Rattle.hm_model.specs.Catalog.{Catalog, row_at, cat}
use Rattle.hm_model.specs.Changes.{add_ranges, live_row, region_key}
use Rattle.hm_model.specs.Keys.{same_key, same_table}
use Rattle.hm_model.specs.Kinds.{kind_of}
use Rattle.hm_model.specs.Locks.{IsIn, asks, exclusive}
use Rattle.hm_model.specs.Reads.{covers, is_over, reads}
use Rattle.hm_model.specs.Pieces.{ranges_between}
use Rattle.hm_model.specs.ActSorts.{editing_kinds, is_edit}
use Rattle.hm_model.specs.Validity.{is_among}
use Rattle.hm_model.specs.declared.lock.Resource.TheVariants as resource_is
use Rattle.hm_names.specs.Server.{Server}
use Rattle.hm_model.specs.Inputs.{rows_read, step_input}
use Rattle.hm_model.specs.Journal.{Past}
use Rattle.hm_model.proofs.CallSteps.{node_at}
use Rattle.hm_model.proofs.PlainActs.{is_plain}
use Rattle.hm_model.proofs.Rows.{row_read}
use Rattle.hm_model.proofs.ExactRows.{is_listed, of_listed}
use Rattle.hm_model.proofs.KeyTests.{same_key-Decides, same_table-refl}
use Rattle.hm_serial.proofs.Local.{Within}
use Rattle.hm_kinds.proofs.Editless.{no_adds, no_drops, none_act}
use Rattle.hm_kinds.proofs.Covering.{in_reads, merge_within, split_within}
pub use Rattle.hm_kinds.proofs.Covering.{covers_from, table_region, add_within, remove_within}
pub use Rattle.hm_kinds.proofs.Covering.{rows_table}
use Rattle.hm_model.specs.GoingBack.{Tells}
use Rattle.std.specs.List.{list_all}
use Rattle.std.proofs.lemmas.Option.{same_Some}
use Rattle.hm_data.specs.declared.args.Child.{Child}
use Rattle.hm_data.specs.declared.request.Request.{Request}
use Rattle.hm_model.specs.Kinds.{request_kind}
use Rattle.hm_model.specs.Lists.{lines_of}
use Rattle.hm_model.specs.MadeOf.{Edits, IsMadeOf, IsOwnKey, key_kinds}
use Rattle.hm_model.specs.Outs.{spawns}
use Rattle.hm_model.specs.Reads.{is_ns}
use Rattle.hm_model.specs.Views.{namespace_of, table_of}
use Rattle.hm_model.proofs.MadeOf.{made_of}

-- regions that are added tell what stands there
add_tells : (rows : Catalog) (table : TableName) (ranges : List KeyRange) (n : ℕ) (now : Catalog) → ((m : ℕ) → n ≤ m → m < n + length ranges → rows (region_key table m) ≡ now (region_key table m)) → Tells (add_ranges rows table n ranges) now
add_tells rows table [] n now each = tt
add_tells rows table (range ∷ ranges) n now each =
    (each n (omega arith) (omega arith), add_tells rows table ranges (n + 1) (λ key. cond (same_key key (region_key table n)) (Some (live_row range [])) (now key)) (λ m low high. each m (omega (arith, low)) (omega (arith, high)) ∙ sym (cond-false (same_key (region_key table m) (region_key table n)) (Some (live_row range [])) (now (region_key table m)) (and_right (same_table table table) (m == n) (ne_eqb m n (λ e. omega (arith, low, e)))))))

-- what edits a root of its kind may make, at the rows that it reads
abbrev pub IsTold : Args → List Edit → StepIn → Type 0
IsTold args edits at = (there : Catalog) → ((key : CatKey) → reads args key ≡ true → row_at at.rows key ≡ there key) → Tells edits there

abbrev pub is_telling : Act → Bool
is_telling act = is_among (6 ∷ 9 ∷ 16 ∷ 29 ∷ []) (act_number act)

-- what is edited lies within what the root covers, and is told where it may be undone
pub record IsEdit (root args : Args) (act : Act) (at : StepIn) (edits : List Edit) : Type 0 where
  pub within : Within root edits
  pub tells : is_telling act ≡ true → IsTold args edits at
  pub some : (edits ≡ []) ⊎ (is_edit act ≡ true)

no_edit : (root args : Args) (act : Act) (at : StepIn) → IsEdit root args act at []
no_edit root args act at = record { within = tt; tells = λ h there each. tt; some = inl refl }

one_edit : (root args : Args) (act : Act) (at : StepIn) (key : CatKey) (before after : Option CatRow) → covers root key ≡ true → is_edit act ≡ true → before ≡ row_at at.rows key → (is_telling act ≡ true → reads args key ≡ true) → IsEdit root args act at (record { key = key; before = before; after = after } ∷ [])
one_edit root args act at key before after c e is reading = record { within = (c, tt); tells = λ h there each. (is ∙ each key (reading h), tt); some = inr e }

abbrev pub out_edits : StepOut → List Edit
out_edits out = out.edits

ns_itself : (ns : List ℕ) → is_over (resource_is.Ns ns) (key_is.Ns ns) ≡ true
ns_itself ns = (same_key-Decides (key_is.Ns ns) (key_is.Ns ns)).1 refl

from_own : (root args : Args) (act : Act) (at : StepIn) (edits : List Edit) → root ≡ args → IsEdit args args act at edits → IsEdit root args act at edits
from_own root args act at edits same h = subst (λ x. IsEdit x args act at edits) (sym same) h

-- a list begins with the number
abbrev begins_with : ℕ → List ℕ → Bool
begins_with n [] = false
begins_with n (first ∷ more) = first == n

-- no line of the kind edits such rows
unlisted : (n kind : ℕ) (act : Act) → list_all (λ line. not (begins_with n (editing_kinds line.act))) (lines_of kind) ≡ true → is_listed kind act ≡ true → begins_with n (editing_kinds act) ≡ true → ⊥
unlisted n kind act all h begins = true≢false (sym begins ∙ not-true (begins_with n (editing_kinds act)) (of_listed (λ a. not (begins_with n (editing_kinds a))) kind act all h))

-- a row of its own that a procedure may edit is covered and read by it, which adds and removes no regions' rows
record IsCovered (args : Args) (key : CatKey) : Type 0 where
  covered : covers args key ≡ true
  reading : reads args key ≡ true
  rootless : rows_table args ≡ None

ns_covered : (args : Args) (act : Act) → is_listed (kind_of args) act ≡ true → begins_with 1 (editing_kinds act) ≡ true → (ns : List ℕ) → namespace_of args ≡ Some ns → IsCovered args (key_is.Ns ns)
ns_covered (args_are.Root (request_is.CreateNamespace own) f) act h begins ns is = subst (λ n. IsCovered (args_are.Root (request_is.CreateNamespace own) f) (key_is.Ns n)) (same_Some own ns is)
    (record { covered = covers_from (args_are.Root (request_is.CreateNamespace own) f) (resource_is.Ns own) (key_is.Ns own) (inl refl) (ns_itself own); reading = ns_itself own; rootless = refl })
ns_covered (args_are.Root (request_is.DropNamespace own) f) act h begins ns is = subst (λ n. IsCovered (args_are.Root (request_is.DropNamespace own) f) (key_is.Ns n)) (same_Some own ns is)
    (record { covered = covers_from (args_are.Root (request_is.DropNamespace own) f) (resource_is.Ns own) (key_is.Ns own) (inl refl) (ns_itself own); reading = ns_itself own; rootless = refl })
ns_covered (args_are.Root request f) act h begins ns is = absurd (unlisted 1 (request_kind request) act refl h begins)
ns_covered args act h begins ns is = absurd (unlisted 1 (kind_of args) act refl h begins)

-- who covers its table's row
table_covered : (request : Request) (f : ℕ) (own : TableName) → IsIn (exclusive (resource_is.Table own)) (asks (args_are.Root request f)) → reads (args_are.Root request f) (key_is.Table own) ≡ true → (table : TableName) → Some own ≡ Some table → IsCovered (args_are.Root request f) (key_is.Table table)
table_covered request f own among reading table is = subst (λ t. IsCovered (args_are.Root request f) (key_is.Table t)) (same_Some own table is)
    (record { covered = covers_from (args_are.Root request f) (resource_is.Table own) (key_is.Table own) among (same_table-refl own); reading = reading; rootless = refl })

name_covered : (args : Args) (act : Act) → is_listed (kind_of args) act ≡ true → begins_with 3 (editing_kinds act) ≡ true → (table : TableName) → table_of args ≡ Some table → IsCovered args (key_is.Table table)
name_covered (args_are.Root (request_is.CreateTable own keys) f) act h begins table is = table_covered (request_is.CreateTable own keys) f own (inr (inl refl)) (or_right (is_ns own.ns (key_is.Table own)) _ (same_table-refl own)) table is
name_covered (args_are.Root (request_is.DeleteTable own) f) act h begins table is = table_covered (request_is.DeleteTable own) f own (inr (inl refl)) (same_table-refl own) table is
name_covered (args_are.Root (request_is.EnableTable own) f) act h begins table is = table_covered (request_is.EnableTable own) f own (inr (inl refl)) (same_table-refl own) table is
name_covered (args_are.Root (request_is.DisableTable own) f) act h begins table is = table_covered (request_is.DisableTable own) f own (inr (inl refl)) (same_table-refl own) table is
name_covered (args_are.Root (request_is.ModifyTable own version) f) act h begins table is = table_covered (request_is.ModifyTable own version) f own (inr (inl refl)) (same_table-refl own) table is
name_covered (args_are.Root request f) act h begins table is = absurd (unlisted 3 (request_kind request) act refl h begins)
name_covered args act h begins table is = absurd (unlisted 3 (kind_of args) act refl h begins)

own_covered : (args : Args) (act : Act) → is_listed (kind_of args) act ≡ true → {key : CatKey} → IsOwnKey args key → editing_kinds act ≡ key_kinds key → IsCovered args key
own_covered args act h (IsOwnKey.of_namespace ns is) kinds = ns_covered args act h (ap (begins_with 1) kinds) ns is
own_covered args act h (IsOwnKey.of_name table is) kinds = name_covered args act h (ap (begins_with 3) kinds) table is

-- acts that edit rows of regions
abbrev edits_regions : Act → Bool
edits_regions act_is.UpdateSplitMeta = true
edits_regions act_is.UpdateMergeMeta = true
edits_regions act_is.AddRegionRows = true
edits_regions act_is.DropRegionRows = true
edits_regions act = false

module _ (J : Past) (p : ℕ) (pick : Option Server) (above : List ℕ) (top first : ℕ) (root : Args) where
  abbrev at_input : Args → StepIn
  at_input args = step_input J p (node_at above top args first) pick

  told_rows : (args : Args) (key : CatKey) → reads args key ≡ true → row_at (rows_read J args) key ≡ cat J key
  told_rows args key reading = row_read J args key reading

  one_made : (act : Act) (args : Args) → is_edit act ≡ true → edits_regions act ≡ false → is_listed (kind_of args) act ≡ true → (rows_table args ≡ None → root ≡ args) → {edits : List Edit} → Edits act (at_input args) edits → IsEdit root args act (at_input args) edits
  one_made act args e off h own (Edits.one_row key of kinds after becomes) =
      let covered = own_covered args act h of kinds in
      from_own root args act (at_input args) _ (own covered.rootless) (one_edit args args act (at_input args) key (row_at (rows_read J args) key) after covered.covered e refl (λ t. covered.reading))
  one_made act args e off h own (Edits.adds_rows only table is bounds are) = absurd (true≢false (sym (ap edits_regions only) ∙ off))
  one_made act args e off h own (Edits.removes_rows only table is) = absurd (true≢false (sym (ap edits_regions only) ∙ off))
  one_made act args e off h own (Edits.splits only region is key cut) = absurd (true≢false (sym (ap edits_regions only) ∙ off))
  one_made act args e off h own (Edits.merges only) = absurd (true≢false (sym (ap edits_regions only) ∙ off))

  spawned_made : (act : Act) (args : Args) (next : ℕ) (children : List Child) → IsEdit root args act (at_input args) (spawns next children).edits
  spawned_made act args next [] = no_edit root args act (at_input args)
  spawned_made act args next (child ∷ more) = no_edit root args act (at_input args)

  edit_made : (act : Act) (args : Args) → is_edit act ≡ true → edits_regions act ≡ false → is_listed (kind_of args) act ≡ true → (rows_table args ≡ None → root ≡ args) → (next : ℕ) → {out : StepOut} → IsMadeOf act next (at_input args) out → IsEdit root args act (at_input args) out.edits
  edit_made act args e off h own next (IsMadeOf.edited editing edits are) = one_made act args e off h own are
  edit_made act args e off h own next (IsMadeOf.made children makes) = spawned_made act args next children
  edit_made act args e off h own next other = no_edit root args act (at_input args)

  edit_act : (act : Act) (args : Args) → is_listed (kind_of args) act ≡ true → is_edit act ≡ true → (rows_table args ≡ None → root ≡ args) → ((t : TableName) → rows_table args ≡ Some t → IsIn (exclusive (resource_is.Table t)) (asks root)) → (next : ℕ)
      → IsEdit root args act (step_input J p (node_at above top args first) pick) (act_answer act next (step_input J p (node_at above top args first) pick)).edits
  edit_act act_is.UpdateSplitMeta (args_are.Root (request_is.SplitRegion region key) f) h e own belongs next = from_own root (args_are.Root (request_is.SplitRegion region key) f) act_is.UpdateSplitMeta (step_input J p (node_at above top (args_are.Root (request_is.SplitRegion region key) f) first) pick) _ (own refl) (record { within = split_within (row_at (rows_read J (args_are.Root (request_is.SplitRegion region key) f))) region key f; tells = λ t. absurd (false≢true t); some = inr refl })
  edit_act act_is.UpdateSplitMeta args h e own belongs next = absurd (false≢true h)
  edit_act act_is.UpdateMergeMeta (args_are.Root (request_is.MergeRegions regions) f) h e own belongs next = from_own root (args_are.Root (request_is.MergeRegions regions) f) act_is.UpdateMergeMeta (step_input J p (node_at above top (args_are.Root (request_is.MergeRegions regions) f) first) pick) _ (own refl) (record { within = merge_within (row_at (rows_read J (args_are.Root (request_is.MergeRegions regions) f))) regions f f; tells = λ t. absurd (false≢true t); some = inr refl })
  edit_act act_is.UpdateMergeMeta args h e own belongs next = absurd (false≢true h)
  edit_act act_is.AddRegionRows (args_are.AddRegions table f bounds) h e own belongs next = record { within = add_within root table (belongs table refl) (row_at (rows_read J (args_are.AddRegions table f bounds))) f (ranges_between bounds); tells = λ t there each. add_tells (row_at (rows_read J (args_are.AddRegions table f bounds))) table (ranges_between bounds) f there (λ m low high. each (region_key table m) (in_reads table f bounds m low high)); some = inr refl }
  edit_act act_is.AddRegionRows (args_are.Root request f) h e own belongs next = absurd (no_adds request h)
  edit_act act_is.AddRegionRows args h e own belongs next = absurd (false≢true h)
  edit_act act_is.DropRegionRows (args_are.DropRegions table ids) h e own belongs next = record { within = remove_within root table (belongs table refl) (row_at (rows_read J (args_are.DropRegions table ids))) ids; tells = λ t. absurd (false≢true t); some = inr refl }
  edit_act act_is.DropRegionRows (args_are.Root request f) h e own belongs next = absurd (no_drops request h)
  edit_act act_is.DropRegionRows args h e own belongs next = absurd (false≢true h)
  edit_act act args h e own belongs next = edit_made act args e refl h own next (made_of act next (at_input args))

  -- what a step's act edits
  pub edit_step : (act : Act) (args : Args) → is_plain act ≡ true → is_listed (kind_of args) act ≡ true → (rows_table args ≡ None → root ≡ args) → ((t : TableName) → rows_table args ≡ Some t → IsIn (exclusive (resource_is.Table t)) (asks root)) → (next : ℕ)
      → IsEdit root args act (step_input J p (node_at above top args first) pick) (act_answer act next (step_input J p (node_at above top args first) pick)).edits
  edit_step act args plain listed own belongs next = by (is_edit act) refl
    where
      by : (b : Bool) → is_edit act ≡ b → IsEdit root args act (step_input J p (node_at above top args first) pick) (act_answer act next (step_input J p (node_at above top args first) pick)).edits
      by true e = edit_act act args listed e own belongs next
      by false e = subst (IsEdit root args act (step_input J p (node_at above top args first) pick)) (sym (none_act act plain e next (step_input J p (node_at above top args first) pick))) (no_edit root args act (step_input J p (node_at above top args first) pick))
