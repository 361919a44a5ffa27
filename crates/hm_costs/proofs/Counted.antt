-- What a root costs is the same from its first step on.
use Rattle.std.proofs.Common.{◌≡◌, ◌≢◌, ℕ, ◌+◌, ◌*◌, List, [], ◌∷◌, length, Bool, true, false, ◌&&◌, ◌==◌, Option, Some, None, is_none, refl, ap, sym, ◌∙◌, arith, inl, inr}
use Rattle.std.proofs.lemmas.Bool.{and_left, and_right, cases_eq, cond-false, cond-true, eq-eqb, ne_eqb}
use Rattle.std.proofs.lemmas.Option.{none-some}
use Rattle.std.specs.declared.cmp.Ordering.{Ordering}
use Rattle.std.specs.declared.cmp.Ordering.TheVariants.{Equal, Greater, Less}
use Rattle.hm_data.specs.Keys.{key_cmp}
use Rattle.hm_data.specs.declared.answer.Answer.{Answer}
use Rattle.hm_data.specs.declared.args.Args.{Args}
use Rattle.hm_data.specs.declared.args.Args.TheVariants as args_are
use Rattle.hm_data.specs.declared.catalog.CatKey.{CatKey}
use Rattle.hm_data.specs.declared.catalog.CatRow.{CatRow}
use Rattle.hm_data.specs.declared.catalog.Edit.{Edit}
use Rattle.hm_data.specs.declared.entry.Entry.{Entry}
use Rattle.hm_data.specs.declared.entry.Entry.TheVariants as entry_is
use Rattle.hm_data.specs.declared.request.Request.TheVariants as request_is
use Rattle.hm_model.specs.Answers.{last_answer}
use Rattle.hm_model.specs.Catalog.{Catalog, cat, keep, keys_of, rows_at, was, with_key, with_key_at, with_keys}
use Rattle.hm_model.specs.Costs.{by_64s, cost, cost_in, regions_lost}
use Rattle.hm_model.specs.Journal.{Past}
use Rattle.hm_model.specs.Locks.{IsIn}
use Rattle.hm_model.specs.Reads.{is_region_in}
use Rattle.hm_model.specs.RowLaws.{AreInOrder}
use Rattle.hm_model.specs.RowsSaid.{Rows, all_among, keep_region, live_among, regions_among}
use Rattle.hm_model.specs.Keys.{same_table}
use Rattle.hm_names.specs.declared.pid.Pid.{Pid}
use Rattle.hm_names.specs.Server.{Server}
use Rattle.hm_data.specs.declared.step.StepOut.{StepOut}
use Rattle.hm_model.specs.Reads.{is_over}
use Rattle.hm_model.specs.declared.lock.Resource.TheVariants as resource_is
use Rattle.hm_names.specs.Region.{Region}
use Rattle.hm_names.specs.declared.table.TableName.{TableName}
use Rattle.hm_data.specs.declared.catalog.CatKey.TheVariants as key_is
use Rattle.hm_model.specs.Rules.{IsLegal}
use Rattle.hm_model.specs.Tree.{Node, made, node_of}
use Rattle.hm_model.proofs.KeyTests.{key_cmp-same}
use Rattle.hm_model.proofs.Rows.{behind_further, behind_out, has_key, in_with_keys, keys_in_order, order_with}
use Rattle.hm_model.proofs.Parted.{no_node}
use Rattle.hm_model.proofs.Trees.{grown_all, is_there}
use Rattle.hm_model.proofs.Rows.{in_with_key}
use Rattle.std.proofs.lemmas.Bool.{and_from}

keep_none : (b : Bool) (key : CatKey) (row : Option CatRow) (more : List (CatKey × CatRow)) → (row ≢ None → ⊥) → keep b key row more ≡ more
keep_none false key row more none = refl
keep_none true key None more none = refl
keep_none true key (Some row) more none = absurd (none (λ e. none-some row (sym e)))

-- a key without a row, or one that is listed, adds no row
more_rows : (asked : CatKey → Bool) (there : Catalog) (key : CatKey) (keys : List CatKey) → AreInOrder keys → (there key ≢ None → IsIn key keys) → rows_at asked there (with_key key keys) ≡ rows_at asked there keys
more_rows asked there key [] order listed = keep_none (asked key) key (there key) [] (λ some. elim (listed some) [ ])
more_rows asked there key (first ∷ more) order listed = by (more_rows asked there key more order.1) (key_cmp key first) refl
  where
    by : ((there key ≢ None → IsIn key more) → rows_at asked there (with_key key more) ≡ rows_at asked there more) → (o : Ordering) → key_cmp key first ≡ o → rows_at asked there (with_key_at o key first more (with_key key more)) ≡ rows_at asked there (first ∷ more)
    by on Less e = keep_none (asked key) key (there key) (rows_at asked there (first ∷ more)) (λ some. behind_out key (first ∷ more) (e, behind_further key first more e order.0) (listed some))
    by on Equal e = refl
    by on Greater e = ap (keep (asked first) first (there first)) (on (λ some. elim (listed some) [
      | inl here ↦ let tied : key_cmp key first ≡ Equal = key_cmp-same key first here in absurd (cc (tied, e))
      | inr later ↦ later
    ]))

-- edits add no row to those of a catalog whose keys are listed
pub more_edits : (asked : CatKey → Bool) (there : Catalog) (edits : List Edit) (keys : List CatKey) → AreInOrder keys → ((key : CatKey) → there key ≢ None → IsIn key keys) → rows_at asked there (with_keys edits keys) ≡ rows_at asked there keys
more_edits asked there [] keys order listed = refl
more_edits asked there (edit ∷ edits) keys order listed =
    more_edits asked there edits (with_key edit.key keys) (order_with edit.key keys order) (λ key some. in_with_key key edit.key keys (inr (listed key some)))
    ∙ more_rows asked there edit.key keys order (listed edit.key)

-- a key that had a row before the first step of a root is listed
was_listed : (J : Past) (r : ℕ) → last_answer J r ≢ None → (key : CatKey) → was J r key ≢ None → IsIn key (keys_of J)
was_listed [] r begun key some = absurd (begun refl)
was_listed (entry_is.Step pid pick out ∷ J) r begun key some = elim (cases_eq r pid.0) [
  | inr differs ↦ in_with_keys key out.edits (keys_of J) (was_listed J r (λ none. begun (cond-false (r == pid.0) (Some out.answer) (last_answer J r) (ne_eqb r pid.0 differs) ∙ none)) key (λ none. some (ap (λ (c : Catalog). c key) (cond-false ((r == pid.0) && is_none (last_answer J pid.0)) (cat J) (was J r) (and_left (r == pid.0) (is_none (last_answer J pid.0)) (ne_eqb r pid.0 differs))) ∙ none)))
  | inl same ↦ by (λ begun some. was_listed J r begun key some) (last_answer J pid.0) refl same
]
  where
    by : (last_answer J r ≢ None → was J r key ≢ None → IsIn key (keys_of J)) → (o : Option Answer) → last_answer J pid.0 ≡ o → r ≡ pid.0 → IsIn key (keys_of (entry_is.Step pid pick out ∷ J))
    by on None e same = in_with_keys key out.edits (keys_of J) (has_key J key (λ none. some (ap (λ (c : Catalog). c key) (cond-true ((r == pid.0) && is_none (last_answer J pid.0)) (cat J) (was J r) (and_from (r == pid.0) (is_none (last_answer J pid.0)) (eq-eqb r pid.0 same) (ap is_none e))) ∙ none)))
    by on (Some a) e same = in_with_keys key out.edits (keys_of J) (on (λ none. none-some a (sym none ∙ ap (last_answer J) same ∙ e)) (λ none. some (ap (λ (c : Catalog). c key) (cond-false ((r == pid.0) && is_none (last_answer J pid.0)) (cat J) (was J r) (and_right (r == pid.0) (is_none (last_answer J pid.0)) (ap is_none e))) ∙ none)))
was_listed (entry_is.Undo pid row out ∷ J) r begun key some = in_with_keys key out.edits (keys_of J) (was_listed J r begun key some)
was_listed (entry_is.Base part ∷ J) r begun key some = absurd (begun refl)
was_listed (entry ∷ J) r begun key some = was_listed J r begun key some

-- the cost by the rows that are counted
cost_rows : (args : Args) (lost : ℕ) (keys more : List CatKey) (there : Catalog) → ((table : TableName) → rows_at (is_region_in table (λ id. true)) there more ≡ rows_at (is_region_in table (λ id. true)) there keys) → cost_in args lost more there ≡ cost_in args lost keys there
cost_rows (args_are.Root (request_is.DeleteTable table) first) lost keys more there same = ap (λ rows. 4 + by_64s (length (all_among table rows))) (same table)
cost_rows (args_are.Root (request_is.EnableTable table) first) lost keys more there same = ap (λ rows. 5 + 6 * length (live_among table rows)) (same table)
cost_rows (args_are.Root (request_is.DisableTable table) first) lost keys more there same = ap (λ rows. 5 + 5 * length (live_among table rows)) (same table)
cost_rows (args_are.Root request first) lost keys more there same = refl
cost_rows args lost keys more there same = refl

was_same : (entry : Entry) (J : Past) → IsLegal (entry ∷ J) → (r : ℕ) → last_answer J r ≢ None → was (entry ∷ J) r ≡ was J r
was_same (entry_is.Step pid pick out) J legal r begun = cond-false ((r == pid.0) && is_none (last_answer J pid.0)) (cat J) (was J r) (elim (cases_eq r pid.0) [
  | inl same ↦ and_right (r == pid.0) (is_none (last_answer J pid.0)) (by (last_answer J pid.0) refl same)
  | inr differs ↦ and_left (r == pid.0) (is_none (last_answer J pid.0)) (ne_eqb r pid.0 differs)
])
  where
    by : (o : Option Answer) → last_answer J pid.0 ≡ o → r ≡ pid.0 → is_none (last_answer J pid.0) ≡ false
    by None e same = absurd (begun (ap (last_answer J) same ∙ e))
    by (Some a) e same = ap is_none e
was_same (entry_is.Base part) J legal r begun = absurd (begun ((grown_all J legal.0).unmade r (no_node part J legal.1.0 r)))
was_same entry J legal r begun = refl

pub lost_same : (entry : Entry) (J : Past) → IsLegal (entry ∷ J) → (r : ℕ) (top : Node) → node_of J r ≡ Some top → regions_lost (entry ∷ J) r ≡ regions_lost J r
lost_same (entry_is.Down server) J legal r top is = cond-false (r == made J + 1) _ (regions_lost J r) (ne_eqb r (made J + 1) (λ e. let few = is_there J (grown_all J legal.0) r top is in omega (arith, few, e)))
lost_same (entry_is.Base part) J legal r top is = absurd (none-some top (sym (no_node part J legal.1.0 r) ∙ is))
lost_same entry J legal r top is = refl

keys_more : (entry : Entry) (J : Past) → IsLegal (entry ∷ J) → (r : ℕ) → last_answer J r ≢ None → (asked : CatKey → Bool) → rows_at asked (was J r) (keys_of (entry ∷ J)) ≡ rows_at asked (was J r) (keys_of J)
keys_more (entry_is.Step pid pick out) J legal r begun asked = more_edits asked (was J r) out.edits (keys_of J) (keys_in_order J) (was_listed J r begun)
keys_more (entry_is.Undo pid row out) J legal r begun asked = more_edits asked (was J r) out.edits (keys_of J) (keys_in_order J) (was_listed J r begun)
keys_more (entry_is.Base part) J legal r begun asked = absurd (begun ((grown_all J legal.0).unmade r (no_node part J legal.1.0 r)))
keys_more entry J legal r begun asked = refl

pub cost_same : (entry : Entry) (J : Past) → IsLegal (entry ∷ J) → (r : ℕ) (top : Node) → node_of J r ≡ Some top → last_answer J r ≢ None → cost (entry ∷ J) r top.args ≡ cost J r top.args
cost_same entry J legal r top is begun =
    ap (λ n. cost_in top.args n (keys_of (entry ∷ J)) (was (entry ∷ J) r)) (lost_same entry J legal r top is)
    ∙ ap (λ c. cost_in top.args (regions_lost J r) (keys_of (entry ∷ J)) c) (was_same entry J legal r begun)
    ∙ cost_rows top.args (regions_lost J r) (keys_of J) (keys_of (entry ∷ J)) (was J r) (λ table. keys_more entry J legal r begun (is_region_in table (λ id. true)))

-- a table's row adds no region
no_region : (b : Bool) (table other : TableName) (test : CatRow → Bool) (row : Option CatRow) (more : Rows) → regions_among table test (keep b (key_is.Table other) row more) ≡ regions_among table test more
no_region false table other test row more = refl
no_region true table other test None more = refl
no_region true table other test (Some row) more = refl

same_region_row : (b : Bool) (table : TableName) (region : Region) (test : CatRow → Bool) (row : Option CatRow) (one other : Rows) → regions_among table test one ≡ regions_among table test other → regions_among table test (keep b (key_is.Region region) row one) ≡ regions_among table test (keep (b && true) (key_is.Region region) row other)
same_region_row false table region test row one other same = same
same_region_row true table region test None one other same = same
same_region_row true table region test (Some row) one other same = ap (keep_region table test (key_is.Region region) row) same

-- the regions among the rows of a table are those among the rows of its regions
pub among_same : (table : TableName) (test : CatRow → Bool) (there : Catalog) (keys : List CatKey) → regions_among table test (rows_at (is_over (resource_is.Table table)) there keys) ≡ regions_among table test (rows_at (is_region_in table (λ id. true)) there keys)
among_same table test there [] = refl
among_same table test there (key_is.Ns ns ∷ keys) = among_same table test there keys
among_same table test there (key_is.Table other ∷ keys) = no_region (same_table table other) table other test (there (key_is.Table other)) (rows_at (is_over (resource_is.Table table)) there keys) ∙ among_same table test there keys
among_same table test there (key_is.Region region ∷ keys) = same_region_row (same_table table region.table) table region test (there (key_is.Region region)) (rows_at (is_over (resource_is.Table table)) there keys) (rows_at (is_region_in table (λ id. true)) there keys) (among_same table test there keys)

-- the regions that a root counts at its first step are those by which its cost is counted
pub first_counted : (pid : Pid) (pick : Option Server) (out : StepOut) (J : Past) → last_answer J pid.0 ≡ None → (table : TableName) (test : CatRow → Bool) → length (regions_among table test (rows_at (is_region_in table (λ id. true)) (was (entry_is.Step pid pick out ∷ J) pid.0) (keys_of (entry_is.Step pid pick out ∷ J)))) ≡ length (regions_among table test (rows_at (is_over (resource_is.Table table)) (cat J) (keys_of J)))
first_counted pid pick out J last table test =
    let first : was (entry_is.Step pid pick out ∷ J) pid.0 ≡ cat J = cond-true ((pid.0 == pid.0) && is_none (last_answer J pid.0)) (cat J) (was J pid.0) (and_from (pid.0 == pid.0) (is_none (last_answer J pid.0)) (eq-eqb pid.0 pid.0 refl) (ap is_none last)) in
    ap (λ c. length (regions_among table test (rows_at (is_region_in table (λ id. true)) c (keys_of (entry_is.Step pid pick out ∷ J))))) first
    ∙ ap (λ rows. length (regions_among table test rows)) (more_edits (is_region_in table (λ id. true)) (cat J) out.edits (keys_of J) (keys_in_order J) (λ key some. has_key J key some))
    ∙ sym (ap (λ l. length l) (among_same table test (cat J) (keys_of J)))
