-- The rows of a table's regions stay from the first step of a root that counts them on, as long as it is idle.
use Rattle.std.proofs.Common.{◌≡◌, ◌≢◌, ℕ, List, [], ◌∷◌, length, Bool, true, false, cond, Option, Some, None, refl, ap, sym, ◌∙◌, subst, inl, inr, arith}
use Rattle.std.proofs.lemmas.Bool.{and_left, cases_Bool, cond-false, false≢true, or_right, true≢false}
use Rattle.std.proofs.lemmas.Option.{none-some, same_Some}
use Rattle.hm_names.specs.Server.{Server}
use Rattle.hm_names.specs.declared.pid.Pid.{Pid}
use Rattle.hm_names.specs.declared.table.TableName.{TableName}
use Rattle.hm_data.specs.declared.act.Act.{Act}
use Rattle.hm_data.specs.declared.act.Act.TheVariants as act_is
use Rattle.hm_data.specs.declared.answer.Answer.{Answer}
use Rattle.hm_data.specs.declared.answer.Answer.TheVariants as answer_is
use Rattle.hm_data.specs.declared.answer.Cause.{Cause}
use Rattle.hm_data.specs.declared.args.Args.{Args}
use Rattle.hm_data.specs.declared.args.Args.TheVariants as args_are
use Rattle.hm_data.specs.declared.catalog.CatKey.{CatKey}
use Rattle.hm_data.specs.declared.catalog.CatKey.TheVariants as key_is
use Rattle.hm_data.specs.declared.catalog.CatRow.{CatRow}
use Rattle.hm_data.specs.declared.catalog.Edit.{Edit}
use Rattle.hm_data.specs.declared.catalog.TableState.TheVariants as state_is
use Rattle.hm_data.specs.declared.entry.Entry.{Entry}
use Rattle.hm_data.specs.declared.entry.Entry.TheVariants as entry_is
use Rattle.hm_data.specs.declared.request.Request.TheVariants as request_is
use Rattle.hm_data.specs.declared.step.StepIn.{StepIn}
use Rattle.hm_data.specs.declared.step.StepOut.{StepOut}
use Rattle.hm_model.specs.declared.lock.Ask.{Ask}
use Rattle.hm_model.specs.declared.lock.Resource.TheVariants as resource_is
use Rattle.hm_model.specs.Acts.{act_answer}
use Rattle.hm_model.specs.Answers.{last_answer}
use Rattle.hm_model.specs.Catalog.{Catalog, cat, edited, keep, keys_of, row_at, rows_at, with_keys}
use Rattle.hm_model.specs.Changes.{changed}
use Rattle.hm_model.specs.Checks.{table_disabled, table_enabled}
use Rattle.hm_model.specs.Inputs.{rows_read}
use Rattle.hm_model.specs.Journal.{Past}
use Rattle.hm_model.specs.Keys.{same_key, same_table}
use Rattle.hm_model.specs.Lists.{Line}
use Rattle.hm_model.specs.Locks.{IsIn, asks, exclusive, shared, Clash}
use Rattle.hm_model.specs.Outs.{checked, edits_rows, given}
use Rattle.hm_model.specs.Phase.{cause}
use Rattle.hm_model.specs.Reads.{is_over, is_region_in}
use Rattle.hm_model.specs.RowsSaid.{in_state, is_live_status, regions_among, status_in}
use Rattle.hm_model.specs.Rules.{IsLegal}
use Rattle.hm_model.specs.Tree.{Node, node_of, root_in, root_of}
use Rattle.hm_model.specs.Views.{table_of}
use Rattle.hm_model.proofs.Forest.{roots_wait}
use Rattle.hm_model.proofs.KeyTests.{same_key-is, same_table-is}
use Rattle.hm_model.proofs.LegalSteps.{ready_stops}
use Rattle.hm_model.proofs.Rows.{has_key, keys_in_order}
use Rattle.hm_model.proofs.Trees.{IsWaiting, grown_all, step_of}
use Rattle.hm_costs.proofs.Apart.{step_apart, undo_apart}
use Rattle.hm_model.proofs.Tops.{TopHolds, undo_facts}
use Rattle.hm_costs.proofs.At.{AllCounted, CountsNow, IsCounter, IsIdle, goes_at_once}
use Rattle.hm_costs.proofs.Counted.{among_same, more_edits}
use Rattle.hm_costs.proofs.Edits.{AreEditsOf, IsKeyOf}
use Rattle.hm_costs.proofs.Prices.{Going, Spares}
use Rattle.hm_costs.proofs.Spend.{rows_counted}
use Rattle.hm_costs.proofs.Tables.{IsTop, step_edits, tabled_all, undo_edits_of}
use Rattle.hm_model.proofs.RootTrees.{tree_root}

-- no row of a region of the table is edited
abbrev pub AreAside : TableName → List Edit → Type 0
AreAside table [] = Unit {0}
AreAside table (edit ∷ edits) = (is_region_in table (λ id. true) edit.key ≡ false) × AreAside table edits

-- so it is with edits of another table
aside_of : (own : Option TableName) (table : TableName) → (own ≡ Some table → ⊥) → (edits : List Edit) → AreEditsOf own edits → AreAside table edits
aside_of own table other [] all = tt
aside_of own table other (edit ∷ edits) all = (by edit.key all.0, aside_of own table other edits all.1)
  where
    by : (key : CatKey) → IsKeyOf own key → is_region_in table (λ id. true) key ≡ false
    by (key_is.Region region) is = and_left (same_table table region.table) true (elim (cases_Bool (same_table table region.table)) [
      | inr off ↦ off
      | inl on ↦ absurd (other (is ∙ ap Some (sym (same_table-is table region.table on))))
    ])
    by key is = refl

spared_row : (table : TableName) (edits : List Edit) → AreAside table edits → (key : CatKey) → is_region_in table (λ id. true) key ≡ true → (row : Option CatRow) → edited edits key row ≡ row
spared_row table [] aside key asked row = refl
spared_row table (edit ∷ edits) aside key asked row =
    spared_row table edits aside.1 key asked (cond (same_key key edit.key) edit.after row)
    ∙ cond-false (same_key key edit.key) edit.after row (elim (cases_Bool (same_key key edit.key)) [
      | inr off ↦ off
      | inl on ↦ absurd (true≢false (sym asked ∙ ap (is_region_in table (λ id. true)) (same_key-is key edit.key on) ∙ aside.0))
    ])

rows_alike : (asked : CatKey → Bool) (one other : Catalog) → ((key : CatKey) → asked key ≡ true → one key ≡ other key) → (keys : List CatKey) → rows_at asked one keys ≡ rows_at asked other keys
rows_alike asked one other agree [] = refl
rows_alike asked one other agree (key ∷ keys) = by (asked key) refl ∙ ap (keep (asked key) key (other key)) (rows_alike asked one other agree keys)
  where
    by : (b : Bool) → asked key ≡ b → keep b key (one key) (rows_at asked one keys) ≡ keep b key (other key) (rows_at asked one keys)
    by false e = refl
    by true e = ap (λ o. keep true key o (rows_at asked one keys)) (agree key e)

-- edits beside the regions of a table
module _ (J J' : Past) (edits : List Edit) (there : (key : CatKey) → cat J' key ≡ edited edits key (cat J key)) (keys : keys_of J' ≡ with_keys edits (keys_of J)) where
  regions_kept : (table : TableName) → AreAside table edits → (test : CatRow → Bool) → regions_among table test (rows_at (is_over (resource_is.Table table)) (cat J') (keys_of J')) ≡ regions_among table test (rows_at (is_over (resource_is.Table table)) (cat J) (keys_of J))
  regions_kept table aside test =
      among_same table test (cat J') (keys_of J')
      ∙ ap (regions_among table test) (
      rows_alike (is_region_in table (λ id. true)) (cat J') (cat J) (λ key asked. there key ∙ spared_row table edits aside key asked (cat J key)) (keys_of J')
      ∙ ap (rows_at (is_region_in table (λ id. true)) (cat J)) keys
      ∙ more_edits (is_region_in table (λ id. true)) (cat J) edits (keys_of J) (keys_in_order J) (λ key some. has_key J key some)
      )
      ∙ sym (among_same table test (cat J) (keys_of J))

  act_kept : (table : TableName) → AreAside table edits → (act : Act) → rows_counted act (Some table) (rows_at (is_over (resource_is.Table table)) (cat J') (keys_of J')) ≡ rows_counted act (Some table) (rows_at (is_over (resource_is.Table table)) (cat J) (keys_of J))
  act_kept table aside act_is.OpenRegions = ap (λ l. length l) (regions_kept table aside (λ row. is_live_status (status_in (Some row))))
  act_kept table aside act_is.CloseRegions = ap (λ l. length l) (regions_kept table aside (λ row. is_live_status (status_in (Some row))))
  act_kept table aside act_is.DropRegions = ap (λ l. length l) (regions_kept table aside (λ row. true))
  act_kept table aside act = refl

  count_kept : (args : Args) → IsCounter args → ((table : TableName) → table_of args ≡ Some table → AreAside table edits) → (act : Act) → rows_counted act (table_of args) (rows_read J' args) ≡ rows_counted act (table_of args) (rows_read J args)
  count_kept (args_are.Root (request_is.DeleteTable table) first) counter aside act = act_kept table (aside table refl) act
  count_kept (args_are.Root (request_is.EnableTable table) first) counter aside act = act_kept table (aside table refl) act
  count_kept (args_are.Root (request_is.DisableTable table) first) counter aside act = act_kept table (aside table refl) act
  count_kept (args_are.Root request first) counter aside act = absurd counter
  count_kept args counter aside act = absurd counter

  pub counts_kept : (args : Args) → IsCounter args → ((table : TableName) → table_of args ≡ Some table → AreAside table edits) → (n : ℕ) (lines : List Line) → AllCounted J args n lines → AllCounted J' args n lines
  counts_kept args counter aside n [] all = tt
  counts_kept args counter aside n (line ∷ lines) all = (by line.act all.0, counts_kept args counter aside n lines all.1)
    where
      by : (act : Act) → CountsNow act (table_of args) (rows_read J args) n → CountsNow act (table_of args) (rows_read J' args) n
      by act_is.OpenRegions c = let same = count_kept args counter aside act_is.OpenRegions in omega (arith, c, same)
      by act_is.CloseRegions c = let same = count_kept args counter aside act_is.CloseRegions in omega (arith, c, same)
      by act_is.DropRegions c = let same = count_kept args counter aside act_is.DropRegions in omega (arith, c, same)
      by act_is.Reassign c = c
      by act c = tt

-- it asks for the table, alone or with others
abbrev AsksFor : Args → TableName → Type 0
AsksFor args table = (ask : Ask) × IsIn ask (asks args) × (ask.resource ≡ resource_is.Table table)

-- a root asks for the table that it works on
top_asks : (args : Args) → IsTop args → (table : TableName) → table_of args ≡ Some table → AsksFor args table
top_asks (args_are.Root (request_is.CreateTable own keys) first) top table is = (exclusive (resource_is.Table own), inr (inl refl), ap resource_is.Table (same_Some own table is))
top_asks (args_are.Root (request_is.DeleteTable own) first) top table is = (exclusive (resource_is.Table own), inr (inl refl), ap resource_is.Table (same_Some own table is))
top_asks (args_are.Root (request_is.EnableTable own) first) top table is = (exclusive (resource_is.Table own), inr (inl refl), ap resource_is.Table (same_Some own table is))
top_asks (args_are.Root (request_is.DisableTable own) first) top table is = (exclusive (resource_is.Table own), inr (inl refl), ap resource_is.Table (same_Some own table is))
top_asks (args_are.Root (request_is.ModifyTable own version) first) top table is = (exclusive (resource_is.Table own), inr (inl refl), ap resource_is.Table (same_Some own table is))
top_asks (args_are.Root (request_is.SplitRegion region key) first) top table is = (shared (resource_is.Table region.table), inr (inl refl), ap resource_is.Table (same_Some region.table table is))
top_asks (args_are.Root (request_is.MergeRegions (region ∷ more)) first) top table is = (shared (resource_is.Table region.table), inr (inl refl), ap resource_is.Table (same_Some region.table table is))
top_asks (args_are.Root (request_is.Move region to) first) top table is = (shared (resource_is.Table region.table), inr (inl refl), ap resource_is.Table (same_Some region.table table is))
top_asks (args_are.Root request first) top table is = absurd (none-some table is)
top_asks (args_are.Transit region goal to) top table is = (shared (resource_is.Table region.table), inr (inl refl), ap resource_is.Table (same_Some region.table table is))
top_asks (args_are.Crash server) top table is = absurd (none-some table is)
top_asks (args_are.SweepLayout root) top table is = absurd (none-some table is)
top_asks args top table is = absurd top

-- one that counts its regions asks for it alone
counter_asks : (args : Args) → IsCounter args → (table : TableName) → table_of args ≡ Some table → IsIn (exclusive (resource_is.Table table)) (asks args)
counter_asks (args_are.Root (request_is.DeleteTable own) first) counter table is = inr (inl (ap (λ t. exclusive (resource_is.Table t)) (sym (same_Some own table is))))
counter_asks (args_are.Root (request_is.EnableTable own) first) counter table is = inr (inl (ap (λ t. exclusive (resource_is.Table t)) (sym (same_Some own table is))))
counter_asks (args_are.Root (request_is.DisableTable own) first) counter table is = inr (inl (ap (λ t. exclusive (resource_is.Table t)) (sym (same_Some own table is))))
counter_asks (args_are.Root request first) counter table is = absurd counter
counter_asks args counter table is = absurd counter

clashes : (one : Args) (counter : Args) → IsTop one → IsCounter counter → (table : TableName) → table_of one ≡ Some table → table_of counter ≡ Some table → Clash (asks one) (asks counter)
clashes one counter top counts table own other =
    let a = top_asks one top table own in
    (a.0, exclusive (resource_is.Table table), a.1, counter_asks counter counts table other, a.2, or_right a.0.exclusive true refl)

-- an idle root waits for nobody
idle_waits : (last : Option Answer) → IsIdle last → IsWaiting last → ⊥
idle_waits None idle waits = waits
idle_waits (Some (answer_is.Wait n)) idle waits = idle
idle_waits (Some answer) idle waits = waits

module _ (J : Past) (q : ℕ) (x : Node) (going : Going J q x) (begun : last_answer J q ≢ None) (counter : IsCounter x.args) (idle : IsIdle (last_answer J q)) where
  abbrev holds : TopHolds J q x
  holds = ((going.is_top, going.at_top), begun, going.unended)

  -- a step of another tree edits no row of a region of the table
  step_aside : (pid : Pid) (pick : Option Server) (out : StepOut) → IsLegal (entry_is.Step pid pick out ∷ J) → q ≢ pid.0 → (table : TableName) → table_of x.args ≡ Some table → AreAside table out.edits
  step_aside pid pick out legal other table is =
      let step = step_of pid pick out J (grown_all J legal.0) legal in
      let t = tree_root J legal.0 pid.0 step.node step.node_is in
      let at : node_of J (root_of J pid.0) ≡ Some t.0 = ap (λ n. node_of J (root_in n)) step.node_is ∙ t.1 in
      let far : q ≢ root_of J pid.0 = (λ mine.
      let root : step.node.root ≡ q = sym (mine ∙ ap root_in step.node_is) in
      let runs = ready_stops J pid.0 step.node (last_answer J pid.0) step.ready in
      let w = roots_wait J legal.0 pid.0 step.node step.node_is (λ top. other (sym root ∙ (grown_all J legal.0).tops pid.0 step.node step.node_is top)) runs in
      idle_waits (last_answer J q) idle (subst IsWaiting (sym (ap (last_answer J) (sym root) ∙ w.1)) tt)) in
      aside_of (table_of t.0.args) table (λ own. step_apart pid pick out J legal t.0 (at, t.2) q x holds far (clashes t.0.args x.args (((tabled_all J legal.0).own step.node.root t.0 t.1).top t.2) counter table own is)) out.edits (step_edits pid pick out J legal t.0 at)

  -- nor does an undo
  undo_aside : (pid : Pid) (row : ℕ) (out : StepOut) → IsLegal (entry_is.Undo pid row out ∷ J) → (table : TableName) → table_of x.args ≡ Some table → AreAside table out.edits
  undo_aside pid row out legal table is =
      let f = undo_facts pid row out J legal in
      let far : q ≢ root_of J pid.0 = (λ mine. none-some f.2 (sym going.clean ∙ ap (cause J) mine ∙ f.3)) in
      aside_of (table_of f.0.args) table (λ own. undo_apart pid row out J legal f.0 f.1 q x holds far (clashes f.0.args x.args (((tabled_all J legal.0).own (root_of J pid.0) f.0 f.1.0).top f.1.1) counter table own is)) out.edits (undo_edits_of pid row out J legal f.0 f.1.0)

  -- what such a root counts stays while it is idle and makes no step
  pub counts_stay : (entry : Entry) → IsLegal (entry ∷ J) → Spares entry q → (n : ℕ) (lines : List Line) → AllCounted J x.args n lines → AllCounted (entry ∷ J) x.args n lines
  counts_stay (entry_is.Step pid pick out) legal spares = counts_kept J (entry_is.Step pid pick out ∷ J) out.edits (λ key. refl) refl x.args counter (step_aside pid pick out legal spares)
  counts_stay (entry_is.Undo pid row out) legal spares = counts_kept J (entry_is.Undo pid row out ∷ J) out.edits (λ key. refl) refl x.args counter (undo_aside pid row out legal)
  counts_stay (entry_is.Base part) legal spares = absurd spares
  counts_stay entry legal spares = counts_kept J (entry ∷ J) [] (λ key. refl) refl x.args counter (λ table is. tt)

given_aside : {A : Type 0} (table : TableName) (part : Option A) (next : ℕ) (act : A → StepOut) → ((y : A) → AreAside table (act y).edits) → AreAside table (given part next act).edits
given_aside table None next act each = tt
given_aside table (Some part) next act each = each part

checked_aside : (table : TableName) (next : ℕ) (cause : Option Cause) → AreAside table (checked next cause).edits
checked_aside table next None = tt
checked_aside table next (Some cause) = tt

-- an act that goes on at once edits no row of a region
pub once_aside : (act : Act) → goes_at_once act ≡ true → (next : ℕ) (at : StepIn) (table : TableName) → AreAside table (act_answer act next at).edits
once_aside act_is.CheckTableDisabled once next at table = given_aside table (table_of at.args) next (λ own. checked next (table_disabled (row_at at.rows (key_is.Table own)))) (λ own. checked_aside table next (table_disabled (row_at at.rows (key_is.Table own))))
once_aside act_is.CheckTableEnabled once next at table = given_aside table (table_of at.args) next (λ own. checked next (table_enabled (row_at at.rows (key_is.Table own)))) (λ own. checked_aside table next (table_enabled (row_at at.rows (key_is.Table own))))
once_aside act_is.SetEnabling once next at table = given_aside table (table_of at.args) next (λ own. edits_rows next (changed (row_at at.rows) (key_is.Table own) (in_state state_is.Enabling) ∷ [])) (λ own. (refl, tt))
once_aside act_is.SetDisabling once next at table = given_aside table (table_of at.args) next (λ own. edits_rows next (changed (row_at at.rows) (key_is.Table own) (in_state state_is.Disabling) ∷ [])) (λ own. (refl, tt))
once_aside act once next at table = absurd (false≢true once)

-- so what a root counts stays at a step of such an act
pub own_counts_stay : (pid : Pid) (pick : Option Server) (out : StepOut) (J : Past) (args : Args) → IsCounter args → (act : Act) → goes_at_once act ≡ true → (next : ℕ) (at : StepIn) → out ≡ act_answer act next at → (n : ℕ) (lines : List Line) → AllCounted J args n lines → AllCounted (entry_is.Step pid pick out ∷ J) args n lines
own_counts_stay pid pick out J args counter act once next at says = counts_kept J (entry_is.Step pid pick out ∷ J) out.edits (λ key. refl) refl args counter (λ table is. subst (λ (o : StepOut). AreAside table o.edits) (sym says) (once_aside act once next at table))
