-- What may be undone of a tree edits rows of regions only of tables that its root asks for alone.
use Rattle.std.proofs.Common.{◌≡◌, ◌≢◌, ℕ, ◌==◌, List, [], ◌∷◌, Bool, true, false, cond, Option, Some, None, is_some, refl, ap, sym, ◌∙◌, subst, inl, inr, ◌⊎◌, slice_get}
use Rattle.std.proofs.lemmas.Bool.{cases_Bool, cases_eq, cond-false, cond-true, eq-eqb, false≢true, ne_eqb, true≢false}
use Rattle.std.proofs.lemmas.Option.{none-some, same_Some}
use Rattle.hm_names.specs.Server.{Server}
use Rattle.hm_names.specs.declared.pid.Pid.{Pid}
use Rattle.hm_names.specs.declared.table.TableName.{TableName}
use Rattle.hm_data.specs.Numbers.{act_number}
use Rattle.hm_data.specs.declared.act.Act.{Act}
use Rattle.hm_data.specs.declared.act.Act.TheVariants as act_is
use Rattle.hm_data.specs.declared.act.Back.{Back}
use Rattle.hm_data.specs.declared.act.Back.TheVariants as back_is
use Rattle.hm_data.specs.declared.answer.Answer.{Answer}
use Rattle.hm_data.specs.declared.answer.Cause.{Cause}
use Rattle.hm_data.specs.declared.answer.Cause.TheVariants as cause_is
use Rattle.hm_data.specs.declared.args.Args.{Args}
use Rattle.hm_data.specs.declared.args.Args.TheVariants as args_are
use Rattle.hm_data.specs.declared.catalog.CatKey.TheVariants as key_is
use Rattle.hm_data.specs.declared.catalog.CatRow.{CatRow}
use Rattle.hm_data.specs.declared.catalog.Edit.{Edit}
use Rattle.hm_data.specs.declared.entry.Entry.TheVariants as entry_is
use Rattle.hm_data.specs.declared.request.Request.{Request}
use Rattle.hm_data.specs.declared.request.Request.TheVariants as request_is
use Rattle.hm_data.specs.declared.sheet.Row.{Row}
use Rattle.hm_data.specs.declared.step.StepOut.{StepOut}
use Rattle.hm_model.specs.ActSorts.{is_edit}
use Rattle.hm_model.specs.Acts.{act_answer}
use Rattle.hm_model.specs.Evaluation.{is_cut_off}
use Rattle.hm_model.specs.Answers.{failing, is_stopped, last_answer, row_after, row_of}
use Rattle.hm_model.specs.Catalog.{edited}
use Rattle.hm_model.specs.Changes.{region_key}
use Rattle.hm_model.specs.Inputs.{step_input}
use Rattle.hm_model.specs.Journal.{Past}
use Rattle.hm_model.specs.Kinds.{first_row_of, kind_of}
use Rattle.hm_model.specs.Lists.{exact_rows}
use Rattle.hm_model.specs.Locks.{IsIn, asks, exclusive}
use Rattle.hm_model.specs.Outs.{fails}
use Rattle.hm_model.specs.Phase.{cause, or_else}
use Rattle.hm_model.specs.Reads.{covers}
use Rattle.hm_model.specs.Rules.{IsLegal}
use Rattle.hm_model.specs.Sheets.{next_row, row_in, sheet_for, sheets_by, undo_by, undo_of_next}
use Rattle.hm_model.specs.Tree.{Node, is_top, node_of, root_in, root_of}
use Rattle.hm_model.specs.Undo.{Undoable, pushed, rest_of, row_if_there, stack}
use Rattle.hm_model.specs.Undoing.{turned_round, undo_edits}
use Rattle.hm_model.specs.Validity.{is_among}
use Rattle.hm_model.specs.declared.lock.Resource.TheVariants as resource_is
use Rattle.hm_model.proofs.ExactRows.{is_listed}
use Rattle.hm_model.proofs.LegalSteps.{StepFacts, ready_stops}
use Rattle.hm_model.proofs.PlainActs.{GoesTo, plain_act}
use Rattle.hm_model.proofs.StepDoes.{Does}
use Rattle.hm_model.proofs.Trees.{Grown, answer_now, does_of, down_rooted, grown_all, sheets_stay, start_none, step_of, submit_rooted}
use Rattle.hm_serial.proofs.Apart.{Aside, step_top}
use Rattle.hm_kinds.proofs.Editless.{none_act}
use Rattle.hm_serial.proofs.Editing.{covers_from, rows_table}
use Rattle.hm_serial.proofs.FallAll.{held_before, falls_all, step_aside, undo_back}
use Rattle.hm_serial.proofs.Fallen.{Falls, MayFall, may_on, root_of_node}
use Rattle.hm_serial.proofs.Falling.{IsPast, StepEdits, goes_past, late_behind, places_of}
use Rattle.hm_serial.proofs.FallStep.{belongs_here, edits_of, kid_or_root, led_here, other_last, own_args, own_root}
use Rattle.hm_serial.proofs.Frame.{unwound}
use Rattle.hm_serial.proofs.Kinship.{editless, is_kid, is_lined, is_nil, kid_fails, kid_rows, led_at, lined_is, step_clean, step_within}
use Rattle.hm_serial.proofs.Local.{Within, within_others, within_undo}
use Rattle.hm_model.proofs.Tops.{TopHolds, TopIs}
use Rattle.hm_model.proofs.Small.{cons_nil}
use Rattle.hm_serial.proofs.Standing.{holds_left, step_left, step_open}

-- undoing a step leaves the rows of the regions of tables that the root doesn't ask for alone
abbrev pub SparesOne : Args → Undoable → Type 0
SparesOne args x =
    (t : TableName) (id : ℕ) → covers args (key_is.Table t) ≡ false → (row : Option CatRow) → edited (undo_edits x.undo x.edits) (region_key t id) row ≡ row

abbrev pub Spares : Args → List Undoable → Type 0
Spares args [] = Unit {0}
Spares args (latest ∷ below) = SparesOne args latest × Spares args below

pub spared : (args : Args) (list : List Undoable) → Spares args list → (t : TableName) (id : ℕ) → covers args (key_is.Table t) ≡ false → (row : Option CatRow) → unwound list (region_key t id) row ≡ row
spared args [] all t id off row = refl
spared args (latest ∷ below) all t id off row = ap (unwound below (region_key t id)) (all.0 t id off row) ∙ spared args below all.1 t id off row

-- edits leave those rows: they lie within what covers none of them
abbrev EditsSpare : Args → List Edit → Type 0
EditsSpare args edits = (t : TableName) (id : ℕ) → covers args (key_is.Table t) ≡ false → (other : Args) × Within other edits × (covers other (region_key t id) ≡ false)

push_spares : (args : Args) (undo : Back) (failed : Bool) (p row : ℕ) (edits : List Edit) (below : List Undoable) → EditsSpare args edits → Spares args below → Spares args (pushed undo failed p row edits below)
push_spares args back_is.Nothing failed p row edits below spare all = all
push_spares args back_is.Edits true p row edits below spare all = all
push_spares args back_is.Edits false p row edits below spare all = ((λ t id off o. let s = spare t id off in within_others s.0 (turned_round edits) (within_undo s.0 edits s.1) (region_key t id) s.2 o), all)
push_spares args back_is.Sweep true p row edits below spare all = all
push_spares args back_is.Sweep false p row edits below spare all = ((λ t id off o. refl), all)
push_spares args back_is.Reopen true p row edits below spare all = all
push_spares args back_is.Reopen false p row edits below spare all = ((λ t id off o. refl), all)

none_spares : (args : Args) (edits : List Edit) → edits ≡ [] → EditsSpare args edits
none_spares args edits none t id off = (args_are.AddRegions t 0 [], subst (Within (args_are.AddRegions t 0 [])) (sym none) tt, refl)

-- a split or a merge: what its root asks for alone are regions
abbrev pub is_local : Request → Bool
is_local (request_is.SplitRegion region key) = true
is_local (request_is.MergeRegions regions) = true
is_local (request_is.Move region to) = true
is_local request = false

-- any other request covers a region's row only with the table's
pub wide_covers : (request : Request) (first : ℕ) → is_local request ≡ false → (t : TableName) (id : ℕ) → covers (args_are.Root request first) (region_key t id) ≡ covers (args_are.Root request first) (key_is.Table t)
wide_covers (request_is.SplitRegion region key) first h t id = absurd (true≢false h)
wide_covers (request_is.MergeRegions regions) first h t id = absurd (true≢false h)
wide_covers (request_is.Move region to) first h t id = absurd (true≢false h)
wide_covers request first h t id = refl

abbrev EndsLate : ℕ → Type 0
EndsLate kind = (act : Act) → is_listed kind act ≡ true → is_edit act ≡ true → is_among (2 ∷ 4 ∷ 11 ∷ 14 ∷ 18 ∷ 19 ∷ 22 ∷ 27 ∷ 30 ∷ []) (act_number act) ≡ true

-- the only edit of a split, and that of a merge
split_edit : EndsLate 8
split_edit act_is.UpdateSplitMeta l e = refl
split_edit act_is.CheckSplit l e = absurd (false≢true e)
split_edit act_is.CloseParent l e = absurd (false≢true e)
split_edit act_is.Layout l e = absurd (false≢true e)
split_edit act_is.OpenDaughters l e = absurd (false≢true e)
split_edit act_is.Finish l e = absurd (false≢true e)
split_edit act l e = absurd (false≢true l)

merge_edit : EndsLate 9
merge_edit act_is.UpdateMergeMeta l e = refl
merge_edit act_is.CheckMerge l e = absurd (false≢true e)
merge_edit act_is.CloseParents l e = absurd (false≢true e)
merge_edit act_is.Layout l e = absurd (false≢true e)
merge_edit act_is.OpenMerged l e = absurd (false≢true e)
merge_edit act_is.Finish l e = absurd (false≢true e)
merge_edit act l e = absurd (false≢true l)

nil_is : (rows : List Row) → is_nil rows ≡ true → rows ≡ []
nil_is [] h = refl
nil_is (row ∷ rows) h = absurd (false≢true h)

module _ (pid : Pid) (pick : Option Server) (out : StepOut) (J : Past) (grown : Grown J) (falls : Falls J) (step : StepFacts J pid.0 pick out) (d : Does J pid.0 step.node.args (last_answer J pid.0) step.sheet.rows out)
    (aside : Aside J step.node.root (root_of_node J grown pid.0 step.node step.node_is).0) where
  abbrev pub J' : Past
  J' = entry_is.Step pid pick out ∷ J

  abbrev top : Node
  top = (own_root pid pick out J grown falls step d aside).0

  top_is : TopIs J step.node.root (own_root pid pick out J grown falls step d aside).0
  top_is = (own_root pid pick out J grown falls step d aside).1

  runs_now : is_stopped (last_answer J pid.0) ≡ false
  runs_now = ready_stops J pid.0 step.node (last_answer J pid.0) step.ready

  root_step : step.node.above ≡ [] → (step.node.root ≡ pid.0) × (top ≡ step.node)
  root_step e =
      let root = grown.tops pid.0 step.node step.node_is e in
      (root, same_Some top step.node (sym top_is.0 ∙ ap (node_of J) root ∙ step.node_is))

  on : (root_of J pid.0 == step.node.root) ≡ true
  on = eq-eqb (root_of J pid.0) step.node.root (ap root_in step.node_is)

  pub cause_now : cause J' step.node.root ≡ or_else (cause J step.node.root) (failing out.answer)
  cause_now = cond-true (root_of J pid.0 == step.node.root) _ (cause J step.node.root) on

  next_undo : undo_of_next J pid.0 (node_of J pid.0) ≡ step.row.undo
  next_undo = ap (undo_of_next J pid.0) step.node_is ∙ ap (λ s. undo_by (row_in s (row_of J pid.0 step.node))) step.sheet_is ∙ ap undo_by step.row_is

  pub stack_is : stack J' step.node.root ≡ pushed step.row.undo (is_some (failing out.answer)) pid.0 (row_if_there J pid.0 (node_of J pid.0)) out.edits (stack J step.node.root)
  stack_is = cond-true (root_of J pid.0 == step.node.root) _ (stack J step.node.root) on ∙ ap (λ u. pushed u (is_some (failing out.answer)) pid.0 (row_if_there J pid.0 (node_of J pid.0)) out.edits (stack J step.node.root)) next_undo

  led_now : exact_rows (kind_of step.node.args) ≡ [] → Rattle.hm_model.proofs.ExactRows.IsLed (kind_of step.node.args) step.sheet.rows (row_of J pid.0 step.node)
  led_now = led_here pid pick out J grown falls step d aside

  args_now : exact_rows (kind_of step.node.args) ≡ [] → rows_table step.node.args ≡ None → top.args ≡ step.node.args
  args_now = own_args pid pick out J grown falls step d aside

  belongs_now : (t : TableName) → rows_table step.node.args ≡ Some t → IsIn (exclusive (resource_is.Table t)) (asks top.args)
  belongs_now = belongs_here pid pick out J grown falls step d aside

  edits_now : exact_rows (kind_of step.node.args) ≡ [] → StepEdits J pid.0 top.args step.node.args step.sheet step.row out
  edits_now = edits_of pid pick out J grown falls step d aside

  last_root : step.node.above ≡ [] → last_answer J' step.node.root ≡ Some out.answer
  last_root e = ap (last_answer (entry_is.Step pid pick out ∷ J)) (root_step e).0 ∙ answer_now pid pick out J

  next_root : step.node.above ≡ [] → next_row J' step.node.root top ≡ slice_get step.sheet.rows (row_after (first_row_of step.node.args) (Some out.answer))
  next_root e =
      ap (next_row (entry_is.Step pid pick out ∷ J) step.node.root) (root_step e).1
      ∙ ap (λ o. row_in (sheet_for (sheets_by J step.node.root) (kind_of step.node.args)) (row_after (first_row_of step.node.args) o)) (last_root e)
      ∙ ap (λ s. row_in s (row_after (first_row_of step.node.args) (Some out.answer))) step.sheet_is

  next_before : step.node.above ≡ [] → next_row J step.node.root top ≡ Some step.row
  next_before e =
      ap (next_row J step.node.root) (root_step e).1 ∙ ap (λ p. next_row J p step.node) (root_step e).0
      ∙ ap (λ s. row_in s (row_of J pid.0 step.node)) step.sheet_is ∙ step.row_is

  -- past the point a root's tree may not be undone
  past_not : step.node.above ≡ [] → is_lined top.args ≡ true → failing out.answer ≡ None → IsPast step.sheet.rows (first_row_of step.node.args) out.answer → MayFall J' step.node.root top → ⊥
  past_not e lined fine past (inl listless) = true≢false (sym lined ∙ listless)
  past_not e lined fine past (inr (inl failed)) = failed (cause_now ∙ ap (λ c. or_else c (failing out.answer)) (ap (cause J) (root_step e).0 ∙ step.uncaused (ap is_top e)) ∙ fine)
  past_not e lined fine past (inr (inr may)) = true≢false (sym (past (ap is_stopped (sym (last_root e)) ∙ may.0) may.1 (sym (next_root e) ∙ may.2)) ∙ may.3)

  -- the root of a split or a merge edits nothing, or goes past the point
  module _ (exact : exact_rows (kind_of step.node.args) ≡ []) (e : step.node.above ≡ []) where
    lined_top : is_lined top.args ≡ true
    lined_top = ap (λ (n : Node). is_lined n.args) (root_step e).1 ∙ lined_is step.node.args exact

    early_may : step.row.after ≡ false → MayFall J step.node.root top
    early_may early = inr (inr (ap (λ p. is_stopped (last_answer J p)) (root_step e).0 ∙ runs_now, step.row, next_before e, early))

    uncut_edits : EndsLate (kind_of step.node.args) → out ≡ act_answer step.row.act step.row.next (step_input J pid.0 step.node pick) → (out.edits ≡ []) ⊎ IsPast step.sheet.rows (first_row_of step.node.args) out.answer
    uncut_edits ends is =
        let led = led_at J pid.0 pick out step d led_now top.args args_now belongs_now exact in
        elim (cases_Bool (is_edit step.row.act)) [
          | inr off ↦ inl (ap (λ (o : StepOut). o.edits) is ∙ none_act step.row.act led.plain off step.row.next (step_input J pid.0 step.node pick))
          | inl edit ↦ inr (goes_past step.sheet.rows (first_row_of step.node.args) step.row.next out.answer (subst (λ (o : StepOut). GoesTo step.row.next o.answer) (sym is) (plain_act step.row.act led.plain step.row.next (step_input J pid.0 step.node pick)).goes)
              (λ row at. late_behind step.sheet step.valid led.behind step.row.next ((places_of (kind_of step.node.args) step.sheet.rows step.row led).ends_late (ends step.row.act led.listed edit)) led.leads row at))
        ]

    local_edits : EndsLate (kind_of step.node.args) → (out.edits ≡ []) ⊎ IsPast step.sheet.rows (first_row_of step.node.args) out.answer
    local_edits ends = by (is_cut_off step.row (step_input J pid.0 step.node pick)) step.out_is
      where
        by : (b : Bool) → out ≡ cond b (fails cause_is.Aborted) (act_answer step.row.act step.row.next (step_input J pid.0 step.node pick)) → (out.edits ≡ []) ⊎ IsPast step.sheet.rows (first_row_of step.node.args) out.answer
        by true is = inl (ap (λ (o : StepOut). o.edits) is)
        by false is = uncut_edits ends is

    -- so where it may still be undone it edited nothing
    local_spares : ((out.edits ≡ []) ⊎ IsPast step.sheet.rows (first_row_of step.node.args) out.answer) → MayFall J' step.node.root top → EditsSpare top.args out.edits
    local_spares (inl none) may = none_spares top.args out.edits none
    local_spares (inr past) may = by (failing out.answer) refl
      where
        by : (o : Option Cause) → failing out.answer ≡ o → EditsSpare top.args out.edits
        by (Some c) f = none_spares top.args out.edits (step_clean J pid.0 pick out step d led_now top.args args_now belongs_now c f)
        by None f = absurd (past_not e lined_top f past may)

    wide_spares : (request : Request) (first : ℕ) → top.args ≡ args_are.Root request first → is_local request ≡ false → EditsSpare top.args out.edits
    wide_spares request first own wide t id off =
        (top.args, step_within J pid.0 pick out step d led_now top.args args_now belongs_now, ap (λ a. covers a (region_key t id)) own ∙ wide_covers request first wide t id ∙ ap (λ a. covers a (key_is.Table t)) (sym own) ∙ off)

    by_args : (args : Args) → step.node.args ≡ args → rows_table args ≡ None → MayFall J' step.node.root top → EditsSpare top.args out.edits
    by_args (args_are.Root (request_is.SplitRegion region key) first) own none may = local_spares (local_edits (subst (λ a. EndsLate (kind_of a)) (sym own) split_edit)) may
    by_args (args_are.Root (request_is.MergeRegions regions) first) own none may = local_spares (local_edits (subst (λ a. EndsLate (kind_of a)) (sym own) merge_edit)) may
    by_args (args_are.Root (request_is.CreateNamespace ns) first) own none may = wide_spares (request_is.CreateNamespace ns) first (ap (λ (n : Node). n.args) (root_step e).1 ∙ own) refl
    by_args (args_are.Root (request_is.DropNamespace ns) first) own none may = wide_spares (request_is.DropNamespace ns) first (ap (λ (n : Node). n.args) (root_step e).1 ∙ own) refl
    by_args (args_are.Root (request_is.CreateTable table keys) first) own none may = wide_spares (request_is.CreateTable table keys) first (ap (λ (n : Node). n.args) (root_step e).1 ∙ own) refl
    by_args (args_are.Root (request_is.DeleteTable table) first) own none may = wide_spares (request_is.DeleteTable table) first (ap (λ (n : Node). n.args) (root_step e).1 ∙ own) refl
    by_args (args_are.Root (request_is.EnableTable table) first) own none may = wide_spares (request_is.EnableTable table) first (ap (λ (n : Node). n.args) (root_step e).1 ∙ own) refl
    by_args (args_are.Root (request_is.DisableTable table) first) own none may = wide_spares (request_is.DisableTable table) first (ap (λ (n : Node). n.args) (root_step e).1 ∙ own) refl
    by_args (args_are.Root (request_is.ModifyTable table version) first) own none may = wide_spares (request_is.ModifyTable table version) first (ap (λ (n : Node). n.args) (root_step e).1 ∙ own) refl
    by_args (args_are.Root (request_is.Move region to) first) own none may = absurd (cons_nil _ _ (ap (λ a. exact_rows (kind_of a)) (sym own) ∙ exact))
    by_args (args_are.AddRegions table first bounds) own none may = absurd (none-some table (sym none))
    by_args (args_are.DropRegions table ids) own none may = absurd (none-some table (sym none))
    by_args args own none may = absurd (cons_nil _ _ (ap (λ a. exact_rows (kind_of a)) (sym own) ∙ exact))

    lined_could : MayFall J' step.node.root top → MayFall J step.node.root top × EditsSpare top.args out.edits
    lined_could may = (
      elim (cases_Bool step.row.after) [
        | inl late ↦ let l = (edits_now exact).late late in absurd (past_not e lined_top l.0 l.1 may)
        | inr early ↦ early_may early
      ],
      by_args step.node.args refl (falls.tops pid.0 step.node (step.node_is, e)) may,
    )

  root_could : step.node.above ≡ [] → MayFall J' step.node.root top → MayFall J step.node.root top × EditsSpare top.args out.edits
  root_could e may = elim (cases_Bool (is_lined step.node.args)) [
    | inl lined ↦ lined_could (nil_is (exact_rows (kind_of step.node.args)) lined) e may
    | inr off ↦ (
      inl (ap (λ (n : Node). is_lined n.args) (root_step e).1 ∙ off),
      elim (editless J pid.0 pick out step d led_now top.args args_now belongs_now) [
        | inr none ↦ none_spares top.args out.edits none
        | inl exact ↦ absurd (true≢false (sym (lined_is step.node.args exact) ∙ off))
      ],
    )
  ]

  -- a descendant
  module _ (kid : step.node.above ≢ []) where
    is_its_kid : is_kid step.node.args ≡ true
    is_its_kid = falls.kids pid.0 step.node step.node_is kid

    kid_back : MayFall J' step.node.root top → MayFall J step.node.root top
    kid_back (inl listless) = inl listless
    kid_back (inr (inr may)) =
        let last = other_last pid pick out J grown falls step d aside kid in
        inr (inr (ap is_stopped (sym last) ∙ may.0, may.1, subst (λ o. row_in (sheet_for (sheets_by J top.root) (kind_of top.args)) (row_after (first_row_of top.args) o) ≡ Some may.1) last may.2, may.3))
    kid_back (inr (inl failed)) = by (cause J step.node.root) refl (failing out.answer) refl
      where
        by : (c : Option Cause) → cause J step.node.root ≡ c → (f : Option Cause) → failing out.answer ≡ f → MayFall J step.node.root top
        by (Some c) e f g = inr (inl (λ none. none-some c (sym none ∙ e)))
        by None e None g = absurd (failed (cause_now ∙ ap (λ c. or_else c (failing out.answer)) e ∙ g))
        by None e (Some c) g = falls.safe pid.0 step.node step.node_is kid runs_now (kid_fails J pid.0 pick out step d led_now top.args args_now belongs_now is_its_kid (λ r m. falls.near pid.0 step.node step.node_is kid r m) c g) top top_is.0

    none_own : (u : TableName) → rows_table step.node.args ≡ Some u → exact_rows (kind_of step.node.args) ≡ [] → rows_table step.node.args ≡ None → args_are.Root (request_is.DeleteTable u) 0 ≡ step.node.args
    none_own u some exact none = absurd (none-some u (sym none ∙ some))

    its_own : (u : TableName) → rows_table step.node.args ≡ Some u → (t : TableName) → rows_table step.node.args ≡ Some t → IsIn (exclusive (resource_is.Table t)) (asks (args_are.Root (request_is.DeleteTable u) 0))
    its_own u some t is = inr (inl (ap (λ x. exclusive (resource_is.Table x)) (same_Some t u (sym is ∙ some))))

    rows_spare : (u : TableName) → rows_table step.node.args ≡ Some u → EditsSpare top.args out.edits
    rows_spare u some t id off = (
      args_are.Root (request_is.DeleteTable u) 0,
      step_within J pid.0 pick out step d led_now (args_are.Root (request_is.DeleteTable u) 0) (none_own u some) (its_own u some),
      elim (cases_Bool (covers (args_are.Root (request_is.DeleteTable u) 0) (region_key t id))) [
        | inr off_it ↦ off_it
        | inl hit ↦ absurd (true≢false (sym (covers_from top.args (resource_is.Table u) (key_is.Table t) (belongs_now u some) (over (Rattle.hm_model.specs.Keys.same_table u t) hit)) ∙ off))
      ],
    )
      where
        over : (b : Bool) → Rattle.std.proofs.Common.◌||◌ b false ≡ true → b ≡ true
        over true h = refl
        over false h = absurd (false≢true h)

    kid_spares : EditsSpare top.args out.edits
    kid_spares = by (rows_table step.node.args) refl
      where
        by : (o : Option TableName) → rows_table step.node.args ≡ o → EditsSpare top.args out.edits
        by (Some u) some = rows_spare u some
        by None none = elim (editless J pid.0 pick out step d led_now top.args args_now belongs_now) [
          | inr nothing ↦ none_spares top.args out.edits nothing
          | inl exact ↦ absurd (kid_rows step.node.args is_its_kid exact none)
        ]

  could : MayFall J' step.node.root top → MayFall J step.node.root top × EditsSpare top.args out.edits
  could may = elim (kid_or_root pid pick out J grown falls step d aside) [ inl e ↦ root_could e may | inr kid ↦ (kid_back kid may, kid_spares kid) ]

  -- a tree that may be undone after the step might before
  pub could_fall : MayFall J' step.node.root top → MayFall J step.node.root top
  could_fall may = (could may).0

  -- after a root's row past the point it may not
  pub late_stands : exact_rows (kind_of step.node.args) ≡ [] → step.node.above ≡ [] → step.row.after ≡ true → MayFall J' step.node.root top → ⊥
  late_stands exact e late may = let l = (edits_now exact).late late in past_not e (lined_top exact e) l.0 l.1 may

  pub spares_now : (MayFall J step.node.root top → Spares top.args (stack J step.node.root)) → MayFall J' step.node.root top → Spares top.args (stack J' step.node.root)
  spares_now before may =
      let c = could may in
      subst (Spares top.args) (sym stack_is) (push_spares top.args step.row.undo (is_some (failing out.answer)) pid.0 (row_if_there J pid.0 (node_of J pid.0)) out.edits (stack J step.node.root) c.1 (before c.0))

abbrev pub AllSpared : Past → Type 0
AllSpared J = (r : ℕ) (node : Node) → TopHolds J r node → MayFall J r node → Spares node.args (stack J r)

-- a step
module _ (pid : Pid) (pick : Option Server) (out : StepOut) (J : Past) (legal : IsLegal (entry_is.Step pid pick out ∷ J)) (before : AllSpared J) where
  abbrev behind : Past
  behind = entry_is.Step pid pick out ∷ J

  abbrev all : Rattle.hm_serial.proofs.FallAll.All J
  all = falls_all J legal.0

  abbrev made : StepFacts J pid.0 pick out
  made = step_of pid pick out J (grown_all J legal.0) legal

  abbrev does : Does J pid.0 made.node.args (last_answer J pid.0) made.sheet.rows out
  does = does_of pid pick out J (grown_all J legal.0) made

  abbrev apart : Aside J made.node.root (root_of_node J (grown_all J legal.0) pid.0 made.node made.node_is).0
  apart = step_aside pid pick out J legal all

  its : (y : Node) × TopIs J made.node.root y
  its = own_root pid pick out J (grown_all J legal.0) all.falls made does apart

  its_is : (own_root pid pick out J (grown_all J legal.0) all.falls made does apart).0 ≡ its.0
  its_is = let own = own_root pid pick out J (grown_all J legal.0) all.falls made does apart in same_Some own.0 its.0 (sym own.1.0 ∙ its.1.0)

  before_own : (y : Node) → TopIs J made.node.root y → MayFall J made.node.root y → Spares y.args (stack J made.node.root)
  before_own y top may = by (last_answer J made.node.root) refl
    where
      by : (o : Option Answer) → last_answer J made.node.root ≡ o → Spares y.args (stack J made.node.root)
      by None l = subst (Spares y.args) (sym (all.falls.fresh made.node.root y top l).0) tt
      by (Some a) l = before made.node.root y (top, (λ none. none-some a (sym none ∙ l)), step_open pid pick out J (grown_all J legal.0) made does) may

  own_spares : MayFall (entry_is.Step pid pick out ∷ J) made.node.root its.0 → Spares its.0.args (stack (entry_is.Step pid pick out ∷ J) made.node.root)
  own_spares may =
      let own = own_root pid pick out J (grown_all J legal.0) all.falls made does apart in
      subst (λ (n : Node). Spares n.args (stack (entry_is.Step pid pick out ∷ J) made.node.root)) its_is
      (spares_now pid pick out J (grown_all J legal.0) all.falls made does apart (before_own own.0 own.1) (subst (λ (n : Node). MayFall (entry_is.Step pid pick out ∷ J) made.node.root n) (sym its_is) may))

  step_spared : AllSpared (entry_is.Step pid pick out ∷ J)
  step_spared r node h may = elim (cases_eq r made.node.root) [
    | inr differs ↦
        let left = step_left pid pick out J (grown_all J legal.0) made does r node (step_top pid pick out J made r node h.0) differs in
        subst (Spares node.args) (sym left.stack_is) (before r node (holds_left J (entry_is.Step pid pick out ∷ J) r node left h) (may_on (entry_is.Step pid pick out ∷ J) J r node (sym left.cause_is) (sym left.last) refl may))
    | inl same ↦
        let was = step_top pid pick out J made r node h.0 in
        let is : its.0 ≡ node = same_Some its.0 node (sym its.1.0 ∙ ap (node_of J) (sym same) ∙ was.0) in
        subst (λ k. Spares node.args (stack (entry_is.Step pid pick out ∷ J) k)) (sym same) (subst (λ (n : Node). Spares n.args (stack (entry_is.Step pid pick out ∷ J) made.node.root)) is
        (own_spares (subst (λ (n : Node). MayFall (entry_is.Step pid pick out ∷ J) made.node.root n) (sym is) (subst (λ k. MayFall (entry_is.Step pid pick out ∷ J) k node) same may))))
  ]

rest_spared : (args : Args) (list below : List Undoable) → rest_of list ≡ below → Spares args list → Spares args below
rest_spared args [] below e each = subst (Spares args) e tt
rest_spared args (latest ∷ more) below e each = subst (Spares args) e each.1

undo_spared : (pid : Pid) (row : ℕ) (out : StepOut) (J : Past) (legal : IsLegal (entry_is.Undo pid row out ∷ J)) → AllSpared J → AllSpared (entry_is.Undo pid row out ∷ J)
undo_spared pid row out J legal before r node h may =
    let held = undo_back pid row out J legal (grown_all J legal.0) (falls_all J legal.0).falls r node h in
    let old = before r node held (may_on (entry_is.Undo pid row out ∷ J) J r node refl refl (sym (sheets_stay (entry_is.Undo pid row out) J legal r node held.0.0)) may) in
    elim (cases_eq (root_of J pid.0) r) [
      | inl same ↦ rest_spared node.args (stack J r) (stack (entry_is.Undo pid row out ∷ J) r) (sym (cond-true (root_of J pid.0 == r) (rest_of (stack J r)) (stack J r) (eq-eqb (root_of J pid.0) r same))) old
      | inr differs ↦ subst (Spares node.args) (sym (cond-false (root_of J pid.0 == r) (rest_of (stack J r)) (stack J r) (ne_eqb (root_of J pid.0) r differs))) old
    ]

-- in every legal journal
pub spared_all : (J : Past) → IsLegal J → AllSpared J
spared_all [] legal r node h may = absurd (none-some node h.0.0)
spared_all (entry_is.Start sheets ∷ J) legal r node h may = absurd (none-some node (sym (start_none J legal.1.0.0 r) ∙ h.0.0))
spared_all (entry_is.Submit nonce request ∷ J) legal r node h may =
    let held = held_before J (entry_is.Submit nonce request ∷ J) (submit_rooted nonce request J (grown_all J legal.0)) (grown_all J legal.0) r node refl refl refl h in
    spared_all J legal.0 r node held (may_on (entry_is.Submit nonce request ∷ J) J r node refl refl (sym (sheets_stay (entry_is.Submit nonce request) J legal r node held.0.0)) may)
spared_all (entry_is.Step pid pick out ∷ J) legal r node h may = step_spared pid pick out J legal (spared_all J legal.0) r node h may
spared_all (entry_is.Undo pid row out ∷ J) legal r node h may = undo_spared pid row out J legal (spared_all J legal.0) r node h may
spared_all (entry_is.Down server ∷ J) legal r node h may =
    let held = held_before J (entry_is.Down server ∷ J) (down_rooted server J (grown_all J legal.0)) (grown_all J legal.0) r node refl refl refl h in
    spared_all J legal.0 r node held (may_on (entry_is.Down server ∷ J) J r node refl refl (sym (sheets_stay (entry_is.Down server) J legal r node held.0.0)) may)
spared_all (entry_is.Base part ∷ J) legal r node h may = absurd (none-some node h.0.0)
spared_all (entry ∷ J) legal r node h may = spared_all J legal.0 r node h may
