-- A step keeps that what may still be undone leads back.
use Rattle.std.proofs.Common.{◌≡◌, ◌≢◌, ℕ, ◌-◌, ◌<◌, ◌≤◌, List, [], ◌∷◌, Bool, true, false, ◌&&◌, ◌==◌, Option, Some, None, is_some, is_none, refl, ap, sym, ◌∙◌, subst, inl, inr, ◌⊎◌, slice_get, arith}
use Rattle.std.proofs.lemmas.Bool.{and_from, and_right, cases_Bool, cases_eq, cond-false, cond-true, eq-eqb, false≢true, ne_eqb, true≢false}
use Rattle.std.proofs.lemmas.Option.{none-some, same_Some}
use Rattle.hm_names.specs.Region.{Region}
use Rattle.hm_names.specs.Server.{Server}
use Rattle.hm_names.specs.declared.pid.Pid.{Pid}
use Rattle.hm_names.specs.declared.table.TableName.{TableName}
use Rattle.hm_data.specs.declared.act.Back.TheVariants as back_is
use Rattle.hm_data.specs.declared.answer.Answer.{Answer}
use Rattle.hm_data.specs.declared.answer.Cause.{Cause}
use Rattle.hm_data.specs.declared.args.Args.{Args}
use Rattle.hm_data.specs.declared.args.Args.TheVariants as args_are
use Rattle.hm_data.specs.declared.catalog.CatKey.{CatKey}
use Rattle.hm_data.specs.declared.catalog.Edit.{Edit}
use Rattle.hm_data.specs.declared.entry.Entry.TheVariants as entry_is
use Rattle.hm_data.specs.declared.sheet.Row.{Row}
use Rattle.hm_data.specs.declared.step.StepOut.{StepOut}
use Rattle.hm_model.specs.Answers.{failing, is_stopped, last_answer, row_after, row_of}
use Rattle.hm_model.specs.Catalog.{Catalog, cat, edited, was}
use Rattle.hm_model.specs.Journal.{Past}
use Rattle.hm_model.specs.Kinds.{first_row_of, kind_of}
use Rattle.hm_model.specs.Lists.{exact_rows}
use Rattle.hm_model.specs.Locks.{IsIn, asks, exclusive}
use Rattle.hm_model.specs.Reads.{covers}
use Rattle.hm_model.specs.Phase.{cause, or_else}
use Rattle.hm_model.specs.Sheets.{next_row, row_in, sheet_for, sheets_by, undo_by, undo_of_next}
use Rattle.hm_model.specs.Tree.{Node, args_in, child_of, is_top, made, node_of, root_in, root_of}
use Rattle.hm_model.specs.Undo.{pushed, row_if_there, stack}
use Rattle.hm_model.specs.Whereabouts.{moved_by}
use Rattle.hm_model.specs.declared.lock.Ask.{Ask}
use Rattle.hm_model.specs.declared.lock.Resource.{Resource}
use Rattle.hm_model.specs.declared.lock.Resource.TheVariants as resource_is
use Rattle.hm_model.proofs.LegalSteps.{StepFacts, ready_stops}
use Rattle.hm_model.proofs.StepDoes.{Does}
use Rattle.hm_model.proofs.Trees.{Grown, answer_now, le_or_lt, new_child, node_same, other_answer, pid_there, ran_before, root_low, still_there, waiting_some}
use Rattle.hm_serial.proofs.Editing.{rows_table}
use Rattle.hm_serial.proofs.Falling.{IsEarly, IsPast, StepEdits}
use Rattle.hm_serial.proofs.Backs.{AllTell, push_tells}
use Rattle.hm_serial.proofs.Frame.{AllWithin, cover_guards, push_back, push_within, unwound}
use Rattle.hm_serial.proofs.Apart.{Aside}
use Rattle.hm_serial.proofs.Kinship.{NewKid, editless, is_bare, is_kid, is_lined, kid_fails, kid_quiet, kid_rows, lined_is, may_fail, near_step, new_kid, own_edits, step_clean, step_within}
use Rattle.hm_serial.proofs.Local.{Within, within_others}
use Rattle.hm_model.specs.GoingBack.{Tells}
use Rattle.hm_model.proofs.Tops.{TopHolds, TopIs}
use Rattle.hm_model.proofs.Small.{some_not}
use Rattle.hm_model.proofs.Answered.{or_some}
use Rattle.hm_serial.proofs.Standing.{Left, holds_left, live_child, quiet_tree, step_left, step_open}
use Rattle.hm_serial.proofs.Fallen.{Falls, MayFall, Unwinds, may_on, root_of_node, some_cons}

-- what asks for a table is no descendant
is_whole_table : Resource → Bool
is_whole_table (resource_is.Table t) = true
is_whole_table (resource_is.Ns n) = false
is_whole_table (resource_is.Region r) = false
is_whole_table (resource_is.Server s) = false

pub no_asks : (args : Args) (t : TableName) → is_kid args ≡ true → IsIn (exclusive (resource_is.Table t)) (asks args) → ⊥
unfolding is_whole_table
no_asks (args_are.Transit region goal to) t k (inl e) = true≢false (ap (λ (a : Ask). a.exclusive) e)
no_asks (args_are.Transit region goal to) t k (inr (inl e)) = true≢false (ap (λ (a : Ask). a.exclusive) e)
no_asks (args_are.Transit region goal to) t k (inr (inr (inl e))) = true≢false (ap (λ (a : Ask). is_whole_table a.resource) e)
no_asks (args_are.Transit region goal to) t k (inr (inr (inr never))) = never
no_asks (args_are.Root request first) t k among = false≢true k
no_asks (args_are.Crash server) t k among = false≢true k
no_asks (args_are.SweepLayout own) t k among = false≢true k
no_asks args t k among = among

module _ (pid : Pid) (pick : Option Server) (out : StepOut) (J : Past) (grown : Grown J) (falls : Falls J) (step : StepFacts J pid.0 pick out) (d : Does J pid.0 step.node.args (last_answer J pid.0) step.sheet.rows out)
    (aside : Aside J step.node.root (root_of_node J grown pid.0 step.node step.node_is).0) where
  abbrev pub J' : Past
  J' = entry_is.Step pid pick out ∷ J

  runs_now : is_stopped (last_answer J pid.0) ≡ false
  runs_now = ready_stops J pid.0 step.node (last_answer J pid.0) step.ready

  pub own_root : (y : Node) × TopIs J step.node.root y
  own_root = root_of_node J grown pid.0 step.node step.node_is

  pub own_aside : Aside J step.node.root own_root.0
  unfolding own_root
  own_aside = aside

  top : Node
  top = own_root.0

  -- it is its own root, or a descendant
  abbrev IsKidStep : Type 0
  IsKidStep = step.node.above ≢ []

  root_step : step.node.above ≡ [] → (step.node.root ≡ pid.0) × (top ≡ step.node)
  unfolding top
  root_step e =
      let root = grown.tops pid.0 step.node step.node_is e in
      (root, same_Some own_root.0 step.node (sym own_root.1.0 ∙ ap (node_of J) root ∙ step.node_is))

  pub led_here : exact_rows (kind_of step.node.args) ≡ [] → Rattle.hm_model.proofs.ExactRows.IsLed (kind_of step.node.args) step.sheet.rows (row_of J pid.0 step.node)
  led_here e = grown.led pid.0 step.node step.node_is e step.sheet step.sheet_is runs_now

  by_above : (above : List ℕ) → step.node.above ≡ above → (step.node.above ≡ []) ⊎ IsKidStep
  by_above [] e = inl e
  by_above (u ∷ rest) e = inr (λ h. some_cons u rest (sym e ∙ h))

  pub kid_or_root : (step.node.above ≡ []) ⊎ IsKidStep
  kid_or_root = by_above step.node.above refl

  pub own_args : exact_rows (kind_of step.node.args) ≡ [] → rows_table step.node.args ≡ None → own_root.0.args ≡ step.node.args
  unfolding top
  own_args exact none = elim kid_or_root [
    | inl e ↦ ap (λ (n : Node). n.args) (root_step e).1
    | inr kid ↦ absurd (kid_rows step.node.args (falls.kids pid.0 step.node step.node_is kid) exact none)
  ]

  pub belongs_here : (t : TableName) → rows_table step.node.args ≡ Some t → IsIn (exclusive (resource_is.Table t)) (asks own_root.0.args)
  belongs_here t e = falls.belongs pid.0 step.node step.node_is t e own_root.0 own_root.1.0

  pub within_now : Within own_root.0.args out.edits
  within_now = step_within J pid.0 pick out step d led_here own_root.0.args own_args belongs_here

  clean_now : (c : Cause) → failing out.answer ≡ Some c → out.edits ≡ []
  clean_now = step_clean J pid.0 pick out step d led_here own_root.0.args own_args belongs_here

  pub edits_of : exact_rows (kind_of step.node.args) ≡ [] → StepEdits J pid.0 own_root.0.args step.node.args step.sheet step.row out
  edits_of e = own_edits J pid.0 pick out step d led_here own_root.0.args own_args belongs_here e

  pub kid_of : (i : ℕ) (made : Args) → slice_get (args_in out.children) i ≡ Some made → NewKid step.node.args step.sheet out made
  kid_of = new_kid J pid.0 pick out step d led_here own_root.0.args own_args belongs_here

  root_is : root_of J pid.0 ≡ step.node.root
  root_is = ap root_in step.node_is

  on : (root_of J pid.0 == step.node.root) ≡ true
  on = eq-eqb (root_of J pid.0) step.node.root root_is

  cause_is : cause J' step.node.root ≡ or_else (cause J step.node.root) (failing out.answer)
  cause_is = cond-true (root_of J pid.0 == step.node.root) _ (cause J step.node.root) on

  next_undo : undo_of_next J pid.0 (node_of J pid.0) ≡ step.row.undo
  next_undo = ap (undo_of_next J pid.0) step.node_is ∙ ap (λ s. undo_by (row_in s (row_of J pid.0 step.node))) step.sheet_is ∙ ap undo_by step.row_is

  stack_is : stack J' step.node.root ≡ pushed step.row.undo (is_some (failing out.answer)) pid.0 (row_if_there J pid.0 (node_of J pid.0)) out.edits (stack J step.node.root)
  stack_is = cond-true (root_of J pid.0 == step.node.root) _ (stack J step.node.root) on ∙ ap (λ u. pushed u (is_some (failing out.answer)) pid.0 (row_if_there J pid.0 (node_of J pid.0)) out.edits (stack J step.node.root)) next_undo

  failing_some : (o : Option Cause) → failing out.answer ≡ o → is_some o ≡ true → out.edits ≡ []
  failing_some None e h = absurd (false≢true h)
  failing_some (Some c) e h = clean_now c e

  -- what stood before the step: the catalog to which undoing leads back
  pub record Ready (base : Catalog) : Type 0 where
    pub was_is : was J' step.node.root ≡ base
    pub unwinds : MayFall J step.node.root own_root.0 → (key : CatKey) → covers own_root.0.args key ≡ true → unwound (stack J step.node.root) key (cat J key) ≡ base key
    pub within : AllWithin own_root.0.args (stack J step.node.root)

  was_first : step.node.above ≡ [] → last_answer J pid.0 ≡ None → was J' step.node.root ≡ cat J
  was_first e none = let root = (root_step e).0 in cond-true ((step.node.root == pid.0) && is_none (last_answer J pid.0)) (cat J) (was J step.node.root) (and_from (step.node.root == pid.0) (is_none (last_answer J pid.0)) (eq-eqb step.node.root pid.0 root) (ap is_none none))

  was_on : (step.node.root ≢ pid.0) ⊎ (last_answer J pid.0 ≢ None) → was J' step.node.root ≡ was J step.node.root
  was_on h = cond-false ((step.node.root == pid.0) && is_none (last_answer J pid.0)) (cat J) (was J step.node.root) (by h)
    where
      by : (step.node.root ≢ pid.0) ⊎ (last_answer J pid.0 ≢ None) → ((step.node.root == pid.0) && is_none (last_answer J pid.0)) ≡ false
      by (inl differs) = Rattle.std.proofs.lemmas.Bool.and_left (step.node.root == pid.0) (is_none (last_answer J pid.0)) (ne_eqb step.node.root pid.0 differs)
      by (inr some) = and_right (step.node.root == pid.0) (is_none (last_answer J pid.0)) (some_not (last_answer J pid.0) some)

  ready_held : (step.node.root ≢ pid.0) ⊎ (last_answer J pid.0 ≢ None) → last_answer J step.node.root ≢ None → Ready (was J step.node.root)
  ready_held h some = let t = falls.tree step.node.root own_root.0 (own_root.1, some, step_open pid pick out J grown step d) in record { was_is = was_on h; unwinds = t.0; within = t.1 }

  pub kid_not_root : step.node.above ≢ [] → step.node.root ≢ pid.0
  kid_not_root some same = by step.node.above refl
    where
      by : (above : List ℕ) → step.node.above ≡ above → ⊥
      by [] e = some e
      by (u ∷ rest) e =
          let up = grown.ups pid.0 step.node step.node_is u rest e in
          let low = root_low J grown rest u up.0 up.1 up.2 in
          let lt = grown.later pid.0 step.node step.node_is u rest e in
          let r = up.3 in
          omega (arith, low, lt, r, same)

  pub ready : (base : Catalog) × Ready base
  ready = elim kid_or_root [
    | inr kid ↦
        let l = live_child J grown step.node.above pid.0 step.node step.node_is refl kid runs_now in
        (was J step.node.root, ready_held (inl (kid_not_root kid)) (waiting_some (last_answer J step.node.root) l.5))
    | inl e ↦ by e (last_answer J pid.0) refl
  ]
    where
      by : step.node.above ≡ [] → (o : Option Answer) → last_answer J pid.0 ≡ o → (base : Catalog) × Ready base
      by e None l =
          let f = falls.fresh step.node.root own_root.0 own_root.1 (ap (last_answer J) (root_step e).0 ∙ l) in
          (cat J, record { was_is = was_first e l; unwinds = λ may key c. ap (λ s. unwound s key (cat J key)) f.0; within = subst (AllWithin own_root.0.args) (sym f.0) tt })
      by e (Some a) l =
          let some : last_answer J pid.0 ≢ None = (λ none. none-some a (sym none ∙ l)) in
          (was J step.node.root, ready_held (inr some) (λ none. some (ap (last_answer J) (sym (root_step e).0) ∙ none)))

  -- the row that the root runs next, after its own step
  last_root : step.node.above ≡ [] → last_answer J' step.node.root ≡ Some out.answer
  last_root e = ap (last_answer (entry_is.Step pid pick out ∷ J)) (root_step e).0 ∙ answer_now pid pick out J

  next_root : step.node.above ≡ [] → next_row J' step.node.root own_root.0 ≡ slice_get step.sheet.rows (row_after (first_row_of step.node.args) (Some out.answer))
  unfolding top
  next_root e =
      ap (next_row (entry_is.Step pid pick out ∷ J) step.node.root) (root_step e).1
      ∙ ap (λ o. row_in (sheet_for (sheets_by J step.node.root) (kind_of step.node.args)) (row_after (first_row_of step.node.args) o)) (last_root e)
      ∙ ap (λ s. row_in s (row_after (first_row_of step.node.args) (Some out.answer))) step.sheet_is

  next_before : step.node.above ≡ [] → next_row J step.node.root own_root.0 ≡ Some step.row
  unfolding top
  next_before e =
      ap (next_row J step.node.root) (root_step e).1 ∙ ap (λ p. next_row J p step.node) (root_step e).0
      ∙ ap (λ s. row_in s (row_of J pid.0 step.node)) step.sheet_is ∙ step.row_is

  uncaused : step.node.above ≡ [] → cause J step.node.root ≡ None
  uncaused e = ap (cause J) (root_step e).0 ∙ step.uncaused (ap is_top e)

  lined_top : step.node.above ≡ [] → exact_rows (kind_of step.node.args) ≡ [] → is_lined own_root.0.args ≡ true
  unfolding top
  lined_top e exact = ap (λ (n : Node). is_lined n.args) (root_step e).1 ∙ lined_is step.node.args exact

  -- after such an answer the tree of the root that steps may not be undone any more
  past_not : step.node.above ≡ [] → exact_rows (kind_of step.node.args) ≡ [] → failing out.answer ≡ None → IsPast step.sheet.rows (first_row_of step.node.args) out.answer → MayFall J' step.node.root own_root.0 → ⊥
  past_not e exact fine past (inl listless) = true≢false (sym (lined_top e exact) ∙ listless)
  past_not e exact fine past (inr (inl failed)) = failed (cause_is ∙ ap (λ c. or_else c (failing out.answer)) (uncaused e) ∙ fine)
  past_not e exact fine past (inr (inr may)) = true≢false (sym (past (ap is_stopped (sym (last_root e)) ∙ may.0) may.1 (sym (next_root e) ∙ may.2)) ∙ may.3)

  abbrev IsKept : Type 0
  IsKept = (out.edits ≡ []) ⊎ ((step.row.undo ≡ back_is.Edits) × Tells out.edits (cat J))

  -- a root's tree that may be undone after its step could be before, and then the step can be undone
  root_could : step.node.above ≡ [] → MayFall J' step.node.root own_root.0 → MayFall J step.node.root own_root.0 × IsKept
  unfolding top
  root_could e may = elim (editless J pid.0 pick out step d led_here own_root.0.args own_args belongs_here) [
    | inr none ↦ (by_lined (cases_Bool (is_lined own_root.0.args)), inl none)
    | inl exact ↦ lined_could exact
  ]
    where
      lined_could : exact_rows (kind_of step.node.args) ≡ [] → MayFall J step.node.root own_root.0 × IsKept
      lined_could exact =
          let edits = edits_of exact in
          elim (cases_Bool step.row.after) [
            | inl late ↦ let l = edits.late late in absurd (past_not e exact l.0 l.1 may)
            | inr early ↦ (
              inr (inr (ap (λ p. is_stopped (last_answer J p)) (root_step e).0 ∙ runs_now, step.row, next_before e, early)),
              elim edits.kept [
                | inl none ↦ inl none
                | inr more ↦ elim more [ inl told ↦ inr told | inr past ↦ absurd (past_not e exact past.0 past.1 may) ]
              ],
            )
          ]

      by_lined : ((is_lined own_root.0.args ≡ true) ⊎ (is_lined own_root.0.args ≡ false)) → MayFall J step.node.root own_root.0
      by_lined (inr off) = inl off
      by_lined (inl lined) = (lined_could (nil_is (exact_rows (kind_of step.node.args)) (ap (λ (n : Node). is_lined n.args) (sym (root_step e).1) ∙ lined))).0
        where
          nil_is : (rows : List Row) → Rattle.hm_serial.proofs.Kinship.is_nil rows ≡ true → rows ≡ []
          nil_is [] h = refl
          nil_is (row ∷ rows) h = absurd (false≢true h)

  -- so could the tree of a descendant that steps
  pub other_last : step.node.above ≢ [] → last_answer J' step.node.root ≡ last_answer J step.node.root
  other_last kid = other_answer pid pick out J step.node.root (kid_not_root kid)

  kid_back : step.node.above ≢ [] → MayFall J' step.node.root own_root.0 → MayFall J step.node.root own_root.0
  kid_back kid (inl listless) = inl listless
  kid_back kid (inr (inr may)) = inr (inr (ap is_stopped (sym (other_last kid)) ∙ may.0, may.1, subst (λ o. row_in (sheet_for (sheets_by J own_root.0.root) (kind_of own_root.0.args)) (row_after (first_row_of own_root.0.args) o) ≡ Some may.1) (other_last kid) may.2, may.3))
  kid_back kid (inr (inl failed)) = by (cause J step.node.root) refl (failing out.answer) refl
    where
      by : (c : Option Cause) → cause J step.node.root ≡ c → (f : Option Cause) → failing out.answer ≡ f → MayFall J step.node.root own_root.0
      by (Some c) e f g = inr (inl (λ none. none-some c (sym none ∙ e)))
      by None e None g = absurd (failed (cause_is ∙ ap (λ c. or_else c (failing out.answer)) e ∙ g))
      by None e (Some c) g = falls.safe pid.0 step.node step.node_is kid runs_now (kid_fails J pid.0 pick out step d led_here own_root.0.args own_args belongs_here (falls.kids pid.0 step.node step.node_is kid) (λ r m. falls.near pid.0 step.node step.node_is kid r m) c g) own_root.0 own_root.1.0

  kid_twenty : (args : Args) → is_kid args ≡ true → exact_rows (kind_of args) ≡ [] → (kind_of args ≡ 20) ⊎ (is_bare args ≡ true)
  kid_twenty (args_are.AddRegions table first bounds) kid exact = inl refl
  kid_twenty (args_are.DropRegions table ids) kid exact = inr refl
  kid_twenty (args_are.Root request first) kid exact = absurd (false≢true kid)
  kid_twenty (args_are.Crash server) kid exact = absurd (false≢true kid)
  kid_twenty (args_are.SweepLayout own) kid exact = absurd (false≢true kid)
  kid_twenty args kid exact = cc

  kid_could : step.node.above ≢ [] → MayFall J' step.node.root own_root.0 → MayFall J step.node.root own_root.0 × IsKept
  kid_could kid may =
      let back = kid_back kid may in (
        back,
        elim (editless J pid.0 pick out step d led_here own_root.0.args own_args belongs_here) [
          | inr none ↦ inl none
          | inl exact ↦ elim (kid_twenty step.node.args (falls.kids pid.0 step.node step.node_is kid) exact) [
            | inl adds ↦ (edits_of exact).adds adds
            | inr bare ↦ absurd (falls.bare pid.0 step.node step.node_is kid runs_now bare own_root.0 own_root.1.0 back)
          ]
        ],
      )

  could : MayFall J' step.node.root own_root.0 → MayFall J step.node.root own_root.0 × IsKept
  could may = elim kid_or_root [ inl e ↦ root_could e may | inr kid ↦ kid_could kid may ]

  kept_tells : IsKept → (edits : List Edit) → out.edits ≡ edits → Tells edits (cat J)
  kept_tells (inl none) edits e = subst (λ l. Tells l (cat J)) (sym none ∙ e) tt
  kept_tells (inr told) edits e = subst (λ l. Tells l (cat J)) e told.1

  -- after the step what may be undone leads back to where the root began
  pub unwinds_now : MayFall J' step.node.root own_root.0 → (key : CatKey) → covers own_root.0.args key ≡ true → unwound (stack J' step.node.root) key (cat J' key) ≡ was J' step.node.root key
  unwinds_now may key c =
      let r = ready in
      let b = could may in
      ap (λ l. unwound l key (edited out.edits key (cat J key))) stack_is
      ∙ push_back step.row.undo (is_some (failing out.answer)) pid.0 (row_if_there J pid.0 (node_of J pid.0)) out.edits (stack J step.node.root) (cat J) key (elim b.1 [ inl none ↦ inl none | inr told ↦ inr told.0 ]) (λ h. failing_some (failing out.answer) refl h) (kept_tells b.1 out.edits refl)
      ∙ r.1.unwinds b.0 key c ∙ ap (λ (base : Catalog). base key) (sym r.1.was_is)

  -- and what undoes it tells what it finds
  pub tells_now : (MayFall J step.node.root own_root.0 → AllTell (stack J step.node.root) (cat J)) → MayFall J' step.node.root own_root.0 → AllTell (stack J' step.node.root) (cat J')
  tells_now before may =
      let b = could may in
      subst (λ l. AllTell l (cat J')) (sym stack_is) (push_tells step.row.undo (is_some (failing out.answer)) pid.0 (row_if_there J pid.0 (node_of J pid.0)) out.edits (stack J step.node.root) (cat J) (elim b.1 [ inl none ↦ inl none | inr told ↦ inr told.0 ]) (λ h. failing_some (failing out.answer) refl h) (kept_tells b.1 out.edits refl) (before b.0))

  pub stack_within : AllWithin own_root.0.args (stack J' step.node.root)
  stack_within = subst (AllWithin own_root.0.args) (sym stack_is) (push_within own_root.0.args step.row.undo (is_some (failing out.answer)) pid.0 (row_if_there J pid.0 (node_of J pid.0)) out.edits (stack J step.node.root) within_now ready.1.within)

  -- who is there after the step: who was, or a child that it made
  old_or_kid : (q : ℕ) (x : Node) → node_of J' q ≡ Some x → ((q ≤ made J) × (node_of J q ≡ Some x)) ⊎ ((i : ℕ) × (a : Args) × (slice_get (args_in out.children) i ≡ Some a) × (x ≡ child_of pid.0 step.node a) × (made J < q))
  old_or_kid q x is = elim (le_or_lt q (made J)) [
    | inl le ↦ inl (le, sym (node_same pid pick out J q le) ∙ is)
    | inr lt ↦ let c = new_child pid pick out J step.node step.node_is q lt x is in inr (q - made J - 1, c.0, c.1, c.2, lt)
  ]

  new_silent : (q : ℕ) → made J < q → last_answer J' q ≡ None
  new_silent q lt = other_answer pid pick out J q (λ e. let le = pid_there pid pick out J grown step d in omega (arith, le, lt, e)) ∙ grown.unmade q (grown.numbered q lt)

  kid_some : (x : Node) (a : Args) → x ≡ child_of pid.0 step.node a → x.above ≡ [] → ⊥
  kid_some x a is top_is = some_cons pid.0 step.node.above (ap (λ (n : Node). n.above) (sym is) ∙ top_is)

  old_top : (r : ℕ) (node : Node) → TopIs J' r node → TopIs J r node
  old_top r node top_is = elim (old_or_kid r node top_is.0) [ inl old ↦ (old.1, top_is.1) | inr new ↦ absurd (kid_some node new.1 new.3 top_is.1) ]

  kid_root : (x : Node) (a : Args) → x ≡ child_of pid.0 step.node a → x.root ≡ step.node.root
  kid_root x a is = ap (λ (n : Node). n.root) is

  -- the root of one who was there was there too
  same_root : (q : ℕ) (x y : Node) → node_of J q ≡ Some x → node_of J' x.root ≡ Some y → node_of J x.root ≡ Some y
  same_root q x y is at =
      let r = root_of_node J grown q x is in
      r.1.0 ∙ ap Some (same_Some r.0 y (sym (still_there pid pick out J grown step d x.root r.0 r.1.0) ∙ at))

  own_is : (y : Node) → node_of J' step.node.root ≡ Some y → y ≡ own_root.0
  own_is y at = sym (same_Some own_root.0 y (sym (still_there pid pick out J grown step d step.node.root own_root.0 own_root.1.0) ∙ at))

  -- a descendant of the tree that hasn't stopped, where the root steps, is a new one
  root_quiet : step.node.above ≡ [] → (q : ℕ) (x : Node) → node_of J q ≡ Some x → x.root ≡ step.node.root → x.above ≢ [] → is_stopped (last_answer J' q) ≡ false → ⊥
  root_quiet e q x is root some now = true≢false (sym (quiet_tree J grown pid.0 step.node step.ready q x is (root ∙ (root_step e).0) some) ∙ ran_before pid pick out J runs_now q now)

  -- another tree is as it was
  left_of : (s : ℕ) (y : Node) → TopIs J s y → s ≢ step.node.root → Left J J' s
  left_of s y top_is differs = step_left pid pick out J grown step d s y top_is differs

  kid_on : step.node.above ≢ [] → MayFall J step.node.root own_root.0 → MayFall J' step.node.root own_root.0
  kid_on kid (inl listless) = inl listless
  kid_on kid (inr (inl failed)) = inr (inl (λ none. or_some (cause J step.node.root) (failing out.answer) failed (sym cause_is ∙ none)))
  kid_on kid (inr (inr may)) = inr (inr (ap is_stopped (other_last kid) ∙ may.0, may.1, subst (λ o. row_in (sheet_for (sheets_by J own_root.0.root) (kind_of own_root.0.args)) (row_after (first_row_of own_root.0.args) o) ≡ Some may.1) (sym (other_last kid)) may.2, may.3))

  kid_made : step.node.above ≢ [] → (i : ℕ) (a : Args) → slice_get (args_in out.children) i ≡ Some a → (may_fail a ≡ false) × (is_bare a ≡ false)
  kid_made kid i a get = kid_quiet J pid.0 pick out step d led_here own_root.0.args own_args belongs_here (falls.kids pid.0 step.node step.node_is kid) i a get

  early_may : step.node.above ≡ [] → IsEarly step.sheet.rows (first_row_of step.node.args) out.answer → MayFall J' step.node.root own_root.0
  early_may e early = inr (inr (ap is_stopped (last_root e) ∙ early.0, early.1, next_root e ∙ early.2, early.3))

  safe_now : (q : ℕ) (x : Node) → node_of J' q ≡ Some x → x.above ≢ [] → is_stopped (last_answer J' q) ≡ false → may_fail x.args ≡ true → (y : Node) → node_of J' x.root ≡ Some y → MayFall J' x.root y
  safe_now q x is some now may y at = elim (old_or_kid q x is) [
    | inl old ↦ by_old old.1 (cases_eq x.root step.node.root)
    | inr new ↦
        let root = kid_root x new.1 new.3 in
        let y_is = own_is y (ap (node_of (entry_is.Step pid pick out ∷ J)) (sym root) ∙ at) in
        let fails = ap may_fail (ap (λ (n : Node). n.args) (sym new.3)) ∙ may in
        subst (λ k. MayFall J' k y) (sym root) (subst (MayFall J' step.node.root) (sym y_is) (elim kid_or_root [
          | inl e ↦ early_may e ((kid_of new.0 new.1 new.2).safe fails)
          | inr kid ↦ absurd (true≢false (sym fails ∙ (kid_made kid new.0 new.1 new.2).0))
        ]))
  ]
    where
      by_old : node_of J q ≡ Some x → (x.root ≡ step.node.root) ⊎ (x.root ≢ step.node.root) → MayFall J' x.root y
      by_old old (inr differs) =
          let y_old = same_root q x y old at in
          let r = root_of_node J grown q x old in
          let left = left_of x.root r.0 r.1 differs in
          may_on J J' x.root y left.cause_is left.last refl (falls.safe q x old some (ran_before pid pick out J runs_now q now) may y y_old)
      by_old old (inl root) = elim kid_or_root [
        | inl e ↦ absurd (root_quiet e q x old root some now)
        | inr kid ↦
            let y_is = own_is y (ap (node_of (entry_is.Step pid pick out ∷ J)) (sym root) ∙ at) in
            subst (λ k. MayFall J' k y) (sym root) (subst (MayFall J' step.node.root) (sym y_is) (kid_on kid (subst (λ k. MayFall J k own_root.0) root (falls.safe q x old some (ran_before pid pick out J runs_now q now) may own_root.0 (ap (node_of J) root ∙ own_root.1.0)))))
      ]

  bare_now : (q : ℕ) (x : Node) → node_of J' q ≡ Some x → x.above ≢ [] → is_stopped (last_answer J' q) ≡ false → is_bare x.args ≡ true → (y : Node) → node_of J' x.root ≡ Some y → MayFall J' x.root y → ⊥
  bare_now q x is some now bare y at may = elim (old_or_kid q x is) [
    | inl old ↦ by_old old.1 (cases_eq x.root step.node.root)
    | inr new ↦
        let root = kid_root x new.1 new.3 in
        let y_is = own_is y (ap (node_of (entry_is.Step pid pick out ∷ J)) (sym root) ∙ at) in
        let b = ap is_bare (ap (λ (n : Node). n.args) (sym new.3)) ∙ bare in
        let here : MayFall J' step.node.root own_root.0 = subst (MayFall J' step.node.root) y_is (subst (λ k. MayFall J' k y) root may) in
        elim kid_or_root [
          | inl e ↦ let k = (kid_of new.0 new.1 new.2).bare b in past_not e (lined_back (exact_rows (kind_of step.node.args)) k.0) k.1 k.2 here
          | inr kid ↦ true≢false (sym b ∙ (kid_made kid new.0 new.1 new.2).1)
        ]
  ]
    where
      lined_back : (rows : List Row) → Rattle.hm_serial.proofs.Kinship.is_nil rows ≡ true → rows ≡ []
      lined_back [] h = refl
      lined_back (row ∷ rows) h = absurd (false≢true h)

      by_old : node_of J q ≡ Some x → (x.root ≡ step.node.root) ⊎ (x.root ≢ step.node.root) → ⊥
      by_old old (inr differs) =
          let y_old = same_root q x y old at in
          let r = root_of_node J grown q x old in
          let left = left_of x.root r.0 r.1 differs in
          falls.bare q x old some (ran_before pid pick out J runs_now q now) bare y y_old (may_on J' J x.root y (sym left.cause_is) (sym left.last) refl may)
      by_old old (inl root) = elim kid_or_root [
        | inl e ↦ root_quiet e q x old root some now
        | inr kid ↦
            let y_is = own_is y (ap (node_of (entry_is.Step pid pick out ∷ J)) (sym root) ∙ at) in
            let here : MayFall J' step.node.root own_root.0 = subst (MayFall J' step.node.root) y_is (subst (λ k. MayFall J' k y) root may) in
            falls.bare q x old some (ran_before pid pick out J runs_now q now) bare own_root.0 (ap (node_of J) root ∙ own_root.1.0) (subst (λ k. MayFall J k own_root.0) (sym root) (kid_back kid here))
      ]

  near_now : (q : ℕ) (x : Node) → node_of J' q ≡ Some x → x.above ≢ [] → (r : Region) → moved_by x.args ≡ Some r → row_of J' q x ≢ 5
  near_now q x is some r m = elim (cases_eq q pid.0) [
    | inl same ↦
        let one : x ≡ step.node = same_Some x step.node (sym is ∙ ap (node_of (entry_is.Step pid pick out ∷ J)) same ∙ still_there pid pick out J grown step d pid.0 step.node step.node_is) in
        λ e. near_step J pid.0 pick out step d led_here own_root.0.args own_args belongs_here r (ap (λ (n : Node). moved_by n.args) (sym one) ∙ m) (ap (row_after (first_row_of step.node.args)) (sym (ap (last_answer (entry_is.Step pid pick out ∷ J)) same ∙ answer_now pid pick out J)) ∙ ap (λ (n : Node). row_after (first_row_of n.args) (last_answer (entry_is.Step pid pick out ∷ J) q)) (sym one) ∙ e)
    | inr differs ↦ elim (old_or_kid q x is) [
      | inl old ↦ λ e. falls.near q x old.1 some r m (ap (row_after (first_row_of x.args)) (sym (other_answer pid pick out J q differs)) ∙ e)
      | inr new ↦ λ e. (kid_of new.0 new.1 new.2).near r (ap moved_by (ap (λ (n : Node). n.args) (sym new.3)) ∙ m) (ap (λ (n : Node). first_row_of n.args) (sym new.3) ∙ ap (row_after (first_row_of x.args)) (sym (new_silent q new.4)) ∙ e)
    ]
  ]

  belongs_now : (q : ℕ) (x : Node) → node_of J' q ≡ Some x → (t : TableName) → rows_table x.args ≡ Some t → (y : Node) → node_of J' x.root ≡ Some y → IsIn (exclusive (resource_is.Table t)) (asks y.args)
  belongs_now q x is t rows y at = elim (old_or_kid q x is) [
    | inl old ↦ falls.belongs q x old.1 t rows y (same_root q x y old.1 at)
    | inr new ↦
        let root = kid_root x new.1 new.3 in
        let y_is = own_is y (ap (node_of (entry_is.Step pid pick out ∷ J)) (sym root) ∙ at) in
        let mine = (kid_of new.0 new.1 new.2).rows t (ap rows_table (ap (λ (n : Node). n.args) (sym new.3)) ∙ rows) in
        subst (λ (n : Node). IsIn (exclusive (resource_is.Table t)) (asks n.args)) (sym y_is) (by mine kid_or_root)
  ]
    where
      by : IsIn (exclusive (resource_is.Table t)) (asks step.node.args) → (step.node.above ≡ []) ⊎ IsKidStep → IsIn (exclusive (resource_is.Table t)) (asks own_root.0.args)
      by mine (inl e) = subst (λ (n : Node). IsIn (exclusive (resource_is.Table t)) (asks n.args)) (sym (same_Some own_root.0 step.node (sym own_root.1.0 ∙ ap (node_of J) (root_step e).0 ∙ step.node_is))) mine
      by mine (inr kid) = absurd (no_asks step.node.args t (falls.kids pid.0 step.node step.node_is kid) mine)

  root_off : (r : ℕ) → r ≢ step.node.root → (root_of J pid.0 == r) ≡ false
  root_off r differs = ne_eqb (root_of J pid.0) r (λ e. differs (sym e ∙ root_is))

  pub own_begun : last_answer J' step.node.root ≢ None
  own_begun = elim kid_or_root [
    | inl e ↦ λ none. none-some out.answer (sym none ∙ last_root e)
    | inr kid ↦
        let l = live_child J grown step.node.above pid.0 step.node step.node_is refl kid runs_now in
        λ none. waiting_some (last_answer J step.node.root) l.5 (sym (other_last kid) ∙ none)
  ]

  fresh_now : (r : ℕ) (node : Node) → TopIs J' r node → last_answer J' r ≡ None → (stack J' r ≡ []) × (cause J' r ≡ None)
  fresh_now r node top_is none =
      let differs : r ≢ step.node.root = (λ same. own_begun (ap (last_answer (entry_is.Step pid pick out ∷ J)) (sym same) ∙ none)) in
      let old = old_top r node top_is in
      let left = left_of r node old differs in
      let f = falls.fresh r node old (sym left.last ∙ none) in
      (left.stack_is ∙ f.0, left.cause_is ∙ f.1)

  gone_now : (r : ℕ) → node_of J' r ≡ None → (stack J' r ≡ []) × (cause J' r ≡ None)
  gone_now r none =
      let was_none : node_of J r ≡ None = elim (le_or_lt r (made J)) [ inl le ↦ sym (node_same pid pick out J r le) ∙ none | inr lt ↦ grown.numbered r lt ] in
      let f = falls.gone r was_none in
      let off = root_off r (λ same. none-some own_root.0 (sym was_none ∙ ap (node_of J) same ∙ own_root.1.0)) in
      (cond-false (root_of J pid.0 == r) _ (stack J r) off ∙ f.0, cond-false (root_of J pid.0 == r) _ (cause J r) off ∙ f.1)

  tree_now : (r : ℕ) (node : Node) → TopHolds J' r node → Unwinds J' r node × AllWithin node.args (stack J' r)
  tree_now r node h = elim (cases_eq r step.node.root) [
    | inl same ↦
        let y_is = own_is node (ap (node_of (entry_is.Step pid pick out ∷ J)) (sym same) ∙ h.0.0) in
        subst (λ k. Unwinds J' k node × AllWithin node.args (stack J' k)) (sym same) (subst (λ n. Unwinds J' step.node.root n × AllWithin n.args (stack J' step.node.root)) (sym y_is) (unwinds_now, stack_within))
    | inr differs ↦
        let old = old_top r node h.0 in
        let left = left_of r node old differs in
        let before = holds_left J J' r node left h in
        let t = falls.tree r node before in (
          (λ may key c.
              ap (λ l. unwound l key (cat J' key)) left.stack_is
              ∙ ap (unwound (stack J r) key) (within_others own_root.0.args out.edits within_now key ((own_aside r node before differs key).0 (cover_guards node.args key c)) (cat J key))
              ∙ t.0 (may_on J' J r node (sym left.cause_is) (sym left.last) refl may) key c ∙ ap (λ (b : Catalog). b key) (sym left.was_is)),
          subst (AllWithin node.args) (sym left.stack_is) t.1,
        )
  ]

  pub falls_step : Falls (entry_is.Step pid pick out ∷ J)
  falls_step = record {
    fresh = fresh_now;
    gone = gone_now;
    tops = λ q x top_is. falls.tops q x (old_top q x top_is);
    kids = λ q x is some. elim (old_or_kid q x is) [
      | inl old ↦ falls.kids q x old.1 some
      | inr new ↦ ap is_kid (ap (λ (n : Node). n.args) new.3) ∙ (kid_of new.0 new.1 new.2).kid
    ];
    belongs = belongs_now;
    near = near_now;
    safe = safe_now;
    bare = bare_now;
    tree = tree_now;
  }
