-- A descendant's step keeps where the tree of its root stands.
use Rattle.std.proofs.Common.{◌≡◌, ◌≢◌, ℕ, ◌-◌, List, [], ◌∷◌, true, false, ◌&&◌, ◌==◌, Option, Some, None, refl, ap, sym, ◌∙◌, subst, inl, inr, ◌⊎◌}
use Rattle.std.specs.Prelude.{is_none, is_some}
use Rattle.std.proofs.lemmas.Bool.{and_left, cases_Bool, cond-false, cond-true, eq-eqb, false≢true, ne_eqb, true≢false}
use Rattle.std.proofs.lemmas.Option.{none-some, same_Some}
use Rattle.hm_names.specs.Server.{Server}
use Rattle.hm_names.specs.declared.pid.Pid.{Pid}
use Rattle.hm_data.specs.declared.answer.Answer.{Answer}
use Rattle.hm_data.specs.declared.answer.Answer.TheVariants as answer_is
use Rattle.hm_data.specs.declared.answer.Cause.{Cause}
use Rattle.hm_data.specs.declared.args.Args.{Args}
use Rattle.hm_data.specs.declared.args.Args.TheVariants as args_are
use Rattle.hm_data.specs.declared.catalog.CatKey.{CatKey}
use Rattle.hm_data.specs.declared.catalog.Edit.{Edit}
use Rattle.hm_data.specs.declared.entry.Entry.TheVariants as entry_is
use Rattle.hm_data.specs.declared.step.StepOut.{StepOut}
use Rattle.hm_model.specs.Answers.{done_with, failing, is_stopped, last_answer, row_after}
use Rattle.hm_model.specs.Catalog.{Catalog, cat, edited, keys_of, was}
use Rattle.hm_model.specs.Deeds.{deed_of}
use Rattle.hm_model.specs.Inputs.{step_input}
use Rattle.hm_model.specs.Journal.{Past}
use Rattle.hm_model.specs.Kinds.{first_row_of, kind_of}
use Rattle.hm_model.specs.Lists.{exact_rows}
use Rattle.hm_model.specs.Reads.{covers}
use Rattle.hm_model.specs.Phase.{cause, or_else, rolled_back, root_ended, root_over}
use Rattle.hm_model.specs.Serial.{at_end, edits_in, ended_deed, if_root, serial}
use Rattle.hm_model.specs.Tree.{Node, made, node_of, root_in, root_of}
use Rattle.hm_model.proofs.LegalSteps.{StepFacts, ready_stops}
use Rattle.hm_model.proofs.StepDoes.{Does}
use Rattle.hm_model.proofs.Trees.{Grown, IsWaiting, le_or_lt, new_child, node_same, other_answer, ran_before, still_there, waiting_some}
use Rattle.hm_model.proofs.ValidSheets.{Leads}
use Rattle.hm_kinds.proofs.Effects.{DoesShare, adds_share, drops_share}
use Rattle.hm_kinds.proofs.Exact.{IsSettled}
use Rattle.hm_kinds.proofs.Roots.{Stage}
use Rattle.hm_kinds.proofs.Shares.{touches, value}
use Rattle.hm_serial.proofs.Apart.{Aside}
use Rattle.hm_serial.proofs.Fallen.{Falls, root_of_node}
use Rattle.hm_serial.proofs.FallStep.{belongs_here, kid_not_root, kid_of, led_here, no_asks, other_last, own_args, own_root}
use Rattle.hm_serial.proofs.Frame.{cover_guards}
use Rattle.hm_serial.proofs.Kinship.{editless, is_kid, led_at}
use Rattle.hm_model.proofs.Tops.{TopIs}
use Rattle.hm_model.proofs.Answered.{or_none}
use Rattle.hm_serial.proofs.Standing.{live_child, step_open}
use Rattle.hm_serial.proofs.Stands.{At, Pending, Stands, Tree, Where}
use Rattle.hm_serial.proofs.StandStep.{touches_rows, uncut_so}

waiting_undone : (o : Option Answer) → IsWaiting o → is_some (done_with o) ≡ false
waiting_undone (Some (answer_is.Wait n)) w = refl
waiting_undone None w = refl
waiting_undone (Some (answer_is.More n)) w = refl
waiting_undone (Some (answer_is.Await n)) w = refl
waiting_undone (Some (answer_is.Done told)) w = absurd w
waiting_undone (Some (answer_is.Fail c)) w = refl
waiting_undone (Some answer_is.Undone) w = refl

module _ (pid : Pid) (pick : Option Server) (out : StepOut) (J : Past) (grown : Grown J) (falls : Falls J) (stands : Stands J) (step : StepFacts J pid.0 pick out) (d : Does J pid.0 step.node.args (last_answer J pid.0) step.sheet.rows out)
    (aside : Aside J step.node.root (root_of_node J grown pid.0 step.node step.node_is).0) (top : Node) (top_is : TopIs J step.node.root top) (kid : step.node.above ≢ []) where
  abbrev J' : Past
  J' = entry_is.Step pid pick out ∷ J

  abbrev R : ℕ
  R = step.node.root

  runs_now : is_stopped (last_answer J pid.0) ≡ false
  runs_now = ready_stops J pid.0 step.node (last_answer J pid.0) step.ready

  is_child : is_kid step.node.args ≡ true
  is_child = falls.kids pid.0 step.node step.node_is kid

  waits : IsWaiting (last_answer J R)
  waits = (live_child J grown step.node.above pid.0 step.node step.node_is refl kid runs_now).5

  last_root : last_answer J' R ≡ last_answer J R
  last_root = other_last pid pick out J grown falls step d aside kid

  was_root : was J' R ≡ was J R
  was_root = cond-false ((R == pid.0) && is_none (last_answer J pid.0)) (cat J) (was J R) (and_left (R == pid.0) (is_none (last_answer J pid.0)) (ne_eqb R pid.0 (kid_not_root pid pick out J grown falls step d aside kid)))

  was_key : (key : CatKey) → was J' R key ≡ was J R key
  was_key key = ap (λ (b : Catalog). b key) was_root

  cause_now : cause J' R ≡ or_else (cause J R) (failing out.answer)
  cause_now = cond-true (root_of J pid.0 == R) _ (cause J R) (eq-eqb (root_of J pid.0) R (ap root_in step.node_is))

  tree : Tree J R top
  tree = stands.tree R top (top_is, waiting_some (last_answer J R) waits, step_open pid pick out J grown step d)

  serial_same : (key : CatKey) → serial J' key ≡ serial J key
  serial_same key =
      ap (λ o. edited (edits_in (ended_deed o out.answer (keys_of J) (serial J))) key (serial J key)) step.node_is ∙ by step.node.above refl
    where
      by : (above : List ℕ) → step.node.above ≡ above → edited (edits_in (if_root step.node.above (at_end out.answer (deed_of step.node.args (keys_of J) (serial J))))) key (serial J key) ≡ serial J key
      by [] e = absurd (kid e)
      by (u ∷ rest) e = ap (λ l. edited (edits_in (if_root l (at_end out.answer (deed_of step.node.args (keys_of J) (serial J))))) key (serial J key)) e

  -- a step that didn't fail does the share of its procedure
  editless_now : (exact_rows (kind_of step.node.args) ≡ []) ⊎ (out.edits ≡ [])
  editless_now = editless J pid.0 pick out step d (led_here pid pick out J grown falls step d aside) (own_root pid pick out J grown falls step d aside).0.args (own_args pid pick out J grown falls step d aside) (belongs_here pid pick out J grown falls step d aside)

  listed_now : exact_rows (kind_of step.node.args) ≡ [] → Rattle.hm_model.proofs.ExactRows.is_listed (kind_of step.node.args) step.row.act ≡ true
  listed_now exact = (led_at J pid.0 pick out step d (led_here pid pick out J grown falls step d aside) (own_root pid pick out J grown falls step d aside).0.args (own_args pid pick out J grown falls step d aside) (belongs_here pid pick out J grown falls step d aside) exact).listed

  no_share : (args : Args) → out.edits ≡ [] → ((key : CatKey) → touches args key ≡ false) → DoesShare args out
  no_share args none off key row = ap (λ l. edited l key row) none ∙ sym (cond-false (touches args key) (value args key) row (off key))

  exact_share : (args : Args) → step.node.args ≡ args → (exact_rows (kind_of args) ≡ [] → ⊥) → ((key : CatKey) → touches args key ≡ false) → DoesShare args out
  exact_share args e exact off = elim editless_now [ inl listed ↦ absurd (exact (ap (λ a. exact_rows (kind_of a)) (sym e) ∙ listed)) | inr none ↦ no_share args none off ]

  share : (args : Args) → step.node.args ≡ args → is_kid args ≡ true → failing out.answer ≡ None → DoesShare args out
  share (args_are.AddRegions table first bounds) e k fine = subst (DoesShare (args_are.AddRegions table first bounds)) (sym step.out_is) (uncut_so step.row (step_input J pid.0 step.node pick) (DoesShare (args_are.AddRegions table first bounds)) (λ f. adds_share table first bounds step.row.act (ap (λ a. Rattle.hm_model.proofs.ExactRows.is_listed (kind_of a) step.row.act) (sym e) ∙ listed_now (ap (λ a. exact_rows (kind_of a)) e)) step.row.next (step_input J pid.0 step.node pick) e) (ap (λ (o : StepOut). failing o.answer) (sym step.out_is) ∙ fine))
  share (args_are.DropRegions table ids) e k fine = subst (DoesShare (args_are.DropRegions table ids)) (sym step.out_is) (uncut_so step.row (step_input J pid.0 step.node pick) (DoesShare (args_are.DropRegions table ids)) (λ f. drops_share table ids step.row.act (ap (λ a. Rattle.hm_model.proofs.ExactRows.is_listed (kind_of a) step.row.act) (sym e) ∙ listed_now (ap (λ a. exact_rows (kind_of a)) e)) step.row.next (step_input J pid.0 step.node pick) e) (ap (λ (o : StepOut). failing o.answer) (sym step.out_is) ∙ fine))
  share (args_are.Root request first) e k fine = absurd (false≢true k)
  share (args_are.Crash server) e k fine = absurd (false≢true k)
  share (args_are.SweepLayout own) e k fine = absurd (false≢true k)
  share args e k fine = exact_share args e (λ h. cc) (λ key. refl)

  where_now : (then : List Edit) → Where J R top (was J R) then → Where J' R top (was J' R) then
  where_now then (inl listed) = inl (record {
    exact = listed.exact;
    lines = listed.lines;
    leads = λ sheet found. subst (λ o. Leads sheet.rows (row_after (first_row_of top.args) o) listed.lines) (sym last_root) (listed.leads sheet found);
    stage = subst (λ b. Stage top.args b listed.lines then) (sym was_root) listed.stage;
  })
  where_now then (inr exact) = inr (exact.0, exact.1, subst (IsSettled top.args) (sym was_root) exact.2)

  at_now : failing out.answer ≡ None → At J R top → At J' R top
  at_now fine at = record {
    then = at.then;
    stands = where_now at.then at.stands;
    now = λ key g. elim (cases_Bool (touches step.node.args key)) [
      | inl on ↦ inl (does key (cat J key) ∙ cond-true (touches step.node.args key) (value step.node.args key) (cat J key) on ∙ sym (at.owed pid.0 step.node step.node_is refl kid runs_now key on) ∙ ap (edited at.then key) (sym (was_key key)))
      | inr off ↦
          let same : cat J' key ≡ cat J key = does key (cat J key) ∙ cond-false (touches step.node.args key) (value step.node.args key) (cat J key) off in
          elim (at.now key g) [
            | inl is ↦ inl (same ∙ is ∙ ap (edited at.then key) (sym (was_key key)))
            | inr p ↦ inr (still key off p)
          ]
    ];
    owed = λ q x is of some running key on. ap (edited at.then key) (was_key key) ∙ elim (le_or_lt q (made J)) [
      | inl le ↦ at.owed q x (sym (node_same pid pick out J q le) ∙ is) of some (ran_before pid pick out J runs_now q running) key on
      | inr lt ↦
          let c = new_child pid pick out J step.node step.node_is q lt x is in
          let t = touches_rows c.0 key (ap (λ (n : Node). touches n.args key) (sym c.2) ∙ on) in
          absurd (no_asks step.node.args t.0 is_child ((kid_of pid pick out J grown falls step d aside (q - made J - 1) c.0 c.1).rows t.0 t.1))
    ];
  }
    where
      does : DoesShare step.node.args out
      does = share step.node.args refl is_child fine

      still : (key : CatKey) → touches step.node.args key ≡ false → Pending J R key → Pending J' R key
      still key off p =
          let differs : p.0 ≢ pid.0 = (λ same. true≢false (sym p.6 ∙ ap (λ (n : Node). touches n.args key) (same_Some p.1 step.node (sym p.2 ∙ ap (node_of J) same ∙ step.node_is)) ∙ off)) in
          (p.0, p.1, still_there pid pick out J grown step d p.0 p.1 p.2, p.3, p.4, ap is_stopped (other_answer pid pick out J p.0 differs) ∙ p.5, p.6)

  pub kid_serials : (key : CatKey) → serial J' key ≡ serial J key
  kid_serials = serial_same

  pub kid_here : Tree J' step.node.root top
  kid_here = record {
    stage = λ none running. let parts = or_none (cause J R) (failing out.answer) (sym cause_now ∙ none) in at_now parts.1 (tree.stage parts.0 (ap is_stopped (sym last_root) ∙ running));
    base = λ key g. serial_same key ∙ tree.base key g ∙ sym (was_key key);
    based = λ key some. Rattle.hm_model.proofs.Rows.in_with_keys key out.edits (keys_of J) (tree.based key (λ e. some (was_key key ∙ e)));
  }

  -- a descendant's step doesn't end a root that hasn't failed
  pub kid_over : (cause J' step.node.root ≢ None → root_ended J' step.node.root ≡ true → (key : CatKey) → covers top.args key ≡ true → cat J' key ≡ was J' step.node.root key) → root_ended J' step.node.root ≡ true → (key : CatKey) → covers top.args key ≡ true → cat J' key ≡ serial J' key
  kid_over back ended key c = by (cause J' R) refl
    where
      by : (f : Option Cause) → cause J' R ≡ f → cat J' key ≡ serial J' key
      by None e = absurd (true≢false (sym ended ∙ ap (λ f. root_over f (rolled_back J' R) (done_with (last_answer J' R))) e ∙ ap (λ o. is_some (done_with o)) last_root ∙ waiting_undone (last_answer J R) waits))
      by (Some x) e = back (λ none. none-some x (sym none ∙ e)) ended key c ∙ was_key key ∙ sym (tree.base key (cover_guards top.args key c)) ∙ sym (serial_same key)
