-- A step keeps where its own tree stands: a root's, and a descendant's.
use Rattle.std.proofs.Common.{◌≡◌, ◌≢◌, ℕ, ◌+◌, ◌-◌, ◌<◌, List, [], ◌∷◌, Bool, true, false, ◌&&◌, ◌==◌, cond, Option, Some, None, refl, ap, sym, ◌∙◌, subst, inl, inr, ◌⊎◌, slice_get, arith}
use Rattle.std.specs.Prelude.{Ok, is_none, is_some}
use Rattle.std.proofs.lemmas.Bool.{and_from, and_right, cases_Bool, cond-false, cond-true, eq-eqb, false≢true, true≢false}
use Rattle.std.proofs.lemmas.Option.{none-some, same_Some}
use Rattle.hm_names.specs.Server.{Server}
use Rattle.hm_names.specs.declared.pid.Pid.{Pid}
use Rattle.hm_names.specs.declared.table.TableName.{TableName}
use Rattle.hm_data.specs.declared.answer.Answer.{Answer}
use Rattle.hm_data.specs.declared.answer.Answer.TheVariants as answer_is
use Rattle.hm_data.specs.declared.answer.Cause.TheVariants as cause_is
use Rattle.hm_data.specs.declared.args.Args.{Args}
use Rattle.hm_data.specs.declared.args.Args.TheVariants as args_are
use Rattle.hm_data.specs.declared.call.Told.{Told}
use Rattle.hm_data.specs.declared.catalog.CatKey.{CatKey}
use Rattle.hm_data.specs.declared.catalog.Edit.{Edit}
use Rattle.hm_data.specs.declared.entry.Entry.TheVariants as entry_is
use Rattle.hm_data.specs.declared.sheet.Row.{Row}
use Rattle.hm_data.specs.declared.sheet.Sheet.{Sheet}
use Rattle.hm_data.specs.declared.step.StepIn.{StepIn}
use Rattle.hm_data.specs.declared.step.StepOut.{StepOut}
use Rattle.hm_model.specs.Acts.{act_answer}
use Rattle.hm_model.specs.Answers.{done_with, failing, is_stop, is_stopped, last_answer, no_row, row_after, row_of}
use Rattle.hm_model.specs.Catalog.{Catalog, cat, edited, keys_of, was}
use Rattle.hm_model.specs.Deeds.{Deed, deed_of}
use Rattle.hm_model.specs.Evaluation.{is_cut_off, row_answer}
use Rattle.hm_model.specs.Inputs.{step_input}
use Rattle.hm_model.specs.Journal.{Past}
use Rattle.hm_model.specs.Kinds.{first_row_of, kind_of}
use Rattle.hm_model.specs.Lists.{Line, exact_rows}
use Rattle.hm_model.specs.Locks.{IsIn, asks, exclusive}
use Rattle.hm_model.specs.Reads.{covers, guards}
use Rattle.hm_model.specs.Outs.{fails}
use Rattle.hm_model.specs.Phase.{cause, or_else, rolled_back, root_ended, root_over}
use Rattle.hm_model.specs.Serial.{at_end, edits_in, ended_deed, if_root, serial}
use Rattle.hm_model.specs.Tree.{Node, args_in, child_of, is_top, made, node_of, root_in, root_of}
use Rattle.hm_model.specs.declared.lock.Resource.TheVariants as resource_is
use Rattle.hm_model.proofs.ExactRows.{start_leads}
use Rattle.hm_model.proofs.LegalSteps.{StepFacts, ready_stops}
use Rattle.hm_model.proofs.PlainActs.{GoesTo, is_plain, plain_act}
use Rattle.hm_model.proofs.Rows.{has_key, in_with_keys}
use Rattle.hm_model.proofs.StepDoes.{Does}
use Rattle.hm_model.proofs.Trees.{Grown, answer_now, le_or_lt, new_child, node_new, node_same, other_answer, pid_there}
use Rattle.hm_model.proofs.ValidSheets.{Leads, is_last, valid_end}
use Rattle.hm_kinds.proofs.Clause.{Deeds, Sight, Stepped}
use Rattle.hm_kinds.proofs.Covering.{rows_table}
use Rattle.hm_kinds.proofs.Exact.{IsExactKind, IsSettled, exact_asks, exact_settles}
use Rattle.hm_kinds.proofs.Roots.{Stage, serves}
use Rattle.hm_kinds.proofs.Shares.{Touched, touches, value}
use Rattle.hm_kinds.proofs.Within.{Within, within_others}
use Rattle.hm_serial.proofs.Apart.{Aside}
use Rattle.hm_serial.proofs.Fallen.{Falls, root_of_node, some_cons}
use Rattle.hm_serial.proofs.FallStep.{kid_of, led_here, own_args, own_root, belongs_here, within_now}
use Rattle.hm_serial.proofs.Kinship.{editless}
use Rattle.hm_model.proofs.Tops.{TopIs}
use Rattle.hm_model.proofs.Small.{cons_nil}
use Rattle.hm_serial.proofs.Standing.{quiet_tree, step_open}
use Rattle.hm_serial.proofs.Stands.{At, IsListed, Pending, Stands, Tree, Where}

-- a whole deed counts where the answer ends a root well
pub at_end_none : (answer : Answer) (whole : Deed) → done_with (Some answer) ≡ None → at_end answer whole ≡ Ok []
at_end_none (answer_is.Done told) whole e = absurd (none-some told (sym e))
at_end_none answer whole e = refl

at_end_done : (answer : Answer) (whole : Deed) (told : Told) → done_with (Some answer) ≡ Some told → at_end answer whole ≡ whole
at_end_done (answer_is.Done own) whole told e = refl
at_end_done answer whole told e = absurd (none-some told e)

pub done_fine : (answer : Answer) (told : Told) → done_with (Some answer) ≡ Some told → failing answer ≡ None
done_fine (answer_is.Fail c) told e = absurd (none-some told e)
done_fine answer told e = refl

stop_fine : (answer : Answer) → is_stop answer ≡ false → failing answer ≡ None
stop_fine (answer_is.Done own) e = absurd (true≢false e)
stop_fine (answer_is.Fail c) e = absurd (true≢false e)
stop_fine answer e = refl

pub some_told : (o : Option Told) → (o ≡ None) ⊎ ((told : Told) × (o ≡ Some told))
some_told None = inl refl
some_told (Some told) = inr (told, refl)

goes_row : (next first : ℕ) (answer : Answer) → GoesTo next answer → is_stop answer ≡ false → row_after first (Some answer) ≡ next
goes_row next first (answer_is.Await n) goes runs = absurd goes
goes_row next first (answer_is.Done told) goes runs = absurd (true≢false runs)
goes_row next first (answer_is.Fail c) goes runs = absurd (true≢false runs)
goes_row next first answer_is.Undone goes runs = absurd goes
goes_row next first answer goes runs = goes

-- a step that isn't stopped, or is done, isn't cut off
pub uncut_so : (row : Row) (at : StepIn) (P : StepOut → Type 0) → (failing (row_answer row at).answer ≡ None → P (act_answer row.act row.next at)) → failing (row_answer row at).answer ≡ None → P (row_answer row at)
uncut_so row at P each fine = by (is_cut_off row at) refl fine
  where
    by : (b : Bool) → is_cut_off row at ≡ b → failing (cond b (fails cause_is.Aborted) (act_answer row.act row.next at)).answer ≡ None → P (row_answer row at)
    by true e h = absurd (none-some cause_is.Aborted (sym h))
    by false e h = subst P (sym (cond-false (is_cut_off row at) (fails cause_is.Aborted) (act_answer row.act row.next at) e)) (each fine)

-- who changes rows of regions adds or drops them
pub touches_rows : (args : Args) (key : CatKey) → touches args key ≡ true → (t : TableName) × (rows_table args ≡ Some t)
touches_rows (args_are.AddRegions table first bounds) key on = (table, refl)
touches_rows (args_are.DropRegions table ids) key on = (table, refl)
touches_rows args key on = absurd (false≢true on)

module _ (pid : Pid) (pick : Option Server) (out : StepOut) (J : Past) (grown : Grown J) (falls : Falls J) (stands : Stands J) (step : StepFacts J pid.0 pick out) (d : Does J pid.0 step.node.args (last_answer J pid.0) step.sheet.rows out)
    (aside : Aside J step.node.root (root_of_node J grown pid.0 step.node step.node_is).0) (top : Node) (top_is : TopIs J step.node.root top) (apart : Aside J step.node.root top) where
  abbrev J' : Past
  J' = entry_is.Step pid pick out ∷ J

  abbrev at_now : StepIn
  at_now = step_input J pid.0 step.node pick

  runs_now : is_stopped (last_answer J pid.0) ≡ false
  runs_now = ready_stops J pid.0 step.node (last_answer J pid.0) step.ready

  in_tree : (root_of J pid.0 == step.node.root) ≡ true
  in_tree = eq-eqb (root_of J pid.0) step.node.root (ap root_in step.node_is)

  cause_now : cause J' step.node.root ≡ or_else (cause J step.node.root) (failing out.answer)
  cause_now = cond-true (root_of J pid.0 == step.node.root) _ (cause J step.node.root) in_tree

  own_is : (own_root pid pick out J grown falls step d aside).0 ≡ top
  own_is = let own = own_root pid pick out J grown falls step d aside in same_Some own.0 top (sym own.1.0 ∙ top_is.0)

  pub within_top : Within top.args out.edits
  within_top = subst (λ (n : Node). Within n.args out.edits) own_is (within_now pid pick out J grown falls step d aside)

  pub cat_others : (key : CatKey) → covers top.args key ≡ false → cat J' key ≡ cat J key
  cat_others key off = within_others top.args out.edits within_top key off (cat J key)

  pub keys_grow : (key : CatKey) → IsIn key (keys_of J) → IsIn key (keys_of J')
  keys_grow key among = in_with_keys key out.edits (keys_of J) among

  -- a root's step
  module _ (e : step.node.above ≡ []) where
    root : step.node.root ≡ pid.0
    root = grown.tops pid.0 step.node step.node_is e

    me_is : top ≡ step.node
    me_is = same_Some top step.node (sym top_is.0 ∙ ap (node_of J) root ∙ step.node_is)

    top_here : TopIs J pid.0 step.node
    top_here = (step.node_is, e)

    sound : cause J pid.0 ≡ None
    sound = step.uncaused (ap is_top e)

    none_rows : rows_table step.node.args ≡ None
    none_rows = falls.tops pid.0 step.node top_here

    open_now : root_ended J pid.0 ≡ false
    open_now = subst (λ r. root_ended J r ≡ false) root (step_open pid pick out J grown step d)

    -- all other procedures of the tree have stopped
    quiet : (q : ℕ) (x : Node) → node_of J q ≡ Some x → x.root ≡ pid.0 → x.above ≢ [] → is_stopped (last_answer J q) ≡ true
    quiet q x is of some = quiet_tree J grown pid.0 step.node step.ready q x is of some

    -- what stands before the step
    record Ready (base : Catalog) : Type 0 where
      was_is : was J' pid.0 ≡ base
      then : List Edit
      stands_at : IsListed J pid.0 step.node base then ⊎ (IsExactKind step.node.args × (then ≡ []) × (IsSettled step.node.args base ⊎ (last_answer J pid.0 ≡ None)))
      now : (key : CatKey) → guards step.node.args key ≡ true → cat J key ≡ edited then key (base key)
      same : (key : CatKey) → guards step.node.args key ≡ true → serial J key ≡ base key
      based : (key : CatKey) → base key ≢ None → IsIn key (keys_of J)

    kind_or : (rows : List Row) → exact_rows (kind_of step.node.args) ≡ rows → (exact_rows (kind_of step.node.args) ≡ []) ⊎ IsExactKind step.node.args
    kind_or [] r = inl r
    kind_or (first ∷ more) r = inr (λ none. cons_nil first more (sym r ∙ none))

    first_was : last_answer J pid.0 ≡ None → was J' pid.0 ≡ cat J
    first_was none = cond-true ((pid.0 == pid.0) && is_none (last_answer J pid.0)) (cat J) (was J pid.0) (and_from (pid.0 == pid.0) (is_none (last_answer J pid.0)) (eq-eqb pid.0 pid.0 refl) (ap is_none none))

    later_was : (a : Answer) → last_answer J pid.0 ≡ Some a → was J' pid.0 ≡ was J pid.0
    later_was a some = cond-false ((pid.0 == pid.0) && is_none (last_answer J pid.0)) (cat J) (was J pid.0) (and_right (pid.0 == pid.0) (is_none (last_answer J pid.0)) (ap is_none some))

    ready_first : last_answer J pid.0 ≡ None → Ready (cat J)
    ready_first none = record {
      was_is = first_was none;
      then = [];
      stands_at = elim (kind_or (exact_rows (kind_of step.node.args)) refl) [
        | inl exact ↦
            let starts = start_leads step.node.args exact step.sheet step.valid step.of_kind in
            inl (record {
              exact = exact;
              lines = starts.0;
              leads = λ sheet found.
                  let one : step.sheet ≡ sheet = same_Some step.sheet sheet (sym step.sheet_is ∙ found) in
                  subst (λ (s : Sheet). Leads s.rows (row_of J pid.0 step.node) starts.0) one
                  (subst (λ o. Leads step.sheet.rows (row_after (first_row_of step.node.args) o) starts.0) (sym none) starts.2);
              stage = (serves step.node.args exact none_rows).begins (cat J) starts.0 starts.1;
            })
        | inr exact ↦ inr (exact, refl, inr none)
      ];
      now = λ key g. refl;
      same = λ key g. sym (stands.settled key (λ r node h. elim (cases_Bool (covers node.args key)) [
        | inr off ↦ off
        | inl on ↦
            let differs : r ≢ step.node.root = (λ same. h.1 (ap (last_answer J) (same ∙ root) ∙ none)) in
            absurd (true≢false (sym on ∙ (apart r node h differs key).1 (ap (λ (n : Node). guards n.args key) me_is ∙ g)))
      ]));
      based = λ key some. has_key J key some;
    }

    ready_on : (a : Answer) → last_answer J pid.0 ≡ Some a → Ready (was J pid.0)
    ready_on a some =
        let tree = stands.tree pid.0 step.node (top_here, (λ none. none-some a (sym none ∙ some)), open_now) in
        let at = tree.stage sound runs_now in
        record {
          was_is = later_was a some;
          then = at.then;
          stands_at = elim at.stands [ inl listed ↦ inl listed | inr exact ↦ inr (exact.0, exact.1, inl exact.2) ];
          now = λ key g. elim (at.now key g) [ inl is ↦ is | inr p ↦ absurd (true≢false (sym (quiet p.0 p.1 p.2 p.3 p.4) ∙ p.5)) ];
          same = tree.base;
          based = tree.based;
        }

    ready : (o : Option Answer) → last_answer J pid.0 ≡ o → (base : Catalog) × Ready base
    ready None none = (cat J, ready_first none)
    ready (Some a) some = (was J pid.0, ready_on a some)

    module _ (base : Catalog) (r : Ready base) where
      sight : Sight step.node.args base (cat J) (serial J) (keys_of J) r.then (step_input J pid.0 step.node pick)
      sight = record { own = refl; rows = refl; now = r.now; same = r.same; listed = λ key some. has_key J key some; based = r.based }

      -- what follows of the step
      record Did : Type 0 where
        goes : is_stop out.answer ≡ false → (then : List Edit) × Where J' pid.0 step.node base then
            × ((key : CatKey) → guards step.node.args key ≡ true → (edited out.edits key (edited r.then key (base key)) ≡ edited then key (base key)) ⊎ Touched (args_in out.children) key)
            × ((i : ℕ) (a : Args) → slice_get (args_in out.children) i ≡ Some a → (key : CatKey) → touches a key ≡ true → edited then key (base key) ≡ value a key)
        ends : (told : Told) → done_with (Some out.answer) ≡ Some told → Deeds step.node.args base (serial J) (keys_of J) r.then out

      last_is : last_answer J' pid.0 ≡ Some out.answer
      last_is = answer_now pid pick out J

      abbrev ListedAt : List Line → Type 0
      ListedAt lines = Leads step.sheet.rows (row_of J pid.0 step.node) lines × Stage step.node.args base lines r.then

      abbrev StepsSo : List Line → StepOut → Type 0
      StepsSo behind o = Stepped step.node.args (Stage step.node.args base behind) base (serial J) (keys_of J) r.then o × GoesTo step.row.next o.answer

      listed_did : exact_rows (kind_of step.node.args) ≡ [] → (lines : List Line) → ListedAt lines → Did
      listed_did exact [] at = absurd (valid_end step.sheet step.valid step.row (ap (slice_get step.sheet.rows) (sym at.0) ∙ step.row_is))
      listed_did exact (line ∷ behind) at = record {
        goes = λ runs.
            let w = stepped (ap failing (ap (λ (o : StepOut). o.answer) (sym step.out_is)) ∙ stop_fine out.answer runs) in
            let on = w.0.goes runs in (
              on.then,
              inl (record {
                exact = exact;
                lines = behind;
                leads = λ sheet found.
                    let one : step.sheet ≡ sheet = same_Some step.sheet sheet (sym step.sheet_is ∙ found) in
                    subst (λ (s : Sheet). Leads s.rows (row_of J' pid.0 step.node) behind) one
                    (subst (λ o. Leads step.sheet.rows (row_after (first_row_of step.node.args) o) behind) (sym last_is)
                    (subst (λ n. Leads step.sheet.rows n behind) (sym (goes_row step.row.next (first_row_of step.node.args) out.answer w.1 runs)) leads));
                stage = on.stage;
              }),
              on.now,
              on.owed,
            );
        ends = λ told done. (stepped (ap failing (ap (λ (o : StepOut). o.answer) (sym step.out_is)) ∙ done_fine out.answer told done)).0.ends told done;
      }
        where
          row_same : at.0.0 ≡ step.row
          row_same = same_Some at.0.0 step.row (sym at.0.1 ∙ step.row_is)

          act_is : step.row.act ≡ line.act
          act_is = ap (λ (x : Row). x.act) (sym row_same) ∙ at.0.2.0

          ends_is : (step.row.next == no_row) ≡ is_last behind
          ends_is = ap (λ (x : Row). x.next == no_row) (sym row_same) ∙ at.0.3

          leads : Leads step.sheet.rows step.row.next behind
          leads = subst (λ (x : Row). Leads step.sheet.rows x.next behind) row_same at.0.4

          plain : is_plain step.row.act ≡ true
          plain = (Rattle.hm_serial.proofs.Kinship.led_at J pid.0 pick out step d (led_here pid pick out J grown falls step d aside) top.args exact_own exact_belongs exact).plain
            where
              exact_own : exact_rows (kind_of step.node.args) ≡ [] → rows_table step.node.args ≡ None → top.args ≡ step.node.args
              exact_own x y = ap (λ (n : Node). n.args) me_is

              exact_belongs : (t : TableName) → rows_table step.node.args ≡ Some t → IsIn (exclusive (resource_is.Table t)) (asks top.args)
              exact_belongs t is = absurd (none-some t (sym none_rows ∙ is))

          acts : StepsSo behind (act_answer step.row.act step.row.next at_now)
          acts = (
            subst (λ a. Stepped step.node.args (Stage step.node.args base behind) base (serial J) (keys_of J) r.then (act_answer a step.row.next at_now)) (sym act_is)
                ((serves step.node.args exact none_rows).steps base (cat J) (serial J) (keys_of J) line behind r.then at_now step.row.next at.1 sight ends_is),
            (plain_act step.row.act plain step.row.next at_now).goes,
          )

          stepped : failing (row_answer step.row at_now).answer ≡ None → StepsSo behind out
          stepped fine = subst (StepsSo behind) (sym step.out_is) (uncut_so step.row at_now (StepsSo behind) (λ f. acts) fine)

      -- a root of exact rows edits nothing, and has children that change nothing
      exact_did : IsExactKind step.node.args → r.then ≡ [] → IsSettled step.node.args base ⊎ (last_answer J pid.0 ≡ None) → Did
      exact_did exact none settled = record {
        goes = λ runs. (
          [],
          inr (exact, refl, now_settled (stop_fine out.answer runs)),
          (λ key g. inl (ap (λ l. edited l key (edited r.then key (base key))) no_edits ∙ ap (λ l. edited l key (base key)) none)),
          (λ i a get key on. absurd (no_touch i a get key on)),
        );
        ends = λ told done. record {
          edits = [];
          deed_is = now_settled (done_fine out.answer told done) (serial J) (keys_of J) r.same;
          within = tt;
          same = λ key c. sym (ap (λ l. edited l key (edited r.then key (base key))) no_edits ∙ ap (λ l. edited l key (base key)) none);
        };
      }
        where
          no_edits : out.edits ≡ []
          no_edits = elim (editless J pid.0 pick out step d (led_here pid pick out J grown falls step d aside) (own_root pid pick out J grown falls step d aside).0.args (own_args pid pick out J grown falls step d aside) (belongs_here pid pick out J grown falls step d aside)) [
            | inl listed ↦ absurd (exact listed)
            | inr empty ↦ empty
          ]

          no_touch : (i : ℕ) (a : Args) → slice_get (args_in out.children) i ≡ Some a → (key : CatKey) → touches a key ≡ true → ⊥
          no_touch i a get key on = let t = touches_rows a key on in exact_asks step.node.args exact t.0 ((kid_of pid pick out J grown falls step d aside i a get).rows t.0 t.1)

          exact_row : slice_get (exact_rows (kind_of step.node.args)) (row_of J pid.0 step.node) ≡ Some step.row
          exact_row = by (exact_rows (kind_of step.node.args)) refl
            where
              by : (rows : List Row) → exact_rows (kind_of step.node.args) ≡ rows → slice_get (exact_rows (kind_of step.node.args)) (row_of J pid.0 step.node) ≡ Some step.row
              by [] e = absurd (exact e)
              by (first ∷ more) e = ap (λ l. slice_get l (row_of J pid.0 step.node)) (e ∙ sym (Rattle.hm_model.proofs.ExactRows.exact_is step.sheet step.valid (kind_of step.node.args) step.of_kind first more e)) ∙ step.row_is

          now_settled : failing out.answer ≡ None → IsSettled step.node.args base
          now_settled fine = elim settled [
            | inl had ↦ had
            | inr first ↦ exact_settles step.node.args exact step.row (ap (λ o. slice_get (exact_rows (kind_of step.node.args)) (row_after (first_row_of step.node.args) o)) (sym first) ∙ exact_row) base (cat J) (serial J) (keys_of J) at_now (subst (λ l. Sight step.node.args base (cat J) (serial J) (keys_of J) l at_now) none sight) (ap (λ (o : StepOut). failing o.answer) (sym step.out_is) ∙ fine)
          ]

      did : Did
      did = elim r.stands_at [
        | inl listed ↦ listed_did listed.exact listed.lines (listed.leads step.sheet step.sheet_is, listed.stage)
        | inr exact ↦ exact_did exact.0 exact.1 exact.2
      ]

      serial_is : (key : CatKey) → serial J' key ≡ edited (edits_in (at_end out.answer (deed_of step.node.args (keys_of J) (serial J)))) key (serial J key)
      serial_is key =
          ap (λ o. edited (edits_in (ended_deed o out.answer (keys_of J) (serial J))) key (serial J key)) step.node_is
          ∙ ap (λ l. edited (edits_in (if_root l (at_end out.answer (deed_of step.node.args (keys_of J) (serial J))))) key (serial J key)) e

      serial_on : done_with (Some out.answer) ≡ None → (key : CatKey) → serial J' key ≡ serial J key
      serial_on none key = serial_is key ∙ ap (λ o. edited (edits_in o) key (serial J key)) (at_end_none out.answer _ none)

      serial_done : (told : Told) (done : done_with (Some out.answer) ≡ Some told) → (key : CatKey) → serial J' key ≡ edited (did.ends told done).edits key (serial J key)
      serial_done told done key = serial_is key ∙ ap (λ o. edited (edits_in o) key (serial J key)) (at_end_done out.answer _ told done ∙ (did.ends told done).deed_is)

      serial_root : (key : CatKey) → covers step.node.args key ≡ false → serial J' key ≡ serial J key
      serial_root key off = elim (some_told (done_with (Some out.answer))) [
        | inl none ↦ serial_on none key
        | inr done ↦ serial_done done.0 done.1 key ∙ within_others step.node.args (did.ends done.0 done.1).edits (did.ends done.0 done.1).within key off (serial J key)
      ]

      will_change : (key : CatKey) → Touched (args_in out.children) key → Pending J' pid.0 key
      will_change key t =
          let lt : made J < made J + t.0 + 1 = omega arith in
          let place : made J + t.0 + 1 - made J - 1 ≡ t.0 = omega arith in
          let le = pid_there pid pick out J grown step d in
          let differs : made J + t.0 + 1 ≢ pid.0 = (λ same. omega (arith, same, le)) in (
            made J + t.0 + 1,
            child_of pid.0 step.node t.1,
            node_new pid pick out J step.node step.node_is (made J + t.0 + 1) lt ∙ ap (λ i. Rattle.std.specs.Prelude.option_map (child_of pid.0 step.node) (slice_get (args_in out.children) i)) place ∙ ap (Rattle.std.specs.Prelude.option_map (child_of pid.0 step.node)) t.2,
            root,
            some_cons pid.0 step.node.above,
            ap is_stopped (other_answer pid pick out J (made J + t.0 + 1) differs ∙ grown.unmade (made J + t.0 + 1) (grown.numbered (made J + t.0 + 1) lt)),
            t.3,
          )

      at_next : is_stop out.answer ≡ false → At J' pid.0 step.node
      at_next runs = let g = did.goes runs in record {
        then = g.0;
        stands = subst (λ b. Where J' pid.0 step.node b g.0) (sym r.was_is) g.1;
        now = λ key guard. elim (g.2 key guard) [
          | inl is ↦ inl (ap (edited out.edits key) (r.now key guard) ∙ is ∙ ap (λ (b : Catalog). edited g.0 key (b key)) (sym r.was_is))
          | inr t ↦ inr (will_change key t)
        ];
        owed = λ q x is of some running key on. ap (λ (b : Catalog). edited g.0 key (b key)) r.was_is ∙ elim (le_or_lt q (made J)) [
          | inl le ↦
              let was_there = sym (node_same pid pick out J q le) ∙ is in
              let differs : q ≢ pid.0 = (λ same. some (ap (λ (n : Node). n.above) (same_Some x step.node (sym was_there ∙ ap (node_of J) same ∙ step.node_is)) ∙ e)) in
              absurd (true≢false (sym (quiet q x was_there of some) ∙ ap is_stopped (sym (other_answer pid pick out J q differs)) ∙ running))
          | inr lt ↦
              let c = new_child pid pick out J step.node step.node_is q lt x is in
              let args_is : x.args ≡ c.0 = ap (λ (n : Node). n.args) c.2 in
              g.3 (q - made J - 1) c.0 c.1 key (ap (λ a. touches a key) (sym args_is) ∙ on) ∙ ap (λ a. value a key) (sym args_is)
        ];
      }

      sound_over : cause J' pid.0 ≡ None → root_ended J' pid.0 ≡ is_some (done_with (Some out.answer))
      sound_over none = ap (λ c. root_over c (rolled_back J' pid.0) (done_with (last_answer J' pid.0))) none ∙ ap (λ a. is_some (done_with a)) last_is

      cause_root : cause J' pid.0 ≡ failing out.answer
      cause_root = ap (cause J') (sym root) ∙ cause_now ∙ ap (λ c. or_else c (failing out.answer)) (ap (cause J) root ∙ sound)

      root_here : root_ended J' pid.0 ≡ false → Tree J' pid.0 step.node
      root_here running =
          let undone : done_with (Some out.answer) ≡ None = elim (some_told (done_with (Some out.answer))) [
            | inl none ↦ none
            | inr done ↦ absurd (true≢false (sym (ap is_some done.1) ∙ sym (sound_over (cause_root ∙ done_fine out.answer done.0 done.1)) ∙ running))
          ] in
          record {
            stage = λ none runs. at_next (ap is_stopped (sym last_is) ∙ runs);
            base = λ key g. serial_on undone key ∙ r.same key g ∙ ap (λ (b : Catalog). b key) (sym r.was_is);
            based = λ key some. keys_grow key (r.based key (λ none. some (ap (λ (b : Catalog). b key) r.was_is ∙ none)));
          }

      -- a root that is done did what its deed does; `back` says what a failed one left
      root_over_now : (cause J' pid.0 ≢ None → root_ended J' pid.0 ≡ true → (key : CatKey) → covers step.node.args key ≡ true → cat J' key ≡ was J' pid.0 key) → root_ended J' pid.0 ≡ true → (key : CatKey) → covers step.node.args key ≡ true → cat J' key ≡ serial J' key
      root_over_now back ended key c =
          let g = Rattle.hm_serial.proofs.Frame.cover_guards step.node.args key c in
          elim (some_told (done_with (Some out.answer))) [
            | inr done ↦
                ap (edited out.edits key) (r.now key g) ∙ sym ((did.ends done.0 done.1).same key c)
                ∙ ap (edited (did.ends done.0 done.1).edits key) (sym (r.same key g)) ∙ sym (serial_done done.0 done.1 key)
            | inl none ↦
                let sick : cause J' pid.0 ≢ None = (λ fine. true≢false (sym ended ∙ sound_over fine ∙ ap is_some none)) in
                back sick ended key c ∙ ap (λ (b : Catalog). b key) r.was_is ∙ sym (r.same key g) ∙ sym (serial_on none key)
          ]

    pub record RootKeeps : Type 0 where
      pub serials : (key : CatKey) → covers top.args key ≡ false → serial J' key ≡ serial J key
      pub here : root_ended J' step.node.root ≡ false → Tree J' step.node.root top
      pub over : (cause J' step.node.root ≢ None → root_ended J' step.node.root ≡ true → (key : CatKey) → covers top.args key ≡ true → cat J' key ≡ was J' step.node.root key) → root_ended J' step.node.root ≡ true → (key : CatKey) → covers top.args key ≡ true → cat J' key ≡ serial J' key
      pub deed : (told : Told) → done_with (Some out.answer) ≡ Some told → (edits : List Edit) × (deed_of step.node.args (keys_of J) (serial J) ≡ Ok edits)

    pub root_keeps : RootKeeps
    root_keeps =
        let r = ready (last_answer J pid.0) refl in
        record {
          serials = λ key off. serial_root r.0 r.1 key (ap (λ (n : Node). covers n.args key) (sym me_is) ∙ off);
          here = λ running. subst (λ k. Tree J' k top) (sym root) (subst (Tree J' pid.0) (sym me_is) (root_here r.0 r.1 (ap (root_ended J') (sym root) ∙ running)));
          over = λ back ended key c. root_over_now r.0 r.1 (λ sick done k on. back (λ none. sick (ap (cause J') (sym root) ∙ none)) (ap (root_ended J') root ∙ done) k (ap (λ (n : Node). covers n.args k) me_is ∙ on) ∙ ap (λ q. was J' q k) root) (ap (root_ended J') (sym root) ∙ ended) key (ap (λ (n : Node). covers n.args key) (sym me_is) ∙ c);
          deed = λ told done. let e = (did r.0 r.1).ends told done in (e.edits, e.deed_is);
        }
