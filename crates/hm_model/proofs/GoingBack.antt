-- The steps of a failed tree are undone from the latest to the first.
use Rattle.std.proofs.Common.{◌≡◌, ◌≢◌, ℕ, ◌+◌, List, [], ◌∷◌, ◌++◌, length, map, Bool, true, false, not, ◌&&◌, ◌==◌, cond, if◌then◌else◌, Option, Some, None, is_some, refl, ap, sym, ◌∙◌, inl, inr, arith}
use Rattle.std.proofs.lemmas.Bool.{and_parts, cases_Bool, cases_eq, cond-false, cond-true, eq-eqb, false≢true, ne_eqb, true≢false}
use Rattle.std.proofs.lemmas.Option.{same_Some}
use Rattle.hm_names.specs.Server.{Server}
use Rattle.hm_names.specs.declared.pid.Pid.{Pid}
use Rattle.hm_data.specs.declared.act.Back.{Back}
use Rattle.hm_data.specs.declared.act.Back.TheVariants as back_is
use Rattle.hm_data.specs.declared.answer.Cause.{Cause}
use Rattle.hm_data.specs.declared.catalog.Edit.{Edit}
use Rattle.hm_data.specs.declared.entry.Entry.TheVariants as entry_is
use Rattle.hm_data.specs.declared.step.StepOut.{StepOut}
use Rattle.hm_model.specs.Answers.{done_with, failing, is_stop, is_stopped, last_answer}
use Rattle.hm_model.specs.Counts.{one_if}
use Rattle.hm_model.specs.GoingBack.{Reversal, if_undone, reversal_of, to_undo, undos_of}
use Rattle.hm_model.specs.Journal.{Past}
use Rattle.hm_model.specs.Phase.{all_stopped, cause, in_tree, or_else, rolled_back, root_ended, root_over, stopped_in}
use Rattle.hm_model.specs.Procedures.{latest, left_to_undo}
use Rattle.hm_model.specs.Rules.{IsLegal}
use Rattle.hm_model.specs.Sheets.{undo_of_next}
use Rattle.hm_model.specs.Tree.{Node, args_in, is_top, made, node_of, root_in, root_of}
use Rattle.hm_model.specs.Undo.{Undoable, is_empty, pushed, rest_of, row_if_there, stack}
use Rattle.hm_model.specs.Undoing.{undo_edits}
use Rattle.hm_model.specs.Waiting.{open_under}
use Rattle.hm_model.proofs.Forest.{rooted_all}
use Rattle.hm_model.proofs.LegalSteps.{ready_stops}
use Rattle.hm_model.proofs.Tops.{undo_open}
use Rattle.hm_model.proofs.Trees.{all_below_at, at_top, grown_all, is_there, step_of}
use Rattle.hm_model.proofs.UndoMakes.{undo_of}
use Rattle.hm_model.proofs.Waiting.{under_change, under_tells}
use Rattle.hm_model.proofs.Small.{from_test}

-- what takes a step back that is left to undo
abbrev mark : Undoable → Reversal
mark step = record { pid = step.pid; row = step.row; edits = undo_edits step.undo step.edits }

marked : (undo : Back) (failed : Bool) (p row : ℕ) (edits : List Edit) (below : List Undoable) → map mark (pushed undo failed p row edits below) ≡ (if failed then [] else if_undone undo (record { pid = p; row = row; edits = undo_edits undo edits })) ++ map mark below
marked back_is.Nothing true p row edits below = refl
marked back_is.Nothing false p row edits below = refl
marked back_is.Edits true p row edits below = refl
marked back_is.Edits false p row edits below = refl
marked back_is.Sweep true p row edits below = refl
marked back_is.Sweep false p row edits below = refl
marked back_is.Reopen true p row edits below = refl
marked back_is.Reopen false p row edits below = refl

one_on : (list : List Reversal) (x : Reversal) (more : List Reversal) → list ++ x ∷ more ≡ (list ++ x ∷ []) ++ more
one_on [] x more = refl
one_on (y ∷ list) x more = ap (λ l. y ∷ l) (one_on list x more)

none_on : (list : List Reversal) → list ++ [] ≡ list
none_on [] = refl
none_on (x ∷ list) = ap (λ l. x ∷ l) (none_on list)

not_none : (x : Reversal) (list : List Reversal) → x ∷ list ≡ [] → ⊥
not_none x list e = cc

abbrev by_parts : ℕ → ℕ → List Edit → Reversal
by_parts p row edits = record { pid = p; row = row; edits = edits }

same_mark : (p p' row row' : ℕ) (edits edits' : List Edit) → p ≡ p' → row ≡ row' → edits ≡ edits' → by_parts p row edits ≡ by_parts p' row' edits'
same_mark p p' row row' edits edits' e f g =
    ap (λ n. by_parts n row edits) e ∙ ap (λ n. by_parts p' n edits) f ∙ ap (by_parts p' row') g

-- where no descendant comes to be open, all stay stopped
still_stopped : (J J' : Past) (r a b : ℕ) → open_under J' r + a ≡ open_under J r + b → a ≡ 0 → b ≡ 0 → all_stopped J r ≡ true → all_stopped J' r ≡ true
still_stopped J J' r a b change none no_more all =
    under_tells J' r ∙ ap (λ n. n == 0) (by (open_under J' r) (open_under J r) change) ∙ sym (under_tells J r) ∙ all
  where
    by : (n m : ℕ) → n + a ≡ m + b → n ≡ m
    by n m e = omega (arith, e, none, no_more)

-- who makes a step isn't of a failed tree whose descendants have stopped
not_over : (pid : Pid) (pick : Option Server) (out : StepOut) (J : Past) → IsLegal (entry_is.Step pid pick out ∷ J) → cause J (root_of J pid.0) ≢ None → all_stopped J (root_of J pid.0) ≡ true → ⊥
not_over pid pick out J legal failed all =
    let step = step_of pid pick out J (grown_all J legal.0) legal in
    let own : root_of J pid.0 ≡ step.node.root = ap root_in step.node_is in
    elim (cases_Bool (is_top step.node.above)) [
      | inl top ↦ failed (ap (cause J) (own ∙ at_top J (grown_all J legal.0) pid.0 step.node step.node_is top) ∙ step.uncaused top)
      | inr below ↦
          let root = rooted_all J legal.0 pid.0 step.node step.node_is in
          let differs : pid.0 ≢ root_of J pid.0 = λ same. true≢false (sym (ap (λ (n : Node). is_top n.above) (same_Some step.node root.root (sym step.node_is ∙ ap (node_of J) (same ∙ own) ∙ root.there)) ∙ ap is_top root.at_top) ∙ below) in
          let le = is_there J (grown_all J legal.0) pid.0 step.node step.node_is in
          let here = all_below_at (made J + 1) (stopped_in J (root_of J pid.0)) pid.0 all (omega (arith, le)) in
          true≢false (sym (from_test (in_tree (root_of J pid.0) (node_of J pid.0)) (pid.0 == root_of J pid.0) (is_stopped (last_answer J pid.0)) (ap (in_tree (root_of J pid.0)) step.node_is ∙ eq-eqb step.node.root (root_of J pid.0) (sym own)) (ne_eqb pid.0 (root_of J pid.0) differs) here) ∙ ready_stops J pid.0 step.node (last_answer J pid.0) step.ready)
    ]

-- the undos of a tree took back its latest steps in turn, and what is left is left; after one the tree is failed, and all
-- descendants have stopped
record GoesBack (J : Past) (r : ℕ) : Type 0 where
  order : to_undo J r ≡ undos_of J r ++ map mark (stack J r)
  over : undos_of J r ≢ [] → (cause J r ≢ None) × (all_stopped J r ≡ true)

-- an entry that makes no step and undoes none
plainly : (J J' : Past) (r : ℕ) → GoesBack J r → to_undo J' r ≡ to_undo J r → undos_of J' r ≡ undos_of J r → stack J' r ≡ stack J r → cause J' r ≡ cause J r → (all_stopped J r ≡ true → all_stopped J' r ≡ true) → GoesBack J' r
plainly J J' r old steps undos left failed stopped = record {
  order = steps ∙ old.order ∙ ap (λ l. l ++ map mark (stack J r)) (sym undos) ∙ ap (λ l. undos_of J' r ++ map mark l) (sym left);
  over = λ some. (let was = old.over (λ none. some (undos ∙ none)) in (λ none. was.0 (sym failed ∙ none), stopped was.1));
}

module _ (pid : Pid) (pick : Option Server) (out : StepOut) (J : Past) (legal : IsLegal (entry_is.Step pid pick out ∷ J)) (r : ℕ) (old : GoesBack J r) where
  not_undone : root_of J pid.0 ≡ r → undos_of J r ≡ []
  not_undone mine = by (undos_of J r) refl
    where
      by : (l : List Reversal) → undos_of J r ≡ l → l ≡ []
      by [] e = refl
      by (x ∷ l) e =
          let was = old.over (λ none. not_none x l (sym e ∙ none)) in
          absurd (not_over pid pick out J legal (λ none. was.0 (ap (cause J) (sym mine) ∙ none)) (ap (all_stopped J) mine ∙ was.1))

  of_step : GoesBack (entry_is.Step pid pick out ∷ J) r
  of_step = elim (cases_eq (root_of J pid.0) r) [
    | inl mine ↦
        let none = not_undone mine in
        let is = eq-eqb (root_of J pid.0) r mine in
        record {
          order =
              cond-true (root_of J pid.0 == r) (reversal_of (undo_of_next J pid.0 (node_of J pid.0)) pid.0 (row_if_there J pid.0 (node_of J pid.0)) out ++ to_undo J r) (to_undo J r) is
              ∙ ap (λ l. reversal_of (undo_of_next J pid.0 (node_of J pid.0)) pid.0 (row_if_there J pid.0 (node_of J pid.0)) out ++ l) (old.order ∙ ap (λ l. l ++ map mark (stack J r)) none)
              ∙ sym (marked (undo_of_next J pid.0 (node_of J pid.0)) (is_some (failing out.answer)) pid.0 (row_if_there J pid.0 (node_of J pid.0)) out.edits (stack J r))
              ∙ ap (map mark) (sym (cond-true (root_of J pid.0 == r) (pushed (undo_of_next J pid.0 (node_of J pid.0)) (is_some (failing out.answer)) pid.0 (row_if_there J pid.0 (node_of J pid.0)) out.edits (stack J r)) (stack J r) is))
              ∙ ap (λ l. l ++ map mark (stack (entry_is.Step pid pick out ∷ J) r)) (sym none);
          over = λ some. absurd (some none);
        }
    | inr other ↦
        let off = ne_eqb (root_of J pid.0) r other in
        let step = step_of pid pick out J (grown_all J legal.0) legal in
        let out_of_tree : in_tree r (node_of J pid.0) ≡ false = ap (in_tree r) step.node_is ∙ ne_eqb step.node.root r (λ e. other (ap root_in step.node_is ∙ e)) in
        plainly J (entry_is.Step pid pick out ∷ J) r old
        (cond-false (root_of J pid.0 == r) (reversal_of (undo_of_next J pid.0 (node_of J pid.0)) pid.0 (row_if_there J pid.0 (node_of J pid.0)) out ++ to_undo J r) (to_undo J r) off)
        refl
        (cond-false (root_of J pid.0 == r) (pushed (undo_of_next J pid.0 (node_of J pid.0)) (is_some (failing out.answer)) pid.0 (row_if_there J pid.0 (node_of J pid.0)) out.edits (stack J r)) (stack J r) off)
        (cond-false (root_of J pid.0 == r) (or_else (cause J r) (failing out.answer)) (cause J r) off)
        (still_stopped J (entry_is.Step pid pick out ∷ J) r (one_if ((in_tree r (node_of J pid.0) && not (pid.0 == r)) && is_stop out.answer)) (if in_tree r (node_of J pid.0) then length (args_in out.children) else 0) (under_change (entry_is.Step pid pick out) J legal r) (ap (λ b. one_if ((b && not (pid.0 == r)) && is_stop out.answer)) out_of_tree) (ap (λ b. if b then length (args_in out.children) else 0) out_of_tree))
  ]

module _ (pid : Pid) (row : ℕ) (out : StepOut) (J : Past) (legal : IsLegal (entry_is.Undo pid row out ∷ J)) (r : ℕ) (old : GoesBack J r) where
  of_undo : GoesBack (entry_is.Undo pid row out ∷ J) r
  of_undo =
      let stays = still_stopped J (entry_is.Undo pid row out ∷ J) r 0 0 (under_change (entry_is.Undo pid row out) J legal r) refl refl in
      elim (cases_eq (root_of J pid.0) r) [
        | inr other ↦
            let off = ne_eqb (root_of J pid.0) r other in
            plainly J (entry_is.Undo pid row out ∷ J) r old refl (cond-false (root_of J pid.0 == r) (undos_of J r ++ by_parts pid.0 row out.edits ∷ []) (undos_of J r) off) (cond-false (root_of J pid.0 == r) (rest_of (stack J r)) (stack J r) off) refl stays
        | inl mine ↦
            let is = eq-eqb (root_of J pid.0) r mine in
            let l = legal.1.1.0 in
            let u = undo_of pid row out J legal in
            let left : left_to_undo J (root_of J pid.0) ≡ u.latest ∷ u.below = ap (λ b. cond b [] (stack J (root_of J pid.0))) (undo_open pid row out J legal) ∙ u.stack_is in
            let found : u.latest ≡ l.3 = same_Some u.latest l.3 (sym (ap latest left) ∙ l.4) in
            let named : mark u.latest ≡ by_parts pid.0 row out.edits = same_mark u.latest.pid pid.0 u.latest.row row (undo_edits u.latest.undo u.latest.edits) out.edits (ap (λ (s : Undoable). s.pid) found ∙ l.5) (ap (λ (s : Undoable). s.row) found ∙ l.6) (ap (λ b. undo_edits b u.latest.edits) (sym u.undo_is) ∙ ap (λ (o : StepOut). o.edits) (sym u.out_is)) in
            let there : stack J r ≡ u.latest ∷ u.below = ap (stack J) (sym mine) ∙ u.stack_is in
            let parts = and_parts (is_top l.0.above) (is_some (cause J (root_of J pid.0)) && (all_stopped J (root_of J pid.0) && not (is_empty (stack J (root_of J pid.0))))) l.2 in
            let more = and_parts (is_some (cause J (root_of J pid.0))) (all_stopped J (root_of J pid.0) && not (is_empty (stack J (root_of J pid.0)))) parts.1 in
            let last = and_parts (all_stopped J (root_of J pid.0)) (not (is_empty (stack J (root_of J pid.0)))) more.1 in
            record {
              order =
                  old.order
                  ∙ ap (λ s. undos_of J r ++ map mark s) there
                  ∙ ap (λ x. undos_of J r ++ x ∷ map mark u.below) named
                  ∙ one_on (undos_of J r) (by_parts pid.0 row out.edits) (map mark u.below)
                  ∙ ap (λ l. l ++ map mark u.below) (sym (cond-true (root_of J pid.0 == r) (undos_of J r ++ by_parts pid.0 row out.edits ∷ []) (undos_of J r) is))
                  ∙ ap (λ s. undos_of (entry_is.Undo pid row out ∷ J) r ++ map mark s) (sym (cond-true (root_of J pid.0 == r) (rest_of (stack J r)) (stack J r) is ∙ ap rest_of there));
              over = λ some. (λ none. false≢true (sym (ap is_some (ap (cause J) mine ∙ none)) ∙ more.0), stays (ap (all_stopped J) (sym mine) ∙ last.0));
            }
      ]

goes_back : (J : Past) → IsLegal J → (r : ℕ) → GoesBack J r
goes_back [] legal r = record { order = refl; over = λ some. absurd (some refl) }
goes_back (entry_is.Step pid pick out ∷ J) legal r = of_step pid pick out J legal r (goes_back J legal.0 r)
goes_back (entry_is.Undo pid row out ∷ J) legal r = of_undo pid row out J legal r (goes_back J legal.0 r)
goes_back (entry_is.Base part ∷ J) legal r = record { order = refl; over = λ some. absurd (some refl) }
goes_back (entry ∷ J) legal r = plainly J (entry ∷ J) r (goes_back J legal.0 r) refl refl refl refl (still_stopped J (entry ∷ J) r 0 0 (under_change entry J legal r) refl refl)

pub undos_go_back : (J : Past) → IsLegal J → (r : ℕ) → (left : List Reversal) × (to_undo J r ≡ undos_of J r ++ left)
undos_go_back J legal r = (map mark (stack J r), (goes_back J legal r).order)

pub all_is_undone : (J : Past) → IsLegal J → (r : ℕ) → cause J r ≢ None → root_ended J r ≡ true → to_undo J r ≡ undos_of J r
all_is_undone J legal r failed over = by (cause J r) refl
  where
    none_left : (l : List Undoable) → is_empty l ≡ true → map mark l ≡ []
    none_left [] e = refl
    none_left (x ∷ l) e = absurd (false≢true e)

    by : (c : Option Cause) → cause J r ≡ c → to_undo J r ≡ undos_of J r
    by None e = absurd (failed e)
    by (Some c) e =
        let rolled : rolled_back J r ≡ true = ap (λ o. root_over o (rolled_back J r) (done_with (last_answer J r))) (sym e) ∙ over in
        let left = (and_parts (all_stopped J r) (is_empty (stack J r)) rolled).1 in
        (goes_back J legal r).order ∙ ap (λ l. undos_of J r ++ l) (none_left (stack J r) left) ∙ none_on (undos_of J r)

pub undos_are_last : (pid : Pid) (pick : Option Server) (out : StepOut) (before : Past) → IsLegal (entry_is.Step pid pick out ∷ before) → undos_of before (root_of before pid.0) ≡ []
undos_are_last pid pick out before legal = not_undone pid pick out before legal (root_of before pid.0) (goes_back before legal.0 (root_of before pid.0)) refl
