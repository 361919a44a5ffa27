-- The stacks and a journal, entry by entry.
use Rattle.std.proofs.Common.{◌≡◌, ℕ, List, [], ◌∷◌, map, drop, Bool, true, false, not, ◌==◌, ◌&&◌, if◌then◌else◌, is_some, refl, inl, inr, ap, sym, ◌∙◌}
use Rattle.std.proofs.lemmas.Bool.{cond-true, cond-false, cases_Bool, and_parts, eqb-true, false≢true}
use Rattle.hm_names.specs.declared.pid.Pid.{Pid}
use Rattle.hm_data.specs.declared.act.Back.{Back}
use Rattle.hm_data.specs.declared.act.Back.TheVariants as back_is
use Rattle.hm_data.specs.declared.catalog.Edit.{Edit}
use Rattle.hm_data.specs.declared.entry.Entry.TheVariants as entry_is
use Rattle.hm_model.specs.Answers.{failing}
use Rattle.hm_model.specs.Sheets.{undo_of_next}
use Rattle.hm_model.specs.Tree.{node_of, pid_of, root_of}
use Rattle.hm_model.specs.Undo.{Undoable, pushed, rest_of, row_if_there, stack}
use Rattle.hm_undo.specs.Laws.{ForgottenLeave, OthersLeave, StepsLeave, StepsPush, UndosPop, has_undo, kept_of, next_step, root_pid}
use Rattle.hm_undo.specs.Stacks.{steps_of}

pushed_on : (undo : Back) (failed : Bool) (p row : ℕ) (edits : List Edit) (below : List Undoable) → (has_undo undo && not failed) ≡ true
    → map kept_of (pushed undo failed p row edits below) ≡ (record { pid = pid_of p; row = row; edits = edits } ∷ map kept_of below)
pushed_on back_is.Nothing failed p row edits below on = cc
pushed_on back_is.Edits true p row edits below on = cc
pushed_on back_is.Edits false p row edits below on = refl
pushed_on back_is.Sweep true p row edits below on = cc
pushed_on back_is.Sweep false p row edits below on = refl
pushed_on back_is.Reopen true p row edits below on = cc
pushed_on back_is.Reopen false p row edits below on = refl

pushed_off : (undo : Back) (failed : Bool) (p row : ℕ) (edits : List Edit) (below : List Undoable) → (has_undo undo && not failed) ≡ false → pushed undo failed p row edits below ≡ below
pushed_off back_is.Nothing failed p row edits below off = refl
pushed_off back_is.Edits true p row edits below off = refl
pushed_off back_is.Edits false p row edits below off = cc
pushed_off back_is.Sweep true p row edits below off = refl
pushed_off back_is.Sweep false p row edits below off = cc
pushed_off back_is.Reopen true p row edits below off = refl
pushed_off back_is.Reopen false p row edits below off = cc

rest_kept : (steps : List Undoable) → map kept_of (rest_of steps) ≡ drop 1 (map kept_of steps)
rest_kept [] = refl
rest_kept (latest ∷ below) = refl

same_pid : (n : ℕ) (root : Pid) → (n == root.0) ≡ true → pid_of n ≡ root
same_pid n root e = ap pid_of (eqb-true n root.0 e)

pub steps_push : StepsPush
steps_push alive before pid pick out old new leaves tells with_it root on =
    with_it root ∙ elim (cases_Bool (root_of before pid.0 == root.0)) [
      | inl same ↦
          let is : root_pid before pid ≡ root = same_pid (root_of before pid.0) root same in
          cond-true (root_of before pid.0 == root.0) (next_step before pid out ∷ steps_of old (root_pid before pid)) (steps_of old root) same
          ∙ ap (λ r. next_step before pid out ∷ steps_of old r) is
          ∙ ap (λ l. next_step before pid out ∷ l) (tells root on)
          ∙ sym (pushed_on (undo_of_next before pid.0 (node_of before pid.0)) (is_some (failing out.answer)) pid.0 (row_if_there before pid.0 (node_of before pid.0)) out.edits (stack before root.0) leaves)
          ∙ ap (map kept_of) (sym (cond-true (root_of before pid.0 == root.0) (pushed (undo_of_next before pid.0 (node_of before pid.0)) (is_some (failing out.answer)) pid.0 (row_if_there before pid.0 (node_of before pid.0)) out.edits (stack before root.0)) (stack before root.0) same))
      | inr differs ↦
          cond-false (root_of before pid.0 == root.0) (next_step before pid out ∷ steps_of old (root_pid before pid)) (steps_of old root) differs
          ∙ tells root on
          ∙ ap (map kept_of) (sym (cond-false (root_of before pid.0 == root.0) (pushed (undo_of_next before pid.0 (node_of before pid.0)) (is_some (failing out.answer)) pid.0 (row_if_there before pid.0 (node_of before pid.0)) out.edits (stack before root.0)) (stack before root.0) differs))
    ]

either_same : {X : Type 0} (b : Bool) (x : X) → (if b then x else x) ≡ x
either_same true x = refl
either_same false x = refl

pub steps_leave : StepsLeave
steps_leave alive before pid pick out stacks leaves tells root on =
    tells root on
    ∙ ap (map kept_of)
    (sym (ap (λ l. if root_of before pid.0 == root.0 then l else stack before root.0) (pushed_off (undo_of_next before pid.0 (node_of before pid.0)) (is_some (failing out.answer)) pid.0 (row_if_there before pid.0 (node_of before pid.0)) out.edits (stack before root.0) leaves)
    ∙ either_same (root_of before pid.0 == root.0) (stack before root.0)))

pub undos_pop : UndosPop
undos_pop alive before pid row out old new tells with_it root on =
    with_it root ∙ elim (cases_Bool (root_of before pid.0 == root.0)) [
      | inl same ↦
          cond-true (root_of before pid.0 == root.0) (drop 1 (steps_of old (root_pid before pid))) (steps_of old root) same
          ∙ ap (λ r. drop 1 (steps_of old r)) (same_pid (root_of before pid.0) root same)
          ∙ ap (drop 1) (tells root on)
          ∙ sym (rest_kept (stack before root.0))
          ∙ ap (map kept_of) (sym (cond-true (root_of before pid.0 == root.0) (rest_of (stack before root.0)) (stack before root.0) same))
      | inr differs ↦
          cond-false (root_of before pid.0 == root.0) (drop 1 (steps_of old (root_pid before pid))) (steps_of old root) differs
          ∙ tells root on
          ∙ ap (map kept_of) (sym (cond-false (root_of before pid.0 == root.0) (rest_of (stack before root.0)) (stack before root.0) differs))
    ]

pub others_leave : OthersLeave
others_leave alive before (entry_is.Step pid pick out) stacks other tells = absurd (false≢true other)
others_leave alive before (entry_is.Undo pid row out) stacks other tells = absurd (false≢true other)
others_leave alive before (entry_is.Base part) stacks other tells = absurd (false≢true other)
others_leave alive before entry stacks other tells = tells

not_true : (b : Bool) → not b ≡ true → b ≡ false
not_true true e = cc
not_true false e = refl

pub forgotten_leave : ForgottenLeave
forgotten_leave alive J root old new tells with_it other on =
    let parts = and_parts (alive other) (not (root.0 == other.0)) on in
    with_it other ∙ cond-false (root.0 == other.0) [] (steps_of old other) (not_true (root.0 == other.0) parts.1) ∙ tells other parts.0
