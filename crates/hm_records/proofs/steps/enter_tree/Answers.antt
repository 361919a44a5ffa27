use Rattle.std.proofs.Common.{◌≡◌, ◌∷◌, ap, sym, subst, ◌∙◌}
use Rattle.hm_names.specs.declared.pid.Pid.{Pid}
use Rattle.hm_data.specs.declared.entry.Entry.{Entry}
use Rattle.hm_model.specs.Apart.{tree_of}
use Rattle.hm_model.specs.Journal.{Past}
use Rattle.hm_model.specs.Phase.{ended}
use Rattle.hm_model.specs.Tree.{pid_of}
use Rattle.hm_model.specs.Undo.{stack}
use Rattle.hm_undo.specs.Laws.{Tells}
use Rattle.hm_undo.specs.Stacks.{AreWith, Stacks, steps_of, told}
use Rattle.hm_records.specs.Records.{AreForgotten, is_open}
use Rattle.hm_records.proofs.Forgotten.{forgotten_on, forgotten_over}
use Rattle.hm_records.proofs.Stacks.{left_told, none_left, tells_others, tells_still}
use Rattle.hm_records.proofs.steps.enter_tree.Goals as goal

pub enter-requires-clause-left : goal.enter-requires-clause-left
enter-requires-clause-left c =
    let J : Past = c.args.procedures.now.past in
    let entry : Entry = c.args.entry.now in
    let stacks : Stacks = c.change_stack.new.stack.stacks in
    none_left c.is_none-nothing_left.result c.next_undo.result (stack (entry ∷ J) (tree_of J entry)) c.is_none-nothing_left.ensures
    (c.next_undo.ensures ∙ ap (λ (q : Pid). told (steps_of stacks q)) c.requires.tree ∙ ap told (left_told entry J c.requires.legal stacks c.change_stack.ensures.tells))

pub returns-then-has_ended-clause-tells : goal.returns-then-has_ended-clause-tells
returns-then-has_ended-clause-tells c =
    let J : Past = c.args.procedures.now.past in
    let entry : Entry = c.args.entry.now in
    let stacks : Stacks = c.change_stack.new.stack.stacks in
    let new : Stacks = c.forget.new.self.stacks in
    let after : c.enter.new.self.past ≡ entry ∷ J = c.enter.ensures.past in
    let with_it : AreWith stacks (pid_of (tree_of J entry)) _ new = subst (λ (q : Pid). AreWith stacks q _ new) c.requires.tree c.forget.ensures.steps in
    let over : ended (entry ∷ J) (tree_of J entry) ≡ _ = ap (λ (l : Past). ended l (tree_of J entry)) (sym after) ∙ ap (λ (q : Pid). ended c.enter.new.self.past q.0) (sym c.requires.tree) ∙ sym c.has_ended.ensures ∙ c.if-has_ended.true in
    subst (λ (l : Past). Tells (is_open l) l new) (sym after) (tells_others entry J c.requires.legal stacks c.change_stack.ensures.tells c.stacks_tell.ensures.forgotten over new with_it)

pub returns-else-has_ended-clause-tells : goal.returns-else-has_ended-clause-tells
returns-else-has_ended-clause-tells c =
    let J : Past = c.args.procedures.now.past in
    let entry : Entry = c.args.entry.now in
    let stacks : Stacks = c.change_stack.new.stack.stacks in
    subst (λ (l : Past). Tells (is_open l) l stacks) (sym c.enter.ensures.past) (tells_still entry J c.requires.legal stacks c.change_stack.ensures.tells)

pub returns-then-has_ended-clause-forgotten : goal.returns-then-has_ended-clause-forgotten
returns-then-has_ended-clause-forgotten c =
    let J : Past = c.args.procedures.now.past in
    let entry : Entry = c.args.entry.now in
    let stacks : Stacks = c.change_stack.new.stack.stacks in
    let new : Stacks = c.forget.new.self.stacks in
    let with_it : AreWith stacks (pid_of (tree_of J entry)) _ new = subst (λ (q : Pid). AreWith stacks q _ new) c.requires.tree c.forget.ensures.steps in
    subst (λ (l : Past). AreForgotten l new) (sym c.enter.ensures.past) (forgotten_over entry J c.requires.legal stacks c.change_stack.ensures.tells c.change_stack.ensures.forgotten new with_it)

pub returns-else-has_ended-clause-forgotten : goal.returns-else-has_ended-clause-forgotten
returns-else-has_ended-clause-forgotten c =
    let J : Past = c.args.procedures.now.past in
    let entry : Entry = c.args.entry.now in
    let stacks : Stacks = c.change_stack.new.stack.stacks in
    let goes : ended (entry ∷ J) (tree_of J entry) ≡ _ = ap (λ (l : Past). ended l (tree_of J entry)) (sym c.enter.ensures.past) ∙ ap (λ (q : Pid). ended c.enter.new.self.past q.0) (sym c.requires.tree) ∙ sym c.has_ended.ensures ∙ c.if-has_ended.false in
    subst (λ (l : Past). AreForgotten l stacks) (sym c.enter.ensures.past) (forgotten_on entry J c.requires.legal stacks c.change_stack.ensures.tells c.change_stack.ensures.forgotten goes)
