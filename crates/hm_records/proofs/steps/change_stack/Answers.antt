use Rattle.std.proofs.Common.{◌≡◌, ◌∷◌, ℕ, drop, ap, sym, subst, ◌∙◌}
use Rattle.hm_names.specs.declared.pid.Pid.{Pid}
use Rattle.hm_data.specs.declared.entry.Entry.{Entry}
use Rattle.hm_data.specs.declared.entry.Entry.TheVariants as entry_is
use Rattle.hm_data.specs.declared.step.StepOut.{StepOut}
use Rattle.hm_model.specs.Apart.{tree_of}
use Rattle.hm_model.specs.Journal.{Past}
use Rattle.hm_model.specs.Rules.{IsLegal}
use Rattle.hm_model.specs.Tree.{pid_of, root_of}
use Rattle.hm_undo.specs.Laws.{Tells}
use Rattle.hm_undo.specs.Stacks.{AreWith, Stacks, steps_of}
use Rattle.hm_undo.specs.declared.slot.Step.{Step}
use Rattle.hm_records.specs.Records.{is_open}
use Rattle.hm_records.proofs.Forgotten.{still_forgotten}
use Rattle.hm_records.proofs.Stacks.{pushed, some_to_pop, unpushed}
use Rattle.hm_records.proofs.steps.change_stack.Goals as goal

pub pop-requires : goal.pop-requires
pop-requires c none =
    let J : Past = c.args.past.now.past in
    let stacks : Stacks = c.args.stack.now.stacks in
    let pid : Pid = c.in-Undo.pid in
    let row : ℕ = c.in-Undo.row in
    let out : StepOut = c.in-Undo.out in
    let legal : IsLegal (entry_is.Undo pid row out ∷ J) = subst (λ (e : Entry). IsLegal (e ∷ J)) c.in-Undo.is c.requires.legal in
    let tree_is : c.args.tree ≡ pid_of (root_of J pid.0) = c.requires.tree ∙ ap (λ (e : Entry). pid_of (tree_of J e)) c.in-Undo.is in
    some_to_pop J stacks c.requires.tells pid row out legal (ap (steps_of stacks) (sym tree_is) ∙ none)

pub returns-in-Some-clause-tells : goal.returns-in-Some-clause-tells
returns-in-Some-clause-tells c =
    let J : Past = c.args.past.now.past in
    let entry : Entry = c.args.entry.now in
    let stacks : Stacks = c.args.stack.now.stacks in
    let new : Stacks = c.push.new.self.stacks in
    let step : Step = c.in-Some.step in
    let with_it : AreWith stacks (pid_of (tree_of J entry)) (step ∷ steps_of stacks (pid_of (tree_of J entry))) new = subst (λ (q : Pid). AreWith stacks q (step ∷ steps_of stacks q) new) c.requires.tree c.push.ensures.steps in
    pushed (is_open J) J stacks c.requires.tells c.stacks_tell.ensures.steps entry step (sym c.requires.step ∙ c.in-Some.is) new with_it

pub returns-in-Some-clause-forgotten : goal.returns-in-Some-clause-forgotten
returns-in-Some-clause-forgotten c =
    let stacks : Stacks = c.args.stack.now.stacks in
    let step : Step = c.in-Some.step in
    still_forgotten c.args.entry.now c.args.past.now.past c.requires.legal stacks c.requires.forgotten _ c.push.new.self.stacks
    (subst (λ (q : Pid). AreWith stacks q (step ∷ steps_of stacks q) c.push.new.self.stacks) c.requires.tree c.push.ensures.steps)

pub returns-in-Undo-clause-forgotten : goal.returns-in-Undo-clause-forgotten
returns-in-Undo-clause-forgotten c =
    let stacks : Stacks = c.args.stack.now.stacks in
    still_forgotten c.args.entry.now c.args.past.now.past c.requires.legal stacks c.requires.forgotten _ c.pop.new.self.stacks
    (subst (λ (q : Pid). AreWith stacks q (drop 1 (steps_of stacks q)) c.pop.new.self.stacks) c.requires.tree c.pop.ensures.steps)

pub returns-in-Undo-clause-tells : goal.returns-in-Undo-clause-tells
returns-in-Undo-clause-tells c =
    let J : Past = c.args.past.now.past in
    let stacks : Stacks = c.args.stack.now.stacks in
    let new : Stacks = c.pop.new.self.stacks in
    let pid : Pid = c.in-Undo.pid in
    let row : ℕ = c.in-Undo.row in
    let out : StepOut = c.in-Undo.out in
    let tree_is : c.args.tree ≡ pid_of (root_of J pid.0) = c.requires.tree ∙ ap (λ (e : Entry). pid_of (tree_of J e)) c.in-Undo.is in
    let with_it : AreWith stacks (pid_of (root_of J pid.0)) (drop 1 (steps_of stacks (pid_of (root_of J pid.0)))) new = subst (λ (q : Pid). AreWith stacks q (drop 1 (steps_of stacks q)) new) tree_is c.pop.ensures.steps in
    subst (λ (e : Entry). Tells (is_open J) (e ∷ J) new) (sym c.in-Undo.is) (c.stacks_tell.ensures.undos (is_open J) J pid row out stacks new c.requires.tells with_it)

pub returns-in_default-entry-clause-tells : goal.returns-in_default-entry-clause-tells
returns-in_default-entry-clause-tells c =
    let J : Past = c.args.past.now.past in
    unpushed (is_open J) J c.args.stack.now.stacks c.requires.tells c.stacks_tell.ensures.others c.stacks_tell.ensures.entries c.args.entry.now c.requires.legal (sym c.requires.step ∙ c.in_default.is) c.in_default-entry.not-Undo
