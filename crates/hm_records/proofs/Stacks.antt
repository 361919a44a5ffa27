-- The steps that may be undone, after an entry.
use Rattle.std.proofs.Common.{◌≡◌, ◌≢◌, ℕ, ◌==◌, List, [], ◌∷◌, map, Bool, true, false, not, ◌&&◌, if◌then◌else◌, Option, Some, None, is_some, refl, ap, sym, ◌∙◌, inl, inr, subst}
use Rattle.std.proofs.lemmas.Bool.{cases_eq, false≢true, ne_eqb, not-true, true≢false}
use Rattle.std.proofs.lemmas.Option.{none-some, same_Some}
use Rattle.hm_names.specs.declared.pid.Pid.{Pid}
use Rattle.hm_data.specs.declared.entry.Entry.{Entry}
use Rattle.hm_data.specs.declared.entry.Entry.TheVariants as entry_is
use Rattle.hm_data.specs.declared.step.StepOut.{StepOut}
use Rattle.hm_model.specs.Apart.{tree_of}
use Rattle.hm_model.specs.Journal.{Past}
use Rattle.hm_model.specs.Phase.{ended}
use Rattle.hm_model.specs.Rules.{IsLegal}
use Rattle.hm_model.specs.Tree.{pid_of, root_of}
use Rattle.hm_model.specs.Undo.{Undoable, is_empty, stack}
use Rattle.hm_undo.specs.Laws.{ForgottenLeave, OthersLeave, StepsLeave, StepsPush, Tells, kept_of, leaves_undo, next_step}
use Rattle.hm_undo.specs.Stacks.{AreWith, Stacks, steps_of, told}
use Rattle.hm_undo.specs.declared.slot.Step.{Step}
use Rattle.hm_records.specs.Parts.{step_left}
use Rattle.hm_records.specs.Records.{is_open}
use Rattle.hm_records.proofs.Forgotten.{none_stacked}
use Rattle.hm_records.proofs.Trees.{stays_ended, tree_open, undone_left}

-- whether nothing comes next tells whether nothing is left
pub none_left : (b : Bool) (next : Option (Pid × ℕ)) (left : List Undoable) → is_some next ≡ not b → next ≡ told (map kept_of left) → b ≡ is_empty left
none_left true next [] some is = refl
none_left false next [] some is = absurd (false≢true (sym (ap is_some is) ∙ some))
none_left true next (step ∷ below) some is = absurd (true≢false (sym (ap is_some is) ∙ some))
none_left false next (step ∷ below) some is = refl

-- a root that is open after an entry was open before it
pub was_open : (entry : Entry) (J : Past) → IsLegal (entry ∷ J) → (root : Pid) → is_open (entry ∷ J) root ≡ true → is_open J root ≡ true
was_open entry J legal root on = by (ended J root.0) refl
  where
    by : (b : Bool) → ended J root.0 ≡ b → not (ended J root.0) ≡ true
    by false e = ap not e
    by true e = absurd (true≢false (sym (stays_ended entry J legal root.0 e) ∙ not-true (ended (entry ∷ J) root.0) on))

module _ (entry : Entry) (J : Past) (legal : IsLegal (entry ∷ J)) (stacks : Stacks) (tells : Tells (is_open J) (entry ∷ J) stacks) where
  abbrev after : Past
  after = entry ∷ J

  abbrev tree : Pid
  tree = pid_of (tree_of J entry)

  -- the root of the tree was open, so what is left of it is told
  pub left_told : steps_of stacks tree ≡ map kept_of (stack after (tree_of J entry))
  left_told = tells tree (ap not (tree_open entry J legal))

  -- what is told of roots that are still open
  pub tells_still : Tells (is_open after) after stacks
  tells_still root on = tells root (was_open entry J legal root on)

  -- a root that has ended is forgotten
  pub tells_others : ForgottenLeave → ended after (tree_of J entry) ≡ true → (new : Stacks) → AreWith stacks tree [] new → Tells (is_open after) after new
  tells_others forgotten over new with_it root on = forgotten (is_open J) after tree stacks new tells with_it root both
    where
      other : not (tree_of J entry == root.0) ≡ true
      other = elim (cases_eq (tree_of J entry) root.0) [
        | inr differs ↦ ap not (ne_eqb (tree_of J entry) root.0 differs)
        | inl same ↦ absurd (true≢false (sym over ∙ ap (ended after) same ∙ not-true (ended after root.0) on))
      ]

      both : (is_open J root && not (tree.0 == root.0)) ≡ true
      both = ap (λ b. b && not (tree_of J entry == root.0)) (was_open entry J legal root on) ∙ other

-- a step that is left is one that leaves it
step_is : (b : Bool) (one step : Step) → (if b then Some one else None) ≡ Some step → (b ≡ true) × (one ≡ step)
step_is true one step is = (refl, same_Some one step is)
step_is false one step is = absurd (none-some step is)

step_none : (b : Bool) (one : Step) → (if b then Some one else None) ≡ None → b ≡ false
step_none true one is = absurd (none-some one (sym is))
step_none false one is = refl

-- what is left of a tree that is undone isn't nothing
some_steps : (left : List Undoable) → is_empty left ≡ false → map kept_of left ≢ []
some_steps [] some is = absurd (true≢false some)
some_steps (step ∷ below) some is = cc

module _ (alive : Pid → Bool) (J : Past) (stacks : Stacks) (tells : Tells alive J stacks) where
  pub pushed : StepsPush → (entry : Entry) (step : Step) → step_left J entry ≡ Some step
      → (new : Stacks) → AreWith stacks (pid_of (tree_of J entry)) (step ∷ steps_of stacks (pid_of (tree_of J entry))) new → Tells alive (entry ∷ J) new
  pushed push (entry_is.Step pid pick out) step left new with_it =
      let is = step_is (leaves_undo J pid out) (next_step J pid out) step left in
      push alive J pid pick out stacks new is.0 tells (subst (λ (s : Step). AreWith stacks (pid_of (root_of J pid.0)) (s ∷ steps_of stacks (pid_of (root_of J pid.0))) new) (sym is.1) with_it)
  pushed push entry step left new with_it = absurd (none-some step left)

  pub unpushed : StepsLeave → OthersLeave → (entry : Entry) → IsLegal (entry ∷ J) → step_left J entry ≡ None
      → ((pid : Pid) (row : ℕ) (out : StepOut) → entry ≡ entry_is.Undo pid row out → ⊥) → Tells alive (entry ∷ J) stacks
  unpushed leave others (entry_is.Step pid pick out) legal none undo = leave alive J pid pick out stacks (step_none (leaves_undo J pid out) (next_step J pid out) none) tells
  unpushed leave others (entry_is.Undo pid row out) legal none undo = absurd (undo pid row out refl)
  unpushed leave others (entry_is.Base part) legal none undo = λ root on. tells root on ∙ ap (map kept_of) (none_stacked part J legal.1.0 root.0)
  unpushed leave others entry legal none undo = others alive J entry stacks refl tells

-- there is a step to pop where one is undone
module _ (J : Past) (stacks : Stacks) (tells : Tells (is_open J) J stacks) (pid : Pid) (row : ℕ) (out : StepOut) (legal : IsLegal (entry_is.Undo pid row out ∷ J)) where
  left_there : is_empty (stack J (root_of J pid.0)) ≡ false
  left_there = undone_left pid row out J legal

  pub some_to_pop : steps_of stacks (pid_of (root_of J pid.0)) ≢ []
  some_to_pop none = some_steps (stack J (root_of J pid.0)) left_there (sym (tells (pid_of (root_of J pid.0)) (ap not (tree_open (entry_is.Undo pid row out) J legal))) ∙ none)
