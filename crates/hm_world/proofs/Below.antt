-- Calls that are due have their numbers in a list, for the procedures below a number.
use Rattle.std.proofs.Common.{◌≡◌, ◌≢◌, ◌⊎◌, ℕ, ◌+◌, ◌<◌, ◌≤◌, List, [], ◌∷◌, None, sym, refl, ◌∙◌, inl, inr, subst, arith}
use Rattle.std.proofs.lemmas.Bool.{cases_eq}
use Rattle.std.proofs.lemmas.Option.{none-some}
use Rattle.hm_data.specs.declared.call.Call.{Call}
use Rattle.hm_data.specs.declared.entry.Entry.TheVariants as entry_is
use Rattle.hm_model.specs.Journal.{Past}
use Rattle.hm_model.specs.Locks.{IsIn}
use Rattle.hm_model.specs.Procedures.{offset}
use Rattle.hm_model.specs.Rules.{IsLegal}
use Rattle.hm_model.specs.Tree.{made, node_of}
use Rattle.hm_model.proofs.Grown as grown
use Rattle.hm_model.proofs.Trees.{grown_all, is_there}
use Rattle.hm_world_model.specs.Outside.{Outside}
use Rattle.hm_world_model.proofs.Facts.{node_called, parts_of}
use Rattle.hm_world.specs.Due.{IsDue, IsDueAt}
use Rattle.hm_world.specs.Sound.{HaveDue, HaveDueBelow}

-- a call that is due was made
due_made : (J : Past) (o : Outside) (call : Call) → IsLegal J → IsDue J o call → node_of J call.id.0 ≢ None
due_made J o call legal due none =
    let node = node_called J legal call.id.0 call.verb (parts_of J call due.0).1 in
    none-some node.0 (sym none ∙ node.1)

-- nobody has a number up to the last of a base
pub none_low : (J : Past) → IsLegal J → (p : ℕ) → p ≤ offset J → node_of J p ≡ None
none_low [] legal p le = refl
none_low (entry_is.Submit nonce request ∷ J) legal p le = let low = (grown.grown_all J legal.0).low in grown.submit_old nonce request J p (λ e. omega (arith, le, low, e)) ∙ none_low J legal.0 p le
none_low (entry_is.Step pid pick out ∷ J) legal p le = let low = (grown.grown_all J legal.0).low in grown.step_old pid pick out J p (omega (arith, le, low)) ∙ none_low J legal.0 p le
none_low (entry_is.Undo pid row out ∷ J) legal p le = let low = (grown.grown_all J legal.0).low in grown.undo_old pid row out J p (omega (arith, le, low)) ∙ none_low J legal.0 p le
none_low (entry_is.Down server ∷ J) legal p le = let low = (grown.grown_all J legal.0).low in grown.down_old server J p (λ e. omega (arith, le, low, e)) ∙ none_low J legal.0 p le
none_low (entry_is.Base part ∷ J) legal p le = refl
none_low (entry ∷ J) legal p le = none_low J legal.0 p le

pub below_none : (J : Past) (o : Outside) (n : ℕ) (none : List ℕ) → IsLegal J → n ≡ offset J + 1 → none ≡ [] → HaveDueBelow J o n none
below_none J o n none legal first empty = subst (HaveDueBelow J o n) (sym empty) (λ call due less. due_made J o call legal due (none_low J legal call.id.0 (omega (arith, less, first))))

pub below_all : (J : Past) (o : Outside) (n : ℕ) (numbers : List ℕ) → IsLegal J → n ≡ made J + 1 → HaveDueBelow J o n numbers → HaveDue J o numbers
below_all J o n numbers legal last below call due =
    let node = node_called J legal call.id.0 call.verb (parts_of J call due.0).1 in
    let le = is_there J (grown_all J legal) call.id.0 node.0 node.1 in
    below call due (omega (arith, le, last))

-- one procedure more was looked at
pub below_added : (J : Past) (o : Outside) (p : ℕ) (old new : List ℕ) → HaveDueBelow J o p old → ((q : ℕ) → IsIn q old → IsIn q new) → IsIn p new → HaveDueBelow J o (p + 1) new
below_added J o p old new below more there call due less = elim (cases_eq call.id.0 p) [
  | inl own ↦ subst (λ q. IsIn q new) (sym own) there
  | inr differs ↦ more call.id.0 (below call due (less_than call.id.0 p less differs))
]
  where
    less_than : (q p : ℕ) → q < p + 1 → q ≢ p → q < p
    less_than q p less differs = omega (arith, less, differs)

pub below_passed : (J : Past) (o : Outside) (p : ℕ) (old : List ℕ) → HaveDueBelow J o p old → (IsDueAt J o p → ⊥) → HaveDueBelow J o (p + 1) old
below_passed J o p old below never call due less = elim (cases_eq call.id.0 p) [
  | inl own ↦ absurd (never (subst (IsDueAt J o) own (call, due.0, due.1, due.2)))
  | inr differs ↦ below call due (less_than call.id.0 p less differs)
]
  where
    less_than : (q p : ℕ) → q < p + 1 → q ≢ p → q < p
    less_than q p less differs = omega (arith, less, differs)

-- the first number that isn't forgotten
pub forgotten : (J : Past) (o : Outside) (p : ℕ) (old new : List ℕ) → HaveDue J o old → ((q : ℕ) → IsIn q old → (q ≡ p) ⊎ IsIn q new) → (IsDueAt J o p → ⊥) → HaveDue J o new
forgotten J o p old new have rest never call due = elim (rest call.id.0 (have call due)) [
  | inl own ↦ absurd (never (subst (IsDueAt J o) own (call, due.0, due.1, due.2)))
  | inr more ↦ more
]
