-- The steps that are left to undo of a root are its tree's own.
use Rattle.std.proofs.Common.{◌≡◌, ℕ, List, [], ◌∷◌, false, Some, refl}
use Rattle.std.proofs.lemmas.Bool.{true≢false}
use Rattle.hm_model.specs.Journal.{Past}
use Rattle.hm_model.specs.Rules.{IsLegal}
use Rattle.hm_model.specs.Tree.{Node, node_of}
use Rattle.hm_model.specs.Undo.{Undoable, is_empty, stack}
use Rattle.hm_model.proofs.UndoMakes.{AllThere, stacked_all}

-- the latest step that is left of a root, and its procedure
pub record HasLatest (J : Past) (r : ℕ) : Type 0 where
  pub step : Undoable
  pub below : List Undoable
  pub stack_is : stack J r ≡ step ∷ below
  pub its : Node
  pub its_is : node_of J step.pid ≡ Some its
  pub root_is : its.root ≡ r

-- where some are left, there is one
pub latest_own : (J : Past) → IsLegal J → (r : ℕ) → is_empty (stack J r) ≡ false → HasLatest J r
latest_own J legal r some = by (stack J r) refl some (stacked_all J legal r)
  where
    by : (steps : List Undoable) → stack J r ≡ steps → is_empty steps ≡ false → AllThere J r steps → HasLatest J r
    by [] e some all = absurd (true≢false some)
    by (step ∷ below) e some all = record { step = step; below = below; stack_is = e; its = all.0.0; its_is = all.0.1; root_is = all.0.3 }
