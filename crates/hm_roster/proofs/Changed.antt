-- Rows of which one was changed.
use Rattle.std.proofs.Common.{◌≡◌, ◌≢◌, ℕ, List, Option, Some, None, true, cond, refl, ap, sym, ◌∙◌, subst}
use Rattle.std.specs.Prelude.{IsSome}
use Rattle.std.proofs.lemmas.Bool.{false≢true, ne_eqb}
use Rattle.hm_locks.specs.Book.{AreChanged, Row, is_holding, row_of}
use Rattle.hm_locks.proofs.Clashes.{row_changed}

-- a row that is there
pub some_row : (o : Option Row) (row : Row) → o ≡ Some row → IsSome o
some_row o row e = subst (λ (x : Option Row). IsSome x) (sym e) refl

-- the row that is there
pub row_some : (o : Option Row) → IsSome o → (row : Row) × (o ≡ Some row)
row_some None e = absurd (false≢true e)
row_some (Some row) e = (row, refl)

-- who holds has a row
pub holding_row : (o : Option Row) → is_holding o ≡ true → IsSome o
holding_row None e = absurd (false≢true e)
holding_row (Some row) e = refl

-- the one that was changed
pub changed_here : (old new : List Row) (p : ℕ) (o : Option Row) → AreChanged old p o new → (q : ℕ) → p ≡ q → row_of new q ≡ o
changed_here old new p o changed q same = subst (λ k. row_of new k ≡ o) same (row_changed old new p o changed)

-- another one
pub changed_there : (old new : List Row) (p : ℕ) (o : Option Row) → AreChanged old p o new → (q : ℕ) → p ≢ q → row_of new q ≡ row_of old q
changed_there old new p o changed q differs = changed q ∙ ap (λ b. cond b o (row_of old q)) (ne_eqb p q differs)
