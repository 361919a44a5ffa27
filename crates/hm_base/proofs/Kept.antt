-- A value that is kept where what was done with it went well.
use Rattle.std.proofs.lemmas.Bool.{false≢true}
use Rattle.std.proofs.Common.{◌≡◌, Err, IfOk, IsOk, Ok, OnOk, Result, subst, sym}

pub kept_by : {U T W : Type 0} (done : Result U W) (result : Result T W) (value : T) → IfOk result (λ kept. (kept ≡ value) × IsOk done) → (P : T → Type 0) → OnOk done (P value) → IfOk result P
kept_by (Ok u) (Ok kept) value is P on = subst P (sym is.0) on
kept_by (Err why) (Ok kept) value is P on = absurd (false≢true is.1)
kept_by done (Err why) value is P on = tt
