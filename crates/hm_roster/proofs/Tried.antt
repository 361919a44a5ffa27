-- What holds of what was tried.
use Rattle.std.proofs.Common.{◌≡◌, Result, Ok, Err, Bool, true, false, sym, ◌∙◌}
use Rattle.std.specs.Prelude.{OnErr, OnOk}
use Rattle.std.specs.Result.{is_err}
use Rattle.std.proofs.lemmas.Bool.{true≢false}

-- two facts of a success give one
pub both_ok : {T E : Type 0} (r : Result T E) (P Q S : Type 0) → OnOk r P → OnOk r Q → (P → Q → S) → OnOk r S
both_ok (Ok x) P Q S p q f = f p q
both_ok (Err e) P Q S p q f = tt

-- a fact that follows from a success and from a failure holds
pub either_way : {T E : Type 0} (r : Result T E) (P Q S : Type 0) → OnOk r P → OnErr r Q → (P → S) → (Q → S) → S
either_way (Ok x) P Q S p q f g = f p
either_way (Err e) P Q S p q f g = g q

-- the same, by two facts of a success
pub three_way : {T E : Type 0} (r : Result T E) (P Q N S : Type 0) → OnOk r P → OnOk r Q → OnErr r N → (P → Q → S) → (N → S) → S
three_way (Ok x) P Q N S p q n f g = f p q
three_way (Err e) P Q N S p q n f g = g n

-- what holds where a try failed
pub when_err : {T E : Type 0} (r : Result T E) (b : Bool) (Q : Type 0) → b ≡ is_err r → b ≡ true → OnErr r Q → Q
when_err (Ok x) b Q is on q = absurd (true≢false (sym on ∙ is))
when_err (Err e) b Q is on q = q

-- and where it didn't
pub when_ok : {T E : Type 0} (r : Result T E) (b : Bool) (P : Type 0) → b ≡ is_err r → b ≡ false → OnOk r P → P
when_ok (Ok x) b P is off p = p
when_ok (Err e) b P is off p = absurd (true≢false (sym is ∙ off))
