-- What a seat holds of the table.
use Rattle.std.specs.Prelude.{ℕ, List, [], ◌∷◌, Option, None}
use Rattle.hm_gate.specs.declared.view.View.{View}
use Rattle.hm_gate.specs.declared.view.Position.TheVariants.{Out, Waits, Inside}

-- inside, the slot with nothing in it
abbrev pub hand : {I T S : Type 0} → View I T → List (ℕ × Option S)
hand {I} {T} {S} v = elim v.position as (λ _. List (ℕ × Option S)) [ Out ↦ [] | Waits k ↦ [] | Inside k o ↦ (0, None) ∷ [] ]
