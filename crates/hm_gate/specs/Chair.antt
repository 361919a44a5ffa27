-- What contracts see of a seat.
use Rattle.std.specs.Prelude.{◌≡◌, ℕ, ◌<◌, List, length, Option}
use Rattle.atomic_table.specs.Seated.{TableId}
use Rattle.hm_gate.specs.declared.view.View.{View}
use Rattle.hm_gate.specs.Hand.{hand}

-- of which gate the seat is, and what it knows
pub record Chair (I T : Type 0) : Type 0 where
  pub gate : TableId
  pub view : View I T

-- a seat remembers how many items it has seen, has the slot in hand only inside, and has a part
pub record IsFaithful {I T S : Type 0} (seen : ℕ) (me : View I T × List (ℕ × Option S)) : Type 0 where
  pub counted : seen ≡ length me.0.front
  pub handed : me.1 ≡ hand me.0
  pub unspent : 0 < me.0.parts
