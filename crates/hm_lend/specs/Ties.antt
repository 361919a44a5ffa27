-- How what is seen of a hall is tied to what the gate sees of it.
use Rattle.std.specs.Prelude.{◌≡◌, ◌⊎◌, ℕ, List, is_some}
use Rattle.hm_data.specs.declared.entry.Entry.{Entry}
use Rattle.hm_gate.specs.Total.{times}
use Rattle.hm_gate.specs.Whole.{Whole}
use Rattle.hm_lend.specs.Hall.{Editions, HallView, IsOut}

-- the number stands once in the list where it is out, and else not
abbrev pub IsTold : ℕ → List ℕ → HallView → Type 0
IsTold n outs at = ((times n outs ≡ 1) × IsOut n at) ⊎ ((times n outs ≡ 0) × (IsOut n at → ⊥))

-- both are of one value: the list, what is out, whether it is stopped, and the sheets of each edition among the terms
pub record Ties {T : Type 0} (editions_in : T → Editions) (whole : Whole Entry T) (at : HallView) : Type 0 where
  pub items : whole.items ≡ at.items
  pub outs : (n : ℕ) → IsTold n whole.outs at
  pub stopped : whole.stopped ≡ is_some at.stopped
  pub editions : editions_in whole.terms ≡ at.editions
