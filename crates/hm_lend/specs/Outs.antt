-- A log that is out to be written.
use Rattle.std.specs.Prelude.{ℕ, ◌+◌, ◌*◌, ◌^◌, List, length, Bool}
use Rattle.hm_data.specs.declared.entry.Entry.{Entry}

-- the list of the value that lent it, behind its base, how many of them were durable, the value's terms, and whether it was written
pub record OutView (T : Type 0) : Type 0 where
  pub list : List Entry
  pub durable : ℕ
  pub terms : T
  pub written : Bool

-- the number by which it is known among what is out: no pid is as great
abbrev pub number_of : {T : Type 0} → OutView T → ℕ
number_of out = 2 ^ 64 * (out.durable + 1) + length out.list
