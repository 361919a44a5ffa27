-- What becomes of views when seats are cut and joined, and at the end.
use Rattle.std.specs.Prelude.{◌≡◌, ◌⊎◌, ℕ, ◌+◌, ◌-◌, ◌<◌, ◌≤◌, true, ◌||◌, false, List, [], ◌++◌, length, None, Some}
use Rattle.hm_gate.specs.declared.view.View.{View}
use Rattle.hm_gate.specs.declared.view.Position.TheVariants.{Out}
use Rattle.hm_gate.specs.Whole.{Whole}
use Rattle.hm_gate.specs.Total.{under, times, entries, either}
use Rattle.hm_gate.specs.Gate.{Begins, Stand}

-- the longer list, and of two that are as long the first
abbrev pub longer : {I : Type 0} → List I → List I → List I
longer xs ys = either (under (length ys) (length xs)) ys xs

module _ {I T : Type 0} where
  -- one part was cut off
  abbrev pub fewer : View I T → View I T
  fewer v = record v { parts = v.parts - 1 }

  -- the part that was cut off: it has seen as much, and added and owes nothing
  abbrev pub fresh : View I T → View I T
  fresh v = record v { mine = []; owes = []; position = Out; parts = 1 }

  -- two made one: what both added and owe, and the longer of what they had seen
  abbrev pub merged : View I T → View I T → View I T
  merged v w = record v { front = longer v.front w.front; mine = v.mine ++ w.mine; owes = v.owes ++ w.owes; parts = v.parts + w.parts; stopped = v.stopped || w.stopped }

  -- what is left of a seat that was made one with another
  abbrev pub spent : View I T
  spent = record { front = []; mine = []; owes = []; position = Out; stopped = false; parts = 0; seats = 0; opening = []; terms = None }

-- what the seat with all parts knows of the value at the end: its items are those that the gate was made of and, after
-- them, those that the seat added, each once at its number; its outs are what the seat owes
pub record Ends {I T S : Type 0} (shown : S → Whole I T) (v : View I T) (x : S) : Type 0 where
  pub items_begin : Begins ((shown x).items) v.front
  pub begun : Begins ((shown x).items) v.opening
  pub once : (n : ℕ) → length v.opening ≤ n → n < length ((shown x).items) → entries n v.mine ≡ 1
  pub no_other : (n : ℕ) → (n < length v.opening) ⊎ (length ((shown x).items) ≤ n) → entries n v.mine ≡ 0
  pub stand : Stand ((shown x).items) v.mine
  pub owed : (n : ℕ) → times n v.owes ≡ times n ((shown x).outs)
  pub stopped_is : v.stopped ≡ true → (shown x).stopped ≡ true
  pub terms_is : v.terms ≡ Some ((shown x).terms)
