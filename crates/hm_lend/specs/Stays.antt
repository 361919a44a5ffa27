-- What a stay of a hall does to what the gate sees: how the list grows, and what goes out and comes back.
use Rattle.std.specs.Prelude.{◌≡◌, ℕ, ◌+◌, ◌≤◌, true, List, [], ◌∷◌, ◌++◌}
use Rattle.hm_data.specs.declared.entry.Entry.{Entry}
use Rattle.hm_data.specs.declared.entry.Entry.TheVariants as entry_is
use Rattle.hm_data.specs.declared.step.StepIn.{StepIn}
use Rattle.hm_data.specs.declared.step.StepOut.{StepOut}
use Rattle.hm_gate.specs.Total.{times, same}
use Rattle.hm_gate.specs.Weights.{weigh}
use Rattle.hm_gate.specs.Whole.{Whole}
use Rattle.hm_lend.specs.Hall.{Answers, Editions}

-- 1 for an entry that records the answer of a step or of what undoes one, else 0
abbrev pub one_step : Entry → ℕ
one_step (entry_is.Step pid pick out) = 1
one_step (entry_is.Undo pid row out) = 1
one_step entry = 0

-- it is what a sheet answers at some input, in its edition
abbrev pub IsAnswer : Editions → StepOut → Type 0
IsAnswer editions out = (was : StepIn) × Answers editions was out

-- an entry that a call of a hall may add: a step or what undoes one, with what its sheet answers, or a report
abbrev pub IsOwn : Editions → Entry → Type 0
IsOwn editions (entry_is.Step pid pick out) = IsAnswer editions out
IsOwn editions (entry_is.Undo pid row out) = IsAnswer editions out
IsOwn editions (entry_is.Report call told) = Unit {0}
IsOwn editions entry = ⊥

-- each of these is one
abbrev pub AreOwn : Editions → List Entry → Type 0
AreOwn editions [] = Unit {0}
AreOwn editions (entry ∷ entries) = IsOwn editions entry × AreOwn editions entries

module _ {S T : Type 0} (shown : S → Whole Entry T) where
  -- the list grows by entries of a hall's own, of which so many at most are steps; what is stopped stays so, and the
  -- terms stay
  pub record Grows (editions : Editions) (most : ℕ) (x y : S) : Type 0 where
    pub more : List Entry
    pub items_are : (shown y).items ≡ (shown x).items ++ more
    pub own : AreOwn editions more
    pub few : weigh one_step more ≤ most
    pub stopped_is : (shown x).stopped ≡ true → (shown y).stopped ≡ true
    pub terms_is : (shown y).terms ≡ (shown x).terms

  -- the number p is out in y and not in x; the other numbers are in both or in neither
  pub record Takes (x y : S) (p : ℕ) : Type 0 where
    pub outs_are : (n : ℕ) → times n ((shown y).outs) ≡ times n ((shown x).outs) + same n p
    pub fresh : times p ((shown x).outs) ≡ 0

  -- the same numbers are out in both
  abbrev pub SameOuts : S → S → Type 0
  SameOuts x y = (n : ℕ) → times n ((shown y).outs) ≡ times n ((shown x).outs)
