-- What a worker added, and how often it ran what serves.
use Rattle.std.specs.Prelude.{◌≡◌, ◌⊎◌, ℕ, ◌+◌, ◌-◌, ◌^◌, ◌≤◌, List, [], ◌∷◌, ◌++◌, Some, slice_get}
use Rattle.hm_data.specs.declared.entry.Entry.{Entry}
use Rattle.hm_gate.specs.Weights.{weigh_pairs}
use Rattle.hm_gate.specs.declared.view.View.{View}
use Rattle.hm_lend.specs.Hall.{Editions}
use Rattle.hm_lend.specs.Stays.{IsOwn, one_step}
use Rattle.hm_sheet.specs.Words.{risen}

-- each of these items is one that a hall's own calls may add
abbrev pub OwnItems : Editions → List (ℕ × Entry) → Type 0
OwnItems editions [] = Unit {0}
OwnItems editions (item ∷ items) = IsOwn editions item.1 × OwnItems editions items

-- what a seat added grew by a hall's own items, of which so many at most are steps
pub record GainsBy (editions : Editions) (most : ℕ) (before now : List (ℕ × Entry)) : Type 0 where
  pub more : List (ℕ × Entry)
  pub mine_is : now ≡ before ++ more
  pub own : OwnItems editions more
  pub few : weigh_pairs one_step more ≤ most

-- the same of what the seat of a view added, with the sheets among the terms that it knows
abbrev pub Adds : {T : Type 0} → (T → Editions) → ℕ → View Entry T → View Entry T → Type 0
Adds {T} editions_in most v w = (terms : T) × (v.terms ≡ Some terms) × GainsBy (editions_in terms) most v.mine w.mine

-- one task: no step was added and nothing was run, or one at most was added and what serves was run once
abbrev pub RanOnce : Editions → List (ℕ × Entry) → List (ℕ × Entry) → ℕ → ℕ → Type 0
RanOnce editions before now runs runs' =
    (GainsBy editions 0 before now × (runs' ≡ runs)) ⊎ (GainsBy editions 1 before now × (runs' ≡ risen runs))

-- many tasks: the runs rose by the steps that were added, or stand at the end of their numbers. Each item that was added is
-- one that a hall's own calls may add, and a step is what its sheet answers
pub record RanFor (editions : Editions) (before now : List (ℕ × Entry)) (runs runs' : ℕ) : Type 0 where
  pub more : List (ℕ × Entry)
  pub mine_is : now ≡ before ++ more
  pub own : OwnItems editions more
  pub ran : (weigh_pairs one_step more + runs ≤ runs') ⊎ (2 ^ 64 - 1 ≤ runs')

-- of each pair of a seat and what serves, by what is seen of what serves: the sheets stay, and it ran for what the seat added
abbrev pub EachRan : {C V : Type 0} → List (C × V) → List (C × V) → (V → Editions) → (V → ℕ) → (C → List (ℕ × Entry)) → Type 0
EachRan {C} {V} before now editions runs mine =
    (i : ℕ) (old new : C × V) → slice_get before i ≡ Some old → slice_get now i ≡ Some new
    → (editions new.1 ≡ editions old.1) × RanFor (editions old.1) (mine old.0) (mine new.0) (runs old.1) (runs new.1)
