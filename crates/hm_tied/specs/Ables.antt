-- Whoever can go on stays able to: laws.
use Rattle.std.specs.Prelude.{◌≢◌, ℕ, ◌∷◌, Option}
use Rattle.hm_names.specs.Server.{Server}
use Rattle.hm_data.specs.declared.entry.Entry.{Entry}
use Rattle.hm_data.specs.declared.entry.Entry.TheVariants as entry_is
use Rattle.hm_model.specs.Journal.{Past}
use Rattle.hm_model.specs.Locks.{IsIn}
use Rattle.hm_model.specs.Rules.{IsLegal}
use Rattle.hm_model.specs.Tree.{root_of}
use Rattle.hm_tied.specs.Tied.{CanGo, IsCalm, IsTied, Roster}

-- an entry is no step of a procedure, and undoes none of the tree of which it is the root
abbrev pub IsNotBy : Past → Entry → ℕ → Type 0
IsNotBy before (entry_is.Step pid pick out) p = p ≢ pid.0
IsNotBy before (entry_is.Undo pid row out) p = p ≢ root_of before pid.0
IsNotBy before entry p = Unit {0}

-- by no entry but its own step, or what undoes a step of its tree where it is the root, does who can go on cease to
abbrev pub AblesStay : Type 0
AblesStay =
    (entry : Entry) (J : Past) (p : ℕ) → IsLegal (entry ∷ J) → CanGo J p → IsCalm J p → IsNotBy J entry p → CanGo (entry ∷ J) p

-- where all that are claimed can go on, all but the one that an entry is by can after it
abbrev pub ClaimedStayAble : Type 0
ClaimedStayAble =
    (entry : Entry) (J : Past) (number_of : Option Server → ℕ) (roster : Roster) → IsLegal (entry ∷ J) → IsTied J number_of roster
    → ((q : ℕ) → IsIn q roster.claimed → CanGo J q)
    → (q : ℕ) → IsIn q roster.claimed → IsNotBy J entry q → CanGo (entry ∷ J) q
