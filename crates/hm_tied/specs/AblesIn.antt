-- Whoever can go on stays able to: laws.
use Rattle.std.specs.Prelude.{ℕ, ◌∷◌, Option}
use Rattle.hm_names.specs.Server.{Server}
use Rattle.hm_data.specs.declared.entry.Entry.{Entry}
use Rattle.hm_model.specs.Journal.{Past}
use Rattle.hm_model.specs.Locks.{IsIn}
use Rattle.hm_model.specs.Rules.{IsLegal}
use Rattle.hm_tied.specs.Tied.{CanGo}
use Rattle.hm_tied.specs.TiedIn.{IsTied, Roster}
use Rattle.hm_tied.specs.Ables.{IsNotBy}

-- where all that are claimed can go on, all but the one that an entry is by can after it
abbrev pub ClaimedStayAble : Type 0
ClaimedStayAble =
    (entry : Entry) (J : Past) (number_of : Option Server → ℕ) (roster : Roster) → IsLegal (entry ∷ J) → IsTied J number_of roster
    → ((q : ℕ) → IsIn q roster.claimed → CanGo J q)
    → (q : ℕ) → IsIn q roster.claimed → IsNotBy J entry q → CanGo (entry ∷ J) q
