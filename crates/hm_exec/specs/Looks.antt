-- What a claim looks at, and in how many steps.
use Rattle.std.specs.Prelude.{◌≡◌, ℕ, List, [], ◌∷◌, ◌++◌, Bool, Option, Some, None, Result, Ok, Err}
use Rattle.hm_hall.specs.declared.fault.HallFault.{HallFault}
use Rattle.hm_hall.specs.declared.fault.HallFault.TheVariants as fault_is
use Rattle.hm_hall.specs.declared.taken.Taken.{Taken}
use Rattle.hm_locks.specs.Book.{Row}
use Rattle.hm_model.specs.Journal.{Past}
use Rattle.hm_roster.specs.Looks.{Looks}
use Rattle.hm_sched.specs.Queues.{IsWith, members, ready_list}

-- one that was given is ready again, at the back of a list
abbrev pub IsBack : List (List ℕ) → ℕ → List (List ℕ) → Type 0
IsBack left p new = (servers : Bool) × IsWith left (ready_list servers) (members left (ready_list servers) ++ p ∷ []) new

-- what a claim looks at, by its answer: nothing where it is halted; where memory runs out, the one that was given is ready again
abbrev pub LooksToClaim : Past → List Row → List (List ℕ) → Result (Option Taken) HallFault → List (List ℕ) → ℕ → ℕ → Type 0
LooksToClaim J rows old (Ok (Some taken)) new before after = let pid = taken.pid in Looks J rows old new (Some pid.0) before after
LooksToClaim J rows old (Ok None) new before after = Looks J rows old new None before after
LooksToClaim J rows old (Err (fault_is.Halted why)) new before after = (new ≡ old) × (after ≡ before)
LooksToClaim J rows old (Err fault_is.Memory) new before after =
    (left : List (List ℕ)) × (p : ℕ) × Looks J rows old left (Some p) before after × IsBack left p new
LooksToClaim J rows old (Err fault) new before after = ⊥
