-- Which calls are due.
use Rattle.std.specs.Prelude.{◌≡◌, ℕ, ◌≤◌, Some, true, false}
use Rattle.hm_data.specs.declared.call.Call.{Call}
use Rattle.hm_model.specs.Journal.{Past}
use Rattle.hm_model.specs.Reports.{call_of, is_settled}
use Rattle.hm_world_model.specs.Outside.{Outside, runs}

-- a call is due: it is recorded and not settled, and who is called runs
abbrev pub IsDue : Past → Outside → Call → Type 0
IsDue J o call = (call_of J call.id.0 ≡ Some call) × (is_settled J call.id.0 ≡ false) × (runs o call.peer ≡ true)

-- the call of a procedure is due
abbrev pub IsDueAt : Past → Outside → ℕ → Type 0
IsDueAt J o p = (call : Call) × (call_of J p ≡ Some call) × (is_settled J p ≡ false) × (runs o call.peer ≡ true)

-- no call is due
abbrev pub NoneDue : Past → Outside → Type 0
NoneDue J o = (call : Call) → IsDue J o call → ⊥

-- no call with a lower number is due
abbrev pub NoneIsBelow : Past → Outside → ℕ → Type 0
NoneIsBelow J o p = (call : Call) → IsDue J o call → p ≤ call.id.0
