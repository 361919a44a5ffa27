-- What a text is read as, and which answers say so.
use Rattle.std.specs.Prelude.{◌≡◌, ◌⊎◌, ℕ, ◌+◌, IsOk, Result, Ok, Err, Option, Some, None}
use Rattle.hm_names.specs.declared.fault.NameFault.{NameFault}
use Rattle.hm_names.specs.declared.fault.NameFault.TheVariants.{BadByte, Memory}

-- the answer is the reading, or memory ran out where the text reads as a value
abbrev pub Answers : {A : Type 0} → Result A NameFault → Result A NameFault → Type 0
Answers (Ok value) reading = reading ≡ Ok value
Answers (Err fault) reading = (reading ≡ Err fault) ⊎ ((fault ≡ Memory) × IsOk reading)

-- the value, unless there is a fault
abbrev pub unless : {A : Type 0} → Option NameFault → A → Result A NameFault
unless None value = Ok value
unless (Some fault) value = Err fault

-- the fault of a part that begins at a place, by where its first wrong byte is
abbrev pub wrong_byte : ℕ → Option ℕ → Option NameFault
wrong_byte at None = None
wrong_byte at (Some k) = Some (BadByte (at + k))

-- the first of two faults
abbrev pub first_fault : Option NameFault → Option NameFault → Option NameFault
first_fault None fault = fault
first_fault (Some first) fault = Some first
