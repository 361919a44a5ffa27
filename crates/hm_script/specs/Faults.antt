-- What is wrong with a script, and its text.
use Rattle.std.specs.Prelude.{◌≡◌, ◌⊎◌, ℕ, Bool, true, Result, Ok, Err, List, ◌++◌, codes}
use Rattle.std.specs.Fmt.{decimal}
use Rattle.hm_names.specs.declared.fault.NameFault.{NameFault}
use Rattle.hm_names.specs.declared.fault.NameFault.TheVariants as N
use Rattle.hm_script.specs.declared.bad.Bad.{Bad}
use Rattle.hm_script.specs.declared.bad.Why.{Why}
use Rattle.hm_script.specs.declared.bad.Why.TheVariants as W

-- what is wrong with a name
abbrev pub name_text : NameFault → List ℕ
name_text N.Empty = codes "Empty"
name_text (N.TooLong n) = codes "TooLong " ++ decimal n
name_text (N.BadByte at) = codes "BadByte " ++ decimal at
name_text (N.BadNumber at) = codes "BadNumber " ++ decimal at
name_text N.Memory = codes "Memory"

-- what is wrong with a line
abbrev pub why_text : Why → List ℕ
why_text (W.Word at) = codes "Word " ++ decimal at
why_text W.Missing = codes "Missing"
why_text W.Extra = codes "Extra"
why_text (W.Name fault) = codes "Name " ++ name_text fault
why_text W.Number = codes "Number"
why_text W.Order = codes "Order"
why_text W.TooLong = codes "TooLong"
why_text W.Memory = codes "Memory"

-- which line is wrong, and why
abbrev pub bad_text : Bad → List ℕ
bad_text bad = codes "line " ++ decimal bad.line ++ codes ": " ++ why_text bad.why

-- the fault of a name as that of a line
abbrev pub why_of : NameFault → Why
why_of N.Memory = W.Memory
why_of N.Empty = W.Name N.Empty
why_of (N.TooLong n) = W.Name (N.TooLong n)
why_of (N.BadByte at) = W.Name (N.BadByte at)
why_of (N.BadNumber at) = W.Name (N.BadNumber at)

-- the answer is what was read, in the form that it has as a value, or memory ran out where it may
abbrev pub IsAnswer : {A B : Type 0} → (A → B) → Result A Why → Result B Why → Bool → Type 0
IsAnswer form (Ok value) reading may_run_out = reading ≡ Ok (form value)
IsAnswer form (Err why) reading may_run_out = ((why ≡ W.Memory) × (may_run_out ≡ true)) ⊎ (reading ≡ Err why)
