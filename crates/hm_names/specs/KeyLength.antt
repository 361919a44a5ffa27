-- The length of the key that a text stands for.
use Rattle.std.specs.Prelude.{ℕ, Result, Ok, Err, List, length}
use Rattle.hm_names.specs.declared.fault.NameFault.{NameFault}

-- how long the key is, if there is one
abbrev pub sized : Result (List ℕ) NameFault → Result ℕ NameFault
sized (Ok key) = Ok (length key)
sized (Err fault) = Err fault
