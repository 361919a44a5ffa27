-- Nonces as texts.
use Rattle.std.specs.Prelude.{ℕ, ◌+◌, ◌<◌, ◌^◌, ◌==◌, if◌then◌else◌, Option, Some, None, Result, Ok, Err, List, length, ◌++◌, codes}
use Rattle.std.specs.Fmt.{decimal}
use Rattle.hm_names.specs.declared.fault.NameFault.{NameFault}
use Rattle.hm_names.specs.declared.fault.NameFault.TheVariants.{Empty, BadNumber}
use Rattle.hm_names.specs.declared.nonce.Nonce.{Nonce}
use Rattle.hm_names.specs.Cuts.{cut_first}
use Rattle.hm_names.specs.Decimal.{number_of}

-- a nonce's two numbers fit 64 bits
abbrev pub IsNonce : Nonce → Type 0
IsNonce v = (v.group < 2 ^ 64) × (v.number < 2 ^ 64)

-- group, `:`, number
abbrev pub nonce_text : Nonce → List ℕ
nonce_text v = decimal v.group ++ codes ":" ++ decimal v.number

-- the nonce of two numbers, the second of which stands at a place
abbrev pub nonce_of : ℕ → Option ℕ → Option ℕ → Result Nonce NameFault
nonce_of place None number = Err (BadNumber 0)
nonce_of place (Some group) None = Err (BadNumber place)
nonce_of place (Some group) (Some number) = Ok (record { group = group; number = number })

-- the parts round the first `:`, read as a nonce
abbrev pub nonce_parts : List ℕ → Option (List ℕ × List ℕ) → Result Nonce NameFault
nonce_parts text None = Err (BadNumber (length text))
nonce_parts text (Some (group, number)) = nonce_of (length group + 1) (number_of group) (number_of number)

-- a text read as a nonce
abbrev pub read_nonce : List ℕ → Result Nonce NameFault
read_nonce text = if length text == 0 then Err Empty else nonce_parts text (cut_first 58 text)
