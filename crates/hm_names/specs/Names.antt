-- Which bytes are names.
use Rattle.std.specs.Prelude.{◌≡◌, ℕ, Bool, not, ◌||◌, ◌&&◌, ◌==◌, nat_le, nat_lt, if◌then◌else◌, Option, Some, None, Result, List, length, position, slice_index}
use Rattle.hm_names.specs.declared.fault.NameFault.{NameFault}
use Rattle.hm_names.specs.declared.fault.NameFault.TheVariants.{Empty, TooLong}
use Rattle.hm_names.specs.Reading.{unless, wrong_byte}

-- the first byte that doesn't pass the test
abbrev pub first_wrong : (ℕ → Bool) → List ℕ → Option ℕ
first_wrong is_right = position (λ b. not (is_right b))

-- the fault of a part at a place, that may have 1 to `most` bytes: `wrong` is its first wrong byte
abbrev pub part_fault : ℕ → ℕ → List ℕ → Option ℕ → Option NameFault
part_fault most at part wrong =
    if length part == 0 then Some Empty else (if nat_lt most (length part) then Some (TooLong (length part)) else wrong_byte at wrong)

-- a digit
abbrev pub is_digit : ℕ → Bool
is_digit b = nat_le 48 b && nat_le b 57

-- a lower-case letter
abbrev pub is_lower : ℕ → Bool
is_lower b = nat_le 97 b && nat_le b 122

-- a letter, a digit or `_`
abbrev pub is_ns_byte : ℕ → Bool
is_ns_byte b = is_digit b || (nat_le 65 b && nat_le b 90) || is_lower b || (b == 95)

-- a byte of a namespace, `-` or `.`
abbrev pub is_qualifier_byte : ℕ → Bool
is_qualifier_byte b = is_ns_byte b || (b == 45) || (b == 46)

-- the text begins with `-` or `.`
abbrev pub begins_wrong : List ℕ → Bool
begins_wrong s = (slice_index s 0 == 45) || (slice_index s 0 == 46)

-- the first byte that can't stand where it stands in a qualifier
abbrev pub first_wrong_of_qualifier : List ℕ → Option ℕ
first_wrong_of_qualifier s = if begins_wrong s then Some 0 else first_wrong is_qualifier_byte s

-- a lower-case letter, a digit, `-` or `.`
abbrev pub is_host_byte : ℕ → Bool
is_host_byte b = is_digit b || is_lower b || (b == 45) || (b == 46)

-- what is wrong with the name of a namespace that stands at a place
abbrev pub ns_fault : ℕ → List ℕ → Option NameFault
ns_fault at s = part_fault 64 at s (first_wrong is_ns_byte s)

-- what is wrong with a qualifier that stands at a place
abbrev pub qualifier_fault : ℕ → List ℕ → Option NameFault
qualifier_fault at s = part_fault 128 at s (first_wrong_of_qualifier s)

-- what is wrong with the name of a host that stands at a place
abbrev pub host_fault : ℕ → List ℕ → Option NameFault
host_fault at s = part_fault 64 at s (first_wrong is_host_byte s)

-- the name of a namespace
abbrev pub IsNs : List ℕ → Type 0
IsNs s = ns_fault 0 s ≡ None

-- the name of a table in its namespace
abbrev pub IsQualifier : List ℕ → Type 0
IsQualifier s = qualifier_fault 0 s ≡ None

-- the name of a host
abbrev pub IsHost : List ℕ → Type 0
IsHost s = host_fault 0 s ≡ None

-- a text read as a namespace: itself
abbrev pub read_ns : List ℕ → Result (List ℕ) NameFault
read_ns text = unless (ns_fault 0 text) text

-- a text read as a qualifier: itself
abbrev pub read_qualifier : List ℕ → Result (List ℕ) NameFault
read_qualifier text = unless (qualifier_fault 0 text) text

-- a text read as a host: itself
abbrev pub read_host : List ℕ → Result (List ℕ) NameFault
read_host text = unless (host_fault 0 text) text
