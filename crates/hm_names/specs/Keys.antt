-- Row keys as texts.
use Rattle.std.specs.Prelude.{ℕ, zero, suc, ◌<◌, ◌+◌, ◌-◌, ◌*◌, ◌/◌, ◌%◌, ◌≤◌, Bool, not, ◌&&◌, ◌==◌, nat_le, nat_lt, if◌then◌else◌, Option, Some, None, Result, Ok, Err, List, [], ◌∷◌, length, slice_index, All}
use Rattle.std.specs.List.{flat_map}
use Rattle.std.specs.Str.{bytes_eq}
use Rattle.hm_names.specs.declared.fault.NameFault.{NameFault}
use Rattle.hm_names.specs.declared.fault.NameFault.TheVariants.{Empty, TooLong, BadByte}
use Rattle.hm_names.specs.Names.{is_digit}

-- at most 128 bytes
abbrev pub IsRowKey : List ℕ → Type 0
IsRowKey key = length key ≤ 128

-- each byte fits eight bits
abbrev pub IsByteString : List ℕ → Type 0
IsByteString key = All (λ b. b < 256) key

-- the key, if it isn't too long
abbrev pub limited : List ℕ → Result (List ℕ) NameFault
limited key = if nat_lt 128 (length key) then Err (TooLong (length key)) else Ok key

-- a byte that stands for itself: 0x21 to 0x7E but `\`
abbrev pub is_plain : ℕ → Bool
is_plain b = nat_le 33 b && nat_le b 126 && not (b == 92)

-- the upper-case hexadecimal digit of a number below 16
abbrev pub hex_digit : ℕ → ℕ
hex_digit n = if nat_lt n 10 then 48 + n else (55 + n)

-- how a byte of a key is printed: as itself, or as `\x` and two digits
abbrev pub byte_text : ℕ → List ℕ
byte_text b = if is_plain b then b ∷ [] else (92 ∷ 120 ∷ hex_digit (b / 16) ∷ hex_digit (b % 16) ∷ [])

-- how a key is printed; the empty key is `\-`
abbrev pub key_text : List ℕ → List ℕ
key_text key = if length key == 0 then 92 ∷ 45 ∷ [] else flat_map byte_text key

-- the value of a hexadecimal digit of either case
abbrev pub hex_value : ℕ → Option ℕ
hex_value b =
    if is_digit b then Some (b - 48)
    else (if nat_le 65 b && nat_le b 70 then Some (b - 55) else (if nat_le 97 b && nat_le b 102 then Some (b - 87) else None))

-- the byte of two digits, and that three bytes follow the first of its text
abbrev pub hex_byte : Option ℕ → Option ℕ → Option (ℕ × ℕ)
hex_byte None low = None
hex_byte (Some high) None = None
hex_byte (Some high) (Some low) = Some (16 * high + low, 3)

-- the byte that the front of a text stands for, and how many bytes of the text follow the first for it
unfoldable pub first_byte : List ℕ → Option (ℕ × ℕ)
first_byte text =
    if is_plain (slice_index text 0) then Some (slice_index text 0, 0)
    else (if (slice_index text 0 == 92) && nat_le 4 (length text) && (slice_index text 1 == 120) then hex_byte (hex_value (slice_index text 2)) (hex_value (slice_index text 3)) else None)

-- one byte more in front of a key
abbrev pub onto : ℕ → Result (List ℕ) NameFault → Result (List ℕ) NameFault
onto byte (Ok key) = Ok (byte ∷ key)
onto byte (Err fault) = Err fault

-- a byte at a place, and the key that stands after it
abbrev pub onto_rest : ℕ → Option (ℕ × ℕ) → (ℕ → Result (List ℕ) NameFault) → Result (List ℕ) NameFault
onto_rest at None rest = Err (BadByte at)
onto_rest at (Some (byte, more)) rest = onto byte (rest more)

-- the key that a text at a place stands for, after so many more bytes of the byte before
abbrev pub spelled : ℕ → ℕ → List ℕ → Result (List ℕ) NameFault
spelled more at [] = Ok []
spelled zero at (b ∷ text) = onto_rest at (first_byte (b ∷ text)) (λ more. spelled more (at + 1) text)
spelled (suc more) at (b ∷ text) = spelled more (at + 1) text

-- the key, if there is one and it isn't too long
abbrev pub limited_key : Result (List ℕ) NameFault → Result (List ℕ) NameFault
limited_key (Ok key) = limited key
limited_key (Err fault) = Err fault

-- a text read as a row key
abbrev pub read_key : List ℕ → Result (List ℕ) NameFault
read_key text =
    if length text == 0 then Err Empty else (if bytes_eq text (92 ∷ 45 ∷ []) then Ok [] else limited_key (spelled 0 0 text))
