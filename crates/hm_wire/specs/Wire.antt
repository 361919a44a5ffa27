-- Fields, one after the other.
use Rattle.std.specs.Prelude.{◌≡◌, ℕ, ◌+◌, List, ◌++◌, length, take, drop, Result, Ok, Err, nat_lt, if◌then◌else◌}
use Rattle.byteorder.specs.Endian.{little_number, little_bytes}
use Rattle.hm_wire.specs.Input.{Input}
use Rattle.hm_wire.specs.declared.fault.WireFault.{WireFault}
use Rattle.hm_wire.specs.declared.fault.WireFault.TheVariants.{Short, Range}

-- the input after n bytes
abbrev pub past : ℕ → Input → Input
past n i = record { at = i.at + n; rest = drop n i.rest }

-- a number of n bytes, the lowest first
abbrev pub number_at : ℕ → Input → Result (ℕ × Input) WireFault
number_at n i = if nat_lt (length i.rest) n then Err (Short i.at) else Ok (little_number n i.rest, past n i)

-- a text of at most `most` bytes after its length, which is a number of two bytes
abbrev pub text_at : ℕ → Input → Result (List ℕ × Input) WireFault
text_at most i =
    if nat_lt (length i.rest) 2 then Err (Short i.at)
    else (if nat_lt (length i.rest) (2 + little_number 2 i.rest) then Err (Short i.at)
    else (if nat_lt most (little_number 2 i.rest) then Err (Range i.at)
    else Ok (take (little_number 2 i.rest) (drop 2 i.rest), past (2 + little_number 2 i.rest) i)))

-- the spelling of a text
abbrev pub text : List ℕ → List ℕ
text s = little_bytes 2 (length s) ++ s

-- a call that read a value, or failed and read nothing
abbrev pub Reads : {X Y : Type 0} → (X → Y) → Result X WireFault → Input → Result (Y × Input) WireFault → Input → Type 0
Reads view (Ok x) old read new = read ≡ Ok (view x, new)
Reads view (Err e) old read new = (read ≡ Err e) × (new ≡ old)

-- these bytes stand at the front of an input, and the other input is what is after them
pub record Takes (old : Input) (bytes : List ℕ) (new : Input) : Type 0 where
  pub parts : old.rest ≡ bytes ++ new.rest
  pub place : new.at ≡ old.at + length bytes
