-- Numbers as texts.
use Rattle.std.specs.Prelude.{ℕ, ◌^◌, ◌&&◌, nat_le, nat_lt, if◌then◌else◌, Option, Some, None, List}
use Rattle.std.specs.Fmt.{decimal}
use Rattle.std.specs.Str.{bytes_eq}
use Rattle.std.specs.Str.Parse.{digits_value}

-- the number below 2^64 whose decimal this text is
unfoldable pub number_of : List ℕ → Option ℕ
number_of text =
    let number = digits_value 10 text in if bytes_eq text (decimal number) && nat_lt number (2 ^ 64) then Some number else None

-- the number, where it lies in a range
abbrev pub within : ℕ → ℕ → Option ℕ → Option ℕ
within low high None = None
within low high (Some n) = if nat_le low n && nat_le n high then Some n else None
