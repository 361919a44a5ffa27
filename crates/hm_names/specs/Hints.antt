-- Hints of names: numbers that don't fall in the order of the names.
use Rattle.std.specs.Prelude.{◌≡◌, ℕ, zero, suc, ◌+◌, ◌-◌, ◌*◌, ◌^◌, ◌<◌, ◌≤◌, nat_lt, min, List, [], ◌∷◌, if◌then◌else◌}
use Rattle.hm_names.specs.declared.nonce.Nonce.{Nonce}

-- so many bytes, from the first on, as digits after a number: one that is missing counts as 0; one that is no byte counts as 255, and so do
-- all after it
abbrev pub front : ℕ → ℕ → List ℕ → ℕ
front zero before bytes = before
front (suc count) before [] = front count (before * 256) []
front (suc count) before (byte ∷ bytes) = if nat_lt byte 256 then front count (before * 256 + byte) bytes else front count (before * 256 + 255) (byte ∷ bytes)

-- the group and the number side by side, where a number from 2 ^ 48 on counts as the one below that; the greatest hint for each group from
-- 2 ^ 16 on
abbrev pub nonce_hint : Nonce → ℕ
nonce_hint v = if nat_lt v.group 65536 then v.group * 281474976710656 + min v.number 281474976710655 else 18446744073709551615
