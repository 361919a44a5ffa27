-- A journal whose first entries are replaced by their image, and where it is refused.
use Rattle.std.specs.Prelude.{◌≡◌, ℕ, ◌+◌, ◌<◌, ◌≤◌, ◌^◌, max, List, [], ◌∷◌, map, not, ◌&&◌, if◌then◌else◌, is_some, nat_lt}
use Rattle.hm_data.specs.declared.entry.Entry.TheVariants as entry_is
use Rattle.hm_data.specs.declared.part.Part.{Part}
use Rattle.hm_model.specs.Counts.{count_below}
use Rattle.hm_model.specs.Image.{counted, image}
use Rattle.hm_model.specs.Journal.{Past, back}
use Rattle.hm_model.specs.Phase.{ended}
use Rattle.hm_model.specs.Tree.{made, node_of}

-- a base of these parts
abbrev pub based : List Part → Past
based parts = back (map (λ part. entry_is.Base part) parts)

-- the first r entries of a journal, with those that its base stands for
abbrev pub up_to : Past → ℕ → Past
up_to [] r = []
up_to (entry ∷ before) r = if nat_lt r (counted (entry ∷ before)) then up_to before r else entry ∷ before

-- a journal with its first r entries replaced by their image
abbrev pub rebase : Past → ℕ → Past
rebase [] r = []
rebase (entry ∷ before) r = if nat_lt r (counted (entry ∷ before)) then entry ∷ rebase before r else based (image (entry ∷ before))

-- how many procedures are unfinished
abbrev pub under_way : Past → ℕ
under_way J = count_below (λ p. is_some (node_of J p) && not (ended J p)) (made J + 1)

-- the greater of how many entries were recorded and the last procedure's number
abbrev pub age : Past → ℕ
age J = max (counted J) (made J)

-- an image is refused as unsettled: so many procedures are unfinished
abbrev pub IsUnsettled : Past → ℕ → Type 0
IsUnsettled J n = (n ≡ under_way J) × (1 ≤ n)

-- an image is refused as too old: nothing is unfinished, and the age is above 2^48
abbrev pub IsTooOld : Past → ℕ → Type 0
IsTooOld J n = (under_way J ≡ 0) × (n ≡ age J) × (2 ^ 48 < n)

-- an image may take a journal's place
abbrev pub MayRoll : Past → Type 0
MayRoll J = (under_way J ≡ 0) × (age J ≤ 2 ^ 48)
