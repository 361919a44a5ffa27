-- What was read of the parts of a base, and why parts are no base.
use Rattle.std.specs.Prelude.{◌≡◌, ℕ, ◌+◌, ◌-◌, List, ◌∷◌, length, take, Some, ◌⊎◌, slice_get}
use Rattle.hm_data.specs.declared.entry.Entry.{Entry}
use Rattle.hm_data.specs.declared.entry.Entry.TheVariants as entry_is
use Rattle.hm_data.specs.declared.part.Part.{Part}
use Rattle.hm_model.specs.Base.{IsBegun, PartFits, announced}
use Rattle.hm_model.specs.Journal.{Past}
use Rattle.hm_model.specs.Rebase.{based}
use Rattle.hm_model.specs.Rules.{IsLegal}
use Rattle.hm_base.specs.Live.{AreLiveBy}
use Rattle.hm_base.specs.declared.reader.Reader.{Reader}
use Rattle.hm_base.specs.declared.why.BaseWhy.{BaseWhy}
use Rattle.hm_base.specs.declared.why.BaseWhy.TheVariants as why_is

-- the parts that make up a journal
abbrev pub past_of : Reader → Past
past_of reader = (let records = reader.records in records.past)

-- an entry is a part of a base
abbrev pub IsPart : Entry → Type 0
IsPart entry = (part : Part) × (entry ≡ entry_is.Base part)

-- parts were read up to this one: the ranges are those of its table, if it is of a region, and the head announces so many behind it
pub record IsReadTo (last : Part) (reader : Reader) : Type 0 where
  pub older : Past
  pub past : past_of reader ≡ entry_is.Base last ∷ older
  pub live : AreLiveBy (entry_is.Base last ∷ older) last (let ranges = reader.ranges in ranges.ranges)
  pub announces : announced (entry_is.Base last ∷ older) ≡ reader.follow + 1

-- one part more was read
pub record IsReadOn (part : Part) (old new : Reader) : Type 0 where
  pub past : past_of new ≡ entry_is.Base part ∷ past_of old
  pub to : IsReadTo part new

-- so many parts were read, one at least
pub record AreRead (parts : List Part) (n : ℕ) (reader : Reader) : Type 0 where
  pub last : Part
  pub at : slice_get parts (n - 1) ≡ Some last
  pub past : past_of reader ≡ based (take n parts)
  pub to : IsReadTo last reader

-- the part of a number is there, and the first that doesn't fit behind those before it
abbrev pub IsMisfit : List Part → ℕ → Type 0
IsMisfit parts n = (part : Part) × (slice_get parts n ≡ Some part) × IsLegal (based (take n parts)) × (PartFits part (based (take n parts)) → ⊥)

-- each part fits, and the whole is no base
abbrev pub IsPartial : List Part → Type 0
IsPartial parts = IsLegal (based parts) × (IsBegun (based parts) → ⊥)

-- parts are no base, for this reason
abbrev pub IsNoBase : List Part → BaseWhy → Type 0
IsNoBase parts (why_is.Part n) = IsMisfit parts n ⊎ ((n ≡ length parts) × IsPartial parts)
IsNoBase parts why_is.Memory = Unit {0}
