-- All that is kept, after an entry.
use Rattle.std.proofs.Common.{◌≡◌, ℕ, ◌+◌, ◌≤◌, [], ◌∷◌, length, min, refl, arith}
use Rattle.hm_data.specs.declared.entry.Entry.{Entry}
use Rattle.hm_data.specs.declared.entry.Entry.TheVariants as entry_is
use Rattle.hm_model.specs.Journal.{Past}
use Rattle.hm_model.specs.RegionIds.{AreNamed}
use Rattle.hm_procedures.specs.Kept.{args_made}

-- an entry more names regions by their ids, where it alone does
pub named_more : (entry : Entry) (J : Past) → AreNamed (entry ∷ []) → AreNamed J → AreNamed (entry ∷ J)
named_more (entry_is.Submit nonce request) J one named = (one.0, named)
named_more (entry_is.Base part) J one named = tt
named_more entry J one named = named

-- how many procedures an entry makes, whatever was before it
pub made_count : (J : Past) (entry : Entry) → length (args_made J entry) ≡ length (args_made [] entry)
made_count J (entry_is.Submit nonce request) = refl
made_count J entry = refl

-- the least of two numbers that fall by no more than a number
pub least_within : (k a b a' b' : ℕ) → a ≤ a' + k → b ≤ b' + k → min a b ≤ min a' b' + k
least_within k a b a' b' le le' = omega arith

-- the least of two numbers that don't fall
pub least_more : (a b a' b' : ℕ) → a ≤ a' → b ≤ b' → min a b ≤ min a' b'
least_more a b a' b' le le' = omega arith
