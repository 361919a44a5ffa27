-- What stands before a part of a base: nothing, or parts alone.
use Rattle.std.proofs.Common.{◌≡◌, ℕ, ◌+◌, ◌<◌, List, [], ◌∷◌, length, None, false, refl, subst, sym, arith, zero, suc}
use Rattle.hm_model.specs.Answers.{last_answer}
use Rattle.hm_model.specs.Base.{HasNoHalfBase, IsBegun, PartFits, Rises}
use Rattle.hm_model.specs.Counts.{count_below, one_if}
use Rattle.hm_data.specs.declared.entry.Entry.TheVariants as entry_is
use Rattle.hm_model.specs.Journal.{Past}
use Rattle.hm_data.specs.declared.part.Part.{Part}
use Rattle.hm_data.specs.declared.part.Part.TheVariants as part_is
use Rattle.hm_model.specs.Tree.{node_of}

module _ (P : Past → Type 0) (nothing : P []) (parted : (own : Part) (older : Past) → P (entry_is.Base own ∷ older)) where
  -- a part stands right after a part
  rises_by : (before : Past) (part : Part) → Rises before part → P before
  rises_by [] part after = absurd after
  rises_by (entry_is.Base own ∷ before) part after = parted own before
  rises_by (entry ∷ before) part after = absurd after

  pub by_parts : (part : Part) (before : Past) → PartFits part before → P before
  by_parts (part_is.Head entries last parts sheets) before fits = subst P (sym fits.0) nothing
  by_parts (part_is.Namespace ns) before fits = rises_by before (part_is.Namespace ns) fits
  by_parts part before fits = rises_by before part fits.0

-- so no procedure is there
pub no_node : (part : Part) (before : Past) → PartFits part before → (p : ℕ) → node_of before p ≡ None
no_node = by_parts (λ J. (p : ℕ) → node_of J p ≡ None) (λ p. refl) (λ own older p. refl)

-- and none is counted
pub count_none : (n : ℕ) → count_below (λ q. false) n ≡ 0
count_none zero = refl
count_none (suc n) = omega (arith, count_none n)

-- what has begun has no unfinished base
pub no_half : (before : Past) → IsBegun before → HasNoHalfBase before
no_half [] begun = absurd begun
no_half (entry ∷ before) begun = begun
