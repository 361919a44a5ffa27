-- What was submitted under a nonce.
use Rattle.std.specs.Prelude.{◌≡◌, ℕ, ◌+◌, [], ◌∷◌, Option, Some, None, Bool, not, ◌==◌, ◌&&◌, if◌then◌else◌}
use Rattle.hm_names.specs.declared.nonce.Nonce.{Nonce}
use Rattle.hm_data.specs.declared.entry.Entry.TheVariants as entry_is
use Rattle.hm_model.specs.Journal.{Past}
use Rattle.hm_data.specs.declared.part.Part.{Part}
use Rattle.hm_model.specs.Parts.{part_root}
use Rattle.hm_model.specs.Tree.{made}

-- the second nonce says the same as the first, and isn't none: a nonce with the number 0 is none
abbrev pub is_same : Nonce → Nonce → Bool
is_same used nonce = not (nonce.number == 0) && (used.group == nonce.group) && (used.number == nonce.number)

-- the root that was made under a nonce, with that of a part
abbrev pub part_nonce : Part → Nonce → Option ℕ → Option ℕ
part_nonce part nonce before =
    elim (part_root part) as (λ r. Option ℕ) [ None ↦ before | Some both ↦ if is_same both.0 nonce then Some both.1 else before ]

-- the root that was made under a nonce: the latest
abbrev pub by_nonce : Past → Nonce → Option ℕ
by_nonce [] nonce = None
by_nonce (entry_is.Submit used request ∷ before) nonce =
    if is_same used nonce then Some (made before + 1) else by_nonce before nonce
by_nonce (entry_is.Base part ∷ before) nonce = part_nonce part nonce (by_nonce before nonce)
by_nonce (entry ∷ before) nonce = by_nonce before nonce

-- the nonce of a part's root wasn't used before
abbrev pub IsNew : Part → Past → Type 0
IsNew part before = elim (part_root part) as (λ r. Type 0) [ None ↦ Unit {0} | Some both ↦ by_nonce before both.0 ≡ None ]

-- no nonce is used twice
abbrev pub NoncesActOnce : Past → Type 0
NoncesActOnce [] = Unit {0}
NoncesActOnce (entry_is.Submit nonce request ∷ before) = NoncesActOnce before × (by_nonce before nonce ≡ None)
NoncesActOnce (entry_is.Base part ∷ before) = NoncesActOnce before × IsNew part before
NoncesActOnce (entry ∷ before) = NoncesActOnce before
