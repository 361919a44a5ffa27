-- No nonce acts twice.
use Rattle.std.proofs.Common.{if◌then◌else◌}
use Rattle.hm_model.specs.Base.{PartFits}
use Rattle.hm_data.specs.declared.part.Part.{Part}
use Rattle.hm_data.specs.declared.part.Part.TheVariants as part_is
use Rattle.hm_model.specs.Parts.{part_root}
use Rattle.std.proofs.Common.{None, Option, Some, [], ap, arith, false, inl, inr, refl, sym, true, ℕ, ◌+◌, ◌∙◌, ◌∷◌, ◌≡◌, ◌≢◌}
use Rattle.std.proofs.lemmas.Bool.{cases_eq, cond-false, false≢true, true≢false}
use Rattle.std.proofs.lemmas.Bool.Decides.{nat_tests}
use Rattle.std.proofs.lemmas.Option.{none-some}
use Rattle.hm_names.specs.declared.nonce.Nonce.{Nonce}
use Rattle.hm_model.specs.Journal.{Past}
use Rattle.hm_model.specs.Nonces.{NoncesActOnce, by_nonce, is_same, IsNew}
use Rattle.hm_model.specs.Rules.{IsFresh, IsLegal}
use Rattle.hm_model.specs.Tree.{Node, is_root, is_root_in, is_top, made, node_of}
use Rattle.hm_data.specs.declared.entry.Entry.TheVariants as entry_is

-- a nonce with the number 0 is none
pub no_nonce : (used nonce : Nonce) → nonce.number ≡ 0 → is_same used nonce ≡ false
no_nonce used nonce none = grind (arith, nat_tests)

by_no_nonce : (J : Past) (nonce : Nonce) → nonce.number ≡ 0 → by_nonce J nonce ≡ None
by_no_nonce [] nonce none = refl
by_no_nonce (entry_is.Submit used request ∷ before) nonce none = cond-false (is_same used nonce) (Some (made before + 1)) (by_nonce before nonce) (no_nonce used nonce none) ∙ by_no_nonce before nonce none
by_no_nonce (entry_is.Base part ∷ before) nonce none = by (part_root part) (by_no_nonce before nonce none)
  where
    by : (o : Option (Nonce × ℕ)) → by_nonce before nonce ≡ None → elim o as (λ r. Option ℕ) [ None ↦ by_nonce before nonce | Some both ↦ if is_same both.0 nonce then Some both.1 else by_nonce before nonce ] ≡ None
    by None was = was
    by (Some both) was = cond-false (is_same both.0 nonce) (Some both.1) (by_nonce before nonce) (no_nonce both.0 nonce none) ∙ was
by_no_nonce (entry ∷ before) nonce none = by_no_nonce before nonce none

pub fresh_none : (before : Past) (nonce : Nonce) → IsFresh before nonce → by_nonce before nonce ≡ None
fresh_none before nonce fresh = elim fresh [ inl none ↦ by_no_nonce before nonce none | inr new ↦ new ]

pub nonces_once : (J : Past) → IsLegal J → NoncesActOnce J
nonces_once [] legal = tt
nonces_once (entry_is.Submit nonce request ∷ before) legal = (nonces_once before legal.0, fresh_none before nonce legal.1.1.1.0)
nonces_once (entry_is.Base part ∷ before) legal = (nonces_once before legal.0, is_new part legal.1.0)
  where
    is_new : (part : Part) → PartFits part before → IsNew part before
    is_new (part_is.Root pid nonce args cause) fits = fits.3
    is_new part fits = tt
nonces_once (entry ∷ before) legal = nonces_once before legal.0
