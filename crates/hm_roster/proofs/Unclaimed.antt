-- One claim is taken out.
use Rattle.std.proofs.Common.{◌≡◌, ◌≢◌, ◌↔◌, ◌⊎◌, ℕ, suc, zero, List, [], ◌∷◌, Some, None, slice_get, remove, refl, inl, inr, ap, sym, ◌∙◌}
use Rattle.std.proofs.lemmas.Bool.{cases_eq}
use Rattle.std.proofs.lemmas.Option.{none-some, same_Some}
use Rattle.hm_model.specs.Locks.{IsIn}
use Rattle.hm_model.specs.Claims.{Unclaims}

-- who is another one stays
pub others_stay : (xs : List ℕ) (i p q : ℕ) → slice_get xs i ≡ Some p → q ≢ p → IsIn q (remove xs i) ↔ IsIn q xs
others_stay [] i p q at differs = absurd (none-some p at)
others_stay (x ∷ xs) zero p q at differs = (λ e. inr e, λ e. elim e [ inl same ↦ absurd (differs (same ∙ same_Some x p at)) | inr more ↦ more ])
others_stay (x ∷ xs) (suc i) p q at differs =
    let more = others_stay xs i p q at differs in
    (λ e. elim e [ inl same ↦ inl same | inr m ↦ inr (more.0 m) ], λ e. elim e [ inl same ↦ inl same | inr m ↦ inr (more.1 m) ])

-- where all claims of one are taken out and the others stay, that one's claim has ended
pub unclaimed : (old new : List ℕ) (p : ℕ) → ((q : ℕ) → q ≢ p → IsIn q new ↔ IsIn q old) → (IsIn p new → ⊥) → Unclaims p old new
unclaimed old new p others gone q = (
  λ e. elim (cases_eq q p) [
    | inl same ↦ absurd (gone (Rattle.std.proofs.Common.subst (λ k. IsIn k new) same e))
    | inr differs ↦ ((others q differs).0 e, differs)
  ],
  λ both. (others q both.1).1 both.0,
)
