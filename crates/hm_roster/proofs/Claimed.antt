-- Claims, by who is claimed.
use Rattle.std.proofs.Common.{◌≡◌, ◌↔◌, ◌⊎◌, ℕ, List, [], ◌∷◌, ◌++◌, Option, inl, inr}
use Rattle.hm_names.specs.Server.{Server}
use Rattle.hm_model.specs.Journal.{Past}
use Rattle.hm_model.specs.Locks.{IsIn}
use Rattle.hm_tied.specs.Tied.{Debts, IsTiedBut, Roster}

-- a claim at the end
pub in_push : (xs : List ℕ) (p q : ℕ) → IsIn q (xs ++ p ∷ []) ↔ ((q ≡ p) ⊎ IsIn q xs)
in_push [] p q = (λ e. e, λ e. e)
in_push (x ∷ xs) p q =
    let more = in_push xs p q in (
      λ e. elim e [ inl same ↦ inr (inl same) | inr m ↦ elim (more.0 m) [ inl own ↦ inl own | inr old ↦ inr (inr old) ] ],
      λ e. elim e [ inl own ↦ inr (more.1 (inl own)) | inr m ↦ elim m [ inl same ↦ inl same | inr old ↦ inr (more.1 (inr old)) ] ],
    )

-- where the same are claimed, the same is said
pub claims_alike : (J : Past) (n : Option Server → ℕ) (roster : Roster) (debts : Debts) (claimed : List ℕ) → ((q : ℕ) → IsIn q claimed ↔ IsIn q roster.claimed) → IsTiedBut J n roster debts
    → IsTiedBut J n (record roster { claimed = claimed }) debts
claims_alike J n roster debts claimed same tied = record {
  listed = λ k q e. ((tied.listed k q e).0, λ among. (tied.listed k q e).1 ((same q).0 among));
  claims = λ q among. tied.claims q ((same q).0 among);
  waits = tied.waits;
  calls = tied.calls;
  aside = tied.aside;
  must = λ q free busy. tied.must q (λ among. free ((same q).1 among)) busy;
  book = record {
    says = tied.book.says;
    enlisted = tied.book.enlisted;
    opened = tied.book.opened;
    left = tied.book.left;
    holds = λ p e. elim (tied.book.holds p e) [
      | inl h ↦ inl (h.0, h.1, elim h.2 [ inl some ↦ inl some | inr among ↦ inr ((same p).1 among) ])
      | inr over ↦ inr over
    ];
    held = λ p h. tied.book.held p (h.0, h.1, elim h.2 [ inl some ↦ inl some | inr among ↦ inr ((same p).0 among) ]);
  };
}
