-- Nodes that come into their lists, and leave them, one after another.
use Rattle.std.proofs.Common.{◌≡◌, ◌≢◌, ℕ, ◌+◌, ◌<◌, ◌≤◌, List, Some, slice_get, sym, ap, ◌∙◌, subst, inl, inr, ◌⊎◌, arith}
use Rattle.std.specs.Prelude.{◌↔◌}
use Rattle.std.proofs.lemmas.Bool.{cases_eq, cases_lt}
use Rattle.hm_lists.specs.Chains.{IsIn, list_at}
use Rattle.hm_locks.specs.declared.entry.Want.{Want}
use Rattle.hm_locks.specs.Kept.{IsAmong, WantsList, lane}

-- the nodes up to one more
among_next : (wants : List Want) (first done l n : ℕ) (w : Want) → slice_get wants (first + done) ≡ Some w
    → (IsAmong wants first done l n ⊎ ((l ≡ lane w.desk w.exclusive) × (n ≡ first + done))) ↔ IsAmong wants first (done + 1) l n
among_next wants first done l n w is = (
  (λ was. elim was [
    | inl among ↦ (among.0, (let lt = among.1 in omega (arith, lt)), among.2)
    | inr new ↦ (
      (let e = new.1 in omega (arith, e)),
      (let e = new.1 in omega (arith, e)),
      subst (WantsList l) (sym (ap (slice_get wants) new.1 ∙ is)) (sym new.0),
    )
  ]),
  (λ among. elim (cases_eq n (first + done)) [
    | inl here ↦ inr (sym (subst (WantsList l) (ap (slice_get wants) here ∙ is) among.2), here)
    | inr there ↦ inl (among.0, (let lt = among.1 in omega (arith, lt, there)), among.2)
  ]),
)

pub seated : (wants : List Want) (first done : ℕ) (w : Want) (old now new : List (List ℕ)) → slice_get wants (first + done) ≡ Some w
    → ((l n : ℕ) → IsIn n (list_at now l) ↔ (IsIn n (list_at old l) ⊎ IsAmong wants first done l n))
    → ((l n : ℕ) → IsIn n (list_at new l) ↔ (IsIn n (list_at now l) ⊎ ((l ≡ lane w.desk w.exclusive) × (n ≡ first + done))))
    → (l n : ℕ) → IsIn n (list_at new l) ↔ (IsIn n (list_at old l) ⊎ IsAmong wants first (done + 1) l n)
seated wants first done w old now new is was step l n =
    let next = among_next wants first done l n w is in (
      (λ here. elim ((step l n).0 here) [
        | inl before ↦ elim ((was l n).0 before) [ inl a ↦ inl a | inr b ↦ inr (next.0 (inl b)) ]
        | inr new ↦ inr (next.0 (inr new))
      ]),
      (λ there. (step l n).1 (elim there [
        | inl a ↦ inl ((was l n).1 (inl a))
        | inr among ↦ elim (next.1 among) [ inl b ↦ inl ((was l n).1 (inr b)) | inr new ↦ inr new ]
      ])),
    )

-- before the first
pub none_seated : (wants : List Want) (first l n : ℕ) (A : Type 0) → A ↔ (A ⊎ IsAmong wants first 0 l n)
none_seated wants first l n A = (
  (λ a. inl a),
  (λ either. elim either [ inl a ↦ a | inr among ↦ absurd (let low = among.0 in let high = among.1 in omega (arith, low, high)) ]),
)

pub still_out : (wants : List Want) (first done : ℕ) (old now : List (List ℕ))
    → ((l n : ℕ) → IsIn n (list_at now l) ↔ (IsIn n (list_at old l) ⊎ IsAmong wants first done l n))
    → (n : ℕ) → first + done ≤ n → ((l : ℕ) → IsIn n (list_at old l) → ⊥) → (l : ℕ) → IsIn n (list_at now l) → ⊥
still_out wants first done old now was n le out l here =
    elim ((was l n).0 here) [ inl a ↦ out l a | inr among ↦ (let lt = among.1 in absurd (omega (arith, lt, le))) ]

-- nodes that leave
pub left : (first done node : ℕ) (old now new : List (List ℕ)) → node ≡ first + done
    → ((l n : ℕ) → IsIn n (list_at now l) ↔ (IsIn n (list_at old l) × ((n < first) ⊎ (first + done ≤ n))))
    → ((l n : ℕ) → IsIn n (list_at new l) ↔ (IsIn n (list_at now l) × (n ≢ node)))
    → (l n : ℕ) → IsIn n (list_at new l) ↔ (IsIn n (list_at old l) × ((n < first) ⊎ (first + (done + 1) ≤ n)))
left first done node old now new is was step l n = (
  (λ here.
      let a = (step l n).0 here in
      let b = (was l n).0 a.0 in
      (b.0, elim b.1 [ inl low ↦ inl low | inr high ↦ inr (let differs = a.1 in omega (arith, high, differs, is)) ])),
  (λ there. (step l n).1 (
    (was l n).1 (there.0, elim there.1 [ inl low ↦ inl low | inr high ↦ inr (omega (arith, high)) ]),
    (λ e. elim there.1 [ inl low ↦ absurd (omega (arith, low, e, is)) | inr high ↦ absurd (omega (arith, high, e, is)) ]),
  )),
)

pub none_left : (first n : ℕ) (A : Type 0) → A ↔ (A × ((n < first) ⊎ (first + 0 ≤ n)))
none_left first n A = (
  (λ a. (a, elim (cases_lt n first) [ inl lt ↦ inl lt | inr le ↦ inr (omega (arith, le)) ])),
  (λ both. both.0),
)
