-- A journal reports each refusal once.
use Rattle.std.proofs.Common.{◌≡◌, ◌+◌, ◌≤◌, ℕ, List, [], ◌∷◌, length, Bool, true, false, ◌&&◌, ◌==◌, cond, Option, Some, is_some, refl, sym, ap, ◌∙◌, subst, inl, inr, ◌⊎◌, arith}
use Rattle.std.proofs.lemmas.Bool.{eq-eqb, false≢true}
use Rattle.hm_data.specs.declared.call.Peer.{Peer}
use Rattle.hm_data.specs.declared.call.Told.{Told}
use Rattle.hm_data.specs.declared.entry.Entry.TheVariants as entry_is
use Rattle.hm_model.specs.Answers.{report_of}
use Rattle.hm_model.specs.Journal.{Past}
use Rattle.hm_model.specs.Locks.{IsIn}
use Rattle.hm_model.specs.Reports.{peer_of}
use Rattle.hm_model.specs.Rules.{IsLegal}
use Rattle.hm_world_model.specs.Claims.{AreOnce}
use Rattle.hm_terms.specs.Refusals.{is_called, is_refusal, refused_by}

-- a list without one of its numbers
without : (x : ℕ) (ys : List ℕ) → IsIn x ys → (less : List ℕ) × (length ys ≡ length less + 1) × ((y : ℕ) → IsIn y ys → (y ≡ x) ⊎ IsIn y less)
without x [] h = absurd h
without x (z ∷ ys) (inl same) = (ys, omega arith, λ y k. elim k [ inl e ↦ inl (e ∙ sym same) | inr more ↦ inr more ])
without x (z ∷ ys) (inr more) =
    let w = without x ys more in
    let longer = w.1 in
    (z ∷ w.0, omega (arith, longer), λ y k. elim k [ inl e ↦ inr (inl e) | inr there ↦ elim (w.2 y there) [ inl e ↦ inl e | inr still ↦ inr (inr still) ] ])

-- numbers of which each stands once, all among others, are no more than these
pub few_among : (xs ys : List ℕ) → AreOnce xs → ((x : ℕ) → IsIn x xs → IsIn x ys) → length xs ≤ length ys
few_among [] ys once among = omega arith
few_among (x ∷ xs) ys once among =
    let w = without x ys (among x (inl refl)) in
    let rest : (y : ℕ) → IsIn y xs → IsIn y w.0 = λ y k. elim (w.2 y (among y (inr k))) [
      | inl same ↦ absurd (once.0 (subst (λ z. IsIn z xs) same k))
      | inr there ↦ there
    ] in
    let fewer = few_among xs w.0 once.1 rest in
    let longer = w.1 in
    omega (arith, fewer, longer)

-- a report of this refusal is among the calls, after which there are these
abbrev pub with_refused : Bool → ℕ → List ℕ → List ℕ
with_refused refused call calls = cond refused (call ∷ calls) calls

in_with : (refused : Bool) (call p : ℕ) (calls : List ℕ) → IsIn p (with_refused refused call calls) → ((refused ≡ true) × (p ≡ call)) ⊎ IsIn p calls
in_with true call p calls (inl same) = inl (refl, same)
in_with true call p calls (inr there) = inr there
in_with false call p calls there = inr there

-- a call is reported now, or was before
reported_more : (told : Told) (before : Option Told) (p call : ℕ) → (p ≡ call) ⊎ (is_some before ≡ true) → is_some (cond (p == call) (Some told) before) ≡ true
reported_more told before p call h = by (p == call) refl h
  where
    by : (b : Bool) → (p == call) ≡ b → (p ≡ call) ⊎ (is_some before ≡ true) → is_some (cond b (Some told) before) ≡ true
    by true e h = refl
    by false e (inr there) = there
    by false e (inl here) = absurd (false≢true (sym e ∙ eq-eqb p call here))

-- what a journal has as refused has a report
reported : (peer : Peer) (J : Past) (p : ℕ) → IsIn p (refused_by peer J) → is_some (report_of J p) ≡ true
reported peer [] p h = absurd h
reported peer (entry_is.Report call told ∷ before) p h =
    reported_more told (report_of before p) p call.0 (elim (in_with (is_refusal told && is_called peer (peer_of before call.0)) call.0 p (refused_by peer before) h) [
      | inl here ↦ inl here.1
      | inr there ↦ inr (reported peer before p there)
    ])
reported peer (entry_is.Base part ∷ before) p h = absurd h
reported peer (entry ∷ before) p h = reported peer before p h

once_more : (refused : Bool) (call : ℕ) (calls : List ℕ) → (IsIn call calls → ⊥) → AreOnce calls → AreOnce (with_refused refused call calls)
once_more true call calls new once = (new, once)
once_more false call calls new once = once

-- each call that is refused is refused once
pub once : (peer : Peer) (J : Past) → IsLegal J → AreOnce (refused_by peer J)
once peer [] legal = tt
once peer (entry_is.Report call told ∷ before) legal =
    once_more (is_refusal told && is_called peer (peer_of before call.0)) call.0 (refused_by peer before)
    (λ there. false≢true (sym (ap is_some legal.1.1.0.1) ∙ reported peer before call.0 there)) (once peer before legal.0)
once peer (entry_is.Base part ∷ before) legal = tt
once peer (entry ∷ before) legal = once peer before legal.0
