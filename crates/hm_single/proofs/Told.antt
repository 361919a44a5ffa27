-- What a transit is told of its child, and what answers fit its call.
use Rattle.std.proofs.Common.{◌≡◌, ℕ, zero, suc, ◌<◌, List, [], Bool, true, false, ◌==◌, cond, Option, Some, None, refl, ap, sym, ◌∙◌, inl, inr, ◌⊎◌, arith}
use Rattle.std.proofs.lemmas.Bool.{cases_eq, cond-true, false≢true, or_cases, or_parts}
use Rattle.std.proofs.lemmas.List.Folds.{list_any-append}
use Rattle.std.proofs.lemmas.Option.{none-some, same_Some}
use Rattle.hm_names.specs.Region.{Region}
use Rattle.hm_names.specs.declared.pid.Pid.{Pid}
use Rattle.hm_data.specs.Numbers.{told_number}
use Rattle.hm_data.specs.declared.call.Told.{Told}
use Rattle.hm_data.specs.declared.call.Told.TheVariants as told_is
use Rattle.hm_data.specs.declared.call.Verb.TheVariants as verb_is
use Rattle.hm_model.specs.Answers.{done_with, last_answer}
use Rattle.hm_model.specs.Journal.{Past}
use Rattle.hm_model.specs.Phase.{end_of}
use Rattle.hm_model.specs.Reports.{fits_verb}
use Rattle.hm_model.specs.Inputs.{is_new_child, ends_below}
use Rattle.hm_model.specs.TransitActs.{is_told}

pub told_opened : (t : Told) → (told_number t == told_number told_is.Opened) ≡ true → t ≡ told_is.Opened
told_opened told_is.Opened h = refl
told_opened t h = absurd (false≢true h)

pub fits_open : (r : Region) (t : Told) → fits_verb (verb_is.AssignRegion r) t ≡ true → (t ≡ told_is.Opened) ⊎ (t ≡ told_is.FailedOpen)
fits_open r told_is.Opened h = inl refl
fits_open r told_is.FailedOpen h = inr refl
fits_open r t h = absurd (false≢true h)

pub fits_close : (r : Region) (t : Told) → fits_verb (verb_is.CloseRegion r) t ≡ true → t ≡ told_is.Closed
fits_close r told_is.Closed h = refl
fits_close r t h = absurd (false≢true h)

-- the end of one child
abbrev one_end : Past → ℕ → ℕ → List (Pid × Told)
one_end J p n = cond (is_new_child J p n) (end_of n (done_with (last_answer J n))) []

end_told : (t : Told) (n : ℕ) (o : Option Told) → is_told t (end_of n o) ≡ true → (u : Told) × (o ≡ Some u) × ((told_number u == told_number t) ≡ true)
end_told t n None h = absurd (false≢true h)
end_told t n (Some u) h = (u, refl, elim (or_cases (told_number u == told_number t) false h) [ inl on ↦ on | inr never ↦ absurd (false≢true never) ])

end_not_told : (t : Told) (n : ℕ) (o : Option Told) (u : Told) → o ≡ Some u → is_told t (end_of n o) ≡ false → (told_number u == told_number t) ≡ false
end_not_told t n None u is h = absurd (none-some u is)
end_not_told t n (Some v) u is h = ap (λ x. told_number x == told_number t) (sym (same_Some v u is)) ∙ (or_parts (told_number v == told_number t) false h).0

one_told : (J : Past) (p : ℕ) (t : Told) (n : ℕ) (b : Bool) → is_new_child J p n ≡ b → is_told t (cond b (end_of n (done_with (last_answer J n))) []) ≡ true → (is_new_child J p n ≡ true) × (u : Told) × (done_with (last_answer J n) ≡ Some u) × ((told_number u == told_number t) ≡ true)
one_told J p t n true e h = let x = end_told t n (done_with (last_answer J n)) h in (e, x.0, x.1, x.2)
one_told J p t n false e h = absurd (false≢true h)

-- what is told is told by a child of the last step
pub told_by : (J : Past) (p : ℕ) (t : Told) (n : ℕ) → is_told t (ends_below J p n) ≡ true → (q : ℕ) × (is_new_child J p q ≡ true) × (u : Told) × (done_with (last_answer J q) ≡ Some u) × ((told_number u == told_number t) ≡ true)
told_by J p t zero h = absurd (false≢true h)
told_by J p t (suc n) h = elim (or_cases (is_told t (ends_below J p n)) (is_told t (one_end J p n)) (sym (list_any-append (λ end. told_number end.1 == told_number t) (ends_below J p n) (one_end J p n)) ∙ h)) [
  | inl before ↦ told_by J p t n before
  | inr here ↦ let x = one_told J p t n (is_new_child J p n) refl here in (n, x.0, x.1, x.2, x.3)
]

-- and what isn't told no such child told
pub not_told_by : (J : Past) (p : ℕ) (t : Told) (n : ℕ) → is_told t (ends_below J p n) ≡ false → (q : ℕ) → q < n → is_new_child J p q ≡ true → (u : Told) → done_with (last_answer J q) ≡ Some u → (told_number u == told_number t) ≡ false
not_told_by J p t zero h q lt new u is = absurd (omega (arith, lt))
not_told_by J p t (suc n) h q lt new u is =
    let parts = or_parts (is_told t (ends_below J p n)) (is_told t (one_end J p n)) (sym (list_any-append (λ end. told_number end.1 == told_number t) (ends_below J p n) (one_end J p n)) ∙ h) in
    elim (cases_eq q n) [
      | inl same ↦ end_not_told t n (done_with (last_answer J n)) u (ap (λ x. done_with (last_answer J x)) (sym same) ∙ is) (ap (is_told t) (sym (cond-true (is_new_child J p n) (end_of n (done_with (last_answer J n))) [] (ap (is_new_child J p) (sym same) ∙ new))) ∙ parts.1)
      | inr differs ↦ not_told_by J p t n parts.0 q (omega (arith, lt, differs)) new u is
    ]
