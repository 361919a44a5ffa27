-- The last call of a region, whose procedure has ended, has a report, or its server is fenced.
use Rattle.std.proofs.Common.{◌≡◌, ℕ, true, Option, Some, None, refl, ap, sym, ◌∙◌, subst, inl, inr, ◌⊎◌}
use Rattle.std.proofs.lemmas.Bool.{false≢true}
use Rattle.std.proofs.lemmas.Option.{none-some, same_Some}
use Rattle.hm_names.specs.Region.{Region}
use Rattle.hm_names.specs.Server.{Server}
use Rattle.hm_data.specs.declared.answer.Answer.{Answer}
use Rattle.hm_data.specs.declared.answer.Answer.TheVariants as answer_is
use Rattle.hm_data.specs.declared.call.Told.{Told}
use Rattle.hm_data.specs.declared.call.Told.TheVariants as told_is
use Rattle.hm_data.specs.declared.place.Place.{Place}
use Rattle.hm_data.specs.declared.place.RegionState.{RegionState}
use Rattle.hm_data.specs.declared.place.RegionState.TheVariants as place_is
use Rattle.hm_model.specs.Answers.{is_stopped, last_answer, report_of}
use Rattle.hm_model.specs.Fleet.{is_fenced}
use Rattle.hm_model.specs.Journal.{Past}
use Rattle.hm_model.specs.Places.{place_of}
use Rattle.hm_model.specs.Reports.{last_call, peer_of}
use Rattle.hm_model.specs.Rules.{IsLegal}
use Rattle.hm_model.specs.Single.{IsGone}
use Rattle.hm_model.specs.Tree.{Node, node_of}
use Rattle.hm_single.specs.Calls.{IsOpenedBy, IsVoid}
use Rattle.hm_single.proofs.All.{kept_all}
use Rattle.hm_single.proofs.Stage.{StageFor, child_of_step, work_of}
use Rattle.hm_single.proofs.Transit.{AtRest, AtRow, Calls, IsCall}

-- a call has a report, or its server is fenced
abbrev pub IsTold : Past → ℕ → Type 0
IsTold J p = ((told : Told) × (report_of J p ≡ Some told)) ⊎ IsGone J p

module _ (J : Past) (legal : IsLegal J) (r : Region) (p : ℕ) (last : last_call J r ≡ Some p) (stopped : is_stopped (last_answer J p) ≡ true) where
  own : (q : ℕ) → last_call J r ≡ Some q → q ≡ p
  own q is = same_Some q p (sym is ∙ last)

  void_told : IsVoid J r (last_call J r) → IsTold J p
  void_told void = elim (subst (IsVoid J r) last void) [
    | inl failed ↦ inl (told_is.FailedOpen, failed)
    | inr other ↦ elim other [ inl closed ↦ inl (told_is.Closed, closed) | inr gone ↦ inr gone ]
  ]

  opened_told : (t : Server) → IsOpenedBy J r (last_call J r) t → IsTold J p
  opened_told t (inl opened) = inl (told_is.Opened, ap (report_of J) (sym (own opened.0 opened.1)) ∙ opened.3)
  opened_told t (inr based) = absurd (none-some p (sym based.0 ∙ last))

  rest_told : (state : RegionState) (server : Option Server) → AtRest J r (last_call J r) state server → IsTold J p
  rest_told place_is.Opening server h = absurd h
  rest_told place_is.Opened server h = opened_told h.0 h.2
  rest_told place_is.Closing server h = absurd h
  rest_told state server h = void_told h

  -- who made the call is this one, and has ended
  awaits_not : (q n : ℕ) → last_answer J q ≡ Some (answer_is.Await n) → last_call J r ≡ Some q → ⊥
  awaits_not q n awaits is = false≢true (sym (ap is_stopped awaits) ∙ ap (λ x. is_stopped (last_answer J x)) (own q is) ∙ stopped)

  gone_told : (q : ℕ) (t : Server) → is_fenced J t ≡ true → IsCall J q t (last_call J r) → IsTold J p
  gone_told q t fenced call = inr (t, ap (peer_of J) (sym (own q call.0)) ∙ call.1, fenced)

  calls_told : (q : ℕ) (t : Server) (Before : Type 0) → (Before → IsTold J p) → (answer : Option Answer) → last_answer J q ≡ answer → Calls J q t (last_call J r) Before answer → IsTold J p
  calls_told q t Before before None is h = before h.0
  calls_told q t Before before (Some (answer_is.More n)) is h = absurd h
  calls_told q t Before before (Some (answer_is.Wait n)) is h = absurd h
  calls_told q t Before before (Some (answer_is.Await n)) is h = absurd (awaits_not q n is h.0)
  calls_told q t Before before (Some (answer_is.Done told)) is (inl h) = elim h.2 [ inl was ↦ before was | inr call ↦ gone_told q t h.1 call ]
  calls_told q t Before before (Some (answer_is.Done told)) is (inr h) = inl (told, ap (report_of J) (sym (own q h.0.0)) ∙ h.1)
  calls_told q t Before before (Some (answer_is.Fail cause)) is h = absurd h
  calls_told q t Before before (Some answer_is.Undone) is h = absurd h

  row_told : (w : ℕ) (place : Place) (was : Option Answer) (q : ℕ) (made : Option Node) → AtRow J w r place (last_call J r) was q made (last_answer J q) → IsTold J p
  row_told w place None q made h = rest_told place.state place.server h
  row_told w place (Some (answer_is.More n)) q made (inl h) = rest_told place.state place.server h.1
  row_told w place (Some (answer_is.More n)) q made (inr h) = void_told h.3
  row_told w place (Some (answer_is.Wait n)) q made (inl h) = calls_told q h.1 (IsVoid J r (last_call J r)) void_told (last_answer J q) refl h.4
  row_told w place (Some (answer_is.Wait n)) q made (inr h) = calls_told q h.1 (IsOpenedBy J r (last_call J r) h.1) (opened_told h.1) (last_answer J q) refl h.4
  row_told w place (Some (answer_is.Await n)) q made h = absurd h
  row_told w place (Some (answer_is.Done told)) q made h = rest_told place.state place.server h
  row_told w place (Some (answer_is.Fail cause)) q made h = rest_told place.state place.server h
  row_told w place (Some answer_is.Undone) q made h = absurd h

  pub last_told : IsTold J p
  last_told = by (work_of J r) ((kept_all J legal).stage r)
    where
      by : (w : Option ℕ) → StageFor J r w → IsTold J p
      by None h = rest_told (place_of J r).state (place_of J r).server h
      by (Some w) h = row_told w (place_of J r) (last_answer J w) (child_of_step J w) (node_of J (child_of_step J w)) h
