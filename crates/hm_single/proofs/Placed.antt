-- What a region's place says of its calls; and that live regions that overlap aren't opened beside one another.
use Rattle.std.proofs.Common.{◌≡◌, ℕ, true, false, Option, Some, None, ap, sym, ◌∙◌, subst, inl, inr, ◌⊎◌}
use Rattle.std.proofs.lemmas.Bool.{cases_Bool, false≢true, true≢false}
use Rattle.hm_names.specs.Region.{Region}
use Rattle.hm_names.specs.Server.{Server}
use Rattle.hm_data.specs.declared.answer.Answer.{Answer}
use Rattle.hm_data.specs.declared.answer.Answer.TheVariants as answer_is
use Rattle.hm_data.specs.declared.place.RegionState.{RegionState}
use Rattle.hm_data.specs.declared.place.RegionState.TheVariants as place_is
use Rattle.hm_model.specs.Answers.{is_stopped, last_answer}
use Rattle.hm_model.specs.Journal.{Past}
use Rattle.hm_model.specs.Places.{place_of}
use Rattle.hm_model.specs.Reports.{last_call}
use Rattle.hm_model.specs.TransitActs.{is_placed, is_state}
use Rattle.hm_model.specs.Tree.{Node, node_of}
use Rattle.hm_model.proofs.Trees.{IsWaiting}
use Rattle.hm_single.specs.Calls.{CallsAbout, IsOpenedBy, IsVoid}
use Rattle.hm_single.specs.Theorem.{OpenedAreTold, UnplacedAreFree}
use Rattle.hm_single.proofs.All.{kept_all}
use Rattle.hm_single.proofs.Kept.{Lasting}
use Rattle.hm_single.proofs.Stage.{StageFor, caller_region, child_of_step, work_of}
use Rattle.hm_single.proofs.Transit.{AtRest, AtRow, IsRest, at_place}

-- at rest: open where the last call opened it, or void
rest_opened : (J : Past) (r : Region) (last : Option ℕ) (state : RegionState) (server : Option Server) → AtRest J r last state server → is_state place_is.Opened (record { state = state; server = server }) ≡ true → (at : Server) × (server ≡ Some at) × IsOpenedBy J r last at
rest_opened J r last place_is.Opened server rest h = rest
rest_opened J r last place_is.Opening server rest h = absurd rest
rest_opened J r last place_is.Closing server rest h = absurd rest
rest_opened J r last state server rest h = absurd (false≢true h)

rest_void : (J : Past) (r : Region) (last : Option ℕ) (state : RegionState) (server : Option Server) → AtRest J r last state server → is_placed (record { state = state; server = server }) ≡ false → IsVoid J r last
rest_void J r last place_is.Opening server rest h = absurd rest
rest_void J r last place_is.Closing server rest h = absurd rest
rest_void J r last place_is.Opened server rest h = absurd (true≢false h)
rest_void J r last state server rest h = rest

module _ (J : Past) (region : Region) where
  -- the region is being opened or closed
  abbrev pub IsBetween : Type 0
  IsBetween = (server : Server) × ((place_of J region ≡ at_place place_is.Opening server) ⊎ (place_of J region ≡ at_place place_is.Closing server))

  pub between_placed : IsBetween → is_placed (place_of J region) ≡ true
  between_placed is = elim is.1 [ inl opening ↦ ap is_placed opening | inr closing ↦ ap is_placed closing ]

  between_not_open : IsBetween → is_state place_is.Opened (place_of J region) ≡ true → ⊥
  between_not_open is h = elim is.1 [ inl opening ↦ false≢true (ap (is_state place_is.Opened) (sym opening) ∙ h) | inr closing ↦ false≢true (ap (is_state place_is.Opened) (sym closing) ∙ h) ]

  row_or_rest : (p : ℕ) (o : Option Answer) (q : ℕ) (made : Option Node) (answer : Option Answer) → AtRow J p region (place_of J region) (last_call J region) o q made answer → IsRest J region (last_call J region) (place_of J region) ⊎ IsBetween
  row_or_rest p None q made answer h = inl h
  row_or_rest p (Some (answer_is.More n)) q made answer (inl h) = inl h.1
  row_or_rest p (Some (answer_is.More n)) q made answer (inr h) = inr (h.1, inl h.2)
  row_or_rest p (Some (answer_is.Wait n)) q made answer (inl h) = inr (h.1, inl h.2)
  row_or_rest p (Some (answer_is.Wait n)) q made answer (inr h) = inr (h.1, inr h.2)
  row_or_rest p (Some (answer_is.Await n)) q made answer h = absurd h
  row_or_rest p (Some (answer_is.Done told)) q made answer h = inl h
  row_or_rest p (Some (answer_is.Fail cause)) q made answer h = inl h
  row_or_rest p (Some answer_is.Undone) q made answer h = absurd h

  -- where a transit waits, its region is being opened or closed
  waits_between : (p : ℕ) (o : Option Answer) (q : ℕ) (made : Option Node) (answer : Option Answer) → IsWaiting o → AtRow J p region (place_of J region) (last_call J region) o q made answer → IsBetween
  waits_between p (Some (answer_is.Wait n)) q made answer w (inl h) = (h.1, inl h.2)
  waits_between p (Some (answer_is.Wait n)) q made answer w (inr h) = (h.1, inr h.2)
  waits_between p None q made answer w h = absurd w
  waits_between p (Some (answer_is.More n)) q made answer w h = absurd w
  waits_between p (Some (answer_is.Await n)) q made answer w h = absurd w
  waits_between p (Some (answer_is.Done told)) q made answer w h = absurd w
  waits_between p (Some (answer_is.Fail cause)) q made answer w h = absurd w
  waits_between p (Some answer_is.Undone) q made answer w h = absurd w

  module _ (kept : Lasting J) where
    pub stands : IsRest J region (last_call J region) (place_of J region) ⊎ IsBetween
    stands = by (work_of J region) (kept.stage region)
      where
        by : (w : Option ℕ) → StageFor J region w → IsRest J region (last_call J region) (place_of J region) ⊎ IsBetween
        by None h = inl h
        by (Some p) h = row_or_rest p (last_answer J p) (child_of_step J p) (node_of J (child_of_step J p)) (last_answer J (child_of_step J p)) h

    calls_region : (p : ℕ) → (calls : CallsAbout J p region) → caller_region calls.0.args ≡ Some region
    calls_region p calls = elim calls.3 [ inl opens ↦ ap caller_region opens | inr closes ↦ ap caller_region closes ]

    -- who is to call about it holds its place
    pub caller_between : (p : ℕ) (node : Node) → node_of J p ≡ Some node → caller_region node.args ≡ Some region → is_stopped (last_answer J p) ≡ false → IsBetween
    caller_between p node is calls runs =
        let c = kept.calling p node region is calls runs in
        waits_between c.0 (last_answer J c.0) (child_of_step J c.0) (node_of J (child_of_step J c.0)) (last_answer J (child_of_step J c.0)) c.3 (subst (StageFor J region) c.1 (kept.stage region))

pub opened_told : OpenedAreTold
opened_told J legal region h = elim (stands J region (kept_all J legal)) [
  | inl rest ↦ rest_opened J region (last_call J region) (place_of J region).state (place_of J region).server rest h
  | inr between ↦ absurd (between_not_open J region between h)
]

pub unplaced_free : UnplacedAreFree
unplaced_free J legal region h = (
  elim (stands J region (kept_all J legal)) [
    | inl rest ↦ rest_void J region (last_call J region) (place_of J region).state (place_of J region).server rest h
    | inr between ↦ absurd (true≢false (sym (between_placed J region between) ∙ h))
  ],
  λ p calls. elim (cases_Bool (is_stopped (last_answer J p))) [
    | inl stopped ↦ stopped
    | inr runs ↦ absurd (true≢false (sym (between_placed J region (caller_between J region (kept_all J legal) p calls.0 calls.2 (calls_region J region (kept_all J legal) p calls) runs)) ∙ h))
  ],
)
