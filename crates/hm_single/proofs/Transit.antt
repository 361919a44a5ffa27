-- One step of a transit, by its row alone: how a region's place and its last call go together.
use Rattle.std.proofs.Common.{◌≡◌, ◌≢◌, ℕ, List, [], ◌∷◌, Bool, true, false, ◌&&◌, ◌||◌, Option, Some, None, cond, refl, ap, sym, ◌∙◌, subst, inl, inr, ◌⊎◌}
use Rattle.std.proofs.lemmas.Bool.{true≢false, false≢true}
use Rattle.std.proofs.lemmas.Option.{same_Some}
use Rattle.hm_names.specs.Region.{Region}
use Rattle.hm_names.specs.Server.{Server}
use Rattle.hm_data.specs.declared.answer.Answer.{Answer}
use Rattle.hm_data.specs.declared.answer.Answer.TheVariants as answer_is
use Rattle.hm_data.specs.declared.answer.Cause.{Cause}
use Rattle.hm_data.specs.declared.args.Args.{Args}
use Rattle.hm_data.specs.declared.args.Args.TheVariants as args_are
use Rattle.hm_data.specs.declared.args.Child.{Child}
use Rattle.hm_data.specs.declared.args.Child.TheVariants as child_is
use Rattle.hm_data.specs.declared.call.Peer.TheVariants as peer_is
use Rattle.hm_data.specs.declared.call.Told.{Told}
use Rattle.hm_data.specs.declared.call.Told.TheVariants as told_is
use Rattle.hm_data.specs.declared.place.Goal.{Goal}
use Rattle.hm_data.specs.declared.place.Goal.TheVariants as goal_is
use Rattle.hm_data.specs.declared.place.Place.{Place}
use Rattle.hm_data.specs.declared.place.RegionState.{RegionState}
use Rattle.hm_data.specs.declared.place.RegionState.TheVariants as place_is
use Rattle.hm_data.specs.declared.step.StepOut.{StepOut}
use Rattle.hm_model.specs.Answers.{report_of}
use Rattle.hm_model.specs.Fleet.{is_fenced}
use Rattle.hm_model.specs.Journal.{Past}
use Rattle.hm_model.specs.Outs.{checked, ends_with, given, places, spawns}
use Rattle.hm_model.specs.Reports.{peer_of}
use Rattle.hm_model.specs.Inputs.{fenced_if}
use Rattle.hm_model.specs.Outs.{fails}
use Rattle.hm_model.specs.TransitActs.{behind_close, candidate, close_at, close_or_go, closed_or_lost, is_open, is_placed, lost_if, nowhere, opened_or_not}
use Rattle.hm_model.specs.Tree.{Node}
use Rattle.hm_model.specs.Single.{IsBasedAt}
use Rattle.hm_single.specs.Calls.{IsLater, IsOpenedBy, IsVoid}
use Rattle.std.proofs.Math.Bool.{or-false}

abbrev pub placed : RegionState → Option Server → Place
placed state server = record { state = state; server = server }

abbrev pub at_place : RegionState → Server → Place
at_place state server = record { state = state; server = Some server }

-- a base has a region open at one server
pub based_one : (J : Past) (r : Region) (s t : Server) → IsBasedAt J r s → IsBasedAt J r t → s ≡ t
based_one J r s t one other = same_Some s t (ap (λ (p : Place). p.server) (sym one ∙ other))

-- the last call of a region whose transit has ended, or is about to look at its place
abbrev pub AtRest : Past → Region → Option ℕ → RegionState → Option Server → Type 0
AtRest J r last place_is.Opening server = ⊥
AtRest J r last place_is.Opened server = (at : Server) × (server ≡ Some at) × IsOpenedBy J r last at
AtRest J r last place_is.Closing server = ⊥
AtRest J r last state server = IsVoid J r last

abbrev pub IsRest : Past → Region → Option ℕ → Place → Type 0
IsRest J r last place = AtRest J r last place.state place.server

-- the last call is this procedure's, to the server
abbrev pub IsCall : Past → ℕ → Server → Option ℕ → Type 0
IsCall J q server last = (last ≡ Some q) × (peer_of J q ≡ Some (peer_is.Server server))

-- how far the child has come that is to make the call
abbrev pub Calls : Past → ℕ → Server → Option ℕ → Type 0 → Option Answer → Type 0
Calls J q server last Before None = Before × IsLater q last
Calls J q server last Before (Some (answer_is.More next)) = ⊥
Calls J q server last Before (Some (answer_is.Wait next)) = ⊥
Calls J q server last Before (Some (answer_is.Await next)) = IsCall J q server last
Calls J q server last Before (Some (answer_is.Done told)) =
    ((told ≡ told_is.Gone) × (is_fenced J server ≡ true) × (Before ⊎ IsCall J q server last))
    ⊎ (IsCall J q server last × (report_of J q ≡ Some told))
Calls J q server last Before (Some (answer_is.Fail cause)) = ⊥
Calls J q server last Before (Some answer_is.Undone) = ⊥

-- the procedure is a child of p that works on this
abbrev pub CallIs : ℕ → Option Node → Args → Type 0
CallIs p made args = (node : Node) × (made ≡ Some node) × (node.args ≡ args) × ((rest : List ℕ) × (node.above ≡ p ∷ rest))

-- a row at which a transit looks at its place
abbrev pub IsFreeRow : ℕ → Type 0
IsFreeRow n = (n ≡ 0) ⊎ ((n ≡ 3) ⊎ (n ≡ 5))

-- a region by the last answer of its transit, with that one's child q
abbrev pub AtRow : Past → ℕ → Region → Place → Option ℕ → Option Answer → ℕ → Option Node → Option Answer → Type 0
AtRow J p r place last None q made answer = IsRest J r last place
AtRow J p r place last (Some (answer_is.More n)) q made answer =
    (IsFreeRow n × IsRest J r last place)
    ⊎ ((n ≡ 1) × (server : Server) × (place ≡ at_place place_is.Opening server) × IsVoid J r last)
AtRow J p r place last (Some (answer_is.Wait n)) q made answer =
    ((n ≡ 2) × (server : Server) × (place ≡ at_place place_is.Opening server)
    × CallIs p made (args_are.AssignCall r server) × Calls J q server last (IsVoid J r last) answer)
    ⊎ ((n ≡ 4) × (server : Server) × (place ≡ at_place place_is.Closing server)
    × CallIs p made (args_are.CloseCall r server) × Calls J q server last (IsOpenedBy J r last server) answer)
AtRow J p r place last (Some (answer_is.Await n)) q made answer = ⊥
AtRow J p r place last (Some (answer_is.Done told)) q made answer = IsRest J r last place
AtRow J p r place last (Some (answer_is.Fail cause)) q made answer = IsRest J r last place
AtRow J p r place last (Some answer_is.Undone) q made answer = ⊥

-- what a transit's step leaves, by its answer
abbrev pub Next : Past → Region → Option ℕ → Place → List Child → Answer → Type 0
Next J r last place children (answer_is.More n) =
    ((IsFreeRow n × IsRest J r last place)
    ⊎ ((n ≡ 1) × (server : Server) × (place ≡ at_place place_is.Opening server) × IsVoid J r last))
    × (children ≡ [])
Next J r last place children (answer_is.Wait n) =
    ((n ≡ 2) × (server : Server) × (place ≡ at_place place_is.Opening server) × IsVoid J r last
    × (children ≡ child_is.One (args_are.AssignCall r server) ∷ []))
    ⊎ ((n ≡ 4) × (server : Server) × (place ≡ at_place place_is.Closing server) × IsOpenedBy J r last server
    × (children ≡ child_is.One (args_are.CloseCall r server) ∷ []))
Next J r last place children (answer_is.Done told) = IsRest J r last place × (children ≡ [])
Next J r last place children (answer_is.Fail cause) = IsRest J r last place × (children ≡ [])
Next J r last place children answer = ⊥

abbrev pub set_place : Option Place → Place → Place
set_place None old = old
set_place (Some new) old = new

pub record Leaves (J : Past) (r : Region) (last : Option ℕ) (place : Place) (out : StepOut) : Type 0 where
  pub silent : out.call ≡ None
  pub next : Next J r last (set_place out.place place) out.children out.answer

module _ (J : Past) (r : Region) (last : Option ℕ) where
  leaves_places : (old : Place) (answer : Answer) (place : Option Place) → Next J r last (set_place place old) [] answer → Leaves J r last old (places answer place)
  leaves_places old answer place h = record { silent = refl; next = h }

  leaves_ends : (old : Place) (told : Told) → IsRest J r last old → Leaves J r last old (ends_with told)
  leaves_ends old told h = record { silent = refl; next = (h, refl) }

  -- who is fenced is whom the base has the region open at
  left_fenced : (server : Server) → IsBasedAt J r server → is_fenced J server ≡ true → IsVoid J r None
  left_fenced server based gone other is = subst (λ s. is_fenced J s ≡ true) (based_one J r server other based is) gone

  -- an open region whose server is fenced
  pub gone_void : (server : Option Server) → (fenced_if J server || false) ≡ true → (at : Server) × (server ≡ Some at) × IsOpenedBy J r last at → IsVoid J r last
  gone_void server gone rest =
      elim rest.2 [
        | inl opened ↦ subst (IsVoid J r) (sym opened.1) (inr (inr (rest.0, opened.2, sym (or-false (is_fenced J rest.0)) ∙ subst (λ s. (fenced_if J s || false) ≡ true) rest.1 gone)))
        | inr based ↦ subst (IsVoid J r) (sym based.0) (left_fenced rest.0 based.1 (sym (or-false (is_fenced J rest.0)) ∙ subst (λ s. (fenced_if J s || false) ≡ true) rest.1 gone))
      ]

  -- a region that isn't open, or is at a fenced server
  void_at : (state : RegionState) (server : Option Server) (fenced : Bool) → (fenced_if J server || false) ≡ fenced → AtRest J r last state server → is_open (record { state = state; server = server }) fenced ≡ false → IsVoid J r last
  void_at place_is.Opening server fenced e rest h = absurd rest
  void_at place_is.Opened server true e rest h = gone_void server e rest
  void_at place_is.Opened server false e rest h = absurd (true≢false h)
  void_at place_is.Closing server fenced e rest h = absurd rest
  void_at state server fenced e rest h = rest

  -- the region's row isn't live, or its table isn't enabled
  leave_step : (state : RegionState) (server : Option Server) (fenced : Bool) → (fenced_if J server || false) ≡ fenced → AtRest J r last state server
      → Leaves J r last (record { state = state; server = server }) (places (answer_is.Done told_is.Nothing) (lost_if (is_placed (record { state = state; server = server }) && fenced)))
  leave_step place_is.Opening server fenced e rest = absurd rest
  leave_step place_is.Opened server true e rest = leaves_places _ _ (Some (nowhere place_is.AbnormallyClosed)) (gone_void server e rest, refl)
  leave_step place_is.Opened server false e rest = leaves_places _ _ None (rest, refl)
  leave_step place_is.Closing server fenced e rest = absurd rest
  leave_step state server fenced e rest = leaves_places _ _ None (rest, refl)

  place_step : (state : RegionState) (server : Option Server) (fenced : Bool) (pick : Option Server) (b : Bool)
      → (fenced_if J server || false) ≡ fenced → AtRest J r last state server
      → is_open (record { state = state; server = server }) fenced ≡ b → (b ≡ false → (s : Server) × (pick ≡ Some s))
      → Leaves J r last (record { state = state; server = server }) (cond b (ends_with told_is.Nothing) (places (answer_is.More 1) (Some (record { state = place_is.Opening; server = pick }))))
  place_step state server fenced pick true e rest is picks = leaves_ends _ told_is.Nothing rest
  place_step state server fenced pick false e rest is picks =
      let s = picks refl in
      leaves_places _ _ (Some (record { state = place_is.Opening; server = pick })) (inr (refl, s.0, ap (λ x. let p : Place = record { state = place_is.Opening; server = x } in p) s.1, void_at state server fenced e rest is), refl)

  -- act 31
  pub candidate_step : (place : Place) (may fenced : Bool) (pick : Option Server) → (fenced_if J place.server || false) ≡ fenced → IsRest J r last place
      → (may ≡ true → is_open place fenced ≡ false → (s : Server) × (pick ≡ Some s)) → Leaves J r last place (candidate 1 may place fenced pick)
  candidate_step place false fenced pick e rest picks = leave_step place.state place.server fenced e rest
  candidate_step place true fenced pick e rest picks = place_step place.state place.server fenced pick (is_open place fenced) e rest refl (λ h. picks refl h)

  -- act 32
  pub open_step : (place : Place) (server : Server) → place ≡ at_place place_is.Opening server → IsVoid J r last
      → Leaves J r last place (given place.server 2 (λ s. spawns 2 (child_is.One (args_are.AssignCall r s) ∷ [])))
  open_step place server is void =
      subst (λ (p : Place). Leaves J r last p (given p.server 2 (λ s. spawns 2 (child_is.One (args_are.AssignCall r s) ∷ [])))) (sym is)
      (record { silent = refl; next = inl (refl, server, refl, void, refl) })

  behind_rest : (goal : Goal) (told : Told) (place : Place) → IsRest J r last place → Next J r last place [] (behind_close goal told)
  behind_rest goal_is.Unassign told place rest = (rest, refl)
  behind_rest goal told place rest = (inl (inl refl, rest), refl)

  -- act 34
  close_step : (goal : Goal) (state : RegionState) (server : Option Server) (fenced : Bool) → (fenced_if J server || false) ≡ fenced → AtRest J r last state server
      → Leaves J r last (record { state = state; server = server }) (close_or_go 4 goal r (record { state = state; server = server }) (is_open (record { state = state; server = server }) fenced))
  close_step goal place_is.Opening server fenced e rest = absurd rest
  close_step goal place_is.Opened server true e rest = leaves_places _ _ (Some (nowhere place_is.AbnormallyClosed)) (behind_rest goal told_is.Nothing (nowhere place_is.AbnormallyClosed) (gone_void server e rest))
  close_step goal place_is.Opened server false e rest =
      subst (λ s. Leaves J r last (record { state = place_is.Opened; server = s }) (given s 4 (close_at 4 r))) (sym rest.1)
      (record { silent = refl; next = inr (refl, rest.0, refl, rest.2, refl) })
  close_step goal place_is.Closing server fenced e rest = absurd rest
  close_step goal state server fenced e rest = leaves_places _ _ None (behind_rest goal told_is.Nothing (placed state server) rest)

  pub close_there_step : (goal : Goal) (place : Place) (fenced : Bool) → (fenced_if J place.server || false) ≡ fenced → IsRest J r last place → Leaves J r last place (close_or_go 4 goal r place (is_open place fenced))
  close_there_step goal place fenced e rest = close_step goal place.state place.server fenced e rest

  -- the call of the child went to a server that is fenced
  void_call : (q : ℕ) (server : Server) → is_fenced J server ≡ true → IsCall J q server last → IsVoid J r last
  void_call q server gone call = subst (IsVoid J r) (sym call.0) (inr (inr (server, call.1, gone)))

  opened_void : (server : Server) → is_fenced J server ≡ true → IsOpenedBy J r last server → IsVoid J r last
  opened_void server gone (inl opened) = subst (IsVoid J r) (sym opened.1) (inr (inr (server, opened.2, gone)))
  opened_void server gone (inr based) = subst (IsVoid J r) (sym based.0) (left_fenced server based.1 gone)

  -- a child that ended
  pub ended_with : (q : ℕ) (server : Server) (Before : Type 0) (answer : Option Answer) → Calls J q server last Before answer → Rattle.hm_model.specs.Answers.is_stopped answer ≡ true → (told : Told) × (answer ≡ Some (answer_is.Done told))
  ended_with q server Before None calls h = absurd (false≢true h)
  ended_with q server Before (Some (answer_is.More n)) calls h = absurd calls
  ended_with q server Before (Some (answer_is.Wait n)) calls h = absurd calls
  ended_with q server Before (Some (answer_is.Await n)) calls h = absurd (false≢true h)
  ended_with q server Before (Some (answer_is.Done told)) calls h = (told, refl)
  ended_with q server Before (Some (answer_is.Fail cause)) calls h = absurd calls
  ended_with q server Before (Some answer_is.Undone) calls h = absurd calls

  module _ (q : ℕ) (server : Server) (told : Told) where
    opened_of : told ≡ told_is.Opened → Calls J q server last (IsVoid J r last) (Some (answer_is.Done told)) → IsOpenedBy J r last server
    opened_of is (inl gone) = absurd (other (sym gone.0 ∙ is))
      where
        other : told_is.Gone ≡ told_is.Opened → ⊥
        other e = cc
    opened_of is (inr done) = inl (q, done.0.0, done.0.1, done.1 ∙ ap Some is)

    void_of : told ≢ told_is.Opened → ((t : Told) → report_of J q ≡ Some t → (t ≡ told_is.Opened) ⊎ (t ≡ told_is.FailedOpen)) → Calls J q server last (IsVoid J r last) (Some (answer_is.Done told)) → IsVoid J r last
    void_of not_opened fits (inl gone) = elim gone.2 [ inl before ↦ before | inr call ↦ void_call q server gone.1 call ]
    void_of not_opened fits (inr done) = elim (fits told done.1) [
      | inl opened ↦ absurd (not_opened opened)
      | inr failed ↦ subst (IsVoid J r) (sym done.0.0) (inl (done.1 ∙ ap Some failed))
    ]

    -- act 33
    pub confirm_opened_step : (place : Place) (b : Bool) → place ≡ at_place place_is.Opening server → (b ≡ true → told ≡ told_is.Opened) → (b ≡ false → told ≢ told_is.Opened)
        → ((t : Told) → report_of J q ≡ Some t → (t ≡ told_is.Opened) ⊎ (t ≡ told_is.FailedOpen)) → Calls J q server last (IsVoid J r last) (Some (answer_is.Done told)) → Leaves J r last place (opened_or_not 0 place.server b)
    confirm_opened_step place true is on off fits calls = leaves_places _ _ (Some (record { state = place_is.Opened; server = place.server })) ((server, ap (λ (p : Place). p.server) is, opened_of (on refl) calls), refl)
    confirm_opened_step place false is on off fits calls = leaves_places _ _ (Some (record { state = place_is.FailedOpen; server = place.server })) (inl (inl refl, void_of (off refl) fits calls), refl)

    closed_void : ((t : Told) → report_of J q ≡ Some t → t ≡ told_is.Closed) → Calls J q server last (IsOpenedBy J r last server) (Some (answer_is.Done told)) → IsVoid J r last
    closed_void fits (inl gone) = elim gone.2 [ inl before ↦ opened_void server gone.1 before | inr call ↦ void_call q server gone.1 call ]
    closed_void fits (inr done) = subst (IsVoid J r) (sym done.0.0) (inr (inl (done.1 ∙ ap Some (fits told done.1))))

    -- act 35
    pub confirm_closed_step : (goal : Goal) (place : Place) (b : Bool) → ((t : Told) → report_of J q ≡ Some t → t ≡ told_is.Closed) → Calls J q server last (IsOpenedBy J r last server) (Some (answer_is.Done told))
        → Leaves J r last place (places (behind_close goal told_is.Closed) (Some (nowhere (closed_or_lost b))))
    confirm_closed_step goal place true fits calls = leaves_places _ _ (Some (nowhere place_is.Closed)) (behind_rest goal told_is.Closed (nowhere place_is.Closed) (closed_void fits calls))
    confirm_closed_step goal place false fits calls = leaves_places _ _ (Some (nowhere place_is.AbnormallyClosed)) (behind_rest goal told_is.Closed (nowhere place_is.AbnormallyClosed) (closed_void fits calls))

  -- act 36
  pub check_step : (place : Place) (cause : Option Cause) → IsRest J r last place → Leaves J r last place (checked 3 cause)
  check_step place None rest = record { silent = refl; next = (inl (inr (inl refl), rest), refl) }
  check_step place (Some cause) rest = record { silent = refl; next = (rest, refl) }

  pub fails_step : (place : Place) (cause : Cause) → IsRest J r last place → Leaves J r last place (fails cause)
  fails_step place cause rest = record { silent = refl; next = (rest, refl) }
