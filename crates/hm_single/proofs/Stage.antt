-- Where a region stands, and which entries leave it as it is.
use Rattle.std.proofs.Common.{◌≡◌, ℕ, ◌+◌, List, [], ◌∷◌, true, false, cond, Option, Some, None, refl, ap, sym, ◌∙◌, subst, inl, inr, ◌⊎◌}
use Rattle.std.proofs.lemmas.Bool.{cases_Bool, true≢false}
use Rattle.std.proofs.lemmas.Option.{none-some, same_Some}
use Rattle.hm_names.specs.Region.{Region}
use Rattle.hm_names.specs.Server.{Server}
use Rattle.hm_data.specs.declared.answer.Answer.{Answer}
use Rattle.hm_data.specs.declared.answer.Answer.TheVariants as answer_is
use Rattle.hm_data.specs.declared.args.Args.{Args}
use Rattle.hm_data.specs.declared.args.Args.TheVariants as args_are
use Rattle.hm_data.specs.declared.args.Child.{Child}
use Rattle.hm_data.specs.declared.args.Child.TheVariants as child_is
use Rattle.hm_data.specs.declared.call.Peer.{Peer}
use Rattle.hm_data.specs.declared.call.Peer.TheVariants as peer_is
use Rattle.hm_data.specs.declared.call.Told.{Told}
use Rattle.hm_data.specs.declared.call.Told.TheVariants as told_is
use Rattle.hm_data.specs.declared.call.Verb.{Verb}
use Rattle.hm_data.specs.declared.entry.Entry.TheVariants as entry_is
use Rattle.hm_data.specs.declared.place.Place.{Place}
use Rattle.hm_data.specs.declared.place.RegionState.{RegionState}
use Rattle.hm_data.specs.declared.place.RegionState.TheVariants as place_is
use Rattle.hm_data.specs.declared.request.Request.TheVariants as request_is
use Rattle.hm_data.specs.declared.step.StepOut.{StepOut}
use Rattle.hm_model.specs.Answers.{is_stopped, last_answer, report_of}
use Rattle.hm_model.specs.Fleet.{is_fenced}
use Rattle.hm_model.specs.Journal.{Past}
use Rattle.hm_model.specs.Keys.{same_region}
use Rattle.hm_model.specs.Places.{place_of}
use Rattle.hm_model.specs.Reports.{is_the_region, last_call, peer_of, region_called}
use Rattle.hm_model.specs.Inputs.{fenced_if, made_at_step}
use Rattle.hm_model.specs.Tree.{Node, node_of}
use Rattle.hm_model.specs.Views.{region_of}
use Rattle.hm_model.specs.Whereabouts.{called_by, moved_by}
use Rattle.hm_model.proofs.KeyTests.{same_region-Decides}
use Rattle.hm_model.specs.Single.{based_place}
use Rattle.hm_single.specs.Calls.{IsLater, IsOpenedBy, IsVoid}
use Rattle.hm_model.specs.Verbs.{verb_in}
use Rattle.hm_model.proofs.CallSteps.{CallOut, laying_not_caller}
use Rattle.hm_model.proofs.PlainActs.{is_caller}
use Rattle.hm_single.proofs.Transit.{AtRest, AtRow, CallIs, Calls, IsCall, IsRest, Next}

-- the transit of a procedure, if there is one
abbrev pub moved_if : Option Node → Option Region
moved_if None = None
moved_if (Some node) = moved_by node.args

abbrev pub worked : Region → Option Region → ℕ → Option ℕ → Option ℕ
worked r own p old = cond (is_the_region r own) (Some p) old

-- the latest transit that made a step on the region
abbrev pub work_of : Past → Region → Option ℕ
work_of [] r = None
work_of (entry_is.Step pid pick out ∷ before) r = worked r (moved_if (node_of before pid.0)) pid.0 (work_of before r)
work_of (entry_is.Base part ∷ before) r = None
work_of (entry ∷ before) r = work_of before r

-- the child that a procedure's last step made first
abbrev pub child_of_step : Past → ℕ → ℕ
child_of_step J p = made_at_step J p + 1

abbrev pub StageFor : Past → Region → Option ℕ → Type 0
StageFor J r None = IsRest J r (last_call J r) (place_of J r)
StageFor J r (Some p) =
    AtRow J p r (place_of J r) (last_call J r) (last_answer J p) (child_of_step J p) (node_of J (child_of_step J p)) (last_answer J (child_of_step J p))

-- the region of a procedure that calls a region server
abbrev pub caller_region : Args → Option Region
caller_region (args_are.AssignCall region server) = Some region
caller_region (args_are.CloseCall region server) = Some region
caller_region args = None

pub region_caller : (args : Args) (r : Region) → caller_region args ≡ Some r → is_caller args ≡ true
region_caller (args_are.AssignCall region server) r is = refl
region_caller (args_are.CloseCall region server) r is = refl
region_caller args r is = absurd (none-some r is)

pub called_region : (args : Args) (verb : Verb) → verb_in args ≡ Some verb → region_called verb ≡ caller_region args
called_region (args_are.AssignCall region server) verb is = ap region_called (sym (same_Some _ verb is))
called_region (args_are.CloseCall region server) verb is = ap region_called (sym (same_Some _ verb is))
called_region (args_are.FenceCall server) verb is = ap region_called (sym (same_Some _ verb is))
called_region (args_are.LayoutCall root) verb is = ap region_called (sym (same_Some _ verb is))
called_region (args_are.SweepLayout root) verb is = ap region_called (sym (same_Some _ verb is))
called_region args verb is = absurd (none-some verb is)

pub moved_region : (args : Args) (r : Region) → moved_by args ≡ Some r → (region_of args ≡ Some r) × (verb_in args ≡ None) × (caller_region args ≡ None)
moved_region (args_are.Root (request_is.Move region to) first) r is = (is, refl, refl)
moved_region (args_are.Transit region goal to) r is = (is, refl, refl)
moved_region (args_are.Root request first) r is = (by request is, refl, refl)
  where
    by : (request : Rattle.hm_data.specs.declared.request.Request.Request) → Rattle.hm_model.specs.Whereabouts.moved_by_request request ≡ Some r → Rattle.hm_model.specs.Views.region_of_request request ≡ Some r
    by (request_is.Move region to) is = is
    by request is = absurd (none-some r is)
moved_region args r is = absurd (none-some r is)

-- an optional region is this one, or it isn't
pub the_region : (r : Region) (o : Option Region) → (o ≡ Some r) ⊎ (is_the_region r o ≡ false)
the_region r None = inr refl
the_region r (Some other) = elim (cases_Bool (same_region r other)) [
  | inl same ↦ inl (ap Some (sym ((same_region-Decides r other).0 same)))
  | inr differs ↦ inr differs
]

pub is_itself : (r : Region) (o : Option Region) → o ≡ Some r → is_the_region r o ≡ true
is_itself r o is = ap (is_the_region r) is ∙ (same_region-Decides r r).1 refl

-- what is recorded later takes nothing back
pub record Later (J J' : Past) : Type 0 where
  pub reports : (p : ℕ) (told : Told) → report_of J p ≡ Some told → report_of J' p ≡ Some told
  pub fences : (server : Server) → is_fenced J server ≡ true → is_fenced J' server ≡ true
  pub peers : (p : ℕ) (peer : Peer) → peer_of J p ≡ Some peer → peer_of J' p ≡ Some peer
  pub based : (r : Region) → based_place J' r ≡ based_place J r

module _ (J J' : Past) (later : Later J J') where
  pub gone_later : (p : ℕ) → Rattle.hm_model.specs.Single.IsGone J p → Rattle.hm_model.specs.Single.IsGone J' p
  gone_later p h = (h.0, later.peers p (peer_is.Server h.0) h.1, later.fences h.0 h.2)

  pub void_later : (r : Region) (last : Option ℕ) → IsVoid J r last → IsVoid J' r last
  void_later r None h = λ server is. later.fences server (h server (sym (later.based r) ∙ is))
  void_later r (Some p) h = elim h [
    | inl failed ↦ inl (later.reports p told_is.FailedOpen failed)
    | inr other ↦ elim other [ inl closed ↦ inr (inl (later.reports p told_is.Closed closed)) | inr gone ↦ inr (inr (gone_later p gone)) ]
  ]

  pub opened_later : (r : Region) (last : Option ℕ) (server : Server) → IsOpenedBy J r last server → IsOpenedBy J' r last server
  opened_later r last server (inl h) = inl (h.0, h.1, later.peers h.0 (peer_is.Server server) h.2, later.reports h.0 told_is.Opened h.3)
  opened_later r last server (inr h) = inr (h.0, later.based r ∙ h.1)

  rest_at : (r : Region) (last : Option ℕ) (state : RegionState) (server : Option Server) → AtRest J r last state server → AtRest J' r last state server
  rest_at r last place_is.Opening server h = h
  rest_at r last place_is.Opened server h = (h.0, h.1, opened_later r last h.0 h.2)
  rest_at r last place_is.Closing server h = h
  rest_at r last state server h = void_later r last h

  pub rest_later : (r : Region) (last : Option ℕ) (place : Place) → IsRest J r last place → IsRest J' r last place
  rest_later r last place h = rest_at r last place.state place.server h

  pub call_later : (q : ℕ) (server : Server) (last : Option ℕ) → IsCall J q server last → IsCall J' q server last
  call_later q server last h = (h.0, later.peers q (peer_is.Server server) h.1)

  pub calls_later : (q : ℕ) (server : Server) (last : Option ℕ) (Before After : Type 0) → (Before → After) → (answer : Option Answer) → Calls J q server last Before answer → Calls J' q server last After answer
  calls_later q server last Before After go None h = (go h.0, h.1)
  calls_later q server last Before After go (Some (answer_is.More n)) h = h
  calls_later q server last Before After go (Some (answer_is.Wait n)) h = h
  calls_later q server last Before After go (Some (answer_is.Await n)) h = call_later q server last h
  calls_later q server last Before After go (Some (answer_is.Done told)) (inl h) = inl (h.0, later.fences server h.1, elim h.2 [ inl x ↦ inl (go x) | inr x ↦ inr (call_later q server last x) ])
  calls_later q server last Before After go (Some (answer_is.Done told)) (inr h) = inr (call_later q server last h.0, later.reports q told h.1)
  calls_later q server last Before After go (Some (answer_is.Fail cause)) h = h
  calls_later q server last Before After go (Some answer_is.Undone) h = h

  -- the same region, seen later, where the child is as it was
  pub row_later : (p : ℕ) (r : Region) (place : Place) (last : Option ℕ) (was : Option Answer) (q : ℕ) (made made' : Option Node) (answer answer' : Option Answer)
      → ((node : Node) → made ≡ Some node → caller_region node.args ≡ Some r → (made' ≡ made) × (answer' ≡ answer)) → AtRow J p r place last was q made answer → AtRow J' p r place last was q made' answer'
  row_later p r place last None q made made' answer answer' same h = rest_later r last place h
  row_later p r place last (Some (answer_is.More n)) q made made' answer answer' same (inl h) = inl (h.0, rest_later r last place h.1)
  row_later p r place last (Some (answer_is.More n)) q made made' answer answer' same (inr h) = inr (h.0, h.1, h.2, void_later r last h.3)
  row_later p r place last (Some (answer_is.Wait n)) q made made' answer answer' same (inl h) =
      let e = same h.3.0 h.3.1 (ap caller_region h.3.2) in
      inl (h.0, h.1, h.2, (h.3.0, e.0 ∙ h.3.1, h.3.2, h.3.3), rw e.1 (calls_later q h.1 last (IsVoid J r last) (IsVoid J' r last) (void_later r last) answer h.4))
  row_later p r place last (Some (answer_is.Wait n)) q made made' answer answer' same (inr h) =
      let e = same h.3.0 h.3.1 (ap caller_region h.3.2) in
      inr (h.0, h.1, h.2, (h.3.0, e.0 ∙ h.3.1, h.3.2, h.3.3), rw e.1 (calls_later q h.1 last (IsOpenedBy J r last h.1) (IsOpenedBy J' r last h.1) (opened_later r last h.1) answer h.4))
  row_later p r place last (Some (answer_is.Await n)) q made made' answer answer' same h = h
  row_later p r place last (Some (answer_is.Done told)) q made made' answer answer' same h = rest_later r last place h
  row_later p r place last (Some (answer_is.Fail cause)) q made made' answer answer' same h = rest_later r last place h
  row_later p r place last (Some answer_is.Undone) q made made' answer answer' same h = h

  -- a region that the entries between don't touch
  pub stage_later : (r : Region) → place_of J' r ≡ place_of J r → last_call J' r ≡ last_call J r → work_of J' r ≡ work_of J r
      → ((p : ℕ) → work_of J r ≡ Some p → (last_answer J' p ≡ last_answer J p) × (made_at_step J' p ≡ made_at_step J p))
      → ((q : ℕ) (node : Node) → node_of J q ≡ Some node → caller_region node.args ≡ Some r → (node_of J' q ≡ node_of J q) × (last_answer J' q ≡ last_answer J q))
      → StageFor J r (work_of J r) → StageFor J' r (work_of J' r)
  stage_later r same_place same_last same_work same_p same_q h = rw same_work (by_work (work_of J r) refl h)
    where
      by_work : (work : Option ℕ) → work_of J r ≡ work → StageFor J r work → StageFor J' r work
      by_work None is h = rw (same_place, same_last) (rest_later r (last_call J r) (place_of J r) h)
      by_work (Some p) is h =
          let e = same_p p is in
          rw (same_place, same_last, e.0, e.1) (row_later p r (place_of J r) (last_call J r) (last_answer J p) (child_of_step J p) (node_of J (child_of_step J p)) (node_of J' (child_of_step J p)) (last_answer J (child_of_step J p)) (last_answer J' (child_of_step J p)) (λ node at on. same_q (child_of_step J p) node at on) h)

-- from what a transit's step leaves to where its region then is
pub row_next : (J J' : Past) → Later J J' → (p : ℕ) (r : Region) (place : Place) (last : Option ℕ) (answer : Answer) (children : List Child) (q : ℕ) (made : Option Node) (answered : Option Answer)
    → ((args : Args) → children ≡ child_is.One args ∷ [] → CallIs p made args × (answered ≡ None)) → IsLater q last → Next J r last place children answer → AtRow J' p r place last (Some answer) q made answered
row_next J J' later p r place last (answer_is.More n) children q made answered fresh above h = elim h.0 [
  | inl free ↦ inl (free.0, rest_later J J' later r last place free.1)
  | inr opens ↦ inr (opens.0, opens.1, opens.2, void_later J J' later r last opens.3)
]
row_next J J' later p r place last (answer_is.Wait n) children q made answered fresh above (inl h) =
    let e = fresh (args_are.AssignCall r h.1) h.4 in
    inl (h.0, h.1, h.2, e.0, rw e.1 (void_later J J' later r last h.3, above))
row_next J J' later p r place last (answer_is.Wait n) children q made answered fresh above (inr h) =
    let e = fresh (args_are.CloseCall r h.1) h.4 in
    inr (h.0, h.1, h.2, e.0, rw e.1 (opened_later J J' later r last h.1 h.3, above))
row_next J J' later p r place last (answer_is.Done told) children q made answered fresh above h = rest_later J J' later r last place h.0
row_next J J' later p r place last (answer_is.Fail cause) children q made answered fresh above h = rest_later J J' later r last place h.0
row_next J J' later p r place last answer children q made answered fresh above h = h

-- the call's step, seen from its transit
module _ (J J' : Past) (later : Later J J') (q : ℕ) (args : Args) (server : Server) (verb : Verb) (out : StepOut) (caller : is_caller args ≡ true) (called : called_by args ≡ Some server) (last last' : Option ℕ) (Before After : Type 0)
    (same : out.call ≡ None → last' ≡ last) (new : out.call ≡ Some verb → IsCall J' q server last') where
  fenced_now : fenced_if J (called_by args) ≡ true → is_fenced J' server ≡ true
  fenced_now h = later.fences server (ap (fenced_if J) (sym called) ∙ h)

  still_call : out.call ≡ None → IsCall J q server last → IsCall J' q server last'
  still_call e h = (same e ∙ h.0, later.peers q (peer_is.Server server) h.1)

  pub calls_step : (was : Option Answer) → CallOut J q args verb was out → is_stopped was ≡ false → Calls J q server last Before was → (last' ≡ last → Before → After) → Calls J' q server last' After (Some out.answer)
  calls_step None call runs h on = elim call.does [
    | inl asks ↦ subst (λ a. Calls J' q server last' After (Some a)) (sym asks.2) (new asks.1)
    | inr ends ↦ elim ends.1 [
      | inl gone ↦ subst (λ a. Calls J' q server last' After (Some a)) (sym gone.0) (inl (refl, fenced_now gone.1, inl (on (same ends.0) h.0)))
      | inr other ↦ elim other [
        | inl told ↦ absurd (none-some (answer_is.Await 1) told.3)
        | inr failed ↦ absurd (true≢false (sym caller ∙ laying_not_caller _ failed.2))
      ]
    ]
  ]
  calls_step (Some (answer_is.Await n)) call runs h on = elim call.does [
    | inl asks ↦ absurd (none-some (answer_is.Await n) (sym asks.0))
    | inr ends ↦ elim ends.1 [
      | inl gone ↦ subst (λ a. Calls J' q server last' After (Some a)) (sym gone.0) (inl (refl, fenced_now gone.1, inr (still_call ends.0 h)))
      | inr other ↦ elim other [
        | inl told ↦ subst (λ a. Calls J' q server last' After (Some a)) (sym told.1) (inr (still_call ends.0 h, later.reports q told.0 told.2))
        | inr failed ↦ absurd (true≢false (sym caller ∙ laying_not_caller _ failed.2))
      ]
    ]
  ]
  calls_step (Some (answer_is.More n)) call runs h on = absurd h
  calls_step (Some (answer_is.Wait n)) call runs h on = absurd h
  calls_step (Some (answer_is.Done told)) call runs h on = absurd (true≢false runs)
  calls_step (Some (answer_is.Fail cause)) call runs h on = absurd h
  calls_step (Some answer_is.Undone) call runs h on = absurd h
