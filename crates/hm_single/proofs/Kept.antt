-- What every legal journal keeps of its regions, where no step conflicted with one who held.
use Rattle.std.proofs.Common.{◌≡◌, ◌≢◌, ℕ, ◌+◌, ◌<◌, ◌≤◌, List, [], ◌∷◌, length, false, Option, Some, None, refl, ap, sym, ◌∙◌, subst, inl, inr, ◌⊎◌, arith}
use Rattle.std.proofs.lemmas.Bool.{true≢false}
use Rattle.std.proofs.lemmas.Option.{none-some, same_Some}
use Rattle.hm_names.specs.Region.{Region}
use Rattle.hm_names.specs.Server.{Server}
use Rattle.hm_data.specs.declared.answer.Answer.{Answer}
use Rattle.hm_data.specs.declared.answer.Answer.TheVariants as answer_is
use Rattle.hm_data.specs.declared.answer.Cause.{Cause}
use Rattle.hm_data.specs.declared.call.Peer.TheVariants as peer_is
use Rattle.hm_data.specs.declared.call.Told.TheVariants as told_is
use Rattle.hm_data.specs.declared.call.Verb.{Verb}
use Rattle.hm_data.specs.declared.call.Verb.TheVariants as verb_is
use Rattle.hm_data.specs.declared.place.Place.{Place}
use Rattle.hm_model.specs.Answers.{failing, is_stopped, last_answer}
use Rattle.hm_model.specs.Journal.{Past}
use Rattle.hm_model.specs.Phase.{cause}
use Rattle.hm_model.specs.Places.{place_of}
use Rattle.hm_model.specs.Reports.{last_call, peer_if, peer_in, peer_of, verb_of}
use Rattle.hm_model.specs.Inputs.{made_at_step}
use Rattle.hm_model.specs.Single.{IsBasedAt, IsLeft, IsOver, called_at}
use Rattle.hm_model.specs.Tree.{Node, node_of}
use Rattle.hm_model.specs.Undo.{stack}
use Rattle.hm_model.specs.Whereabouts.{moved_by}
use Rattle.hm_single.specs.Calls.{Moves}
use Rattle.hm_model.specs.Verbs.{verb_in}
use Rattle.hm_model.proofs.Trees.{Grown, IsWaiting}
use Rattle.hm_model.proofs.PlainActs.{is_caller}
use Rattle.hm_model.proofs.Small.{nil_cons}
use Rattle.hm_single.proofs.Stage.{Later, gone_later, StageFor, caller_region, child_of_step, stage_later, work_of}

-- it has a step that didn't end it
abbrev pub IsGoing : Option Answer → Type 0
IsGoing None = ⊥
IsGoing (Some (answer_is.More n)) = Unit {0}
IsGoing (Some (answer_is.Wait n)) = Unit {0}
IsGoing (Some (answer_is.Await n)) = Unit {0}
IsGoing (Some (answer_is.Done told)) = ⊥
IsGoing (Some (answer_is.Fail cause)) = ⊥
IsGoing (Some answer_is.Undone) = ⊥

pub going_some : (last : Option Answer) → IsGoing last → last ≢ None
going_some None h e = h
going_some (Some answer) h e = none-some answer (sym e)

-- who has a step and hasn't stopped goes on
pub goes_from : (last : Option Answer) → is_stopped last ≡ false → last ≢ None → IsGoing last
goes_from None runs some = absurd (some refl)
goes_from (Some (answer_is.More n)) runs some = tt
goes_from (Some (answer_is.Wait n)) runs some = tt
goes_from (Some (answer_is.Await n)) runs some = tt
goes_from (Some (answer_is.Done told)) runs some = absurd (true≢false runs)
goes_from (Some (answer_is.Fail cause)) runs some = absurd (true≢false runs)
goes_from (Some answer_is.Undone) runs some = absurd (true≢false runs)

-- why the last answer is a failure
abbrev pub fail_in : Option Answer → Option Cause
fail_in None = None
fail_in (Some answer) = failing answer

abbrev pub IsSoundLast : Option Answer → Type 0
IsSoundLast None = Unit {0}
IsSoundLast (Some answer) = Rattle.hm_model.proofs.StepDoes.IsStepAnswer answer

-- a root that is a transit
pub record IsMove (J : Past) (p : ℕ) : Type 0 where
  pub node : Node
  pub node_is : node_of J p ≡ Some node
  pub region : Region
  pub moved : moved_by node.args ≡ Some region
  pub top : node.above ≡ []

-- an opening of a region is over, or was the last call, or that is a close of it there
abbrev pub IsSettled : Past → Region → ℕ → Type 0
IsSettled J r p =
    IsOver J p r
    ⊎ ((last_call J r ≡ Some p)
    ⊎ ((q : ℕ) × (last_call J r ≡ Some q) × (verb_of J q ≡ Some (verb_is.CloseRegion r)) × (called_at J p < called_at J q) × (peer_of J q ≡ peer_of J p)))

-- a region that the base has open was left, no call of it was made since, or the last is a close of it there
abbrev pub IsBaseSettled : Past → Region → Server → Type 0
IsBaseSettled J r server =
    IsLeft J r server
    ⊎ ((last_call J r ≡ None)
    ⊎ ((q : ℕ) × (last_call J r ≡ Some q) × (verb_of J q ≡ Some (verb_is.CloseRegion r)) × (peer_of J q ≡ Some (peer_is.Server server))))

pub record Lasting (J : Past) : Type 0 where
  pub works : (p : ℕ) (r : Region) → Moves J p r → IsGoing (last_answer J p) → work_of J r ≡ Some p
  pub worker : (p : ℕ) (r : Region) → work_of J r ≡ Some p → Moves J p r × (last_answer J p ≢ None)
  pub calling : (q : ℕ) (node : Node) (r : Region) → node_of J q ≡ Some node → caller_region node.args ≡ Some r → is_stopped (last_answer J q) ≡ false → (p : ℕ) × (work_of J r ≡ Some p) × (child_of_step J p ≡ q) × IsWaiting (last_answer J p)
  pub only : (p : ℕ) (r : Region) → Moves J p r → (q : ℕ) (node : Node) → node_of J q ≡ Some node → (rest : List ℕ) → node.above ≡ p ∷ rest → made_at_step J p < q → q ≡ child_of_step J p
  pub stage : (r : Region) → StageFor J r (work_of J r)
  pub fresh : (p : ℕ) → node_of J p ≡ None → (cause J p ≡ None) × (stack J p ≡ [])
  pub caused : (p : ℕ) → IsMove J p → cause J p ≡ fail_in (last_answer J p)
  pub stacks : (p : ℕ) → IsMove J p → stack J p ≡ []
  pub sound : (p : ℕ) (r : Region) → Moves J p r → IsSoundLast (last_answer J p)
  pub called : (p : ℕ) (verb : Verb) → verb_of J p ≡ Some verb → called_at J p < length J
  pub settled : (r : Region) (p : ℕ) → verb_of J p ≡ Some (verb_is.AssignRegion r) → IsSettled J r p
  pub based : (r : Region) (server : Server) → IsBasedAt J r server → IsBaseSettled J r server

pub kept_nothing : Lasting []
kept_nothing = record {
  works = λ p r m going. absurd going;
  worker = λ p r is. absurd (none-some p is);
  calling = λ q node r is. absurd (none-some node is);
  only = λ p r m. absurd (none-some m.0 m.1);
  stage = λ r server is. absurd (none-some server (ap (λ (p : Place). p.server) is));
  fresh = λ p none. (refl, refl);
  caused = λ p m. refl;
  stacks = λ p m. refl;
  sound = λ p r m. tt;
  called = λ p verb is. absurd (none-some verb is);
  settled = λ r p is. absurd (none-some (verb_is.AssignRegion r) is);
  based = λ r server is. inr (inl refl);
}

-- who made a call has a peer
pub peer_there : (J : Past) → Grown J → (p : ℕ) (verb : Verb) → verb_of J p ≡ Some verb → (node : Node) × (node_of J p ≡ Some node) × (verb_in node.args ≡ Some verb) × (peer_of J p ≡ Some (peer_in node.args))
peer_there J grown p verb is = let v = grown.verbs p verb is in (v.0, v.1, v.2, ap (λ n. peer_if n (verb_of J p)) v.1 ∙ ap (peer_if (Some v.0)) is)

-- calls as they were, seen later
abbrev pub CallsLater : Past → Past → Type 0
CallsLater J J' = (p : ℕ) (verb : Verb) → verb_of J p ≡ Some verb → (verb_of J' p ≡ Some verb) × (called_at J' p ≡ called_at J p)

module _ (J J' : Past) (later : Later J J') (grown : Grown J) (stays : CallsLater J J') where
  pub same_peers : (p q : ℕ) (verb : Verb) → verb_of J p ≡ Some verb → peer_of J q ≡ peer_of J p → peer_of J' q ≡ peer_of J' p
  same_peers p q verb is same = let t = peer_there J grown p verb is in later.peers q (peer_in t.0.args) (same ∙ t.3) ∙ sym (later.peers p (peer_in t.0.args) t.3)

  pub over_later : (r : Region) (p : ℕ) → verb_of J p ≡ Some (verb_is.AssignRegion r) → IsOver J p r → IsOver J' p r
  over_later r p is (inl failed) = inl (later.reports p told_is.FailedOpen failed)
  over_later r p is (inr (inl closed)) =
      let q = stays closed.0 (verb_is.CloseRegion r) closed.1 in
      inr (inl (closed.0, q.0, rw ((stays p (verb_is.AssignRegion r) is).1, q.1) closed.2, same_peers p closed.0 (verb_is.AssignRegion r) is closed.3, later.reports closed.0 told_is.Closed closed.4))
  over_later r p is (inr (inr gone)) = inr (inr (gone_later J J' later p gone))

  pub settled_later : (r : Region) (p : ℕ) → last_call J' r ≡ last_call J r → verb_of J p ≡ Some (verb_is.AssignRegion r) → IsSettled J r p → IsSettled J' r p
  settled_later r p same is (inl over) = inl (over_later r p is over)
  settled_later r p same is (inr (inl last)) = inr (inl (same ∙ last))
  settled_later r p same is (inr (inr closed)) =
      let q = stays closed.0 (verb_is.CloseRegion r) closed.2 in
      inr (inr (closed.0, same ∙ closed.1, q.0, rw ((stays p (verb_is.AssignRegion r) is).1, q.1) closed.3, same_peers p closed.0 (verb_is.AssignRegion r) is closed.4))

module _ (J J' : Past) (later : Later J J') (verbs : (p : ℕ) (verb : Verb) → verb_of J p ≡ Some verb → verb_of J' p ≡ Some verb) where
  pub left_later : (r : Region) (server : Server) → IsLeft J r server → IsLeft J' r server
  left_later r server (inl closed) =
      inl (closed.0, verbs closed.0 (verb_is.CloseRegion r) closed.1, later.peers closed.0 (peer_is.Server server) closed.2, later.reports closed.0 told_is.Closed closed.3)
  left_later r server (inr fenced) = inr (later.fences server fenced)

  pub based_later : (r : Region) (server : Server) → last_call J' r ≡ last_call J r → IsBaseSettled J r server → IsBaseSettled J' r server
  based_later r server same (inl left) = inl (left_later r server left)
  based_later r server same (inr (inl none)) = inr (inl (same ∙ none))
  based_later r server same (inr (inr c)) = inr (inr (c.0, same ∙ c.1, verbs c.0 (verb_is.CloseRegion r) c.2, later.peers c.0 (peer_is.Server server) c.3))

-- an entry that makes no step
pub record IsCalm (J J' : Past) : Type 0 where
  pub nodes : (p : ℕ) (node : Node) → node_of J' p ≡ Some node → (node_of J p ≡ Some node) ⊎ ((node_of J p ≡ None) × (node.above ≡ []) × (is_caller node.args ≡ false))
  pub still : (p : ℕ) (node : Node) → node_of J p ≡ Some node → node_of J' p ≡ Some node
  pub gone : (p : ℕ) → node_of J' p ≡ None → node_of J p ≡ None
  pub last : (p : ℕ) → last_answer J' p ≡ last_answer J p
  pub verb : (p : ℕ) → verb_of J' p ≡ verb_of J p
  pub lasts : (r : Region) → last_call J' r ≡ last_call J r
  pub steps : (p : ℕ) → made_at_step J' p ≡ made_at_step J p
  pub places : (r : Region) → place_of J' r ≡ place_of J r
  pub works : (r : Region) → work_of J' r ≡ work_of J r
  pub causes : (p : ℕ) → cause J' p ≡ cause J p
  pub stacks : (p : ℕ) → stack J p ≡ [] → stack J' p ≡ []
  pub calls_at : (p : ℕ) → called_at J' p ≡ called_at J p
  pub longer : length J ≤ length J'
  pub later : Later J J'

module _ (J J' : Past) (calm : IsCalm J J') (grown : Grown J) (kept : Lasting J) where
  unstepped : (p : ℕ) → node_of J p ≡ None → last_answer J' p ≡ None
  unstepped p none = calm.last p ∙ grown.unmade p none

  moves_back : (p : ℕ) (r : Region) → Moves J' p r → last_answer J' p ≢ None → Moves J p r
  moves_back p r m some = elim (calm.nodes p m.0 m.1) [ inl was ↦ (m.0, was, m.2) | inr new ↦ absurd (some (unstepped p new.0)) ]

  parent_back : (p : ℕ) (r : Region) → Moves J' p r → (q : ℕ) (node : Node) → node_of J q ≡ Some node → (rest : List ℕ) → node.above ≡ p ∷ rest → Moves J p r
  parent_back p r m q node is rest above =
      let up = grown.ups q node is p rest above in
      let same : m.0 ≡ up.0 = same_Some m.0 up.0 (sym m.1 ∙ calm.still p up.0 up.1) in
      (m.0, up.1 ∙ ap Some (sym same), m.2)

  move_back : (p : ℕ) → IsMove J' p → (IsMove J p) ⊎ (node_of J p ≡ None)
  move_back p m = elim (calm.nodes p m.node m.node_is) [
    | inl was ↦ inl (record { node = m.node; node_is = was; region = m.region; moved = m.moved; top = m.top })
    | inr new ↦ inr new.0
  ]

  pub kept_calm : Lasting J'
  kept_calm = record {
    works = λ p r m going. calm.works r ∙ kept.works p r (moves_back p r m (going_some (last_answer J' p) going)) (subst IsGoing (calm.last p) going);
    worker = λ p r is. let w = kept.worker p r (sym (calm.works r) ∙ is) in ((w.0.0, calm.still p w.0.0 w.0.1, w.0.2), λ e. w.1 (sym (calm.last p) ∙ e));
    calling = λ q node r is on runs. elim (calm.nodes q node is) [
      | inl was ↦
          let c = kept.calling q node r was on (ap is_stopped (sym (calm.last q)) ∙ runs) in
          (c.0, calm.works r ∙ c.1, ap (λ n. n + 1) (calm.steps c.0) ∙ c.2, subst IsWaiting (sym (calm.last c.0)) c.3)
      | inr new ↦ absurd (true≢false (sym (Rattle.hm_single.proofs.Stage.region_caller node.args r on) ∙ new.2))
    ];
    only = λ p r m q node is rest above lt. elim (calm.nodes q node is) [
      | inl was ↦ kept.only p r (parent_back p r m q node was rest above) q node was rest above (subst (λ n. n < q) (calm.steps p) lt) ∙ ap (λ n. n + 1) (sym (calm.steps p))
      | inr new ↦ absurd (nil_cons p rest (sym new.1 ∙ above))
    ];
    stage = λ r. stage_later J J' calm.later r (calm.places r) (calm.lasts r) (calm.works r) (λ p w. (calm.last p, calm.steps p)) (λ q node is on. (calm.still q node is ∙ sym is, calm.last q)) (kept.stage r);
    fresh = λ p none. let f = kept.fresh p (calm.gone p none) in (calm.causes p ∙ f.0, calm.stacks p f.1);
    caused = λ p m. calm.causes p ∙ elim (move_back p m) [
      | inl was ↦ kept.caused p was ∙ ap fail_in (sym (calm.last p))
      | inr new ↦ (kept.fresh p new).0 ∙ ap fail_in (sym (unstepped p new))
    ];
    stacks = λ p m. calm.stacks p (elim (move_back p m) [ inl was ↦ kept.stacks p was | inr new ↦ (kept.fresh p new).1 ]);
    sound = λ p r m. elim (calm.nodes p m.0 m.1) [
      | inl was ↦ subst IsSoundLast (sym (calm.last p)) (kept.sound p r (m.0, was, m.2))
      | inr new ↦ subst IsSoundLast (sym (unstepped p new.0)) tt
    ];
    called = λ p verb is. let lt = kept.called p verb (sym (calm.verb p) ∙ is) in let e = calm.calls_at p in let le = calm.longer in omega (arith, lt, e, le);
    settled = λ r p is. let was = sym (calm.verb p) ∙ is in settled_later J J' calm.later grown (λ q v w. (calm.verb q ∙ w, calm.calls_at q)) r p (calm.lasts r) was (kept.settled r p was);
    based = λ r server is. based_later J J' calm.later (λ p verb v. calm.verb p ∙ v) r server (calm.lasts r) (kept.based r server (sym (calm.later.based r) ∙ is));
  }
