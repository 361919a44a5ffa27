-- The laws.
use Rattle.std.proofs.lemmas.Bool.{true≢false}
use Rattle.hm_model.specs.TransitActs.{is_placed}
use Rattle.hm_single.proofs.Transit.{IsRest}
use Rattle.std.proofs.Common.{if◌then◌else◌}
use Rattle.hm_data.specs.declared.place.Place.{Place}
use Rattle.hm_model.specs.Base.{MayStand, PartFits}
use Rattle.hm_data.specs.declared.part.Part.{Part}
use Rattle.hm_data.specs.declared.part.Part.TheVariants as part_is
use Rattle.hm_model.specs.Keys.{same_region}
use Rattle.hm_model.proofs.Grown.{ends_parted}
use Rattle.hm_model.proofs.Parted.{by_parts}
use Rattle.hm_data.specs.declared.catalog.Status.{Status}
use Rattle.hm_data.specs.declared.catalog.Status.TheVariants as status_is
use Rattle.hm_data.specs.declared.catalog.TableState.{TableState}
use Rattle.hm_data.specs.declared.catalog.TableState.TheVariants as state_is
use Rattle.std.proofs.Common.{◌≡◌, ◌≢◌, ℕ, ◌+◌, ◌-◌, ◌<◌, ◌≤◌, nat_lt, slice_get, option_map, [], ◌∷◌, length, Bool, true, false, ◌==◌, cond, Option, Some, None, refl, ap, sym, ◌∙◌, subst, inl, inr, ◌⊎◌, arith}
use Rattle.std.proofs.lemmas.Bool.{cases_eq, cond-false, cond-true, eq-eqb, false≢true, ne_eqb, or_right, lt-ltb}
use Rattle.std.proofs.lemmas.Option.{none-some, same_Some}
use Rattle.hm_names.specs.Region.{Region}
use Rattle.hm_names.specs.Server.{Server}
use Rattle.hm_names.specs.declared.nonce.Nonce.{Nonce}
use Rattle.hm_names.specs.declared.pid.Pid.{Pid}
use Rattle.hm_data.specs.declared.answer.Answer.{Answer}
use Rattle.hm_data.specs.declared.answer.Answer.TheVariants as answer_is
use Rattle.hm_data.specs.declared.args.Args.{Args}
use Rattle.hm_data.specs.declared.args.Args.TheVariants as args_are
use Rattle.hm_data.specs.declared.call.Told.{Told}
use Rattle.hm_data.specs.declared.call.Verb.{Verb}
use Rattle.hm_data.specs.declared.call.Verb.TheVariants as verb_is
use Rattle.hm_data.specs.declared.entry.Entry.TheVariants as entry_is
use Rattle.hm_data.specs.declared.place.RegionState.{RegionState}
use Rattle.hm_data.specs.declared.place.RegionState.TheVariants as place_is
use Rattle.hm_data.specs.declared.request.Request.{Request}
use Rattle.hm_data.specs.declared.step.StepOut.{StepOut}
use Rattle.hm_model.specs.Answers.{last_answer, report_of, row_after}
use Rattle.hm_model.specs.Fleet.{is_fenced}
use Rattle.hm_model.specs.Holding.{HoldsWith}
use Rattle.hm_model.specs.Journal.{Past}
use Rattle.hm_model.specs.Kinds.{first_row_of}
use Rattle.hm_model.specs.Rules.{IsLegal}
use Rattle.hm_model.specs.Phase.{cause}
use Rattle.hm_model.specs.Places.{place_of, part_place}
use Rattle.hm_model.specs.Reports.{last_call, peer_if, peer_of, verb_of}
use Rattle.hm_model.specs.Inputs.{made_at_step}
use Rattle.hm_model.specs.Single.{IsOver, based_place, called_at}
use Rattle.hm_model.specs.TransitActs.{is_state}
use Rattle.hm_model.specs.Tree.{Node, args_in, made, node_of, root_node, root_of}
use Rattle.hm_model.specs.Undo.{rest_of, stack}
use Rattle.hm_single.specs.Calls.{Finds, IsLater, IsOpenedBy, IsVoid, MayOpen, Moves, NextIs}
use Rattle.hm_single.specs.Theorem.{CallsFind, LastIsRecorded, OneTransit, OpeningsAreSingle, PlaceByRow}
use Rattle.hm_model.proofs.Free.{step_free}
use Rattle.hm_model.proofs.Trees.{Grown, IsRooted, call_mine, does_of, down_rooted, grown_all, le_or_lt, old_or_new, step_of, still, submit_rooted, undo_rooted}
use Rattle.hm_single.proofs.Keeps.{finds_close, finds_open, kept_step, void_over}
use Rattle.hm_single.proofs.Kept.{IsCalm, IsGoing, Lasting, kept_calm, kept_nothing}
use Rattle.hm_single.proofs.Kin.{goes_holds, holds_goes}
use Rattle.hm_model.proofs.PlainActs.{is_caller, quiet_args}
use Rattle.hm_single.proofs.Stage.{StageFor, child_of_step, work_of}
use Rattle.hm_single.proofs.Transit.{AtRest, AtRow, IsFreeRow, placed}
use Rattle.hm_model.proofs.UndoMakes.{undo_quiet}

-- what an entry that only makes roots leaves
peers_rooted : (J J' : Past) → IsRooted J J' → Grown J → (p : ℕ) (peer : Rattle.hm_data.specs.declared.call.Peer.Peer) → peer_of J p ≡ Some peer → peer_of J' p ≡ Some peer
peers_rooted J J' rooted grown p peer h = by (node_of J p) refl h
  where
    by : (n : Option Node) → node_of J p ≡ n → peer_if n (verb_of J p) ≡ Some peer → peer_of J' p ≡ Some peer
    by None e h = absurd (none-some peer h)
    by (Some node) e h = rw (still J J' rooted grown p node e, rooted.verb p) h

nodes_rooted : (J J' : Past) → IsRooted J J' → Grown J → ((p : ℕ) (node : Node) → made J < p → node_of J' p ≡ Some node → is_caller node.args ≡ false) → (p : ℕ) (node : Node) → node_of J' p ≡ Some node → (node_of J p ≡ Some node) ⊎ ((node_of J p ≡ None) × (node.above ≡ []) × (is_caller node.args ≡ false))
nodes_rooted J J' rooted grown quiet p node is = elim (old_or_new J J' rooted grown p node is) [
  | inl was ↦ inl was
  | inr new ↦ inr (grown.numbered p new.4, ap (λ (n : Node). n.above) new.2, quiet p node new.4 is)
]

gone_rooted : (J J' : Past) → IsRooted J J' → Grown J → (p : ℕ) → node_of J' p ≡ None → node_of J p ≡ None
gone_rooted J J' rooted grown p none = elim (le_or_lt p (made J)) [ inl le ↦ sym (rooted.old p le) ∙ none | inr lt ↦ grown.numbered p lt ]

-- the root that a submission or a server that went down makes calls no region server
one_root : (J : Past) (p : ℕ) (root node : Node) → is_caller root.args ≡ false → Grown J → made J < p → cond (p == made J + 1) (Some root) (node_of J p) ≡ Some node → is_caller node.args ≡ false
one_root J p root node quiet grown lt is = elim (cases_eq p (made J + 1)) [
  | inl same ↦ ap (λ (n : Node). is_caller n.args) (sym (same_Some root node (sym (cond-true (p == made J + 1) (Some root) (node_of J p) (eq-eqb p (made J + 1) same)) ∙ is))) ∙ quiet
  | inr differs ↦ absurd (none-some node (sym (grown.numbered p lt) ∙ sym (cond-false (p == made J + 1) (Some root) (node_of J p) (ne_eqb p (made J + 1) differs)) ∙ is))
]

submit_calm : (nonce : Nonce) (request : Request) (J : Past) → Grown J → IsCalm J (entry_is.Submit nonce request ∷ J)
submit_calm nonce request J grown =
    let rooted = submit_rooted nonce request J grown in
    record {
      nodes = nodes_rooted J (entry_is.Submit nonce request ∷ J) rooted grown (λ p node lt is. one_root J p _ node refl grown lt is);
      still = still J (entry_is.Submit nonce request ∷ J) rooted grown;
      gone = gone_rooted J (entry_is.Submit nonce request ∷ J) rooted grown;
      last = λ p. refl;
      verb = λ p. refl;
      lasts = λ r. refl;
      steps = λ p. refl;
      places = λ r. refl;
      works = λ r. refl;
      causes = λ p. refl;
      stacks = λ p h. h;
      calls_at = λ p. refl;
      longer = omega arith;
      later = record { based = λ r. refl; reports = λ p t h. h; fences = λ s h. h; peers = peers_rooted J (entry_is.Submit nonce request ∷ J) rooted grown };
    }

down_calm : (server : Server) (J : Past) → Grown J → IsCalm J (entry_is.Down server ∷ J)
down_calm server J grown =
    let rooted = down_rooted server J grown in
    record {
      nodes = nodes_rooted J (entry_is.Down server ∷ J) rooted grown (λ p node lt is. one_root J p _ node refl grown lt is);
      still = still J (entry_is.Down server ∷ J) rooted grown;
      gone = gone_rooted J (entry_is.Down server ∷ J) rooted grown;
      last = λ p. refl;
      verb = λ p. refl;
      lasts = λ r. refl;
      steps = λ p. refl;
      places = λ r. refl;
      works = λ r. refl;
      causes = λ p. refl;
      stacks = λ p h. h;
      calls_at = λ p. refl;
      longer = omega arith;
      later = record { based = λ r. refl; reports = λ p t h. h; fences = λ s h. h; peers = peers_rooted J (entry_is.Down server ∷ J) rooted grown };
    }

undo_roots : (pid : Pid) (row : ℕ) (out : StepOut) (J : Past) → Grown J → IsLegal (entry_is.Undo pid row out ∷ J) → (p : ℕ) (node : Node) → made J < p → node_of (entry_is.Undo pid row out ∷ J) p ≡ Some node → is_caller node.args ≡ false
undo_roots pid row out J grown legal p node lt is = by (slice_get (args_in out.followers) (p - made J - 1)) refl (sym (cond-true (nat_lt (made J) p) (option_map (λ args. root_node p args 1) (slice_get (args_in out.followers) (p - made J - 1))) (node_of J p) (lt-ltb (made J) p lt)) ∙ is)
  where
    by : (o : Option Args) → slice_get (args_in out.followers) (p - made J - 1) ≡ o → option_map (λ args. root_node p args 1) o ≡ Some node → is_caller node.args ≡ false
    by None e m = absurd (none-some node m)
    by (Some args) e m = ap (λ (n : Node). is_caller n.args) (sym (same_Some (root_node p args 1) node m)) ∙ quiet_args out.followers (undo_quiet pid row out J legal) (p - made J - 1) args e

undo_calm : (pid : Pid) (row : ℕ) (out : StepOut) (J : Past) → Grown J → IsLegal (entry_is.Undo pid row out ∷ J) → IsCalm J (entry_is.Undo pid row out ∷ J)
undo_calm pid row out J grown legal =
    let rooted = undo_rooted pid row out J grown in
    record {
      nodes = nodes_rooted J (entry_is.Undo pid row out ∷ J) rooted grown (undo_roots pid row out J grown legal);
      still = still J (entry_is.Undo pid row out ∷ J) rooted grown;
      gone = gone_rooted J (entry_is.Undo pid row out ∷ J) rooted grown;
      last = λ p. refl;
      verb = λ p. refl;
      lasts = λ r. refl;
      steps = λ p. refl;
      places = λ r. refl;
      works = λ r. refl;
      causes = λ p. refl;
      stacks = λ p h. by p (root_of J pid.0 == p) h;
      calls_at = λ p. refl;
      longer = omega arith;
      later = record { based = λ r. refl; reports = λ p t h. h; fences = λ s h. h; peers = peers_rooted J (entry_is.Undo pid row out ∷ J) rooted grown };
    }
  where
    by : (p : ℕ) (b : Bool) → stack J p ≡ [] → cond b (rest_of (stack J p)) (stack J p) ≡ []
    by p true h = ap rest_of h
    by p false h = h

-- an entry that makes nobody
same_calm : (J J' : Past) → (made J' ≡ made J) → ((p : ℕ) → node_of J' p ≡ node_of J p) → ((p : ℕ) → last_answer J' p ≡ last_answer J p) → ((p : ℕ) → verb_of J' p ≡ verb_of J p) → ((r : Region) → last_call J' r ≡ last_call J r) → ((p : ℕ) → made_at_step J' p ≡ made_at_step J p) → ((r : Region) → place_of J' r ≡ place_of J r) → ((r : Region) → work_of J' r ≡ work_of J r) → ((p : ℕ) → cause J' p ≡ cause J p) → ((p : ℕ) → stack J' p ≡ stack J p) → ((p : ℕ) → called_at J' p ≡ called_at J p) → length J ≤ length J'
    → ((p : ℕ) (told : Told) → report_of J p ≡ Some told → report_of J' p ≡ Some told) → ((server : Server) → is_fenced J server ≡ true → is_fenced J' server ≡ true) → ((r : Region) → based_place J' r ≡ based_place J r) → IsCalm J J'
same_calm J J' made_is node last verb lasts steps places works causes stacks calls_at longer reports fences based = record {
  nodes = λ p n is. inl (sym (node p) ∙ is);
  still = λ p n is. node p ∙ is;
  gone = λ p none. sym (node p) ∙ none;
  last = last;
  verb = verb;
  lasts = lasts;
  steps = steps;
  places = places;
  works = works;
  causes = causes;
  stacks = λ p h. stacks p ∙ h;
  calls_at = calls_at;
  longer = longer;
  later = record { based = based; reports = reports; fences = fences; peers = λ p peer h. rw (node p, verb p) h };
}

-- a place that a base may give
abbrev pub Rested : RegionState → Option Server → Type 0
Rested place_is.Opening server = ⊥
Rested place_is.Opened server = (at : Server) × (server ≡ Some at)
Rested place_is.Closing server = ⊥
Rested place_is.FailedOpen server = ⊥
Rested state server = Unit {0}

may_rest : (place : Place) (status : Status) (table : TableState) → MayStand place status table → Rested place.state place.server
may_rest place status table may = by place.state may
  where
    by : (state : RegionState) → ((is_placed (record place { state = state }) ≡ false) × (is_state place_is.FailedOpen (record place { state = state }) ≡ false) × (place.server ≡ None)) ⊎ ((is_state place_is.Opened (record place { state = state }) ≡ true) × (status ≡ status_is.Live) × (table ≡ state_is.Enabled) × (server : Server) × (place.server ≡ Some server)) → Rested state place.server
    by place_is.FailedOpen (inl off) = absurd (true≢false off.1)
    by place_is.FailedOpen (inr on) = absurd (false≢true on.0)
    by place_is.Opening (inl off) = absurd (true≢false off.0)
    by place_is.Opening (inr on) = absurd (false≢true on.0)
    by place_is.Closing (inl off) = absurd (true≢false off.0)
    by place_is.Closing (inr on) = absurd (false≢true on.0)
    by place_is.Opened (inl off) = absurd (true≢false off.0)
    by place_is.Opened (inr on) = (on.3, on.4)
    by state may = tt

part_rests : (part : Part) (J : Past) → PartFits part J → (r : Region) → Rested (place_of J r).state (place_of J r).server → Rested (part_place part r (place_of J r)).state (part_place part r (place_of J r)).server
part_rests (part_is.Region own range status parents given) J fits r was = by (same_region r own)
  where
    by : (b : Bool) → Rested (if b then given else place_of J r).state (if b then given else place_of J r).server
    by true = may_rest given status fits.4.0 fits.4.3
    by false = was
part_rests part J fits r was = was

pub base_rests : (J : Past) → IsLegal J → ends_parted J ≡ true → (r : Region) → Rested (place_of J r).state (place_of J r).server
base_rests [] legal is r = tt
base_rests (entry_is.Base part ∷ J) legal is r = part_rests part J legal.1.0 r (base_rests J legal.0 (by_parts (λ j. ends_parted j ≡ true) refl (λ own older. refl) part J legal.1.0) r)
base_rests (entry ∷ J) legal is r = absurd (false≢true is)

rests : (J : Past) (r : Region) (place : Place) → based_place J r ≡ place → Rested place.state place.server → IsRest J r None place
rests J r place based rested = by place.state place.server based rested
  where
    by : (state : RegionState) (server : Option Server) → based_place J r ≡ record { state = state; server = server } → Rested state server → AtRest J r None state server
    by place_is.Opening server e h = h
    by place_is.Opened server e h = (h.0, h.1, inr (refl, e ∙ ap (placed place_is.Opened) h.1))
    by place_is.Closing server e h = h
    by place_is.FailedOpen server e h = absurd h
    by state server e h = λ s is. absurd (false≢true (ap (is_state place_is.Opened) (sym e ∙ is)))

pub kept_all : (J : Past) → IsLegal J → Lasting J
kept_all [] legal = kept_nothing
kept_all (entry_is.Submit nonce request ∷ J) legal =
    let grown = grown_all J legal.0 in
    kept_calm J (entry_is.Submit nonce request ∷ J) (submit_calm nonce request J grown) grown (kept_all J legal.0)
kept_all (entry_is.Step pid pick out ∷ J) legal =
    let grown = grown_all J legal.0 in
    let step = step_of pid pick out J grown legal in
    kept_step pid pick out J grown (kept_all J legal.0) step (does_of pid pick out J grown step) (step_free pid pick out J legal)
kept_all (entry_is.Undo pid row out ∷ J) legal =
    let grown = grown_all J legal.0 in
    kept_calm J (entry_is.Undo pid row out ∷ J) (undo_calm pid row out J grown legal) grown (kept_all J legal.0)
kept_all (entry_is.Report call told ∷ J) legal =
    kept_calm J (entry_is.Report call told ∷ J) (same_calm J (entry_is.Report call told ∷ J) refl (λ p. refl) (λ p. refl) (λ p. refl) (λ r. refl) (λ p. refl) (λ r. refl) (λ r. refl) (λ p. refl) (λ p. refl) (λ p. refl) (omega arith) reports (λ s h. or_right _ (is_fenced J s) h) (λ r. refl)) (grown_all J legal.0) (kept_all J legal.0)
  where
    reports : (p : ℕ) (t : Told) → report_of J p ≡ Some t → report_of (entry_is.Report call told ∷ J) p ≡ Some t
    reports p t h = elim (cases_eq p call.0) [
      | inl same ↦ absurd (none-some t (sym legal.1.1.0.1 ∙ ap (report_of J) (sym same) ∙ h))
      | inr differs ↦ cond-false (p == call.0) (Some told) (report_of J p) (ne_eqb p call.0 differs) ∙ h
    ]
kept_all (entry_is.Down server ∷ J) legal =
    let grown = grown_all J legal.0 in
    kept_calm J (entry_is.Down server ∷ J) (down_calm server J grown) grown (kept_all J legal.0)
kept_all (entry_is.Base part ∷ J) legal = record {
  works = λ p r m going. absurd going;
  worker = λ p r is. absurd (none-some p is);
  calling = λ q node r is. absurd (none-some node is);
  only = λ p r m. absurd (none-some m.0 m.1);
  stage = λ r. rests (entry_is.Base part ∷ J) r (place_of (entry_is.Base part ∷ J) r) refl (base_rests (entry_is.Base part ∷ J) legal refl r);
  fresh = λ p none. (refl, refl);
  caused = λ p m. refl;
  stacks = λ p m. refl;
  sound = λ p r m. tt;
  called = λ p verb is. absurd (none-some verb is);
  settled = λ r p is. absurd (none-some (verb_is.AssignRegion r) is);
  based = λ r server is. inr (inl refl);
}
kept_all (entry ∷ J) legal =
    kept_calm J (entry ∷ J) (same_calm J (entry ∷ J) refl (λ p. refl) (λ p. refl) (λ p. refl) (λ r. refl) (λ p. refl) (λ r. refl) (λ r. refl) (λ p. refl) (λ p. refl) (λ p. refl) (omega arith) (λ p t h. h) (λ s h. h) (λ r. refl)) (grown_all J legal.0) (kept_all J legal.0)

pub last_is_recorded : LastIsRecorded
last_is_recorded J legal region p is = (grown_all J legal).last_is region p is

pub one_transit_is : OneTransit
one_transit_is J legal region p q moves_p holds_p moves_q holds_q =
    let grown = grown_all J legal in
    let kept = kept_all J legal in
    same_Some p q (sym (kept.works p region moves_p (holds_goes J grown kept p region moves_p holds_p)) ∙ kept.works q region moves_q (holds_goes J grown kept q region moves_q holds_q))

-- a place at rest is neither Opening nor Closing
rest_not_opening : (J : Past) (r : Region) (last : Option ℕ) (state : RegionState) (server : Option Server) → AtRest J r last state server → is_state place_is.Opening (record { state = state; server = server }) ≡ true → ⊥
rest_not_opening J r last place_is.Opening server rest h = rest
rest_not_opening J r last state server rest h = false≢true h

rest_not_closing : (J : Past) (r : Region) (last : Option ℕ) (state : RegionState) (server : Option Server) → AtRest J r last state server → is_state place_is.Closing (record { state = state; server = server }) ≡ true → ⊥
rest_not_closing J r last place_is.Closing server rest h = rest
rest_not_closing J r last state server rest h = false≢true h

module _ (J : Past) (legal : IsLegal J) (region : Region) where
  at_work : (p : ℕ) → Moves J p region → HoldsWith J [] p → AtRow J p region (place_of J region) (last_call J region) (last_answer J p) (child_of_step J p) (node_of J (child_of_step J p)) (last_answer J (child_of_step J p))
  at_work p moves holds =
      let kept = kept_all J legal in
      subst (StageFor J region) (kept.works p region moves (holds_goes J (grown_all J legal) kept p region moves holds)) (kept.stage region)

  -- the rows at which a region is being opened
  opens_at : (p : ℕ) (node : Node) (o : Option Answer) (row : ℕ) → HoldsWith J [] p → last_answer J p ≡ o → row_after (first_row_of node.args) o ≡ row → (row ≡ 1) ⊎ (row ≡ 2)
      → AtRow J p region (place_of J region) (last_call J region) o (child_of_step J p) (node_of J (child_of_step J p)) (last_answer J (child_of_step J p)) → is_state place_is.Opening (place_of J region) ≡ true
  opens_at p node None row holds l is which h = absurd (begun (elim holds.2 [ inl some ↦ some | inr never ↦ absurd never ]) l)
    where
      begun : last_answer J p ≢ None → last_answer J p ≡ None → ⊥
      begun some none = some none
  opens_at p node (Some (answer_is.More n)) row holds l is which (inl h) = absurd (free_row n h.0 row is which)
    where
      free_row : (n : ℕ) → IsFreeRow n → (row : ℕ) → n ≡ row → (row ≡ 1) ⊎ (row ≡ 2) → ⊥
      free_row n (inl a) row e (inl b) = omega (arith, a, e, b)
      free_row n (inl a) row e (inr b) = omega (arith, a, e, b)
      free_row n (inr (inl a)) row e (inl b) = omega (arith, a, e, b)
      free_row n (inr (inl a)) row e (inr b) = omega (arith, a, e, b)
      free_row n (inr (inr a)) row e (inl b) = omega (arith, a, e, b)
      free_row n (inr (inr a)) row e (inr b) = omega (arith, a, e, b)
  opens_at p node (Some (answer_is.More n)) row holds l is which (inr h) = ap (is_state place_is.Opening) h.2
  opens_at p node (Some (answer_is.Wait n)) row holds l is which (inl h) = ap (is_state place_is.Opening) h.2
  opens_at p node (Some (answer_is.Wait n)) row holds l is (inl one) (inr h) = (let four = h.0 in absurd (omega (arith, is, one, four)))
  opens_at p node (Some (answer_is.Wait n)) row holds l is (inr two) (inr h) = (let four = h.0 in absurd (omega (arith, is, two, four)))
  opens_at p node (Some (answer_is.Await n)) row holds l is which h = absurd h
  opens_at p node (Some (answer_is.Done told)) row holds l is (inl one) h = absurd (omega (arith, is, one))
  opens_at p node (Some (answer_is.Done told)) row holds l is (inr two) h = absurd (omega (arith, is, two))
  opens_at p node (Some (answer_is.Fail cause)) row holds l is (inl one) h = absurd (omega (arith, is, one))
  opens_at p node (Some (answer_is.Fail cause)) row holds l is (inr two) h = absurd (omega (arith, is, two))
  opens_at p node (Some answer_is.Undone) row holds l is which h = absurd h

  closes_at : (p : ℕ) (node : Node) (o : Option Answer) → HoldsWith J [] p → last_answer J p ≡ o → row_after (first_row_of node.args) o ≡ 4
      → AtRow J p region (place_of J region) (last_call J region) o (child_of_step J p) (node_of J (child_of_step J p)) (last_answer J (child_of_step J p)) → is_state place_is.Closing (place_of J region) ≡ true
  closes_at p node None holds l is h = absurd (begun (elim holds.2 [ inl some ↦ some | inr never ↦ absurd never ]) l)
    where
      begun : last_answer J p ≢ None → last_answer J p ≡ None → ⊥
      begun some none = some none
  closes_at p node (Some (answer_is.More n)) holds l is (inl h) = absurd (free_row h.0)
    where
      free_row : IsFreeRow n → ⊥
      free_row (inl a) = omega (arith, a, is)
      free_row (inr (inl a)) = omega (arith, a, is)
      free_row (inr (inr a)) = omega (arith, a, is)
  closes_at p node (Some (answer_is.More n)) holds l is (inr h) = (let one = h.0 in absurd (omega (arith, is, one)))
  closes_at p node (Some (answer_is.Wait n)) holds l is (inl h) = (let two = h.0 in absurd (omega (arith, is, two)))
  closes_at p node (Some (answer_is.Wait n)) holds l is (inr h) = ap (is_state place_is.Closing) h.2
  closes_at p node (Some (answer_is.Await n)) holds l is h = absurd h
  closes_at p node (Some (answer_is.Done told)) holds l is h = absurd (omega (arith, is))
  closes_at p node (Some (answer_is.Fail cause)) holds l is h = absurd (omega (arith, is))
  closes_at p node (Some answer_is.Undone) holds l is h = absurd h

  next_is : (p row : ℕ) (o : Option Answer) → Moves J p region → last_answer J p ≡ o → IsGoing o → ((node : Node) → row_after (first_row_of node.args) o ≡ row) → NextIs J region row
  next_is p row o moves l going at =
      let kept = kept_all J legal in
      (p, moves.0, moves.1, moves.2, goes_holds J (grown_all J legal) kept p region moves (subst IsGoing (sym l) going), ap (row_after (first_row_of moves.0.args)) l ∙ at moves.0)

  opening_row : is_state place_is.Opening (place_of J region) ≡ true → NextIs J region 1 ⊎ NextIs J region 2
  opening_row opening = by_work (work_of J region) refl ((kept_all J legal).stage region)
    where
      by_row : (p : ℕ) → Moves J p region → (o : Option Answer) → last_answer J p ≡ o → AtRow J p region (place_of J region) (last_call J region) o (child_of_step J p) (node_of J (child_of_step J p)) (last_answer J (child_of_step J p)) → NextIs J region 1 ⊎ NextIs J region 2
      by_row p moves None l h = absurd (rest_not_opening J region (last_call J region) (place_of J region).state (place_of J region).server h opening)
      by_row p moves (Some (answer_is.More n)) l (inl h) = absurd (rest_not_opening J region (last_call J region) (place_of J region).state (place_of J region).server h.1 opening)
      by_row p moves (Some (answer_is.More n)) l (inr h) = inl (next_is p 1 (Some (answer_is.More n)) moves l tt (λ node. h.0))
      by_row p moves (Some (answer_is.Wait n)) l (inl h) = inr (next_is p 2 (Some (answer_is.Wait n)) moves l tt (λ node. h.0))
      by_row p moves (Some (answer_is.Wait n)) l (inr h) = absurd (false≢true (ap (is_state place_is.Opening) (sym h.2) ∙ opening))
      by_row p moves (Some (answer_is.Await n)) l h = absurd h
      by_row p moves (Some (answer_is.Done told)) l h = absurd (rest_not_opening J region (last_call J region) (place_of J region).state (place_of J region).server h opening)
      by_row p moves (Some (answer_is.Fail cause)) l h = absurd (rest_not_opening J region (last_call J region) (place_of J region).state (place_of J region).server h opening)
      by_row p moves (Some answer_is.Undone) l h = absurd h

      by_work : (w : Option ℕ) → work_of J region ≡ w → StageFor J region w → NextIs J region 1 ⊎ NextIs J region 2
      by_work None e h = absurd (rest_not_opening J region (last_call J region) (place_of J region).state (place_of J region).server h opening)
      by_work (Some p) e h = by_row p ((kept_all J legal).worker p region e).0 (last_answer J p) refl h

  closing_row : is_state place_is.Closing (place_of J region) ≡ true → NextIs J region 4
  closing_row closing = by_work (work_of J region) refl ((kept_all J legal).stage region)
    where
      by_row : (p : ℕ) → Moves J p region → (o : Option Answer) → last_answer J p ≡ o → AtRow J p region (place_of J region) (last_call J region) o (child_of_step J p) (node_of J (child_of_step J p)) (last_answer J (child_of_step J p)) → NextIs J region 4
      by_row p moves None l h = absurd (rest_not_closing J region (last_call J region) (place_of J region).state (place_of J region).server h closing)
      by_row p moves (Some (answer_is.More n)) l (inl h) = absurd (rest_not_closing J region (last_call J region) (place_of J region).state (place_of J region).server h.1 closing)
      by_row p moves (Some (answer_is.More n)) l (inr h) = absurd (false≢true (ap (is_state place_is.Closing) (sym h.2) ∙ closing))
      by_row p moves (Some (answer_is.Wait n)) l (inl h) = absurd (false≢true (ap (is_state place_is.Closing) (sym h.2) ∙ closing))
      by_row p moves (Some (answer_is.Wait n)) l (inr h) = next_is p 4 (Some (answer_is.Wait n)) moves l tt (λ node. h.0)
      by_row p moves (Some (answer_is.Await n)) l h = absurd h
      by_row p moves (Some (answer_is.Done told)) l h = absurd (rest_not_closing J region (last_call J region) (place_of J region).state (place_of J region).server h closing)
      by_row p moves (Some (answer_is.Fail cause)) l h = absurd (rest_not_closing J region (last_call J region) (place_of J region).state (place_of J region).server h closing)
      by_row p moves (Some answer_is.Undone) l h = absurd h

      by_work : (w : Option ℕ) → work_of J region ≡ w → StageFor J region w → NextIs J region 4
      by_work None e h = absurd (rest_not_closing J region (last_call J region) (place_of J region).state (place_of J region).server h closing)
      by_work (Some p) e h = by_row p ((kept_all J legal).worker p region e).0 (last_answer J p) refl h

  opening_from : (row : ℕ) → (row ≡ 1) ⊎ (row ≡ 2) → NextIs J region row → is_state place_is.Opening (place_of J region) ≡ true
  opening_from row which n = opens_at n.0 n.1 (last_answer J n.0) row n.4 refl n.5 which (at_work n.0 (n.1, n.2, n.3) n.4)

pub place_by_row : PlaceByRow
place_by_row J legal region = (
  (λ opening. opening_row J legal region opening, λ n. elim n [ inl one ↦ opening_from J legal region 1 (inl refl) one | inr two ↦ opening_from J legal region 2 (inr refl) two ]),
  (λ closing. closing_row J legal region closing, λ n. closes_at J legal region n.0 n.1 (last_answer J n.0) n.4 refl n.5 (at_work J legal region n.0 (n.1, n.2, n.3) n.4)),
)

pub calls_find : CallsFind
calls_find pid pick out J legal =
    let grown = grown_all J legal.0 in
    let kept = kept_all J legal.0 in
    let step = step_of pid pick out J grown legal in
    let d = does_of pid pick out J grown step in
    (step.node, step.node_is, by step.node out.call refl (λ verb e. (call_mine pid pick out J grown step d verb e).3) (λ r e. finds_open pid pick out J grown kept step d (step_free pid pick out J legal) r e) (λ r e. finds_close pid pick out J grown kept step d (step_free pid pick out J legal) r e))
  where
    by : (node : Node) (o : Option Verb) → out.call ≡ o → ((verb : Verb) → out.call ≡ Some verb → verb_of J pid.0 ≡ None) → ((r : Region) → out.call ≡ Some (verb_is.AssignRegion r) → IsVoid J r (last_call J r) × IsLater pid.0 (last_call J r)) → ((r : Region) → out.call ≡ Some (verb_is.CloseRegion r) → (server : Server) × (node.args ≡ args_are.CloseCall r server) × IsOpenedBy J r (last_call J r) server × IsLater pid.0 (last_call J r)) → Finds J pid.0 node o
    by node None e silent opens closes = tt
    by node (Some (verb_is.AssignRegion r)) e silent opens closes = let f = opens r e in (silent _ e, f.1, f.0)
    by node (Some (verb_is.CloseRegion r)) e silent opens closes = let f = closes r e in (silent _ e, f.3, f.0, f.1, f.2)
    by node (Some (verb_is.Fence server)) e silent opens closes = silent _ e
    by node (Some (verb_is.Layout root)) e silent opens closes = silent _ e
    by node (Some (verb_is.Sweep root)) e silent opens closes = silent _ e

pub openings_single : OpeningsAreSingle
openings_single pid pick out J legal =
    let grown = grown_all J legal.0 in
    let kept = kept_all J legal.0 in
    let step = step_of pid pick out J grown legal in
    let d = does_of pid pick out J grown step in
    by out.call refl (λ r e p is. void_over pid pick out J grown kept step d (step_free pid pick out J legal) r p is (kept.settled r p is) (finds_open pid pick out J grown kept step d (step_free pid pick out J legal) r e).0)
  where
    by : (o : Option Verb) → out.call ≡ o → ((r : Region) → out.call ≡ Some (verb_is.AssignRegion r) → (p : ℕ) → verb_of J p ≡ Some (verb_is.AssignRegion r) → IsOver J p r) → MayOpen J o
    by None e each = tt
    by (Some (verb_is.AssignRegion r)) e each = each r e
    by (Some (verb_is.CloseRegion r)) e each = tt
    by (Some (verb_is.Fence server)) e each = tt
    by (Some (verb_is.Layout root)) e each = tt
    by (Some (verb_is.Sweep root)) e each = tt
