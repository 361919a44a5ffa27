-- Open calls are the last of their regions, are answered, and their answers are heard.
use Rattle.std.proofs.Common.{◌≡◌, ◌≢◌, ℕ, ◌<◌, ◌≤◌, [], ◌∷◌, nat_lt, is_some, Bool, true, false, cond, Option, Some, None, refl, ap, sym, ◌∙◌, subst, inl, inr, arith}
use Rattle.std.specs.declared.cmp.Ordering.{Ordering}
use Rattle.std.specs.declared.cmp.Ordering.TheVariants.{Less, Equal, Greater}
use Rattle.std.proofs.lemmas.Bool.{cases_Bool, cases_eq, cond-false, false≢true, or_parts, true≢false}
use Rattle.std.proofs.lemmas.Cmp.{ranked}
use Rattle.std.proofs.lemmas.Option.{none-some, same_Some}
use Rattle.hm_names.specs.Region.{Region}
use Rattle.hm_names.specs.Server.{Server}
use Rattle.hm_names.specs.declared.pid.Pid.{Pid}
use Rattle.hm_data.specs.declared.answer.Answer.{Answer}
use Rattle.hm_data.specs.declared.answer.Answer.TheVariants as answer_is
use Rattle.hm_data.specs.declared.args.Args.{Args}
use Rattle.hm_data.specs.declared.args.Args.TheVariants as args_are
use Rattle.hm_data.specs.declared.call.Call.{Call}
use Rattle.hm_data.specs.declared.call.Peer.{Peer}
use Rattle.hm_data.specs.declared.call.Peer.TheVariants as peer_is
use Rattle.hm_data.specs.declared.call.ReportMsg.{ReportMsg}
use Rattle.hm_data.specs.declared.call.Told.{Told}
use Rattle.hm_data.specs.declared.call.Told.TheVariants as told_is
use Rattle.hm_data.specs.declared.call.Verb.{Verb}
use Rattle.hm_data.specs.declared.call.Verb.TheVariants as verb_is
use Rattle.hm_data.specs.declared.entry.Entry.TheVariants as entry_is
use Rattle.hm_model.specs.Actors.{Actor, Served, Service, age, closing, once_more, opening, reported, serve_by, serve_verb}
use Rattle.hm_model.specs.Storages.{Storage, fence_in, lay_in, refuse_in, store_by, store_verb, stored}
use Rattle.hm_model.specs.Answers.{is_stopped, last_answer, report_of}
use Rattle.hm_model.specs.Journal.{Past}
use Rattle.hm_model.specs.Phase.{ended, ended_node, root_ended}
use Rattle.hm_model.specs.Places.{place_of}
use Rattle.hm_model.specs.Reports.{fits_verb, is_reported, last_call, peer_in, peer_of, region_called, verb_of}
use Rattle.hm_model.specs.Rules.{IsLegal}
use Rattle.hm_model.specs.Tree.{Node, is_top, node_of}
use Rattle.hm_model.specs.Verbs.{verb_in}
use Rattle.hm_model.proofs.Calls.{calls_own}
use Rattle.hm_model.proofs.StepDoes.{CallerAt}
use Rattle.hm_model.proofs.Trees.{IsWaiting, grown_all, verb_was}
use Rattle.hm_model.proofs.Small.{none_told}
use Rattle.hm_single.specs.Calls.{Finds, IsLater}
use Rattle.hm_single.proofs.All.{calls_find, kept_all}
use Rattle.hm_single.proofs.Stage.{StageFor, called_region, child_of_step}
use Rattle.hm_single.proofs.Transit.{AtRow, Calls}
use Rattle.hm_world_model.specs.Outside.{Outside, answer_by, answer_of_actor, runs}
use Rattle.hm_world_model.specs.Progress.{EarlierHaveEnded, OpenIsAnswered, ReportsAreHeard}
use Rattle.hm_world_model.specs.Safe.{CallsTo, Safe}
use Rattle.hm_world_model.proofs.Facts.{Touch, closes, last_made, node_called, not_storage, opens, parts_of, region_peer, same, same_verb, touch}
use Rattle.hm_world_model.proofs.Known.{caller_below, peer_called, storage_no_server}
use Rattle.hm_world_model.proofs.Tails.{safe_past}

-- who has made a call and goes on awaits the answer
calls_last : (J : Past) (q : ℕ) (t : Server) (last : Option ℕ) (Before : Type 0) (verb : Verb) → verb_of J q ≡ Some verb → (o : Option Answer) → CallerAt verb (verb_of J q) o → is_stopped o ≡ false → Calls J q t last Before o → last ≡ Some q
calls_last J q t last Before verb called None at runs h = absurd (none-some verb (sym at ∙ called))
calls_last J q t last Before verb called (Some (answer_is.More n)) at runs h = absurd h
calls_last J q t last Before verb called (Some (answer_is.Wait n)) at runs h = absurd h
calls_last J q t last Before verb called (Some (answer_is.Await n)) at runs h = h.0
calls_last J q t last Before verb called (Some (answer_is.Done told)) at runs h = absurd (true≢false runs)
calls_last J q t last Before verb called (Some (answer_is.Fail cause)) at runs h = absurd h
calls_last J q t last Before verb called (Some answer_is.Undone) at runs h = absurd h

module _ (J : Past) (legal : IsLegal J) (p : ℕ) (r : Region) (verb : Verb) (called : verb_of J p ≡ Some verb) (about : region_called verb ≡ Some r) (goes : is_stopped (last_answer J p) ≡ false) where
  row_last : (w : ℕ) (o : Option Answer) (q : ℕ) → q ≡ p → IsWaiting o → AtRow J w r (place_of J r) (last_call J r) o q (node_of J q) (last_answer J q) → last_call J r ≡ Some p
  row_last w None q e waits h = absurd waits
  row_last w (Some (answer_is.More n)) q e waits h = absurd waits
  row_last w (Some (answer_is.Await n)) q e waits h = absurd waits
  row_last w (Some (answer_is.Done told)) q e waits h = absurd waits
  row_last w (Some (answer_is.Fail cause)) q e waits h = absurd waits
  row_last w (Some answer_is.Undone) q e waits h = absurd waits
  row_last w (Some (answer_is.Wait n)) q e waits h =
      let v = calls_own J legal p verb called in
      let here : verb_of J q ≡ Some verb = ap (verb_of J) e ∙ called in
      let at : CallerAt verb (verb_of J q) (last_answer J q) = (grown_all J legal).calls q v.0 (ap (node_of J) e ∙ v.1) verb v.2 in
      let goes_q : is_stopped (last_answer J q) ≡ false = ap (λ x. is_stopped (last_answer J x)) e ∙ goes in
      (elim h [
        | inl first ↦ calls_last J q first.1 (last_call J r) _ verb here (last_answer J q) at goes_q first.4
        | inr second ↦ calls_last J q second.1 (last_call J r) _ verb here (last_answer J q) at goes_q second.4
      ]) ∙ ap Some e

  -- whose last step didn't end it made the last call of its region
  open_last : last_call J r ≡ Some p
  open_last =
      let kept = kept_all J legal in
      let v = calls_own J legal p verb called in
      let c = kept.calling p v.0 r v.1 (sym (called_region v.0.args verb v.2) ∙ about) goes in
      row_last c.0 (last_answer J c.0) (child_of_step J c.0) c.2 c.3 (subst (StageFor J r) c.1 (kept.stage r))

-- ids rise
ids : (J : Past) → IsLegal J → (p : ℕ) (r : Region) (verb : Verb) → verb_of J p ≡ Some verb → region_called verb ≡ Some r → (q : ℕ) × (last_call J r ≡ Some q) × (p ≤ q)
ids [] legal p r verb called about = absurd (none-some verb called)
ids (entry_is.Step pid pick out ∷ J) legal p r verb called about = elim (verb_was pid pick out J p verb called) [
  | inl old ↦ later (ids J legal.0 p r verb old about) (touch pid.0 out.call r (last_call J r))
  | inr new ↦ (pid.0, last_made pid pick out J r verb new.1 about, equal new.0)
]
  where
    equal : p ≡ pid.0 → p ≤ pid.0
    equal e = omega (arith, e)

    found : (node : Node) × (node_of J pid.0 ≡ Some node) × Finds J pid.0 node out.call
    found = calls_find pid pick out J legal

    above : (q : ℕ) → last_call J r ≡ Some q → p ≤ q → IsLater pid.0 (last_call J r) → p ≤ pid.0
    above q e le lt = let less : q < pid.0 = subst (IsLater pid.0) e lt in omega (arith, le, less)

    later : (q : ℕ) × (last_call J r ≡ Some q) × (p ≤ q) → Touch pid.0 out.call r (last_call (entry_is.Step pid pick out ∷ J) r) (last_call J r) → (q : ℕ) × (last_call (entry_is.Step pid pick out ∷ J) r ≡ Some q) × (p ≤ q)
    later q (same k) = (q.0, k ∙ q.1, q.2)
    later q (opens v k) = (pid.0, k, above q.0 q.1 q.2 (subst (Finds J pid.0 found.0) v found.2).1)
    later q (closes v k) = (pid.0, k, above q.0 q.1 q.2 (subst (Finds J pid.0 found.0) v found.2).1)
ids (entry_is.Base part ∷ J) legal p r verb called about = absurd (none-some verb called)
ids (entry ∷ J) legal p r verb called about = ids J legal.0 p r verb called about

-- who calls a region server has a parent, and has ended where its last step ended it
module _ (J : Past) (legal : IsLegal J) (p : ℕ) (r : Region) (s : Server) (to : CallsTo J p r s) where
  pub ended_is : ended J p ≡ is_stopped (last_answer J p)
  ended_is =
      let v = node_called J legal p to.0 to.1 in
      let below = caller_below J legal p v.0 s v.1 (peer_called v.0.args s (same_Some (peer_in v.0.args) (peer_is.Server s) (sym v.3 ∙ to.3))) in
      ap (ended_node J p) v.1 ∙ cond-false (is_top v.0.above) (root_ended J p) (is_stopped (last_answer J p)) below

  ended_unless : (last : ℕ) → last_call J r ≡ Some last → p ≢ last → ended J p ≡ true
  ended_unless last is differs = elim (cases_Bool (is_stopped (last_answer J p))) [
    | inl stopped ↦ ended_is ∙ stopped
    | inr goes ↦ absurd (differs (same_Some p last (sym (open_last J legal p r to.0 to.1 to.2 goes) ∙ is)))
  ]

pub earlier_ended : EarlierHaveEnded
earlier_ended J legal p r s to = (let q = ids J legal p r to.0 to.1 to.2 in (q.0, q.1, q.2, λ differs. ended_unless J legal p r s to q.0 q.1 differs))

-- what a call is answered
abbrev Answers : Option ReportMsg → Pid → Type 0
Answers made id = (report : ReportMsg) × (made ≡ Some report) × (report.call ≡ id)

module _ (J : Past) (o : Outside) (safe : Safe J o) (id : Pid) (unended : ended J id.0 ≡ false) where
  -- what a server keeps of the region of an open call isn't later
  module _ (r : Region) (s : Server) (a : Actor) (run : o.actors s ≡ Some a) (to : CallsTo J id.0 r s) (service : Service) where
    not_later : (last : Served) → a.last r ≡ Some last → id.0 < last.id.0 → ⊥
    not_later last is lt =
        let theirs = (safe.servers.served_is s a r last run is).0 in
        let q = ids J safe.legal last.id.0 r theirs.0 theirs.1 theirs.2 in
        let le = q.2 in
        elim (cases_eq id.0 q.0) [
          | inl own ↦ omega (arith, lt, le, own)
          | inr differs ↦ true≢false (sym (ended_unless J safe.legal id.0 r s to q.0 q.1 differs) ∙ unended)
        ]

    by_age : (order : Ordering) (l : Option Served) → a.last r ≡ l → age l id ≡ order → Answers (serve_by order a id r service).1 id
    by_age Greater l is h = (reported a id service.told, refl, refl)
    by_age Less None is h = absurd (never h)
      where
        never : Greater ≡ Less → ⊥
        never e = cc
    by_age Less (Some last) is h = absurd (not_later last is (ranked id.0 last.id.0 Less (sym h)))
    by_age Equal None is h = absurd (never h)
      where
        never : Greater ≡ Equal → ⊥
        never e = cc
    by_age Equal (Some last) is h = (reported a id last.told, ap (once_more a id) is, refl)

  server_answers : (s : Server) (a : Actor) → o.actors s ≡ Some a → (verb : Verb) → verb_of J id.0 ≡ Some verb → peer_of J id.0 ≡ Some (peer_is.Server s) → (r : Region) → region_called verb ≡ Some r → Answers (serve_verb a id verb).1 id
  server_answers s a run (verb_is.AssignRegion q) called peer r about = by_age q s a run (verb_is.AssignRegion q, called, refl, peer) (opening a q) (age (a.last q) id) (a.last q) refl refl
  server_answers s a run (verb_is.CloseRegion q) called peer r about = by_age q s a run (verb_is.CloseRegion q, called, refl, peer) (closing a) (age (a.last q) id) (a.last q) refl refl
  server_answers s a run verb called peer r about = absurd (none-some r about)

-- the storage answers what isn't about a region
store_answers : (x : Option Told) (storage : Storage) (id : Pid) (told : Told) (behind : Storage) → Answers (store_by x storage id told behind).1 id
store_answers (Some before) storage id told behind = (stored id before, refl, refl)
store_answers None storage id told behind = (stored id told, refl, refl)

storage_answers : (storage : Storage) (id : Pid) (verb : Verb) → region_called verb ≡ None → Answers (store_verb storage id verb).1 id
storage_answers storage id (verb_is.AssignRegion q) none = absurd (none-some q (sym none))
storage_answers storage id (verb_is.CloseRegion q) none = absurd (none-some q (sym none))
storage_answers storage id (verb_is.Fence s) none = store_answers (storage.answer id) storage id told_is.Fenced (fence_in s storage)
storage_answers storage id (verb_is.Layout root) none = by (nat_lt 0 storage.refusals)
  where
    by : (b : Bool) → Answers (cond b (store_by (storage.answer id) storage id told_is.Refused (refuse_in storage)) (store_by (storage.answer id) storage id told_is.LaidOut (lay_in root true storage))).1 id
    by true = store_answers (storage.answer id) storage id told_is.Refused (refuse_in storage)
    by false = store_answers (storage.answer id) storage id told_is.LaidOut (lay_in root true storage)
storage_answers storage id (verb_is.Sweep root) none = store_answers (storage.answer id) storage id told_is.Swept (lay_in root false storage)

-- who calls a server calls about a region
server_region : (args : Args) (verb : Verb) (s : Server) → verb_in args ≡ Some verb → peer_in args ≡ peer_is.Server s → (r : Region) × (region_called verb ≡ Some r)
server_region (args_are.AssignCall region server) verb s v is = (region, ap region_called (sym (same_Some (verb_is.AssignRegion region) verb v)))
server_region (args_are.CloseCall region server) verb s v is = (region, ap region_called (sym (same_Some (verb_is.CloseRegion region) verb v)))
server_region args verb s v is = absurd (storage_no_server s is)

module _ (J : Past) (o : Outside) (safe : Safe J o) (call : Call) (called : verb_of J call.id.0 ≡ Some call.verb) (unended : ended J call.id.0 ≡ false) where
  by_actor : (s : Server) → peer_of J call.id.0 ≡ Some (peer_is.Server s) → (x : Option Actor) → o.actors s ≡ x → is_some x ≡ true → Answers (answer_of_actor x call) call.id
  by_actor s peer None run there = absurd (false≢true there)
  by_actor s peer (Some a) run there =
      let v = node_called J safe.legal call.id.0 call.verb called in
      let r = server_region v.0.args call.verb s v.2 (same_Some (peer_in v.0.args) (peer_is.Server s) (sym v.3 ∙ peer)) in
      server_answers J o safe call.id unended s a run call.verb called peer r.0 r.1

  no_region : peer_of J call.id.0 ≡ Some peer_is.Storage → (x : Option Region) → region_called call.verb ≡ x → x ≡ None
  no_region peer None is = refl
  no_region peer (Some r) is =
      let v = node_called J safe.legal call.id.0 call.verb called in
      let s = region_peer v.0.args call.verb r v.2 is in
      absurd (not_storage (peer_of J call.id.0) s.0 (v.3 ∙ ap Some s.1) peer)

  by_peer : (peer : Peer) → peer_of J call.id.0 ≡ Some peer → runs o peer ≡ true → Answers (answer_by o call peer) call.id
  by_peer (peer_is.Server s) is there = by_actor s is (o.actors s) refl there
  by_peer peer_is.Storage is there = storage_answers o.storage call.id call.verb (no_region is (region_called call.verb) refl)

pub open_answered : OpenIsAnswered
open_answered w kept call is_open there =
    let safe = safe_past w kept in
    let parts = parts_of w.past call is_open.0 in
    by_peer w.past w.outside safe call parts.1 (or_parts (is_reported w.past call.id.0) (ended w.past call.id.0) is_open.1).1 call.peer parts.0 there

pub reports_heard : ReportsAreHeard
reports_heard w kept report there unsettled =
    let safe = safe_past w kept in
    let made = safe.calls.made_is report there in
    let parts = or_parts (is_reported w.past report.call.0) (ended w.past report.call.0) unsettled in (
      ((λ none. none-some made.0.verb (sym none ∙ made.0.called)), none_told (report_of w.past report.call.0) parts.0, parts.1),
      (λ verb called. ap (λ v. fits_verb v report.told) (same_verb w.past report.call.0 verb made.0.verb called made.0.called) ∙ made.0.fits),
      made.1,
    )
