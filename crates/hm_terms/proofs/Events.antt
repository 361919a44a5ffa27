-- What is outside keeps who is called to its refusals, whatever comes.
use Rattle.std.proofs.Common.{◌≡◌, ◌≢◌, ◌+◌, ◌≤◌, ℕ, List, length, Bool, true, false, cond, Option, Some, None, refl, sym, ap, ◌∙◌, subst, inl, inr, ◌⊎◌, arith}
use Rattle.std.specs.Option.{option_map}
use Rattle.std.proofs.lemmas.Bool.{cond-false, cond-true}
use Rattle.std.proofs.lemmas.Option.{none-some, same_Some}
use Rattle.hm_names.specs.Server.{Server}
use Rattle.hm_data.specs.declared.call.Call.{Call}
use Rattle.hm_data.specs.declared.call.Peer.{Peer}
use Rattle.hm_data.specs.declared.call.Peer.TheVariants as peer_is
use Rattle.hm_data.specs.declared.call.ReportMsg.{ReportMsg}
use Rattle.hm_model.specs.Actors.{Actor, begun, serve}
use Rattle.hm_model.specs.Storages.{store}
use Rattle.hm_model.specs.Fleet.{same_address, same_server}
use Rattle.hm_model.specs.Journal.{Past}
use Rattle.hm_model.specs.Locks.{IsIn}
use Rattle.hm_model.proofs.NameTies.{same_server-refl}
use Rattle.hm_world_model.specs.Outside.{Outside, answer_of_actor, armed, behind_call, deliver_by, delivered, died, nobody, refusing, set_actor, started, with_report, with_sent}
use Rattle.hm_world_model.specs.World.{shown_storage}
use Rattle.hm_world_model.proofs.Facts.{cases_server, in_pushed, server_of_peer, set_here, set_other, who_runs}
use Rattle.hm_terms.specs.Refusals.{KeepsTo, RefusesAgain, is_called, left_if, refusals_left}
use Rattle.hm_terms.proofs.Serving.{ActorWithin, Among, ServesWithin, StoresWithin, serve_from, serve_name, serves, store_from, stores}

-- what is in a longer list of reports
pub in_reports : (reports : List ReportMsg) (made : Option ReportMsg) (report : ReportMsg) → IsIn report (with_report reports made) → (made ≡ Some report) ⊎ IsIn report reports
in_reports reports None report h = inr h
in_reports reports (Some last) report h = elim (in_pushed report last reports h) [ inl same ↦ inl (ap Some (sym same)) | inr there ↦ inr there ]

-- more is granted
pub keeps_more : (peer : Peer) (n more : ℕ) (calls : List ℕ) (o : Outside) → KeepsTo peer n calls o → KeepsTo peer (n + more) calls o
keeps_more peer n more calls o k = record { named = k.named; made = k.made; again = k.again; few = let few = k.few in omega (arith, few) }

-- a server that ran runs on, runs no longer, or is one that just began; nothing else changed
module _ (peer : Peer) (n : ℕ) (calls : List ℕ) (o : Outside) (k : KeepsTo peer n calls o) (actors : Server → Option Actor)
    (who : (server : Server) (actor : Actor) → actors server ≡ Some actor → (o.actors server ≡ Some actor) ⊎ (actor ≡ begun server)) where
  abbrev pub now : Outside
  now = record o { actors = actors }

  named_now : (server : Server) (actor : Actor) → actors server ≡ Some actor → actor.name ≡ server
  named_now server actor run = elim (who server actor run) [ inl old ↦ k.named server actor old | inr new ↦ ap (λ (a : Actor). a.name) new ]

  again_now : (peer : Peer) → KeepsTo peer n calls o → (p : ℕ) → RefusesAgain now peer p → IsIn p calls
  again_now (peer_is.Server server) k p (actor, region, last, run, kept, refused, same) = elim (who server actor run) [
    | inl old ↦ k.again p (actor, region, last, old, kept, refused, same)
    | inr new ↦ absurd (none-some last (subst (λ (a : Actor). a.last region ≡ Some last) new kept))
  ]
  again_now peer_is.Storage k p r = k.again p r

  left_now : (server : Server) → left_if (actors server) ≤ left_if (o.actors server)
  left_now server = by (actors server) refl
    where
      by : (there : Option Actor) → actors server ≡ there → left_if there ≤ left_if (o.actors server)
      by None e = omega arith
      by (Some actor) e = elim (who server actor e) [
        | inl old ↦ let same : left_if (o.actors server) ≡ actor.refusals = ap left_if old in omega (arith, same)
        | inr new ↦ let none : actor.refusals ≡ 0 = ap (λ (a : Actor). a.refusals) new in omega (arith, none)
      ]

  few_now : (peer : Peer) → KeepsTo peer n calls o → length calls + refusals_left now peer ≤ n
  few_now (peer_is.Server server) k = let few = k.few in let less = left_now server in omega (arith, few, less)
  few_now peer_is.Storage k = k.few

  pub keeps_now : KeepsTo peer n calls now
  keeps_now = record { named = named_now; made = k.made; again = again_now peer k; few = few_now peer k }

-- nobody runs, and nothing was made, where a journal was just opened
pub keeps_new : (peer : Peer) (calls : List ℕ) (past : Past) → KeepsTo peer (length calls) calls (nobody (shown_storage past))
keeps_new peer calls past = record {
  named = λ server actor run. absurd (none-some actor run);
  made = λ report never refused. absurd never;
  again = again_new peer;
  few = few_new peer;
}
  where
    again_new : (peer : Peer) (p : ℕ) → RefusesAgain (nobody (shown_storage past)) peer p → IsIn p calls
    again_new (peer_is.Server server) p (actor, region, last, run, kept, refused, same) = absurd (none-some actor run)
    again_new peer_is.Storage p (id, told, kept, refused, same) = absurd (none-some told kept)

    few_new : (peer : Peer) → length calls + refusals_left (nobody (shown_storage past)) peer ≤ length calls
    few_new (peer_is.Server server) = omega arith
    few_new peer_is.Storage = omega arith

module _ (peer : Peer) (n : ℕ) (calls : List ℕ) (o : Outside) (k : KeepsTo peer n calls o) where
  pub keeps_sent : (call : Call) → KeepsTo peer n calls (with_sent o call)
  keeps_sent call = record { named = k.named; made = k.made; again = again peer k; few = few peer k }
    where
      again : (peer : Peer) → KeepsTo peer n calls o → (p : ℕ) → RefusesAgain (with_sent o call) peer p → IsIn p calls
      again (peer_is.Server server) k = k.again
      again peer_is.Storage k = k.again

      few : (peer : Peer) → KeepsTo peer n calls o → length calls + refusals_left (with_sent o call) peer ≤ n
      few (peer_is.Server server) k = k.few
      few peer_is.Storage k = k.few

  pub keeps_died : (server : Server) → KeepsTo peer n calls (died o server)
  keeps_died server = keeps_now peer n calls o k (set_actor o.actors server None) (λ other actor run. elim (who_runs o.actors server None other actor run) [
    | inl here ↦ absurd (none-some actor here.1)
    | inr there ↦ inl there.1
  ])

  pub keeps_started : (server : Server) → KeepsTo peer n calls (started o server)
  keeps_started server = keeps_now peer n calls o k (λ other. cond (same_server server other) (Some (begun server)) (cond (same_address server other) None (o.actors other))) who
    where
      late : (b : Bool) (other : Server) (actor : Actor) → cond b None (o.actors other) ≡ Some actor → o.actors other ≡ Some actor
      late true other actor run = absurd (none-some actor run)
      late false other actor run = run

      who : (other : Server) (actor : Actor) → cond (same_server server other) (Some (begun server)) (cond (same_address server other) None (o.actors other)) ≡ Some actor → (o.actors other ≡ Some actor) ⊎ (actor ≡ begun other)
      who other actor run = elim (cases_server server other) [
        | inl same ↦ inr (sym (same_Some (begun server) actor (sym (cond-true (same_server server other) (Some (begun server)) (cond (same_address server other) None (o.actors other)) same.0) ∙ run)) ∙ ap begun same.1)
        | inr differs ↦ inl (late (same_address server other) other actor (sym (cond-false (same_server server other) (Some (begun server)) (cond (same_address server other) None (o.actors other)) differs.0) ∙ run))
      ]

-- somebody is to refuse so often from now on
module _ (n count : ℕ) (calls : List ℕ) (o : Outside) where
  -- the server runs as it did, but for that
  armed_runs : (one : Option Actor) (actor : Actor) → option_map (refusing count) one ≡ Some actor
      → (old : Actor) × (one ≡ Some old) × (actor.name ≡ old.name) × (actor.last ≡ old.last) × (actor.refusals ≡ count)
  armed_runs None actor run = absurd (none-some actor run)
  armed_runs (Some old) actor run =
      let same : refusing count old ≡ actor = same_Some (refusing count old) actor run in
      (old, refl, ap (λ (a : Actor). a.name) (sym same), ap (λ (a : Actor). a.last) (sym same), ap (λ (a : Actor). a.refusals) (sym same))

  armed_left : (one : Option Actor) → left_if (option_map (refusing count) one) ≤ count
  armed_left None = omega arith
  armed_left (Some old) = omega arith

  -- a server that runs is as it was, but for the refusals of this one
  armed_who : (server other : Server) (actor : Actor) → set_actor o.actors server (option_map (refusing count) (o.actors server)) other ≡ Some actor
      → (old : Actor) × (o.actors other ≡ Some old) × (actor.name ≡ old.name) × (actor.last ≡ old.last)
  armed_who server other actor run = elim (who_runs o.actors server (option_map (refusing count) (o.actors server)) other actor run) [
    | inr there ↦ (actor, there.1, refl, refl)
    | inl here ↦ let a = armed_runs (o.actors server) actor here.1 in (a.0, subst (λ (s : Server). o.actors s ≡ Some a.0) here.0 a.1, a.2, a.3)
  ]

  module _ (peer : Peer) (k : KeepsTo peer n calls o) where
    armed_named : (server other : Server) (actor : Actor) → set_actor o.actors server (option_map (refusing count) (o.actors server)) other ≡ Some actor → actor.name ≡ other
    armed_named server other actor run = let w = armed_who server other actor run in w.2 ∙ k.named other w.0 w.1

  armed_again : (server : Server) (peer : Peer) → KeepsTo peer n calls o → (p : ℕ) → RefusesAgain (armed o (peer_is.Server server) count) peer p → IsIn p calls
  armed_again server (peer_is.Server other) k p (actor, region, last, run, kept, refused, same) =
      let w = armed_who server other actor run in
      k.again p (w.0, region, last, w.1, sym (ap (λ f. f region) w.3) ∙ kept, refused, same)
  armed_again server peer_is.Storage k p r = k.again p r

  armed_few : (server : Server) (peer : Peer) → KeepsTo peer n calls o
      → length calls + refusals_left (armed o (peer_is.Server server) count) peer ≤ n + cond (is_called peer (Some (peer_is.Server server))) count 0
  armed_few server (peer_is.Server other) k = elim (cases_server server other) [
    | inl same ↦
        let few = k.few in
        let here : cond (same_server other server) count 0 ≡ count = cond-true (same_server other server) count 0 (subst (λ (s : Server). same_server other s ≡ true) (sym same.1) (same_server-refl other)) in
        let is : left_if (set_actor o.actors server (option_map (refusing count) (o.actors server)) other) ≡ left_if (option_map (refusing count) (o.actors server)) =
        ap left_if (cond-true (same_server server other) (option_map (refusing count) (o.actors server)) (o.actors other) same.0) in
        let most = armed_left (o.actors server) in
        omega (arith, few, here, is, most)
    | inr differs ↦
        let few = k.few in
        let is : left_if (set_actor o.actors server (option_map (refusing count) (o.actors server)) other) ≡ left_if (o.actors other) =
        ap left_if (set_other o.actors server other (option_map (refusing count) (o.actors server)) differs.0) in
        omega (arith, few, is)
  ]
  armed_few server peer_is.Storage k = let few = k.few in omega (arith, few)

  pub keeps_armed : (server : Server) (peer : Peer) → KeepsTo peer n calls o → KeepsTo peer (n + cond (is_called peer (Some (peer_is.Server server))) count 0) calls (armed o (peer_is.Server server) count)
  keeps_armed server peer k = record { named = armed_named peer k server; made = k.made; again = armed_again server peer k; few = armed_few server peer k }

  stored_again : (peer : Peer) → KeepsTo peer n calls o → (p : ℕ) → RefusesAgain (armed o peer_is.Storage count) peer p → IsIn p calls
  stored_again (peer_is.Server server) k p r = k.again p r
  stored_again peer_is.Storage k p r = k.again p r

  stored_few : (peer : Peer) → KeepsTo peer n calls o → length calls + refusals_left (armed o peer_is.Storage count) peer ≤ n + cond (is_called peer (Some peer_is.Storage)) count 0
  stored_few (peer_is.Server server) k = let few = k.few in omega (arith, few)
  stored_few peer_is.Storage k = let few = k.few in omega (arith, few)

  pub keeps_armed_storage : (peer : Peer) → KeepsTo peer n calls o → KeepsTo peer (n + cond (is_called peer (Some peer_is.Storage)) count 0) calls (armed o peer_is.Storage count)
  keeps_armed_storage peer k = record { named = k.named; made = k.made; again = stored_again peer k; few = stored_few peer k }

-- more calls are refused now, and as many refusals less are left
pub record KeepsOn (peer : Peer) (n : ℕ) (calls : List ℕ) (o : Outside) : Type 0 where
  pub more : List ℕ
  pub among : Among calls more
  pub keeps : KeepsTo peer n more o

-- a server that runs serves a call
module _ (n : ℕ) (calls : List ℕ) (o : Outside) (server : Server) (actor : Actor) (run : o.actors server ≡ Some actor) (call : Call) where
  abbrev pub served : Outside
  served = record o { actors = set_actor o.actors server (Some (serve actor call).0); reports = with_report o.reports (serve actor call).1 }

  served_named : ((s : Server) (a : Actor) → o.actors s ≡ Some a → a.name ≡ s) → (s : Server) (a : Actor) → served.actors s ≡ Some a → a.name ≡ s
  served_named named s a r = elim (who_runs o.actors server (Some (serve actor call).0) s a r) [
    | inl here ↦ ap (λ (x : Actor). x.name) (sym (same_Some (serve actor call).0 a here.1)) ∙ serve_name actor call ∙ named server actor run ∙ here.0
    | inr there ↦ named s a there.1
  ]

  -- its refusals are looked at
  module _ (k : KeepsTo (peer_is.Server server) n calls o) where
    within : ActorWithin actor calls
    within region last kept refused = k.again last.id.0 (actor, region, last, run, kept, refused, refl)

    abbrev it : ServesWithin actor (serve actor call).0 (serve actor call).1 calls
    it = serves actor calls within call

    served_again : (p : ℕ) → RefusesAgain served (peer_is.Server server) p → IsIn p it.more
    served_again p (a, region, last, r, kept, refused, same) =
        let is : (serve actor call).0 ≡ a = same_Some (serve actor call).0 a (sym (set_here o.actors server (Some (serve actor call).0)) ∙ r) in
        subst (λ q. IsIn q it.more) (sym same) (it.within region last (subst (λ (x : Actor). x.last region ≡ Some last) (sym is) kept) refused)

    served_few : length it.more + left_if (served.actors server) ≤ n
    served_few =
        let few = k.few in
        let was : left_if (o.actors server) ≡ actor.refusals = ap left_if run in
        let is : left_if (served.actors server) ≡ (serve actor call).0.refusals = ap left_if (set_here o.actors server (Some (serve actor call).0)) in
        let fewer = it.fewer in
        omega (arith, few, was, is, fewer)

    keeps_own : KeepsOn (peer_is.Server server) n calls served
    keeps_own = record {
      more = it.more;
      among = it.among;
      keeps = record {
        named = served_named k.named;
        made = λ report h refusal. elim (in_reports o.reports (serve actor call).1 report h) [
          | inl new ↦ it.reports report new refusal.1
          | inr old ↦ it.among report.call.0 (k.made report old refusal)
        ];
        again = served_again;
        few = served_few;
      };
    }

  -- another one's are
  other_again : (peer : Peer) → peer_is.Server server ≢ peer → KeepsTo peer n calls o → (p : ℕ) → RefusesAgain served peer p → IsIn p calls
  other_again (peer_is.Server s) other k p (a, region, last, r, kept, refused, same) = elim (who_runs o.actors server (Some (serve actor call).0) s a r) [
    | inl here ↦ absurd (other (ap peer_is.Server here.0))
    | inr there ↦ k.again p (a, region, last, there.1, kept, refused, same)
  ]
  other_again peer_is.Storage other k p r = k.again p r

  other_few : (peer : Peer) → peer_is.Server server ≢ peer → KeepsTo peer n calls o → length calls + refusals_left served peer ≤ n
  other_few (peer_is.Server s) other k = elim (cases_server server s) [
    | inl same ↦ absurd (other (ap peer_is.Server same.1))
    | inr differs ↦
        let few = k.few in
        let is : left_if (served.actors s) ≡ left_if (o.actors s) = ap left_if (set_other o.actors server s (Some (serve actor call).0) differs.0) in
        omega (arith, few, is)
  ]
  other_few peer_is.Storage other k = k.few

  keeps_other : (peer : Peer) → peer_is.Server server ≢ peer → KeepsTo peer n calls o → KeepsOn peer n calls served
  keeps_other peer other k = record {
    more = calls;
    among = λ p h. h;
    keeps = record {
      named = served_named k.named;
      made = λ report h refusal. elim (in_reports o.reports (serve actor call).1 report h) [
        | inl new ↦ absurd (other (sym (serve_from actor call report new ∙ ap peer_is.Server (k.named server actor run)) ∙ refusal.0))
        | inr old ↦ k.made report old refusal
      ];
      again = other_again peer other k;
      few = other_few peer other k;
    };
  }

  keeps_served : (peer : Peer) → KeepsTo peer n calls o → KeepsOn peer n calls served
  keeps_served (peer_is.Server s) k = elim (cases_server server s) [
    | inl same ↦ subst (λ (x : Server). KeepsOn (peer_is.Server x) n calls served) same.1 (keeps_own (subst (λ (x : Server). KeepsTo (peer_is.Server x) n calls o) (sym same.1) k))
    | inr differs ↦ keeps_other (peer_is.Server s) (λ e. differs.1 (server_of_peer server s e)) k
  ]
  keeps_served peer_is.Storage k = keeps_other peer_is.Storage (λ e. cc) k

-- the storage serves a call
module _ (n : ℕ) (calls : List ℕ) (o : Outside) (call : Call) where
  abbrev pub filed : Outside
  filed = record o { storage = (store o.storage call).0; reports = with_report o.reports (store o.storage call).1 }

  keeps_filed : (peer : Peer) → KeepsTo peer n calls o → KeepsOn peer n calls filed
  keeps_filed (peer_is.Server s) k = record {
    more = calls;
    among = λ p h. h;
    keeps = record {
      named = k.named;
      made = λ report h refusal. elim (in_reports o.reports (store o.storage call).1 report h) [
        | inl new ↦ absurd (not_server s (sym (store_from o.storage call report new) ∙ refusal.0))
        | inr old ↦ k.made report old refusal
      ];
      again = k.again;
      few = k.few;
    };
  }
    where
      not_server : (s : Server) → peer_is.Storage ≡ peer_is.Server s → ⊥
      not_server s e = cc
  keeps_filed peer_is.Storage k =
      let it : StoresWithin o.storage (store o.storage call).0 (store o.storage call).1 calls = stores o.storage calls (λ id told kept refused. k.again id.0 (id, told, kept, refused, refl)) call in
      let few = k.few in
      let fewer = it.fewer in
      record {
        more = it.more;
        among = it.among;
        keeps = record {
          named = k.named;
          made = λ report h refusal. elim (in_reports o.reports (store o.storage call).1 report h) [
            | inl new ↦ it.reports report new refusal.1
            | inr old ↦ it.among report.call.0 (k.made report old refusal)
          ];
          again = λ p r. subst (λ q. IsIn q it.more) (sym r.4) (it.within r.0 r.1 r.2 r.3);
          few = omega (arith, few, fewer);
        };
      }

-- a call is delivered to whom it is for
pub keeps_delivered : (n : ℕ) (calls : List ℕ) (o : Outside) (call : Call) (peer : Peer) → KeepsTo peer n calls o → KeepsOn peer n calls (delivered o call)
keeps_delivered n calls o call peer k = by call.peer
  where
    by_server : (server : Server) (there : Option Actor) → o.actors server ≡ there
        → KeepsOn peer n calls (record o { actors = set_actor o.actors server (behind_call there call); reports = with_report o.reports (answer_of_actor there call) })
    by_server server None e = record { more = calls; among = λ p h. h; keeps = keeps_died peer n calls o k server }
    by_server server (Some actor) e = keeps_served n calls o server actor e call peer k

    by : (to : Peer) → KeepsOn peer n calls (deliver_by o call to)
    by (peer_is.Server server) = by_server server (o.actors server) refl
    by peer_is.Storage = keeps_filed n calls o call peer k
