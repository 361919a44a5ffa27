-- What changes outside without a call being served anew, keeps what is kept.
use Rattle.std.proofs.Common.{◌≡◌, ◌≢◌, ℕ, List, [], ◌∷◌, ◌++◌, Bool, true, false, cond, Option, Some, None, refl, ap, sym, ◌∙◌, subst, inl, inr}
use Rattle.std.specs.Option.{option_map}
use Rattle.std.proofs.lemmas.Bool.{false≢true, true≢false}
use Rattle.std.proofs.lemmas.Option.{none-some, same_Some}
use Rattle.hm_names.specs.Region.{Region}
use Rattle.hm_names.specs.Server.{Server}
use Rattle.hm_names.specs.declared.pid.Pid.{Pid}
use Rattle.hm_data.specs.declared.call.Call.{Call}
use Rattle.hm_data.specs.declared.call.Peer.TheVariants as peer_is
use Rattle.hm_data.specs.declared.call.ReportMsg.{ReportMsg}
use Rattle.hm_data.specs.declared.call.Told.{Told}
use Rattle.hm_data.specs.declared.call.Told.TheVariants as told_is
use Rattle.hm_model.specs.Actors.{Actor, Served, begun, holds, holds_if}
use Rattle.hm_model.specs.Base.{HasNoHalfBase}
use Rattle.hm_model.specs.Storages.{Storage}
use Rattle.hm_model.specs.Fleet.{came_up, same_address, same_server}
use Rattle.hm_model.specs.Journal.{Past}
use Rattle.hm_model.specs.Locks.{IsIn}
use Rattle.hm_model.specs.Reports.{call_of, last_call, peer_of}
use Rattle.hm_model.specs.Rules.{FitsCall}
use Rattle.hm_model.specs.Single.{IsBasedAt}
use Rattle.hm_world_model.specs.Outside.{Outside, armed, died, refusing, set_actor, started, with_sent}
use Rattle.hm_world_model.specs.Safe.{CallsTo, HasServed, HeldBy, Made, Runs, Safe, ToldBy}
use Rattle.hm_world_model.proofs.Based.{based_came}
use Rattle.hm_world_model.proofs.Facts.{cases_server, in_pushed, who_runs}
use Rattle.hm_world_model.proofs.Known.{uncalled}
use Rattle.hm_data.specs.declared.call.Peer.{Peer}

-- a running server is one that ran and served the same, or one that nobody called and that served nothing
pub data From (J : Past) (o : Outside) (t : Server) (c : Actor) : Type 0 where
  was : (before : Actor) → o.actors t ≡ Some before → c.name ≡ before.name → ((q : Region) → c.last q ≡ before.last q) → From J o t c
  began : ((p : ℕ) (q : Region) → CallsTo J p q t → ⊥) → (HasNoHalfBase J → (q : Region) → IsBasedAt J q t → ⊥) → c.name ≡ t → ((q : Region) → c.last q ≡ None) → From J o t c

pub same_actors : (J : Past) (o : Outside) (t : Server) (c : Actor) → o.actors t ≡ Some c → From J o t c
same_actors J o t c h = was c h refl (λ q. refl)

module _ (J : Past) (o : Outside) (safe : Safe J o) (actors : Server → Option Actor) (storage : Storage) (sent : List Call) (reports : List ReportMsg)
    (from : (t : Server) (c : Actor) → actors t ≡ Some c → From J o t c) (more : (t : Server) → o.storage.fenced t ≡ true → storage.fenced t ≡ true) where
  abbrev pub other : Outside
  other = record { actors = actors; storage = storage; sent = sent; reports = reports }

  told_from : (p : ℕ) (told : Told) (q : Region) (t : Server) → CallsTo J p q t → ToldBy o p told q t → ToldBy other p told q t
  told_from p told q t calls h c run = elim (from t c run) [
    | was before is name last ↦ let k = h before is in (k.0, last q ∙ k.1, k.2)
    | began none base name nothing ↦ absurd (none p q calls)
  ]

  pub made_from : (p : ℕ) (told : Told) → Made J o p told → Made J other p told
  made_from p told h = record {
    verb = h.verb;
    called = h.called;
    fits = h.fits;
    told_by = λ q t calls. told_from p told q t calls (h.told_by q t calls);
    fenced = λ t e. more t (h.fenced t e);
  }

  named_from : (t : Server) (c : Actor) → actors t ≡ Some c → c.name ≡ t
  named_from t c run = elim (from t c run) [
    | was before is name last ↦ name ∙ safe.servers.named t before is
    | began none base name nothing ↦ name
  ]

  served_from : (t : Server) (c : Actor) (q : Region) (last : Served) → actors t ≡ Some c → c.last q ≡ Some last → CallsTo J last.id.0 q t × FitsCall J last.id.0 last.told
  served_from t c q last run is = elim (from t c run) [
    | was before ran name same ↦ safe.servers.served_is t before q last ran (sym (same q) ∙ is)
    | began none base name nothing ↦ absurd (none-some last (sym (nothing q) ∙ is))
  ]

  opened_from : (t : Server) (c : Actor) (q : Region) (last : Served) → actors t ≡ Some c → c.last q ≡ Some last → last.told ≡ told_is.Opened → last.holds ≡ true
  opened_from t c q last run is = elim (from t c run) [
    | was before ran name same ↦ safe.servers.opened_is t before q last ran (sym (same q) ∙ is)
    | began none base name nothing ↦ absurd (none-some last (sym (nothing q) ∙ is))
  ]

  done_from : (p : ℕ) (q : Region) (t : Server) (c : Actor) → CallsTo J p q t → Runs J other t c → last_call J q ≢ Some p → HasServed c q p
  done_from p q t c calls run other_last = elim (from t c run.0) [
    | was before is name last ↦ let k = safe.servers.done p q t before calls (is, run.1) other_last in (k.0, last q ∙ k.1, k.2)
    | began none base name nothing ↦ absurd (none p q calls)
  ]

  unbased_from : HasNoHalfBase J → (q : Region) (t : Server) (c : Actor) → actors t ≡ Some c → IsBasedAt J q t → ⊥
  unbased_from whole q t c run is = elim (from t c run) [
    | was before ran name last ↦ safe.servers.unbased whole q t before ran is
    | began none base name nothing ↦ base whole q is
  ]

  held_from : (q : Region) (t : Server) (c : Actor) → Runs J other t c → holds c q ≡ true → HeldBy J c q t
  held_from q t c run h = elim (from t c run.0) [
    | was before is name last ↦ let k = safe.servers.held q t before (is, run.1) (ap holds_if (sym (last q)) ∙ h) in (k.0, last q ∙ k.1, k.2, k.3)
    | began none base name nothing ↦ absurd (false≢true (sym (ap holds_if (nothing q)) ∙ h))
  ]

  pub safe_from : ((call : Call) → IsIn call sent → call_of J call.id.0 ≡ Some call)
      → ((report : ReportMsg) → IsIn report reports → Made J other report.call.0 report.told × (peer_of J report.call.0 ≡ Some report.from))
      → ((id : Pid) (told : Told) → storage.answer id ≡ Some told → Made J other id.0 told × (peer_of J id.0 ≡ Some peer_is.Storage)) → Safe J other
  safe_from sent_now made_now stored_now = record {
    legal = safe.legal;
    calls = record {
      sent_is = sent_now;
      made_is = made_now;
      recorded = λ p told h. made_from p told (safe.calls.recorded p told h);
      stored = stored_now;
    };
    servers = record {
      named = named_from;
      served_is = served_from;
      opened_is = opened_from;
      done = done_from;
      unbased = unbased_from;
      held = held_from;
    };
    fences_are = λ t h. more t (safe.fences_are t h);
  }

  pub made_old : (report : ReportMsg) → IsIn report o.reports → Made J other report.call.0 report.told × (peer_of J report.call.0 ≡ Some report.from)
  made_old report h = let k = safe.calls.made_is report h in (made_from report.call.0 report.told k.0, k.1)

  pub stored_old : (id : Pid) (told : Told) → o.storage.answer id ≡ Some told → Made J other id.0 told × (peer_of J id.0 ≡ Some peer_is.Storage)
  stored_old id told h = let k = safe.calls.stored id told h in (made_from id.0 told k.0, k.1)

-- only the servers change
module _ (J : Past) (o : Outside) (safe : Safe J o) (actors : Server → Option Actor) (from : (t : Server) (c : Actor) → actors t ≡ Some c → From J o t c) where
  pub safe_manned : Safe J (record o { actors = actors })
  safe_manned = safe_from J o safe actors o.storage o.sent o.reports from (λ t h. h) safe.calls.sent_is
      (made_old J o safe actors o.storage o.sent o.reports from (λ t h. h)) (stored_old J o safe actors o.storage o.sent o.reports from (λ t h. h))

pub safe_send : (J : Past) (o : Outside) (call : Call) → Safe J o → call_of J call.id.0 ≡ Some call → Safe J (with_sent o call)
safe_send J o call safe is =
    safe_from J o safe o.actors o.storage (o.sent ++ call ∷ []) o.reports (same_actors J o) (λ t h. h)
    (λ c h. elim (in_pushed c call o.sent h) [ inl e ↦ subst (λ (x : Call). call_of J x.id.0 ≡ Some x) (sym e) is | inr old ↦ safe.calls.sent_is c old ])
    (made_old J o safe o.actors o.storage (o.sent ++ call ∷ []) o.reports (same_actors J o) (λ t h. h))
    (stored_old J o safe o.actors o.storage (o.sent ++ call ∷ []) o.reports (same_actors J o) (λ t h. h))

-- one server runs no longer
pub from_died : (J : Past) (o : Outside) (s t : Server) (c : Actor) → set_actor o.actors s None t ≡ Some c → From J o t c
from_died J o s t c run = elim (who_runs o.actors s None t c run) [
  | inl here ↦ absurd (none-some c here.1)
  | inr other ↦ same_actors J o t c other.1
]

pub safe_die : (J : Past) (o : Outside) (s : Server) → Safe J o → Safe J (died o s)
safe_die J o s safe = safe_manned J o safe (set_actor o.actors s None) (from_died J o s)

-- how many are to be refused
from_armed : (J : Past) (o : Outside) (s : Server) (n : ℕ) (t : Server) (c : Actor) → set_actor o.actors s (option_map (refusing n) (o.actors s)) t ≡ Some c → From J o t c
from_armed J o s n t c run = elim (who_runs o.actors s (option_map (refusing n) (o.actors s)) t c run) [
  | inl here ↦ by (o.actors s) refl here.1
  | inr other ↦ same_actors J o t c other.1
]
  where
    by : (x : Option Actor) → o.actors s ≡ x → option_map (refusing n) x ≡ Some c → From J o t c
    by None is h = absurd (none-some c h)
    by (Some a) is h =
        let e = same_Some (refusing n a) c h in
        elim (who_runs o.actors s (option_map (refusing n) (o.actors s)) t c run) [
          | inl here ↦ was a (ap o.actors (sym here.0) ∙ is) (ap (λ (x : Actor). x.name) (sym e)) (λ q. ap (λ (x : Actor). x.last q) (sym e))
          | inr other ↦ same_actors J o t c other.1
        ]

pub safe_arm : (J : Past) (o : Outside) (peer : Peer) (n : ℕ) → Safe J o → Safe J (armed o peer n)
safe_arm J o (peer_is.Server s) n safe = safe_manned J o safe (set_actor o.actors s (option_map (refusing n) (o.actors s))) (from_armed J o s n)
safe_arm J o peer_is.Storage n safe =
    let storage = record o.storage { refusals = n } in
    safe_from J o safe o.actors storage o.sent o.reports (same_actors J o) (λ t h. h) safe.calls.sent_is
    (made_old J o safe o.actors storage o.sent o.reports (same_actors J o) (λ t h. h))
    (stored_old J o safe o.actors storage o.sent o.reports (same_actors J o) (λ t h. h))

-- a server that nobody called begins, in place of others of its host and port
from_started : (J : Past) (o : Outside) (s : Server) → ((p : ℕ) (q : Region) → CallsTo J p q s → ⊥) → (HasNoHalfBase J → (q : Region) → IsBasedAt J q s → ⊥) → (t : Server) (c : Actor)
    → cond (same_server s t) (Some (begun s)) (cond (same_address s t) None (o.actors t)) ≡ Some c → From J o t c
from_started J o s none base t c run = elim (cases_server s t) [
  | inl same ↦
      let e : begun s ≡ c = same_Some (begun s) c (ap (λ b. cond b (Some (begun s)) (cond (same_address s t) None (o.actors t))) (sym same.0) ∙ run) in
      began (subst (λ x. (p : ℕ) (q : Region) → CallsTo J p q x → ⊥) same.1 none) (subst (λ x. HasNoHalfBase J → (q : Region) → IsBasedAt J q x → ⊥) same.1 base) (ap (λ (x : Actor). x.name) (sym e) ∙ same.1) (λ q. ap (λ (x : Actor). x.last q) (sym e))
  | inr differs ↦ by (same_address s t) (ap (λ b. cond b (Some (begun s)) (cond (same_address s t) None (o.actors t))) (sym differs.0) ∙ run)
]
  where
    by : (b : Bool) → cond b None (o.actors t) ≡ Some c → From J o t c
    by true h = absurd (none-some c h)
    by false h = same_actors J o t c h

pub safe_start : (J : Past) (o : Outside) (s : Server) → Safe J o → came_up J s ≡ false → Safe J (started o s)
safe_start J o s safe new =
    safe_manned J o safe (λ t. cond (same_server s t) (Some (begun s)) (cond (same_address s t) None (o.actors t))) (from_started J o s (uncalled J safe.legal s new) (λ whole q is. true≢false (sym (based_came J safe.legal whole q s is) ∙ new)))
