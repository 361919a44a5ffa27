-- The storage's serving a call keeps what is kept.
use Rattle.std.proofs.Common.{◌≡◌, List, [], ◌∷◌, ◌++◌, ◌==◌, nat_lt, Bool, true, false, cond, Option, Some, None, refl, sym, ◌∙◌, subst, inl, inr}
use Rattle.std.proofs.lemmas.Bool.{cases_eq, cond-false, cond-true, eq-eqb, ne_eqb, or_left, or_right}
use Rattle.std.proofs.lemmas.Option.{same_Some}
use Rattle.hm_names.specs.Server.{Server}
use Rattle.hm_names.specs.declared.pid.Pid.{Pid}
use Rattle.hm_data.specs.declared.call.Call.{Call}
use Rattle.hm_data.specs.declared.call.Peer.{Peer}
use Rattle.hm_data.specs.declared.call.Peer.TheVariants as peer_is
use Rattle.hm_data.specs.declared.call.ReportMsg.{ReportMsg}
use Rattle.hm_data.specs.declared.call.Told.{Told}
use Rattle.hm_data.specs.declared.call.Told.TheVariants as told_is
use Rattle.hm_data.specs.declared.call.Verb.{Verb}
use Rattle.hm_data.specs.declared.call.Verb.TheVariants as verb_is
use Rattle.hm_model.specs.Storages.{Storage, answered, fence_in, lay_in, refuse_in, store_by, store_verb, stored}
use Rattle.hm_model.specs.Fleet.{same_server}
use Rattle.hm_model.specs.Journal.{Past}
use Rattle.hm_model.specs.Reports.{call_of, fits_verb, peer_of, verb_of}
use Rattle.hm_model.proofs.NameTies.{same_server-refl}
use Rattle.hm_world_model.specs.Outside.{Outside, deliver_by, delivered, with_report}
use Rattle.hm_world_model.specs.Safe.{Made, Safe}
use Rattle.hm_world_model.proofs.Facts.{in_pushed, not_storage, parts_of}
use Rattle.hm_world_model.proofs.From.{made_from, made_old, safe_from, same_actors, stored_old}
use Rattle.hm_world_model.proofs.Serving.{safe_to_server}

module _ (J : Past) (o : Outside) (safe : Safe J o) (id : Pid) (verb : Verb) (called : verb_of J id.0 ≡ Some verb) (peer : peer_of J id.0 ≡ Some peer_is.Storage) where
  -- an answer of the storage to this call
  made_stored : (told : Told) (storage : Storage) (reports : List ReportMsg) → fits_verb verb told ≡ true → ((t : Server) → verb ≡ verb_is.Fence t → storage.fenced t ≡ true)
      → Made J (record o { storage = storage; reports = reports }) id.0 told
  made_stored told storage reports fits fences = record {
    verb = verb;
    called = called;
    fits = fits;
    told_by = λ q t to c run. absurd (not_storage (peer_of J id.0) t to.3 peer);
    fenced = fences;
  }

  -- the same answer again
  safe_again : (told : Told) → o.storage.answer id ≡ Some told → Safe J (record o { storage = o.storage; reports = o.reports ++ stored id told ∷ [] })
  safe_again told h =
      let reports = o.reports ++ stored id told ∷ [] in
      safe_from J o safe o.actors o.storage o.sent reports (same_actors J o) (λ t k. k) safe.calls.sent_is
      (λ report k. elim (in_pushed report (stored id told) o.reports k) [
        | inl new ↦ subst (λ (x : ReportMsg). Made J (record o { reports = reports }) x.call.0 x.told × (peer_of J x.call.0 ≡ Some x.from)) (sym new)
            (made_from J o safe o.actors o.storage o.sent reports (same_actors J o) (λ t k. k) id.0 told (safe.calls.stored id told h).0, peer)
        | inr old ↦ made_old J o safe o.actors o.storage o.sent reports (same_actors J o) (λ t k. k) report old
      ])
      (stored_old J o safe o.actors o.storage o.sent reports (same_actors J o) (λ t k. k))

  -- a new answer, and what it does
  module _ (told : Told) (fits : fits_verb verb told ≡ true) (behind : Storage) (answers : (other : Pid) → behind.answer other ≡ o.storage.answer other)
      (more : (t : Server) → o.storage.fenced t ≡ true → behind.fenced t ≡ true) (fences : (t : Server) → verb ≡ verb_is.Fence t → behind.fenced t ≡ true) where
    safe_new : Safe J (record o { storage = answered id told behind; reports = o.reports ++ stored id told ∷ [] })
    safe_new =
        let reports = o.reports ++ stored id told ∷ [] in
        let storage = answered id told behind in
        let made = made_stored told storage reports fits fences in
        safe_from J o safe o.actors storage o.sent reports (same_actors J o) more safe.calls.sent_is
        (λ report k. elim (in_pushed report (stored id told) o.reports k) [
          | inl new ↦ subst (λ (x : ReportMsg). Made J (record o { storage = storage; reports = reports }) x.call.0 x.told × (peer_of J x.call.0 ≡ Some x.from)) (sym new) (made, peer)
          | inr old ↦ made_old J o safe o.actors storage o.sent reports (same_actors J o) more report old
        ])
        (λ other t k. elim (cases_eq id.0 other.0) [
          | inl same ↦
              let e : told ≡ t = same_Some told t (sym (cond-true (id.0 == other.0) (Some told) (behind.answer other) (eq-eqb id.0 other.0 same)) ∙ k) in
              subst (λ n. Made J (record o { storage = storage; reports = reports }) n t × (peer_of J n ≡ Some peer_is.Storage)) same (subst (Made J (record o { storage = storage; reports = reports }) id.0) e made, peer)
          | inr differs ↦ stored_old J o safe o.actors storage o.sent reports (same_actors J o) more other t (sym (answers other) ∙ sym (cond-false (id.0 == other.0) (Some told) (behind.answer other) (ne_eqb id.0 other.0 differs)) ∙ k)
        ])

    pub safe_store_by : (x : Option Told) → o.storage.answer id ≡ x → Safe J (record o { storage = (store_by x o.storage id told behind).0; reports = with_report o.reports (store_by x o.storage id told behind).1 })
    safe_store_by (Some before) h = safe_again before h
    safe_store_by None h = safe_new

module _ (J : Past) (o : Outside) (safe : Safe J o) (id : Pid) (peer : peer_of J id.0 ≡ Some peer_is.Storage) where
  as_it_was : Safe J (record o { storage = o.storage; reports = o.reports })
  as_it_was = safe_from J o safe o.actors o.storage o.sent o.reports (same_actors J o) (λ t k. k) safe.calls.sent_is
      (made_old J o safe o.actors o.storage o.sent o.reports (same_actors J o) (λ t k. k))
      (stored_old J o safe o.actors o.storage o.sent o.reports (same_actors J o) (λ t k. k))

  safe_laid : (root : Pid) → verb_of J id.0 ≡ Some (verb_is.Layout root) → (b : Bool)
      → let served = cond b (store_by (o.storage.answer id) o.storage id told_is.Refused (refuse_in o.storage)) (store_by (o.storage.answer id) o.storage id told_is.LaidOut (lay_in root true o.storage)) in
      Safe J (record o { storage = served.0; reports = with_report o.reports served.1 })
  safe_laid root called true = safe_store_by J o safe id (verb_is.Layout root) called peer told_is.Refused refl (refuse_in o.storage) (λ other. refl) (λ t k. k) (λ t e. absurd (never t e)) (o.storage.answer id) refl
    where
      never : (t : Server) → verb_is.Layout root ≡ verb_is.Fence t → ⊥
      never t e = cc
  safe_laid root called false = safe_store_by J o safe id (verb_is.Layout root) called peer told_is.LaidOut refl (lay_in root true o.storage) (λ other. refl) (λ t k. k) (λ t e. absurd (never t e)) (o.storage.answer id) refl
    where
      never : (t : Server) → verb_is.Layout root ≡ verb_is.Fence t → ⊥
      never t e = cc

  pub safe_stored : (verb : Verb) → verb_of J id.0 ≡ Some verb → Safe J (record o { storage = (store_verb o.storage id verb).0; reports = with_report o.reports (store_verb o.storage id verb).1 })
  safe_stored (verb_is.Fence s) called =
      safe_store_by J o safe id (verb_is.Fence s) called peer told_is.Fenced refl (fence_in s o.storage) (λ other. refl) (λ t k. or_right (same_server s t) (o.storage.fenced t) k)
      (λ t e. or_left (same_server s t) (o.storage.fenced t) (subst (λ x. same_server s x ≡ true) (one_fence t e) (same_server-refl s))) (o.storage.answer id) refl
    where
      one_fence : (t : Server) → verb_is.Fence s ≡ verb_is.Fence t → s ≡ t
      one_fence t e = cc
  safe_stored (verb_is.Layout root) called = safe_laid root called (nat_lt 0 o.storage.refusals)
  safe_stored (verb_is.Sweep root) called =
      safe_store_by J o safe id (verb_is.Sweep root) called peer told_is.Swept refl (lay_in root false o.storage) (λ other. refl) (λ t k. k) (λ t e. absurd (never t e)) (o.storage.answer id) refl
    where
      never : (t : Server) → verb_is.Sweep root ≡ verb_is.Fence t → ⊥
      never t e = cc
  safe_stored verb called = as_it_was

-- a call that was sent is delivered
pub safe_deliver : (J : Past) (o : Outside) → Safe J o → (call : Call) → call_of J call.id.0 ≡ Some call → Safe J (delivered o call)
safe_deliver J o safe call is = (let parts = parts_of J call is in by call.peer parts.0 parts.1)
  where
    by : (peer : Peer) → peer_of J call.id.0 ≡ Some peer → verb_of J call.id.0 ≡ Some call.verb → Safe J (deliver_by o call peer)
    by (peer_is.Server s) peer called = safe_to_server J o safe call s called peer (o.actors s) refl
    by peer_is.Storage peer called = safe_stored J o safe call.id peer call.verb called
