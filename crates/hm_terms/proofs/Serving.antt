-- What serving a call does to the refusals of who is called.
use Rattle.std.proofs.Common.{◌≡◌, ◌+◌, ◌-◌, ◌≤◌, ℕ, List, ◌∷◌, length, nat_lt, Bool, true, false, ◌==◌, cond, Option, Some, None, refl, sym, ap, ◌∙◌, subst, inl, inr, arith}
use Rattle.std.specs.declared.cmp.Ordering.{Ordering}
use Rattle.std.specs.declared.cmp.Ordering.TheVariants.{Less, Equal, Greater}
use Rattle.std.proofs.lemmas.Bool.{cases_Bool, cases_eq, cond-false, cond-true, eq-eqb, false≢true, ne_eqb}
use Rattle.std.proofs.lemmas.Cmp.{ranked}
use Rattle.std.proofs.lemmas.Option.{none-some, same_Some}
use Rattle.hm_names.specs.Region.{Region}
use Rattle.hm_names.specs.declared.pid.Pid.{Pid}
use Rattle.hm_data.specs.declared.call.Call.{Call}
use Rattle.hm_data.specs.declared.call.Peer.TheVariants as peer_is
use Rattle.hm_data.specs.declared.call.ReportMsg.{ReportMsg}
use Rattle.hm_data.specs.declared.call.Told.{Told}
use Rattle.hm_data.specs.declared.call.Told.TheVariants as told_is
use Rattle.hm_data.specs.declared.call.Verb.{Verb}
use Rattle.hm_data.specs.declared.call.Verb.TheVariants as verb_is
use Rattle.hm_model.specs.Actors.{Actor, Served, Service, age, behind, closing, holds, once_more, opening, reported, serve, serve_by, serve_verb}
use Rattle.hm_model.specs.Storages.{Storage, fence_in, lay_in, refuse_in, store, store_by, store_verb, stored}
use Rattle.hm_model.specs.Keys.{same_region}
use Rattle.hm_model.specs.Locks.{IsIn}
use Rattle.hm_world_model.proofs.Facts.{cases_region}
use Rattle.hm_terms.specs.Refusals.{is_refusal}

-- whom a server refused last, about each region, is among these calls
abbrev pub ActorWithin : Actor → List ℕ → Type 0
ActorWithin actor calls = (region : Region) (last : Served) → actor.last region ≡ Some last → is_refusal last.told ≡ true → IsIn last.id.0 calls

-- so is whom the storage refused
abbrev pub StorageWithin : Storage → List ℕ → Type 0
StorageWithin storage calls = (id : Pid) (told : Told) → storage.answer id ≡ Some told → is_refusal told ≡ true → IsIn id.0 calls

-- some calls are among more
abbrev pub Among : List ℕ → List ℕ → Type 0
Among calls more = (p : ℕ) → IsIn p calls → IsIn p more

-- the report, if there is one, is of a call among these, if it is a refusal
abbrev pub ReportWithin : Option ReportMsg → List ℕ → Type 0
ReportWithin made calls = (report : ReportMsg) → made ≡ Some report → is_refusal report.told ≡ true → IsIn report.call.0 calls

-- calls refused before, more of them now, and what became of it: as many refusals less are left as there are more calls
pub record ServesWithin (old new : Actor) (made : Option ReportMsg) (calls : List ℕ) : Type 0 where
  pub more : List ℕ
  pub among : Among calls more
  pub fewer : length more + new.refusals ≤ length calls + old.refusals
  pub within : ActorWithin new more
  pub reports : ReportWithin made more

pub record StoresWithin (old new : Storage) (made : Option ReportMsg) (calls : List ℕ) : Type 0 where
  pub more : List ℕ
  pub among : Among calls more
  pub fewer : length more + new.refusals ≤ length calls + old.refusals
  pub within : StorageWithin new more
  pub reports : ReportWithin made more

-- a refusal is one less to come
abbrev pub Counts : (told : Told) (after before : ℕ) → Type 0
Counts told after before = (after ≤ before) × (is_refusal told ≡ true → after + 1 ≤ before)

-- the calls with this one, if it was refused
with_call : (told : Told) (p : ℕ) (calls : List ℕ) (after before : ℕ) → Counts told after before
    → (more : List ℕ) × Among calls more × (length more + after ≤ length calls + before) × (is_refusal told ≡ true → IsIn p more)
with_call told p calls after before counts = elim (cases_Bool (is_refusal told)) [
  | inl refused ↦ let less = counts.1 refused in (p ∷ calls, λ q h. inr h, omega (arith, less), λ r. inl refl)
  | inr served ↦ let less = counts.0 in (calls, λ q h. h, omega (arith, less), λ r. absurd (false≢true (sym served ∙ r)))
]

-- who reports, whatever it answers
module _ (actor : Actor) (id : Pid) where
  name_by : (order : Ordering) (region : Region) (service : Service) → (serve_by order actor id region service).0.name ≡ actor.name
  name_by Less region service = refl
  name_by Equal region service = refl
  name_by Greater region service = refl

  from_last : (last : Option Served) (report : ReportMsg) → once_more actor id last ≡ Some report → report.from ≡ peer_is.Server actor.name
  from_last None report made = absurd (none-some report made)
  from_last (Some last) report made = ap (λ (r : ReportMsg). r.from) (sym (same_Some (reported actor id last.told) report made))

  from_by : (order : Ordering) (region : Region) (service : Service) (report : ReportMsg) → (serve_by order actor id region service).1 ≡ Some report → report.from ≡ peer_is.Server actor.name
  from_by Less region service report made = absurd (none-some report made)
  from_by Equal region service report made = from_last (actor.last region) report made
  from_by Greater region service report made = ap (λ (r : ReportMsg). r.from) (sym (same_Some (reported actor id service.told) report made))

  name_at : (verb : Verb) → (serve_verb actor id verb).0.name ≡ actor.name
  name_at (verb_is.AssignRegion region) = name_by (age (actor.last region) id) region (opening actor region)
  name_at (verb_is.CloseRegion region) = name_by (age (actor.last region) id) region (closing actor)
  name_at (verb_is.Fence server) = refl
  name_at (verb_is.Layout root) = refl
  name_at (verb_is.Sweep root) = refl

  from_at : (verb : Verb) (report : ReportMsg) → (serve_verb actor id verb).1 ≡ Some report → report.from ≡ peer_is.Server actor.name
  from_at (verb_is.AssignRegion region) report made = from_by (age (actor.last region) id) region (opening actor region) report made
  from_at (verb_is.CloseRegion region) report made = from_by (age (actor.last region) id) region (closing actor) report made
  from_at (verb_is.Fence server) report made = absurd (none-some report made)
  from_at (verb_is.Layout root) report made = absurd (none-some report made)
  from_at (verb_is.Sweep root) report made = absurd (none-some report made)

pub serve_name : (actor : Actor) (call : Call) → (serve actor call).0.name ≡ actor.name
serve_name actor call = name_at actor call.id call.verb

pub serve_from : (actor : Actor) (call : Call) (report : ReportMsg) → (serve actor call).1 ≡ Some report → report.from ≡ peer_is.Server actor.name
serve_from actor call = from_at actor call.id call.verb

module _ (storage : Storage) (id : Pid) where
  from_answer : (kept : Option Told) (told : Told) (after : Storage) (report : ReportMsg) → (store_by kept storage id told after).1 ≡ Some report → report.from ≡ peer_is.Storage
  from_answer None told after report made = ap (λ (r : ReportMsg). r.from) (sym (same_Some (stored id told) report made))
  from_answer (Some before) told after report made = ap (λ (r : ReportMsg). r.from) (sym (same_Some (stored id before) report made))

  from_layout : (root : Pid) (b : Bool) (report : ReportMsg)
      → (cond b (store_by (storage.answer id) storage id told_is.Refused (refuse_in storage)) (store_by (storage.answer id) storage id told_is.LaidOut (lay_in root true storage))).1 ≡ Some report
      → report.from ≡ peer_is.Storage
  from_layout root true = from_answer (storage.answer id) told_is.Refused (refuse_in storage)
  from_layout root false = from_answer (storage.answer id) told_is.LaidOut (lay_in root true storage)

  from_store : (verb : Verb) (report : ReportMsg) → (store_verb storage id verb).1 ≡ Some report → report.from ≡ peer_is.Storage
  from_store (verb_is.AssignRegion region) report made = absurd (none-some report made)
  from_store (verb_is.CloseRegion region) report made = absurd (none-some report made)
  from_store (verb_is.Fence server) report made = from_answer (storage.answer id) told_is.Fenced (fence_in server storage) report made
  from_store (verb_is.Layout root) report made = from_layout root (nat_lt 0 storage.refusals) report made
  from_store (verb_is.Sweep root) report made = from_answer (storage.answer id) told_is.Swept (lay_in root false storage) report made

pub store_from : (storage : Storage) (call : Call) (report : ReportMsg) → (store storage call).1 ≡ Some report → report.from ≡ peer_is.Storage
store_from storage call = from_store storage call.id call.verb

-- a server as it was, with a report of this answer or without one
module _ (actor : Actor) (calls : List ℕ) (within : ActorWithin actor calls) where
  idle : ServesWithin actor actor None calls
  idle = record {
    more = calls;
    among = λ p h. h;
    fewer = omega arith;
    within = within;
    reports = λ report e. absurd (none-some report e);
  }

  again : (id : Pid) (region : Region) (last : Option Served) → actor.last region ≡ last → age last id ≡ Equal → ServesWithin actor actor (once_more actor id last) calls
  again id region None is e = idle
  again id region (Some last) is e = record {
    more = calls;
    among = λ p h. h;
    fewer = omega arith;
    within = within;
    reports = λ report made refused. let same : reported actor id last.told ≡ report = same_Some (reported actor id last.told) report made in
        subst (λ (r : ReportMsg). IsIn r.call.0 calls) same
        (subst (λ p. IsIn p calls) (sym (ranked id.0 last.id.0 Equal (sym e))) (within region last is (subst (λ (r : ReportMsg). is_refusal r.told ≡ true) (sym same) refused)));
  }

  new : (id : Pid) (region : Region) (service : Service) → Counts service.told service.refusals actor.refusals
      → ServesWithin actor (behind actor id region service) (Some (reported actor id service.told)) calls
  new id region service counts =
      let more = with_call service.told id.0 calls service.refusals actor.refusals counts in
      let now : Served = record { id = id; told = service.told; holds = service.holds } in
      record {
        more = more.0;
        among = more.1;
        fewer = more.2;
        within = λ other last is refused. elim (cases_region region other) [
          | inl same ↦
              let e : now ≡ last = same_Some now last (sym (cond-true (same_region region other) (Some now) (actor.last other) same.0) ∙ is) in
              subst (λ (s : Served). IsIn s.id.0 more.0) e (more.3 (subst (λ (s : Served). is_refusal s.told ≡ true) (sym e) refused))
          | inr differs ↦ more.1 last.id.0 (within other last (sym (cond-false (same_region region other) (Some now) (actor.last other) differs.0) ∙ is) refused)
        ];
        reports = λ report made refused.
            let same : reported actor id service.told ≡ report = same_Some (reported actor id service.told) report made in
            subst (λ (r : ReportMsg). IsIn r.call.0 more.0) same (more.3 (subst (λ (r : ReportMsg). is_refusal r.told ≡ true) (sym same) refused));
      }

  by_age : (id : Pid) (region : Region) (service : Service) → Counts service.told service.refusals actor.refusals → (order : Ordering) → age (actor.last region) id ≡ order
      → ServesWithin actor (serve_by order actor id region service).0 (serve_by order actor id region service).1 calls
  by_age id region service counts Less e = idle
  by_age id region service counts Equal e = again id region (actor.last region) refl e
  by_age id region service counts Greater e = new id region service counts

  opening_counts : (region : Region) (b : Bool) → nat_lt 0 actor.refusals ≡ b
      → (let s : Service = cond b (record { told = told_is.FailedOpen; holds = holds actor region; refusals = actor.refusals - 1 }) (record { told = told_is.Opened; holds = true; refusals = actor.refusals }) in
      Counts s.told s.refusals actor.refusals)
  opening_counts region true e = (omega arith, λ r. grind (arith, e))
  opening_counts region false e = (omega arith, λ r. absurd (false≢true r))

  by_verb : (id : Pid) (verb : Verb) → ServesWithin actor (serve_verb actor id verb).0 (serve_verb actor id verb).1 calls
  by_verb id (verb_is.AssignRegion region) = by_age id region (opening actor region) (opening_counts region (nat_lt 0 actor.refusals) refl) (age (actor.last region) id) refl
  by_verb id (verb_is.CloseRegion region) = by_age id region (closing actor) (omega arith, λ r. absurd (false≢true r)) (age (actor.last region) id) refl
  by_verb id (verb_is.Fence server) = idle
  by_verb id (verb_is.Layout root) = idle
  by_verb id (verb_is.Sweep root) = idle

  pub serves : (call : Call) → ServesWithin actor (serve actor call).0 (serve actor call).1 calls
  serves call = by_verb call.id call.verb

module _ (storage : Storage) (calls : List ℕ) (within : StorageWithin storage calls) where
  idle_storage : StoresWithin storage storage None calls
  idle_storage = record {
    more = calls;
    among = λ p h. h;
    fewer = omega arith;
    within = within;
    reports = λ report e. absurd (none-some report e);
  }

  by_answer : (id : Pid) (told : Told) (after : Storage) → ((other : Pid) → after.answer other ≡ storage.answer other) → Counts told after.refusals storage.refusals
      → (kept : Option Told) → storage.answer id ≡ kept → StoresWithin storage (store_by kept storage id told after).0 (store_by kept storage id told after).1 calls
  by_answer id told after same counts (Some before) is = record {
    more = calls;
    among = λ p h. h;
    fewer = omega arith;
    within = within;
    reports = λ report made refused.
        let e : stored id before ≡ report = same_Some (stored id before) report made in
        subst (λ (r : ReportMsg). IsIn r.call.0 calls) e (within id before is (subst (λ (r : ReportMsg). is_refusal r.told ≡ true) (sym e) refused));
  }
  by_answer id told after same counts None is =
      let more = with_call told id.0 calls after.refusals storage.refusals counts in
      record {
        more = more.0;
        among = more.1;
        fewer = more.2;
        within = λ other answer kept refused. elim (cases_eq id.0 other.0) [
          | inl one ↦
              let e : told ≡ answer = same_Some told answer (sym (cond-true (id.0 == other.0) (Some told) (after.answer other) (eq-eqb id.0 other.0 one)) ∙ kept) in
              subst (λ p. IsIn p more.0) one (more.3 (subst (λ (t : Told). is_refusal t ≡ true) (sym e) refused))
          | inr differs ↦ more.1 other.0 (within other answer (sym (same other) ∙ sym (cond-false (id.0 == other.0) (Some told) (after.answer other) (ne_eqb id.0 other.0 differs)) ∙ kept) refused)
        ];
        reports = λ report made refused.
            let e : stored id told ≡ report = same_Some (stored id told) report made in
            subst (λ (r : ReportMsg). IsIn r.call.0 more.0) e (more.3 (subst (λ (r : ReportMsg). is_refusal r.told ≡ true) (sym e) refused));
      }

  by_layout : (id root : Pid) (b : Bool) → nat_lt 0 storage.refusals ≡ b
      → (let s = cond b (store_by (storage.answer id) storage id told_is.Refused (refuse_in storage)) (store_by (storage.answer id) storage id told_is.LaidOut (lay_in root true storage)) in
      StoresWithin storage s.0 s.1 calls)
  by_layout id root true e = by_answer id told_is.Refused (refuse_in storage) (λ other. refl) (omega arith, λ r. grind (arith, e)) (storage.answer id) refl
  by_layout id root false e = by_answer id told_is.LaidOut (lay_in root true storage) (λ other. refl) (omega arith, λ r. absurd (false≢true r)) (storage.answer id) refl

  store_by_verb : (id : Pid) (verb : Verb) → StoresWithin storage (store_verb storage id verb).0 (store_verb storage id verb).1 calls
  store_by_verb id (verb_is.AssignRegion region) = idle_storage
  store_by_verb id (verb_is.CloseRegion region) = idle_storage
  store_by_verb id (verb_is.Fence server) = by_answer id told_is.Fenced (fence_in server storage) (λ other. refl) (omega arith, λ r. absurd (false≢true r)) (storage.answer id) refl
  store_by_verb id (verb_is.Layout root) = by_layout id root (nat_lt 0 storage.refusals) refl
  store_by_verb id (verb_is.Sweep root) = by_answer id told_is.Swept (lay_in root false storage) (λ other. refl) (omega arith, λ r. absurd (false≢true r)) (storage.answer id) refl

  pub stores : (call : Call) → StoresWithin storage (store storage call).0 (store storage call).1 calls
  stores call = store_by_verb call.id call.verb
