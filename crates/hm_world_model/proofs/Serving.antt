-- Serving a call keeps what is kept.
use Rattle.std.proofs.Common.{◌≡◌, ◌≢◌, ℕ, ◌-◌, ◌<◌, ◌≤◌, [], ◌∷◌, ◌++◌, nat_lt, Bool, true, false, cond, Option, Some, None, refl, ap, sym, ◌∙◌, subst, inl, inr, ◌⊎◌, arith}
use Rattle.std.specs.declared.cmp.Ordering.{Ordering}
use Rattle.std.specs.declared.cmp.Ordering.TheVariants.{Less, Equal, Greater}
use Rattle.std.proofs.lemmas.Bool.{cases_eq, cond-false, cond-true, false≢true}
use Rattle.std.proofs.lemmas.Cmp.{ranked}
use Rattle.std.proofs.lemmas.Option.{none-some, same_Some}
use Rattle.hm_names.specs.Region.{Region}
use Rattle.hm_names.specs.Server.{Server}
use Rattle.hm_names.specs.declared.pid.Pid.{Pid}
use Rattle.hm_data.specs.declared.call.Call.{Call}
use Rattle.hm_data.specs.declared.call.Peer.TheVariants as peer_is
use Rattle.hm_data.specs.declared.call.ReportMsg.{ReportMsg}
use Rattle.hm_data.specs.declared.call.Told.{Told}
use Rattle.hm_data.specs.declared.call.Told.TheVariants as told_is
use Rattle.hm_data.specs.declared.call.Verb.{Verb}
use Rattle.hm_data.specs.declared.call.Verb.TheVariants as verb_is
use Rattle.hm_model.specs.Actors.{Actor, Served, Service, age, behind, closing, holds, holds_if, once_more, opening, reported, serve, serve_by, serve_verb}
use Rattle.hm_model.specs.Base.{HasNoHalfBase}
use Rattle.hm_model.specs.Fleet.{is_fenced}
use Rattle.hm_model.specs.Journal.{Past}
use Rattle.hm_model.specs.Keys.{same_region}
use Rattle.hm_model.specs.Locks.{IsIn}
use Rattle.hm_model.specs.Reports.{fits_verb, last_call, peer_of, region_called, verb_of}
use Rattle.hm_model.specs.Rules.{FitsCall}
use Rattle.hm_model.specs.Single.{IsBasedAt}
use Rattle.hm_world_model.specs.Outside.{Outside, answer_of_actor, behind_call, set_actor, with_report}
use Rattle.hm_world_model.specs.Safe.{CallsTo, HasServed, HeldBy, Made, Runs, Safe, ToldBy}
use Rattle.hm_world_model.proofs.Facts.{cases_region, in_pushed, one_server, same_verb, who_runs}
use Rattle.hm_world_model.proofs.From.{From, made_from, made_old, safe_die, safe_from, safe_manned, same_actors, stored_old}
use Rattle.hm_model.proofs.KeyTests.{nat_cmp-is, same_region-refl}
use Rattle.hm_model.proofs.Calls.{open_close}

-- the id is above the last one
abbrev pub IsNew : Option Served → ℕ → Type 0
IsNew None id = Unit {0}
IsNew (Some last) id = last.id.0 < id

pub unserved_new : (a : Actor) (r : Region) (id : ℕ) → IsNew (a.last r) id → HasServed a r id → ⊥
unserved_new a r id new h = let lt = subst (λ l. IsNew l id) h.1 new in let le = h.2 in omega (arith, lt, le)

-- a call that its running, unfenced server hasn't served is the last of its region
pub unserved_last : (J : Past) (o : Outside) → Safe J o → (p : ℕ) (r : Region) (s : Server) (a : Actor) → CallsTo J p r s → Runs J o s a → (HasServed a r p → ⊥) → last_call J r ≡ Some p
unserved_last J o safe p r s a calls runs unserved = by (last_call J r) refl
  where
    by : (l : Option ℕ) → last_call J r ≡ l → l ≡ Some p
    by None e = absurd (unserved (safe.servers.done p r s a calls runs (λ is. none-some p (sym e ∙ is))))
    by (Some q) e = elim (cases_eq q p) [
      | inl same ↦ ap Some same
      | inr differs ↦ absurd (unserved (safe.servers.done p r s a calls runs (λ is. differs (same_Some q p (sym e ∙ is)))))
    ]

-- a server has the answer, or has gone on to later calls
abbrev pub IsTold : ℕ → Told → Region → Actor → Type 0
IsTold p told q c = (last : Served) × (c.last q ≡ Some last) × ((p < last.id.0) ⊎ ((p ≡ last.id.0) × (told ≡ last.told)))

new_is : (l : Option Served) (id : Pid) → age l id ≡ Greater → IsNew l id.0
new_is None id h = tt
new_is (Some last) id h = ranked id.0 last.id.0 Greater (sym h)

-- a server serves a new call
module _ (J : Past) (o : Outside) (safe : Safe J o) (r : Region) (s : Server) (id : Pid) (a : Actor) (is : o.actors s ≡ Some a) (calls : CallsTo J id.0 r s) (service : Service)
    (new : IsNew (a.last r) id.0) (fit : FitsCall J id.0 service.told)
    (opens : is_fenced J s ≡ false → service.holds ≡ true → (service.told ≡ told_is.Opened) × (verb_of J id.0 ≡ Some (verb_is.AssignRegion r)))
    (keeps : service.told ≡ told_is.Opened → service.holds ≡ true) where
  abbrev b : Actor
  b = behind a id r service

  abbrev now : Served
  now = record { id = id; told = service.told; holds = service.holds }

  abbrev pub changed : Outside
  changed = record o { actors = set_actor o.actors s (Some b); reports = o.reports ++ reported a id service.told ∷ [] }

  last_here : b.last r ≡ Some now
  last_here = cond-true (same_region r r) (Some now) (a.last r) (same_region-refl r)

  last_there : (q : Region) → same_region r q ≡ false → b.last q ≡ a.last q
  last_there q differs = cond-false (same_region r q) (Some now) (a.last q) differs

  -- a running server is the changed one or as it was
  who : (t : Server) (c : Actor) → changed.actors t ≡ Some c → ((s ≡ t) × (b ≡ c)) ⊎ ((s ≢ t) × (o.actors t ≡ Some c))
  who t c run = elim (who_runs o.actors s (Some b) t c run) [
    | inl here ↦ inl (here.0, same_Some b c here.1)
    | inr other ↦ inr other
  ]

  ran : (t : Server) → s ≡ t → o.actors t ≡ Some a
  ran t e = ap o.actors (sym e) ∙ is

  -- what it served before isn't later
  before_now : (q : Region) (last : Served) → r ≡ q → a.last q ≡ Some last → last.id.0 < id.0
  before_now q last e h = subst (λ l. IsNew l id.0) (ap a.last e ∙ h) new

  here_at : (q : Region) → r ≡ q → b.last q ≡ Some now
  here_at q e = subst (λ x. b.last x ≡ Some now) e last_here

  served_more : (q : Region) (p : ℕ) → HasServed a q p → HasServed b q p
  served_more q p h = elim (cases_region r q) [
    | inl same ↦ let lt = before_now q h.0 same.1 h.1 in let le = h.2 in (now, here_at q same.1, omega (arith, lt, le))
    | inr differs ↦ (h.0, last_there q differs.0 ∙ h.1, h.2)
  ]

  told_b : (p : ℕ) (told : Told) (q : Region) → IsTold p told q a → IsTold p told q b
  told_b p told q k = elim (cases_region r q) [
    | inl same ↦ (now, here_at q same.1, inl (below (before_now q k.0 same.1 k.1) k.2))
    | inr differs ↦ (k.0, last_there q differs.0 ∙ k.1, k.2)
  ]
    where
      below : k.0.id.0 < id.0 → (p < k.0.id.0) ⊎ ((p ≡ k.0.id.0) × (told ≡ k.0.told)) → p < id.0
      below lt (inl x) = omega (arith, lt, x)
      below lt (inr x) = let e = x.0 in omega (arith, lt, e)

  told_more : (p : ℕ) (told : Told) (q : Region) (t : Server) → ToldBy o p told q t → ToldBy changed p told q t
  told_more p told q t h c run = elim (who t c run) [
    | inr other ↦ h c other.1
    | inl same ↦ subst (IsTold p told q) same.1 (told_b p told q (h a (ran t same.0)))
  ]

  made_more : (p : ℕ) (told : Told) → Made J o p told → Made J changed p told
  made_more p told h = record {
    verb = h.verb;
    called = h.called;
    fits = h.fits;
    told_by = λ q t to. told_more p told q t (h.told_by q t to);
    fenced = h.fenced;
  }

  one_region : (q : Region) (t : Server) → CallsTo J id.0 q t → r ≡ q
  one_region q t to = same_Some r q (sym calls.2 ∙ ap region_called (same_verb J id.0 calls.0 to.0 calls.1 to.1) ∙ to.2)

  told_here : (q : Region) (t : Server) → r ≡ q → s ≡ t → ToldBy changed id.0 service.told q t
  told_here q t e f c run = elim (who t c run) [
    | inl same ↦ subst (IsTold id.0 service.told q) same.1 (now, here_at q e, inr (refl, refl))
    | inr other ↦ absurd (other.0 f)
  ]

  -- what it is told now
  made_here : Made J changed id.0 service.told
  made_here = record {
    verb = calls.0;
    called = calls.1;
    fits = fit calls.0 calls.1;
    told_by = λ q t to. told_here q t (one_region q t to) (one_server (peer_of J id.0) s t calls.3 to.3);
    fenced = λ t e. absurd (none-some r (sym (ap region_called e) ∙ calls.2));
  }

  peer_here : peer_of J id.0 ≡ Some (peer_is.Server a.name)
  peer_here = calls.3 ∙ ap (λ x. Some (peer_is.Server x)) (sym (safe.servers.named s a is))

  made_changed : (report : ReportMsg) → IsIn report changed.reports → Made J changed report.call.0 report.told × (peer_of J report.call.0 ≡ Some report.from)
  made_changed report h = elim (in_pushed report (reported a id service.told) o.reports h) [
    | inl new ↦ subst (λ (x : ReportMsg). Made J changed x.call.0 x.told × (peer_of J x.call.0 ≡ Some x.from)) (sym new) (made_here, peer_here)
    | inr old ↦ let k = safe.calls.made_is report old in (made_more report.call.0 report.told k.0, k.1)
  ]

  served_b : (q : Region) (last : Served) → b.last q ≡ Some last → CallsTo J last.id.0 q s × FitsCall J last.id.0 last.told
  served_b q last h = elim (cases_region r q) [
    | inl same ↦ subst (λ (x : Served). CallsTo J x.id.0 q s × FitsCall J x.id.0 x.told) (same_Some now last (sym (here_at q same.1) ∙ h)) (subst (λ x. CallsTo J id.0 x s) same.1 calls, fit)
    | inr differs ↦ safe.servers.served_is s a q last is (sym (last_there q differs.0) ∙ h)
  ]

  served_changed : (t : Server) (c : Actor) (q : Region) (last : Served) → changed.actors t ≡ Some c → c.last q ≡ Some last → CallsTo J last.id.0 q t × FitsCall J last.id.0 last.told
  served_changed t c q last run h = elim (who t c run) [
    | inl same ↦ subst (λ x. CallsTo J last.id.0 q x × FitsCall J last.id.0 last.told) same.0 (served_b q last (ap (λ (x : Actor). x.last q) same.1 ∙ h))
    | inr other ↦ safe.servers.served_is t c q last other.1 h
  ]

  opened_b : (q : Region) (last : Served) → b.last q ≡ Some last → last.told ≡ told_is.Opened → last.holds ≡ true
  opened_b q last h = elim (cases_region r q) [
    | inl same ↦ subst (λ (x : Served). x.told ≡ told_is.Opened → x.holds ≡ true) (same_Some now last (sym (here_at q same.1) ∙ h)) keeps
    | inr differs ↦ safe.servers.opened_is s a q last is (sym (last_there q differs.0) ∙ h)
  ]

  opened_changed : (t : Server) (c : Actor) (q : Region) (last : Served) → changed.actors t ≡ Some c → c.last q ≡ Some last → last.told ≡ told_is.Opened → last.holds ≡ true
  opened_changed t c q last run h = elim (who t c run) [
    | inl same ↦ opened_b q last (ap (λ (x : Actor). x.last q) same.1 ∙ h)
    | inr other ↦ safe.servers.opened_is t c q last other.1 h
  ]

  named_changed : (t : Server) (c : Actor) → changed.actors t ≡ Some c → c.name ≡ t
  named_changed t c run = elim (who t c run) [
    | inl same ↦ ap (λ (x : Actor). x.name) (sym same.1) ∙ safe.servers.named s a is ∙ same.0
    | inr other ↦ safe.servers.named t c other.1
  ]

  done_changed : (p : ℕ) (q : Region) (t : Server) (c : Actor) → CallsTo J p q t → Runs J changed t c → last_call J q ≢ Some p → HasServed c q p
  done_changed p q t c to run other_last = elim (who t c run.0) [
    | inl same ↦ subst (λ x. HasServed x q p) same.1 (served_more q p (safe.servers.done p q t a to (ran t same.0, run.1) other_last))
    | inr other ↦ safe.servers.done p q t c to (other.1, run.1) other_last
  ]

  held_b : is_fenced J s ≡ false → (q : Region) → holds b q ≡ true → HeldBy J b q s
  held_b free q h = elim (cases_region r q) [
    | inl same ↦
        let f = opens free (ap holds_if (sym last_here) ∙ ap (holds b) same.1 ∙ h) in
        let l = unserved_last J o safe id.0 r s a calls (is, free) (unserved_new a r id.0 new) in
        subst (λ x. HeldBy J b x s) same.1 (now, last_here, f.0, inl (l, f.1, calls.3))
    | inr differs ↦
        let k = safe.servers.held q s a (is, free) (ap holds_if (sym (last_there q differs.0)) ∙ h) in
        (k.0, last_there q differs.0 ∙ k.1, k.2, k.3)
  ]

  unbased_changed : HasNoHalfBase J → (q : Region) (t : Server) (c : Actor) → changed.actors t ≡ Some c → IsBasedAt J q t → ⊥
  unbased_changed whole q t c run base = elim (who t c run) [
    | inl same ↦ safe.servers.unbased whole q t a (ran t same.0) base
    | inr other ↦ safe.servers.unbased whole q t c other.1 base
  ]

  held_changed : (q : Region) (t : Server) (c : Actor) → Runs J changed t c → holds c q ≡ true → HeldBy J c q t
  held_changed q t c run h = elim (who t c run.0) [
    | inl same ↦
        let free : is_fenced J s ≡ false = ap (is_fenced J) same.0 ∙ run.1 in
        subst (λ x. HeldBy J x q t) same.1 (subst (λ x. HeldBy J b q x) same.0 (held_b free q (ap (λ (x : Actor). holds x q) same.1 ∙ h)))
    | inr other ↦ safe.servers.held q t c (other.1, run.1) h
  ]

  pub safe_changed : Safe J changed
  safe_changed = record {
    legal = safe.legal;
    calls = record {
      sent_is = safe.calls.sent_is;
      made_is = made_changed;
      recorded = λ p told h. made_more p told (safe.calls.recorded p told h);
      stored = λ i told h. let k = safe.calls.stored i told h in (made_more i.0 told k.0, k.1);
    };
    servers = record {
      named = named_changed;
      served_is = served_changed;
      opened_is = opened_changed;
      done = done_changed;
      unbased = unbased_changed;
      held = held_changed;
    };
    fences_are = safe.fences_are;
  }

-- the server that was called serves the call, by how old it is
module _ (J : Past) (o : Outside) (safe : Safe J o) (r : Region) (s : Server) (id : Pid) (a : Actor) (is : o.actors s ≡ Some a) (calls : CallsTo J id.0 r s) where
  -- a server as it was, with what it answers
  abbrev answering : Actor → Option ReportMsg → Outside
  answering c report = record o { actors = set_actor o.actors s (Some c); reports = with_report o.reports report }

  from_same : (t : Server) (c : Actor) → set_actor o.actors s (Some a) t ≡ Some c → From J o t c
  from_same t c run = elim (who_runs o.actors s (Some a) t c run) [
    | inl here ↦ same_actors J o t c (ap o.actors (sym here.0) ∙ is ∙ here.1)
    | inr other ↦ same_actors J o t c other.1
  ]

  pub safe_silent : Safe J (answering a None)
  safe_silent = safe_manned J o safe (set_actor o.actors s (Some a)) from_same

  told_again : (last : Served) → a.last r ≡ Some last → last.id.0 ≡ id.0 → Made J o id.0 last.told
  told_again last l same = record {
    verb = calls.0;
    called = calls.1;
    fits = (safe.servers.served_is s a r last is l).1 calls.0 (ap (verb_of J) same ∙ calls.1);
    told_by = λ q t to c run.
        let e : s ≡ t = one_server (peer_of J id.0) s t calls.3 to.3 in
        let f : r ≡ q = same_Some r q (sym calls.2 ∙ ap region_called (same_verb J id.0 calls.0 to.0 calls.1 to.1) ∙ to.2) in
        let g : a ≡ c = same_Some a c (sym is ∙ ap o.actors e ∙ run) in
        (last, ap (λ (x : Actor). x.last q) (sym g) ∙ ap a.last (sym f) ∙ l, inr (sym same, refl));
    fenced = λ t e. absurd (none-some r (sym (ap region_called e) ∙ calls.2));
  }

  safe_once_more : (l : Option Served) → a.last r ≡ l → age l id ≡ Equal → Safe J (answering a (once_more a id l))
  safe_once_more None l h = safe_silent
  safe_once_more (Some last) l h =
      let storage = o.storage in
      let reports = o.reports ++ reported a id last.told ∷ [] in
      let actors = set_actor o.actors s (Some a) in
      let same : last.id.0 ≡ id.0 = sym (nat_cmp-is id.0 last.id.0 h) in
      safe_from J o safe actors storage o.sent reports from_same (λ t k. k) safe.calls.sent_is
      (λ report k. elim (in_pushed report (reported a id last.told) o.reports k) [
        | inl new ↦ subst (λ (x : ReportMsg). Made J (record o { actors = actors; reports = reports }) x.call.0 x.told × (peer_of J x.call.0 ≡ Some x.from)) (sym new)
            (made_from J o safe actors storage o.sent reports from_same (λ t k. k) id.0 last.told (told_again last l same), calls.3 ∙ ap (λ x. Some (peer_is.Server x)) (sym (safe.servers.named s a is)))
        | inr old ↦ made_old J o safe actors storage o.sent reports from_same (λ t k. k) report old
      ])
      (stored_old J o safe actors storage o.sent reports from_same (λ t k. k))

  module _ (service : Service) (fit : FitsCall J id.0 service.told)
      (opens : IsNew (a.last r) id.0 → is_fenced J s ≡ false → service.holds ≡ true → (service.told ≡ told_is.Opened) × (verb_of J id.0 ≡ Some (verb_is.AssignRegion r)))
      (keeps : service.told ≡ told_is.Opened → service.holds ≡ true) where
    abbrev served_so : Ordering → Outside
    served_so order = answering (serve_by order a id r service).0 (serve_by order a id r service).1

    pub safe_by : (order : Ordering) → age (a.last r) id ≡ order → Safe J (served_so order)
    safe_by Less h = safe_silent
    safe_by Equal h = safe_once_more (a.last r) refl h
    safe_by Greater h = (let new = new_is (a.last r) id h in safe_changed J o safe r s id a is calls service new fit (opens new) keeps)

-- the answers of a new call
module _ (J : Past) (o : Outside) (safe : Safe J o) (r : Region) (s : Server) (id : Pid) (a : Actor) (is : o.actors s ≡ Some a) where
  fit_by : (verb : Verb) → verb_of J id.0 ≡ Some verb → (told : Told) → fits_verb verb told ≡ true → FitsCall J id.0 told
  fit_by verb called told fits other h = ap (λ v. fits_verb v told) (same_verb J id.0 other verb h called) ∙ fits

  not_held : verb_of J id.0 ≡ Some (verb_is.AssignRegion r) → CallsTo J id.0 r s → IsNew (a.last r) id.0 → is_fenced J s ≡ false → holds a r ≡ true → ⊥
  not_held verb calls new free held =
      let l = unserved_last J o safe id.0 r s a calls (is, free) (unserved_new a r id.0 new) in
      let k = safe.servers.held r s a (is, free) held in
      elim k.3 [
        | inl own ↦ unserved_new a r id.0 new (k.0, k.1, le_same k.0.id.0 (same_Some id.0 k.0.id.0 (sym l ∙ own.0)))
        | inr q ↦ open_close r (same_verb J id.0 (verb_is.AssignRegion r) (verb_is.CloseRegion r) verb (ap (verb_of J) (same_Some id.0 q.0 (sym l ∙ q.2.0)) ∙ q.2.1))
      ]
    where
      le_same : (n : ℕ) → id.0 ≡ n → id.0 ≤ n
      le_same n e = omega (arith, e)

  refused : told_is.FailedOpen ≡ told_is.Opened → ⊥
  refused e = cc

  shut : told_is.Closed ≡ told_is.Opened → ⊥
  shut e = cc

  safe_open : CallsTo J id.0 r s → verb_of J id.0 ≡ Some (verb_is.AssignRegion r) → (n : Bool) → nat_lt 0 a.refusals ≡ n
      → (service : Service) → service ≡ cond n (record { told = told_is.FailedOpen; holds = holds a r; refusals = a.refusals - 1 }) (record { told = told_is.Opened; holds = true; refusals = a.refusals })
      → Safe J (record o { actors = set_actor o.actors s (Some (serve_by (age (a.last r) id) a id r service).0); reports = with_report o.reports (serve_by (age (a.last r) id) a id r service).1 })
  safe_open calls verb true e service is_so =
      safe_by J o safe r s id a is calls service (subst (FitsCall J id.0) (ap (λ (x : Service). x.told) (sym is_so)) (fit_by (verb_is.AssignRegion r) verb told_is.FailedOpen refl))
      (λ new free h. absurd (not_held verb calls new free (ap (λ (x : Service). x.holds) (sym is_so) ∙ h))) (λ told. absurd (refused (ap (λ (x : Service). x.told) (sym is_so) ∙ told))) (age (a.last r) id) refl
  safe_open calls verb false e service is_so =
      safe_by J o safe r s id a is calls service (subst (FitsCall J id.0) (ap (λ (x : Service). x.told) (sym is_so)) (fit_by (verb_is.AssignRegion r) verb told_is.Opened refl))
      (λ new free h. (ap (λ (x : Service). x.told) is_so, verb)) (λ told. ap (λ (x : Service). x.holds) is_so) (age (a.last r) id) refl

  pub safe_served : (verb : Verb) → verb_of J id.0 ≡ Some verb → peer_of J id.0 ≡ Some (peer_is.Server s) → region_called verb ≡ Some r
      → Safe J (record o { actors = set_actor o.actors s (Some (serve_verb a id verb).0); reports = with_report o.reports (serve_verb a id verb).1 })
  safe_served (verb_is.AssignRegion q) called peer about =
      let e : q ≡ r = same_Some q r about in
      subst (λ x. Safe J (record o { actors = set_actor o.actors s (Some (serve_verb a id (verb_is.AssignRegion x)).0); reports = with_report o.reports (serve_verb a id (verb_is.AssignRegion x)).1 })) (sym e)
      (let own : verb_of J id.0 ≡ Some (verb_is.AssignRegion r) = called ∙ ap (λ x. Some (verb_is.AssignRegion x)) e in
      safe_open (verb_is.AssignRegion r, own, refl, peer) own (nat_lt 0 a.refusals) refl (opening a r) refl)
  safe_served (verb_is.CloseRegion q) called peer about =
      let e : q ≡ r = same_Some q r about in
      subst (λ x. Safe J (record o { actors = set_actor o.actors s (Some (serve_verb a id (verb_is.CloseRegion x)).0); reports = with_report o.reports (serve_verb a id (verb_is.CloseRegion x)).1 })) (sym e)
      (let own : verb_of J id.0 ≡ Some (verb_is.CloseRegion r) = called ∙ ap (λ x. Some (verb_is.CloseRegion x)) e in
      safe_by J o safe r s id a is (verb_is.CloseRegion r, own, refl, peer) (closing a) (fit_by (verb_is.CloseRegion r) own told_is.Closed refl) (λ new free h. absurd (false≢true h)) (λ told. absurd (shut told)) (age (a.last r) id) refl)
  safe_served verb called peer about = absurd (none-some r about)

-- a call to a server is delivered
pub safe_to_server : (J : Past) (o : Outside) → Safe J o → (call : Call) (s : Server) → verb_of J call.id.0 ≡ Some call.verb → peer_of J call.id.0 ≡ Some (peer_is.Server s) → (x : Option Actor) → o.actors s ≡ x
    → Safe J (record o { actors = set_actor o.actors s (behind_call x call); reports = with_report o.reports (answer_of_actor x call) })
safe_to_server J o safe call s called peer None is = safe_die J o s safe
safe_to_server J o safe call s called peer (Some a) is = by (region_called call.verb) refl
  where
    from : (t : Server) (c : Actor) → set_actor o.actors s (Some a) t ≡ Some c → From J o t c
    from t c run = elim (who_runs o.actors s (Some a) t c run) [
      | inl here ↦ same_actors J o t c (ap o.actors (sym here.0) ∙ is ∙ here.1)
      | inr other ↦ same_actors J o t c other.1
    ]

    as_it_was : Safe J (record o { actors = set_actor o.actors s (Some a); reports = o.reports })
    as_it_was = safe_manned J o safe (set_actor o.actors s (Some a)) from

    served : (verb : Verb) → region_called verb ≡ None → Safe J (record o { actors = set_actor o.actors s (Some (serve_verb a call.id verb).0); reports = with_report o.reports (serve_verb a call.id verb).1 })
    served (verb_is.AssignRegion q) none = absurd (none-some q (sym none))
    served (verb_is.CloseRegion q) none = absurd (none-some q (sym none))
    served verb none = as_it_was

    by : (o' : Option Region) → region_called call.verb ≡ o' → Safe J (record o { actors = set_actor o.actors s (Some (serve a call).0); reports = with_report o.reports (serve a call).1 })
    by None none = served call.verb none
    by (Some r) about = safe_served J o safe r s call.id a is call.verb called peer about
