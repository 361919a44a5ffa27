-- Recording an entry keeps what is kept.
use Rattle.std.proofs.Common.{◌≡◌, ◌≢◌, ℕ, ◌<◌, ◌≤◌, ◌∷◌, ◌==◌, ◌&&◌, true, false, Option, Some, None, refl, ap, sym, ◌∙◌, subst, inl, inr, ◌⊎◌, arith}
use Rattle.std.proofs.lemmas.Bool.{and_parts, cases_eq, cond-false, cond-true, eq-eqb, false≢true, ne_eqb, or_cases, or_parts, true≢false}
use Rattle.std.proofs.lemmas.Option.{none-some, same_Some}
use Rattle.hm_names.specs.Region.{Region}
use Rattle.hm_names.specs.Server.{Server}
use Rattle.hm_names.specs.declared.pid.Pid.{Pid}
use Rattle.hm_data.specs.Numbers.{told_number}
use Rattle.hm_data.specs.declared.args.Args.TheVariants as args_are
use Rattle.hm_data.specs.declared.call.Peer.TheVariants as peer_is
use Rattle.hm_data.specs.declared.call.Told.{Told}
use Rattle.hm_data.specs.declared.call.Told.TheVariants as told_is
use Rattle.hm_data.specs.declared.call.Verb.{Verb}
use Rattle.hm_data.specs.declared.call.Verb.TheVariants as verb_is
use Rattle.hm_data.specs.declared.entry.Entry.{Entry}
use Rattle.hm_data.specs.declared.entry.Entry.TheVariants as entry_is
use Rattle.hm_data.specs.declared.step.StepOut.{StepOut}
use Rattle.hm_model.specs.Actors.{Actor, Served, holds}
use Rattle.hm_model.specs.Answers.{report_of}
use Rattle.hm_model.specs.Fleet.{fences_if, is_fenced}
use Rattle.hm_model.specs.Journal.{Past}
use Rattle.hm_model.specs.Reports.{fits_verb, last_call, peer_in, peer_of, verb_of}
use Rattle.hm_model.specs.Rules.{IsLegal}
use Rattle.hm_model.specs.Tree.{Node, node_of}
use Rattle.hm_model.specs.Verbs.{verb_in}
use Rattle.hm_model.proofs.Calls.{reports_fit}
use Rattle.hm_model.proofs.Grown.{nodes_stay}
use Rattle.hm_model.proofs.Trees.{verb_was}
use Rattle.hm_single.specs.Calls.{Finds, IsLater, IsOpenedBy, IsVoid, IsVoidCall}
use Rattle.hm_single.proofs.All.{calls_find}
use Rattle.hm_world_model.specs.Outside.{Outside}
use Rattle.hm_world_model.specs.Runs.{IsMade, IsTrueReport}
use Rattle.hm_world_model.specs.Safe.{CallsTo, HasServed, HeldBy, IsLast, Made, Runs, Safe}
use Rattle.hm_world_model.proofs.Based.{LeavesBase, leaves_base}
use Rattle.hm_world_model.proofs.Facts.{Touch, call_now, calls_back, calls_now, closes, fences_verb, fit_now, last_made, node_called, one_server, opens, peer_same, same, same_verb, touch, verb_made, verb_now}

-- what stays after an entry
module _ (entry : Entry) (J : Past) (legal : IsLegal (entry ∷ J)) (o : Outside) (safe : Safe J o) where
  pub made_now : (p : ℕ) (told : Told) → Made J o p told → Made (entry ∷ J) o p told
  made_now p told h = record {
    verb = h.verb;
    called = verb_now entry J legal p h.verb h.called;
    fits = h.fits;
    told_by = λ q t to. h.told_by q t (calls_back entry J legal p h.verb q t h.called to);
    fenced = h.fenced;
  }

  -- what depends on the calls' reports, fences and last ones alone
  pub safe_behind : LeavesBase entry J → ((p : ℕ) (told : Told) → report_of (entry ∷ J) p ≡ Some told → Made (entry ∷ J) o p told)
      → ((p : ℕ) (r : Region) (s : Server) (a : Actor) → CallsTo (entry ∷ J) p r s → Runs (entry ∷ J) o s a → last_call (entry ∷ J) r ≢ Some p → HasServed a r p)
      → ((r : Region) (s : Server) (a : Actor) → Runs (entry ∷ J) o s a → holds a r ≡ true → HeldBy (entry ∷ J) a r s)
      → ((s : Server) → is_fenced (entry ∷ J) s ≡ true → o.storage.fenced s ≡ true) → Safe (entry ∷ J) o
  safe_behind leaves recorded done held fences = record {
    legal = legal;
    calls = record {
      sent_is = λ call h. call_now entry J legal call (safe.calls.sent_is call h);
      made_is = λ report h. let k = safe.calls.made_is report h in (made_now report.call.0 report.told k.0, peer_same entry J legal report.call.0 k.0.verb k.0.called ∙ k.1);
      recorded = recorded;
      stored = λ id told h. let k = safe.calls.stored id told h in (made_now id.0 told k.0, peer_same entry J legal id.0 k.0.verb k.0.called ∙ k.1);
    };
    servers = record {
      named = safe.servers.named;
      opened_is = safe.servers.opened_is;
      served_is = λ s a r last run h. let k = safe.servers.served_is s a r last run h in (calls_now entry J legal last.id.0 r s k.0, fit_now entry J legal last.id.0 k.0.0 last.told k.0.1 k.1);
      done = done;
      unbased = λ whole r s a run is. safe.servers.unbased leaves.0 r s a run (sym (leaves.1 r) ∙ is);
      held = held;
    };
    fences_are = fences;
  }

  last_now : (r : Region) → last_call (entry ∷ J) r ≡ last_call J r → (p : ℕ) (verb : Verb) (s : Server) → IsLast J r p verb s → IsLast (entry ∷ J) r p verb s
  last_now r lasts p verb s h = (lasts ∙ h.0, verb_now entry J legal p verb h.1, peer_same entry J legal p verb h.1 ∙ h.2)

  pub held_now : (r : Region) → last_call (entry ∷ J) r ≡ last_call J r → (s : Server) (a : Actor) → HeldBy J a r s → HeldBy (entry ∷ J) a r s
  held_now r lasts s a h = (h.0, h.1, h.2, elim h.3 [ inl own ↦ inl (last_now r lasts h.0.id.0 (verb_is.AssignRegion r) s own) | inr q ↦ inr (q.0, q.1, last_now r lasts q.0 (verb_is.CloseRegion r) s q.2) ])

  -- an entry that records no call and no report
  pub safe_calm : LeavesBase entry J → ((p : ℕ) → verb_of (entry ∷ J) p ≡ verb_of J p) → ((p : ℕ) → report_of (entry ∷ J) p ≡ report_of J p) → ((r : Region) → last_call (entry ∷ J) r ≡ last_call J r)
      → ((s : Server) → is_fenced (entry ∷ J) s ≡ is_fenced J s) → Safe (entry ∷ J) o
  safe_calm leaves verbs reports lasts fences = safe_behind leaves
      (λ p told h. made_now p told (safe.calls.recorded p told (sym (reports p) ∙ h)))
      (λ p r s a to run other_last. safe.servers.done p r s a (calls_back entry J legal p to.0 r s (sym (verbs p) ∙ to.1) to) (run.0, sym (fences s) ∙ run.1) (λ e. other_last (lasts r ∙ e)))
      (λ r s a run h. held_now r (lasts r) s a (safe.servers.held r s a (run.0, sym (fences s) ∙ run.1) h))
      (λ s h. safe.fences_are s (sym (fences s) ∙ h))

-- a report that was made
module _ (call : Pid) (told : Told) (J : Past) (legal : IsLegal (entry_is.Report call told ∷ J)) (o : Outside) (safe : Safe J o) (true_report : IsMade o call told) where
  made_of : Made J o call.0 told
  made_of =
      let k = (safe.calls.made_is true_report.0 true_report.1).0 in
      subst (λ t. Made J o call.0 t) true_report.3 (subst (λ (c : Pid). Made J o c.0 true_report.0.told) true_report.2 k)

  unfenced : (s : Server) → is_fenced (entry_is.Report call told ∷ J) s ≡ false → is_fenced J s ≡ false
  unfenced s h = (or_parts ((told_number told == told_number told_is.Fenced) && fences_if (node_of J call.0) s) (is_fenced J s) h).1

  report_recorded : (p : ℕ) (t : Told) → report_of (entry_is.Report call told ∷ J) p ≡ Some t → Made J o p t
  report_recorded p t h = elim (cases_eq p call.0) [
    | inl e ↦ subst (λ n. Made J o n t) (sym e) (subst (Made J o call.0) (same_Some told t (sym (cond-true (p == call.0) (Some told) (report_of J p) (eq-eqb p call.0 e)) ∙ h)) made_of)
    | inr differs ↦ safe.calls.recorded p t (sym (cond-false (p == call.0) (Some told) (report_of J p) (ne_eqb p call.0 differs)) ∙ h)
  ]

  fenced_by : (s : Server) → fences_if (node_of J call.0) s ≡ true → o.storage.fenced s ≡ true
  fenced_by s h =
      let v = node_called J safe.legal call.0 made_of.verb made_of.called in
      let own : verb_in v.0.args ≡ Some (verb_is.Fence s) = fences_verb v.0.args s (ap (λ n. fences_if n s) (sym v.1) ∙ h) in
      made_of.fenced s (same_Some made_of.verb (verb_is.Fence s) (sym v.2 ∙ own))

  report_fences : (s : Server) → is_fenced (entry_is.Report call told ∷ J) s ≡ true → o.storage.fenced s ≡ true
  report_fences s h = elim (or_cases ((told_number told == told_number told_is.Fenced) && fences_if (node_of J call.0) s) (is_fenced J s) h) [
    | inl new ↦ fenced_by s (and_parts (told_number told == told_number told_is.Fenced) (fences_if (node_of J call.0) s) new).1
    | inr old ↦ safe.fences_are s old
  ]

  pub safe_report : Safe (entry_is.Report call told ∷ J) o
  safe_report = safe_behind (entry_is.Report call told) J legal o safe (leaves_base (entry_is.Report call told) J legal o true_report)
      (λ p t h. made_now (entry_is.Report call told) J legal o safe p t (report_recorded p t h))
      (λ p r s a to run other_last. safe.servers.done p r s a (calls_back (entry_is.Report call told) J legal p to.0 r s to.1 to) (run.0, unfenced s run.1) other_last)
      (λ r s a run h. held_now (entry_is.Report call told) J legal o safe r refl s a (safe.servers.held r s a (run.0, unfenced s run.1) h))
      report_fences

-- what is told of a call whose server runs and isn't fenced
module _ (J : Past) (o : Outside) (safe : Safe J o) where
  pub told_served : (p : ℕ) (r : Region) (s : Server) (a : Actor) (told : Told) → report_of J p ≡ Some told → CallsTo J p r s → o.actors s ≡ Some a
      → (last : Served) × (a.last r ≡ Some last) × ((p < last.id.0) ⊎ ((p ≡ last.id.0) × (told ≡ last.told)))
  told_served p r s a told h to run = (safe.calls.recorded p told h).told_by r s to a run

  pub reported_served : (p : ℕ) (r : Region) (s : Server) (a : Actor) (told : Told) → report_of J p ≡ Some told → CallsTo J p r s → o.actors s ≡ Some a → HasServed a r p
  reported_served p r s a told h to run = (let k = told_served p r s a told h to run in (k.0, k.1, le k.0.id.0 k.2))
    where
      le : (n : ℕ) {q : Told} → (p < n) ⊎ ((p ≡ n) × (told ≡ q)) → p ≤ n
      le n (inl x) = omega (arith, x)
      le n (inr x) = let e = x.0 in omega (arith, e)

  -- a call that is void was answered so
  pub void_told : (p : ℕ) (s : Server) (a : Actor) → Runs J o s a → peer_of J p ≡ Some (peer_is.Server s) → IsVoidCall J p → (told : Told) × (report_of J p ≡ Some told) × (told ≢ told_is.Opened)
  void_told p s a run peer void = elim void [
    | inl failed ↦ (told_is.FailedOpen, failed, failed_opened)
    | inr more ↦ elim more [
      | inl closed ↦ (told_is.Closed, closed, closed_opened)
      | inr gone ↦ absurd (true≢false (sym gone.2 ∙ ap (is_fenced J) (one_server (peer_of J p) gone.0 s gone.1 peer) ∙ run.1))
    ]
  ]
    where
      failed_opened : told_is.FailedOpen ≢ told_is.Opened
      failed_opened e = cc

      closed_opened : told_is.Closed ≢ told_is.Opened
      closed_opened e = cc

  -- nobody holds a region whose last call is void
  pub void_held : (r : Region) (s : Server) (a : Actor) → Runs J o s a → IsVoid J r (last_call J r) → HeldBy J a r s → ⊥
  void_held r s a run void h = elim h.3 [
    | inl own ↦
        let v = void_told h.0.id.0 s a run own.2 (subst (IsVoid J r) own.0 void) in
        let k = told_served h.0.id.0 r s a v.0 v.1 (verb_is.AssignRegion r, own.1, refl, own.2) run.0 in
        not_both v.0 v.2 k.0 (same_Some k.0 h.0 (sym k.1 ∙ h.1)) k.2
    | inr q ↦
        let v = void_told q.0 s a run q.2.2 (subst (IsVoid J r) q.2.0 void) in
        let k = told_served q.0 r s a v.0 v.1 (verb_is.CloseRegion r, q.2.1, refl, q.2.2) run.0 in
        not_yet q.0 q.1 v.0 k.0 (same_Some k.0 h.0 (sym k.1 ∙ h.1)) k.2
  ]
    where
      not_both : (t : Told) → t ≢ told_is.Opened → (m : Served) → m ≡ h.0 → (h.0.id.0 < m.id.0) ⊎ ((h.0.id.0 ≡ m.id.0) × (t ≡ m.told)) → ⊥
      not_both t other m e (inl lt) = let f : m.id.0 ≡ h.0.id.0 = ap (λ (x : Served). x.id.0) e in omega (arith, f, lt)
      not_both t other m e (inr k) = other (k.1 ∙ ap (λ (x : Served). x.told) e ∙ h.2)

      not_yet : (q : ℕ) → h.0.id.0 < q → (t : Told) (m : Served) → m ≡ h.0 → (q < m.id.0) ⊎ ((q ≡ m.id.0) × (t ≡ m.told)) → ⊥
      not_yet q lt t m e (inl x) = let f : m.id.0 ≡ h.0.id.0 = ap (λ (x : Served). x.id.0) e in omega (arith, f, lt, x)
      not_yet q lt t m e (inr x) = let f : m.id.0 ≡ h.0.id.0 = ap (λ (x : Served). x.id.0) e in let g = x.0 in omega (arith, f, lt, g)

-- a step
module _ (pid : Pid) (pick : Option Server) (out : StepOut) (J : Past) (legal : IsLegal (entry_is.Step pid pick out ∷ J)) (o : Outside) (safe : Safe J o) where
  abbrev entry : Entry
  entry = entry_is.Step pid pick out

  found : (node : Node) × (node_of J pid.0 ≡ Some node) × Finds J pid.0 node out.call
  found = calls_find pid pick out J legal

  finds_open : (r : Region) → out.call ≡ Some (verb_is.AssignRegion r) → IsVoid J r (last_call J r)
  finds_open r is = (subst (Finds J pid.0 found.0) is found.2).2

  finds_close : (r : Region) → out.call ≡ Some (verb_is.CloseRegion r) → IsLater pid.0 (last_call J r) × (t : Server) × (found.0.args ≡ args_are.CloseCall r t) × IsOpenedBy J r (last_call J r) t
  finds_close r is = let f = subst (Finds J pid.0 found.0) is found.2 in (f.1, f.2, f.3, f.4)

  -- where a region has a call, its last call opened it
  opened_by : (r : Region) (last : Option ℕ) (t : Server) (p : ℕ) → IsOpenedBy J r last t → last ≡ Some p → (q : ℕ) × (last ≡ Some q) × (peer_of J q ≡ Some (peer_is.Server t)) × (report_of J q ≡ Some told_is.Opened)
  opened_by r last t p (inl call) e = call
  opened_by r last t p (inr none) e = absurd (none-some p (sym none.0 ∙ e))

  silent_before : (verb : Verb) → out.call ≡ Some verb → verb_of J pid.0 ≡ None
  silent_before verb is = by verb (subst (Finds J pid.0 found.0) is found.2)
    where
      by : (v : Verb) → Finds J pid.0 found.0 (Some v) → verb_of J pid.0 ≡ None
      by (verb_is.AssignRegion r) f = f.0
      by (verb_is.CloseRegion r) f = f.0
      by verb f = f

  -- who is called was, where the call was there before
  done_old : (p : ℕ) (r : Region) (s : Server) (a : Actor) → CallsTo J p r s → Runs J o s a → last_call (entry ∷ J) r ≢ Some p → HasServed a r p
  done_old p r s a to run other_last = by (last_call J r) refl
    where
      by_touch : last_call J r ≡ Some p → Touch pid.0 out.call r (last_call (entry ∷ J) r) (last_call J r) → HasServed a r p
      by_touch e (same k) = absurd (other_last (k ∙ e))
      by_touch e (opens v k) = let t = void_told J o safe p s a run to.3 (subst (IsVoid J r) e (finds_open r v)) in reported_served J o safe p r s a t.0 t.1 to run.0
      by_touch e (closes v k) =
          let f = finds_close r v in
          let call = opened_by r (last_call J r) f.1 p f.3 e in
          let own : call.0 ≡ p = same_Some call.0 p (sym call.1 ∙ e) in
          reported_served J o safe p r s a told_is.Opened (ap (report_of J) (sym own) ∙ call.3) to run.0

      by : (l : Option ℕ) → last_call J r ≡ l → HasServed a r p
      by None e = safe.servers.done p r s a to run (λ is. none-some p (sym e ∙ is))
      by (Some q) e = elim (cases_eq q p) [
        | inl own ↦ by_touch (e ∙ ap Some own) (touch pid.0 out.call r (last_call J r))
        | inr differs ↦ safe.servers.done p r s a to run (λ is. differs (same_Some q p (sym e ∙ is)))
      ]

  done_now : (p : ℕ) (r : Region) (s : Server) (a : Actor) → CallsTo (entry ∷ J) p r s → Runs (entry ∷ J) o s a → last_call (entry ∷ J) r ≢ Some p → HasServed a r p
  done_now p r s a to run other_last = elim (verb_was pid pick out J p to.0 to.1) [
    | inl old ↦ done_old p r s a (calls_back entry J legal p to.0 r s old to) run other_last
    | inr new ↦ absurd (other_last (last_made pid pick out J r to.0 new.1 to.2 ∙ ap Some (sym new.0)))
  ]

  -- the close that is called now goes to who holds the region
  close_last : (r : Region) (s : Server) → out.call ≡ Some (verb_is.CloseRegion r) → found.0.args ≡ args_are.CloseCall r s → IsLast (entry ∷ J) r pid.0 (verb_is.CloseRegion r) s
  close_last r s is args =
      let verb = verb_made pid pick out J (verb_is.CloseRegion r) is in
      let v = node_called (entry ∷ J) legal pid.0 (verb_is.CloseRegion r) verb in
      let same_node : v.0 ≡ found.0 = same_Some v.0 found.0 (sym v.1 ∙ nodes_stay entry J legal pid.0 found.0 found.1) in
      (last_made pid pick out J r (verb_is.CloseRegion r) is refl, verb, v.3 ∙ ap (λ (n : Node). Some (peer_in n.args)) same_node ∙ ap (λ x. Some (peer_in x)) args)

  held_step : (r : Region) (s : Server) (a : Actor) → Runs (entry ∷ J) o s a → holds a r ≡ true → HeldBy (entry ∷ J) a r s
  held_step r s a run h = by (touch pid.0 out.call r (last_call J r)) (safe.servers.held r s a run h)
    where
      not_closed : (q : ℕ) → verb_of J q ≡ Some (verb_is.CloseRegion r) → report_of J q ≡ Some told_is.Opened → ⊥
      not_closed q v told = let k = reports_fit J legal.0 q told_is.Opened told in false≢true (ap (λ x. fits_verb x told_is.Opened) (same_verb J q (verb_is.CloseRegion r) k.0 v k.1) ∙ k.2)

      by : Touch pid.0 out.call r (last_call (entry ∷ J) r) (last_call J r) → HeldBy J a r s → HeldBy (entry ∷ J) a r s
      by (same e) held = held_now entry J legal o safe r e s a held
      by (opens v e) held = absurd (void_held J o safe r s a run (finds_open r v) held)
      by (closes v e) held = (let f = finds_close r v in elim held.3 [
        | inl own ↦
            let call = opened_by r (last_call J r) f.1 held.0.id.0 f.3 own.0 in
            let one : call.0 ≡ held.0.id.0 = same_Some call.0 held.0.id.0 (sym call.1 ∙ own.0) in
            let there : f.1 ≡ s = one_server (peer_of J held.0.id.0) f.1 s (ap (peer_of J) (sym one) ∙ call.2) own.2 in
            (held.0, held.1, held.2, inr (pid.0, subst (IsLater pid.0) own.0 f.0, close_last r s v (f.2 ∙ ap (args_are.CloseCall r) there)))
        | inr q ↦
            let call = opened_by r (last_call J r) f.1 q.0 f.3 q.2.0 in
            let one : call.0 ≡ q.0 = same_Some call.0 q.0 (sym call.1 ∙ q.2.0) in
            absurd (not_closed q.0 q.2.1 (ap (report_of J) (sym one) ∙ call.3))
      ])

  pub safe_step : Safe (entry ∷ J) o
  safe_step = safe_behind entry J legal o safe (leaves_base (entry_is.Step pid pick out) J legal o tt) (λ p told h. made_now entry J legal o safe p told (safe.calls.recorded p told h)) done_now held_step safe.fences_are

-- an entry that may come next, a report only where it was made
pub safe_append : (entry : Entry) (J : Past) → IsLegal (entry ∷ J) → (o : Outside) → Safe J o → IsTrueReport o entry → Safe (entry ∷ J) o
safe_append (entry_is.Step pid pick out) J legal o safe true_report = safe_step pid pick out J legal o safe
safe_append (entry_is.Report call told) J legal o safe true_report = safe_report call told J legal o safe true_report
safe_append (entry_is.Base part) J legal o safe true_report = absurd true_report
safe_append entry J legal o safe true_report = safe_calm entry J legal o safe (leaves_base entry J legal o tt) (λ p. refl) (λ p. refl) (λ r. refl) (λ s. refl)
