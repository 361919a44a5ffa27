-- A master that opens a journal keeps what is kept, and what is kept is never twice.
use Rattle.std.proofs.Common.{◌≡◌, ℕ, List, [], ◌∷◌, ◌==◌, ◌&&◌, true, false, Some, refl, ap, sym, ◌∙◌, subst, inl, inr, arith}
use Rattle.std.proofs.lemmas.Bool.{and_from, cases_eq, cond-false, cond-true, eq-eqb, false_from_ne_true, ne_eqb, or_left, or_right, true≢false}
use Rattle.std.proofs.lemmas.Option.{none-some, same_Some}
use Rattle.hm_names.specs.Region.{Region}
use Rattle.hm_names.specs.Server.{Server}
use Rattle.hm_data.specs.Numbers.{told_number}
use Rattle.hm_data.specs.declared.args.Args.{Args}
use Rattle.hm_data.specs.declared.args.Args.TheVariants as args_are
use Rattle.hm_data.specs.declared.call.Peer.TheVariants as peer_is
use Rattle.hm_data.specs.declared.call.Told.{Told}
use Rattle.hm_data.specs.declared.call.Told.TheVariants as told_is
use Rattle.hm_data.specs.declared.call.Verb.TheVariants as verb_is
use Rattle.hm_data.specs.declared.entry.Entry.{Entry}
use Rattle.hm_data.specs.declared.entry.Entry.TheVariants as entry_is
use Rattle.hm_model.specs.Actors.{Actor}
use Rattle.hm_model.specs.Answers.{report_of}
use Rattle.hm_model.specs.Fleet.{fences_by, fences_if, is_fenced, same_server}
use Rattle.hm_model.specs.Journal.{Past}
use Rattle.hm_model.specs.Reports.{fits_verb, last_call, peer_of, verb_of}
use Rattle.hm_model.specs.Rules.{IsLegal}
use Rattle.hm_model.specs.Tree.{node_of}
use Rattle.hm_model.specs.Verbs.{verb_in}
use Rattle.hm_model.proofs.Calls.{reports_fit}
use Rattle.hm_model.proofs.NameTies.{same_server-refl}
use Rattle.hm_model.proofs.CallSteps.{fenced_only}
use Rattle.hm_world_model.specs.Events.{Event}
use Rattle.hm_world_model.specs.Outside.{Outside, nobody}
use Rattle.hm_world_model.specs.Runs.{IsRun, after}
use Rattle.hm_world_model.specs.Safe.{HeldBy, IsKept, Safe}
use Rattle.hm_world_model.specs.Claimed.{ClaimedOnce, NeverClash}
use Rattle.hm_world_model.specs.Kept.{EventsKeep, OpenedIsKept}
use Rattle.hm_world_model.specs.Twice.{HeldByOne, Holds, IsHeldByTwo, KeptIsHeldByOne}
use Rattle.hm_world_model.specs.World.{World, opened, shown_storage, whole}
use Rattle.hm_world_model.proofs.Facts.{node_called, one_server, same_verb, verb_now}
use Rattle.hm_world_model.proofs.Apart.{apart_opened}
use Rattle.hm_world_model.proofs.Rolling.{plain_opened}
use Rattle.hm_world_model.proofs.Tails.{event_keeps, within_whole}

fence_args : (args : Args) (s : Server) → verb_in args ≡ Some (verb_is.Fence s) → fences_by args s ≡ true
fence_args (args_are.FenceCall other) s is = subst (λ x. same_server s x ≡ true) (one (same_Some (verb_is.Fence other) (verb_is.Fence s) is)) (same_server-refl s)
  where
    one : verb_is.Fence other ≡ verb_is.Fence s → s ≡ other
    one e = cc
fence_args (args_are.AssignCall region server) s is = absurd (never (same_Some _ _ is))
  where
    never : verb_is.AssignRegion region ≡ verb_is.Fence s → ⊥
    never e = cc
fence_args (args_are.CloseCall region server) s is = absurd (never (same_Some _ _ is))
  where
    never : verb_is.CloseRegion region ≡ verb_is.Fence s → ⊥
    never e = cc
fence_args (args_are.LayoutCall root) s is = absurd (never (same_Some _ _ is))
  where
    never : verb_is.Layout root ≡ verb_is.Fence s → ⊥
    never e = cc
fence_args (args_are.SweepLayout root) s is = absurd (never (same_Some _ _ is))
  where
    never : verb_is.Sweep root ≡ verb_is.Fence s → ⊥
    never e = cc
fence_args args s is = absurd (none-some (verb_is.Fence s) is)

-- the report of a fence shows it
module _ (entry : Entry) (J : Past) (legal : IsLegal (entry ∷ J)) (p : ℕ) (told : Told) (s : Server) (verb : verb_of (entry ∷ J) p ≡ Some (verb_is.Fence s)) where
  verb_before : report_of J p ≡ Some told → verb_of J p ≡ Some (verb_is.Fence s)
  verb_before h = let v = reports_fit J legal.0 p told h in v.1 ∙ ap Some (same_verb (entry ∷ J) p v.0 (verb_is.Fence s) (verb_now entry J legal p v.0 v.1) verb)

pub reported_fence : (J : Past) → IsLegal J → (p : ℕ) (told : Told) (s : Server) → report_of J p ≡ Some told → verb_of J p ≡ Some (verb_is.Fence s) → is_fenced J s ≡ true
reported_fence [] legal p told s h v = absurd (none-some told h)
reported_fence (entry_is.Report call now ∷ J) legal p told s h v = elim (cases_eq p call.0) [
  | inl same ↦
      let one : now ≡ told = same_Some now told (sym (cond-true (p == call.0) (Some now) (report_of J p) (eq-eqb p call.0 same)) ∙ h) in
      let fit = reports_fit (entry_is.Report call now ∷ J) legal p told h in
      let fits : fits_verb (verb_is.Fence s) now ≡ true = ap (fits_verb (verb_is.Fence s)) one ∙ ap (λ x. fits_verb x told) (same_verb (entry_is.Report call now ∷ J) p (verb_is.Fence s) fit.0 v fit.1) ∙ fit.2 in
      let own : verb_of J call.0 ≡ Some (verb_is.Fence s) = ap (verb_of J) (sym same) ∙ v in
      let node = node_called J legal.0 call.0 (verb_is.Fence s) own in
      or_left ((told_number now == told_number told_is.Fenced) && fences_if (node_of J call.0) s) (is_fenced J s)
      (and_from (told_number now == told_number told_is.Fenced) (fences_if (node_of J call.0) s) (fenced_only s now fits) (ap (λ n. fences_if n s) node.1 ∙ fence_args node.0.args s node.2))
  | inr differs ↦
      or_right ((told_number now == told_number told_is.Fenced) && fences_if (node_of J call.0) s) (is_fenced J s)
      (reported_fence J legal.0 p told s (sym (cond-false (p == call.0) (Some now) (report_of J p) (ne_eqb p call.0 differs)) ∙ h) v)
]
reported_fence (entry_is.Base part ∷ J) legal p told s h v = absurd (none-some told h)
reported_fence (entry ∷ J) legal p told s h v = reported_fence J legal.0 p told s h (verb_before entry J legal p told s v h)

safe_opened : (J : Past) → IsLegal J → Safe J (nobody (shown_storage J))
safe_opened J legal = record {
  legal = legal;
  calls = record {
    sent_is = λ call h. absurd h;
    made_is = λ report h. absurd h;
    recorded = λ p told h. let f = reports_fit J legal p told h in record {
      verb = f.0;
      called = f.1;
      fits = f.2;
      told_by = λ r s to a run. absurd (none-some a run);
      fenced = λ s e. reported_fence J legal p told s h (f.1 ∙ ap Some e);
    };
    stored = λ id told h. absurd (none-some told h);
  };
  servers = record {
    named = λ s a run. absurd (none-some a run);
    served_is = λ s a r last run. absurd (none-some a run);
    opened_is = λ s a r last run. absurd (none-some a run);
    done = λ p r s a to run. absurd (none-some a run.0);
    unbased = λ whole r s a run. absurd (none-some a run);
    held = λ r s a run. absurd (none-some a run.0);
  };
  fences_are = λ s h. h;
}

pub opened_kept : OpenedIsKept
opened_kept J legal = record {
  within = omega arith;
  tailless = λ e. refl;
  wire_is = λ call h. absurd h;
  waiting_is = λ report h. absurd h;
  apart = apart_opened J legal;
  tails = λ n h. let zero_is : n ≡ 0 = omega (arith, h) in rw zero_is (safe_opened J legal);
  plain = plain_opened J;
  rolls = λ r is. absurd (none-some r is);
}

pub events_keep : EventsKeep
events_keep w event kept may = event_keeps w event kept may

-- the server of the last call of a region that is held
module _ (J : Past) (o : Outside) (safe : Safe J o) where
  pub last_server : (a : Actor) (r : Region) (s : Server) → HeldBy J a r s → (p : ℕ) × (last_call J r ≡ Some p) × (peer_of J p ≡ Some (peer_is.Server s))
  last_server a r s h = elim h.3 [ inl own ↦ (h.0.id.0, own.0, own.2) | inr q ↦ (q.0, q.2.0, q.2.2) ]

  pub unfenced_of : (s : Server) → o.storage.fenced s ≡ false → is_fenced J s ≡ false
  unfenced_of s free = false_from_ne_true (is_fenced J s) (λ fenced. true≢false (sym (safe.fences_are s fenced) ∙ free))

  pub held_last : (r : Region) (s : Server) → Holds o s r → (p : ℕ) × (last_call J r ≡ Some p) × (peer_of J p ≡ Some (peer_is.Server s))
  held_last r s h = last_server h.0 r s (safe.servers.held r s h.0 (h.1, unfenced_of s h.3) h.2)

  pub not_by_two : IsHeldByTwo o → ⊥
  not_by_two h =
      let one = held_last h.0 h.1 h.4 in
      let other = held_last h.0 h.2 h.5 in
      h.3 (one_server (peer_of J one.0) h.1 h.2 one.2 (ap (peer_of J) (same_Some one.0 other.0 (sym one.1 ∙ other.1)) ∙ other.2))

pub kept_by_one : KeptIsHeldByOne
kept_by_one w kept h = not_by_two (whole w) w.outside (kept.tails 0 (within_whole w kept)) h

pub kept_after : (w : World) → IsKept w → (events : List Event) → IsRun w events → IsKept (after w events)
kept_after w kept [] run = kept
kept_after w kept (event ∷ before) run = event_keeps (after w before) event (kept_after w kept before run.0) run.1

pub claimed_once_is : ClaimedOnce
claimed_once_is J legal events run = (kept_after (opened J) (opened_kept J legal) events run).apart.once

pub never_clash_is : NeverClash
never_clash_is J legal events run = (kept_after (opened J) (opened_kept J legal) events run).apart.none_clash

pub held_by_one_is : HeldByOne
held_by_one_is J legal events run h = kept_by_one (after (opened J) events) (kept_after (opened J) (opened_kept J legal) events run) h
