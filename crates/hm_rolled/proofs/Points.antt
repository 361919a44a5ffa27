-- The points in terms of the master's own journal, and that nothing is held twice in its terms.
use Rattle.std.proofs.Common.{◌≡◌, ◌≢◌, ℕ, ◌≤◌, ◌<◌, true, false, Some, refl, ap, sym, ◌∙◌, subst, inl, inr}
use Rattle.std.proofs.lemmas.Bool.{cases_eq, or_left, true≢false}
use Rattle.std.proofs.lemmas.Option.{same_Some}
use Rattle.hm_names.specs.Region.{Region}
use Rattle.hm_names.specs.Server.{Server}
use Rattle.hm_names.specs.declared.range.KeyRange.{KeyRange}
use Rattle.hm_data.specs.declared.call.Peer.TheVariants as peer_is
use Rattle.hm_data.specs.declared.call.Verb.TheVariants as verb_is
use Rattle.hm_data.specs.declared.catalog.CatKey.TheVariants as key_is
use Rattle.hm_model.specs.Actors.{Actor, holds}
use Rattle.hm_model.specs.Answers.{is_stopped, last_answer}
use Rattle.hm_model.specs.Catalog.{cat}
use Rattle.hm_model.specs.Fleet.{is_fenced}
use Rattle.hm_model.specs.Journal.{Past}
use Rattle.hm_model.specs.Keys.{same_region}
use Rattle.hm_model.specs.Procedures.{offset}
use Rattle.hm_model.specs.Ranges.{IsLiveWith}
use Rattle.hm_model.specs.Reports.{last_call, peer_of, verb_of}
use Rattle.hm_model.specs.Rules.{IsLegal}
use Rattle.hm_model.proofs.KeyTests.{same_region-refl}
use Rattle.hm_cover.proofs.Never.{never_overlap}
use Rattle.hm_rebase.specs.Alike.{Alike}
use Rattle.hm_world_model.specs.Outside.{Outside}
use Rattle.hm_world_model.specs.Points.{IsShut, MayHold}
use Rattle.hm_world_model.specs.Safe.{CallsTo, HasServed, Runs, Safe}
use Rattle.hm_world_model.specs.Twice.{Holds, Twice}
use Rattle.hm_world_model.specs.World.{first, own, rebased_by, whole}
use Rattle.hm_world_model.proofs.Appending.{reported_served}
use Rattle.hm_world_model.proofs.Facts.{last_about, node_called, one_server}
use Rattle.hm_world_model.proofs.Known.{uncalled}
use Rattle.hm_world_model.proofs.Opening.{unfenced_of}
use Rattle.hm_world_model.proofs.Points.{held_at, not_twice, points, safe_first}
use Rattle.hm_world_model.proofs.Progress.{earlier_ended, ended_is}
use Rattle.hm_world_model.proofs.Ranges.{live_apart}
use Rattle.hm_world_model.proofs.Servers.{not_up}
use Rattle.hm_world_model.proofs.Tails.{newer_of, safe_past}
use Rattle.hm_rolled.specs.Own.{NeverTwiceOwn}
use Rattle.hm_rolled.specs.Points.{OwnPoints, OwnPointsHold}
use Rattle.hm_rolled.proofs.Calls.{calls_back, last_back, last_on, new_call, runs_back, same_call, same_peer}
use Rattle.hm_rolled.proofs.Held.{held_based, placed_own}
use Rattle.hm_rolled.proofs.Rebasing.{rebased_alike, rolled_at, rolled_past}
use Rattle.hm_rolled.proofs.Told.{IsTold, last_told}

module _ (J K : Past) (o : Outside) (safe : Safe J o) (legal : IsLegal K) (alike : Alike J K) where
  new_last : (r : Region) (q : ℕ) → last_call K r ≡ Some q → offset K < q
  new_last r q last = (let about = last_about K legal r q last in new_call K legal q about.0 about.1)

  served : (p : ℕ) (r : Region) (s : Server) (a : Actor) → CallsTo K p r s → last_call K r ≢ Some p → Runs K o s a → HasServed a r p
  served p r s a to other_last run =
      safe.servers.done p r s a (calls_back J K safe.legal legal alike p r s to) (runs_back J K safe.legal legal alike o s a run)
      (λ last. other_last (last_on J K safe.legal legal alike r p last (new_call K legal p to.0 to.1)))

  alone : (r : Region) (q : ℕ) → last_call K r ≡ Some q → (s : Server) (a : Actor) → Runs K o s a → MayHold J a r s → peer_of K q ≡ Some (peer_is.Server s)
  alone r q last s a run may =
      let all = points J o safe in
      let holders = all.holders in
      let found = holders.alone r s a (runs_back J K safe.legal legal alike o s a run) may in
      let same : found.0 ≡ q = same_Some found.0 q (sym found.1 ∙ last_back J K safe.legal legal alike r q last) in
      sym (same_peer J K safe.legal legal alike q (new_last r q last)) ∙ ap (peer_of J) (sym same) ∙ found.2

  closed : (r : Region) (p : ℕ) → last_call K r ≡ Some p → IsShut K p → (s : Server) (a : Actor) → Runs K o s a → holds a r ≡ false
  closed r p last shut s a run =
      let all = points J o safe in
      let holders = all.holders in
      let same = alike.same p (new_last r p last) in
      holders.closed r p (last_back J K safe.legal legal alike r p last)
      (elim shut [ inl failed ↦ inl (same.report ∙ failed) | inr was_closed ↦ inr (same.report ∙ was_closed) ])
      s a (runs_back J K safe.legal legal alike o s a run)

  -- an older call has ended, so it was answered, or its server is fenced
  module _ (p : ℕ) (r : Region) (s : Server) (a : Actor) (le : p ≤ offset K) (verb : verb_of J p ≡ Some (verb_is.AssignRegion r)) (peer : peer_of J p ≡ Some (peer_is.Server s)) (run : Runs J o s a) where
    to_it : CallsTo J p r s
    to_it = (verb_is.AssignRegion r, verb, refl, peer)

    stopped : is_stopped (last_answer J p) ≡ true
    stopped =
        let node = node_called J safe.legal p (verb_is.AssignRegion r) verb in
        sym (ended_is J safe.legal p r s to_it) ∙ alike.over p node.0 le node.1

    told_served : IsTold J p → HasServed a r p
    told_served (inl told) = reported_served J o safe p r s a told.0 told.1 to_it run.0
    told_served (inr gone) = absurd (true≢false (sym gone.2 ∙ ap (is_fenced J) (one_server (peer_of J p) gone.0 s gone.1 peer) ∙ run.1))

    old_served : HasServed a r p
    old_served =
        let last = earlier_ended J safe.legal p r s to_it in
        elim (cases_eq p last.0) [
          | inl same ↦ told_served (last_told J safe.legal r p (last.1 ∙ ap Some (sym same)) stopped)
          | inr differs ↦ safe.servers.done p r s a to_it run (λ e. differs (same_Some p last.0 (sym e ∙ last.1)))
        ]

  -- what is held is live by the rows, which are the same
  live_at : (r : Region) (s : Server) (a : Actor) → Runs J o s a → holds a r ≡ true → (range : KeyRange) × IsLiveWith (cat K) r range
  live_at r s a run held =
      let live = held_at J o safe r s a run held in
      (live.0, (live.1.0, sym (alike.rows (key_is.Region r)) ∙ live.1.1))

  own_points : OwnPoints J K o
  own_points = record {
    new = new_call K legal;
    served = served;
    never_again = λ p r s to allowed. uncalled K legal s (not_up K s (newer_of K s allowed)) p r to;
    sent = λ call among high. sym (same_call J K safe.legal legal alike call.id.0 high) ∙ safe.calls.sent_is call among;
    alone = alone;
    closed = closed;
    old = λ p r s a le verb peer run. old_served p r s a le verb peer (runs_back J K safe.legal legal alike o s a run);
    based = λ r s a none run held. held_based J K o safe legal alike r s a none (runs_back J K safe.legal legal alike o s a run) held;
    placed = λ r s a run may. placed_own J K o safe alike r s a (runs_back J K safe.legal legal alike o s a run) may;
    fenced = λ s gone. safe.fences_are s (alike.fenced s ∙ gone);
    live = λ r s a run held. live_at r s a (runs_back J K safe.legal legal alike o s a run) held;
    apart = never_overlap K legal;
  }

  live_of : (r : Region) (s : Server) → Holds o s r → (range : KeyRange) × IsLiveWith (cat K) r range
  live_of r s x = live_at r s x.0 (x.1, unfenced_of J o safe s x.3) x.2

  own_not_twice : Twice K o → ⊥
  own_not_twice h =
      let same : h.0 ≡ h.1 = live_apart K (never_overlap K legal) h.0 h.1 (live_of h.0 h.2 h.6) (live_of h.1 h.3 h.7) h.4 in
      not_twice J o safe (h.0, h.1, h.2, h.3, or_left (same_region h.0 h.1) _ (subst (λ b. same_region h.0 b ≡ true) same (same_region-refl h.0)), h.5, h.6, h.7)

pub own_points_are : OwnPointsHold
own_points_are w kept k low high =
    let safe = safe_first w kept k low high in
    let rolled = rebased_alike (first k (whole w)) safe.legal w.rolled (rolled_at w kept k low high) in
    own_points (first k (whole w)) (rebased_by w.rolled (first k (whole w))) w.outside safe rolled.0 rolled.1

pub own_never_twice : NeverTwiceOwn
own_never_twice w kept h =
    let safe = safe_past w kept in
    let rolled = rebased_alike w.past safe.legal w.rolled (rolled_past w kept) in
    own_not_twice w.past (own w) w.outside safe rolled.0 rolled.1 h
