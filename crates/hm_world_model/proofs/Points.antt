-- The points, from what is kept.
use Rattle.std.proofs.Common.{◌≡◌, ℕ, ◌-◌, ◌≤◌, length, true, false, Option, Some, None, refl, ap, sym, ◌∙◌, subst, inl, inr, arith}
use Rattle.std.proofs.lemmas.Bool.{and_from, cases_Bool, and_parts}
use Rattle.std.proofs.lemmas.Option.{none-some, same_Some}
use Rattle.hm_names.specs.Region.{Region}
use Rattle.hm_names.specs.Server.{Server}
use Rattle.hm_names.specs.declared.range.KeyRange.{KeyRange}
use Rattle.hm_data.specs.declared.answer.Answer.{Answer}
use Rattle.hm_data.specs.declared.answer.Answer.TheVariants as answer_is
use Rattle.hm_data.specs.declared.call.Peer.TheVariants as peer_is
use Rattle.hm_data.specs.declared.call.Verb.TheVariants as verb_is
use Rattle.hm_data.specs.declared.place.Place.{Place}
use Rattle.hm_data.specs.declared.place.RegionState.{RegionState}
use Rattle.hm_data.specs.declared.place.RegionState.TheVariants as place_is
use Rattle.hm_model.specs.Actors.{Actor, holds}
use Rattle.hm_model.specs.Answers.{last_answer}
use Rattle.hm_model.specs.Catalog.{cat}
use Rattle.hm_model.specs.Fleet.{same_server}
use Rattle.hm_model.specs.Journal.{Past}
use Rattle.hm_model.specs.Places.{is_at, is_the_server, place_of}
use Rattle.hm_model.specs.Ranges.{IsLiveWith}
use Rattle.hm_model.specs.Reports.{last_call, peer_of}
use Rattle.hm_model.specs.TransitActs.{is_placed}
use Rattle.hm_model.specs.Tree.{Node, node_of}
use Rattle.hm_model.proofs.NameTies.{same_server-refl}
use Rattle.hm_cover.proofs.Never.{never_overlap}
use Rattle.hm_single.specs.Calls.{IsOpenedBy, IsVoid}
use Rattle.hm_single.proofs.All.{kept_all, one_transit_is, place_by_row}
use Rattle.hm_single.proofs.Closed.{closed_unplaced}
use Rattle.hm_single.proofs.Live.{all_live, all_on}
use Rattle.hm_single.proofs.Stage.{StageFor, child_of_step, work_of}
use Rattle.hm_single.proofs.Transit.{AtRest, AtRow, Calls, at_place}
use Rattle.hm_world_model.specs.Outside.{Outside}
use Rattle.hm_world_model.specs.Points.{HeldAreLive, IsShut, MayHold, Points, PointsHold}
use Rattle.hm_world_model.specs.Runs.{after}
use Rattle.hm_world_model.specs.Safe.{CallsTo, IsKept, Runs, Safe}
use Rattle.hm_world_model.specs.Twice.{Holds, KeptIsNeverTwice, NeverTwice, Twice}
use Rattle.hm_world_model.specs.World.{World, first, opened, whole}
use Rattle.hm_world_model.proofs.Appending.{reported_served, void_held, void_told}
use Rattle.hm_world_model.proofs.Facts.{one_server}
use Rattle.hm_world_model.proofs.Known.{uncalled}
use Rattle.hm_world_model.proofs.Ranges.{live_apart}
use Rattle.hm_world_model.proofs.Opening.{held_last, kept_after, last_server, opened_kept, unfenced_of}
use Rattle.hm_world_model.proofs.Serving.{unserved_last}
use Rattle.hm_world_model.proofs.Servers.{not_up}
use Rattle.hm_world_model.proofs.Tails.{newer_of, safe_past}

module _ (J : Past) (o : Outside) (safe : Safe J o) where
  -- the last call of a region that may be held is this server's, and isn't void
  last_of : (r : Region) (s : Server) (a : Actor) → Runs J o s a → MayHold J a r s
      → ((p : ℕ) × (last_call J r ≡ Some p) × (peer_of J p ≡ Some (peer_is.Server s))) × (IsVoid J r (last_call J r) → ⊥)
  last_of r s a run (inl held) = let h = safe.servers.held r s a run held in (last_server J o safe a r s h, λ void. void_held J o safe r s a run void h)
  last_of r s a run (inr call) =
      let to : CallsTo J call.0 r s = (verb_is.AssignRegion r, call.1, refl, call.2) in
      let l = unserved_last J o safe call.0 r s a to run call.3 in
      ((call.0, l, call.2), λ void. let t = void_told J o safe call.0 s a run call.2 (subst (IsVoid J r) l void) in call.3 (reported_served J o safe call.0 r s a t.0 t.1 to run.0))

  -- a region whose last call isn't void has its place at that call's server
  module _ (r : Region) (s : Server) (last : (p : ℕ) × (last_call J r ≡ Some p) × (peer_of J p ≡ Some (peer_is.Server s))) (alive : IsVoid J r (last_call J r) → ⊥) where
    abbrev Here : Place → Type 0
    Here place = is_at s place ≡ true

    here_at : (state : RegionState) (t : Server) → is_placed (at_place state t) ≡ true → t ≡ s → Here (at_place state t)
    here_at state t placed e = and_from (is_placed (at_place state t)) (same_server s t) placed (subst (λ x. same_server s x ≡ true) (sym e) (same_server-refl s))

    opened_at : (t : Server) → IsOpenedBy J r (last_call J r) t → t ≡ s
    opened_at t (inl h) = one_server (peer_of J last.0) t s (ap (peer_of J) (same_Some last.0 h.0 (sym last.1 ∙ h.1)) ∙ h.2) last.2
    opened_at t (inr none) = absurd (none-some last.0 (sym none.0 ∙ last.1))

    called_at : (q : ℕ) (t : Server) → (last_call J r ≡ Some q) × (peer_of J q ≡ Some (peer_is.Server t)) → t ≡ s
    called_at q t h = one_server (peer_of J last.0) t s (ap (peer_of J) (same_Some last.0 q (sym last.1 ∙ h.0)) ∙ h.1) last.2

    rest_here : (state : RegionState) (server : Option Server) → AtRest J r (last_call J r) state server → Here (record { state = state; server = server })
    rest_here place_is.Opening server h = absurd h
    rest_here place_is.Opened server h = subst (λ x. Here (record { state = place_is.Opened; server = x })) (sym h.1) (here_at place_is.Opened h.0 refl (opened_at h.0 h.2))
    rest_here place_is.Closing server h = absurd h
    rest_here state server h = absurd (alive h)

    opening_server : (q : ℕ) (t : Server) (answer : Option Answer) → Calls J q t (last_call J r) (IsVoid J r (last_call J r)) answer → t ≡ s
    opening_server q t None h = absurd (alive h.0)
    opening_server q t (Some (answer_is.More n)) h = absurd h
    opening_server q t (Some (answer_is.Wait n)) h = absurd h
    opening_server q t (Some (answer_is.Await n)) h = called_at q t h
    opening_server q t (Some (answer_is.Done told)) (inl h) = elim h.2 [ inl void ↦ absurd (alive void) | inr call ↦ called_at q t call ]
    opening_server q t (Some (answer_is.Done told)) (inr h) = called_at q t h.0
    opening_server q t (Some (answer_is.Fail cause)) h = absurd h
    opening_server q t (Some answer_is.Undone) h = absurd h

    closing_server : (q : ℕ) (t : Server) (answer : Option Answer) → Calls J q t (last_call J r) (IsOpenedBy J r (last_call J r) t) answer → t ≡ s
    closing_server q t None h = opened_at t h.0
    closing_server q t (Some (answer_is.More n)) h = absurd h
    closing_server q t (Some (answer_is.Wait n)) h = absurd h
    closing_server q t (Some (answer_is.Await n)) h = called_at q t h
    closing_server q t (Some (answer_is.Done told)) (inl h) = elim h.2 [ inl before ↦ opened_at t before | inr call ↦ called_at q t call ]
    closing_server q t (Some (answer_is.Done told)) (inr h) = called_at q t h.0
    closing_server q t (Some (answer_is.Fail cause)) h = absurd h
    closing_server q t (Some answer_is.Undone) h = absurd h

    row_here : (p : ℕ) (place : Place) (was : Option Answer) (q : ℕ) (made : Option Node) (answer : Option Answer) → AtRow J p r place (last_call J r) was q made answer → Here place
    row_here p place None q made answer h = rest_here place.state place.server h
    row_here p place (Some (answer_is.More n)) q made answer (inl h) = rest_here place.state place.server h.1
    row_here p place (Some (answer_is.More n)) q made answer (inr h) = absurd (alive h.3)
    row_here p place (Some (answer_is.Wait n)) q made answer (inl h) = subst Here (sym h.2) (here_at place_is.Opening h.1 refl (opening_server q h.1 answer h.4))
    row_here p place (Some (answer_is.Wait n)) q made answer (inr h) = subst Here (sym h.2) (here_at place_is.Closing h.1 refl (closing_server q h.1 answer h.4))
    row_here p place (Some (answer_is.Await n)) q made answer h = absurd h
    row_here p place (Some (answer_is.Done told)) q made answer h = rest_here place.state place.server h
    row_here p place (Some (answer_is.Fail cause)) q made answer h = rest_here place.state place.server h
    row_here p place (Some answer_is.Undone) q made answer h = absurd h

    place_here : Here (place_of J r)
    place_here = by (work_of J r) ((kept_all J safe.legal).stage r)
      where
        by : (w : Option ℕ) → StageFor J r w → Here (place_of J r)
        by None h = rest_here (place_of J r).state (place_of J r).server h
        by (Some p) h = row_here p (place_of J r) (last_answer J p) (child_of_step J p) (node_of J (child_of_step J p)) (last_answer J (child_of_step J p)) h

  placed_at : (r : Region) (s : Server) (a : Actor) → Runs J o s a → MayHold J a r s → is_at s (place_of J r) ≡ true
  placed_at r s a run may = let l = last_of r s a run may in place_here r s l.0 l.1

  -- a report that leaves a region closed makes its call void
  shut_void : (r : Region) (p : ℕ) → last_call J r ≡ Some p → IsShut J p → IsVoid J r (last_call J r)
  shut_void r p last shut = subst (IsVoid J r) (sym last) (elim shut [ inl failed ↦ inl failed | inr closed ↦ inr (inl closed) ])

  closed_at : (r : Region) (p : ℕ) → last_call J r ≡ Some p → IsShut J p → (s : Server) (a : Actor) → Runs J o s a → holds a r ≡ false
  closed_at r p last shut s a run = elim (cases_Bool (holds a r)) [
    | inl held ↦ absurd (void_held J o safe r s a run (shut_void r p last shut) (safe.servers.held r s a run held))
    | inr free ↦ free
  ]

  pub points : Points J o
  points = record {
    calls = record {
      served = λ p r s a to other_last run. safe.servers.done p r s a to run other_last;
      never_again = λ p r s to allowed. uncalled J safe.legal s (not_up J s (newer_of J s allowed)) p r to;
      sent = safe.calls.sent_is;
      fenced = safe.fences_are;
    };
    holders = record { alone = λ r s a run may. (last_of r s a run may).0; closed = closed_at; placed = placed_at };
    transits = record {
      single = λ r p q. one_transit_is J safe.legal r p q;
      rows = λ r. place_by_row J safe.legal r;
    };
    rows = record { live = all_live J safe.legal; on = all_on J safe.legal; closed = closed_unplaced J safe.legal; apart = never_overlap J safe.legal };
  }

  -- a region that is held is placed
  placed_is : (r : Region) (s : Server) (a : Actor) → Runs J o s a → holds a r ≡ true → is_placed (place_of J r) ≡ true
  placed_is r s a run held = (and_parts (is_placed (place_of J r)) (is_the_server s (place_of J r).server) (placed_at r s a run (inl held))).0

  -- and live
  pub held_at : (r : Region) (s : Server) (a : Actor) → Runs J o s a → holds a r ≡ true → (range : KeyRange) × IsLiveWith (cat J) r range
  held_at r s a run held = all_live J safe.legal r (placed_is r s a run held)

  pub not_twice : Twice J o → ⊥
  not_twice h =
      let live_of : (r : Region) (s : Server) → Holds o s r → (range : KeyRange) × IsLiveWith (cat J) r range = λ r s x. held_at r s x.0 (x.1, unfenced_of J o safe s x.3) x.2 in
      let same_region : h.0 ≡ h.1 = live_apart J (never_overlap J safe.legal) h.0 h.1 (live_of h.0 h.2 h.6) (live_of h.1 h.3 h.7) h.4 in
      elim h.5 [
        | inl servers ↦
            let one = held_last J o safe h.0 h.2 h.6 in
            let other = held_last J o safe h.0 h.3 (subst (Holds o h.3) (sym same_region) h.7) in
            servers (one_server (peer_of J one.0) h.2 h.3 one.2 (ap (peer_of J) (same_Some one.0 other.0 (sym one.1 ∙ other.1)) ∙ other.2))
        | inr regions ↦ regions same_region
      ]

-- what a stop leaves is one of the lengths
pub safe_first : (w : World) → IsKept w → (k : ℕ) → w.durable ≤ k → k ≤ length (whole w) → Safe (first k (whole w)) w.outside
safe_first w kept k low high = kept.tails (length (whole w) - k) (omega (arith, low, high))

pub points_hold : PointsHold
points_hold w kept k low high = points (first k (whole w)) w.outside (safe_first w kept k low high)

pub held_live : HeldAreLive
held_live w kept k low high r s a run held = held_at (first k (whole w)) w.outside (safe_first w kept k low high) r s a run held

pub kept_never_twice : KeptIsNeverTwice
kept_never_twice w kept h = not_twice w.past w.outside (safe_past w kept) h

pub never_twice_is : NeverTwice
never_twice_is J legal events run h = kept_never_twice (after (opened J) events) (kept_after (opened J) (opened_kept J legal) events run) h
