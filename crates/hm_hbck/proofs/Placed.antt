-- What is found of the places of a journal's regions is exactly what is so of them.
use Rattle.std.proofs.Common.{◌≡◌, [], Option, Some, None, Bool, true, false, not, ◌&&◌, if◌then◌else◌, refl, inl, inr, ap, sym, ◌∙◌, subst}
use Rattle.std.specs.List.{flat_map}
use Rattle.std.proofs.lemmas.Bool.{and_from, and_parts, false≢true}
use Rattle.hm_names.specs.Order.{region_cmp}
use Rattle.hm_names.specs.Region.{Region}
use Rattle.hm_names.specs.Server.{Server}
use Rattle.hm_data.specs.declared.place.Place.{Place}
use Rattle.hm_data.specs.declared.place.RegionState.TheVariants as place_is
use Rattle.hm_index.specs.Index.{find}
use Rattle.hm_model.specs.Actors.{Actor, holds}
use Rattle.hm_model.specs.Findings.{NotHeld as said_not_held, NoActor as said_no_actor, DeadPlace as said_dead_place, IsSo}
use Rattle.hm_model.specs.Fleet.{is_live}
use Rattle.hm_model.specs.Journal.{Past}
use Rattle.hm_model.specs.Loads.{places_of}
use Rattle.hm_model.specs.Locks.{IsIn}
use Rattle.hm_model.specs.Places.{is_the_server, place_of, placed}
use Rattle.hm_model.specs.TransitActs.{is_placed, is_state, told_place}
use Rattle.hm_model.proofs.KeyTests.{region_cmp-is}
use Rattle.hm_model.proofs.NameTies.{same_server-is, same_server-refl}
use Rattle.hm_places.specs.Places.{place_in}
use Rattle.hm_ranges.proofs.Lists.{found_in, in_either, in_front, in_map, in_rest}
use Rattle.hm_hbck.specs.Findings.{said}
use Rattle.hm_hbck.specs.Found.{of_open, of_place, of_server, only_if}
use Rattle.hm_hbck.specs.declared.finding.Finding.{Finding}
use Rattle.hm_hbck.specs.declared.finding.Finding.TheVariants as finding_is
use Rattle.hm_hbck.proofs.Lists.{flat_map_in, in_flat_map, in_one, one_in}

pub not_true : (b : Bool) → not b ≡ true → b ≡ false
not_true true e = absurd (false≢true e)
not_true false e = refl

-- a region with a server has a place
has_place : (J : Past) (region : Region) (server : Server) → place_in (places_of J) region ≡ place_of J region → (place_of J region).server ≡ Some server → IsIn (region, place_of J region) (places_of J)
has_place J region server tells there = by (find region_cmp (places_of J) region) refl
  where
    clash : None ≡ Some server → ⊥
    clash e = cc

    by : (o : Option Place) → find region_cmp (places_of J) region ≡ o → IsIn (region, place_of J region) (places_of J)
    by None e = absurd (clash (ap (λ (p : Place). p.server) (sym (ap told_place e) ∙ tells) ∙ there))
    by (Some place) e = subst (λ (p : Place). IsIn (region, p) (places_of J)) (sym (ap told_place e) ∙ tells) (found_in region_cmp region_cmp-is (places_of J) region place e)

module _ (J : Past) (actors runs : Server → Option Actor) (lives : Server → Bool) (runs_are : (server : Server) → runs server ≡ actors server) (lives_are : (server : Server) → lives server ≡ is_live J server) where
  open_so : (region : Region) (server : Server) (finding : Finding) → is_state place_is.Opened (place_of J region) ≡ true → (place_of J region).server ≡ Some server
      → IsIn finding (of_open (runs server) (lives server) region server) → IsSo J actors (said finding)
  open_so region server finding opened there found = by (runs server) refl found
    where
      by : (o : Option Actor) → runs server ≡ o → IsIn finding (of_open o (lives server) region server) → IsSo J actors (said finding)
      by None e found =
          let is = in_one finding (finding_is.NoActor region server) (lives server) found in
          subst (λ (f : Finding). IsSo J actors (said f)) (sym is.1) ((opened, there), sym (lives_are server) ∙ is.0, sym (runs_are server) ∙ e)
      by (Some actor) e found =
          let is = in_one finding (finding_is.NotHeld region server) (not (holds actor region)) found in
          subst (λ (f : Finding). IsSo J actors (said f)) (sym is.1) ((opened, there), (actor, sym (runs_are server) ∙ e, not_true (holds actor region) is.0))

  place_so : (region : Region) (finding : Finding) → IsIn finding (of_place runs lives (region, place_of J region)) → IsSo J actors (said finding)
  place_so region finding found = by (place_of J region).server refl found
    where
      opened_so : (server : Server) → (place_of J region).server ≡ Some server → (b : Bool) → is_state place_is.Opened (place_of J region) ≡ b
          → IsIn finding (if b then of_open (runs server) (lives server) region server else []) → IsSo J actors (said finding)
      opened_so server there true on found = open_so region server finding on there found
      opened_so server there false off found = absurd found

      dead_so : (server : Server) → (place_of J region).server ≡ Some server → IsIn finding (only_if (is_placed (place_of J region) && not (lives server)) (finding_is.DeadPlace region server)) → IsSo J actors (said finding)
      dead_so server there found =
          let is = in_one finding (finding_is.DeadPlace region server) (is_placed (place_of J region) && not (lives server)) found in
          let parts = and_parts (is_placed (place_of J region)) (not (lives server)) is.0 in
          subst (λ (f : Finding). IsSo J actors (said f)) (sym is.1)
          (and_from (is_placed (place_of J region)) (is_the_server server (place_of J region).server) parts.0 (ap (is_the_server server) there ∙ same_server-refl server), sym (lives_are server) ∙ not_true (lives server) parts.1)

      by : (o : Option Server) → (place_of J region).server ≡ o → IsIn finding (of_server runs lives region (place_of J region) o) → IsSo J actors (said finding)
      by None none found = absurd found
      by (Some server) there found = elim (in_either finding (if is_state place_is.Opened (place_of J region) then of_open (runs server) (lives server) region server else []) (only_if (is_placed (place_of J region) && not (lives server)) (finding_is.DeadPlace region server)) found) [
        | inl front ↦ opened_so server there (is_state place_is.Opened (place_of J region)) refl front
        | inr rest ↦ dead_so server there rest
      ]

  pub placed_so : (finding : Finding) → IsIn finding (flat_map (of_place runs lives) (places_of J)) → IsSo J actors (said finding)
  placed_so finding found =
      let at = in_flat_map (of_place runs lives) finding (places_of J) found in
      let row = in_map (λ (r : Region). (r, place_of J r)) at.0 (placed J) at.1 in
      place_so row.0 finding (subst (λ (r : Region × Place). IsIn finding (of_place runs lives r)) row.2 at.2)

  module _ (tells : (region : Region) → place_in (places_of J) region ≡ place_of J region) where
    -- what is found by the server of a region's place is found
    found_by : (region : Region) (server : Server) (finding : Finding) → (place_of J region).server ≡ Some server
        → IsIn finding (of_server runs lives region (place_of J region) (Some server)) → IsIn finding (flat_map (of_place runs lives) (places_of J))
    found_by region server finding there found =
        flat_map_in (of_place runs lives) finding (region, place_of J region) (places_of J) (has_place J region server (tells region) there)
        (subst (λ (o : Option Server). IsIn finding (of_server runs lives region (place_of J region) o)) (sym there) found)

    found_open : (region : Region) (server : Server) (finding : Finding) → is_state place_is.Opened (place_of J region) ≡ true → (place_of J region).server ≡ Some server
        → IsIn finding (of_open (runs server) (lives server) region server) → IsIn finding (flat_map (of_place runs lives) (places_of J))
    found_open region server finding opened there found =
        found_by region server finding there
        (in_front finding (if is_state place_is.Opened (place_of J region) then of_open (runs server) (lives server) region server else []) (only_if (is_placed (place_of J region) && not (lives server)) (finding_is.DeadPlace region server))
        (rw opened found))

    pub so_not_held : (region : Region) (server : Server) → IsSo J actors (said_not_held region server) → IsIn (finding_is.NotHeld region server) (flat_map (of_place runs lives) (places_of J))
    so_not_held region server ((opened, there), (actor, is, off)) =
        found_open region server (finding_is.NotHeld region server) opened there
        (rw (runs_are server ∙ is) (one_in (finding_is.NotHeld region server) (not (holds actor region)) (ap not off)))

    pub so_no_actor : (region : Region) (server : Server) → IsSo J actors (said_no_actor region server) → IsIn (finding_is.NoActor region server) (flat_map (of_place runs lives) (places_of J))
    so_no_actor region server ((opened, there), live, none) =
        found_open region server (finding_is.NoActor region server) opened there
        (rw (runs_are server ∙ none) (one_in (finding_is.NoActor region server) (lives server) (lives_are server ∙ live)))

    pub so_dead_place : (region : Region) (server : Server) → IsSo J actors (said_dead_place region server) → IsIn (finding_is.DeadPlace region server) (flat_map (of_place runs lives) (places_of J))
    so_dead_place region server (here, dead) =
        let parts = and_parts (is_placed (place_of J region)) (is_the_server server (place_of J region).server) here in
        by parts.0 (place_of J region).server refl parts.1
      where
        by : is_placed (place_of J region) ≡ true → (o : Option Server) → (place_of J region).server ≡ o → is_the_server server o ≡ true → IsIn (finding_is.DeadPlace region server) (flat_map (of_place runs lives) (places_of J))
        by held None none is = absurd (false≢true is)
        by held (Some other) there is =
            found_by region server (finding_is.DeadPlace region server) (there ∙ ap Some (sym (same_server-is server other is)))
            (in_rest (finding_is.DeadPlace region server) (if is_state place_is.Opened (place_of J region) then of_open (runs server) (lives server) region server else []) (only_if (is_placed (place_of J region) && not (lives server)) (finding_is.DeadPlace region server))
            (one_in (finding_is.DeadPlace region server) (is_placed (place_of J region) && not (lives server)) (and_from (is_placed (place_of J region)) (not (lives server)) held (ap not (lives_are server ∙ dead)))))
