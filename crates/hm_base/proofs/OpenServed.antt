-- The places of a journal tell whether each region that is open is so at a live server.
use Rattle.std.proofs.Common.{◌≡◌, ◌↔◌, Option, Some, None, Bool, refl, ap, sym, ◌∙◌, subst}
use Rattle.std.specs.List.{AllByRecursion}
use Rattle.std.proofs.lemmas.Bool.{false≢true}
use Rattle.hm_names.specs.Order.{region_cmp}
use Rattle.hm_names.specs.Region.{Region}
use Rattle.hm_names.specs.Server.{Server}
use Rattle.hm_data.specs.declared.place.Place.{Place}
use Rattle.hm_index.specs.Index.{find}
use Rattle.hm_model.specs.Fleet.{is_live}
use Rattle.hm_model.specs.Journal.{Past}
use Rattle.hm_model.specs.Loads.{places_of}
use Rattle.hm_model.specs.Locks.{IsIn}
use Rattle.hm_model.specs.Places.{place_of, placed}
use Rattle.hm_model.specs.Rules.{IsLegal}
use Rattle.hm_model.specs.Standings.{is_live_in, standings_of}
use Rattle.hm_model.specs.TransitActs.{is_placed, told_place}
use Rattle.hm_model.proofs.KeyTests.{region_cmp-is}
use Rattle.hm_places.specs.Laws.{AllStandingsTell, PlacesTell}
use Rattle.hm_ranges.proofs.Lists.{found_in, in_map}
use Rattle.hm_base.specs.Whole.{AreServed, IsServed}
use Rattle.hm_base.proofs.Each.{each_in, each_of}

-- a place at a server that is live by one reading is so by another
served_by : (one other : Server → Bool) → ((server : Server) → one server ≡ other server) → (place : Place) → IsServed one place → IsServed other place
served_by one other same place is on = let at = is on in (at.0, at.1, sym (same at.0) ∙ at.2)

-- a row whose place is so by what is kept of servers
abbrev IsServedThere : Past → Region × Place → Type 0
IsServedThere J row = IsServed (is_live_in (standings_of J)) row.1

module _ (places : PlacesTell) (stand : AllStandingsTell) (J : Past) (legal : IsLegal J) where
  on_region : AllByRecursion (IsServedThere J) (places_of J) → (region : Region) → (o : Option Place) → find region_cmp (places_of J) region ≡ o → IsServed (is_live J) (place_of J region)
  on_region each region None e = λ on. absurd (false≢true (ap (λ p. is_placed p) (ap told_place (sym e) ∙ (places J).0 region) ∙ on))
  on_region each region (Some place) e =
      subst (λ p. IsServed (is_live J) p) (ap told_place (sym e) ∙ (places J).0 region)
      (served_by (is_live_in (standings_of J)) (is_live J) (stand J legal).live place (each_in (IsServedThere J) (places_of J) each (region, place) (found_in region_cmp region_cmp-is (places_of J) region place e)))

  on_row : AreServed J → (row : Region × Place) → IsIn row (places_of J) → IsServedThere J row
  on_row served row among =
      let at = in_map (λ (region : Region). (region, place_of J region)) row (placed J) among in
      served_by (is_live J) (is_live_in (standings_of J)) (λ server. sym ((stand J legal).live server)) row.1
      (subst (λ (r : Region × Place). IsServed (is_live J) r.1) (sym at.2) (served at.0))

  pub served_tell : AllByRecursion (IsServedThere J) (places_of J) ↔ AreServed J
  served_tell = (λ each region. on_region each region (find region_cmp (places_of J) region) refl, λ served. each_of (IsServedThere J) (places_of J) (on_row served))
