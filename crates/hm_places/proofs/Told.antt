-- The places that are told.
use Rattle.std.proofs.Common.{◌≡◌, Some, Bool, true, false, if◌then◌else◌, List, refl, ap, ◌∙◌}
use Rattle.std.specs.Ordering.{is_eq}
use Rattle.hm_names.specs.Order.{region_cmp}
use Rattle.hm_names.specs.Region.{Region}
use Rattle.hm_data.specs.declared.place.Place.{Place}
use Rattle.hm_index.specs.Index.{find}
use Rattle.hm_model.specs.Keys.{same_region}
use Rattle.hm_model.specs.TransitActs.{told_place}
use Rattle.hm_places.specs.Places.{place_in}
use Rattle.hm_model.proofs.NameTies.{region_ties}

pub told_set : (old new : List (Region × Place)) (region : Region) (place : Place)
    → ((other : Region) → find region_cmp new other ≡ (if is_eq (region_cmp region other) then Some place else find region_cmp old other))
    → (other : Region) → place_in new other ≡ (if same_region region other then place else place_in old other)
told_set old new region place finds other =
    ap told_place (finds other) ∙ ap (λ b. told_place (if b then Some place else find region_cmp old other)) (region_ties region other) ∙ by (same_region region other)
  where
    by : (b : Bool) → told_place (if b then Some place else find region_cmp old other) ≡ (if b then place else place_in old other)
    by true = refl
    by false = refl
