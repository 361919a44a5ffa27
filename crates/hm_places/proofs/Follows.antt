-- The places of a journal's regions, and those of a longer journal.
use Rattle.std.proofs.Common.{◌≡◌, List, [], ◌∷◌, Bool, true, false, ◌||◌, if◌then◌else◌, Option, Some, None, length, refl, ap, sym, ◌∙◌, inl, inr}
use Rattle.std.proofs.lemmas.Bool.{cases_Bool}
use Rattle.std.specs.List.{filter}
use Rattle.std.specs.Ordering.{is_eq, ordering_reverse}
use Rattle.std.specs.declared.cmp.Ordering.{Ordering}
use Rattle.std.specs.declared.cmp.Ordering.TheVariants.{Less, Equal, Greater}
use Rattle.hm_names.specs.Order.{region_cmp}
use Rattle.hm_names.specs.Region.{Region}
use Rattle.hm_names.specs.Server.{Server}
use Rattle.hm_data.specs.declared.entry.Entry.TheVariants as entry_is
use Rattle.hm_data.specs.declared.part.Part.{Part}
use Rattle.hm_data.specs.declared.part.Part.TheVariants as part_is
use Rattle.hm_data.specs.declared.place.Place.{Place}
use Rattle.hm_data.specs.declared.place.RegionState.TheVariants as place_is
use Rattle.hm_model.specs.Journal.{Past}
use Rattle.hm_model.specs.Keys.{same_region}
use Rattle.hm_model.specs.Loads.{places_of, regions_at}
use Rattle.hm_model.specs.Places.{is_at, joined_at, joined_by, joined_if, part_place, part_placed, place_of, placed, placed_by as place_given, region_if}
use Rattle.hm_model.specs.TransitActs.{nowhere, told_place}
use Rattle.hm_model.specs.Tree.{node_of}
use Rattle.hm_model.proofs.KeyTests.{region_cmp-is}
use Rattle.hm_model.proofs.NameTies.{region_ties, regions_total}
use Rattle.hm_places.specs.Chosen.{Rises, has}
use Rattle.hm_places.specs.Laws.{EntriesPlace, PlacesTell, given_to, part_places, with_place}
use Rattle.hm_places.specs.Places.{place_in}
use Rattle.hm_places.proofs.ByKey.{IsSetAt, Joins, find_by, has_join, placed_by, rises_join, rows_by}

joins : Joins region_cmp joined_by
joins = record {
  alone = λ key. refl;
  less = λ key first more e. ap (λ o. joined_at o key first more (joined_by key more)) e;
  equal = λ key first more e. ap (λ o. joined_at o key first more (joined_by key more)) e;
  greater = λ key first more e. ap (λ o. joined_at o key first more (joined_by key more)) e;
}

rises_if : (own : Option Region) (place : Option Place) (regions : List Region) → Rises region_cmp regions → Rises region_cmp (joined_if own place regions)
rises_if own None regions rises = rises
rises_if None (Some place) regions rises = rises
rises_if (Some region) (Some place) regions rises = rises_join region_cmp regions_total joined_by joins region regions rises

-- so with the region of a part
rises_part : (part : Part) (regions : List Region) → Rises region_cmp regions → Rises region_cmp (part_placed part regions)
rises_part (part_is.Region own range status parents given) regions rises = rises_join region_cmp regions_total joined_by joins own regions rises
rises_part part regions rises = rises

-- the regions that were given a place stand in name order
placed_rises : (J : Past) → Rises region_cmp (placed J)
placed_rises [] = tt
placed_rises (entry_is.Step pid pick out ∷ J) = rises_if (region_if (node_of J pid.0)) out.place (placed J) (placed_rises J)
placed_rises (entry_is.Base part ∷ J) = rises_part part (placed J) (placed_rises J)
placed_rises (entry ∷ J) = placed_rises J

reversed : (r : Ordering) → is_eq (ordering_reverse r) ≡ is_eq r
reversed Less = refl
reversed Equal = refl
reversed Greater = refl

ties_turned : (a b : Region) → is_eq (region_cmp a b) ≡ same_region b a
ties_turned a b = ap is_eq (regions_total.antisymm a b) ∙ reversed (region_cmp b a) ∙ region_ties b a

-- the place that a step gives
places_by : (J : Past) (own : Option Region) (place : Option Place)
    → with_place (rows_by (place_of J) (placed J)) (given_to own place) ≡ rows_by (λ region. place_given region own place (place_of J region)) (joined_if own place (placed J))
places_by J None None = refl
places_by J None (Some place) = refl
places_by J (Some region) None = refl
places_by J (Some region) (Some place) =
    placed_by region_cmp regions_total region_cmp-is joined_by joins (place_of J) (λ other. place_given other (Some region) (Some place) (place_of J other)) region place (placed J) set (placed_rises J)
  where
    set : IsSetAt region_cmp (place_of J) (λ other. place_given other (Some region) (Some place) (place_of J other)) region place
    set other = ap (λ b. if b then place else place_of J other) (sym (ties_turned region other))

-- and a part
parts_place : (J : Past) (part : Part) → with_place (places_of J) (part_places part) ≡ places_of (entry_is.Base part ∷ J)
parts_place J (part_is.Region own range status parents given) = places_by J (Some own) (Some given)
parts_place J part = refl

pub entries_place : EntriesPlace
entries_place (entry_is.Step pid pick out) J = places_by J (region_if (node_of J pid.0)) out.place
entries_place (entry_is.Base part) J = parts_place J part
entries_place entry J = refl

-- a region that was given no place is offline
or_false : (a b : Bool) → (a || b) ≡ false → (a ≡ false) × (b ≡ false)
or_false true b e = cc
or_false false b e = (refl, e)

step_unplaced : (J : Past) (region : Region) → (has region_cmp (placed J) region ≡ false → place_of J region ≡ nowhere place_is.Offline) → (own : Option Region) (place : Option Place)
    → has region_cmp (joined_if own place (placed J)) region ≡ false → place_given region own place (place_of J region) ≡ nowhere place_is.Offline
step_unplaced J region was None None none = was none
step_unplaced J region was None (Some place) none = was none
step_unplaced J region was (Some given) None none = was none
step_unplaced J region was (Some given) (Some place) none =
    let apart = or_false (is_eq (region_cmp given region)) (has region_cmp (placed J) region) (sym (has_join region_cmp region_cmp-is joined_by joins given region (placed J)) ∙ none) in
    let other : same_region region given ≡ false = sym (ties_turned given region) ∙ apart.0 in
    rw other (was apart.1)

part_unplaced : (J : Past) (region : Region) → (has region_cmp (placed J) region ≡ false → place_of J region ≡ nowhere place_is.Offline) → (part : Part)
    → has region_cmp (part_placed part (placed J)) region ≡ false → part_place part region (place_of J region) ≡ nowhere place_is.Offline
part_unplaced J region was (part_is.Region own range status parents given) none = step_unplaced J region was (Some own) (Some given) none
part_unplaced J region was part none = was none

unplaced : (J : Past) (region : Region) → has region_cmp (placed J) region ≡ false → place_of J region ≡ nowhere place_is.Offline
unplaced [] region none = refl
unplaced (entry_is.Step pid pick out ∷ J) region none = step_unplaced J region (unplaced J region) (region_if (node_of J pid.0)) out.place none
unplaced (entry_is.Base part ∷ J) region none = part_unplaced J region (unplaced J region) part none
unplaced (entry ∷ J) region none = unplaced J region none

place_told : (J : Past) (region : Region) → place_in (places_of J) region ≡ place_of J region
place_told J region = ap told_place (find_by region_cmp regions_total region_cmp-is (place_of J) (placed J) region) ∙ by (has region_cmp (placed J) region) refl
  where
    by : (b : Bool) → has region_cmp (placed J) region ≡ b → told_place (if b then Some (place_of J region) else None) ≡ place_of J region
    by true e = refl
    by false e = sym (unplaced J region e)

at_told : (f : Region → Place) (server : Server) (regions : List Region) → regions_at (rows_by f regions) server ≡ filter (λ region. is_at server (f region)) regions
at_told f server [] = refl
at_told f server (region ∷ regions) = elim (cases_Bool (is_at server (f region))) [
  | inl on ↦ rw on (ap (λ l. region ∷ l) (at_told f server regions))
  | inr off ↦ rw off (at_told f server regions)
]

pub places_tell : PlacesTell
places_tell J = (place_told J, (λ server. at_told (place_of J) server (placed J)), (λ server. ap length (at_told (place_of J) server (placed J))))
