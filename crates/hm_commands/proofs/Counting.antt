-- Regions counted row by row.
use Rattle.std.proofs.Common.{◌≡◌, ◌≤◌, ◌+◌, ℕ, List, [], ◌∷◌, Option, Some, None, length, count_by, refl, ap, sym, ◌∙◌, arith, cond}
use Rattle.std.specs.List.{cons_option}
use Rattle.std.proofs.lemmas.List.Sums.{sum_by-cons}
use Rattle.hm_names.specs.Region.{Region}
use Rattle.hm_data.specs.declared.catalog.CatKey.{CatKey}
use Rattle.hm_data.specs.declared.catalog.CatKey.TheVariants as key_is
use Rattle.hm_data.specs.declared.catalog.CatRow.{CatRow}
use Rattle.hm_data.specs.declared.place.Place.{Place}
use Rattle.hm_data.specs.declared.place.RegionState.TheVariants as place_is
use Rattle.hm_model.specs.Journal.{Past}
use Rattle.hm_model.specs.Loads.{places_of}
use Rattle.hm_model.specs.Places.{place_of}
use Rattle.hm_model.specs.RowsSaid.{Rows}
use Rattle.hm_model.specs.TransitActs.{is_state}
use Rattle.hm_model.specs.Tree.{made}
use Rattle.hm_catalog.specs.Rows.{rows_in}
use Rattle.hm_catalog.specs.Spans.{in_span, rows_of}
use Rattle.hm_catalog.specs.declared.span.Span.TheVariants as span_is
use Rattle.hm_places.specs.Places.{place_in}
use Rattle.hm_commands.specs.Census.{census_of, is_opened, region_of_row, regions_among}
use Rattle.hm_commands.specs.declared.census.Census.{Census}

-- other rows are no region's
pub others_none : (rows : Rows) → regions_among (rows_of (in_span span_is.AllRegions) rows) ≡ regions_among rows
others_none [] = refl
others_none ((key_is.Ns ns, row) ∷ rows) = others_none rows
others_none ((key_is.Table table, row) ∷ rows) = others_none rows
others_none ((key_is.Region region, row) ∷ rows) = ap (cons_option (region_of_row (key_is.Region region, row))) (others_none rows)

-- there are no more than rows
no_more_by : (o : Option Region) (more : List Region) (n : ℕ) → length more ≤ n → length (cons_option o more) ≤ n + 1
no_more_by None more n le = omega (arith, le)
no_more_by (Some region) more n le = omega (arith, le)

pub no_more : (rows : Rows) → length (regions_among rows) ≤ length rows
no_more [] = omega arith
no_more (row ∷ rows) = let le = no_more_by (region_of_row row) (regions_among rows) (length rows) (no_more rows) in omega (arith, le)

-- how many are open, where the places that are told are the same
opened_by : (f g : Region → Place) → ((region : Region) → f region ≡ g region) → (regions : List Region) → count_by (is_opened f) regions ≡ count_by (is_opened g) regions
opened_by f g same [] = refl
opened_by f g same (region ∷ regions) =
    sum_by-cons (λ r. cond (is_opened f r) 1 0) region regions
    ∙ ap (λ place. cond (is_state place_is.Opened place) 1 0 + count_by (is_opened f) regions) (same region)
    ∙ ap (λ n. cond (is_opened g region) 1 0 + n) (opened_by f g same regions)
    ∙ sym (sum_by-cons (λ r. cond (is_opened g r) 1 0) region regions)

-- so many regions were counted, and so many open ones, and these rows are left of all
pub record AreCounted (place : Region → Place) (rest all : Rows) (regions opened : ℕ) : Type 0 where
  pub regions_are : regions + length (regions_among rest) ≡ length (regions_among all)
  pub opened_are : opened + count_by (is_opened place) (regions_among rest) ≡ count_by (is_opened place) (regions_among all)
  pub fewer : opened ≤ regions

-- before the first row
pub none_counted : (place : Region → Place) (shown all : Rows) → shown ≡ rows_of (in_span span_is.AllRegions) all → AreCounted place shown all 0 0
none_counted place shown all is =
    let same : regions_among shown ≡ regions_among all = ap regions_among is ∙ others_none all in
    record {
      regions_are = (let n = ap length same in omega (arith, n));
      opened_are = (let n = ap (count_by (is_opened place)) same in omega (arith, n));
      fewer = omega arith;
    }

-- at a row of a region there were fewer regions than rows
pub few_counted : (place : Region → Place) (row : CatKey × CatRow) (region : Region) (left rest all : Rows) (regions opened : ℕ) → AreCounted place left all regions opened
    → left ≡ row ∷ rest → region_of_row row ≡ Some region → regions + 1 ≤ length all
few_counted place row region left rest all regions opened counted is region_is =
    let one : length (regions_among left) ≡ length (region ∷ regions_among rest) = ap (λ rows. length (regions_among rows)) is ∙ ap (λ o. length (cons_option o (regions_among rest))) region_is in
    let were = counted.regions_are in
    let most = no_more all in
    omega (arith, one, were, most)

-- a census
abbrev pub counted : ℕ → ℕ → ℕ → Census
counted procedures regions opened = record { procedures = procedures; regions = regions; opened = opened }

-- what was counted is the census of a journal
pub census_said : (past : Past) (rows : Rows) (places : List (Region × Place)) (procedures regions opened : ℕ) → ((region : Region) → place_in (places_of past) region ≡ place_of past region)
    → procedures ≡ made past → rows ≡ rows_in past → places ≡ places_of past → regions ≡ length (regions_among rows) → opened ≡ count_by (is_opened (place_in places)) (regions_among rows)
    → census_of past ≡ counted procedures regions opened
census_said past rows places procedures regions opened tell made_is rows_are places_are regions_are opened_are =
    ap (λ n. counted n (length (regions_among (rows_in past))) (count_by (is_opened (place_of past)) (regions_among (rows_in past)))) (sym made_is)
    ∙ ap (λ n. counted procedures n (count_by (is_opened (place_of past)) (regions_among (rows_in past)))) (sym (regions_are ∙ ap (λ l. length (regions_among l)) rows_are))
    ∙ ap (counted procedures regions)
    (sym (opened_are ∙ ap (λ l. count_by (is_opened (place_in places)) (regions_among l)) rows_are
    ∙ ap (λ l. count_by (is_opened (place_in l)) (regions_among (rows_in past))) places_are
    ∙ opened_by (place_in (places_of past)) (place_of past) tell (regions_among (rows_in past))))
