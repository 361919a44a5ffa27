-- The rows of regions among all rows.
use Rattle.std.proofs.Common.{◌≡◌, ◌≤◌, [], ◌∷◌, Some, length, refl, ap, ◌∙◌, arith}
use Rattle.std.specs.List.{cons_option, filter_map}
use Rattle.hm_names.specs.Region.{Region}
use Rattle.hm_data.specs.declared.catalog.CatKey.TheVariants as key_is
use Rattle.hm_data.specs.declared.catalog.CatRow.{CatRow}
use Rattle.hm_data.specs.declared.catalog.CatRow.TheVariants as row_is
use Rattle.hm_data.specs.declared.place.Place.{Place}
use Rattle.hm_model.specs.RowsSaid.{Rows}
use Rattle.hm_catalog.specs.Spans.{in_span, rows_of}
use Rattle.hm_catalog.specs.declared.span.Span.TheVariants as span_is
use Rattle.hm_show.specs.Regions.{key_line, region_line, row_line}

abbrev pub region_rows : Rows → Rows
region_rows rows = rows_of (in_span span_is.AllRegions) rows

-- others have no line
pub others_add_none : (place : Region → Place) (rows : Rows) → filter_map (key_line place) (region_rows rows) ≡ filter_map (key_line place) rows
others_add_none place [] = refl
others_add_none place ((key_is.Ns ns, row) ∷ rows) = others_add_none place rows
others_add_none place ((key_is.Table table, row) ∷ rows) = others_add_none place rows
others_add_none place ((key_is.Region region, row) ∷ rows) = ap (cons_option (row_line place region row)) (others_add_none place rows)

pub no_more : (rows : Rows) → length (region_rows rows) ≤ length rows
no_more [] = omega arith
no_more ((key_is.Ns ns, row) ∷ rows) = let le = no_more rows in omega (arith, le)
no_more ((key_is.Table table, row) ∷ rows) = let le = no_more rows in omega (arith, le)
no_more ((key_is.Region region, row) ∷ rows) = let le = no_more rows in omega (arith, le)

-- the places that are told are the same for a line
pub line_by : (f g : Region → Place) → ((region : Region) → f region ≡ g region) → (rows : Rows) → filter_map (key_line f) rows ≡ filter_map (key_line g) rows
line_by f g same [] = refl
line_by f g same ((key_is.Ns ns, row) ∷ rows) = line_by f g same rows
line_by f g same ((key_is.Table table, row) ∷ rows) = line_by f g same rows
line_by f g same ((key_is.Region region, row) ∷ rows) = ap (λ l. cons_option (row_line f region row) l) (line_by f g same rows) ∙ ap (λ o. cons_option o (filter_map (key_line g) rows)) (by row)
  where
    by : (row : CatRow) → row_line f region row ≡ row_line g region row
    by row_is.Ns = refl
    by (row_is.Table state version) = refl
    by (row_is.Region range status parents) = ap (λ place. Some (region_line region range status place)) (same region)
