-- The holes of tables among the rows of a journal's catalog.
use Rattle.std.proofs.Common.{◌≡◌, ℕ, List, [], ◌∷◌, Option, Some, refl, inl, inr, ap, sym, ◌∙◌, subst}
use Rattle.hm_names.specs.Server.{Server}
use Rattle.hm_names.specs.declared.table.TableName.{TableName}
use Rattle.hm_data.specs.declared.catalog.CatKey.{CatKey}
use Rattle.hm_data.specs.declared.catalog.CatKey.TheVariants as key_is
use Rattle.hm_data.specs.declared.catalog.CatRow.{CatRow}
use Rattle.hm_data.specs.declared.catalog.CatRow.TheVariants as row_is
use Rattle.hm_data.specs.declared.catalog.TableState.{TableState}
use Rattle.hm_model.specs.Actors.{Actor}
use Rattle.hm_model.specs.Catalog.{cat}
use Rattle.hm_model.specs.Findings.{Hole as said_hole, IsLeftOut, IsSo}
use Rattle.hm_model.specs.Journal.{Past}
use Rattle.hm_model.specs.Locks.{IsIn}
use Rattle.hm_model.specs.RowsSaid.{Rows}
use Rattle.hm_catalog.specs.Rows.{rows_in}
use Rattle.hm_ranges.specs.Holes.{IsOut}
use Rattle.hm_ranges.specs.Live.{ranges_in}
use Rattle.hm_ranges.proofs.LiveRows.{ranges_live, row_in_journal, row_of_journal}
use Rattle.hm_hbck.specs.Findings.{said}
use Rattle.hm_hbck.specs.Holes.{IsHoleAmong, IsHoleAt, IsHoleOf}
use Rattle.hm_hbck.specs.declared.finding.Finding.{Finding}
use Rattle.hm_hbck.specs.declared.finding.Finding.TheVariants as finding_is

out_is : (J : Past) (table : TableName) (key : List ℕ) → IsOut (ranges_in (rows_in J) table) key → IsLeftOut J table key
out_is J table key out region range of live = out range ((ranges_live J table range).1 (region, of, live))

is_out : (J : Past) (table : TableName) (key : List ℕ) → IsLeftOut J table key → IsOut (ranges_in (rows_in J) table) key
is_out J table key out range there = let at = (ranges_live J table range).0 there in out at.0 range at.1 at.2

hole_at : (rows : Rows) (finding : Finding) (key : CatKey) (row : CatRow) → IsHoleAt rows key row finding → (table : TableName) × (state : TableState) × (version : ℕ) × (key ≡ key_is.Table table) × (row ≡ row_is.Table state version) × IsHoleOf rows table finding
hole_at rows finding (key_is.Table table) (row_is.Table state version) is = (table, state, version, refl, refl, is)
hole_at rows finding key row is = absurd is

hole_among : (all rows : Rows) (finding : Finding) → IsHoleAmong all rows finding → (table : TableName) × (state : TableState) × (version : ℕ) × IsIn (key_is.Table table, row_is.Table state version) rows × IsHoleOf all table finding
hole_among all [] finding is = absurd is
hole_among all ((key, row) ∷ more) finding (inl here) =
    let at = hole_at all finding key row here in
    (at.0, at.1, at.2, inl (sym (ap (λ (k : CatKey). (k, row)) at.3 ∙ ap (λ (r : CatRow). (key_is.Table at.0, r)) at.4)), at.5)
hole_among all ((key, row) ∷ more) finding (inr further) = let rest = hole_among all more finding further in (rest.0, rest.1, rest.2, inr rest.3, rest.4)

among_hole : (all rows : Rows) (finding : Finding) (table : TableName) (state : TableState) (version : ℕ) → IsIn (key_is.Table table, row_is.Table state version) rows → IsHoleOf all table finding → IsHoleAmong all rows finding
among_hole all [] finding table state version there is = absurd there
among_hole all ((key, row) ∷ more) finding table state version (inl same) is =
    inl (subst (λ (r : CatKey × CatRow). IsHoleAt all r.0 r.1 finding) same is)
among_hole all ((key, row) ∷ more) finding table state version (inr there) is = inr (among_hole all more finding table state version there is)

pub hole_so : (J : Past) (actors : Server → Option Actor) (finding : Finding) → IsHoleAmong (rows_in J) (rows_in J) finding → IsSo J actors (said finding)
hole_so J actors finding is =
    let at = hole_among (rows_in J) (rows_in J) finding is in
    let row = row_of_journal J (key_is.Table at.0) (row_is.Table at.1 at.2) at.3 in
    told at.0 at.1 at.2 row at.4
  where
    told : (table : TableName) (state : TableState) (version : ℕ) → cat J (key_is.Table table) ≡ Some (row_is.Table state version) → IsHoleOf (rows_in J) table finding → IsSo J actors (said finding)
    told table state version row (key, same, least) =
        subst (λ (f : Finding). IsSo J actors (said f)) (sym same)
        ((state, version, row), out_is J table key least.0, λ lesser less out. least.1 lesser less (is_out J table lesser out))

pub so_hole : (J : Past) (actors : Server → Option Actor) (table : TableName) (key : List ℕ) → IsSo J actors (said_hole table key) → IsHoleAmong (rows_in J) (rows_in J) (finding_is.Hole table key)
so_hole J actors table key ((state, version, row), out, lesser_in) =
    among_hole (rows_in J) (rows_in J) (finding_is.Hole table key) table state version (row_in_journal J (key_is.Table table) (row_is.Table state version) row)
    (key, refl, (is_out J table key out, λ lesser less is. lesser_in lesser less (out_is J table lesser is)))
