-- The live regions of tables leave no key out exactly where each table that is there is covered.
use Rattle.std.specs.declared.alloc.AllocError.{AllocError}
use Rattle.std.proofs.Common.{◌≡◌, ◌↔◌, Bool, Err, IfOk, IsTrue, Ok, Result, Option, Some, None, refl, sym, ◌∙◌}
use Rattle.std.specs.List.{AllByRecursion}
use Rattle.std.proofs.lemmas.Bool.{false≢true}
use Rattle.std.proofs.lemmas.Option.{none-some}
use Rattle.hm_names.specs.declared.table.TableName.{TableName}
use Rattle.hm_data.specs.declared.catalog.CatKey.{CatKey}
use Rattle.hm_data.specs.declared.catalog.CatKey.TheVariants as key_is
use Rattle.hm_data.specs.declared.catalog.CatRow.{CatRow}
use Rattle.hm_model.specs.Catalog.{cat}
use Rattle.hm_model.specs.Journal.{Past}
use Rattle.hm_model.specs.Locks.{IsIn}
use Rattle.hm_model.specs.Ranges.{IsCovered}
use Rattle.hm_ranges.specs.Holes.{IsLeast}
use Rattle.hm_ranges.specs.Laws.{TellCover}
use Rattle.hm_ranges.specs.Live.{ranges_in}
use Rattle.hm_ranges.proofs.LiveRows.{ranges_live, row_in_journal, row_of_journal}
use Rattle.hm_catalog.specs.Rows.{rows_in}
use Rattle.hm_base.specs.Whole.{AreCovered, HasNoHole}
use Rattle.hm_base.proofs.Each.{each_in, each_of}

-- no row's table has a hole exactly where each table that is there is covered
pub holes_tell : TellCover → (J : Past) → AllByRecursion (λ row. HasNoHole (rows_in J) row.0) (rows_in J) ↔ AreCovered (cat J)
holes_tell tell J = (all_covered, λ covered. each_of (λ row. HasNoHole (rows_in J) row.0) (rows_in J) (by covered))
  where
    all_covered : AllByRecursion (λ row. HasNoHole (rows_in J) row.0) (rows_in J) → AreCovered (cat J)
    all_covered each table there = at (cat J (key_is.Table table)) refl
      where
        at : (o : Option CatRow) → cat J (key_is.Table table) ≡ o → IsCovered (cat J) table
        at None none = absurd (there none)
        at (Some row) is =
            (tell (cat J) table (ranges_in (rows_in J) table) (ranges_live J table) None (each_in (λ r. HasNoHole (rows_in J) r.0) (rows_in J) each (key_is.Table table, row) (row_in_journal J (key_is.Table table) row is))).0 refl

    none_out : (table : TableName) → IsCovered (cat J) table → IsLeast (ranges_in (rows_in J) table) None
    none_out table covered key out = let at = covered key in false≢true (sym (out at.1 ((ranges_live J table at.1).1 (at.0, at.2, at.3))) ∙ at.4)

    by : AreCovered (cat J) → (row : CatKey × CatRow) → IsIn row (rows_in J) → HasNoHole (rows_in J) row.0
    by covered (key_is.Ns ns, row) among = tt
    by covered (key_is.Table table, row) among = none_out table (covered table (λ none. none-some row (sym none ∙ row_of_journal J (key_is.Table table) row among)))
    by covered (key_is.Region region, row) among = tt

-- what a test says, it says of what is as much
pub told_by : {P Q : Type 0} (result : Result Bool AllocError) → IfOk result (λ so. IsTrue so ↔ P) → P ↔ Q → IfOk result (λ so. IsTrue so ↔ Q)
told_by (Ok so) is tells = (λ e. tells.0 (is.0 e), λ q. is.1 (tells.1 q))
told_by (Err why) is tells = tt
