use Rattle.std.proofs.Common.{◌↔◌, IsTrue, ap, subst, ◌∙◌}
use Rattle.hm_model.specs.Catalog.{row_at}
use Rattle.hm_base.specs.Fits.{RowFits}
use Rattle.hm_base.proofs.fits.table_fits.Goals as goal

pub returns-then-drawn-le-MOST_IDS : goal.returns-then-drawn-le-MOST_IDS
returns-then-drawn-le-MOST_IDS c =
    let is = subst (λ there. IsTrue c.row_fits.result ↔ RowFits there c.args.table.now c.args.row.now) (ap row_at c.catalog.ensures ∙ c.rows_tell.ensures.rows c.args.records.now.past) c.row_fits.ensures in
    (λ so. (c.if-drawn-le-MOST_IDS.true, is.0 so), λ both. is.1 both.1)
