use Rattle.std.proofs.Common.{ap, ◌∙◌}
use Rattle.hm_catalog.specs.Kept.{key_of}
use Rattle.hm_model.specs.Catalog.{row_at}
use Rattle.hm_model.specs.RowsSaid.{Rows}
use Rattle.hm_judge.proofs.picks.row.Goals as goal

pub returns : goal.returns
returns c =
    c.get.ensures
    ∙ ap (λ (rows : Rows). row_at rows (key_of c.args.name.now)) c.catalog.ensures
    ∙ ap (λ there. there (key_of c.args.name.now)) (c.rows_tell.ensures.rows c.args.records.now.past)
