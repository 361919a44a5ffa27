use Rattle.std.proofs.Common.{◌≡◌, IfOk, ap, subst, ◌∙◌}
use Rattle.hm_model.specs.RowsSaid.{Rows}
use Rattle.hm_reads.specs.Reading.{read_of}
use Rattle.hm_judge.proofs.inputs.rows_of.Goals as goal

pub returns : goal.returns
returns c =
    subst (λ (l : Rows). IfOk c.read.result (λ rows. rows ≡ l)) (ap (read_of c.args.args.now) c.catalog.ensures ∙ c.reads_tell.ensures c.args.records.now.past c.args.args.now) c.read.ensures
