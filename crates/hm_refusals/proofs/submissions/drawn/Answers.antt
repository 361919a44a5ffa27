use Rattle.std.proofs.Common.{◌≤◌, subst, sym}
use Rattle.hm_model.proofs.Grown.{ids_within}
use Rattle.hm_refusals.proofs.submissions.drawn.Goals as goal

pub returns-clause-few : goal.returns-clause-few
returns-clause-few c = subst (λ n. n ≤ 4096) (sym c.drawn.ensures) (ids_within c.args.records.now.past c.procedures-legal.ensures.legal c.args.table.now)
