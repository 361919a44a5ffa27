use Rattle.std.proofs.Common.{◌≡◌, ◌↔◌, List, IfOk, IsTrue, Some, subst}
use Rattle.std.specs.Option.{option_copied}
use Rattle.hm_data.specs.declared.sheet.Sheet.{Sheet}
use Rattle.hm_model.specs.Evaluation.{answer_of}
use Rattle.hm_judge.proofs.Judging.{evaluated_if}
use Rattle.hm_judge.proofs.evaluation.is_evaluated.Goals as goal

pub returns : goal.returns
returns c =
    evaluated_if c.args.records.now.past c.procedures-legal.ensures.legal c.args.pid.0 (option_copied c.args.pick) c.in_ok-at.at c.args.out.now c.is_said-said.result c.requires c.in_ok-at.ensures.input
    (subst (λ (l : List Sheet). IfOk c.is_said-said.result (λ same. IsTrue same ↔ (answer_of l c.in_ok-at.at ≡ Some c.args.out.now))) c.sheets_of.ensures c.is_said-said.ensures)
