use Rattle.hm_world_model.proofs.Findings.{few_come}
use Rattle.hm_world_model.proofs.laws.few_findings_come.Goals as goal

pub returns : goal.returns
returns c = few_come
