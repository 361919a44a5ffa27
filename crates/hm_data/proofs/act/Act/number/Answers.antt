use Rattle.std.proofs.Common.{ap, ◌∙◌, rules}
use Rattle.hm_data.specs.Numbers.{act_of}
use Rattle.hm_data.proofs.ActNumbers.{act_of-act_number}
use Rattle.hm_data.proofs.act.Act.number.Goals as goal

pub returns-clause-number : goal.returns-clause-number
returns-clause-number c = search rules

pub returns-clause-back : goal.returns-clause-back
returns-clause-back c = ap act_of (returns-clause-number c) ∙ act_of-act_number c.args.self
