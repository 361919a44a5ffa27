use Rattle.hm_tied.proofs.CallsIn.{over_less, owed_less, slack_less}
use Rattle.hm_tied.proofs.bounds.less_is_owed.Goals as goal

pub returns-clause-owed : goal.returns-clause-owed
returns-clause-owed c = owed_less

pub returns-clause-slack : goal.returns-clause-slack
returns-clause-slack c = slack_less

pub returns-clause-over : goal.returns-clause-over
returns-clause-over c = over_less
