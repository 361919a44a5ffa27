use Rattle.hm_terms.proofs.Travelling.{commands_bring, downs_bring, new_travelled, repeats_both}
use Rattle.hm_terms.proofs.laws.reports_have_travelled.Goals as goal

pub returns-clause-new : goal.returns-clause-new
returns-clause-new c = new_travelled

pub returns-clause-commands : goal.returns-clause-commands
returns-clause-commands c = commands_bring

pub returns-clause-downs : goal.returns-clause-downs
returns-clause-downs c = downs_bring

pub returns-clause-twice : goal.returns-clause-twice
returns-clause-twice c = repeats_both
