use Rattle.hm_terms.proofs.Scenes.{commands_within, downs_within, new_within, within_few}
use Rattle.hm_terms.proofs.laws.refusals_stay_within.Goals as goal

pub returns-clause-new : goal.returns-clause-new
returns-clause-new c = new_within

pub returns-clause-commands : goal.returns-clause-commands
returns-clause-commands c = commands_within

pub returns-clause-downs : goal.returns-clause-downs
returns-clause-downs c = downs_within

pub returns-clause-few : goal.returns-clause-few
returns-clause-few c = within_few
