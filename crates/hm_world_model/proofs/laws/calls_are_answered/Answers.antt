use Rattle.hm_world_model.proofs.Progress.{earlier_ended, open_answered, reports_heard}
use Rattle.hm_world_model.proofs.laws.calls_are_answered.Goals as goal

pub returns-clause-earlier : goal.returns-clause-earlier
returns-clause-earlier c = earlier_ended

pub returns-clause-answered : goal.returns-clause-answered
returns-clause-answered c = open_answered

pub returns-clause-heard : goal.returns-clause-heard
returns-clause-heard c = reports_heard
