use Rattle.hm_model.proofs.Calls.{calls_own, calls_stay, reports_fit}
use Rattle.hm_model.proofs.laws.calls_are_own.Goals as goal

pub returns-clause-own : goal.returns-clause-own
returns-clause-own c = calls_own

pub returns-clause-stay : goal.returns-clause-stay
returns-clause-stay c = calls_stay

pub returns-clause-fit : goal.returns-clause-fit
returns-clause-fit c = reports_fit
