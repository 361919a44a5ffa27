use Rattle.hm_tied.proofs.OthersIn.{report_owes}
use Rattle.hm_tied.proofs.bounds.reports_owe.Goals as goal

pub returns : goal.returns
returns c = report_owes
