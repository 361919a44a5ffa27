use Rattle.hm_tied.proofs.Others.{report_owes}
use Rattle.hm_tied.proofs.laws.reports_owe.Goals as goal

pub returns : goal.returns
returns c = report_owes
