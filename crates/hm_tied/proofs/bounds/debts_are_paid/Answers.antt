use Rattle.hm_tied.proofs.PaidIn.{fence_pays, one_pays, owed_told, report_pays}
use Rattle.hm_tied.proofs.bounds.debts_are_paid.Goals as goal

pub returns-clause-told : goal.returns-clause-told
returns-clause-told c = owed_told

pub returns-clause-one : goal.returns-clause-one
returns-clause-one c = one_pays

pub returns-clause-report : goal.returns-clause-report
returns-clause-report c = report_pays

pub returns-clause-fence : goal.returns-clause-fence
returns-clause-fence c = fence_pays
