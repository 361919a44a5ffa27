use Rattle.hm_tied.proofs.CallsIn.{late_told, wake_all_owes, wake_held_owes, wake_owes}
use Rattle.hm_tied.proofs.bounds.wakes_owe.Goals as goal

pub returns-clause-one : goal.returns-clause-one
returns-clause-one c = wake_owes

pub returns-clause-all : goal.returns-clause-all
returns-clause-all c = wake_all_owes

pub returns-clause-held : goal.returns-clause-held
returns-clause-held c = wake_held_owes

pub returns-clause-late : goal.returns-clause-late
returns-clause-late c = late_told
