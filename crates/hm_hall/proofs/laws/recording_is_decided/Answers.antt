use Rattle.hm_hall.proofs.Deciding.{full_next, halted_first, recorded_else}
use Rattle.hm_hall.proofs.laws.recording_is_decided.Goals as goal

pub returns-clause-halted : goal.returns-clause-halted
returns-clause-halted c = halted_first

pub returns-clause-full : goal.returns-clause-full
returns-clause-full c = full_next

pub returns-clause-recorded : goal.returns-clause-recorded
returns-clause-recorded c = recorded_else
