use Rattle.hm_world_model.proofs.Idle.{idle_ended}
use Rattle.hm_world_model.proofs.Resting.{still_ended}
use Rattle.hm_world_model.proofs.laws.rest_is_the_end.Goals as goal

pub returns-clause-still : goal.returns-clause-still
returns-clause-still c = still_ended

pub returns-clause-idle : goal.returns-clause-idle
returns-clause-idle c = idle_ended
