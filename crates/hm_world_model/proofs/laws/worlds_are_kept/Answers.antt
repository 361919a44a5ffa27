use Rattle.hm_world_model.proofs.Opening.{events_keep, opened_kept}
use Rattle.hm_world_model.proofs.laws.worlds_are_kept.Goals as goal

pub returns-clause-opened : goal.returns-clause-opened
returns-clause-opened c = opened_kept

pub returns-clause-events : goal.returns-clause-events
returns-clause-events c = events_keep
