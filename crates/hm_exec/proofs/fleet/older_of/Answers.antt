use Rattle.hm_exec.proofs.Living.{none_by, some_by}
use Rattle.hm_exec.proofs.fleet.older_of.Goals as goal

pub returns-clause-none : goal.returns-clause-none
returns-clause-none c = none_by _ _ _ c.fleet_is_told.ensures.tell c.servers.ensures _ c.older_of.ensures.older

pub returns-clause-some : goal.returns-clause-some
returns-clause-some c = some_by _ _ _ c.fleet_is_told.ensures.tell c.servers.ensures _ c.older_of.ensures.older c.older_of.ensures.live
