use Rattle.hm_log.proofs.Runs.{run_goes_on}
use Rattle.hm_log.proofs.moving.put_part.Goals as goal

pub returns-clause-goes_on : goal.returns-clause-goes_on
returns-clause-goes_on g c from n base start low high so_far =
    run_goes_on g.D.Disk g.met.D.Disk.only_now from n _ _ base start _ _ low high c.write_at.ensures.crash c.write_at.ensures.time so_far
