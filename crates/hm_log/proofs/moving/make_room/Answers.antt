use Rattle.std.proofs.Common.{length, ap, arith}
use Rattle.hm_log.proofs.moving.make_room.Goals as goal

pub returns-in_err-put_part-clause-goes_on : goal.returns-in_err-put_part-clause-goes_on
returns-in_err-put_part-clause-goes_on g c at n base start low high so_far =
    c.put_part.ensures.goes_on at n base start low (omega (arith, high, ap length c.deref.ensures.value)) so_far

pub returns-clause-goes_on : goal.returns-clause-goes_on
returns-clause-goes_on g c at n base start low high so_far =
    c.put_part.ensures.goes_on at n base start low (omega (arith, high, ap length c.deref.ensures.value)) so_far
