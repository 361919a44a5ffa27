use Rattle.std.proofs.Common.{◌-◌, ◌^◌, refl, arith}
use Rattle.hm_script.proofs.printing.put_refuse_storage.Goals as goal

pub returns-clause-fit : goal.returns-clause-fit
returns-clause-fit c small = ((refl, refl), (c.in_ok-put_number.ensures.read_back 0 (2 ^ 32 - 1) (omega arith) small, tt))
