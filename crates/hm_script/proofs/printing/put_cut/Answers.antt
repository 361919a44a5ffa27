use Rattle.std.proofs.Common.{◌-◌, ◌^◌, arith}
use Rattle.hm_script.proofs.printing.put_cut.Goals as goal

pub returns-clause-fit : goal.returns-clause-fit
returns-clause-fit c =
    (c.in_ok-put_number.ensures.read_back 0 (2 ^ 64 - 1) (omega arith) (omega arith), (c.in_ok-put_number-2.ensures.read_back 0 (2 ^ 64 - 1) (omega arith) (omega arith), tt))
