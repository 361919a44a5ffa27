use Rattle.std.proofs.Common.{◌-◌, ◌^◌, arith}
use Rattle.hm_script.proofs.printing.put_modify.Goals as goal

pub returns-clause-fit : goal.returns-clause-fit
returns-clause-fit c =
    (c.in_ok-put_nonce.ensures.read_back, (c.in_ok-put_table.ensures.read_back, (c.in_ok-put_number.ensures.read_back 0 (2 ^ 64 - 1) (omega arith) (omega arith), tt)))
