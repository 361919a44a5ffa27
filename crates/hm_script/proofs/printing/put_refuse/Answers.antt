use Rattle.std.proofs.Common.{◌-◌, ◌^◌, arith}
use Rattle.hm_script.proofs.PrintLemmas.{target_read}
use Rattle.hm_script.proofs.printing.put_refuse.Goals as goal

pub returns-clause-fit : goal.returns-clause-fit
returns-clause-fit c small =
    let server = c.in_ok-put_server.ensures.read_back in
    ((server.0, target_read c.args.server.now server.1), (c.in_ok-put_number.ensures.read_back 0 (2 ^ 32 - 1) (omega arith) small, tt))
