use Rattle.std.proofs.Common.{arith}
use Rattle.hm_script.proofs.PrintLemmas.{number_read}
use Rattle.hm_script.proofs.printing.put_number.Goals as goal

pub returns-clause-read_back : goal.returns-clause-read_back
returns-clause-read_back c least most from within = number_read least most c.args.number (omega arith) from within
