use Rattle.std.proofs.Common.{ap, arith}
use Rattle.hm_script.specs.Values.{named, of_nonce}
use Rattle.hm_script.proofs.TextWords.{word_nonce}
use Rattle.hm_script.proofs.printing.put_nonce.Goals as goal

pub returns-clause-read_back : goal.returns-clause-read_back
returns-clause-read_back c =
    (word_nonce c.args.nonce.now (omega arith) (omega arith), ap (named of_nonce) c.write.ensures.reads_back)
