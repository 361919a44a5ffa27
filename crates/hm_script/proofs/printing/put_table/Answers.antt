use Rattle.std.proofs.Common.{ap}
use Rattle.hm_script.specs.Values.{named, of_table}
use Rattle.hm_script.proofs.TextWords.{word_table}
use Rattle.hm_script.proofs.printing.put_table.Goals as goal

pub returns-clause-read_back : goal.returns-clause-read_back
returns-clause-read_back c =
    (word_table c.args.table.now (c.as_bytes-ns.ensures.named, c.as_bytes-qualifier.ensures.named), ap (named of_table) c.write.ensures.reads_back)
