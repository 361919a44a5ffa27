use Rattle.std.proofs.Common.{ap}
use Rattle.hm_script.specs.Values.{named, of_ns}
use Rattle.hm_script.proofs.TextWords.{word_ns}
use Rattle.hm_script.proofs.printing.put_ns.Goals as goal

pub returns-clause-read_back : goal.returns-clause-read_back
returns-clause-read_back c =
    (word_ns c.args.ns.now c.as_bytes-named.ensures.named, ap (named of_ns) c.write.ensures.reads_back)
