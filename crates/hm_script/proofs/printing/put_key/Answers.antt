use Rattle.std.proofs.Common.{ap}
use Rattle.hm_script.specs.Values.{named, of_key}
use Rattle.hm_script.proofs.TextWords.{word_key}
use Rattle.hm_script.proofs.printing.put_key.Goals as goal

pub returns-clause-read_back : goal.returns-clause-read_back
returns-clause-read_back c =
    let small = rw c.as_bytes.ensures.value at c.fit_eight_bits.ensures in
    (word_key c.args.key.now small, ap (named of_key) c.write.ensures.reads_back)
