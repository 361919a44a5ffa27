use Rattle.std.proofs.Common.{◌<◌, length, arith}
use Rattle.hm_script.specs.Values.{key, of_key}
use Rattle.hm_script.proofs.PrintLemmas.{text_more, fit_next}
use Rattle.hm_script.proofs.printing.put_keys.Goals as goal

pub loop-key-preserved : goal.loop-key-preserved
loop-key-preserved c =
    let xs = c.args.keys.now in
    let i = c.loop-key.key-index in
    let within : i < length xs = omega arith in
    record {
      written = text_more of_key _ _ _ xs i c.key-item.result within c.key-item.is c.loop-key.invariant.written c.in_ok-put_key.ensures.written;
      read_back = fit_next key of_key xs i c.key-item.result within c.key-item.is c.loop-key.invariant.read_back c.in_ok-put_key.ensures.read_back;
    }
