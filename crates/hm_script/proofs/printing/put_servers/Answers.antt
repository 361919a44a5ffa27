use Rattle.std.proofs.Common.{◌<◌, length, arith}
use Rattle.hm_script.specs.Values.{server, of_server}
use Rattle.hm_script.proofs.PrintLemmas.{text_more, fit_next}
use Rattle.hm_script.proofs.printing.put_servers.Goals as goal

pub loop-server-preserved : goal.loop-server-preserved
loop-server-preserved c =
    let xs = c.args.servers.now in
    let i = c.loop-server.server-index in
    let within : i < length xs = omega arith in
    record {
      written = text_more of_server _ _ _ xs i c.server-item.result within c.server-item.is c.loop-server.invariant.written c.in_ok-put_server.ensures.written;
      read_back = fit_next server of_server xs i c.server-item.result within c.server-item.is c.loop-server.invariant.read_back c.in_ok-put_server.ensures.read_back;
    }
