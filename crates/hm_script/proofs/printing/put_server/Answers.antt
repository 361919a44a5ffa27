use Rattle.std.proofs.Common.{◌≡◌, ◌<◌, ◌^◌, true, ap, subst, arith}
use Rattle.hm_script.specs.Values.{named, of_server}
use Rattle.hm_names.specs.Server.{Server}
use Rattle.hm_names.specs.Servers.{server_text}
use Rattle.hm_script.specs.Printing.{is_word}
use Rattle.hm_script.proofs.TextWords.{word_server}
use Rattle.hm_script.proofs.printing.put_server.Goals as goal

pub returns-clause-read_back : goal.returns-clause-read_back
returns-clause-read_back c =
    let s = c.server.inside in
    let port : s.port < 2 ^ 64 = omega arith in
    let start : s.start < 2 ^ 64 = omega arith in
    let P : Server → Type 0 = λ v. is_word (server_text v) ≡ true in
    let word = word_server (record { host = s.host; port = s.port; start = s.start }) c.as_bytes-host.ensures.named port start in
    (subst P c.server.view_is word, ap (named of_server) c.write.ensures.reads_back)
