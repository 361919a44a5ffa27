use Rattle.std.proofs.Common.{◌≤◌, ◌<◌, ◌^◌, arith}
use Rattle.hm_names.proofs.TextLaws.{read_server-server_text}
use Rattle.hm_names.proofs.server.ServerName.named.Goals as goal

pub returns : goal.returns
returns c =
    let s = c.self.inside in
    let low : s.port ≤ 65535 = omega arith in
    let small : s.start < 2 ^ 64 = omega arith in
    let law = read_server-server_text (record { host = s.host; port = s.port; start = s.start }) in
    rw (← c.self.view_is) (law (c.as_bytes-host.ensures.named, c.self.invariant.0, low, c.self.invariant.1, small))
