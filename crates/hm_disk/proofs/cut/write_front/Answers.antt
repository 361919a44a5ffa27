use Rattle.std.proofs.Common.{ℕ, length, length-take, arith}
use Rattle.hm_disk.proofs.Splice.{torn_wider}
use Rattle.hm_disk.proofs.cut.write_front.Goals as goal

pub returns-then-count-gt0-clause-crash : goal.returns-then-count-gt0-clause-crash
returns-then-count-gt0-clause-crash g c f now =
    let from = c.write_at.ensures.crash f now in
    (from.0, from.1, torn_wider c.args.at _ (length c.args.bytes.now) from.0 f (omega (arith, length-take {A = ℕ})) from.2)
