use Rattle.std.proofs.Common.{subst}
use Rattle.hm_ports.specs.Faults.{Rose}
use Rattle.hm_top.specs.Got.{IsLast}
use Rattle.hm_top.proofs.Pieces.{tried}
use Rattle.hm_top.proofs.last_line.finish.Goals as goal

pub returns-clause-line : goal.returns-clause-line
returns-clause-line g c told =
    let k = g.K.Sink in
    subst (IsLast (Rose (k.faults c.args.out.now) (k.faults c.put_all.new.out)) (k.got c.args.out.now) (k.got c.put_all.new.out)) c.pieces.ensures
    (tried _ _ _ _ _ c.put_all.result (c.put_all.ensures.all told) (c.put_all.ensures.part told) c.put_all.ensures.cause)
