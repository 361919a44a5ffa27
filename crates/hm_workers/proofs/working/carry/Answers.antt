use Rattle.std.proofs.Common.{subst, sym}
use Rattle.hm_workers.specs.Ends.{EndIs}
use Rattle.hm_workers.specs.declared.ended.WorkEnd.{WorkEnd}
use Rattle.hm_workers.proofs.Running.{ends_by}
use Rattle.hm_workers.proofs.working.carry.Goals as goal

pub returns-in-Err-clause-end : goal.returns-in-Err-clause-end
returns-in-Err-clause-end g c =
    let w = c.bring.new.seat.view in subst (λ (z : WorkEnd). EndIs g.H.Hall.rests w z) (sym c.end_of.ensures) (ends_by g.H.Hall.rests w c.in-Err.fault c.in-Err.ensures.fault)
