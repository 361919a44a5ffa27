use Rattle.std.proofs.Common.{rules, subst, sym}
use Rattle.hm_hall.specs.declared.taken.Taken.{Taken}
use Rattle.hm_workers.specs.Ends.{EndIs, Owes}
use Rattle.hm_workers.specs.declared.ended.WorkEnd.{WorkEnd}
use Rattle.hm_workers.proofs.Running.{adds_more, ends_by, part_on, stops_on}
use Rattle.hm_workers.proofs.working.hand_over.Goals as goal

pub put_back-requires-clause-owes : goal.put_back-requires-clause-owes
put_back-requires-clause-owes g c = let f = c.in-Err.ensures.free in let o = subst (λ (t : Taken). Owes c.finish.new.seat.view t.pid.0) (sym f.1) f.0 in search (rules, o)

pub returns-in-Ok-clause-ready : goal.returns-in-Ok-clause-ready
returns-in-Ok-clause-ready g c = c.finish.ensures.ready

pub returns-in-Ok-clause-free : goal.returns-in-Ok-clause-free
returns-in-Ok-clause-free g c = c.in-Ok.ensures.free

pub returns-in-Ok-clause-part : goal.returns-in-Ok-clause-part
returns-in-Ok-clause-part g c = c.finish.ensures.part

pub returns-in-Ok-clause-mine : goal.returns-in-Ok-clause-mine
returns-in-Ok-clause-mine g c = c.finish.ensures.mine

pub returns-in-Ok-clause-end : goal.returns-in-Ok-clause-end
returns-in-Ok-clause-end g c = tt

pub returns-in-Err-clause-ready : goal.returns-in-Err-clause-ready
returns-in-Err-clause-ready g c = c.put_back.ensures.ready

pub returns-in-Err-clause-free : goal.returns-in-Err-clause-free
returns-in-Err-clause-free g c = c.put_back.ensures.free

pub returns-in-Err-clause-part : goal.returns-in-Err-clause-part
returns-in-Err-clause-part g c = part_on c.args.seat.now.view c.finish.new.seat.view c.put_back.new.seat.view c.finish.ensures.part c.put_back.ensures.part

pub returns-in-Err-clause-mine : goal.returns-in-Err-clause-mine
returns-in-Err-clause-mine g c =
    adds_more g.H.Hall.editions_in 1 c.args.seat.now.view c.finish.new.seat.view c.put_back.new.seat.view c.finish.ensures.part c.finish.ensures.mine c.put_back.ensures.mine

pub returns-in-Err-clause-end : goal.returns-in-Err-clause-end
returns-in-Err-clause-end g c =
    let w = c.put_back.new.seat.view in let f = c.in-Err.ensures.free in
    subst (λ (z : WorkEnd). EndIs g.H.Hall.rests w z) (sym c.end_of.ensures)
    (ends_by g.H.Hall.rests w c.in-Err.fault (stops_on c.finish.new.seat.view w c.in-Err.fault c.put_back.ensures.stopped f.2))
