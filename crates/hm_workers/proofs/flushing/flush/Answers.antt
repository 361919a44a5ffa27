use Rattle.hm_workers.proofs.Running.{adds_more}
use Rattle.hm_workers.proofs.Staying.{flushed_before}
use Rattle.hm_workers.proofs.flushing.flush.Goals as goal

pub returns-in-Ok-clause-mine : goal.returns-in-Ok-clause-mine
returns-in-Ok-clause-mine g c =
    let u = c.args.seat.now.view in let v = c.go_out.new.seat.view in let w = c.come_back.new.seat.view in
    adds_more g.H.Hall.editions_in 0 u v w c.go_out.ensures.part c.go_out.ensures.mine c.come_back.ensures.mine

pub returns-in-Err-clause-mine : goal.returns-in-Err-clause-mine
returns-in-Err-clause-mine g c =
    let u = c.args.seat.now.view in let v = c.go_out.new.seat.view in let w = c.come_back.new.seat.view in
    adds_more g.H.Hall.editions_in 0 u v w c.go_out.ensures.part c.go_out.ensures.mine c.come_back.ensures.mine

pub returns-in-Ok-clause-flushed : goal.returns-in-Ok-clause-flushed
returns-in-Ok-clause-flushed g c =
    let u = c.args.seat.now.view in let v = c.go_out.new.seat.view in let w = c.come_back.new.seat.view in
    flushed_before g.H.Kept.shown g.H.Hall.hall u.front v.front w c.go_out.ensures.front c.in-Ok.ensures.flushed
