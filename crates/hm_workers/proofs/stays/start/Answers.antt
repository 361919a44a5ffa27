use Rattle.hm_workers.proofs.Staying.{take_adds, take_may, take_shut, take_task}
use Rattle.hm_workers.proofs.stays.start.Goals as goal

pub leave-requires-clause-may : goal.leave-requires-clause-may
leave-requires-clause-may g c =
    let k = g.H.Kept in let h = g.H.Hall in let m = g.met.H.Hall in let v = c.args.seat.now.view in let u = c.enter-held.new.seat.view in
    let e = c.enter-held.ensures.seat.1 in let x = c.enter-held.result.value in let found = c.enter-held.ensures.found in
    let y = c.take-task.new.self in
    take_may k.shown h.editions_in v u e.0 x y (h.hall x) (h.hall y) (m.ties x) (m.ties y) e.1 found c.take-task.ensures.terms
    (h.can_go ((k.shown x).terms)) c.take-task.result c.take-task.ensures.answers

pub returns-clause-mine : goal.returns-clause-mine
returns-clause-mine g c =
    let k = g.H.Kept in let h = g.H.Hall in let m = g.met.H.Hall in let v = c.args.seat.now.view in let u = c.enter-held.new.seat.view in
    let e = c.enter-held.ensures.seat.1 in let x = c.enter-held.result.value in let found = c.enter-held.ensures.found in
    let y = c.take-task.new.self in
    take_adds k.shown h.editions_in v u e.0 x y (h.hall x) (h.hall y) (m.ties x) (m.ties y) e.1 found c.take-task.ensures.terms
    c.leave.new.seat.view c.leave.ensures.seat.1 (h.can_go ((k.shown x).terms)) c.take-task.result c.take-task.ensures.answers

pub returns-clause-task : goal.returns-clause-task
returns-clause-task g c =
    let k = g.H.Kept in let h = g.H.Hall in let m = g.met.H.Hall in let v = c.args.seat.now.view in let u = c.enter-held.new.seat.view in
    let e = c.enter-held.ensures.seat.1 in let x = c.enter-held.result.value in let found = c.enter-held.ensures.found in
    let y = c.take-task.new.self in
    take_task k.shown h.editions_in v u e.0 x y (h.hall x) (h.hall y) (m.ties x) (m.ties y) e.1 found c.take-task.ensures.terms
    c.leave.new.seat.view c.leave.ensures.seat.1 (h.can_go ((k.shown x).terms)) h.rests c.requires.free c.take-task.result c.take-task.ensures.idle c.take-task.ensures.answers

pub returns-clause-shut : goal.returns-clause-shut
returns-clause-shut g c =
    let k = g.H.Kept in let h = g.H.Hall in let m = g.met.H.Hall in let v = c.args.seat.now.view in let u = c.enter-held.new.seat.view in
    let e = c.enter-held.ensures.seat.1 in let x = c.enter-held.result.value in let found = c.enter-held.ensures.found in
    let y = c.take-task.new.self in
    take_shut k.shown h.editions_in v u e.0 x y (h.hall x) (h.hall y) (m.ties x) (m.ties y) e.1 found c.take-task.ensures.terms
    (h.can_go ((k.shown x).terms)) c.take-task.result c.take-task.ensures.answers
