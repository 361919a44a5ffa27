use Rattle.hm_workers.proofs.Staying.{back_adds, back_free, back_may, back_stopped, is_out}
use Rattle.hm_workers.proofs.stays.put_back.Goals as goal

pub put_back-requires : goal.put_back-requires
put_back-requires g c =
    let k = g.H.Kept in let h = g.H.Hall in let m = g.met.H.Hall in let v = c.args.seat.now.view in
    let x = c.enter-held.result.value in let found = c.enter-held.ensures.found in
    is_out k.shown h.editions_in v x (h.hall x) (m.ties x) found c.args.taken.pid.0 c.requires.owes

pub leave-requires-clause-may : goal.leave-requires-clause-may
leave-requires-clause-may g c =
    let k = g.H.Kept in let h = g.H.Hall in let m = g.met.H.Hall in let v = c.args.seat.now.view in let u = c.enter-held.new.seat.view in
    let e = c.enter-held.ensures.seat.1 in let x = c.enter-held.result.value in let found = c.enter-held.ensures.found in
    let y = c.put_back.new.self in
    back_may k.shown h.editions_in v u e.0 x y (h.hall x) (h.hall y) (m.ties x) (m.ties y) e.1 found c.put_back.ensures.terms
    c.args.taken c.requires.owes c.put_back.ensures.back

pub returns-clause-mine : goal.returns-clause-mine
returns-clause-mine g c =
    let k = g.H.Kept in let h = g.H.Hall in let m = g.met.H.Hall in let v = c.args.seat.now.view in let u = c.enter-held.new.seat.view in
    let e = c.enter-held.ensures.seat.1 in let x = c.enter-held.result.value in let found = c.enter-held.ensures.found in
    let y = c.put_back.new.self in
    back_adds k.shown h.editions_in v u e.0 x y (h.hall x) (h.hall y) (m.ties x) (m.ties y) e.1 found c.put_back.ensures.terms
    c.leave.new.seat.view c.leave.ensures.seat.1 c.args.taken c.put_back.ensures.back

pub returns-clause-free : goal.returns-clause-free
returns-clause-free g c =
    let k = g.H.Kept in let h = g.H.Hall in let m = g.met.H.Hall in let v = c.args.seat.now.view in let u = c.enter-held.new.seat.view in
    let e = c.enter-held.ensures.seat.1 in let x = c.enter-held.result.value in let found = c.enter-held.ensures.found in
    let y = c.put_back.new.self in
    back_free k.shown h.editions_in v u e.0 x y (h.hall x) (h.hall y) (m.ties x) (m.ties y) e.1 found c.put_back.ensures.terms
    c.leave.new.seat.view c.leave.ensures.seat.1 c.args.taken c.requires.owes c.put_back.ensures.back

pub returns-clause-stopped : goal.returns-clause-stopped
returns-clause-stopped g c =
    let k = g.H.Kept in let h = g.H.Hall in let m = g.met.H.Hall in let v = c.args.seat.now.view in let u = c.enter-held.new.seat.view in
    let e = c.enter-held.ensures.seat.1 in let x = c.enter-held.result.value in let found = c.enter-held.ensures.found in
    let y = c.put_back.new.self in
    back_stopped k.shown h.editions_in v u e.0 x y (h.hall x) (h.hall y) (m.ties x) (m.ties y) e.1 found c.put_back.ensures.terms
    c.leave.new.seat.view c.leave.ensures.seat.1 c.args.taken c.put_back.ensures.back
