use Rattle.hm_workers.proofs.Staying.{carry_adds, carry_fault, carry_free, carry_may}
use Rattle.hm_workers.proofs.stays.bring.Goals as goal

pub leave-requires-clause-may : goal.leave-requires-clause-may
leave-requires-clause-may g c =
    let k = g.H.Kept in let h = g.H.Hall in let m = g.met.H.Hall in let v = c.args.seat.now.view in let u = c.enter-held.new.seat.view in
    let e = c.enter-held.ensures.seat.1 in let x = c.enter-held.result.value in let found = c.enter-held.ensures.found in
    let y = c.carry-carried.new.self in
    carry_may k.shown h.editions_in v u e.0 x y (h.hall x) (h.hall y) (m.ties x) (m.ties y) e.1 found c.carry-carried.ensures.terms
    c.carry-carried.result c.carry-carried.ensures.answers

pub returns-clause-mine : goal.returns-clause-mine
returns-clause-mine g c =
    let k = g.H.Kept in let h = g.H.Hall in let m = g.met.H.Hall in let v = c.args.seat.now.view in let u = c.enter-held.new.seat.view in
    let e = c.enter-held.ensures.seat.1 in let x = c.enter-held.result.value in let found = c.enter-held.ensures.found in
    let y = c.carry-carried.new.self in
    carry_adds k.shown h.editions_in v u e.0 x y (h.hall x) (h.hall y) (m.ties x) (m.ties y) e.1 found c.carry-carried.ensures.terms
    c.leave.new.seat.view c.leave.ensures.seat.1 c.carry-carried.result c.carry-carried.ensures.answers

pub returns-clause-free : goal.returns-clause-free
returns-clause-free g c =
    let k = g.H.Kept in let h = g.H.Hall in let m = g.met.H.Hall in let v = c.args.seat.now.view in let u = c.enter-held.new.seat.view in
    let e = c.enter-held.ensures.seat.1 in let x = c.enter-held.result.value in let found = c.enter-held.ensures.found in
    let y = c.carry-carried.new.self in
    carry_free k.shown h.editions_in v u e.0 x y (h.hall x) (h.hall y) (m.ties x) (m.ties y) e.1 found c.carry-carried.ensures.terms
    c.leave.new.seat.view c.leave.ensures.seat.1 c.requires.free c.carry-carried.result c.carry-carried.ensures.answers

pub returns-clause-fault : goal.returns-clause-fault
returns-clause-fault g c =
    let k = g.H.Kept in let h = g.H.Hall in let m = g.met.H.Hall in let v = c.args.seat.now.view in let u = c.enter-held.new.seat.view in
    let e = c.enter-held.ensures.seat.1 in let x = c.enter-held.result.value in let found = c.enter-held.ensures.found in
    let y = c.carry-carried.new.self in
    carry_fault k.shown h.editions_in v u e.0 x y (h.hall x) (h.hall y) (m.ties x) (m.ties y) e.1 found c.carry-carried.ensures.terms
    c.leave.new.seat.view c.leave.ensures.seat.1 c.carry-carried.result c.carry-carried.ensures.answers
