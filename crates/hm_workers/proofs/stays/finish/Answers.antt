use Rattle.std.proofs.Common.{◌≡◌}
use Rattle.hm_workers.specs.Ends.{IsFree, Owes, StopsBy}
use Rattle.hm_workers.proofs.Owing.{left_so}
use Rattle.hm_workers.proofs.Staying.{give_adds, give_free, give_may, is_answer, is_out}
use Rattle.hm_workers.proofs.stays.finish.Goals as goal

pub give-given-requires-clause-out : goal.give-given-requires-clause-out
give-given-requires-clause-out g c =
    let k = g.H.Kept in let h = g.H.Hall in let m = g.met.H.Hall in let v = c.args.seat.now.view in
    let x = c.enter-held.result.value in let found = c.enter-held.ensures.found in
    is_out k.shown h.editions_in v x (h.hall x) (m.ties x) found c.args.taken.pid.0 c.requires.owes

pub give-given-requires-clause-answer : goal.give-given-requires-clause-answer
give-given-requires-clause-answer g c =
    let k = g.H.Kept in let h = g.H.Hall in let m = g.met.H.Hall in let v = c.args.seat.now.view in
    let x = c.enter-held.result.value in let found = c.enter-held.ensures.found in
    is_answer k.shown h.editions_in v x (h.hall x) (m.ties x) found c.args.taken c.args.out c.requires.answer

pub leave-requires-clause-may : goal.leave-requires-clause-may
leave-requires-clause-may g c =
    let k = g.H.Kept in let h = g.H.Hall in let m = g.met.H.Hall in let v = c.args.seat.now.view in let u = c.enter-held.new.seat.view in
    let e = c.enter-held.ensures.seat.1 in let x = c.enter-held.result.value in let found = c.enter-held.ensures.found in
    let y = c.give-given.new.self in
    give_may k.shown h.editions_in v u e.0 x y (h.hall x) (h.hall y) (m.ties x) (m.ties y) e.1 found c.give-given.ensures.terms
    c.args.taken c.args.out c.requires.owes c.requires.answer c.give-given.result c.give-given.ensures.answers

pub returns-clause-mine : goal.returns-clause-mine
returns-clause-mine g c =
    let k = g.H.Kept in let h = g.H.Hall in let m = g.met.H.Hall in let v = c.args.seat.now.view in let u = c.enter-held.new.seat.view in
    let e = c.enter-held.ensures.seat.1 in let x = c.enter-held.result.value in let found = c.enter-held.ensures.found in
    let y = c.give-given.new.self in
    give_adds k.shown h.editions_in v u e.0 x y (h.hall x) (h.hall y) (m.ties x) (m.ties y) e.1 found c.give-given.ensures.terms
    c.leave.new.seat.view c.leave.ensures.seat.1 c.args.taken c.args.out c.requires.answer c.give-given.result c.give-given.ensures.answers

pub returns-clause-free : goal.returns-clause-free
returns-clause-free g c =
    let k = g.H.Kept in let h = g.H.Hall in let m = g.met.H.Hall in let v = c.args.seat.now.view in let u = c.enter-held.new.seat.view in
    let e = c.enter-held.ensures.seat.1 in let x = c.enter-held.result.value in let found = c.enter-held.ensures.found in
    let y = c.give-given.new.self in let w = c.leave.new.seat.view in
    left_so (IsFree w) (λ b. Owes w c.args.taken.pid.0 × (b.0 ≡ c.args.taken) × StopsBy w b.1) c.give-given.result c.unrecorded.result c.unrecorded.ensures
    (give_free k.shown h.editions_in v u e.0 x y (h.hall x) (h.hall y) (m.ties x) (m.ties y) e.1 found c.give-given.ensures.terms
    w c.leave.ensures.seat.1 c.args.taken c.args.out c.requires.owes c.give-given.result c.give-given.ensures.answers)
