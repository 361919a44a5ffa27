use Rattle.hm_workers.proofs.Owing.{same_terms}
use Rattle.hm_workers.proofs.Staying.{may_return, return_adds, return_fault, return_flushed, return_free, return_may}
use Rattle.hm_workers.proofs.flushing.come_back.Goals as goal

pub back-back-requires-clause-may : goal.back-back-requires-clause-may
back-back-requires-clause-may g c =
    let k = g.H.Kept in let h = g.H.Hall in let m = g.met.H.Hall in let v = c.args.seat.now.view in
    let x = c.enter-held.result.value in let found = c.enter-held.ensures.found in
    may_return k.shown h.editions_in v x (h.hall x) (m.ties x) found (g.H.Out.Writer.out c.args.out) c.requires.log c.requires.written

pub back-back-requires-clause-terms : goal.back-back-requires-clause-terms
back-back-requires-clause-terms g c =
    let k = g.H.Kept in let h = g.H.Hall in let m = g.met.H.Hall in let v = c.args.seat.now.view in
    let x = c.enter-held.result.value in let found = c.enter-held.ensures.found in
    same_terms k.shown v x found (g.H.Out.Writer.out c.args.out) c.requires.log

pub leave-requires-clause-may : goal.leave-requires-clause-may
leave-requires-clause-may g c =
    let k = g.H.Kept in let h = g.H.Hall in let m = g.met.H.Hall in let v = c.args.seat.now.view in let u = c.enter-held.new.seat.view in
    let e = c.enter-held.ensures.seat.1 in let x = c.enter-held.result.value in let found = c.enter-held.ensures.found in
    let y = c.back-back.new.self in
    return_may k.shown h.editions_in v u e.0 x y (h.hall x) (h.hall y) (m.ties x) (m.ties y) e.1 found c.back-back.ensures.terms
    (g.H.Out.Writer.out c.args.out) c.requires.log.owes c.back-back.result c.back-back.ensures.answers

pub returns-clause-mine : goal.returns-clause-mine
returns-clause-mine g c =
    let k = g.H.Kept in let h = g.H.Hall in let m = g.met.H.Hall in let v = c.args.seat.now.view in let u = c.enter-held.new.seat.view in
    let e = c.enter-held.ensures.seat.1 in let x = c.enter-held.result.value in let found = c.enter-held.ensures.found in
    let y = c.back-back.new.self in
    return_adds k.shown h.editions_in v u e.0 x y (h.hall x) (h.hall y) (m.ties x) (m.ties y) e.1 found c.back-back.ensures.terms
    c.leave.new.seat.view c.leave.ensures.seat.1 (g.H.Out.Writer.out c.args.out) c.back-back.result c.back-back.ensures.answers

pub returns-clause-free : goal.returns-clause-free
returns-clause-free g c =
    let k = g.H.Kept in let h = g.H.Hall in let m = g.met.H.Hall in let v = c.args.seat.now.view in let u = c.enter-held.new.seat.view in
    let e = c.enter-held.ensures.seat.1 in let x = c.enter-held.result.value in let found = c.enter-held.ensures.found in
    let y = c.back-back.new.self in
    return_free k.shown h.editions_in v u e.0 x y (h.hall x) (h.hall y) (m.ties x) (m.ties y) e.1 found c.back-back.ensures.terms
    c.leave.new.seat.view c.leave.ensures.seat.1 (g.H.Out.Writer.out c.args.out) c.requires.log.owes c.back-back.result c.back-back.ensures.answers

pub returns-clause-fault : goal.returns-clause-fault
returns-clause-fault g c =
    let k = g.H.Kept in let h = g.H.Hall in let m = g.met.H.Hall in let v = c.args.seat.now.view in let u = c.enter-held.new.seat.view in
    let e = c.enter-held.ensures.seat.1 in let x = c.enter-held.result.value in let found = c.enter-held.ensures.found in
    let y = c.back-back.new.self in
    return_fault k.shown h.editions_in v u e.0 x y (h.hall x) (h.hall y) (m.ties x) (m.ties y) e.1 found c.back-back.ensures.terms
    c.leave.new.seat.view c.leave.ensures.seat.1 (g.H.Out.Writer.out c.args.out) c.back-back.result c.back-back.ensures.answers

pub returns-clause-flushed : goal.returns-clause-flushed
returns-clause-flushed g c =
    let k = g.H.Kept in let h = g.H.Hall in let v = c.args.seat.now.view in let u = c.enter-held.new.seat.view in
    let e = c.enter-held.ensures.seat.1 in let x = c.enter-held.result.value in let y = c.back-back.new.self in
    return_flushed k.shown h.hall v u c.leave.new.seat.view e.0 x y c.leave.ensures.seat.1 (g.H.Out.Writer.out c.args.out) c.back-back.result c.requires.log c.back-back.ensures.answers
