use Rattle.std.proofs.Common.{◌≡◌}
use Rattle.std.specs.Prelude.{option_map}
use Rattle.hm_lend.proofs.Calls.{lend_grows}
use Rattle.hm_workers.proofs.Staying.{front_on, lend_adds, lend_flushed, lend_goes, lend_may}
use Rattle.hm_workers.proofs.flushing.go_out.Goals as goal

pub leave-requires-clause-may : goal.leave-requires-clause-may
leave-requires-clause-may g c =
    let k = g.H.Kept in let h = g.H.Hall in let m = g.met.H.Hall in let v = c.args.seat.now.view in let u = c.enter-held.new.seat.view in
    let e = c.enter-held.ensures.seat.1 in let x = c.enter-held.result.value in let found = c.enter-held.ensures.found in
    let y = c.lend-out.new.self in
    lend_may k.shown h.editions_in v u e.0 x y (h.hall x) (h.hall y) (m.ties x) (m.ties y) e.1 found c.lend-out.ensures.terms
    (option_map g.H.Out.Writer.out c.lend-out.result) c.lend-out.ensures.answers

pub returns-clause-mine : goal.returns-clause-mine
returns-clause-mine g c =
    let k = g.H.Kept in let h = g.H.Hall in let m = g.met.H.Hall in let v = c.args.seat.now.view in let u = c.enter-held.new.seat.view in
    let e = c.enter-held.ensures.seat.1 in let x = c.enter-held.result.value in let found = c.enter-held.ensures.found in
    let y = c.lend-out.new.self in
    lend_adds k.shown h.editions_in v u e.0 x y (h.hall x) (h.hall y) (m.ties x) (m.ties y) e.1 found c.lend-out.ensures.terms
    c.leave.new.seat.view c.leave.ensures.seat.1 (option_map g.H.Out.Writer.out c.lend-out.result) c.lend-out.ensures.answers

pub returns-clause-goes : goal.returns-clause-goes
returns-clause-goes g c =
    let k = g.H.Kept in let h = g.H.Hall in let m = g.met.H.Hall in let v = c.args.seat.now.view in let u = c.enter-held.new.seat.view in
    let e = c.enter-held.ensures.seat.1 in let x = c.enter-held.result.value in let found = c.enter-held.ensures.found in
    let y = c.lend-out.new.self in
    lend_goes k.shown h.editions_in v u e.0 x y (h.hall x) (h.hall y) (m.ties x) (m.ties y) e.1 found c.lend-out.ensures.terms
    c.leave.new.seat.view c.leave.ensures.seat.1 g.H.Out.Writer.out (λ o. g.H.Out.Writer.since o ≡ h.faults x) c.lend-out.result c.requires.free c.lend-out.ensures.answers c.lend-out.ensures.out

pub returns-clause-front : goal.returns-clause-front
returns-clause-front g c =
    let k = g.H.Kept in let h = g.H.Hall in let m = g.met.H.Hall in let v = c.args.seat.now.view in let u = c.enter-held.new.seat.view in
    let e = c.enter-held.ensures.seat.1 in let x = c.enter-held.result.value in let found = c.enter-held.ensures.found in
    let y = c.lend-out.new.self in
    front_on k.shown h.hall v u c.leave.new.seat.view e.0 x y c.leave.ensures.seat.1 (h.hall x).editions 0 found
    (lend_grows k.shown h.editions_in x y (h.hall x) (h.hall y) (m.ties x) (m.ties y) c.lend-out.ensures.terms (option_map g.H.Out.Writer.out c.lend-out.result) c.lend-out.ensures.answers)

pub returns-clause-none : goal.returns-clause-none
returns-clause-none g c =
    let k = g.H.Kept in let h = g.H.Hall in let v = c.args.seat.now.view in let u = c.enter-held.new.seat.view in
    let e = c.enter-held.ensures.seat.1 in let x = c.enter-held.result.value in let y = c.lend-out.new.self in
    lend_flushed k.shown h.hall v u c.leave.new.seat.view e.0 x y c.leave.ensures.seat.1 g.H.Out.Writer.out c.lend-out.result v.front c.lend-out.ensures.answers
