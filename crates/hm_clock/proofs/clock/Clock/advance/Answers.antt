use Rattle.std.proofs.Common.{rules, ◌∙◌, ap, arith, length, map, ◌++◌}
use Rattle.hm_timer.specs.Timers.{due_after, due_by, pid_of}
use Rattle.hm_clock.specs.Clock.{ClockView, raised}
use Rattle.hm_clock.proofs.Clocks.{pids_known, woken_are, woken_fit}
use Rattle.hm_clock.proofs.Raised.{length-raised, raised-due_after, raised-due_by}
use Rattle.hm_clock.proofs.clock.Clock.advance.Goals as goal

pub turn_back-requires-clause-fits : goal.turn_back-requires-clause-fits
turn_back-requires-clause-fits g c =
    woken_fit c.self.inside.low c.args.to c.len-from.result c.args.woken.now.items c.advance.new.woken.items c.self.inside.wheel.set (search rules) c.advance.ensures.woken c.self.inside.wheel.spare c.advance.ensures.known c.self.invariant.fits

pub returns-clause-set : goal.returns-clause-set
returns-clause-set g c =
    ap (raised c.self.inside.low) c.advance.ensures.set ∙ raised-due_after c.self.inside.low c.args.to c.self.inside.wheel.set ∙ ap (λ (v : ClockView). due_after c.args.to v.set) c.self.view_is

pub returns-clause-woken : goal.returns-clause-woken
returns-clause-woken g c =
    woken_are c.self.inside.low c.args.to c.len-from.result c.args.woken.now.items c.advance.new.woken.items c.self.inside.wheel.set (search rules) c.advance.ensures.woken c.turn_back.new.woken.items c.turn_back.ensures.items
    ∙ ap (λ (v : ClockView). c.args.woken.now.items ++ map pid_of (due_by c.args.to v.set)) c.self.view_is

pub returns-clause-steps : goal.returns-clause-steps
returns-clause-steps g c =
    let same = ap (λ (v : ClockView). length (due_by c.args.to v.set)) c.self.view_is in
    let raises = ap length (raised-due_by c.self.inside.low c.args.to c.self.inside.wheel.set) in
    let long = length-raised c.self.inside.low (due_by c.args.to c.self.inside.wheel.set) in
    let steps = c.advance.ensures.steps in omega (arith, same, raises, long, steps)

pub returns-clause-known : goal.returns-clause-known
returns-clause-known g c = pids_known c.args.self.now c.self.inside.wheel c.self.inside.low c.self.inside.wait c.self.view_is c.advance.ensures.known
