use Rattle.hm_clock.proofs.Clocks.{due_of_pid, one_due, pids_known}
use Rattle.hm_clock.proofs.clock.Clock.due_of.Goals as goal

pub returns-clause-due : goal.returns-clause-due
returns-clause-due c =
    due_of_pid c.args.self.now c.self.inside.wheel c.self.inside.low c.self.inside.wait c.self.view_is c.self.invariant c.due_of.ensures.known c.args.pid.0 c.place_of.result.0 (record { known = c.place_of.ensures.known; below = c.place_of.ensures.below }) c.due_of.result c.due_of.ensures.due

pub returns-clause-one : goal.returns-clause-one
returns-clause-one c = one_due c.args.self.now c.self.inside.wheel c.self.inside.low c.self.inside.wait c.self.view_is c.due_of.ensures.one

pub returns-clause-known : goal.returns-clause-known
returns-clause-known c = pids_known c.args.self.now c.self.inside.wheel c.self.inside.low c.self.inside.wait c.self.view_is c.due_of.ensures.known
