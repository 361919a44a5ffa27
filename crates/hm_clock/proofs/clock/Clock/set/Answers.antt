use Rattle.hm_clock.proofs.Clocks.{place_out, set_is}
use Rattle.hm_clock.proofs.clock.Clock.set.Goals as goal

pub set-requires-clause-out : goal.set-requires-clause-out
set-requires-clause-out c = place_out c.args.self.now c.self.inside.wheel c.self.inside.low c.self.inside.wait c.self.view_is c.args.pid.0 c.place_of.result.0 (record { known = c.place_of.ensures.known; below = c.place_of.ensures.below }) c.requires.known c.requires.out

pub returns : goal.returns
returns c =
    set_is c.args.self.now c.self.inside.wheel c.self.inside.low c.self.inside.wait c.self.view_is c.set.new.self c.args.pid.0 c.place_of.result.0 c.args.due (record { known = c.place_of.ensures.known; below = c.place_of.ensures.below }) c.requires.known c.set.ensures.set c.set.ensures.now c.set.ensures.spare c.set.ensures.memory
