use Rattle.std.proofs.Common.{◌∙◌}
use Rattle.hm_clock.proofs.Clocks.{set_tells}
use Rattle.hm_clock.proofs.clock.Clock.is_set.Goals as goal

pub returns : goal.returns
returns c = c.is_some.ensures ∙ set_tells c.args.self.now.set c.args.pid.0 c.due_of.result c.due_of.ensures.due
