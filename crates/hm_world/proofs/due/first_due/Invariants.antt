use Rattle.std.proofs.Common.{length}
use Rattle.hm_fleet.specs.Fleet.{outside_of}
use Rattle.hm_world.specs.Sound.{HaveDue}
use Rattle.hm_world.proofs.due.first_due.Given as goal

abbrev pub invariant-loop-number : goal.invariant-loop-number
invariant-loop-number l = record { have : HaveDue l.state.past (outside_of l.fleet) l.due.items }

abbrev pub decreases-loop-number : goal.decreases-loop-number
decreases-loop-number l = length l.due.items
