use Rattle.hm_fleet.specs.Fleet.{outside_of}
use Rattle.hm_world.specs.Sound.{HaveDueBelow}
use Rattle.hm_world.proofs.opening.all_due.Given as goal

abbrev pub invariant-loop-pid : goal.invariant-loop-pid
invariant-loop-pid l = record { below : HaveDueBelow l.state.past (outside_of l.fleet) l.pid l.numbers.items }
