use Rattle.std.proofs.Common.{◌≡◌, length}
use Rattle.hm_server.specs.Actors.{held_in}
use Rattle.hm_server.proofs.held.next_held.Given as goal

abbrev pub invariant-loop-region : goal.invariant-loop-region
invariant-loop-region l = held_in l.duties ≡ held_in l.fn.duties

abbrev pub decreases-loop-region : goal.decreases-loop-region
decreases-loop-region l = length l.duties
