use Rattle.std.proofs.Common.{◌≡◌, length}
use Rattle.hm_model.specs.Requests.{are_siblings}
use Rattle.hm_catalog.proofs.requests.are_siblings.Given as goal

abbrev pub invariant-loop-rest : goal.invariant-loop-rest
invariant-loop-rest l = are_siblings l.rest ≡ are_siblings l.regions

abbrev pub decreases-loop-rest : goal.decreases-loop-rest
decreases-loop-rest l = length l.rest
