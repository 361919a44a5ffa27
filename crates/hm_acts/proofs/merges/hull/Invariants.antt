use Rattle.std.proofs.Common.{◌≡◌, drop}
use Rattle.hm_model.specs.Checks.{hull}
use Rattle.hm_acts.proofs.merges.hull.Given as goal

abbrev pub invariant-loop-part : goal.invariant-loop-part
invariant-loop-part l = hull (record { start = l.first.start; end = l.end }) (drop l.part-index l.parts) ≡ hull l.first l.parts
