use Rattle.std.proofs.Common.{◌≡◌, drop}
use Rattle.hm_model.specs.Checks.{is_chain}
use Rattle.hm_views.proofs.merges.is_chain.Given as goal

abbrev pub invariant-loop-part : goal.invariant-loop-part
invariant-loop-part l = is_chain l.before (drop l.part-index l.parts) ≡ is_chain l.fn.first l.parts
