use Rattle.std.proofs.Common.{◌≡◌, [], drop}
use Rattle.hm_model.specs.Requests.{rise}
use Rattle.hm_catalog.proofs.requests.are_rising.Given as goal

abbrev pub invariant-loop-key : goal.invariant-loop-key
invariant-loop-key l = rise [] l.keys ≡ rise l.before (drop l.key-index l.keys)
