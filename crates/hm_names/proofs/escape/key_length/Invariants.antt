use Rattle.std.proofs.Common.{◌≡◌, ◌-◌, ◌≤◌, length, drop}
use Rattle.hm_names.specs.Keys.{spelled}
use Rattle.hm_names.specs.KeyLength.{sized}
use Rattle.hm_names.proofs.Keys.{added}
use Rattle.hm_names.proofs.escape.key_length.Given as goal

abbrev pub invariant-loop-at : goal.invariant-loop-at
invariant-loop-at l =
    (l.at ≤ length l.text) × (l.length ≤ l.at) × (added l.length (sized (spelled 0 l.at (drop l.at l.text))) ≡ sized (spelled 0 0 l.text))

abbrev pub decreases-loop-at : goal.decreases-loop-at
decreases-loop-at l = length l.text - l.at
