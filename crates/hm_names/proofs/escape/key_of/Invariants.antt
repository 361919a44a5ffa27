use Rattle.std.proofs.Common.{◌≡◌, ◌-◌, ◌≤◌, length, drop}
use Rattle.hm_names.specs.Keys.{spelled}
use Rattle.hm_names.proofs.Keys.{with_front}
use Rattle.hm_names.proofs.escape.key_of.Given as goal

abbrev pub invariant-loop-at : goal.invariant-loop-at
invariant-loop-at l =
    (l.at ≤ length l.text) × (with_front l.key.items (spelled 0 l.at (drop l.at l.text)) ≡ spelled 0 0 l.text)

abbrev pub decreases-loop-at : goal.decreases-loop-at
decreases-loop-at l = length l.text - l.at
