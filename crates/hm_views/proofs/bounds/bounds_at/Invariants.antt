use Rattle.std.proofs.Common.{◌≡◌, [], ◌∷◌, take}
use Rattle.hm_views.proofs.bounds.bounds_at.Given as goal

abbrev pub invariant-loop-key : goal.invariant-loop-key
invariant-loop-key l = l.bounds.items ≡ [] ∷ take l.key-index l.keys
