use Rattle.std.proofs.Common.{◌≡◌, take}
use Rattle.hm_views.proofs.pieces.key_copies.Given as goal

abbrev pub invariant-loop-key : goal.invariant-loop-key
invariant-loop-key l = l.copied.items ≡ take l.key-index l.keys
