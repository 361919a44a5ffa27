use Rattle.std.proofs.Common.{All, take}
use Rattle.hm_entry.specs.Fits.{KeyFits}
use Rattle.hm_frames.proofs.requests.keys_fit.Given as goal

abbrev pub invariant-loop-key : goal.invariant-loop-key
invariant-loop-key l = All KeyFits (take l.key-index l.keys)
