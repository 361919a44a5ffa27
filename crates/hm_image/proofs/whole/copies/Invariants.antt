use Rattle.std.proofs.Common.{◌≡◌, take}
use Rattle.hm_image.proofs.whole.copies.Given as goal

abbrev pub invariant-loop-valid : goal.invariant-loop-valid
invariant-loop-valid l =
    l.list.items ≡ take l.valid-index l.sheets
