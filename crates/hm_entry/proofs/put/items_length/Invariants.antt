use Rattle.std.proofs.Common.{◌≡◌, ◌-◌, ◌^◌, length, min, take}
use Rattle.std.specs.List.{flat_map}
use Rattle.hm_entry.proofs.put.items_length.Given as goal

abbrev pub invariant-loop-x : goal.invariant-loop-x
invariant-loop-x g l = l.total ≡ min (length (flat_map g.T.Put.spell (take l.x-index l.items))) (2 ^ 64 - 1)
