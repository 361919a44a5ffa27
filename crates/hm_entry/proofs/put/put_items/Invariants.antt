use Rattle.std.proofs.Common.{take}
use Rattle.std.specs.List.{All, flat_map}
use Rattle.hm_wire.specs.Room.{Puts}
use Rattle.hm_entry.proofs.put.put_items.Given as goal

abbrev pub invariant-loop-x : goal.invariant-loop-x
invariant-loop-x g l =
    Puts l.fn.out (flat_map g.T.Put.spell (take l.x-index l.items)) l.out × All g.T.Put.fits (take l.x-index l.items)
