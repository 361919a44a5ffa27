use Rattle.std.proofs.Common.{take}
use Rattle.hm_roll.specs.Parts.{Spells}
use Rattle.hm_roll.proofs.reading.add_parts.Given as goal

abbrev pub invariant-loop-number : goal.invariant-loop-number
invariant-loop-number l = Spells (take l.number l.frames) l.parts.items
