use Rattle.std.proofs.Common.{◌≡◌, map, take}
use Rattle.hm_acts.proofs.merges.ids_of.Given as goal

abbrev pub invariant-loop-part : goal.invariant-loop-part
invariant-loop-part l = l.ids.items ≡ map (λ p. p.id) (take l.part-index l.parts)
