use Rattle.std.proofs.Common.{◌≡◌, drop}
use Rattle.hm_sheet.specs.Learnt.{learnt_at}
use Rattle.hm_sheet.proofs.learnt.first_of.Given as goal

abbrev pub invariant-loop-edition : goal.invariant-loop-edition
invariant-loop-edition l = learnt_at (drop l.edition-index l.editions) l.number ≡ learnt_at l.editions l.number
