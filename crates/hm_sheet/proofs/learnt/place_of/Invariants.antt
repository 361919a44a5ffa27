use Rattle.std.proofs.Common.{◌≡◌, ◌+◌, drop}
use Rattle.hm_sheet.specs.Learnt.{place_in}
use Rattle.hm_sheet.proofs.learnt.place_of.Given as goal

abbrev pub invariant-loop-place : goal.invariant-loop-place
invariant-loop-place l = place_in l.editions l.number ≡ l.place + place_in (drop l.place l.editions) l.number
