use Rattle.std.proofs.Common.{◌≡◌, drop}
use Rattle.hm_model.specs.Validity.{difference as differs}
use Rattle.hm_sheet.proofs.walk.difference.Given as goal

abbrev pub invariant-loop-place : goal.invariant-loop-place
invariant-loop-place l = differs (drop l.place l.rows) (drop l.place l.others) l.place ≡ differs l.rows l.others 0
