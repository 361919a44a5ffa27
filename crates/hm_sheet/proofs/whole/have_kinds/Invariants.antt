use Rattle.std.proofs.Common.{◌≡◌, take, length, map}
use Rattle.hm_sheet.proofs.whole.have_kinds.Given as goal

abbrev pub invariant-loop-place : goal.invariant-loop-place
invariant-loop-place l = record {
  long : length l.sheets ≡ length l.kinds;
  same : take l.place (map (λ sheet. sheet.kind) l.sheets) ≡ take l.place l.kinds;
}
