use Rattle.std.proofs.Common.{◌≡◌, take, length}
use Rattle.hm_judge.proofs.adopts.are_same.Given as goal

abbrev pub invariant-loop-place : goal.invariant-loop-place
invariant-loop-place l = record {
  long : length l.sheets ≡ length l.others;
  same : take l.place l.sheets ≡ take l.place l.others;
}
