use Rattle.std.proofs.Common.{◌≡◌, length}
use Rattle.hm_rows_workers.proofs.Telling.{AllWait}
use Rattle.hm_rows_workers.proofs.toy.Toy.new.Given as goal

abbrev pub invariant-loop : goal.invariant-loop
invariant-loop l = record {
  all : AllWait l.stages.items;
  long : length l.stages.items ≡ l.counter;
}
