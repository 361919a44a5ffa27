use Rattle.std.proofs.Common.{◌≡◌, ◌≤◌, ◌+◌, drop}
use Rattle.hm_sheet.specs.Words.{count_of}
use Rattle.hm_sheet.proofs.among.count_in.Given as goal

abbrev pub invariant-loop-valid : goal.invariant-loop-valid
invariant-loop-valid l = record {
  all : l.count + count_of (drop l.valid-index l.sheets) l.kind ≡ count_of l.sheets l.kind;
  few : l.count ≤ l.valid-index;
}
