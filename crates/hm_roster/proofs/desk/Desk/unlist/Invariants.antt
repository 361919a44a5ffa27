use Rattle.std.proofs.Common.{◌≡◌, ◌+◌, ◌<◌, ◌≤◌, ℕ, None}
use Rattle.hm_locks.specs.Book.{row_of}
use Rattle.hm_model.specs.Tree.{made}
use Rattle.hm_roster.specs.Desk.{IsSameButBook}
use Rattle.hm_roster.specs.Roster.{rows_on}
use Rattle.hm_roster.proofs.desk.Desk.unlist.Given as goal

abbrev pub invariant-loop-place : goal.invariant-loop-place
invariant-loop-place l = record {
  same : IsSameButBook l.fn.self l.self;
  kept : (p : ℕ) → p ≤ made l.records.past → row_of (rows_on l.self) p ≡ row_of (rows_on l.fn.self) p;
  gone : (p : ℕ) → made l.records.past < p → p ≤ made l.records.past + l.place → row_of (rows_on l.self) p ≡ None;
  rest : (p : ℕ) → made l.records.past + l.place < p → row_of (rows_on l.self) p ≡ row_of (rows_on l.fn.self) p;
}
