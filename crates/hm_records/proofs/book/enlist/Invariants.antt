use Rattle.std.proofs.Common.{◌≡◌, ◌+◌, ◌≤◌, ℕ, length}
use Rattle.hm_locks.specs.Book.{row_of}
use Rattle.hm_records.specs.Book.{asks_in, or_drafted}
use Rattle.hm_records.proofs.book.enlist.Given as goal

abbrev pub invariant-loop-draft : goal.invariant-loop-draft
invariant-loop-draft l = record {
  rows : (p : ℕ) → row_of l.book.rows p ≡ or_drafted l.last l.yielded p (row_of l.fn.book.rows p);
  pid : l.pid ≡ l.last + length l.yielded;
  spare : l.fn.book.spare ≤ l.book.spare + length l.yielded;
  asks : l.fn.book.spare_asks ≤ l.book.spare_asks + asks_in l.yielded;
  room : l.book.room ≡ l.fn.book.room;
}
