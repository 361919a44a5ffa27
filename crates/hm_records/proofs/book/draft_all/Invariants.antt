use Rattle.std.proofs.Common.{◌≡◌, map, take}
use Rattle.hm_locks.specs.Book.{above_child}
use Rattle.hm_records.specs.Book.{draft_of}
use Rattle.hm_records.proofs.book.draft_all.Given as goal

abbrev pub invariant-loop-args : goal.invariant-loop-args
invariant-loop-args l = l.drafts.items ≡ map (draft_of (above_child l.book.rows l.parent)) (take l.args-index l.made)
