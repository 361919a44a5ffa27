use Rattle.std.proofs.Common.{◌≡◌, ◌+◌, drop}
use Rattle.hm_records.specs.Book.{asks_in}
use Rattle.hm_records.proofs.book.count_asks.Given as goal

abbrev pub invariant-loop-draft : goal.invariant-loop-draft
invariant-loop-draft l = l.count + asks_in (drop l.draft-index l.drafts) ≡ asks_in l.drafts
