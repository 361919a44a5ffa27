use Rattle.hm_locks.proofs.Ties.{free_is_free}
use Rattle.hm_locks.proofs.laws.free_in_book_is_free.Goals as goal

pub returns : goal.returns
returns c = free_is_free
