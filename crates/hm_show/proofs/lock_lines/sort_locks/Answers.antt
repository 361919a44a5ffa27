use Rattle.std.proofs.Common.{rules}
use Rattle.std.proofs.lemmas.Fn.{always_returns_same}
use Rattle.std.proofs.lemmas.Result.{on_ok_weaker}
use Rattle.hm_show.proofs.LockOrder.{is_below, order, sorted_once}
use Rattle.hm_show.proofs.lock_lines.sort_locks.Goals as goal

pub returns : goal.returns
returns c =
    on_ok_weaker c.sort_by.result
    (λ sorted. sorted_once c.args.locks.now.items c.sort_by.new.self.items
    (sorted is_below order (always_returns_same _ _ _ (λ a r f k. search rules)))
    (c.sort_by.ensures.stable is_below order (always_returns_same _ _ _ (λ a r f k. search rules))))
    c.sort_by.ensures.sorted
