use Rattle.hm_show.proofs.Holders.{holders_are}
use Rattle.hm_show.proofs.lock_lines.holders.Goals as goal

pub returns : goal.returns
returns c =
    holders_are c.args.records.now.past c.procedures-procedures.ensures.legal c.book.result.now.rows c.book.ensures.book
    _ c.names_order_by_parts.ensures.pids c.in_ok-holders.holders.items c.sort_unstable.new.self.items
    c.in_ok-holders.ensures c.sort_unstable.ensures.permutation c.sort_unstable.ensures.sorted
