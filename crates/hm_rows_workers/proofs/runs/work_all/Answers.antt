use Rattle.std.proofs.Common.{length, drop, arith}
use Rattle.std.proofs.lemmas.Grind.{common_steps}
use Rattle.std.proofs.lemmas.List.{take_at}
use Rattle.hm_rows_workers.proofs.runs.work_all.Goals as goal

pub join_all-runs-requires-clause-all : goal.join_all-runs-requires-clause-all
join_all-runs-requires-clause-all g c =
    let pairs = c.in_ok-pairs.pairs in let worked = c.work_each.new.pairs in
    rw (take_at worked (drop (length worked) pairs.items) pairs.len (grind (arith, common_steps, c.work_each.ensures.count, c.as_mut_slice.ensures.value, pairs.ok.0))) c.work_each.ensures.each
