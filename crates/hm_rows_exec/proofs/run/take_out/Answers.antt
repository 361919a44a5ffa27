use Rattle.hm_rows_exec.proofs.run.take_out.Goals as goal

pub returns-else-are_others : goal.returns-else-are_others
returns-else-are_others c at all = (c.taken_at-out.ensures at all).1
