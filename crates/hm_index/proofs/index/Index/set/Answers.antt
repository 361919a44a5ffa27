use Rattle.hm_index.proofs.index.Index.set.Goals as goal

pub returns-clause-came : goal.returns-clause-came
returns-clause-came g c = record { number = c.put-number.result; put = c.put-number.ensures.came }
