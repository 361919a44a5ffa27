use Rattle.hm_script.proofs.printing.put_lone_number.Goals as goal

pub returns-clause-fit : goal.returns-clause-fit
returns-clause-fit c least most from small = (c.in_ok-put_number.ensures.read_back least most from small, tt)
