use Rattle.hm_records.proofs.blank.BlankRows.new.Goals as goal

pub returns : goal.returns
returns c = record { rows = c.in_ok-catalog.ensures; stacks = c.in_ok-stack.ensures }
