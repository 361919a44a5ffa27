use Rattle.hm_records.proofs.blank.Blank.new.Goals as goal

pub returns : goal.returns
returns c = record { rows = c.in_ok-rows.ensures; fleet = c.in_ok-fleet.ensures; count = c.in_ok-count.ensures; book = c.in_ok-book.ensures }
