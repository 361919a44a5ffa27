use Rattle.hm_records.proofs.blank.BlankCount.new.Goals as goal

pub returns : goal.returns
returns c = record { nonces = c.in_ok-nonces.ensures; drawn = c.in_ok-drawn.ensures }
