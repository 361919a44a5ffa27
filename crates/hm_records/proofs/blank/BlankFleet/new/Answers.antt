use Rattle.hm_records.proofs.blank.BlankFleet.new.Goals as goal

pub returns : goal.returns
returns c = record { places = c.in_ok-places.ensures; servers = c.in_ok-servers.ensures }
