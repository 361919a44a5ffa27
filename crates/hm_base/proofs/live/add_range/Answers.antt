use Rattle.hm_base.proofs.live.add_range.Goals as goal

pub returns : goal.returns
returns c = rw (c.in_ok-range.ensures, c.reserve.ensures.ranges) at c.add.ensures.among
