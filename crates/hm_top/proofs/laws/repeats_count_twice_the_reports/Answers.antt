use Rattle.hm_top.proofs.Repeats.{runs_repeat}
use Rattle.hm_top.proofs.laws.repeats_count_twice_the_reports.Goals as goal

pub returns : goal.returns
returns c = runs_repeat
