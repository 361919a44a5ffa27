use Rattle.hm_terms.proofs.Travelling.{repeats_twice}
use Rattle.hm_terms.proofs.laws.repeats_count_twice_the_reports.Goals as goal

pub returns : goal.returns
returns c = repeats_twice
