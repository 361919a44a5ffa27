use Rattle.std.proofs.Common.{rules}
use Rattle.std.proofs.lemmas.Grind.{common_steps}
use Rattle.hm_log.specs.Format.{size_bytes}
use Rattle.hm_log.proofs.moving.lay_open.Goals as goal

pub returns-clause-laid : goal.returns-clause-laid
unfolding size_bytes
returns-clause-laid c = search (rules, common_steps)
