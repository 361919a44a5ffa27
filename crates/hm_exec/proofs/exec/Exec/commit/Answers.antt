use Rattle.std.proofs.Common.{refl}
use Rattle.hm_exec.proofs.exec.Exec.commit.Goals as goal

pub returns-in-Ok-Kept-clause-answers : goal.returns-in-Ok-Kept-clause-answers
returns-in-Ok-Kept-clause-answers g c = c.in-Ok-Kept.ensures.kept c.in-Ok-Kept.number c.in-Ok-Kept.field-0-is

pub returns-in-Ok-Stale-clause-answers : goal.returns-in-Ok-Stale-clause-answers
returns-in-Ok-Stale-clause-answers g c = (refl, c.in-Ok-Stale.ensures.stale c.in-Ok-Stale.now c.in-Ok-Stale.field-0-is)
