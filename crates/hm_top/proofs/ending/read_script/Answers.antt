use Rattle.std.proofs.Common.{Err, ap}
use Rattle.hm_top.proofs.Scripts.{refused_long, some_long}
use Rattle.hm_top.proofs.ending.read_script.Goals as goal

pub returns-in-Err-TooLong-clause-refusal : goal.returns-in-Err-TooLong-clause-refusal
returns-in-Err-TooLong-clause-refusal g c bad e = (some_long.0, refused_long some_long.0 some_long.1 bad e)

pub returns-in-Err-TooLong-clause-bad : goal.returns-in-Err-TooLong-clause-bad
returns-in-Err-TooLong-clause-bad g c told bad e = refused_long (g.S.Source.left c.args.script.now) (c.in-Err-TooLong.ensures.too_long told (ap Err c.in-Err-TooLong.field-0-is)) bad e
