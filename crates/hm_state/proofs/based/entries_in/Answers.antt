use Rattle.std.proofs.Common.{◌∙◌, ap}
use Rattle.hm_state.proofs.Heads.{said, said_is}
use Rattle.hm_state.proofs.based.entries_in.Goals as goal

pub returns-in-Some-clause-count : goal.returns-in-Some-clause-count
returns-in-Some-clause-count c = c.said_by.ensures ∙ ap said c.in-Some.ensures.value ∙ (said_is c.args.parts.now c.requires).0

pub returns-in-Some-clause-few : goal.returns-in-Some-clause-few
returns-in-Some-clause-few c = rw (c.said_by.ensures ∙ ap said c.in-Some.ensures.value) (said_is c.args.parts.now c.requires).1
