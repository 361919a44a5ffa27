use Rattle.std.proofs.Common.{arith}
use Rattle.hm_journal.proofs.Halves.{ended_at, refused_at}
use Rattle.hm_journal.proofs.Places.{none_read}
use Rattle.hm_journal.proofs.based.illegal_at.Goals as goal

pub returns-then-number-count : goal.returns-then-number-count
returns-then-number-count c parts sheets entries ends same spells =
    ended_at sheets c.args.frames.now parts entries ends.leading spells c.args.number ends (omega (arith, c.count.ensures.count, c.if-number-count.true)) same

pub returns-in-Ok : goal.returns-in-Ok
returns-in-Ok c parts sheets entries ends same spells =
    let rule = c.rule_behind-rule in
    refused_at sheets c.args.frames.now parts entries ends.leading spells c.args.number rule.result c.in-Ok.entry ends c.in-Ok.ensures.entry same rule.ensures.part rule.ensures.other

pub returns-in-Err : goal.returns-in-Err
returns-in-Err c parts sheets entries ends same spells = none_read sheets c.args.frames.now entries c.args.number c.in-Err.why spells c.in-Err.ensures.why
